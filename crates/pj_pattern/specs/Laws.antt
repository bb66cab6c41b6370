-- Laws of patterns, punctuations and lists of elements.
use Rattle.std.specs.Prelude.{◌≡◌, ◌↔◌, true, false, ◌&&◌, List, ◌∷◌, ◌++◌, length}
use Rattle.pj_value.specs.declared.values.Kind.{Kind}
use Rattle.pj_value.specs.declared.values.Value.{Value}
use Rattle.pj_value.specs.Lists.{In}
use Rattle.pj_value.specs.Values.{is_kind}
use Rattle.pj_pattern.specs.Patterns.{Pattern, matches_value, covers_pattern, is_of_kind, is_of_one_kind}
use Rattle.pj_value.specs.Storable.{IsInBounds}
use Rattle.pj_pattern.specs.Normal.{normal_of, IsNormal}
use Rattle.pj_pattern.specs.Meets.{meet_of}
use Rattle.pj_pattern.specs.Columns.{matches_row, covers_punct, widen_of}
use Rattle.pj_pattern.specs.declared.element.Element.{Element}
use Rattle.pj_pattern.specs.declared.element.Element.TheVariants.{Tuple, Punct}
use Rattle.pj_pattern.specs.Elements.{IsLawful}

-- on values of its kind, integers being those of 64 bits, a pattern and its normal form match the same
abbrev pub NormalMatchesSame : Type 0
NormalMatchesSame = (kind : Kind) (p : Pattern) (v : Value)
    → is_of_kind kind p ≡ true → is_kind kind v ≡ true → IsInBounds v → matches_value (normal_of p) v ≡ matches_value p v

-- the normal form of a pattern with values of one kind is in normal form
abbrev pub NormalIsNormal : Type 0
NormalIsNormal = (p : Pattern) → is_of_one_kind p ≡ true → IsNormal (normal_of p)

-- the values in a normal form are of the kinds of those in the pattern
abbrev pub NormalKeepsKind : Type 0
NormalKeepsKind = (kind : Kind) (p : Pattern) → is_of_kind kind p ≡ true → is_of_kind kind (normal_of p) ≡ true

-- a pattern that covers another matches all that the other matches
abbrev pub CoveredIsMatched : Type 0
CoveredIsMatched = (p q : Pattern) (v : Value) → covers_pattern p q ≡ true → matches_value q v ≡ true → matches_value p v ≡ true

-- the same of punctuations and rows
abbrev pub CoveredRowIsMatched : Type 0
CoveredRowIsMatched = (p q : List Pattern) (row : List Value) → covers_punct p q ≡ true → matches_row q row ≡ true → matches_row p row ≡ true

-- the meet of two normal forms of one kind is one, and matches exactly what both match
abbrev pub MeetMatchesBoth : Type 0
MeetMatchesBoth = (kind : Kind) (p q : Pattern) → is_of_kind kind p ≡ true → is_of_kind kind q ≡ true → IsNormal p → IsNormal q
    → IsNormal (meet_of p q) × ((v : Value) → matches_value (meet_of p q) v ≡ (matches_value p v && matches_value q v))

-- wildcards in front and behind match whatever values stand there
abbrev pub WidenedMatches : Type 0
WidenedMatches = (front row back : List Value) (punct : List Pattern)
    → matches_row (widen_of (length front) (length back) punct) (front ++ row ++ back) ≡ matches_row punct row

-- a list is lawful exactly where no row behind a punctuation matches it
abbrev pub LawfulByPosition : Type 0
LawfulByPosition = (es : List Element) → IsLawful es ↔ ((front back : List Element) (punct : List Pattern) (row : List Value)
    → es ≡ front ++ Punct punct ∷ back → In (Tuple row) back → matches_row punct row ≡ false)
