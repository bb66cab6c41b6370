-- What a pattern stands for: which values it matches, and which patterns it covers (Tucker et al. 2003).
use Rattle.std.specs.Prelude.{Bool, true, false, not, ◌&&◌, ◌||◌, List, [], ◌∷◌, Option, Some, None}
use Rattle.std.specs.Ordering.{is_gt}
use Rattle.pj_value.specs.declared.values.Kind.{Kind}
use Rattle.pj_value.specs.declared.values.Kind.TheVariants.{Int as IntKind, Text as TextKind}
use Rattle.pj_value.specs.declared.values.Value.{Value}
use Rattle.pj_value.specs.declared.values.Value.TheVariants.{Int, Text}
use Rattle.pj_value.specs.Values.{is_kind, value_cmp, value_eq}
use Rattle.pj_pattern.specs.declared.pattern.Form.{Form}
use Rattle.pj_pattern.specs.declared.pattern.Form.TheVariants.{Wild, Empty, Constant, Range, Members}

-- what a contract sees of a pattern; it need not be in normal form
abbrev pub Pattern : Type 0
Pattern = Form

abbrev pub same_kind : Value → Value → Bool
same_kind (Int m) (Int n) = true
same_kind (Int m) (Text y) = false
same_kind (Text x) (Int n) = false
same_kind (Text x) (Text y) = true

-- both are of one kind, and the first is not above the second
abbrev pub up_to : Value → Value → Bool
up_to low high = same_kind low high && not (is_gt (value_cmp low high))

-- the value is not below this end of a range; an end that is missing is no bound
abbrev pub is_from : Option Value → Value → Bool
is_from None v = true
is_from (Some low) v = up_to low v

-- the value is not above this end of a range
abbrev pub is_to : Option Value → Value → Bool
is_to None v = true
is_to (Some high) v = up_to v high

-- the value is one of these
abbrev pub has_value : List Value → Value → Bool
has_value [] v = false
has_value (m ∷ ms) v = value_eq m v || has_value ms v

-- a wildcard matches every value and an empty pattern none, a constant its equal, a range the values of its ends' kind
-- from its low end to its high end, and a list its members
abbrev pub matches_value : Pattern → Value → Bool
matches_value Wild v = true
matches_value Empty v = false
matches_value (Constant c) v = value_eq c v
matches_value (Range low high) v = is_from low v && is_to high v
matches_value (Members ms) v = has_value ms v

abbrev pub matches_all : Pattern → List Value → Bool
matches_all p [] = true
matches_all p (v ∷ vs) = matches_value p v && matches_all p vs

abbrev pub is_wild : Pattern → Bool
is_wild Wild = true
is_wild Empty = false
is_wild (Constant c) = false
is_wild (Range low high) = false
is_wild (Members ms) = false

-- the value that the pattern is alone
abbrev pub constant_in : Pattern → Option Value
constant_in Wild = None
constant_in Empty = None
constant_in (Constant c) = Some c
constant_in (Range low high) = None
constant_in (Members ms) = None

-- a low end is missing, or the other one is not below it
abbrev pub covers_low : Option Value → Option Value → Bool
covers_low None other = true
covers_low (Some low) None = false
covers_low (Some low) (Some other) = up_to low other

-- a high end is missing, or the other one is not above it
abbrev pub covers_high : Option Value → Option Value → Bool
covers_high None other = true
covers_high (Some high) None = false
covers_high (Some high) (Some other) = up_to other high

-- a range covers another where its ends do; nothing else but a wildcard covers a range
abbrev pub covers_range : Pattern → Option Value → Option Value → Bool
covers_range Wild low high = true
covers_range Empty low high = false
covers_range (Constant c) low high = false
covers_range (Range from to) low high = covers_low from low && covers_high to high
covers_range (Members ms) low high = false

-- by the second: an empty pattern is covered, a wildcard by a wildcard alone, a constant and the members of a list where
-- they are matched, a range by a range of its kind whose ends are no closer
abbrev pub covers_pattern : Pattern → Pattern → Bool
covers_pattern p Wild = is_wild p
covers_pattern p Empty = true
covers_pattern p (Constant c) = matches_value p c
covers_pattern p (Range low high) = covers_range p low high
covers_pattern p (Members ms) = matches_all p ms

-- ---- kinds

abbrev pub is_end_of_kind : Kind → Option Value → Bool
is_end_of_kind kind None = true
is_end_of_kind kind (Some v) = is_kind kind v

abbrev pub all_of_kind : Kind → List Value → Bool
all_of_kind kind [] = true
all_of_kind kind (v ∷ vs) = is_kind kind v && all_of_kind kind vs

-- the values that stand in the pattern are of this kind
abbrev pub is_of_kind : Kind → Pattern → Bool
is_of_kind kind Wild = true
is_of_kind kind Empty = true
is_of_kind kind (Constant c) = is_kind kind c
is_of_kind kind (Range low high) = is_end_of_kind kind low && is_end_of_kind kind high
is_of_kind kind (Members ms) = all_of_kind kind ms

-- the values that stand in the pattern are of one kind
abbrev pub is_of_one_kind : Pattern → Bool
is_of_one_kind p = is_of_kind IntKind p || is_of_kind TextKind p
