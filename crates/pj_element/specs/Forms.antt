-- Which cell spells which pattern. What a cell spells need not be in normal form.
use Rattle.std.specs.Prelude.{ℕ, Bool, false, ◌==◌, ◌&&◌, List, [], ◌∷◌, Option, Some, None, if◌then◌else◌}
use Rattle.std.specs.Option.{option_map}
use Rattle.pj_value.specs.declared.values.Value.{Value}
use Rattle.pj_value.specs.Options.{with_first, both}
use Rattle.pj_line.specs.declared.quote.Quote.{Quote}
use Rattle.pj_line.specs.declared.quote.Quote.TheVariants.{Outside}
use Rattle.pj_line.specs.Lines.{onto}
use Rattle.pj_line.specs.Cells.{after, is_outside}
use Rattle.pj_pattern.specs.declared.pattern.Form.{Form}
use Rattle.pj_pattern.specs.declared.pattern.Form.TheVariants.{Wild, Constant, Range, Members}
use Rattle.pj_pattern.specs.Patterns.{is_of_one_kind}
use Rattle.pj_pattern.specs.Normal.{normal_of}
use Rattle.pj_element.specs.Spelled.{first_is, value_of}
use Rattle.pj_element.specs.declared.forms.Spelled.{Spelled}
use Rattle.pj_element.specs.declared.forms.Spelled.TheVariants.{Good, Mixed, Not}

-- the bytes before a last one, which is this one
abbrev pub before_last : ℕ → List ℕ → Option (List ℕ)
before_last close [] = None
before_last close (b ∷ []) = if b == close then Some [] else None
before_last close (b ∷ c ∷ bs) = with_first b (before_last close (c ∷ bs))

-- what stands between the vertical bars that are outside quotes
abbrev pub parts_from : Quote → List ℕ → List (List ℕ)
parts_from q [] = [] ∷ []
parts_from q (b ∷ bs) = if is_outside q && (b == 124) then [] ∷ parts_from q bs else onto b (parts_from (after q b) bs)

-- the values that these cells spell
abbrev pub values_of : List (List ℕ) → Option (List Value)
values_of [] = Some []
values_of (c ∷ cs) = both (value_of c) (values_of cs)

-- the list whose members stand between braces
abbrev pub members_of : List ℕ → Option Form
members_of [] = Some (Members [])
members_of (b ∷ bs) = option_map Members (values_of (parts_from Outside (b ∷ bs)))

abbrev pub without_first : List ℕ → List ℕ
without_first [] = []
without_first (b ∷ bs) = bs

-- the byte goes to the front of the first of two parts
abbrev pub onto_first : ℕ → Option (List ℕ × List ℕ) → Option (List ℕ × List ℕ)
onto_first b None = None
onto_first b (Some (front, back)) = Some (b ∷ front, back)

-- what stands before and behind the first two dots that are outside quotes
abbrev pub ends_from : Quote → List ℕ → Option (List ℕ × List ℕ)
ends_from q [] = None
ends_from q (b ∷ bs) =
    if is_outside q && ((b == 46) && first_is 46 bs) then Some ([], without_first bs)
    else onto_first b (ends_from (after q b) bs)

-- an end of a range: a value, or nothing
abbrev pub end_of : List ℕ → Option (Option Value)
end_of [] = Some None
end_of (b ∷ bs) = option_map Some (value_of (b ∷ bs))

abbrev pub both_ends : Option (Option Value) → Option (Option Value) → Option Form
both_ends None high = None
both_ends (Some low) None = None
both_ends (Some low) (Some high) = Some (Range low high)

-- the range whose ends these bytes are
abbrev pub range_in : Option (List ℕ × List ℕ) → Option Form
range_in None = None
range_in (Some (low, high)) = both_ends (end_of low) (end_of high)

abbrev pub braced : Option (List ℕ) → Option Form
braced None = None
braced (Some inner) = members_of inner

abbrev pub bracketed : Option (List ℕ) → Option Form
bracketed None = None
bracketed (Some inner) = range_in (ends_from Outside inner)

-- the star of a wildcard alone
abbrev pub is_star : ℕ → List ℕ → Bool
is_star b [] = b == 42
is_star b (c ∷ cs) = false

-- the pattern that a cell spells: `*`, `{..}`, `[..]` or a value
abbrev pub form_of : List ℕ → Option Form
form_of [] = None
form_of (b ∷ bs) =
    if b == 123 then braced (before_last 125 bs)
    else (if b == 91 then bracketed (before_last 93 bs)
    else (if is_star b bs then Some Wild
    else option_map Constant (value_of (b ∷ bs))))

-- what a cell spells, in normal form, where its values are of one kind
abbrev pub spelled_form : Option Form → Spelled
spelled_form None = Not
spelled_form (Some form) = if is_of_one_kind form then Good (normal_of form) else Mixed

abbrev pub pattern_of : List ℕ → Spelled
pattern_of cell = spelled_form (form_of cell)
