-- The normal form of a pattern.
use Rattle.std.specs.Prelude.{◌≡◌, List, [], ◌∷◌, Option, Some, None, if◌then◌else◌}
use Rattle.std.specs.declared.cmp.Ordering.{Ordering}
use Rattle.std.specs.declared.cmp.Ordering.TheVariants.{Less, Equal, Greater}
use Rattle.pj_value.specs.declared.values.Value.{Value}
use Rattle.pj_value.specs.declared.values.Value.TheVariants.{Int, Text}
use Rattle.pj_value.specs.Values.{value_cmp, value_eq}
use Rattle.pj_value.specs.Storable.{greatest_int, least_int}
use Rattle.pj_pattern.specs.declared.pattern.Form.TheVariants.{Wild, Empty, Constant, Range, Members}
use Rattle.pj_pattern.specs.Patterns.{Pattern}

-- ---- lists

abbrev pub insert_by : Ordering → Value → Value → List Value → List Value → List Value
insert_by Less v w ws more = v ∷ w ∷ ws
insert_by Equal v w ws more = w ∷ ws
insert_by Greater v w ws more = w ∷ more

-- a value goes to its place among values in order, unless it is there
abbrev pub insert : Value → List Value → List Value
insert v [] = v ∷ []
insert v (w ∷ ws) = insert_by (value_cmp v w) v w ws (insert v ws)

-- sorted and freed of repeats
abbrev pub sorted_set : List Value → List Value
sorted_set [] = []
sorted_set (v ∷ vs) = insert v (sorted_set vs)

-- a list with one member is that constant, one with none is empty
abbrev pub of_members : List Value → Pattern
of_members [] = Empty
of_members (v ∷ []) = Constant v
of_members (v ∷ w ∷ vs) = Members (v ∷ w ∷ vs)

-- ---- ranges

-- the least value of a value's kind
abbrev pub least_of : Value → Value
least_of (Int n) = Int least_int
least_of (Text bytes) = Text []

-- the greatest value of a value's kind, where there is one
abbrev pub greatest_of : Value → Option Value
greatest_of (Int n) = Some (Int greatest_int)
greatest_of (Text bytes) = None

-- a low end that is the least value becomes missing
abbrev pub low_end : Value → Option Value
low_end v = if value_eq v (least_of v) then None else Some v

abbrev pub unless_greatest : Value → Option Value → Option Value
unless_greatest v None = Some v
unless_greatest v (Some greatest) = if value_eq v greatest then None else Some v

-- a high end that is the greatest value becomes missing
abbrev pub high_end : Value → Option Value
high_end v = unless_greatest v (greatest_of v)

-- a range without ends is the wildcard
abbrev pub of_ends : Option Value → Option Value → Pattern
of_ends None None = Wild
of_ends None (Some high) = Range None (Some high)
of_ends (Some low) high = Range (Some low) high

abbrev pub by_order : Ordering → Value → Value → Pattern
by_order Less low high = of_ends (low_end low) (high_end high)
by_order Equal low high = Constant low
by_order Greater low high = Empty

-- where low is above high it is empty, where both are equal it is that constant
abbrev pub between : Value → Value → Pattern
between low high = by_order (value_cmp low high) low high

-- from a low end up to the greatest value, where there is one
abbrev pub from_low : Value → Option Value → Pattern
from_low low None = of_ends (low_end low) None
from_low low (Some greatest) = between low greatest

-- an end that is missing stands for the least or the greatest value of the other's kind
abbrev pub range_of : Option Value → Option Value → Pattern
range_of None None = Wild
range_of None (Some high) = between (least_of high) high
range_of (Some low) None = from_low low (greatest_of low)
range_of (Some low) (Some high) = between low high

-- ---- the normal form

abbrev pub normal_of : Pattern → Pattern
normal_of Wild = Wild
normal_of Empty = Empty
normal_of (Constant c) = Constant c
normal_of (Range low high) = range_of low high
normal_of (Members ms) = of_members (sorted_set ms)

-- nothing is left to do
abbrev pub IsNormal : Pattern → Type 0
IsNormal p = normal_of p ≡ p
