-- What two patterns have in common.
use Rattle.std.specs.Prelude.{Bool, true, false, List, [], ◌∷◌, Option, Some, None, if◌then◌else◌}
use Rattle.std.specs.Ordering.{is_gt}
use Rattle.pj_value.specs.declared.values.Value.{Value}
use Rattle.pj_value.specs.Values.{value_cmp}
use Rattle.pj_pattern.specs.declared.pattern.Form.TheVariants.{Wild, Empty, Constant, Range, Members}
use Rattle.pj_pattern.specs.Patterns.{Pattern, matches_value}
use Rattle.pj_pattern.specs.Normal.{of_members, range_of}

-- those of these values that the pattern matches
abbrev pub matched : Pattern → List Value → List Value
matched p [] = []
matched p (v ∷ vs) = if matches_value p v then v ∷ matched p vs else matched p vs

-- the constant, where the pattern matches it
abbrev pub constant_if : Bool → Value → Pattern
constant_if true v = Constant v
constant_if false v = Empty

-- the greater of two low ends
abbrev pub later_low : Option Value → Option Value → Option Value
later_low None other = other
later_low (Some v) None = Some v
later_low (Some v) (Some w) = if is_gt (value_cmp v w) then Some v else Some w

-- the smaller of two high ends
abbrev pub earlier_high : Option Value → Option Value → Option Value
earlier_high None other = other
earlier_high (Some v) None = Some v
earlier_high (Some v) (Some w) = if is_gt (value_cmp v w) then Some w else Some v

-- a range met with another pattern
abbrev pub range_met : Option Value → Option Value → Pattern → Pattern
range_met low high Wild = Range low high
range_met low high Empty = Empty
range_met low high (Constant c) = constant_if (matches_value (Range low high) c) c
range_met low high (Range from to) = range_of (later_low low from) (earlier_high high to)
range_met low high (Members ms) = of_members (matched (Range low high) ms)

-- the pattern, in normal form, that matches what both match
abbrev pub meet_of : Pattern → Pattern → Pattern
meet_of Wild q = q
meet_of Empty q = Empty
meet_of (Constant c) q = constant_if (matches_value q c) c
meet_of (Range low high) q = range_met low high q
meet_of (Members ms) q = of_members (matched q ms)
