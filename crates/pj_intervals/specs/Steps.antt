-- Step functions over the values in order: what each has for a value, and two of them as one.
use Rattle.std.specs.Prelude.{◌≡◌, ◌<◌, ◌+◌, length, reverse, ℕ, Bool, true, false, not, List, [], ◌∷◌, Option, Some, None, if◌then◌else◌}
use Rattle.std.specs.Ordering.{is_gt}
use Rattle.std.specs.Option.{option_or}
use Rattle.pj_value.specs.declared.values.Value.{Value}
use Rattle.pj_value.specs.declared.values.Value.TheVariants.{Int, Text}
use Rattle.pj_value.specs.Values.{value_cmp}
use Rattle.pj_pattern.specs.declared.pattern.Form.TheVariants.{Wild, Empty, Constant, Range, Members}
use Rattle.pj_pattern.specs.Patterns.{Pattern, up_to}
use Rattle.pj_intervals.specs.declared.steps.Cut.{Cut}
use Rattle.pj_intervals.specs.declared.steps.Cut.TheVariants.{Start, Before, After}
use Rattle.pj_intervals.specs.declared.steps.Step.{Step}

-- the value stands above the cut
abbrev pub is_reached : Cut → Value → Bool
is_reached Start value = true
is_reached (Before cut) value = not (is_gt (value_cmp cut value))
is_reached (After cut) value = is_gt (value_cmp value cut)

-- every value above the second cut stands above the first
abbrev pub is_not_above : Cut → Cut → Bool
is_not_above Start other = true
is_not_above (Before cut) Start = false
is_not_above (Before cut) (Before other) = not (is_gt (value_cmp cut other))
is_not_above (Before cut) (After other) = not (is_gt (value_cmp cut other))
is_not_above (After cut) Start = false
is_not_above (After cut) (Before other) = is_gt (value_cmp other cut)
is_not_above (After cut) (After other) = not (is_gt (value_cmp cut other))

-- what a step function has for a value: what stands at the first of its cuts, from the highest down, that the value stands above
abbrev pub place_at : List Step → Value → Option ℕ
place_at [] value = None
place_at (s ∷ steps) value = if is_reached s.from value then s.place else place_at steps value

-- the value stands above each of these cuts
abbrev pub AreReached : Value → List Step → Type 0
AreReached value [] = Unit {0}
AreReached value (s ∷ steps) = (is_reached s.from value ≡ true) × AreReached value steps

-- above a cut that the value stands above, it stands above those behind it
abbrev pub IsParted : Value → List Step → Type 0
IsParted value [] = Unit {0}
IsParted value (s ∷ steps) = (is_reached s.from value ≡ true → AreReached value steps) × IsParted value steps

-- the cuts go down
abbrev pub IsSorted : List Step → Type 0
IsSorted steps = (value : Value) → IsParted value steps

-- from a cut on, the place of the first step, or else that of the second
abbrev pub joined : Cut → Step → Step → Step
joined from s t = record { from = from; place = option_or s.place t.place }

-- two step functions as one, which has what the first has, or else what the second has
abbrev pub merged : List Step → List Step → List Step
merged [] newer = newer
merged (s ∷ older) [] = s ∷ older
merged (s ∷ older) (t ∷ newer) = if is_not_above t.from s.from then joined s.from s t ∷ merged older (t ∷ newer) else joined t.from s t ∷ merged (s ∷ older) newer

-- a step from the same cut with this place
abbrev pub with_place : Option Step → Option ℕ → Option Step
with_place None place = None
with_place (Some s) place = Some (record { from = s.from; place = place })

-- the step is the first of two step functions as one, and leaves them; or they are empty
abbrev pub GivesNext : Option Step → List Step → List Step → List Step → List Step → Type 0
GivesNext None older newer older_rest newer_rest = merged older newer ≡ []
GivesNext (Some s) older newer older_rest newer_rest =
    (merged older newer ≡ s ∷ merged older_rest newer_rest) × (length older_rest + length newer_rest < length older + length newer)

-- ---- patterns as step functions

-- a place from a cut on
abbrev pub one_step : Cut → ℕ → List Step
one_step from place = record { from = from; place = Some place } ∷ []

-- a place from one cut to another
abbrev pub two_steps : Cut → Cut → ℕ → List Step
two_steps from to place = record { from = to; place = None } ∷ record { from = from; place = Some place } ∷ []

-- a place from one value to another of its kind, both among them
abbrev pub steps_between : Value → Value → ℕ → List Step
steps_between low high place = if up_to low high then two_steps (Before low) (After high) place else []

-- a place from a value to the end of its kind: the integers end before the least text
abbrev pub steps_from : Value → ℕ → List Step
steps_from (Int m) place = two_steps (Before (Int m)) (Before (Text [])) place
steps_from (Text x) place = one_step (Before (Text x)) place

-- a place up to a value from the least of its kind
abbrev pub steps_up_to : Value → ℕ → List Step
steps_up_to (Int m) place = two_steps Start (After (Int m)) place
steps_up_to (Text x) place = two_steps (Before (Text [])) (After (Text x)) place

abbrev pub steps_of_range : Option Value → Option Value → ℕ → List Step
steps_of_range None None place = one_step Start place
steps_of_range None (Some high) place = steps_up_to high place
steps_of_range (Some low) None place = steps_from low place
steps_of_range (Some low) (Some high) place = steps_between low high place

-- a place at each of these values, from the lowest up
abbrev pub rising_steps : List Value → ℕ → List Step
rising_steps [] place = []
rising_steps (m ∷ ms) place = record { from = Before m; place = Some place } ∷ record { from = After m; place = None } ∷ rising_steps ms place

-- the place at the values that the pattern matches
abbrev pub steps_of : Pattern → ℕ → List Step
steps_of Wild place = one_step Start place
steps_of Empty place = []
steps_of (Constant c) place = two_steps (Before c) (After c) place
steps_of (Range low high) place = steps_of_range low high place
steps_of (Members ms) place = reverse (rising_steps ms place)
