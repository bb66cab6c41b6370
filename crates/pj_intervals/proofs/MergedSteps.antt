-- Two step functions as one.
use Rattle.std.proofs.Common.{◌≡◌, ◌<◌, ◌≤◌, ◌++◌, arith, drop, length, Bool, true, false, cond, ℕ, List, [], ◌∷◌, Option, Some, None, refl, ap, ap₂, sym, ◌∙◌}
use Rattle.std.specs.Option.{option_or, option_to_list}
use Rattle.pj_value.specs.declared.values.Value.{Value}
use Rattle.pj_intervals.specs.declared.steps.Step.{Step}
use Rattle.pj_intervals.specs.Steps.{AreReached, GivesNext, IsParted, IsSorted, is_not_above, is_reached, joined, merged, place_at}
use Rattle.pj_intervals.proofs.CutOrder.{reached_above, reached_below}

pub at_reached : (s : Step) (steps : List Step) (v : Value) → is_reached s.from v ≡ true → place_at (s ∷ steps) v ≡ s.place
at_reached s steps v e = ap (λ b. cond b s.place (place_at steps v)) e

pub at_other : (s : Step) (steps : List Step) (v : Value) → is_reached s.from v ≡ false → place_at (s ∷ steps) v ≡ place_at steps v
at_other s steps v e = ap (λ b. cond b s.place (place_at steps v)) e

merged_older : (s t : Step) (older newer : List Step) → is_not_above t.from s.from ≡ true → merged (s ∷ older) (t ∷ newer) ≡ joined s.from s t ∷ merged older (t ∷ newer)
merged_older s t older newer e = ap (λ b. cond b (joined s.from s t ∷ merged older (t ∷ newer)) (joined t.from s t ∷ merged (s ∷ older) newer)) e

merged_newer : (s t : Step) (older newer : List Step) → is_not_above t.from s.from ≡ false → merged (s ∷ older) (t ∷ newer) ≡ joined t.from s t ∷ merged (s ∷ older) newer
merged_newer s t older newer e = ap (λ b. cond b (joined s.from s t ∷ merged older (t ∷ newer)) (joined t.from s t ∷ merged (s ∷ older) newer)) e

merged_alone : (older : List Step) → merged older [] ≡ older
merged_alone [] = refl
merged_alone (s ∷ older) = refl

-- where the second has no step, the next is the first of the first
pub gives_older : (next : Option Step) (older newer rest : List Step) → 0 < length older → length newer ≤ 0 → older ≡ option_to_list next ++ rest → rest ≡ drop 1 older → GivesNext next older newer rest newer
gives_older next [] newer rest p q e f = absurd (omega (arith, p))
gives_older next (s ∷ older) (t ∷ newer) rest p q e f = absurd (omega (arith, q))
gives_older None (s ∷ older) [] rest p q e f = absurd (omega (arith, ap length e, ap length f))
gives_older (Some x) (s ∷ older) [] rest p q e f = (e ∙ ap (λ steps. x ∷ steps) (sym (merged_alone rest)), omega (arith, ap length e))

pub or_none : (o : Option ℕ) → option_or o None ≡ o
or_none None = refl
or_none (Some n) = refl

older_at : (s t : Step) (older newer : List Step) (v : Value) → is_not_above t.from s.from ≡ true
    → place_at (merged older (t ∷ newer)) v ≡ option_or (place_at older v) (place_at (t ∷ newer) v)
    → place_at (joined s.from s t ∷ merged older (t ∷ newer)) v ≡ option_or (place_at (s ∷ older) v) (place_at (t ∷ newer) v)
older_at s t older newer v e ih = go (is_reached s.from v) refl
  where
    go : (b : Bool) → is_reached s.from v ≡ b → place_at (joined s.from s t ∷ merged older (t ∷ newer)) v ≡ option_or (place_at (s ∷ older) v) (place_at (t ∷ newer) v)
    go true f = at_reached (joined s.from s t) (merged older (t ∷ newer)) v f ∙ sym (ap₂ option_or (at_reached s older v f) (at_reached t newer v (reached_below t.from s.from v e f)))
    go false f = at_other (joined s.from s t) (merged older (t ∷ newer)) v f ∙ ih ∙ sym (ap (λ o. option_or o (place_at (t ∷ newer) v)) (at_other s older v f))

newer_at : (s t : Step) (older newer : List Step) (v : Value) → is_not_above t.from s.from ≡ false
    → place_at (merged (s ∷ older) newer) v ≡ option_or (place_at (s ∷ older) v) (place_at newer v)
    → place_at (joined t.from s t ∷ merged (s ∷ older) newer) v ≡ option_or (place_at (s ∷ older) v) (place_at (t ∷ newer) v)
newer_at s t older newer v e ih = go (is_reached t.from v) refl
  where
    go : (b : Bool) → is_reached t.from v ≡ b → place_at (joined t.from s t ∷ merged (s ∷ older) newer) v ≡ option_or (place_at (s ∷ older) v) (place_at (t ∷ newer) v)
    go true f = at_reached (joined t.from s t) (merged (s ∷ older) newer) v f ∙ sym (ap₂ option_or (at_reached s older v (reached_above t.from s.from v e f)) (at_reached t newer v f))
    go false f = at_other (joined t.from s t) (merged (s ∷ older) newer) v f ∙ ih ∙ sym (ap (option_or (place_at (s ∷ older) v)) (at_other t newer v f))

-- it has what the first has, or else what the second has
pub merged_at : (older newer : List Step) (v : Value) → place_at (merged older newer) v ≡ option_or (place_at older v) (place_at newer v)
merged_at [] newer v = refl
merged_at (s ∷ older) [] v = sym (or_none (place_at (s ∷ older) v))
merged_at (s ∷ older) (t ∷ newer) v = go (is_not_above t.from s.from) refl (merged_at older (t ∷ newer) v) (merged_at (s ∷ older) newer v)
  where
    go : (b : Bool) → is_not_above t.from s.from ≡ b
        → place_at (merged older (t ∷ newer)) v ≡ option_or (place_at older v) (place_at (t ∷ newer) v)
        → place_at (merged (s ∷ older) newer) v ≡ option_or (place_at (s ∷ older) v) (place_at newer v)
        → place_at (merged (s ∷ older) (t ∷ newer)) v ≡ option_or (place_at (s ∷ older) v) (place_at (t ∷ newer) v)
    go true e one two = ap (λ steps. place_at steps v) (merged_older s t older newer e) ∙ older_at s t older newer v e one
    go false e one two = ap (λ steps. place_at steps v) (merged_newer s t older newer e) ∙ newer_at s t older newer v e two

-- ---- order

merged_reached : (v : Value) (older newer : List Step) → AreReached v older → AreReached v newer → AreReached v (merged older newer)
merged_reached v [] newer p q = q
merged_reached v (s ∷ older) [] p q = p
merged_reached v (s ∷ older) (t ∷ newer) p q = go (is_not_above t.from s.from) (merged_reached v older (t ∷ newer) p.1 q) (merged_reached v (s ∷ older) newer p q.1)
  where
    go : (b : Bool) → AreReached v (merged older (t ∷ newer)) → AreReached v (merged (s ∷ older) newer)
        → AreReached v (cond b (joined s.from s t ∷ merged older (t ∷ newer)) (joined t.from s t ∷ merged (s ∷ older) newer))
    go true one two = (p.0, one)
    go false one two = (q.0, two)

merged_parted : (v : Value) (older newer : List Step) → IsParted v older → IsParted v newer → IsParted v (merged older newer)
merged_parted v [] newer p q = q
merged_parted v (s ∷ older) [] p q = p
merged_parted v (s ∷ older) (t ∷ newer) p q = go (is_not_above t.from s.from) refl (merged_parted v older (t ∷ newer) p.1 q) (merged_parted v (s ∷ older) newer p q.1)
  where
    go : (b : Bool) → is_not_above t.from s.from ≡ b → IsParted v (merged older (t ∷ newer)) → IsParted v (merged (s ∷ older) newer)
        → IsParted v (cond b (joined s.from s t ∷ merged older (t ∷ newer)) (joined t.from s t ∷ merged (s ∷ older) newer))
    go true e one two = (λ f. let g : is_reached t.from v ≡ true = reached_below t.from s.from v e f in merged_reached v older (t ∷ newer) (p.0 f) (g, q.0 g), one)
    go false e one two = (λ f. let g : is_reached s.from v ≡ true = reached_above t.from s.from v e f in merged_reached v (s ∷ older) newer (g, p.0 g) (q.0 f), two)

pub merged_sorted : (older newer : List Step) → IsSorted older → IsSorted newer → IsSorted (merged older newer)
merged_sorted older newer p q v = merged_parted v older newer (p v) (q v)
