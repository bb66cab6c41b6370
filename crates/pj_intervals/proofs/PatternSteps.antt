-- Patterns as step functions, and one more among others.
use Rattle.std.proofs.Common.{◌≡◌, length, arith, ℕ, Bool, true, false, cond, List, [], ◌∷◌, ◌++◌, Some, None, refl, ap, ap₂, sym, subst, ◌∙◌}
use Rattle.std.specs.Option.{option_or}
use Rattle.pj_value.specs.declared.values.Value.{Value}
use Rattle.pj_pattern.specs.declared.pattern.Form.TheVariants.{Wild, Empty, Constant, Range, Members}
use Rattle.pj_pattern.specs.Patterns.{Pattern, matches_value}
use Rattle.pj_pattern.specs.Normal.{IsNormal}
use Rattle.pj_pattern.proofs.NormalMeets.{rising_if_normal}
use Rattle.pj_intervals.specs.declared.steps.Cut.TheVariants.{Start}
use Rattle.pj_intervals.specs.declared.steps.Step.{Step}
use Rattle.pj_intervals.specs.Steps.{IsSorted, place_at, steps_of}
use Rattle.pj_intervals.specs.Intervals.{AreSorted, Entry, IsAsGood, first_in, first_place}
use Rattle.pj_intervals.proofs.MergedSteps.{or_none}
use Rattle.pj_intervals.proofs.Levels.{or_chain}
use Rattle.pj_intervals.proofs.RangeSteps.{between_at, between_sorted, constant_at, constant_sorted, from_at, from_sorted, one_sorted, place_where, up_to_at, up_to_sorted}
use Rattle.pj_intervals.proofs.MemberSteps.{members_at, members_sorted}

-- it has the place at the values that the pattern matches
pub pattern_at : (p : Pattern) (v : Value) (n : ℕ) → IsNormal p → place_at (steps_of p n) v ≡ place_where (matches_value p v) n
pattern_at Wild v n h = refl
pattern_at Empty v n h = refl
pattern_at (Constant c) v n h = constant_at c v n
pattern_at (Range None None) v n h = refl
pattern_at (Range None (Some high)) v n h = up_to_at high v n
pattern_at (Range (Some low) None) v n h = from_at low v n
pattern_at (Range (Some low) (Some high)) v n h = between_at low high v n
pattern_at (Members ms) v n h = members_at ms v n (rising_if_normal ms h)

pub pattern_sorted : (p : Pattern) (n : ℕ) → IsNormal p → IsSorted (steps_of p n)
pattern_sorted Wild n h = one_sorted Start n
pattern_sorted Empty n h = λ v. tt
pattern_sorted (Constant c) n h = constant_sorted c n
pattern_sorted (Range None None) n h = one_sorted Start n
pattern_sorted (Range None (Some high)) n h = up_to_sorted high n
pattern_sorted (Range (Some low) None) n h = from_sorted low n
pattern_sorted (Range (Some low) (Some high)) n h = between_sorted low high n
pattern_sorted (Members ms) n h = members_sorted ms n (rising_if_normal ms h)

-- ---- one more

sorted_more : (levels : List (List Step)) (steps : List Step) → AreSorted levels → IsSorted steps → AreSorted (levels ++ steps ∷ [])
sorted_more [] steps h s = (s, tt)
sorted_more (level ∷ levels) steps h s = (h.0, sorted_more levels steps h.1 s)

first_more : (levels : List (List Step)) (steps : List Step) (v : Value) → first_in (levels ++ steps ∷ []) v ≡ option_or (first_in levels v) (place_at steps v)
first_more [] steps v = or_none (place_at steps v)
first_more (level ∷ levels) steps v = ap (option_or (place_at level v)) (first_more levels steps v) ∙ sym (or_chain (place_at level v) (first_in levels v) (place_at steps v))

place_more : (kept : List Entry) (e : Entry) (v : Value) → first_place v (kept ++ e ∷ []) ≡ option_or (first_place v kept) (place_where (matches_value e.pattern v) e.place)
place_more [] e v = refl
place_more (k ∷ kept) e v = go (matches_value k.pattern v) (place_more kept e v)
  where
    go : (b : Bool) → first_place v (kept ++ e ∷ []) ≡ option_or (first_place v kept) (place_where (matches_value e.pattern v) e.place)
        → cond b (Some k.place) (first_place v (kept ++ e ∷ [])) ≡ option_or (cond b (Some k.place) (first_place v kept)) (place_where (matches_value e.pattern v) e.place)
    go true ih = refl
    go false ih = ih

both_more : (levels : List (List Step)) (kept : List Entry) (p : Pattern) (n : ℕ) (v : Value) → IsNormal p → first_in levels v ≡ first_place v kept
    → option_or (first_in levels v) (place_at (steps_of p n) v) ≡ first_place v (kept ++ (record { pattern = p; place = n }) ∷ [])
both_more levels kept p n v h k = ap₂ option_or k (pattern_at p v n h) ∙ sym (place_more kept (record { pattern = p; place = n }) v)

-- these step functions are in order and have for every value the first place
abbrev pub Serve : List (List Step) → List Entry → Type 0
Serve levels kept = AreSorted levels × ((v : Value) → first_in levels v ≡ first_place v kept)

-- with a pattern's step function behind the others they serve for one pattern more
pub serve_more : (old levels new : List (List Step)) (kept : List Entry) (p : Pattern) (n : ℕ) (steps : List Step) → IsNormal p → steps ≡ steps_of p n
    → levels ≡ old ++ steps ∷ [] → IsAsGood levels new → Serve old kept → Serve new (kept ++ (record { pattern = p; place = n }) ∷ [])
serve_more old levels new kept p n steps h e f g a = (
  g.0 (subst AreSorted (sym f) (sorted_more old steps a.0 (subst IsSorted (sym e) (pattern_sorted p n h)))),
  λ v. g.1 v ∙ ap (λ ls. first_in ls v) f ∙ first_more old steps v ∙ ap (λ (s : List Step). option_or (first_in old v) (place_at s v)) e ∙ both_more old kept p n v h (a.1 v),
)

none_there : (steps : List Step) → length steps ≡ 0 → [] ≡ steps
none_there [] e = refl
none_there (s ∷ steps) e = absurd (omega (arith, e))

-- where it has no step they serve for it as they are
pub serve_none : (old : List (List Step)) (kept : List Entry) (p : Pattern) (n : ℕ) (steps : List Step) → IsNormal p → steps ≡ steps_of p n → length steps ≡ 0 → Serve old kept → Serve old (kept ++ (record { pattern = p; place = n }) ∷ [])
serve_none old kept p n steps h e f a =
    (a.0, λ v. sym (or_none (first_in old v)) ∙ ap (λ (s : List Step). option_or (first_in old v) (place_at s v)) (none_there steps f ∙ e) ∙ both_more old kept p n v h (a.1 v))
