-- Step functions in a row.
use Rattle.std.proofs.Common.{◌≡◌, ◌<◌, ◌+◌, ℕ, suc, List, [], ◌∷◌, ◌++◌, Option, Some, None, length, drop, get_or, refl, ap, sym, subst, ◌∙◌, add-one}
use Rattle.std.proofs.Math.Seq.{drop-cons}
use Rattle.std.specs.Option.{option_or}
use Rattle.pj_value.specs.declared.values.Value.{Value}
use Rattle.pj_intervals.specs.declared.steps.Step.{Step}
use Rattle.pj_intervals.specs.Steps.{IsSorted, merged, place_at}
use Rattle.pj_intervals.specs.Intervals.{AreSorted, IsAsGood, first_in}
use Rattle.pj_intervals.proofs.MergedSteps.{merged_at, merged_sorted}

-- the others have for the value what all have
abbrev pub LooksOn : List (List Step) → List (List Step) → Value → Type 0
LooksOn levels rest v = AreSorted levels → AreSorted rest × (first_in levels v ≡ first_in rest v)

at_item : (levels : List (List Step)) (i : ℕ) (level d : List Step) (v : Value) → i < length levels → level ≡ get_or levels i d → LooksOn levels (drop i levels) v → LooksOn levels (level ∷ drop (i + 1) levels) v
at_item levels i level d v l e h = rw (add-one) (subst (λ rest. LooksOn levels rest v) (drop-cons levels i d l ∙ ap (λ (x : List Step). x ∷ drop (suc i) levels) (sym e)) h)

pub looks_on : (levels : List (List Step)) (i : ℕ) (level d : List Step) (v : Value) → i < length levels → level ≡ get_or levels i d → LooksOn levels (drop i levels) v
    → (IsSorted level → None ≡ place_at level v) → LooksOn levels (drop (i + 1) levels) v
looks_on levels i level d v l e h none sorted =
    let before = at_item levels i level d v l e h sorted in (before.0.1, before.1 ∙ sym (ap (λ o. option_or o (first_in (drop (i + 1) levels) v)) (none before.0.0)))

pub looks_up : (levels : List (List Step)) (i : ℕ) (level d : List Step) (v : Value) (place : ℕ) → i < length levels → level ≡ get_or levels i d → LooksOn levels (drop i levels) v
    → (IsSorted level → Some place ≡ place_at level v) → AreSorted levels → Some place ≡ first_in levels v
looks_up levels i level d v place l e h some sorted =
    let before = at_item levels i level d v l e h sorted in ap (λ o. option_or o (first_in (drop (i + 1) levels) v)) (some before.0.0) ∙ sym before.1

-- ---- the last two as one

merged_sorts : (levels : List (List Step)) (older newer : List Step) → AreSorted (levels ++ older ∷ newer ∷ []) → AreSorted (levels ++ merged older newer ∷ [])
merged_sorts [] older newer h = (merged_sorted older newer h.0 h.1.0, tt)
merged_sorts (level ∷ levels) older newer h = (h.0, merged_sorts levels older newer h.1)

pub or_chain : (a b c : Option ℕ) → option_or (option_or a b) c ≡ option_or a (option_or b c)
or_chain None b c = refl
or_chain (Some n) b c = refl

merged_finds : (levels : List (List Step)) (older newer : List Step) (v : Value) → first_in (levels ++ merged older newer ∷ []) v ≡ first_in (levels ++ older ∷ newer ∷ []) v
merged_finds [] older newer v = ap (λ o. option_or o None) (merged_at older newer v) ∙ or_chain (place_at older v) (place_at newer v) None
merged_finds (level ∷ levels) older newer v = ap (option_or (place_at level v)) (merged_finds levels older newer v)

pub good_merged : (levels new : List (List Step)) (older newer both : List Step) → both ≡ merged older newer → new ≡ levels ++ both ∷ [] → IsAsGood (levels ++ older ∷ newer ∷ []) new
good_merged levels new older newer both e f =
    let same : levels ++ merged older newer ∷ [] ≡ new = sym (f ∙ ap (λ (x : List Step). levels ++ x ∷ []) e) in
    (λ h. subst AreSorted same (merged_sorts levels older newer h), λ v. ap (λ ls. first_in ls v) (sym same) ∙ merged_finds levels older newer v)
