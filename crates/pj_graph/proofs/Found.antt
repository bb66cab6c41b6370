-- What the search finds is the next step, and where it finds none the set is closed.
use Rattle.std.proofs.Common.{ℕ, zero, suc, ◌+◌, ◌<◌, ◌≡◌, length, get_or, arith, Bool, true, false, cond, List, [], ◌∷◌, Option, Some, None, map, refl, sym, ap, ◌∙◌, subst}
use Rattle.std.proofs.lemmas.Bool.{false≢true}
use Rattle.pj_shape.specs.declared.joins.CertStep.{CertStep}
use Rattle.pj_shape.specs.declared.joins.JoinSpec.{JoinSpec}
use Rattle.pj_shape.specs.Sound.{AreApart, FitSchemes}
use Rattle.pj_shape.specs.Sets.{is_usable, touches}
use Rattle.pj_graph.specs.Certificates.{IsNextStep}
use Rattle.pj_graph.specs.Search.{IsNext, all_marked, class_numbers, first_from, first_of_both, step_from, step_of, with_input}
use Rattle.pj_graph.proofs.Numbers.{numbers_length, usable_by_number}
use Rattle.pj_graph.proofs.Steps.{lists_length}
use Rattle.pj_value.specs.Lists.{has}

-- ---- the schemes of one input

-- none of the schemes can be used
abbrev NoneIn : List Bool → List (Option ℕ) → List (List Bool) → Type 0
NoneIn bound numbers list = (s : ℕ) → s < length list → all_marked bound numbers (get_or list s []) ≡ false

-- the scheme with this number is the first that can be used
record IsFirst (bound : List Bool) (numbers : List (Option ℕ)) (list : List (List Bool)) (s : ℕ) : Type 0 where
  within : s < length list
  holds : all_marked bound numbers (get_or list s []) ≡ true
  before : (r : ℕ) → r < s → all_marked bound numbers (get_or list r []) ≡ false

none_from : (bound : List Bool) (numbers : List (Option ℕ)) (n : ℕ) (list : List (List Bool)) → first_from bound numbers n list ≡ None → NoneIn bound numbers list
none_from bound numbers n [] e = λ s lt. absurd (omega (arith, lt))
none_from bound numbers n (marks ∷ list) e = go (all_marked bound numbers marks) refl (none_from bound numbers (n + 1) list) e
  where
    more : all_marked bound numbers marks ≡ false → NoneIn bound numbers list → NoneIn bound numbers (marks ∷ list)
    more t ih zero lt = t
    more t ih (suc s) lt = ih s (omega arith)

    go : (b : Bool) → all_marked bound numbers marks ≡ b → (first_from bound numbers (n + 1) list ≡ None → NoneIn bound numbers list)
        → cond b (Some n) (first_from bound numbers (n + 1) list) ≡ None → NoneIn bound numbers (marks ∷ list)
    go true t ih f = cc
    go false t ih f = more t (ih f)

first_is : (bound : List Bool) (numbers : List (Option ℕ)) (n : ℕ) (list : List (List Bool)) (m : ℕ) → first_from bound numbers n list ≡ Some m
    → (s : ℕ) × (m ≡ n + s) × IsFirst bound numbers list s
first_is bound numbers n [] m e = cc
first_is bound numbers n (marks ∷ list) m e = go (all_marked bound numbers marks) refl (first_is bound numbers (n + 1) list m) e
  where
    go : (b : Bool) → all_marked bound numbers marks ≡ b
        → (first_from bound numbers (n + 1) list ≡ Some m → (s : ℕ) × (m ≡ n + 1 + s) × IsFirst bound numbers list s)
        → cond b (Some n) (first_from bound numbers (n + 1) list) ≡ Some m
        → (s : ℕ) × (m ≡ n + s) × IsFirst bound numbers (marks ∷ list) s
    go true t ih f =
        let g : n ≡ m = cc in
        (0, omega (arith, g), record { within = omega arith; holds = t; before = λ r lt. absurd (omega (arith, lt)) })
    go false t ih f =
        let found = ih f in
        let later = found.2 in
        (suc found.0, omega (arith, found.1), record { within = omega (arith, later.within); holds = later.holds; before = below found.0 later })
      where
        below : (s : ℕ) → IsFirst bound numbers list s → (r : ℕ) → r < suc s → all_marked bound numbers (get_or (marks ∷ list) r []) ≡ false
        below s later zero lt = t
        below s later (suc r) lt = later.before r (omega arith)

-- ---- the step that adds an input

passed_if : (bound : List Bool) (known : List ℕ) (k : ℕ) (numbers : List (Option ℕ)) (list : List (List Bool))
    → step_of bound known k numbers list ≡ None → has known k ≡ false → NoneIn bound numbers list
passed_if bound known k numbers list e out = go (has known k) out e
  where
    without : (o : Option ℕ) → first_from bound numbers 0 list ≡ o → with_input k o ≡ None → NoneIn bound numbers list
    without None f g = none_from bound numbers 0 list f
    without (Some s) f g = cc

    go : (b : Bool) → b ≡ false → cond b None (with_input k (first_from bound numbers 0 list)) ≡ None → NoneIn bound numbers list
    go true t f = absurd (false≢true (sym t))
    go false t f = without (first_from bound numbers 0 list) refl f

-- the step adds this input, which is not known, by the first of these schemes that can be used
record IsAdding (bound : List Bool) (known : List ℕ) (k : ℕ) (numbers : List (Option ℕ)) (list : List (List Bool)) (step : CertStep) : Type 0 where
  adds : step.input ≡ k
  out : has known k ≡ false
  first : IsFirst bound numbers list step.scheme

adding_if : (bound : List Bool) (known : List ℕ) (k : ℕ) (numbers : List (Option ℕ)) (list : List (List Bool)) (step : CertStep)
    → step_of bound known k numbers list ≡ Some step → IsAdding bound known k numbers list step
adding_if bound known k numbers list step e = go (has known k) refl e
  where
    with_first : (o : Option ℕ) → first_from bound numbers 0 list ≡ o → has known k ≡ false → with_input k o ≡ Some step → IsAdding bound known k numbers list step
    with_first None f out g = cc
    with_first (Some m) f out g =
        let found = first_is bound numbers 0 list m f in
        let made : CertStep = record { input = k; scheme = m } in
        let same : made ≡ step = cc in
        let number : found.0 ≡ step.scheme = omega (arith, found.1, ap (λ (c : CertStep). c.scheme) same) in
        record { adds = sym (ap (λ (c : CertStep). c.input) same); out = out; first = subst (IsFirst bound numbers list) number found.2 }

    go : (b : Bool) → has known k ≡ b → cond b None (with_input k (first_from bound numbers 0 list)) ≡ Some step → IsAdding bound known k numbers list step
    go true t f = cc
    go false t f = with_first (first_from bound numbers 0 list) refl t f

-- ---- the first step

-- the input with this place is known, or none of its schemes can be used
abbrev IsPassed : List Bool → List ℕ → ℕ → List (List (Option ℕ)) → List (List (List Bool)) → ℕ → Type 0
IsPassed bound known k table lists i = has known (k + i) ≡ false → NoneIn bound (get_or table i []) (get_or lists i [])

all_passed : (bound : List Bool) (known : List ℕ) (k : ℕ) (table : List (List (Option ℕ))) (lists : List (List (List Bool))) → length table ≡ length lists
    → step_from bound known k table lists ≡ None → (i : ℕ) → IsPassed bound known k table lists i
all_passed bound known k [] [] l e = λ i out s lt. absurd (omega (arith, lt))
all_passed bound known k [] (list ∷ lists) l e = absurd (omega (arith, l))
all_passed bound known k (ns ∷ table) [] l e = absurd (omega (arith, l))
all_passed bound known k (ns ∷ table) (list ∷ lists) l e =
    go (step_of bound known k ns list) refl (all_passed bound known (k + 1) table lists (omega (arith, l))) e
  where
    later : (i : ℕ) → IsPassed bound known (k + 1) table lists i → IsPassed bound known k (ns ∷ table) (list ∷ lists) (suc i)
    later i passed out = let e : k + suc i ≡ k + 1 + i = omega arith in passed (sym (ap (has known) e) ∙ out)

    each : step_of bound known k ns list ≡ None → ((i : ℕ) → IsPassed bound known (k + 1) table lists i)
        → (i : ℕ) → IsPassed bound known k (ns ∷ table) (list ∷ lists) i
    each f ih zero out = passed_if bound known k ns list f (let e : k ≡ k + 0 = omega arith in ap (has known) e ∙ out)
    each f ih (suc i) out = later i (ih i) out

    go : (o : Option CertStep) → step_of bound known k ns list ≡ o
        → (step_from bound known (k + 1) table lists ≡ None → (i : ℕ) → IsPassed bound known (k + 1) table lists i)
        → first_of_both o (step_from bound known (k + 1) table lists) ≡ None → (i : ℕ) → IsPassed bound known k (ns ∷ table) (list ∷ lists) i
    go (Some step) f ih g = cc
    go None f ih g = each f (ih g)

-- the step adds the input with some place, and those before are passed
record IsFound (bound : List Bool) (known : List ℕ) (k : ℕ) (table : List (List (Option ℕ))) (lists : List (List (List Bool))) (step : CertStep) : Type 0 where
  place : ℕ
  adding : IsAdding bound known (k + place) (get_or table place []) (get_or lists place []) step
  passed : (i : ℕ) → i < place → IsPassed bound known k table lists i

found_if : (bound : List Bool) (known : List ℕ) (k : ℕ) (table : List (List (Option ℕ))) (lists : List (List (List Bool))) (step : CertStep)
    → step_from bound known k table lists ≡ Some step → IsFound bound known k table lists step
found_if bound known k [] lists step e = cc
found_if bound known k (ns ∷ table) [] step e = cc
found_if bound known k (ns ∷ table) (list ∷ lists) step e = go (step_of bound known k ns list) refl (found_if bound known (k + 1) table lists step) e
  where
    here : step_of bound known k ns list ≡ Some step → IsFound bound known k (ns ∷ table) (list ∷ lists) step
    here f =
        let e : k ≡ k + 0 = omega arith in
        record {
          place = 0;
          adding = subst (λ (n : ℕ). IsAdding bound known n ns list step) e (adding_if bound known k ns list step f);
          passed = λ i lt. absurd (omega (arith, lt));
        }

    before : step_of bound known k ns list ≡ None → (place : ℕ) → ((i : ℕ) → i < place → IsPassed bound known (k + 1) table lists i)
        → (i : ℕ) → i < suc place → IsPassed bound known k (ns ∷ table) (list ∷ lists) i
    before f place passed zero lt out = passed_if bound known k ns list f (let e : k ≡ k + 0 = omega arith in ap (has known) e ∙ out)
    before f place passed (suc i) lt out = passed i (omega arith) (let e : k + suc i ≡ k + 1 + i = omega arith in sym (ap (has known) e) ∙ out)

    later : step_of bound known k ns list ≡ None → IsFound bound known (k + 1) table lists step → IsFound bound known k (ns ∷ table) (list ∷ lists) step
    later f found =
        let e : k + 1 + found.place ≡ k + suc found.place = omega arith in
        record {
          place = suc found.place;
          adding = subst (λ (n : ℕ). IsAdding bound known n (get_or table found.place []) (get_or lists found.place []) step) e found.adding;
          passed = before f found.place found.passed;
        }

    go : (o : Option CertStep) → step_of bound known k ns list ≡ o
        → (step_from bound known (k + 1) table lists ≡ Some step → IsFound bound known (k + 1) table lists step)
        → first_of_both o (step_from bound known (k + 1) table lists) ≡ Some step → IsFound bound known k (ns ∷ table) (list ∷ lists) step
    go (Some other) f ih g = here (f ∙ g)
    go None f ih g = later f (ih g)

-- ---- the next step

pub next_is : (spec : JoinSpec) (schemes : List (List (List Bool))) (known : List ℕ) (next : Option CertStep)
    → AreApart spec.classes → FitSchemes spec.inputs schemes
    → next ≡ step_from (map (touches (has known)) spec.classes) known 0 (class_numbers spec.classes 0 spec.inputs) schemes
    → IsNext spec schemes known next
next_is spec schemes known next apart fit e = go next e
  where
    bound : List Bool
    bound = map (touches (has known)) spec.classes

    table : List (List (Option ℕ))
    table = class_numbers spec.classes 0 spec.inputs

    same_length : length table ≡ length schemes
    same_length = numbers_length spec.classes 0 spec.inputs ∙ sym (lists_length spec.inputs schemes fit)

    by_number : (j s : ℕ) → s < length (get_or schemes j []) → is_usable (has known) spec schemes j s ≡ all_marked bound (get_or table j []) (get_or (get_or schemes j []) s [])
    by_number j s lt = usable_by_number (has known) spec schemes j s apart fit lt

    out_at : (j : ℕ) → has known j ≡ false → has known (0 + j) ≡ false
    out_at j out = let e : 0 + j ≡ j = omega arith in ap (has known) e ∙ out

    step_is : (step : CertStep) → IsFound bound known 0 table schemes step → IsNextStep spec schemes known step
    step_is step found = at found.place (found.adding.adds ∙ zero_plus found.place)
      where
        zero_plus : (j : ℕ) → 0 + j ≡ j
        zero_plus j = omega arith

        at : (place : ℕ) → step.input ≡ found.place → IsNextStep spec schemes known step
        at place e =
            let adding = found.adding in
            let first = subst (λ (j : ℕ). IsFirst bound (get_or table j []) (get_or schemes j []) step.scheme) (sym e) adding.first in
            record {
              is_step = record { given = first.within; usable = by_number step.input step.scheme first.within ∙ first.holds };
              is_new = ap (has known) (found.adding.adds) ∙ adding.out;
              first = λ s lt. by_number step.input s (omega (arith, lt, first.within)) ∙ first.before s lt;
              least = λ j s lt out within. by_number j s within ∙ found.passed j (omega (arith, lt, e)) (out_at j out) s within;
            }

    closed : step_from bound known 0 table schemes ≡ None → IsNext spec schemes known None
    closed f j s out lt = by_number j s lt ∙ all_passed bound known 0 table schemes same_length f j (out_at j out) s lt

    go : (o : Option CertStep) → o ≡ step_from bound known 0 table schemes → IsNext spec schemes known o
    go None f = closed (sym f)
    go (Some step) f = step_is step (found_if bound known 0 table schemes step (sym f))
