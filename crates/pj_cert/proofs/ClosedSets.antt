-- The test of closed sets is true exactly for one.
use Rattle.std.proofs.Common.{ℕ, zero, suc, ◌+◌, ◌<◌, ◌≤◌, ◌≡◌, length, get_or, arith, Bool, true, false, not, ◌&&◌, ◌||◌, List, [], ◌∷◌, Some, drop, slice_get, sum, fold, All, refl, sym, ap, ◌∙◌, subst, inl, inr}
use Rattle.std.proofs.lemmas.Bool.{and_parts, and_from, false_from_ne_true, false≢true}
use Rattle.pj_value.proofs.Members.{in-place, none_at, none_from}
use Rattle.pj_value.specs.Lists.{In, has}
use Rattle.std.proofs.lemmas.Option.{get_or_from_slice_get}
use Rattle.pj_shape.specs.Sound.{arities_of, FitSchemes}
use Rattle.pj_shape.specs.declared.columns.Column.{Column}
use Rattle.pj_shape.specs.declared.joins.ClassCol.{ClassCol}
use Rattle.pj_shape.specs.declared.joins.JoinSpec.{JoinSpec}
use Rattle.pj_shape.specs.Sets.{are_bound, is_bound, IsClosed, schemes_of}
use Rattle.pj_graph.proofs.Steps.{drop_got, few_columns}
use Rattle.pj_cert.specs.Tests.{any_usable, closed_from, passes}

pub closed_on : (classes : List (List ClassCol)) (known : List ℕ) (k : ℕ) (lists : List (List (List Bool))) (list : List (List Bool)) → slice_get lists k ≡ Some list
    → closed_from classes known k (drop k lists) ≡ (passes classes known k list && closed_from classes known (k + 1) (drop (k + 1) lists))
closed_on classes known k lists list e = ap (λ (ls : List (List (List Bool))). closed_from classes known k ls) (drop_got lists k list e)

pub bound_on : (inside : ℕ → Bool) (classes : List (List ClassCol)) (input k : ℕ) (marks : List Bool) (m : Bool) → slice_get marks k ≡ Some m
    → are_bound inside classes input k (drop k marks) ≡ ((not m || is_bound inside classes input k) && are_bound inside classes input (k + 1) (drop (k + 1) marks))
bound_on inside classes input k marks m e = ap (λ (ms : List Bool). are_bound inside classes input k ms) (drop_got marks k m e)

-- no scheme has more columns than the join
pub all_short : (schemas : List (List Column)) (lists : List (List (List Bool))) (j : ℕ) → FitSchemes schemas lists → sum (arities_of schemas) ≤ 120
    → All (λ (marks : List Bool). length marks ≤ 120) (get_or lists j [])
all_short [] [] j fit few = λ k d lt. absurd (omega (arith, lt))
all_short [] (l ∷ lists) j fit few = absurd fit
all_short (s ∷ schemas) [] j fit few = absurd fit
all_short (s ∷ schemas) (l ∷ lists) zero fit few = λ k d lt.
    let few_here : length s ≤ sum (arities_of (s ∷ schemas)) = few_columns (s ∷ schemas) 0 s (omega arith) refl in
    omega (arith, fit.0 (get_or l k d) (in-place l d k lt), few, few_here)
all_short (s ∷ schemas) (l ∷ lists) (suc j) fit few = all_short schemas lists j fit.1 (omega (arith, few, sum_on (length s) (arities_of schemas)))
  where
    sum_from : (m : ℕ) (ys : List ℕ) → fold ◌+◌ m ys ≡ m + sum ys
    sum_from m [] = omega arith
    sum_from m (y ∷ ys) = omega (arith, sum_from (m + y) ys, sum_from (0 + y) ys)

    sum_on : (n : ℕ) (xs : List ℕ) → sum (n ∷ xs) ≡ n + sum xs
    sum_on n xs = omega (arith, sum_from (0 + n) xs)

pub short_at : (schemas : List (List Column)) (lists : List (List (List Bool))) (j : ℕ) (list : List (List Bool)) → FitSchemes schemas lists → sum (arities_of schemas) ≤ 120
    → slice_get lists j ≡ Some list → All (λ (marks : List Bool). length marks ≤ 120) list
short_at schemas lists j list fit few e =
    subst (λ (l : List (List Bool)). All (λ (marks : List Bool). length marks ≤ 120) l) (get_or_from_slice_get lists j list [] e) (all_short schemas lists j fit few)

-- the input at each place, counted from this number, is known or has no scheme that can be used
abbrev ClosedFrom : List (List ClassCol) → List ℕ → ℕ → List (List (List Bool)) → Type 0
ClosedFrom classes known k lists =
    (i s : ℕ) → has known (k + i) ≡ false → s < length (get_or lists i []) → are_bound (has known) classes (k + i) 0 (get_or (get_or lists i []) s []) ≡ false

place_of : {A : Type 0} (xs : List A) (d x : A) → In x xs → (s : ℕ) × (s < length xs) × (get_or xs s d ≡ x)
place_of [] d x h = absurd h
place_of (y ∷ xs) d x (inl e) = (0, omega arith, e)
place_of (y ∷ xs) d x (inr h) = let r = place_of xs d x h in (suc r.0, omega (arith, r.1), r.2)

tested : (classes : List (List ClassCol)) (known : List ℕ) (k : ℕ) (lists : List (List (List Bool))) → closed_from classes known k lists ≡ true → ClosedFrom classes known k lists
tested classes known k [] t = λ i s out lt. absurd (omega (arith, lt))
tested classes known k (list ∷ lists) t = each (tested classes known (k + 1) lists both.1)
  where
    both : ((has known k || not (any_usable classes known k list)) ≡ true) × (closed_from classes known (k + 1) lists ≡ true)
    both = and_parts (has known k || not (any_usable classes known k list)) (closed_from classes known (k + 1) lists) t

    none : (b c : Bool) → (b || not c) ≡ true → b ≡ false → c ≡ false
    none true c u e = absurd (false≢true (sym e))
    none false true u e = absurd (false≢true u)
    none false false u e = refl

    here : (j s : ℕ) → j ≡ k → has known j ≡ false → s < length list → are_bound (has known) classes j 0 (get_or list s []) ≡ false
    here j s e out lt =
        ap (λ (n : ℕ). are_bound (has known) classes n 0 (get_or list s [])) e
        ∙ false_from_ne_true (are_bound (has known) classes k 0 (get_or list s []))
        (none_at (λ marks. are_bound (has known) classes k 0 marks) list (get_or list s [])
        (none (has known k) (any_usable classes known k list) both.0 (sym (ap (has known) e) ∙ out)) (in-place list [] s lt))

    each : ClosedFrom classes known (k + 1) lists → ClosedFrom classes known k (list ∷ lists)
    each later zero s out lt = here (k + 0) s (omega arith) out lt
    each later (suc i) s out lt =
        let e : k + suc i ≡ k + 1 + i = omega arith in
        ap (λ (n : ℕ). are_bound (has known) classes n 0 (get_or (get_or lists i []) s [])) e ∙ later i s (sym (ap (has known) e) ∙ out) lt

untested : (classes : List (List ClassCol)) (known : List ℕ) (k : ℕ) (lists : List (List (List Bool))) → ClosedFrom classes known k lists → closed_from classes known k lists ≡ true
untested classes known k [] f = refl
untested classes known k (list ∷ lists) f =
    and_from (has known k || not (any_usable classes known k list)) (closed_from classes known (k + 1) lists)
    (go (has known k) refl) (untested classes known (k + 1) lists later)
  where
    at_zero : k + 0 ≡ k
    at_zero = omega arith

    unusable : has known k ≡ false → (marks : List Bool) → In marks list → are_bound (has known) classes k 0 marks ≡ false
    unusable out marks h =
        let r = place_of list [] marks h in
        ap (λ (ms : List Bool). are_bound (has known) classes k 0 ms) (sym r.2)
        ∙ ap (λ (n : ℕ). are_bound (has known) classes n 0 (get_or list r.0 [])) (sym at_zero)
        ∙ f 0 r.0 (ap (has known) at_zero ∙ out) r.1

    go : (b : Bool) → has known k ≡ b → (b || not (any_usable classes known k list)) ≡ true
    go true e = refl
    go false e = ap not (none_from (λ marks. are_bound (has known) classes k 0 marks) list (unusable e))

    later : ClosedFrom classes known (k + 1) lists
    later i s out lt =
        let e : k + suc i ≡ k + 1 + i = omega arith in
        sym (ap (λ (n : ℕ). are_bound (has known) classes n 0 (get_or (get_or lists i []) s [])) e) ∙ f (suc i) s (ap (has known) e ∙ out) lt

pub closed_if : (spec : JoinSpec) (schemes : List (List (List Bool))) (known : List ℕ) → closed_from spec.classes known 0 schemes ≡ true → IsClosed spec schemes (has known)
closed_if spec schemes known t k s out lt =
    let e : k ≡ 0 + k = omega arith in
    ap (λ (n : ℕ). are_bound (has known) spec.classes n 0 (get_or (schemes_of schemes k) s [])) e
    ∙ tested spec.classes known 0 schemes t k s (sym (ap (has known) e) ∙ out) lt

pub if_closed : (spec : JoinSpec) (schemes : List (List (List Bool))) (known : List ℕ) → IsClosed spec schemes (has known) → closed_from spec.classes known 0 schemes ≡ true
if_closed spec schemes known closed = untested spec.classes known 0 schemes (λ i s out lt.
    let e : 0 + i ≡ i = omega arith in
    ap (λ (n : ℕ). are_bound (has known) spec.classes n 0 (get_or (get_or schemes i []) s [])) e ∙ closed i s (sym (ap (has known) e) ∙ out) lt)
