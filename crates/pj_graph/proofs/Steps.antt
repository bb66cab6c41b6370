-- Loops of the search, one turn at a time.
use Rattle.std.proofs.Common.{ℕ, zero, suc, ◌+◌, ◌<◌, ◌≤◌, ◌≡◌, length, get_or, min, arith, Bool, true, ◌&&◌, List, [], ◌∷◌, Option, Some, None, drop, slice_get, sum, fold, refl, sym, ap, ◌∙◌}
use Rattle.std.proofs.Math.Numerals.{add-one}
use Rattle.std.proofs.Math.Seq.{drop-cons, drop-nil}
use Rattle.std.proofs.lemmas.Option.{get_or_from_slice_get, slice_get_within}
use Rattle.pj_shape.specs.declared.columns.Column.{Column}
use Rattle.pj_shape.specs.declared.joins.CertStep.{CertStep}
use Rattle.pj_shape.specs.Sound.{arities_of, FitSchemes}
use Rattle.pj_graph.specs.Search.{all_marked, is_met, step_of, step_from, first_of_both}

pub drop_at : {A : Type 0} (xs : List A) (k : ℕ) (x : A) → k < length xs → x ≡ get_or xs k x → drop k xs ≡ x ∷ drop (k + 1) xs
drop_at {A} xs k x lt e = rw add-one (drop-cons xs k x lt ∙ ap (λ (z : A). z ∷ drop (suc k) xs) (sym e))

pub drop_got : {A : Type 0} (xs : List A) (k : ℕ) (x : A) → slice_get xs k ≡ Some x → drop k xs ≡ x ∷ drop (k + 1) xs
drop_got xs k x e = drop_at xs k x (slice_get_within xs k x e) (sym (get_or_from_slice_get xs k x x e))

-- ---- the marks of a scheme

pub marked_on : (bound : List Bool) (numbers : List (Option ℕ)) (marks : List Bool) (k : ℕ) (m : Bool)
    → k < length numbers → slice_get marks k ≡ Some m
    → all_marked bound (drop k numbers) (drop k marks) ≡ (is_met bound (get_or numbers k None) m && all_marked bound (drop (k + 1) numbers) (drop (k + 1) marks))
marked_on bound numbers marks k m lt f =
    let e : drop k numbers ≡ get_or numbers k None ∷ drop (k + 1) numbers = rw add-one (drop-cons numbers k None lt) in
    ap (λ (ns : List (Option ℕ)). all_marked bound ns (drop k marks)) e
    ∙ ap (λ (ms : List Bool). all_marked bound (get_or numbers k None ∷ drop (k + 1) numbers) ms) (drop_got marks k m f)

pub marked_end : (bound : List Bool) (numbers : List (Option ℕ)) (marks : List Bool) (k : ℕ) → min (length numbers) (length marks) ≤ k
    → all_marked bound (drop k numbers) (drop k marks) ≡ true
marked_end bound [] marks k h = ap (λ (ns : List (Option ℕ)). all_marked bound ns (drop k marks)) (drop-nil k)
marked_end bound (n ∷ ns) [] k h = ap (λ (ms : List Bool). all_marked bound (drop k (n ∷ ns)) ms) (drop-nil k) ∙ without_marks (drop k (n ∷ ns))
  where
    without_marks : (numbers : List (Option ℕ)) → all_marked bound numbers [] ≡ true
    without_marks [] = refl
    without_marks (number ∷ numbers) = refl
marked_end bound (n ∷ ns) (m ∷ ms) zero h = absurd (omega arith)
marked_end bound (n ∷ ns) (m ∷ ms) (suc k) h = marked_end bound ns ms k (omega arith)

-- ---- the step that is found first

pub step_on : (bound : List Bool) (known : List ℕ) (k : ℕ) (table : List (List (Option ℕ))) (lists : List (List (List Bool))) (ns : List (Option ℕ)) (list : List (List Bool))
    → k < length table → ns ≡ get_or table k ns → slice_get lists k ≡ Some list
    → step_from bound known k (drop k table) (drop k lists) ≡ first_of_both (step_of bound known k ns list) (step_from bound known (k + 1) (drop (k + 1) table) (drop (k + 1) lists))
step_on bound known k table lists ns list lt e f =
    ap (λ (t : List (List (Option ℕ))). step_from bound known k t (drop k lists)) (drop_at table k ns lt e)
    ∙ ap (λ (l : List (List (List Bool))). step_from bound known k (ns ∷ drop (k + 1) table) l) (drop_got lists k list f)

pub step_passed : (bound : List Bool) (known : List ℕ) (k : ℕ) (table : List (List (Option ℕ))) (lists : List (List (List Bool))) (ns : List (Option ℕ)) (list : List (List Bool))
    → k < length table → ns ≡ get_or table k ns → slice_get lists k ≡ Some list → step_of bound known k ns list ≡ None
    → step_from bound known k (drop k table) (drop k lists) ≡ step_from bound known (k + 1) (drop (k + 1) table) (drop (k + 1) lists)
step_passed bound known k table lists ns list lt e f g =
    step_on bound known k table lists ns list lt e f
    ∙ ap (λ (o : Option CertStep). first_of_both o (step_from bound known (k + 1) (drop (k + 1) table) (drop (k + 1) lists))) g

pub step_taken : (bound : List Bool) (known : List ℕ) (k : ℕ) (table : List (List (Option ℕ))) (lists : List (List (List Bool))) (ns : List (Option ℕ)) (list : List (List Bool)) (step : CertStep)
    → k < length table → ns ≡ get_or table k ns → slice_get lists k ≡ Some list → step_of bound known k ns list ≡ Some step
    → step_from bound known k (drop k table) (drop k lists) ≡ Some step
step_taken bound known k table lists ns list step lt e f g =
    step_on bound known k table lists ns list lt e f
    ∙ ap (λ (o : Option CertStep). first_of_both o (step_from bound known (k + 1) (drop (k + 1) table) (drop (k + 1) lists))) g

-- ---- how many columns and lists there are

pub sum_on : (n : ℕ) (xs : List ℕ) → sum (n ∷ xs) ≡ n + sum xs
sum_on n xs = omega (arith, sum_from (0 + n) xs)
  where
    sum_from : (m : ℕ) (ys : List ℕ) → fold ◌+◌ m ys ≡ m + sum ys
    sum_from m [] = omega arith
    sum_from m (y ∷ ys) = omega (arith, sum_from (m + y) ys, sum_from (0 + y) ys)

pub few_columns : (schemas : List (List Column)) (k : ℕ) (schema : List Column) → k < length schemas → schema ≡ get_or schemas k schema → length schema ≤ sum (arities_of schemas)
few_columns [] k schema lt e = absurd (omega arith)
few_columns (s ∷ schemas) zero schema lt e =
    let f : schema ≡ s = e in
    omega (arith, ap length f, sum_on (length s) (arities_of schemas))
few_columns (s ∷ schemas) (suc k) schema lt e =
    let ih : length schema ≤ sum (arities_of schemas) = few_columns schemas k schema (omega arith) e in
    omega (arith, ih, sum_on (length s) (arities_of schemas))

pub lists_length : (schemas : List (List Column)) (lists : List (List (List Bool))) → FitSchemes schemas lists → length lists ≡ length schemas
lists_length [] [] fit = refl
lists_length [] (l ∷ lists) fit = absurd fit
lists_length (s ∷ schemas) [] fit = absurd fit
lists_length (s ∷ schemas) (l ∷ lists) fit = ap suc (lists_length schemas lists fit.1)
