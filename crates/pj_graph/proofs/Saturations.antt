-- Saturations end, and what they know is what is reached.
use Rattle.std.specs.Prelude.{◌==◌}
use Rattle.std.proofs.Common.{ℕ, zero, suc, ◌+◌, ◌<◌, ◌≤◌, ◌≡◌, ◌≢◌, length, get_or, arith, Bool, true, false, not, ◌&&◌, ◌||◌, List, [], ◌∷◌, ◌++◌, Some, refl, sym, ap, ◌∙◌, subst, inl, inr, append_assoc, append-nil}
use Rattle.std.specs.List.{list_any}
use Rattle.std.proofs.lemmas.Bool.{and_parts, and_from, eqb-true, eqb-false, false≢true}
use Rattle.pj_value.specs.Lists.{In, has}
use Rattle.pj_value.proofs.Members.{In-append_cases, In-append_left, In-append_right, any_at, any_from}
use Rattle.pj_value.proofs.Numbers.{has-in, in-has}
use Rattle.pj_shape.specs.declared.joins.CertStep.{CertStep}
use Rattle.pj_shape.specs.declared.joins.ClassCol.{ClassCol}
use Rattle.pj_shape.specs.declared.joins.JoinSpec.{JoinSpec}
use Rattle.pj_shape.specs.Joining.{has_column}
use Rattle.pj_shape.specs.Sets.{are_bound, is_bound, is_usable, IsClosed, Reaches, schemes_of, touches}
use Rattle.pj_shape.specs.Certificates.{AreSteps, IsStep, inputs_of}
use Rattle.pj_graph.specs.Search.{IsNext}

-- ---- numbers among numbers

pub among_left : (numbers others : List ℕ) (k : ℕ) → has numbers k ≡ true → has (numbers ++ others) k ≡ true
among_left numbers others k t = in-has (numbers ++ others) k (In-append_left k numbers others (has-in numbers k t))

pub among_last : (numbers : List ℕ) (k : ℕ) → has (numbers ++ k ∷ []) k ≡ true
among_last numbers k = in-has (numbers ++ k ∷ []) k (In-append_right k numbers (k ∷ []) (inl refl))

-- ---- the search ends

-- one for a number that is not known
abbrev pub one_if_out : Bool → ℕ
one_if_out true = 0
one_if_out false = 1

-- how many of the first n numbers are none of these
abbrev pub unknown : List ℕ → ℕ → ℕ
unknown known zero = 0
unknown known (suc n) = one_if_out (has known n) + unknown known n

fewer_or_same : (a b : Bool) → (a ≡ true → b ≡ true) → one_if_out b ≤ one_if_out a
fewer_or_same true b f = let e : one_if_out b ≡ 0 = ap (λ (c : Bool). one_if_out c) (f refl) in omega (arith, e)
fewer_or_same false true f = omega arith
fewer_or_same false false f = omega arith

no_more : (known : List ℕ) (k n : ℕ) → unknown (known ++ k ∷ []) n ≤ unknown known n
no_more known k zero = omega arith
no_more known k (suc n) = omega (arith, no_more known k n, fewer_or_same (has known n) (has (known ++ k ∷ []) n) (among_left known (k ∷ []) n))

pub one_fewer : (known : List ℕ) (k n : ℕ) → k < n → has known k ≡ false → unknown (known ++ k ∷ []) n < unknown known n
one_fewer known k zero lt out = absurd (omega arith)
one_fewer known k (suc n) lt out = go (n == k) refl (one_fewer known k n)
  where
    now : one_if_out (has known k) ≡ 1
    now = ap (λ (b : Bool). one_if_out b) out

    then : one_if_out (has (known ++ k ∷ []) k) ≡ 0
    then = ap (λ (b : Bool). one_if_out b) (among_last known k)

    same : n ≡ k → unknown (known ++ k ∷ []) (suc n) < unknown known (suc n)
    same e =
        let now_n : one_if_out (has known n) ≡ 1 = ap (λ (m : ℕ). one_if_out (has known m)) e ∙ now in
        let then_n : one_if_out (has (known ++ k ∷ []) n) ≡ 0 = ap (λ (m : ℕ). one_if_out (has (known ++ k ∷ []) m)) e ∙ then in
        omega (arith, now_n, then_n, no_more known k n)

    go : (b : Bool) → (n == k) ≡ b → (k < n → has known k ≡ false → unknown (known ++ k ∷ []) n < unknown known n)
        → unknown (known ++ k ∷ []) (suc n) < unknown known (suc n)
    go true t ih = same (eqb-true n k t)
    go false t ih =
        let differ : n ≢ k = eqb-false n k t in
        omega (arith, ih (omega (arith, lt, differ)) out, fewer_or_same (has known n) (has (known ++ k ∷ []) n) (among_left known (k ∷ []) n))

pub no_scheme : (schemes : List (List (List Bool))) (k s : ℕ) → s < length (schemes_of schemes k) → k < length schemes
no_scheme [] k s lt = absurd (omega (arith, lt))
no_scheme (list ∷ lists) zero s lt = omega arith
no_scheme (list ∷ lists) (suc k) s lt = omega (arith, no_scheme lists k s lt)

pub step_in_range : (spec : JoinSpec) (schemes : List (List (List Bool))) (known : List ℕ) (step : CertStep) → IsStep spec schemes known step → step.input < length schemes
step_in_range spec schemes known step h = no_scheme schemes step.input step.scheme h.given

pub search_ends : (spec : JoinSpec) (schemes : List (List (List Bool))) (known : List ℕ) (step : CertStep)
    → IsNext spec schemes known (Some step) → unknown (known ++ step.input ∷ []) (length schemes) < unknown known (length schemes)
search_ends spec schemes known step h = one_fewer known step.input (length schemes) (step_in_range spec schemes known step h.is_step) h.is_new

-- ---- what is bound in a set is bound in a larger one

any_more : {A : Type 0} (p q : A → Bool) (xs : List A) → ((x : A) → p x ≡ true → q x ≡ true) → list_any p xs ≡ true → list_any q xs ≡ true
any_more p q xs f t = let r = any_at p xs t in any_from q xs r.0 r.1 (f r.0 r.2)

bound_more : (few many : ℕ → Bool) → ((k : ℕ) → few k ≡ true → many k ≡ true) → (classes : List (List ClassCol)) (input column : ℕ)
    → is_bound few classes input column ≡ true → is_bound many classes input column ≡ true
bound_more few many f classes input column = any_more
    (λ class. has_column class (record { input = input; column = column }) && touches few class)
    (λ class. has_column class (record { input = input; column = column }) && touches many class)
    classes
    (λ class t.
    let both = and_parts (has_column class (record { input = input; column = column })) (touches few class) t in
    and_from (has_column class (record { input = input; column = column })) (touches many class) both.0
    (any_more (λ (c : ClassCol). few c.input) (λ (c : ClassCol). many c.input) class (λ c u. f c.input u) both.1))

or_more : (a b c : Bool) → (b ≡ true → c ≡ true) → (a || b) ≡ true → (a || c) ≡ true
or_more true b c f t = refl
or_more false b c f t = f t

are_bound_more : (few many : ℕ → Bool) → ((k : ℕ) → few k ≡ true → many k ≡ true) → (classes : List (List ClassCol)) (input column : ℕ) (marks : List Bool)
    → are_bound few classes input column marks ≡ true → are_bound many classes input column marks ≡ true
are_bound_more few many f classes input column [] t = refl
are_bound_more few many f classes input column (mark ∷ marks) t =
    let both = and_parts (not mark || is_bound few classes input column) (are_bound few classes input (column + 1) marks) t in
    and_from (not mark || is_bound many classes input column) (are_bound many classes input (column + 1) marks)
    (or_more (not mark) (is_bound few classes input column) (is_bound many classes input column) (bound_more few many f classes input column) both.0)
    (are_bound_more few many f classes input (column + 1) marks both.1)

pub usable_more : (few many : ℕ → Bool) → ((k : ℕ) → few k ≡ true → many k ≡ true) → (spec : JoinSpec) (schemes : List (List (List Bool))) (k s : ℕ)
    → is_usable few spec schemes k s ≡ true → is_usable many spec schemes k s ≡ true
usable_more few many f spec schemes k s = are_bound_more few many f spec.classes k 0 (get_or (schemes_of schemes k) s [])

-- ---- what is known is in every closed set

known_inside : (spec : JoinSpec) (schemes : List (List (List Bool))) (inside : ℕ → Bool) (known : List ℕ) (steps : List CertStep) → IsClosed spec schemes inside
    → AreSteps spec schemes known steps → ((k : ℕ) → In k known → inside k ≡ true) → (k : ℕ) → In k (known ++ inputs_of steps) → inside k ≡ true
known_inside spec schemes inside known [] closed steps f k h = f k (subst (λ (ks : List ℕ). In k ks) (append-nil known) h)
known_inside spec schemes inside known (step ∷ steps) closed (first, others) f k h =
    known_inside spec schemes inside (known ++ step.input ∷ []) steps closed others added k
    (subst (λ (ks : List ℕ). In k ks) (sym (append_assoc known (step.input ∷ []) (inputs_of steps))) h)
  where
    reached : (b : Bool) → inside step.input ≡ b → inside step.input ≡ true
    reached true t = t
    reached false t = absurd (false≢true (sym (closed step.input step.scheme t first.given)
        ∙ usable_more (has known) inside (λ m u. f m (has-in known m u)) spec schemes step.input step.scheme first.usable))

    added : (m : ℕ) → In m (known ++ step.input ∷ []) → inside m ≡ true
    added m i = elim (In-append_cases m known (step.input ∷ []) i) [
      | inl j ↦ f m j
      | inr j ↦ elim j [ inl e ↦ ap inside (sym e) ∙ reached (inside step.input) refl | inr u ↦ absurd u ]
    ]

pub steps_reach : (spec : JoinSpec) (schemes : List (List (List Bool))) (input : ℕ) (steps : List CertStep) → AreSteps spec schemes (input ∷ []) steps
    → (k : ℕ) → In k (input ∷ inputs_of steps) → Reaches spec schemes input k
steps_reach spec schemes input steps h k i inside closed t = known_inside spec schemes inside (input ∷ []) steps closed h start k i
  where
    start : (m : ℕ) → In m (input ∷ []) → inside m ≡ true
    start m (inl e) = ap inside (sym e) ∙ t
    start m (inr u) = absurd u
