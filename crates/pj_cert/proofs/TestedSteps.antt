-- The test of certificates is true exactly for one.
use Rattle.std.proofs.Common.{ℕ, zero, suc, ◌+◌, ◌<◌, ◌≤◌, ◌≡◌, ◌≢◌, ◌⊎◌, length, nat_lt, arith, Bool, true, false, cond, not, ◌&&◌, List, [], ◌∷◌, ◌++◌, Some, drop, slice_get, refl, sym, ap, ◌∙◌, subst, inl, inr, append_assoc, append-nil, length-append, get_or}
use Rattle.std.specs.Prelude.{◌==◌}
use Rattle.std.proofs.lemmas.Bool.{and_parts, and_from, and_left, cases_eq, eq-eqb, false_from_ne_true, false≢true, ltb-true, lt-ltb, not_from_false, not-true}
use Rattle.pj_value.specs.Lists.{In, has}
use Rattle.pj_value.proofs.Members.{In-append_cases, In-map}
use Rattle.pj_value.proofs.Numbers.{has-in, in-has}
use Rattle.pj_shape.specs.declared.joins.CertStep.{CertStep}
use Rattle.pj_shape.specs.declared.joins.JoinSpec.{JoinSpec}
use Rattle.pj_shape.specs.Sets.{is_usable, schemes_of}
use Rattle.pj_shape.specs.Certificates.{AreSteps, IsCertificate, IsStep, steps_at, inputs_of}
use Rattle.pj_shape.proofs.Certificates.{in_or_none}
use Rattle.pj_graph.proofs.Steps.{drop_got}
use Rattle.pj_graph.proofs.Saturations.{one_fewer, step_in_range, unknown}
use Rattle.pj_graph.proofs.Certified.{AreFresh, certified}
use Rattle.pj_cert.specs.Tests.{all_known, can_use, step_holds, steps_hold}

-- ---- all numbers below another

pub not_all : (known : List ℕ) (k n : ℕ) → k < n → has known k ≡ false → all_known known n ≡ false
not_all known k zero lt out = absurd (omega arith)
not_all known k (suc n) lt out = go (cases_eq k n) (not_all known k n)
  where
    right : (b c : Bool) → c ≡ false → (b && c) ≡ false
    right true c e = e
    right false c e = refl

    go : (k ≡ n) ⊎ (k ≢ n) → (k < n → has known k ≡ false → all_known known n ≡ false) → (has known n && all_known known n) ≡ false
    go (inl same) ih = and_left (has known n) (all_known known n) (sym (ap (has known) same) ∙ out)
    go (inr differ) ih = right (has known n) (all_known known n) (ih (omega (arith, lt, differ)) out)

knows_at : (known : List ℕ) (n k : ℕ) → all_known known n ≡ true → k < n → has known k ≡ true
knows_at known zero k t lt = absurd (omega arith)
knows_at known (suc n) k t lt = go (cases_eq k n) (and_parts (has known n) (all_known known n) t) (knows_at known n k)
  where
    go : (k ≡ n) ⊎ (k ≢ n) → (has known n ≡ true) × (all_known known n ≡ true) → (all_known known n ≡ true → k < n → has known k ≡ true) → has known k ≡ true
    go (inl same) both ih = ap (has known) same ∙ both.0
    go (inr differ) both ih = ih both.1 (omega (arith, lt, differ))

knows_from : (known : List ℕ) (n : ℕ) → ((k : ℕ) → k < n → has known k ≡ true) → all_known known n ≡ true
knows_from known zero f = refl
knows_from known (suc n) f = and_from (has known n) (all_known known n) (f n (omega arith)) (knows_from known n (λ k lt. f k (omega (arith, lt))))

-- ---- one step

step_if : (spec : JoinSpec) (schemes : List (List (List Bool))) (known : List ℕ) (step : CertStep) → step_holds spec schemes known step ≡ true
    → IsStep spec schemes known step × (has known step.input ≡ false)
step_if spec schemes known step t =
    let both = and_parts (not (has known step.input)) (can_use spec.classes known step.input (schemes_of schemes step.input) step.scheme) t in
    let more = and_parts (nat_lt step.scheme (length (schemes_of schemes step.input))) (is_usable (has known) spec schemes step.input step.scheme) both.1 in
    (record { given = ltb-true step.scheme (length (schemes_of schemes step.input)) more.0; usable = more.1 }, not-true (has known step.input) both.0)

if_step : (spec : JoinSpec) (schemes : List (List (List Bool))) (known : List ℕ) (step : CertStep) → IsStep spec schemes known step → has known step.input ≡ false
    → step_holds spec schemes known step ≡ true
if_step spec schemes known step is new =
    and_from (not (has known step.input)) (can_use spec.classes known step.input (schemes_of schemes step.input) step.scheme) (not_from_false (has known step.input) new)
    (and_from (nat_lt step.scheme (length (schemes_of schemes step.input))) (is_usable (has known) spec schemes step.input step.scheme)
    (lt-ltb step.scheme (length (schemes_of schemes step.input)) is.given) is.usable)

pub steps_on : (spec : JoinSpec) (schemes : List (List (List Bool))) (known : List ℕ) (cert : List CertStep) (k : ℕ) (step : CertStep) → slice_get cert k ≡ Some step
    → steps_hold spec schemes known (drop k cert) ≡ (step_holds spec schemes known step && steps_hold spec schemes (known ++ step.input ∷ []) (drop (k + 1) cert))
steps_on spec schemes known cert k step e = ap (λ (steps : List CertStep). steps_hold spec schemes known steps) (drop_got cert k step e)

-- ---- the room for what is known

unknown_all : (n : ℕ) → unknown [] n ≡ n
unknown_all zero = refl
unknown_all (suc n) = omega (arith, unknown_all n)

pub room_at_first : (input n : ℕ) → input < n → 1 + unknown (input ∷ []) n ≤ n
room_at_first input n lt = omega (arith, one_fewer [] input n lt refl, unknown_all n)

pub one_added : (spec : JoinSpec) (schemes : List (List (List Bool))) (known : List ℕ) (step : CertStep) (n : ℕ) → length schemes ≡ n → step_holds spec schemes known step ≡ true
    → unknown (known ++ step.input ∷ []) n < unknown known n
one_added spec schemes known step n same t =
    let h = step_if spec schemes known step t in
    one_fewer known step.input n (subst (λ (m : ℕ). step.input < m) same (step_in_range spec schemes known step h.0)) h.1

pub room_kept : (spec : JoinSpec) (schemes : List (List (List Bool))) (known more : List ℕ) (step : CertStep) (n : ℕ) → length schemes ≡ n → step_holds spec schemes known step ≡ true
    → more ≡ known ++ step.input ∷ [] → length known + unknown known n ≤ n → length more + unknown more n ≤ n
room_kept spec schemes known more step n same t e few =
    let shorter : length (known ++ step.input ∷ []) + unknown (known ++ step.input ∷ []) n ≤ n =
    omega (arith, one_added spec schemes known step n same t, few, length-append known (step.input ∷ [])) in
    subst (λ (ks : List ℕ). length ks + unknown ks n ≤ n) (sym e) shorter

pub room_left : (spec : JoinSpec) (schemes : List (List (List Bool))) (known : List ℕ) (step : CertStep) (n : ℕ) → length schemes ≡ n → step_holds spec schemes known step ≡ true
    → length known + unknown known n ≤ n → n ≤ 16 → length known < 16
room_left spec schemes known step n same t few small = omega (arith, one_added spec schemes known step n same t, few, small)

pub steps_more : (spec : JoinSpec) (schemes : List (List (List Bool))) (known more : List ℕ) (cert : List CertStep) (k : ℕ) (step : CertStep) (b : Bool)
    → b ≡ steps_hold spec schemes known (drop k cert) → slice_get cert k ≡ Some step → step_holds spec schemes known step ≡ true → more ≡ known ++ step.input ∷ []
    → b ≡ steps_hold spec schemes more (drop (k + 1) cert)
steps_more spec schemes known more cert k step b e at t same =
    e ∙ steps_on spec schemes known cert k step at
    ∙ ap (λ (c : Bool). c && steps_hold spec schemes (known ++ step.input ∷ []) (drop (k + 1) cert)) t
    ∙ ap (λ (ks : List ℕ). steps_hold spec schemes ks (drop (k + 1) cert)) (sym same)

pub steps_end : (spec : JoinSpec) (schemes : List (List (List Bool))) (known : List ℕ) (cert : List CertStep) (k : ℕ) (step : CertStep)
    → slice_get cert k ≡ Some step → step_holds spec schemes known step ≡ false → steps_hold spec schemes known (drop k cert) ≡ false
steps_end spec schemes known cert k step at t =
    steps_on spec schemes known cert k step at ∙ ap (λ (c : Bool). c && steps_hold spec schemes (known ++ step.input ∷ []) (drop (k + 1) cert)) t

-- ---- the whole list

steps_if : (spec : JoinSpec) (schemes : List (List (List Bool))) (known : List ℕ) (cert : List CertStep) → steps_hold spec schemes known cert ≡ true
    → AreSteps spec schemes known cert × AreFresh known cert × (all_known (known ++ inputs_of cert) (length spec.inputs) ≡ true)
steps_if spec schemes known [] t = (tt, tt, subst (λ (ks : List ℕ). all_known ks (length spec.inputs) ≡ true) (sym (append-nil known)) t)
steps_if spec schemes known (step ∷ steps) t =
    let both = and_parts (step_holds spec schemes known step) (steps_hold spec schemes (known ++ step.input ∷ []) steps) t in
    let first = step_if spec schemes known step both.0 in
    let others = steps_if spec schemes (known ++ step.input ∷ []) steps both.1 in (
      (first.0, others.0),
      (first.1, others.1),
      subst (λ (ks : List ℕ). all_known ks (length spec.inputs) ≡ true) (append_assoc known (step.input ∷ []) (inputs_of steps)) others.2,
    )

if_steps : (spec : JoinSpec) (schemes : List (List (List Bool))) (known : List ℕ) (cert : List CertStep) → AreSteps spec schemes known cert → AreFresh known cert
    → all_known (known ++ inputs_of cert) (length spec.inputs) ≡ true → steps_hold spec schemes known cert ≡ true
if_steps spec schemes known [] are fresh all = subst (λ (ks : List ℕ). all_known ks (length spec.inputs) ≡ true) (append-nil known) all
if_steps spec schemes known (step ∷ steps) (is, are) (new, fresh) all =
    and_from (step_holds spec schemes known step) (steps_hold spec schemes (known ++ step.input ∷ []) steps)
    (if_step spec schemes known step is new)
    (if_steps spec schemes (known ++ step.input ∷ []) steps are fresh
    (subst (λ (ks : List ℕ). all_known ks (length spec.inputs) ≡ true) (sym (append_assoc known (step.input ∷ []) (inputs_of steps))) all))

-- ---- inputs that stand once

counted : (steps : List CertStep) (step : CertStep) → In step steps → suc zero ≤ steps_at steps step.input
counted [] step h = absurd h
counted (first ∷ steps) step (inl e) =
    let one : cond (first.input == step.input) 1 0 ≡ suc zero =
    ap (λ (b : Bool). cond b 1 0) (eq-eqb first.input step.input (ap (λ (s : CertStep). s.input) e)) in
    omega (arith, one)
counted (first ∷ steps) step (inr h) = omega (arith, counted steps step h)

fresh_if : (known : List ℕ) (steps : List CertStep) → ((step : CertStep) → In step steps → has known step.input ≡ false) → ((k : ℕ) → steps_at steps k ≤ suc zero) → AreFresh known steps
fresh_if known [] out few = tt
fresh_if known (step ∷ steps) out few = (out step (inl refl), fresh_if (known ++ step.input ∷ []) steps still (λ k. omega (arith, few k)))
  where
    first_counts : steps_at (step ∷ steps) step.input ≡ suc (steps_at steps step.input)
    first_counts =
        let one : cond (step.input == step.input) 1 0 ≡ suc zero = ap (λ (b : Bool). cond b 1 0) (eq-eqb step.input step.input refl) in
        omega (arith, one)

    differs : (other : CertStep) → In other steps → other.input ≢ step.input
    differs other h e =
        let again : steps_at steps other.input ≡ steps_at steps step.input = ap (steps_at steps) e in
        absurd (omega (arith, few step.input, first_counts, counted steps other h, again))

    still : (other : CertStep) → In other steps → has (known ++ step.input ∷ []) other.input ≡ false
    still other h = false_from_ne_true (has (known ++ step.input ∷ []) other.input) (λ t.
        elim (In-append_cases other.input known (step.input ∷ []) (has-in (known ++ step.input ∷ []) other.input t)) [
          | inl i ↦ false≢true (sym (out other (inr h)) ∙ in-has known other.input i)
          | inr i ↦ elim i [ inl e ↦ differs other h (sym e) | inr u ↦ absurd u ]
        ])

few_of : (spec : JoinSpec) (schemes : List (List (List Bool))) (input : ℕ) (cert : List CertStep) → IsCertificate spec schemes input cert → (k : ℕ) → steps_at cert k ≤ suc zero
few_of spec schemes input cert is k = go (in_or_none cert k)
  where
    go : In k (inputs_of cert) ⊎ (steps_at cert k ≡ zero) → steps_at cert k ≤ suc zero
    go (inr none) = omega (arith, none)
    go (inl h) =
        let step = In-map (λ (s : CertStep). s.input) k cert h in
        let only = is.only step.0 step.1 in
        let once = is.once k (subst (λ (m : ℕ). m < length spec.inputs) step.2 only.0) (λ e. only.1 (step.2 ∙ e)) in
        omega (arith, once)

certificate_if : (spec : JoinSpec) (schemes : List (List (List Bool))) (input : ℕ) (cert : List CertStep) → length schemes ≡ length spec.inputs
    → steps_hold spec schemes (input ∷ []) cert ≡ true → IsCertificate spec schemes input cert
certificate_if spec schemes input cert lengths t =
    let h = steps_if spec schemes (input ∷ []) cert t in
    certified spec schemes input cert lengths h.0 h.1 (λ k lt. has-in (input ∷ inputs_of cert) k (knows_at (input ∷ inputs_of cert) (length spec.inputs) k h.2 lt))

if_certificate : (spec : JoinSpec) (schemes : List (List (List Bool))) (input : ℕ) (cert : List CertStep) → IsCertificate spec schemes input cert
    → steps_hold spec schemes (input ∷ []) cert ≡ true
if_certificate spec schemes input cert is =
    if_steps spec schemes (input ∷ []) cert is.steps (fresh_if (input ∷ []) cert out (few_of spec schemes input cert is))
    (knows_from (input ∷ inputs_of cert) (length spec.inputs) (λ k lt. in-has (input ∷ inputs_of cert) k (stands k lt (cases_eq k input))))
  where
    out : (step : CertStep) → In step cert → has (input ∷ []) step.input ≡ false
    out step h = false_from_ne_true (has (input ∷ []) step.input) (λ t.
        elim (has-in (input ∷ []) step.input t) [ inl e ↦ (is.only step h).1 (sym e) | inr u ↦ absurd u ])

    listed : (k : ℕ) → steps_at cert k ≡ suc zero → In k (inputs_of cert) ⊎ (steps_at cert k ≡ zero) → In k (inputs_of cert)
    listed k one (inl h) = h
    listed k one (inr none) = absurd (omega (arith, one, none))

    stands : (k : ℕ) → k < length spec.inputs → (k ≡ input) ⊎ (k ≢ input) → In k (input ∷ inputs_of cert)
    stands k lt (inl same) = inl (sym same)
    stands k lt (inr differ) = inr (listed k (is.once k lt differ) (in_or_none cert k))

pub verified : (spec : JoinSpec) (schemes : List (List (List Bool))) (input : ℕ) (cert : List CertStep) → length schemes ≡ length spec.inputs
    → (steps_hold spec schemes (input ∷ []) cert ≡ true → IsCertificate spec schemes input cert) × (IsCertificate spec schemes input cert → steps_hold spec schemes (input ∷ []) cert ≡ true)
verified spec schemes input cert lengths = (certificate_if spec schemes input cert lengths, if_certificate spec schemes input cert)

-- those of so many inputs, the first ones
abbrev pub all_hold : JoinSpec → List (List (List Bool)) → List (List CertStep) → ℕ → Bool
all_hold spec schemes certs zero = true
all_hold spec schemes certs (suc n) = steps_hold spec schemes (n ∷ []) (get_or certs n []) && all_hold spec schemes certs n

pub all_verified : (spec : JoinSpec) (schemes : List (List (List Bool))) (certs : List (List CertStep)) → length schemes ≡ length spec.inputs → (n : ℕ) → all_hold spec schemes certs n ≡ true
    → (input : ℕ) → input < n → IsCertificate spec schemes input (get_or certs input [])
all_verified spec schemes certs lengths zero t input lt = absurd (omega (arith, lt))
all_verified spec schemes certs lengths (suc n) t input lt = go (cases_eq input n) (λ m. all_verified spec schemes certs lengths n both.1 input m)
  where
    both : (steps_hold spec schemes (n ∷ []) (get_or certs n []) ≡ true) × (all_hold spec schemes certs n ≡ true)
    both = and_parts (steps_hold spec schemes (n ∷ []) (get_or certs n [])) (all_hold spec schemes certs n) t

    go : (input ≡ n) ⊎ (input ≢ n) → (input < n → IsCertificate spec schemes input (get_or certs input [])) → IsCertificate spec schemes input (get_or certs input [])
    go (inl e) f = subst (λ (k : ℕ). IsCertificate spec schemes k (get_or certs k [])) (sym e) (certificate_if spec schemes n (get_or certs n []) lengths both.0)
    go (inr ne) f = f (omega (arith, lt, ne))
