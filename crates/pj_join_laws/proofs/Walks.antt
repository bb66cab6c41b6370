-- Certificates are walks.
use Rattle.std.proofs.Common.{ℕ, zero, suc, ◌+◌, ◌≤◌, ◌<◌, ◌≡◌, Bool, true, false, cond, ◌&&◌, ◌==◌, List, [], ◌∷◌, ◌++◌, Option, Some, None, map, length, get_or, refl, sym, ap, ◌∙◌, subst, inl, inr, zero-add, arith}
use Rattle.std.specs.Prelude.{slice_index}
use Rattle.std.proofs.lemmas.Bool.{false≢true, and_parts, eq-eqb}
use Rattle.std.proofs.lemmas.List.{length-map}
use Rattle.pj_value.specs.Lists.{In, has}
use Rattle.pj_value.proofs.Members.{In-append_cases, In-map, In-map_from, any_at, in-place}
use Rattle.pj_value.proofs.Numbers.{has-in}
use Rattle.pj_shape.specs.declared.columns.Column.{Column}
use Rattle.pj_shape.specs.declared.joins.CertStep.{CertStep}
use Rattle.pj_shape.specs.declared.joins.ClassCol.{ClassCol}
use Rattle.pj_shape.specs.declared.joins.JoinSpec.{JoinSpec}
use Rattle.pj_shape.specs.Joining.{class_from, class_of, has_column}
use Rattle.pj_shape.specs.Sound.{AreApart, FitSchemes}
use Rattle.pj_shape.specs.Sets.{are_bound, is_bound, touches}
use Rattle.pj_shape.specs.Certificates.{AreSteps, IsCertificate, steps_at}
use Rattle.pj_shape.proofs.Certificates.{counted, in_or_none, one_if}
use Rattle.pj_shape.proofs.Classes.{has_in}
use Rattle.pj_events.specs.Join.{AreCertified, CertEntry, JoinData, class_at, class_with, entry_of, inputs, steps_of}
use Rattle.pj_join_laws.specs.Walks.{AreBound, AreListedOnce, IsCertified, IsWalk}

-- ---- the class of a column

-- a column of a class has a first class
has_first : (k : ℕ) (classes : List (List ClassCol)) (at : ClassCol) (class : List ClassCol) → In class classes → has_column class at ≡ true → class_from k classes at ≡ None → ⊥
has_first k [] at class h t e = h
has_first k (c ∷ classes) at class h t e = go (has_column c at) refl h e (has_first (k + 1) classes at class)
  where
    go : (b : Bool) → has_column c at ≡ b → In class (c ∷ classes) → cond b (Some k) (class_from (k + 1) classes at) ≡ None
        → (In class classes → has_column class at ≡ true → class_from (k + 1) classes at ≡ None → ⊥) → ⊥
    go true q h e ih = cc
    go false q (inl same) e ih = false≢true (sym q ∙ (ap (λ (d : List ClassCol). has_column d at) same ∙ t))
    go false q (inr i) e ih = ih i t e

-- which is that class, since a column stands in one class at most
first_is : (k : ℕ) (classes : List (List ClassCol)) (at : ClassCol) (class : List ClassCol) (j : ℕ) → AreApart classes → In class classes → has_column class at ≡ true → class_from k classes at ≡ Some j
    → (i : ℕ) × (j ≡ k + i) × (get_or classes i [] ≡ class)
first_is k [] at class j apart h t e = absurd h
first_is k (c ∷ classes) at class j apart h t e = go (has_column c at) refl h e (first_is (k + 1) classes at class j apart.1)
  where
    same : has_column c at ≡ true → In class (c ∷ classes) → c ≡ class
    same q (inl f) = f
    same q (inr i) = absurd (apart.0 class i at (has_in c at q) (has_in class at t))

    go : (b : Bool) → has_column c at ≡ b → In class (c ∷ classes) → cond b (Some k) (class_from (k + 1) classes at) ≡ Some j
        → (In class classes → has_column class at ≡ true → class_from (k + 1) classes at ≡ Some j → (i : ℕ) × (j ≡ k + 1 + i) × (get_or classes i [] ≡ class))
        → (i : ℕ) × (j ≡ k + i) × (get_or (c ∷ classes) i [] ≡ class)
    go true q h e ih = let here : k ≡ j = cc in (0, omega (arith, here), same q h)
    go false q (inl f) e ih = absurd (false≢true (sym q ∙ (ap (λ (d : List ClassCol). has_column d at) f ∙ t)))
    go false q (inr i) e ih = let r = ih i t e in (suc r.0, omega (arith, r.1), r.2)

class_is : (classes : List (List ClassCol)) (at : ClassCol) (class : List ClassCol) → AreApart classes → In class classes → has_column class at ≡ true → class_at classes (class_of classes at) ≡ class
class_is classes at class apart h t = go (class_of classes at) refl
  where
    go : (o : Option ℕ) → class_of classes at ≡ o → class_at classes o ≡ class
    go None e = absurd (has_first 0 classes at class h t e)
    go (Some j) e = let f = first_is 0 classes at class j apart h t e in ap (λ (n : ℕ). get_or classes n []) (f.1 ∙ zero-add f.0) ∙ f.2

-- the class of a bound column has a column of an input of the set
bound_class : (inside : ℕ → Bool) (classes : List (List ClassCol)) (input column : ℕ) → AreApart classes → is_bound inside classes input column ≡ true → touches inside (class_with classes input column) ≡ true
bound_class inside classes input column apart t =
    let at : ClassCol = record { input = input; column = column } in
    let d = any_at (λ (class : List ClassCol). has_column class at && touches inside class) classes t in
    let both = and_parts (has_column d.0 at) (touches inside d.0) d.2 in
    subst (λ (c : List ClassCol). touches inside c ≡ true) (sym (class_is classes at d.0 apart d.1 both.0)) both.1

bound_columns : (known : List ℕ) (inside : ℕ → Bool) (classes : List (List ClassCol)) (input column : ℕ) (marks : List Bool) → AreApart classes → ((k : ℕ) → inside k ≡ true → In k known) → are_bound inside classes input column marks ≡ true
    → AreBound classes input column marks known
bound_columns known inside classes input column [] apart sub t = tt
bound_columns known inside classes input column (true ∷ marks) apart sub t =
    let both = and_parts (is_bound inside classes input column) (are_bound inside classes input (column + 1) marks) t in
    let d = any_at (λ (c : ClassCol). inside c.input) (class_with classes input column) (bound_class inside classes input column apart both.0) in
    ((d.0, d.1, sub d.0.input d.2), bound_columns known inside classes input (column + 1) marks apart sub both.1)
bound_columns known inside classes input column (false ∷ marks) apart sub t = bound_columns known inside classes input (column + 1) marks apart sub t

-- ---- the certificate of an input

fits_at : (schemas : List (List Column)) (schemes : List (List (List Bool))) (k : ℕ) (marks : List Bool) → FitSchemes schemas schemes → k < length schemas → In marks (get_or schemes k []) → length marks ≡ slice_index (map length schemas) k
fits_at [] schemes k marks fit lt h = absurd (omega (arith, lt))
fits_at (schema ∷ schemas) [] k marks fit lt h = absurd fit
fits_at (schema ∷ schemas) (list ∷ lists) zero marks fit lt h = fit.0 marks h
fits_at (schema ∷ schemas) (list ∷ lists) (suc k) marks fit lt h = fits_at schemas lists k marks fit.1 (omega (arith, lt)) h

-- steps over known inputs are a walk
walk : (spec : JoinSpec) (schemes : List (List (List Bool))) (known front : List ℕ) (steps : List CertStep) → AreApart spec.classes → FitSchemes spec.inputs schemes → ((k : ℕ) → In k front → In k known)
    → ((step : CertStep) → In step steps → step.input < length spec.inputs) → AreSteps spec schemes front steps → IsWalk spec (map (entry_of schemes) steps) known
walk spec schemes known front [] apart fit sub low are = tt
walk spec schemes known front (step ∷ steps) apart fit sub low (is, more) =
    let there : step.input < length spec.inputs = low step (inl refl) in
    let list : List (List Bool) = get_or schemes step.input [] in (
      (let long = length-map spec.inputs length in omega (arith, there, long)),
      fits_at spec.inputs schemes step.input (get_or list step.scheme []) fit there (in-place list [] step.scheme is.given),
      bound_columns known (has front) spec.classes step.input 0 (get_or list step.scheme []) apart (λ k t. sub k (has-in front k t)) is.usable,
      walk spec schemes (step.input ∷ known) (front ++ step.input ∷ []) steps apart fit behind (λ s h. low s (inr h)) more,
    )
  where
    last : (k : ℕ) → In k (step.input ∷ []) → In k (step.input ∷ known)
    last k (inl e) = inl e
    last k (inr h) = absurd h

    behind : (k : ℕ) → In k (front ++ step.input ∷ []) → In k (step.input ∷ known)
    behind k h = elim (In-append_cases k front (step.input ∷ []) h) [ inl i ↦ inr (sub k i) | inr i ↦ last k i ]

-- steps of different inputs, none of them known
listed_once : (spec : JoinSpec) (schemes : List (List (List Bool))) (known front : List ℕ) (steps : List CertStep) → AreSteps spec schemes front steps → ((step : CertStep) → In step steps → ¬ In step.input known)
    → ((step : CertStep) → In step steps → steps_at steps step.input ≤ 1) → AreListedOnce schemes steps known
listed_once spec schemes known front [] are new once = tt
listed_once spec schemes known front (step ∷ steps) (is, more) new once = (
  is.given,
  new step (inl refl),
  listed_once spec schemes (step.input ∷ known) (front ++ step.input ∷ []) steps more other (λ s h. let le = once s (inr h) in omega (arith, le)),
)
  where
    other : (s : CertStep) → In s steps → In s.input (step.input ∷ known) → ⊥
    other s h (inl e) =
        let one : one_if (step.input == s.input) ≡ 1 = ap one_if (eq-eqb step.input s.input e) in
        let le = once s (inr h) in
        let ge = counted steps s h in omega (arith, one, le, ge)
    other s h (inr i) = new s (inr h) i

-- a certificate is a walk
pub is_certified : (spec : JoinSpec) (schemes : List (List (List Bool))) (input : ℕ) (cert : List CertStep) → AreApart spec.classes → FitSchemes spec.inputs schemes → IsCertificate spec schemes input cert
    → IsCertified spec schemes input cert
is_certified spec schemes input cert apart fit c = record {
  listed = listed_once spec schemes (input ∷ []) (input ∷ []) cert c.steps others (λ step h. let o = c.only step h in let one = c.once step.input o.0 o.1 in omega (arith, one));
  walk = walk spec schemes (input ∷ []) (input ∷ []) cert apart fit (λ k h. h) (λ step h. (c.only step h).0) c.steps;
  others = λ k lt other. entry k (c.once k (let long = length-map spec.inputs length in omega (arith, lt, long)) other);
}
  where
    others : (step : CertStep) → In step cert → In step.input (input ∷ []) → ⊥
    others step h (inl e) = (c.only step h).1 (sym e)
    others step h (inr i) = i

    entry : (k : ℕ) → steps_at cert k ≡ 1 → (e : CertEntry) × In e (map (entry_of schemes) cert) × (e.input ≡ k)
    entry k one = elim (in_or_none cert k) [
      | inl h ↦ let s = In-map (λ (step : CertStep). step.input) k cert h in (entry_of schemes s.0, In-map_from (entry_of schemes) s.0 cert s.1, s.2)
      | inr none ↦ absurd (omega (arith, one, none))
    ]

-- the certificate of an input of a join
pub certified_at : (spec : JoinData) → AreCertified spec → (input : ℕ) → input < inputs spec → IsCertified spec.shape spec.schemes input (steps_of spec input)
certified_at spec certs input lt = is_certified spec.shape spec.schemes input (steps_of spec input) certs.apart certs.fitting (certs.each input lt)
