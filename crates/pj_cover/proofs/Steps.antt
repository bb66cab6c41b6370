-- The steps of a certificate.
use Rattle.std.proofs.Common.{◌≡◌, ◌<◌, ◌≤◌, ◌+◌, ℕ, suc, zero, Bool, true, false, List, [], ◌∷◌, ◌⊎◌, length, map, get_or, sum, refl, sym, ap, ◌∙◌, subst, eqb, inl, inr, arith}
use Rattle.std.specs.List.{IsDistinct, list_any, AllByRecursion, fold}
use Rattle.std.proofs.lemmas.Bool.{eqb-true, eq-eqb, false_from_ne_true}
use Rattle.std.proofs.lemmas.List.{get_or-map}
use Rattle.std.proofs.lemmas.Map.Keys.{IsDistinct-cons}
use Rattle.std.proofs.lemmas.Map.Steps.{length-le_from_distinct_below}
use Rattle.pj_value.specs.declared.values.Value.{Value}
use Rattle.pj_value.proofs.Members.{any_at, any_from}
use Rattle.pj_shape.specs.declared.joins.JoinSpec.{JoinSpec}
use Rattle.pj_shape.specs.Sound.{arities_of, FitSchemes, IsSoundSpec}
use Rattle.pj_shape.specs.Certificates.{IsCertificate}
use Rattle.pj_events.specs.Join.{In, TupleAt, CertStep, agree}
use Rattle.pj_puncts.specs.Stores.{Store}
use Rattle.pj_cover.specs.Asking.{AreParts, IsOnWalk, IsStep, entries, inputs_of, marks_of}
use Rattle.pj_rows.proofs.Agreeing.{alone_agree}
use Rattle.pj_join_laws.specs.Walks.{AreListedOnce, IsCertified, IsWalk}
use Rattle.pj_join_laws.proofs.Walks.{is_certified}

pub listed_input : {A : Type 0} (schemes : List (List A)) (input scheme : ℕ) → scheme < length (get_or schemes input []) → input < length schemes
listed_input [] input scheme lt = absurd (omega (arith, lt))
listed_input (s ∷ schemes) zero scheme lt = omega arith
listed_input (s ∷ schemes) (suc input) scheme lt = let r : input < length schemes = listed_input schemes input scheme lt in omega (arith, r)

pub length-map : {A B : Type 0} (f : A → B) (xs : List A) → length (map f xs) ≡ length xs
length-map f [] = refl
length-map f (x ∷ xs) = ap suc (length-map f xs)

fold-least : (acc : ℕ) (ns : List ℕ) → acc ≤ fold (λ a b. a + b) acc ns
fold-least acc [] = omega arith
fold-least acc (m ∷ ns) = let le : acc + m ≤ fold (λ a b. a + b) (acc + m) ns = fold-least (acc + m) ns in omega (arith, le)

fold-most : (acc : ℕ) (ns : List ℕ) (i : ℕ) → get_or ns i 0 + acc ≤ fold (λ a b. a + b) acc ns
fold-most acc [] i = omega arith
fold-most acc (m ∷ ns) zero = let le : acc + m ≤ fold (λ a b. a + b) (acc + m) ns = fold-least (acc + m) ns in omega (arith, le)
fold-most acc (m ∷ ns) (suc i) = let le : get_or ns i 0 + (acc + m) ≤ fold (λ a b. a + b) (acc + m) ns = fold-most (acc + m) ns i in omega (arith, le)

at-most-sum : (ns : List ℕ) (i n : ℕ) → sum ns ≤ n → get_or ns i 0 ≤ n
at-most-sum ns i n le = let most : get_or ns i 0 + 0 ≤ sum ns = fold-most 0 ns i in omega (arith, most, le)

-- what a step of a walk needs
pub step_ready : (spec : JoinSpec) (schemes : List (List (List Bool))) (rows : ℕ → List (ℕ × List Value)) (punct_stores : List Store) (step : CertStep) (steps : List CertStep) (xs : List TupleAt)
    → AreParts spec rows punct_stores → IsOnWalk spec schemes (step ∷ steps) xs → IsStep schemes punct_stores step
step_ready spec schemes rows punct_stores step steps xs parts walk =
    let count : length punct_stores ≡ length (arities_of spec.inputs) = sym (length-map (λ (s : Store). s.arity) punct_stores) ∙ ap length parts.one_each in
    let within : step.input < length (arities_of spec.inputs) = walk.walk.0 in
    let here : step.input < length punct_stores = omega (arith, count, within) in
    let same : length (marks_of schemes step) ≡ get_or (arities_of spec.inputs) step.input 0 = walk.walk.1 in
    let few : get_or (arities_of spec.inputs) step.input 0 ≤ 120 = at-most-sum (arities_of spec.inputs) step.input 120 parts.sound.few_columns in
    record {
      scheme = walk.listed.0;
      store = here;
      fits = λ d. same ∙ ap (λ (ns : List ℕ). get_or ns step.input 0) (sym parts.one_each) ∙ get_or-map (λ (s : Store). s.arity) punct_stores step.input d 0 here;
      few = omega (arith, same, few);
    }

-- one row more, for the first step
pub walk_more : (spec : JoinSpec) (schemes : List (List (List Bool))) (step : CertStep) (steps : List CertStep) (xs : List TupleAt) (y : TupleAt)
    → IsOnWalk spec schemes (step ∷ steps) xs → y.input ≡ step.input → length y.row ≡ get_or (arities_of spec.inputs) y.input 0 → agree spec.classes (y ∷ xs) ≡ true
    → IsOnWalk spec schemes steps (y ∷ xs)
walk_more spec schemes step steps xs y walk i fit joined =
    let few : length xs + length (step ∷ steps) ≤ 16 = walk.few in
    record {
      listed = subst (λ (n : ℕ). AreListedOnce schemes steps (n ∷ inputs_of xs)) (sym i) walk.listed.2;
      walk = subst (λ (n : ℕ). IsWalk spec (entries schemes steps) (n ∷ inputs_of xs)) (sym i) walk.walk.3;
      fit = λ x h. elim h [ inl q ↦ subst (λ (z : TupleAt). length z.row ≡ get_or (arities_of spec.inputs) z.input 0) q fit | inr k ↦ walk.fit x k ];
      joined = joined;
      few = omega (arith, few);
    }

-- ---- there are no more steps than other inputs

apart-from : (x : ℕ) (ns : List ℕ) → ¬ In x ns → AllByRecursion (λ y. eqb x y ≡ false) ns
apart-from x [] f = tt
apart-from x (n ∷ ns) f = (false_from_ne_true (eqb x n) (λ t. f (inl (sym (eqb-true x n t)))), apart-from x ns (λ h. f (inr h)))

pub few_steps : (spec : JoinSpec) (schemes : List (List (List Bool))) (steps : List CertStep) (known : List ℕ) → AreListedOnce schemes steps known → IsWalk spec (entries schemes steps) known
    → IsDistinct eqb known → ((q : ℕ) → list_any (eqb q) known ≡ true → q < length (arities_of spec.inputs)) → length known + length steps ≤ length (arities_of spec.inputs)
few_steps spec schemes [] known listed walk apart below = let le : length known ≤ length (arities_of spec.inputs) = length-le_from_distinct_below known (length (arities_of spec.inputs)) apart below in omega (arith, le)
few_steps spec schemes (step ∷ steps) known listed walk apart below =
    let le : length (step.input ∷ known) + length steps ≤ length (arities_of spec.inputs) =
    few_steps spec schemes steps (step.input ∷ known) listed.2 walk.3 (IsDistinct-cons eqb step.input known (apart-from step.input known listed.1) apart)
    (λ q t. let m = any_at (eqb q) (step.input ∷ known) t in more q m.0 m.1 (eqb-true q m.0 m.2)) in
    omega (arith, le)
  where
    more : (q n : ℕ) → (step.input ≡ n) ⊎ In n known → q ≡ n → q < length (arities_of spec.inputs)
    more q n (inl same) e = subst (λ (m : ℕ). m < length (arities_of spec.inputs)) (same ∙ sym e) walk.0
    more q n (inr h) e = below q (any_from (eqb q) known n h (eq-eqb q n e))

-- with an input's own there are at most 16
pub certified_few : (spec : JoinSpec) (schemes : List (List (List Bool))) (steps : List CertStep) (own : ℕ) → IsSoundSpec spec → own < length spec.inputs → IsCertified spec schemes own steps → 1 + length steps ≤ 16
unfolding IsDistinct
certified_few spec schemes steps own sound within cert =
    let count : length (arities_of spec.inputs) ≡ length spec.inputs = length-map length spec.inputs in
    let most : length spec.inputs ≤ 16 = sound.few_inputs.1 in
    let few : 1 + length steps ≤ length (arities_of spec.inputs) = few_steps spec schemes steps (own ∷ []) cert.listed cert.walk (IsDistinct-cons eqb own [] tt tt)
    (λ q t. let m = any_at (eqb q) (own ∷ []) t in let e : q ≡ m.0 = eqb-true q m.0 m.2 in only q m.0 m.1 e) in
    omega (arith, few, most, count)
  where
    only : (q n : ℕ) → (own ≡ n) ⊎ ⊥ → q ≡ n → q < length (arities_of spec.inputs)
    only q n (inl same) e = let count : length (arities_of spec.inputs) ≡ length spec.inputs = length-map length spec.inputs in omega (arith, same, e, count, within)
    only q n (inr none) e = absurd none

-- the certificate of a row that fits its input
pub walk_starts : (spec : JoinSpec) (schemes : List (List (List Bool))) (rows : ℕ → List (ℕ × List Value)) (punct_stores : List Store) (steps : List CertStep) (x : TupleAt)
    → AreParts spec rows punct_stores → x.input < length spec.inputs → FitSchemes spec.inputs schemes → IsCertificate spec schemes x.input steps → length x.row ≡ get_or (arities_of spec.inputs) x.input 0 → IsOnWalk spec schemes steps (x ∷ [])
walk_starts spec schemes rows punct_stores steps x parts within schemed certificate fit =
    let cert = is_certified spec schemes x.input steps parts.sound.apart schemed certificate in
    record {
      listed = cert.listed;
      walk = cert.walk;
      fit = λ z h. elim h [ inl q ↦ subst (λ (y : TupleAt). length y.row ≡ get_or (arities_of spec.inputs) y.input 0) q fit | inr n ↦ absurd n ];
      joined = alone_agree spec x parts.sound;
      few = certified_few spec schemes steps x.input parts.sound within cert;
    }
