-- The join of the tests is sound, and its certificate is one.
use Rattle.std.proofs.Common.{◌≡◌, ◌<◌, ℕ, zero, suc, Bool, false, List, [], ◌∷◌, map, length, get_or, refl, sym, ap, ◌∙◌, inl, inr, arith, subst, eqb, cond}
use Rattle.std.proofs.lemmas.Bool.{eqb-true, false_from_ne_true}
use Rattle.pj_value.specs.declared.values.Value.{Value}
use Rattle.pj_value.specs.declared.values.Kind.TheVariants.{Int}
use Rattle.pj_shape.specs.declared.joins.ClassCol.{ClassCol}
use Rattle.pj_value.specs.Lists.{In}
use Rattle.pj_shape.specs.Sound.{IsSoundSpec, IsSoundClass, IsOfKind, FitSchemes, arities_of}
use Rattle.pj_shape.specs.Certificates.{IsCertificate}
use Rattle.pj_shape.proofs.Tested.{apart_if, fit_if}
use Rattle.pj_puncts.specs.Stores.{Store}
use Rattle.pj_cover.specs.Asking.{AreParts, HaveLength}
use Rattle.pj_test_states.specs.Chain.{number, pair, pairs, at, firsts, seconds, chain, chain_schemes, chain_cert, two_rows}
use Rattle.pj_cert.proofs.TestedSteps.{verified}

chain-class : (a b c d : ℕ) → (a ≡ b → ⊥) → IsOfKind pairs (at a c) Int → IsOfKind pairs (at b d) Int → IsSoundClass pairs (at a c ∷ at b d ∷ [])
chain-class a b c d apart one two = record {
  several = omega arith;
  one_each = ((λ other h e. last other h e), ((λ other h. absurd h), tt));
  same_kind = (Int, λ e h. kind e h);
}
  where
    last : (other : ClassCol) → In other (at b d ∷ []) → other.input ≡ a → ⊥
    last other (inl e) k = apart (sym k ∙ sym (ap (λ (x : ClassCol). x.input) e))
    last other (inr e) k = absurd e

    kind : (e : ClassCol) → In e (at a c ∷ at b d ∷ []) → IsOfKind pairs e Int
    kind e (inl p) = subst (λ (x : ClassCol). IsOfKind pairs x Int) p one
    kind e (inr (inl p)) = subst (λ (x : ClassCol). IsOfKind pairs x Int) p two
    kind e (inr (inr p)) = absurd p

chain-sound : IsSoundSpec chain
chain-sound = record {
  few_inputs = (omega arith, omega arith);
  few_classes = (omega arith, omega arith);
  few_columns = omega arith;
  sound_classes = λ class h. classes class h;
  apart = apart_if chain.classes refl;
}
  where
    classes : (class : List ClassCol) → In class (firsts ∷ seconds ∷ []) → IsSoundClass pairs class
    classes class (inl e) = subst (IsSoundClass pairs) e (chain-class 0 1 0 0 (λ q. omega (arith, q)) (pair, number, refl, refl, refl) (pair, number, refl, refl, refl))
    classes class (inr (inl e)) = subst (IsSoundClass pairs) e (chain-class 1 2 1 1 (λ q. omega (arith, q)) (pair, number, refl, refl, refl) (pair, number, refl, refl, refl))
    classes class (inr (inr e)) = absurd e

pub chain_fits : FitSchemes chain.inputs chain_schemes
chain_fits = fit_if chain.inputs chain_schemes refl

pub chain_certified : IsCertificate chain chain_schemes 0 chain_cert
chain_certified = (verified chain chain_schemes 0 chain_cert refl).0 refl

-- two rows of two columns, and stores of that arity, fit it
pub chain_parts : (one other : List Value) (stores : List Store) → length one ≡ 2 → length other ≡ 2 → map (λ s. s.arity) stores ≡ 2 ∷ 2 ∷ 2 ∷ [] → AreParts chain (two_rows one other) stores
chain_parts one other stores a b arities = record { sound = chain-sound; fit = λ i lt. fit i lt; one_each = arities }
  where
    two : (r : ℕ × List Value) → In r ((1, one) ∷ (2, other) ∷ []) → length r.1 ≡ 2
    two r (inl e) = sym (ap (λ (q : ℕ × List Value). length q.1) e) ∙ a
    two r (inr (inl e)) = sym (ap (λ (q : ℕ × List Value). length q.1) e) ∙ b
    two r (inr (inr e)) = absurd e

    fit : (i : ℕ) → i < 3 → HaveLength (get_or (arities_of pairs) i 0) (two_rows one other i)
    fit zero lt = λ r h. absurd h
    fit (suc zero) lt = two
    fit (suc (suc k)) lt = λ r h.
        let e : eqb (suc (suc k)) 1 ≡ false = false_from_ne_true (eqb (suc (suc k)) 1) (λ t. let n : suc (suc k) ≡ 1 = eqb-true (suc (suc k)) 1 t in omega (arith, n)) in
        absurd (subst (λ (b : Bool). In r (cond b ((1, one) ∷ (2, other) ∷ []) [])) e h)
