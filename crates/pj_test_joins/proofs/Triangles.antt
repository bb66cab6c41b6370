-- The join of three inputs of which each two share a column is sound and certified.
use Rattle.std.proofs.Common.{ℕ, zero, suc, ◌<◌, ◌≢◌, ◌≡◌, Bool, List, [], ◌∷◌, refl, sym, ap, ◌∙◌, inl, inr, map, arith, subst}
use Rattle.pj_value.specs.declared.values.Kind.TheVariants.{Int}
use Rattle.pj_value.specs.Lists.{In}
use Rattle.pj_shape.specs.declared.joins.CertStep.{CertStep}
use Rattle.pj_shape.specs.declared.joins.ClassCol.{ClassCol}
use Rattle.pj_shape.specs.declared.joins.JoinSpec.{JoinSpec}
use Rattle.pj_shape.specs.Sound.{IsSoundSpec, IsSoundClass, IsOfKind}
use Rattle.pj_shape.proofs.Tested.{apart_if, fit_if}
use Rattle.pj_events.specs.Join.{AreCertified}
use Rattle.pj_join.specs.Joins.{join_data}
use Rattle.pj_test_joins.specs.Triples.{number, pair, at, triangle, triangle_certs, triangle_join, triangle_schemes}
use Rattle.pj_cert.proofs.TestedSteps.{all_verified}

-- a class of two columns
of_two : (a b : ClassCol) → (a.input ≡ b.input → ⊥) → IsOfKind (pair ∷ pair ∷ pair ∷ []) a Int → IsOfKind (pair ∷ pair ∷ pair ∷ []) b Int → IsSoundClass (pair ∷ pair ∷ pair ∷ []) (a ∷ b ∷ [])
of_two a b ne ka kb = record {
  several = omega arith;
  one_each = (λ other h. apart other h, (λ other h. absurd h, tt));
  same_kind = (Int, λ c h. kind c h);
}
  where
    apart : (other : ClassCol) → In other (b ∷ []) → other.input ≡ a.input → ⊥
    apart other (inl e) k = ne (sym (ap (λ (c : ClassCol). c.input) e ∙ k))
    apart other (inr e) k = absurd e

    kind : (c : ClassCol) → In c (a ∷ b ∷ []) → IsOfKind (pair ∷ pair ∷ pair ∷ []) c Int
    kind c (inl e) = subst (λ (d : ClassCol). IsOfKind (pair ∷ pair ∷ pair ∷ []) d Int) e ka
    kind c (inr (inl e)) = subst (λ (d : ClassCol). IsOfKind (pair ∷ pair ∷ pair ∷ []) d Int) e kb
    kind c (inr (inr e)) = absurd e

-- two classes have no column in common
none_in_both : (a b c d x : ClassCol) → (a ≡ c → ⊥) → (a ≡ d → ⊥) → (b ≡ c → ⊥) → (b ≡ d → ⊥) → In x (a ∷ b ∷ []) → In x (c ∷ d ∷ []) → ⊥
none_in_both a b c d x ac ad bc bd (inl e) (inl f) = ac (e ∙ sym f)
none_in_both a b c d x ac ad bc bd (inl e) (inr (inl f)) = ad (e ∙ sym f)
none_in_both a b c d x ac ad bc bd (inr (inl e)) (inl f) = bc (e ∙ sym f)
none_in_both a b c d x ac ad bc bd (inr (inl e)) (inr (inl f)) = bd (e ∙ sym f)
none_in_both a b c d x ac ad bc bd (inl e) (inr (inr f)) = absurd f
none_in_both a b c d x ac ad bc bd (inr (inl e)) (inr (inr f)) = absurd f
none_in_both a b c d x ac ad bc bd (inr (inr e)) k = absurd e

by_input : (i c k d : ℕ) → (i ≡ k → ⊥) → at i c ≡ at k d → ⊥
by_input i c k d ne e = ne (ap (λ (x : ClassCol). x.input) e)

by_column : (i c k d : ℕ) → (c ≡ d → ⊥) → at i c ≡ at k d → ⊥
by_column i c k d ne e = ne (ap (λ (x : ClassCol). x.column) e)

pub triangle_sound : IsSoundSpec triangle
triangle_sound = record {
  few_inputs = (omega arith, omega arith);
  few_classes = (omega arith, omega arith);
  few_columns = omega arith;
  sound_classes = λ class h. classes class h;
  apart = (λ other h c k. first other h c k, (λ other h c k. second other h c k, (λ other h. absurd h, tt)));
}
  where
    classes : (class : List ClassCol) → In class triangle.classes → IsSoundClass (pair ∷ pair ∷ pair ∷ []) class
    classes class (inl e) = subst (λ (k : List ClassCol). IsSoundClass (pair ∷ pair ∷ pair ∷ []) k) e (of_two (at 0 0) (at 1 0) (λ q. omega (arith, q)) (pair, number, refl, refl, refl) (pair, number, refl, refl, refl))
    classes class (inr (inl e)) = subst (λ (k : List ClassCol). IsSoundClass (pair ∷ pair ∷ pair ∷ []) k) e (of_two (at 1 1) (at 2 0) (λ q. omega (arith, q)) (pair, number, refl, refl, refl) (pair, number, refl, refl, refl))
    classes class (inr (inr (inl e))) = subst (λ (k : List ClassCol). IsSoundClass (pair ∷ pair ∷ pair ∷ []) k) e (of_two (at 0 1) (at 2 1) (λ q. omega (arith, q)) (pair, number, refl, refl, refl) (pair, number, refl, refl, refl))
    classes class (inr (inr (inr e))) = absurd e

    first : (other : List ClassCol) → In other ((at 1 1 ∷ at 2 0 ∷ []) ∷ (at 0 1 ∷ at 2 1 ∷ []) ∷ []) → (c : ClassCol) → In c (at 0 0 ∷ at 1 0 ∷ []) → In c other → ⊥
    first other (inl e) c k m =
        none_in_both (at 0 0) (at 1 0) (at 1 1) (at 2 0) c (by_input 0 0 1 1 (λ q. omega (arith, q))) (by_input 0 0 2 0 (λ q. omega (arith, q))) (by_column 1 0 1 1 (λ q. omega (arith, q))) (by_input 1 0 2 0 (λ q. omega (arith, q))) k
        (subst (λ (l : List ClassCol). In c l) (sym e) m)
    first other (inr (inl e)) c k m =
        none_in_both (at 0 0) (at 1 0) (at 0 1) (at 2 1) c (by_column 0 0 0 1 (λ q. omega (arith, q))) (by_input 0 0 2 1 (λ q. omega (arith, q))) (by_input 1 0 0 1 (λ q. omega (arith, q))) (by_input 1 0 2 1 (λ q. omega (arith, q))) k
        (subst (λ (l : List ClassCol). In c l) (sym e) m)
    first other (inr (inr e)) c k m = absurd e

    second : (other : List ClassCol) → In other ((at 0 1 ∷ at 2 1 ∷ []) ∷ []) → (c : ClassCol) → In c (at 1 1 ∷ at 2 0 ∷ []) → In c other → ⊥
    second other (inl e) c k m =
        none_in_both (at 1 1) (at 2 0) (at 0 1) (at 2 1) c (by_input 1 1 0 1 (λ q. omega (arith, q))) (by_input 1 1 2 1 (λ q. omega (arith, q))) (by_input 2 0 0 1 (λ q. omega (arith, q))) (by_column 2 0 2 1 (λ q. omega (arith, q))) k
        (subst (λ (l : List ClassCol). In c l) (sym e) m)
    second other (inr e) c k m = absurd e

pub triangle_certified : AreCertified triangle_join
triangle_certified = record {
  apart = apart_if triangle_join.shape.classes refl;
  fitting = fit_if triangle_join.shape.inputs triangle_join.schemes refl;
  each = all_verified triangle_join.shape triangle_join.schemes triangle_join.certs refl 3 refl;
}

-- as the test makes it
pub triangle_is_certified : (spec : JoinSpec) (schemes : List (List (List Bool))) (certs : List (List CertStep)) → spec ≡ triangle → schemes ≡ triangle_schemes → certs ≡ triangle_certs → AreCertified (join_data spec schemes certs)
triangle_is_certified spec schemes certs k s c = subst AreCertified (λ j. join_data (sym k j) (sym s j) (sym c j)) triangle_certified
