-- The joins of the tests are sound and certified.
use Rattle.std.proofs.Common.{Bool, ℕ, zero, suc, ◌<◌, ◌≢◌, ◌≡◌, List, [], ◌∷◌, refl, sym, ap, inl, inr, map, arith, subst}
use Rattle.pj_value.specs.declared.values.Kind.TheVariants.{Int}
use Rattle.pj_shape.specs.declared.columns.Column.{Column}
use Rattle.pj_shape.specs.declared.joins.CertStep.{CertStep}
use Rattle.pj_shape.specs.declared.joins.ClassCol.{ClassCol}
use Rattle.pj_shape.specs.declared.joins.JoinSpec.{JoinSpec}
use Rattle.pj_events.specs.Join.{AreCertified}
use Rattle.pj_value.specs.Lists.{In}
use Rattle.pj_shape.specs.Sound.{IsSoundSpec, IsSoundClass, IsOfKind}
use Rattle.pj_shape.proofs.Tested.{apart_if, fit_if}
use Rattle.pj_join.specs.Joins.{join_data}
use Rattle.pj_test_joins.specs.Triples.{number, pair, named, at, triple, triple_certs, triple_join, triple_schemes, double, double_certs, double_join, double_schemes}
use Rattle.pj_cert.proofs.TestedSteps.{all_verified}

first : IsSoundClass (pair ∷ pair ∷ pair ∷ []) (at 0 0 ∷ at 1 0 ∷ [])
first = record {
  several = omega arith;
  one_each = (λ other h. apart other h, (λ other h. absurd h, tt));
  same_kind = (Int, λ c h. kind c h);
}
  where
    apart : (other : ClassCol) → In other (at 1 0 ∷ []) → other.input ≡ 0 → ⊥
    apart other (inl e) k = omega (arith, ap (λ (c : ClassCol). c.input) e, k)
    apart other (inr e) k = absurd e

    kind : (c : ClassCol) → In c (at 0 0 ∷ at 1 0 ∷ []) → IsOfKind (pair ∷ pair ∷ pair ∷ []) c Int
    kind c (inl e) = subst (λ (d : ClassCol). IsOfKind (pair ∷ pair ∷ pair ∷ []) d Int) e (pair, number, refl, refl, refl)
    kind c (inr (inl e)) = subst (λ (d : ClassCol). IsOfKind (pair ∷ pair ∷ pair ∷ []) d Int) e (pair, number, refl, refl, refl)
    kind c (inr (inr e)) = absurd e

second : IsSoundClass (pair ∷ pair ∷ pair ∷ []) (at 1 1 ∷ at 2 1 ∷ [])
second = record {
  several = omega arith;
  one_each = (λ other h. apart other h, (λ other h. absurd h, tt));
  same_kind = (Int, λ c h. kind c h);
}
  where
    apart : (other : ClassCol) → In other (at 2 1 ∷ []) → other.input ≡ 1 → ⊥
    apart other (inl e) k = omega (arith, ap (λ (c : ClassCol). c.input) e, k)
    apart other (inr e) k = absurd e

    kind : (c : ClassCol) → In c (at 1 1 ∷ at 2 1 ∷ []) → IsOfKind (pair ∷ pair ∷ pair ∷ []) c Int
    kind c (inl e) = subst (λ (d : ClassCol). IsOfKind (pair ∷ pair ∷ pair ∷ []) d Int) e (pair, number, refl, refl, refl)
    kind c (inr (inl e)) = subst (λ (d : ClassCol). IsOfKind (pair ∷ pair ∷ pair ∷ []) d Int) e (pair, number, refl, refl, refl)
    kind c (inr (inr e)) = absurd e

pub triple_sound : IsSoundSpec triple
triple_sound = record {
  few_inputs = (omega arith, omega arith);
  few_classes = (omega arith, omega arith);
  few_columns = omega arith;
  sound_classes = λ class h. classes class h;
  apart = (λ other h c k. columns other h c k, (λ other h. absurd h, tt));
}
  where
    classes : (class : List ClassCol) → In class ((at 0 0 ∷ at 1 0 ∷ []) ∷ (at 1 1 ∷ at 2 1 ∷ []) ∷ []) → IsSoundClass (pair ∷ pair ∷ pair ∷ []) class
    classes class (inl e) = subst (λ (k : List ClassCol). IsSoundClass (pair ∷ pair ∷ pair ∷ []) k) e first
    classes class (inr (inl e)) = subst (λ (k : List ClassCol). IsSoundClass (pair ∷ pair ∷ pair ∷ []) k) e second
    classes class (inr (inr e)) = absurd e

    column : (c : ClassCol) → In c (at 0 0 ∷ at 1 0 ∷ []) → c.column ≡ 0
    column c (inl e) = sym (ap (λ (d : ClassCol). d.column) e)
    column c (inr (inl e)) = sym (ap (λ (d : ClassCol). d.column) e)
    column c (inr (inr e)) = absurd e

    other_column : (c : ClassCol) → In c (at 1 1 ∷ at 2 1 ∷ []) → c.column ≡ 1
    other_column c (inl e) = sym (ap (λ (d : ClassCol). d.column) e)
    other_column c (inr (inl e)) = sym (ap (λ (d : ClassCol). d.column) e)
    other_column c (inr (inr e)) = absurd e

    columns : (other : List ClassCol) → In other ((at 1 1 ∷ at 2 1 ∷ []) ∷ []) → (c : ClassCol) → In c (at 0 0 ∷ at 1 0 ∷ []) → In c other → ⊥
    columns other (inl e) c k m = omega (arith, column c k, other_column c (subst (λ (l : List ClassCol). In c l) (sym e) m))
    columns other (inr e) c k m = absurd e

-- ---- certificates

pub triple_certified : AreCertified triple_join
triple_certified = record {
  apart = apart_if triple_join.shape.classes refl;
  fitting = fit_if triple_join.shape.inputs triple_join.schemes refl;
  each = all_verified triple_join.shape triple_join.schemes triple_join.certs refl 3 refl;
}

-- ---- two inputs

only : IsSoundClass (named ∷ pair ∷ []) (at 0 0 ∷ at 1 0 ∷ [])
only = record {
  several = omega arith;
  one_each = (λ other h. apart other h, (λ other h. absurd h, tt));
  same_kind = (Int, λ c h. kind c h);
}
  where
    apart : (other : ClassCol) → In other (at 1 0 ∷ []) → other.input ≡ 0 → ⊥
    apart other (inl e) k = omega (arith, ap (λ (c : ClassCol). c.input) e, k)
    apart other (inr e) k = absurd e

    kind : (c : ClassCol) → In c (at 0 0 ∷ at 1 0 ∷ []) → IsOfKind (named ∷ pair ∷ []) c Int
    kind c (inl e) = subst (λ (d : ClassCol). IsOfKind (named ∷ pair ∷ []) d Int) e (named, number, refl, refl, refl)
    kind c (inr (inl e)) = subst (λ (d : ClassCol). IsOfKind (named ∷ pair ∷ []) d Int) e (pair, number, refl, refl, refl)
    kind c (inr (inr e)) = absurd e

pub double_sound : IsSoundSpec double
double_sound = record {
  few_inputs = (omega arith, omega arith);
  few_classes = (omega arith, omega arith);
  few_columns = omega arith;
  sound_classes = λ class h. classes class h;
  apart = (λ other h. absurd h, tt);
}
  where
    classes : (class : List ClassCol) → In class ((at 0 0 ∷ at 1 0 ∷ []) ∷ []) → IsSoundClass (named ∷ pair ∷ []) class
    classes class (inl e) = subst (λ (k : List ClassCol). IsSoundClass (named ∷ pair ∷ []) k) e only
    classes class (inr e) = absurd e

pub double_certified : AreCertified double_join
double_certified = record {
  apart = apart_if double_join.shape.classes refl;
  fitting = fit_if double_join.shape.inputs double_join.schemes refl;
  each = all_verified double_join.shape double_join.schemes double_join.certs refl 2 refl;
}

-- ---- as the tests make them

pub triple_is_certified : (inputs : List (List Column)) (classes : List (List ClassCol)) (schemes : List (List (List Bool))) (certs : List (List CertStep))
    → inputs ≡ triple.inputs → classes ≡ triple.classes → schemes ≡ triple_schemes → certs ≡ triple_certs → AreCertified (join_data (record { inputs = inputs; classes = classes }) schemes certs)
triple_is_certified inputs classes schemes certs i k s c = subst AreCertified (λ j. join_data (record { inputs = sym i j; classes = sym k j }) (sym s j) (sym c j)) triple_certified

pub double_is_certified : (spec : JoinSpec) (schemes : List (List (List Bool))) (certs : List (List CertStep)) → spec ≡ double → schemes ≡ double_schemes → certs ≡ double_certs → AreCertified (join_data spec schemes certs)
double_is_certified spec schemes certs k s c = subst AreCertified (λ j. join_data (sym k j) (sym s j) (sym c j)) double_certified
