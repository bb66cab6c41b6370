-- Whether a punctuation of an input covers an instance, by the input's own store.
use Rattle.std.proofs.Common.{ℕ, zero, suc, ◌+◌, ◌<◌, ◌≤◌, Bool, true, false, cond, ◌&&◌, ◌||◌, List, [], ◌∷◌, ◌≡◌, Option, Some, None, map, filter, length, get_or, refl, sym, ap, ap₂, ◌∙◌, inl, inr, eqb, ltb, arith}
use Rattle.std.specs.List.{list_any}
use Rattle.std.proofs.lemmas.Bool.{eqb-true, eq-eqb, false_from_ne_true, and_parts, lt-ltb, ltb-true}
use Rattle.std.proofs.lemmas.List.Folds.{list_any-append}
use Rattle.pj_value.specs.declared.values.Value.{Value}
use Rattle.pj_value.proofs.Members.{In-append_cases, In-map, none_from}
use Rattle.pj_events.specs.Patterns.{covers}
use Rattle.pj_events.specs.Join.{Demand, In, PunctAt, covered, older_puncts}
use Rattle.pj_puncts.specs.declared.store.NumberedPunct.{NumberedPunct}
use Rattle.pj_puncts.specs.Stores.{Store, TellsCover, covered_below, covered_by_any}
use Rattle.pj_cover.specs.declared.ripeness.Verdict.TheVariants.{Ripe, Open, Lagging}
use Rattle.pj_cover.specs.Asking.{IsStepJudged, Known, is_covered, punct_of, puncts_from}

-- a test on a filtered list
any-filter : {A : Type 0} (p q : A → Bool) (xs : List A) → list_any (λ x. p x && q x) xs ≡ list_any q (filter p xs)
any-filter p q [] = refl
any-filter {A} p q (x ∷ xs) = go (p x) (any-filter p q xs)
  where
    go : (b : Bool) → list_any (λ y. p y && q y) xs ≡ list_any q (filter p xs) → ((b && q x) || list_any (λ y. p y && q y) xs) ≡ list_any q (cond b (x ∷ filter p xs) (filter p xs))
    go true e = ap (λ (b : Bool). q x || b) e
    go false e = e

or-false : (a : Bool) → (a || false) ≡ a
or-false true = refl
or-false false = refl

-- whether a punctuation of this input whose ticket is one of these covers the instance
abbrev test : ℕ → (ℕ → Bool) → List (Option Value) → PunctAt → Bool
test input one instance p = one p.ticket && (eqb p.input input && covers p.patterns instance)

abbrev covered-by : List NumberedPunct → (ℕ → Bool) → List (Option Value) → Bool
covered-by kept one instance = list_any (λ k. one k.number && covers k.punct instance) kept

own : (input : ℕ) (one : ℕ → Bool) (instance : List (Option Value)) (ks : List NumberedPunct) → list_any (test input one instance) (map (punct_of input) ks) ≡ covered-by ks one instance
own input one instance [] = refl
own input one instance (k ∷ ks) = ap₂ (λ a b. a || b) (ap (λ b. one k.number && (b && covers k.punct instance)) (eq-eqb input input refl)) (own input one instance ks)

other-fails : (input : ℕ) (one : ℕ → Bool) (instance : List (Option Value)) (p : PunctAt) → (p.input ≡ input → ⊥) → test input one instance p ≡ false
other-fails input one instance p f =
    false_from_ne_true (test input one instance p) (λ t.
    let two = and_parts (one p.ticket) (eqb p.input input && covers p.patterns instance) t in
    f (eqb-true p.input input (and_parts (eqb p.input input) (covers p.patterns instance) two.1).0))

from-on : (punct_stores : List Store) (from : ℕ) (p : PunctAt) → In p (puncts_from from punct_stores) → from ≤ p.input
from-on [] from p h = absurd h
from-on (s ∷ punct_stores) from p h = elim (In-append_cases p (map (punct_of from) s.kept) (puncts_from (from + 1) punct_stores) h) [
  | inl k ↦
      let m = In-map (punct_of from) p s.kept k in
      let e : from ≡ p.input = ap (λ (q : PunctAt). q.input) m.2 in
      omega (arith, e)
  | inr k ↦ let le : from + 1 ≤ p.input = from-on punct_stores (from + 1) p k in omega (arith, le)
]

own-only : (punct_stores : List Store) (from k : ℕ) (one : ℕ → Bool) (instance : List (Option Value)) (d : Store) → k < length punct_stores
    → list_any (test (from + k) one instance) (puncts_from from punct_stores) ≡ covered-by (get_or punct_stores k d).kept one instance
own-only [] from k one instance d lt = absurd (omega (arith, lt))
own-only (s ∷ punct_stores) from zero one instance d lt =
    let n : from + 0 ≡ from = omega arith in
    ap (λ i. list_any (test i one instance) (puncts_from from (s ∷ punct_stores))) n
    ∙ list_any-append (test from one instance) (map (punct_of from) s.kept) (puncts_from (from + 1) punct_stores)
    ∙ ap₂ (λ a b. a || b) (own from one instance s.kept)
    (none_from (test from one instance) (puncts_from (from + 1) punct_stores) (λ p h. other-fails from one instance p (λ e. let le : from + 1 ≤ p.input = from-on punct_stores (from + 1) p h in omega (arith, le, e))))
    ∙ or-false (covered-by s.kept one instance)
own-only (s ∷ punct_stores) from (suc k) one instance d lt =
    let n : from + suc k ≡ from + 1 + k = omega arith in
    ap (λ i. list_any (test i one instance) (puncts_from from (s ∷ punct_stores))) n
    ∙ list_any-append (test (from + 1 + k) one instance) (map (punct_of from) s.kept) (puncts_from (from + 1) punct_stores)
    ∙ ap₂ (λ a b. a || b)
    (none_from (test (from + 1 + k) one instance) (map (punct_of from) s.kept) (λ p h. other-fails (from + 1 + k) one instance p (λ e.
    let m = In-map (punct_of from) p s.kept h in
    let same : from ≡ p.input = ap (λ (q : PunctAt). q.input) m.2 in
    omega (arith, same, e))))
    (own-only punct_stores (from + 1) k one instance d (omega (arith, lt)))

-- the punctuations of the input are those of its store
own-covered : (punct_stores : List Store) (input : ℕ) (one : ℕ → Bool) (instance : List (Option Value)) (d : Store) → input < length punct_stores
    → list_any (test input one instance) (puncts_from 0 punct_stores) ≡ covered-by (get_or punct_stores input d).kept one instance
own-covered punct_stores input one instance d lt =
    let n : input ≡ 0 + input = omega arith in
    ap (λ i. list_any (test i one instance) (puncts_from 0 punct_stores)) n ∙ own-only punct_stores 0 input one instance d lt

pub covered_by_own : (punct_stores : List Store) (input low : ℕ) (instance : List (Option Value)) (d : Store) → input < length punct_stores
    → covered (older_puncts low (puncts_from 0 punct_stores)) (record { input = input; instance = instance }) ≡ covered_below (get_or punct_stores input d).kept low instance
covered_by_own punct_stores input low instance d lt =
    sym (any-filter (λ (p : PunctAt). ltb p.ticket low) (λ (p : PunctAt). eqb p.input input && covers p.patterns instance) (puncts_from 0 punct_stores))
    ∙ own-covered punct_stores input (λ n. ltb n low) instance d lt

pub covered_by_own_any : (punct_stores : List Store) (input : ℕ) (instance : List (Option Value)) (d : Store) → input < length punct_stores
    → covered (puncts_from 0 punct_stores) (record { input = input; instance = instance }) ≡ covered_by_any (get_or punct_stores input d).kept instance
covered_by_own_any punct_stores input instance d lt = own-covered punct_stores input (λ n. true) instance d lt

-- what the number of a punctuation of the store tells of the instance, or that there is none
module _ (punct_stores : List Store) (low input : ℕ) (instance : List (Option Value)) (d : Store) (k : Known) (lt : input < length punct_stores) (ps : k.puncts ≡ puncts_from 0 punct_stores) (is : k.low ≡ low) where
  abbrev asked : Demand
  asked = record { input = input; instance = instance }

  abbrev tells : Option ℕ → Type 0
  tells o = TellsCover (get_or punct_stores input d).kept low instance o

  any-told : covered k.puncts asked ≡ covered_by_any (get_or punct_stores input d).kept instance
  any-told = ap (λ qs. covered qs asked) ps ∙ covered_by_own_any punct_stores input instance d lt

  below-told : (n : ℕ) → tells (Some n) → is_covered k asked ≡ ltb n low
  below-told n t = ap₂ (λ l qs. covered (older_puncts l qs) asked) is ps ∙ covered_by_own punct_stores input low instance d lt ∙ sym t.1

  pub told_none : tells None → IsStepJudged k asked Open
  told_none t = any-told ∙ t

  pub told_ripe : (n : ℕ) → n < low → tells (Some n) → IsStepJudged k asked Ripe
  told_ripe n less t = below-told n t ∙ lt-ltb n low less

  pub told_late : (n : ℕ) → low ≤ n → tells (Some n) → IsStepJudged k asked Lagging
  told_late n le t = (below-told n t ∙ false_from_ne_true (ltb n low) (λ b. let less : n < low = ltb-true n low b in omega (arith, le, less)), any-told ∙ t.0)
