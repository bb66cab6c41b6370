-- What a judge finds over the rows of each input is what it finds over the list of all stored tuples.
use Rattle.std.proofs.Common.{ℕ, zero, suc, ◌+◌, ◌<◌, ◌≤◌, Bool, true, false, cond, ◌&&◌, ◌||◌, List, [], ◌∷◌, ◌++◌, ◌≡◌, map, filter, flat_map, length, get_or, refl, sym, ap, ap₂, ◌∙◌, subst, inl, inr, eqb, ltb, arith, append-nil}
use Rattle.std.specs.List.{list_all, list_any}
use Rattle.std.proofs.lemmas.Bool.{eq-eqb, eqb-true, ltb-false, ltb-true, ne_eqb}
use Rattle.std.proofs.lemmas.List.{length-map}
use Rattle.std.proofs.lemmas.List.Elements.{filter-append}
use Rattle.pj_value.proofs.Members.{In-map}
use Rattle.pj_state.specs.declared.shared.Stored.{Stored}
use Rattle.pj_state.specs.States.{StateView, pair_of, pairs}
use Rattle.pj_puncts.specs.Stores.{Store}
use Rattle.pj_cover.specs.Asking.{HaveLength, Known, entries, is_covered, known_of, punct_of, puncts_from, tuple_of, tuples_of}
use Rattle.pj_rows.proofs.Agreeing.{need_alone}
use Rattle.pj_events.specs.Join.{In, CertEntry, CertStep, ClassCol, Demand, JoinData, JoinSpec, PunctAt, TupleAt, Value, agree, arities, covered, demand, grown, inputs, need, of_input, older, older_puncts, steps_of}
use Rattle.pj_events.specs.Patterns.{covers}
use Rattle.pj_events.specs.KeptState.{KeptState, kept_low, kept_ripe}
use Rattle.pj_join_laws.proofs.Upto.{get_or-upto}
use Rattle.pj_join.specs.declared.place.Place.{Place}
use Rattle.pj_join.specs.Insides.{IsJoin, inside}
use Rattle.pj_shape.specs.Certificates.{IsCertificate}
use Rattle.pj_cover.specs.Routes.{IsPurgeRoute, RouteView}
use Rattle.pj_recheck.specs.Judging.{JudgeView, MayJudge, ripe_at}
use Rattle.pj_join.specs.Sides.{IsShaped, held_in, heard_of, log_of, puncts_of}
use Rattle.pj_rows.specs.Tuples.{row_pairs, state_at, tuple_in}
use Rattle.pj_probe.proofs.Filtering.{flat_map-agree}
use Rattle.pj_join.proofs.Kept.{all-row_states, all-punct_stores, heard-length, shaped-at, side-is}

-- ---- lists

module _ {A B : Type 0} (input : B → ℕ) (f : A → B) (n : ℕ) (is : (x : A) → input (f x) ≡ n) where
  all-here : (xs : List A) → filter (λ y. eqb (input y) n) (map f xs) ≡ map f xs
  all-here [] = refl
  all-here (x ∷ xs) = ap (λ b. cond b (f x ∷ filter (λ y. eqb (input y) n) (map f xs)) (filter (λ y. eqb (input y) n) (map f xs))) (eq-eqb (input (f x)) n (is x)) ∙ ap (λ (ys : List B). f x ∷ ys) (all-here xs)

  none-here : (m : ℕ) → (n ≡ m → ⊥) → (xs : List A) → filter (λ y. eqb (input y) m) (map f xs) ≡ []
  none-here m ne [] = refl
  none-here m ne (x ∷ xs) = ap (λ b. cond b (f x ∷ filter (λ y. eqb (input y) m) (map f xs)) (filter (λ y. eqb (input y) m) (map f xs))) (ne_eqb (input (f x)) m (λ e. ne (sym (is x) ∙ e))) ∙ none-here m ne xs

pub filter-swap : {A : Type 0} (p q : A → Bool) (xs : List A) → filter p (filter q xs) ≡ filter q (filter p xs)
filter-swap p q [] = refl
filter-swap {A} p q (x ∷ xs) = go (p x) refl (q x) refl (filter-swap p q xs)
  where
    go : (a : Bool) → p x ≡ a → (b : Bool) → q x ≡ b → filter p (filter q xs) ≡ filter q (filter p xs)
        → filter p (cond b (x ∷ filter q xs) (filter q xs)) ≡ filter q (cond a (x ∷ filter p xs) (filter p xs))
    go true e true g ih = ap (λ c. cond c (x ∷ filter p (filter q xs)) (filter p (filter q xs))) e ∙ ap (λ (ys : List A). x ∷ ys) ih ∙ sym (ap (λ c. cond c (x ∷ filter q (filter p xs)) (filter q (filter p xs))) g)
    go true e false g ih = ih ∙ sym (ap (λ c. cond c (x ∷ filter q (filter p xs)) (filter q (filter p xs))) g)
    go false e true g ih = ap (λ c. cond c (x ∷ filter p (filter q xs)) (filter p (filter q xs))) e ∙ ih
    go false e false g ih = ih

all-same : {A : Type 0} (p q : A → Bool) (xs : List A) → ((x : A) → p x ≡ q x) → list_all p xs ≡ list_all q xs
all-same p q [] same = refl
all-same p q (x ∷ xs) same = ap₂ (λ a b. a && b) (same x) (all-same p q xs same)

none-past : {A : Type 0} (input : A → ℕ) (k : ℕ) (xs : List A) → ((x : A) → In x xs → input x ≡ k → ⊥) → filter (λ x. eqb (input x) k) xs ≡ []
none-past input k [] ne = refl
none-past input k (x ∷ xs) ne =
    ap (λ b. cond b (x ∷ filter (λ y. eqb (input y) k) xs) (filter (λ y. eqb (input y) k) xs)) (ne_eqb (input x) k (ne x (inl refl))) ∙ none-past input k xs (λ y h. ne y (inr h))

-- ---- rows

tuples-past : (rows : ℕ → List (ℕ × List Value)) (n k : ℕ) → n ≤ k → of_input k (tuples_of rows n) ≡ []
tuples-past rows zero k le = refl
tuples-past rows (suc n) k le =
    filter-append (λ (x : TupleAt). eqb x.input k) (tuples_of rows n) (map (tuple_of n) (rows n))
    ∙ ap₂ (λ (xs ys : List TupleAt). xs ++ ys) (tuples-past rows n k (omega (arith, le))) (none-here (λ (x : TupleAt). x.input) (tuple_of n) n (λ r. refl) k (λ e. omega (arith, le, e)) (rows n))

tuples-here : (rows : ℕ → List (ℕ × List Value)) (n k : ℕ) → k < n → of_input k (tuples_of rows n) ≡ map (tuple_of k) (rows k)
tuples-here rows zero k lt = absurd (omega (arith, lt))
tuples-here rows (suc n) k lt = filter-append (λ (x : TupleAt). eqb x.input k) (tuples_of rows n) (map (tuple_of n) (rows n)) ∙ go (eqb n k) refl (λ l. tuples-here rows n k l)
  where
    go : (b : Bool) → eqb n k ≡ b → (k < n → of_input k (tuples_of rows n) ≡ map (tuple_of k) (rows k)) → of_input k (tuples_of rows n) ++ of_input k (map (tuple_of n) (rows n)) ≡ map (tuple_of k) (rows k)
    go true e ih =
        ap₂ (λ (xs ys : List TupleAt). xs ++ ys) (tuples-past rows n k (let same = eqb-true n k e in omega (arith, same))) (ap (λ m. of_input m (map (tuple_of n) (rows n))) (sym (eqb-true n k e)) ∙ all-here (λ (x : TupleAt). x.input) (tuple_of n) n (λ r. refl) (rows n))
        ∙ ap (λ m. map (tuple_of m) (rows m)) (eqb-true n k e)
    go false e ih =
        ap₂ (λ (xs ys : List TupleAt). xs ++ ys) (ih (apart (λ q. clash (sym (eq-eqb n k q) ∙ e)))) (none-here (λ (x : TupleAt). x.input) (tuple_of n) n (λ r. refl) k (λ q. clash (sym (eq-eqb n k q) ∙ e)) (rows n))
        ∙ append-nil (map (tuple_of k) (rows k))
      where
        clash : true ≡ false → ⊥
        clash q = cc

        apart : (n ≡ k → ⊥) → k < n
        apart ne = omega (arith, ne, lt)

pub pairs-in : (input : ℕ) (rows : List Stored) → map (tuple_of input) (pairs rows) ≡ map (tuple_in input) rows
pairs-in input [] = refl
pairs-in input (s ∷ rows) = ap (λ (xs : List TupleAt). tuple_in input s ∷ xs) (pairs-in input rows)

-- ---- punctuations

none-later : (m base : ℕ) (punct_stores : List Store) → m < base → heard_of m (puncts_from base punct_stores) ≡ []
none-later m base [] lt = refl
none-later m base (s ∷ ss) lt =
    filter-append (λ (p : PunctAt). eqb p.input m) (map (punct_of base) s.kept) (puncts_from (base + 1) ss)
    ∙ ap₂ (λ (xs ys : List PunctAt). xs ++ ys) (none-here (λ (p : PunctAt). p.input) (punct_of base) base (λ r. refl) m (λ e. omega (arith, lt, e)) s.kept) (none-later m (base + 1) ss (omega (arith, lt)))

from-at : (base : ℕ) (punct_stores : List Store) (k : ℕ) → heard_of (base + k) (puncts_from base punct_stores) ≡ get_or (held_in base punct_stores) k []
from-at base [] zero = refl
from-at base [] (suc k) = refl
from-at base (s ∷ ss) zero =
    ap (λ m. heard_of m (puncts_from base (s ∷ ss))) (zero-more base)
    ∙ filter-append (λ (p : PunctAt). eqb p.input base) (map (punct_of base) s.kept) (puncts_from (base + 1) ss)
    ∙ ap₂ (λ (xs ys : List PunctAt). xs ++ ys) (all-here (λ (p : PunctAt). p.input) (punct_of base) base (λ r. refl) s.kept) (none-later base (base + 1) ss (omega arith))
    ∙ append-nil (map (punct_of base) s.kept)
  where
    zero-more : (n : ℕ) → n + 0 ≡ n
    zero-more n = omega arith
from-at base (s ∷ ss) (suc k) =
    filter-append (λ (p : PunctAt). eqb p.input (base + suc k)) (map (punct_of base) s.kept) (puncts_from (base + 1) ss)
    ∙ ap₂ (λ (xs ys : List PunctAt). xs ++ ys) (none-here (λ (p : PunctAt). p.input) (punct_of base) base (λ r. refl) (base + suc k) (λ e. omega (arith, e)) s.kept) (ap (λ m. heard_of m (puncts_from (base + 1) ss)) (more base k) ∙ from-at (base + 1) ss k)
  where
    more : (n m : ℕ) → n + suc m ≡ (n + 1) + m
    more n m = omega arith

-- whether one of those with smaller tickets covers an instance of an input depends on those of the input alone
pub covered-of : (low : ℕ) (d : Demand) (ps : List PunctAt) → covered (older_puncts low ps) d ≡ list_any (λ p. ltb p.ticket low && covers p.patterns d.instance) (heard_of d.input ps)
covered-of low d [] = refl
covered-of low d (p ∷ ps) = go (ltb p.ticket low) refl (eqb p.input d.input) refl (covered-of low d ps)
  where
    rest : List PunctAt
    rest = heard_of d.input ps

    test : PunctAt → Bool
    test q = ltb q.ticket low && covers q.patterns d.instance

    go : (a : Bool) → ltb p.ticket low ≡ a → (b : Bool) → eqb p.input d.input ≡ b → covered (older_puncts low ps) d ≡ list_any test rest
        → covered (cond a (p ∷ older_puncts low ps) (older_puncts low ps)) d ≡ list_any test (cond b (p ∷ rest) rest)
    go true e true g ih = ap₂ (λ a b. a || b) (ap (λ c. c && covers p.patterns d.instance) g ∙ sym (ap (λ c. c && covers p.patterns d.instance) e)) ih
    go true e false g ih = ap (λ c. (c && covers p.patterns d.instance) || covered (older_puncts low ps) d) g ∙ ih
    go false e true g ih = ih ∙ sym (ap (λ c. (c && covers p.patterns d.instance) || list_any test rest) e)
    go false e false g ih = ih

-- the same of all of them
pub covered-all-of : (d : Demand) (ps : List PunctAt) → covered ps d ≡ list_any (λ p. covers p.patterns d.instance) (heard_of d.input ps)
covered-all-of d [] = refl
covered-all-of d (p ∷ ps) = go (eqb p.input d.input) (covered-all-of d ps)
  where
    go : (b : Bool) → covered ps d ≡ list_any (λ q. covers q.patterns d.instance) (heard_of d.input ps)
        → ((b && covers p.patterns d.instance) || covered ps d) ≡ list_any (λ q. covers q.patterns d.instance) (cond b (p ∷ heard_of d.input ps) (heard_of d.input ps))
    go true ih = ap (λ b. covers p.patterns d.instance || b) ih
    go false ih = ih

-- ---- what is asked for

need-same : (classes : List (List ClassCol)) (xs ys : List TupleAt) → ((k : ℕ) → of_input k xs ≡ of_input k ys) → (cert : List CertEntry) (zs : List TupleAt) → need classes xs cert zs ≡ need classes ys cert zs
need-same classes xs ys same [] zs = refl
need-same classes xs ys same (e ∷ cert) zs =
    ap (λ (ds : List Demand). demand classes e zs ∷ ds)
    (ap (λ (rows : List TupleAt). flat_map (need classes xs cert) (filter (agree classes) (map (λ x. x ∷ zs) rows))) (same e.input)
    ∙ flat_map-agree (need classes xs cert) (need classes ys cert) (grown classes ys e zs) (need-same classes xs ys same cert))

-- a judge of an input over these rows and punctuations
abbrev pub judge_at : JoinData → ℕ → List StateView → List Store → ℕ → JudgeView
judge_at spec input row_states punct_stores low =
    record { spec = spec.shape; schemes = spec.schemes; cert = steps_of spec input; input = input; row_states = row_states; punct_stores = punct_stores; low = low }

module _ (spec : JoinData) (limit next done : ℕ) (row_states : List StateView) (punct_stores : List Store) (pending : List Place) (taken : List ℕ) (j : IsJoin spec limit (inside next done row_states punct_stores pending taken)) where
  shapes : inputs spec ≡ length spec.shape.inputs
  shapes = length-map spec.shape.inputs (λ schema. length schema)

  pub same-rows : (k : ℕ) → of_input k (tuples_of (row_pairs row_states) (length spec.shape.inputs)) ≡ of_input k (log_of row_states)
  same-rows k = go (ltb k (length spec.shape.inputs)) refl
    where
      go : (b : Bool) → ltb k (length spec.shape.inputs) ≡ b → of_input k (tuples_of (row_pairs row_states) (length spec.shape.inputs)) ≡ of_input k (log_of row_states)
      go true e =
          let lt = ltb-true k (length spec.shape.inputs) e in
          tuples-here (row_pairs row_states) (length spec.shape.inputs) k lt ∙ pairs-in k (state_at row_states k).rows ∙ side-is spec limit next done row_states punct_stores pending taken j k (omega (arith, lt, shapes))
      go false e =
          let le = ltb-false k (length spec.shape.inputs) e in
          tuples-past (row_pairs row_states) (length spec.shape.inputs) k le ∙ sym (none-past (λ (x : TupleAt). x.input) k (log_of row_states) (λ x h q. let lt = j.ordered.placed x h in omega (arith, lt, q, le)))

  pub same-puncts : (k : ℕ) → heard_of k (puncts_from 0 punct_stores) ≡ heard_of k (puncts_of punct_stores)
  same-puncts k = ap (λ m. heard_of m (puncts_from 0 punct_stores)) (zero-plus k) ∙ from-at 0 punct_stores k ∙ go (ltb k (inputs spec)) refl
    where
      zero-plus : (n : ℕ) → n ≡ 0 + n
      zero-plus n = omega arith

      past : (xs : List (List PunctAt)) (i : ℕ) → length xs ≤ i → get_or xs i [] ≡ []
      past [] zero le = refl
      past [] (suc i) le = refl
      past (x ∷ xs) zero le = absurd (omega (arith, le))
      past (x ∷ xs) (suc i) le = past xs i (omega (arith, le))

      go : (b : Bool) → ltb k (inputs spec) ≡ b → get_or (held_in 0 punct_stores) k [] ≡ heard_of k (puncts_of punct_stores)
      go true e = ap (λ (hs : List (List PunctAt)). get_or hs k []) j.heard.by_input ∙ get_or-upto (λ i. heard_of i (puncts_of punct_stores)) 0 (inputs spec) k [] (ltb-true k (inputs spec) e) ∙ ap (λ i. heard_of i (puncts_of punct_stores)) (sym (zero-plus k))
      go false e =
          let le = ltb-false k (inputs spec) e in
          past (held_in 0 punct_stores) k (omega (arith, le, heard-length 0 punct_stores, all-punct_stores spec limit next done row_states punct_stores pending taken j))
          ∙ sym (none-past (λ (p : PunctAt). p.input) k (puncts_of punct_stores) (λ p h q. let lt = j.heard.placed p h in omega (arith, lt, q, le)))

  -- the judge's yes over the rows is that over all stored tuples
  pub ripe-is : (k : KeptState) → k.stored ≡ log_of row_states → k.puncts ≡ puncts_of punct_stores → (low : ℕ) → low ≡ kept_low k → (input : ℕ) (s : Stored)
      → ripe_at (judge_at spec input row_states punct_stores low) s ≡ kept_ripe spec k (tuple_in input s)
  ripe-is k rows puncts low is input s =
      ap (λ b. ltb s.ticket low && b)
      (all-same (is_covered known) (covered (older_puncts low (puncts_of punct_stores))) (need spec.shape.classes (older low known.stored) cert (x ∷ [])) (λ d. covered-of low d known.puncts ∙ ap (list_any (λ p. ltb p.ticket low && covers p.patterns d.instance)) (same-puncts d.input) ∙ sym (covered-of low d (puncts_of punct_stores)))
      ∙ ap (list_all (covered (older_puncts low (puncts_of punct_stores)))) (need-same spec.shape.classes (older low known.stored) (older low (log_of row_states)) same-older cert (x ∷ [])))
      ∙ ap₂ (λ (xs : List TupleAt) (ps : List PunctAt). ltb s.ticket low && list_all (covered (older_puncts low ps)) (need spec.shape.classes (older low xs) cert (x ∷ []))) (sym rows) (sym puncts)
      ∙ ap (λ l. ltb s.ticket l && list_all (covered (older_puncts l k.puncts)) (need spec.shape.classes (older l k.stored) cert (x ∷ []))) is
      ∙ ap (λ (ds : List Demand). ltb s.ticket (kept_low k) && list_all (covered (older_puncts (kept_low k) k.puncts)) ds) (need_alone spec.shape (older (kept_low k) k.stored) cert x j.ordered.sound)
    where
      known : Known
      known = known_of spec.shape (row_pairs row_states) punct_stores low

      cert : List CertEntry
      cert = entries spec.schemes (steps_of spec input)

      x : TupleAt
      x = tuple_in input s

      same-older : (n : ℕ) → of_input n (older low known.stored) ≡ of_input n (older low (log_of row_states))
      same-older n =
          filter-swap (λ (y : TupleAt). eqb y.input n) (λ (y : TupleAt). ltb y.ticket low) known.stored
          ∙ ap (older low) (same-rows n)
          ∙ sym (filter-swap (λ (y : TupleAt). eqb y.input n) (λ (y : TupleAt). ltb y.ticket low) (log_of row_states))

  may-judge : (input : ℕ) → input < inputs spec → (route : RouteView) → IsPurgeRoute spec.shape spec.schemes (steps_of spec input) input route → MayJudge spec.shape spec.schemes route input row_states punct_stores
  may-judge input lt route is = record {
    parts = record { sound = j.ordered.sound; fit = fit; one_each = j.heard.arities };
    count = all-row_states spec limit next done row_states punct_stores pending taken j ∙ shapes;
    there = omega (arith, lt, shapes);
    fitting = j.ordered.certified.fitting;
    certified = subst (λ (cert : List CertStep). IsCertificate spec.shape spec.schemes input cert) (sym is.follows) (j.ordered.certified.each input lt);
    leads = subst (λ (cert : List CertStep). IsPurgeRoute spec.shape spec.schemes cert input route) (sym is.follows) is;
  }
    where
      fit : (k : ℕ) → k < length spec.shape.inputs → HaveLength (get_or (arities spec) k 0) (row_pairs row_states k)
      fit k l r h =
          let s = In-map pair_of r (state_at row_states k).rows h in
          let shape : IsShaped (get_or (arities spec) k 0) (state_at row_states k) = shaped-at (arities spec) row_states k j.shaped (omega (arith, l, shapes)) in
          subst (λ (q : ℕ × List Value). length q.1 ≡ get_or (arities spec) k 0) s.2 (shape.fit s.0 s.1)

  -- the same of what a call is lent
  pub may_judge_by : (input : ℕ) → input < inputs spec → (shape : JoinSpec) (route : RouteView) (row_states' : List StateView) (punct_stores' : List Store) → shape ≡ spec.shape → IsPurgeRoute spec.shape spec.schemes (steps_of spec input) input route → row_states' ≡ row_states → punct_stores' ≡ punct_stores
      → MayJudge shape spec.schemes route input row_states' punct_stores'
  may_judge_by input lt shape route row_states' punct_stores' a is c d =
      subst (λ (s : JoinSpec). MayJudge s spec.schemes route input row_states' punct_stores') (sym a)
      (subst (λ (ss : List StateView). MayJudge spec.shape spec.schemes route input ss punct_stores') (sym c)
      (subst (λ (ps : List Store). MayJudge spec.shape spec.schemes route input row_states ps) (sym d) (may-judge input lt route is)))
