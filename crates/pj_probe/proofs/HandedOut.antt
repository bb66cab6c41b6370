-- The rows that a tuple of two inputs is joined to.
use Rattle.std.proofs.Common.{ℕ, zero, suc, ◌-◌, ◌<◌, Bool, true, false, cond, List, [], ◌∷◌, ◌++◌, ◌≡◌, map, filter, flat_map, length, get_or, refl, sym, ap, ap₂, ◌∙◌, eqb, arith, append-nil}
use Rattle.std.proofs.lemmas.Bool.{eq-eqb, false_from_ne_true, false≢true, eqb-true}
use Rattle.pj_events.specs.declared.events.Out.{Out}
use Rattle.pj_events.specs.declared.events.Out.TheVariants.{Tuple}
use Rattle.pj_events.specs.Join.{TupleAt, ClassCol, Value, agree, joined, product, upto_from}
use Rattle.pj_probe.specs.Results.{AreTuples, pair_of, pairs_out, rows_of}
use Rattle.std.proofs.lemmas.List.{map-append}
use Rattle.pj_probe.specs.Choices.{AllJoin, choice, choices, older_joins, pair, pairs}
use Rattle.pj_probe.proofs.Pairs.{pairs-found}
use Rattle.pj_state.specs.declared.shared.Stored.{Stored}
use Rattle.pj_rows.specs.Tuples.{tuple_in}

own-choice : (classes : List (List ClassCol)) (own : TupleAt) (sides : List (List TupleAt)) (k : ℕ) → k ≡ own.input → choice classes own sides k ≡ own ∷ []
own-choice classes own sides k e = ap (λ (b : Bool). cond b (own ∷ []) (filter (older_joins classes own) (get_or sides k []))) (eq-eqb k own.input e)

other-choice : (classes : List (List ClassCol)) (own : TupleAt) (sides : List (List TupleAt)) (k : ℕ) → (k ≡ own.input → ⊥) → choice classes own sides k ≡ filter (older_joins classes own) (get_or sides k [])
other-choice classes own sides k ne =
    ap (λ (b : Bool). cond b (own ∷ []) (filter (older_joins classes own) (get_or sides k []))) (false_from_ne_true (eqb k own.input) (λ t. ne (eqb-true k own.input t)))

first-pairs : (own : TupleAt) (ys : List TupleAt) → 0 ≡ own.input → map (pair_of own) ys ≡ flat_map (pairs ys) (own ∷ [])
first-pairs own ys e =
    ap (λ (b : Bool). map (λ y. cond b (pair own y) (pair y own)) ys) (eq-eqb own.input 0 (sym e)) ∙ sym (append-nil (pairs ys own))

second-pairs : (own : TupleAt) (ys : List TupleAt) → 1 ≡ own.input → map (pair_of own) ys ≡ flat_map (pairs (own ∷ [])) ys
second-pairs own ys e =
    ap (λ (b : Bool). map (λ y. cond b (pair own y) (pair y own)) ys) (false_from_ne_true (eqb own.input 0) (λ t. omega (arith, e, eqb-true own.input 0 t))) ∙ single ys
  where
    single : (zs : List TupleAt) → map (λ y. pair y own) zs ≡ flat_map (pairs (own ∷ [])) zs
    single [] = refl
    single (z ∷ zs) = ap (λ (rows : List (List Value)). pair z own ∷ rows) (single zs)

two-choices : (classes : List (List ClassCol)) (own : TupleAt) (sides : List (List TupleAt)) → length sides ≡ 2 → choices classes own sides ≡ choice classes own sides 0 ∷ choice classes own sides 1 ∷ []
two-choices classes own sides two = ap (λ (n : ℕ). map (choice classes own sides) (upto_from 0 n)) two

pub both-found : (classes : List (List ClassCol)) (own : TupleAt) (sides : List (List TupleAt)) (input : ℕ) → own.input < 2 → length sides ≡ 2 → AllJoin classes (choices classes own sides) → input ≡ 1 - own.input
    → map (pair_of own) (filter (older_joins classes own) (get_or sides input [])) ≡ map joined (filter (agree classes) (product (choices classes own sides)))
both-found classes own sides input lt two all is = go (eqb 0 own.input) refl
  where
    go : (b : Bool) → eqb 0 own.input ≡ b → map (pair_of own) (filter (older_joins classes own) (get_or sides input [])) ≡ map joined (filter (agree classes) (product (choices classes own sides)))
    go true t =
        let zero : 0 ≡ own.input = eqb-true 0 own.input t in
        let one : input ≡ 1 = omega (arith, is, zero) in
        let ys : List TupleAt = filter (older_joins classes own) (get_or sides 1 []) in
        ap (λ (k : ℕ). map (pair_of own) (filter (older_joins classes own) (get_or sides k []))) one
        ∙ first-pairs own ys zero
        ∙ pairs-found classes (choices classes own sides) (own ∷ []) ys all
        (two-choices classes own sides two ∙ ap₂ (λ (u v : List TupleAt). u ∷ v ∷ []) (own-choice classes own sides 0 zero) (other-choice classes own sides 1 (λ e. omega (arith, e, zero))))
    go false f =
        let one : 1 ≡ own.input = first-is-one in
        let zero : input ≡ 0 = omega (arith, is, one) in
        let ys : List TupleAt = filter (older_joins classes own) (get_or sides 0 []) in
        ap (λ (k : ℕ). map (pair_of own) (filter (older_joins classes own) (get_or sides k []))) zero
        ∙ second-pairs own ys one
        ∙ pairs-found classes (choices classes own sides) ys (own ∷ []) all
        (two-choices classes own sides two ∙ ap₂ (λ (u v : List TupleAt). u ∷ v ∷ []) (other-choice classes own sides 0 (λ e. omega (arith, e, one))) (own-choice classes own sides 1 one))
      where
        first-is-one : 1 ≡ own.input
        first-is-one = elsewhere own.input lt f
          where
            elsewhere : (n : ℕ) → n < 2 → eqb 0 n ≡ false → 1 ≡ n
            elsewhere zero l g = absurd (false≢true (sym g))
            elsewhere (suc zero) l g = refl
            elsewhere (suc (suc n)) l g = absurd (omega (arith, l))

-- no rows, no pairs
pub pairs_none : (classes : List (List ClassCol)) (own : TupleAt) (input : ℕ) (among : List Stored) (outs : List Out) → length among ≡ 0 → outs ≡ outs ++ pairs_out classes own (map (tuple_in input) among)
pairs_none classes own input [] outs none = sym (append-none outs)
  where
    append-none : (xs : List Out) → xs ++ [] ≡ xs
    append-none [] = refl
    append-none (x ∷ xs) = ap (λ ys. x ∷ ys) (append-none xs)
pairs_none classes own input (s ∷ among) outs none = absurd (omega (arith, none))

-- ---- rows that are handed out

-- one row more
pub rows_more : (outs : List Out) (row : List Value) → AreTuples outs → rows_of (outs ++ Tuple row ∷ []) ≡ rows_of outs ++ row ∷ []
rows_more outs row are = ap (λ (xs : List Out). rows_of (xs ++ Tuple row ∷ [])) are ∙ go (rows_of outs)
  where
    go : (rows : List (List Value)) → rows_of (map Tuple rows ++ Tuple row ∷ []) ≡ rows ++ row ∷ []
    go [] = refl
    go (r ∷ rows) = ap (λ (rs : List (List Value)). r ∷ rs) (go rows)

pub tuples_more : (outs : List Out) (row : List Value) → AreTuples outs → AreTuples (outs ++ Tuple row ∷ [])
tuples_more outs row are =
    ap (λ (xs : List Out). xs ++ Tuple row ∷ []) are ∙ sym (map-append Tuple (rows_of outs) (row ∷ [])) ∙ ap (map Tuple) (sym (rows_more outs row are))
