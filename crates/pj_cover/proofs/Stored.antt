-- The rows of several inputs as one list.
use Rattle.std.proofs.Common.{ℕ, zero, suc, ◌<◌, List, ◌≡◌, map, ap, ◌∙◌, subst, inl, inr, arith}
use Rattle.std.proofs.lemmas.Bool.{cases_lt}
use Rattle.pj_value.specs.declared.values.Value.{Value}
use Rattle.pj_value.proofs.Members.{In-append_cases, In-append_left, In-append_right, In-map, In-map_from}
use Rattle.pj_events.specs.Join.{In, TupleAt}
use Rattle.pj_cover.specs.Asking.{tuple_of, tuples_of}

-- those of one input are its own
pub in-tuples : (rows : ℕ → List (ℕ × List Value)) (n i : ℕ) (y : TupleAt) → In y (tuples_of rows n) → y.input ≡ i → In y (map (tuple_of i) (rows i))
in-tuples rows zero i y h e = absurd h
in-tuples rows (suc n) i y h e = elim (In-append_cases y (tuples_of rows n) (map (tuple_of n) (rows n)) h) [
  | inl k ↦ in-tuples rows n i y k e
  | inr k ↦
      let m = In-map (tuple_of n) y (rows n) k in
      let same : n ≡ i = ap (λ (z : TupleAt). z.input) m.2 ∙ e in
      subst (λ (j : ℕ). In y (map (tuple_of j) (rows j))) same k
]

pub tuples-in : (rows : ℕ → List (ℕ × List Value)) (n i : ℕ) (r : ℕ × List Value) → i < n → In r (rows i) → In (tuple_of i r) (tuples_of rows n)
tuples-in rows zero i r lt h = absurd (omega (arith, lt))
tuples-in rows (suc n) i r lt h = elim (cases_lt i n) [
  | inl l ↦ In-append_left (tuple_of i r) (tuples_of rows n) (map (tuple_of n) (rows n)) (tuples-in rows n i r l h)
  | inr ge ↦
      let same : i ≡ n = omega (arith, lt, ge) in
      In-append_right (tuple_of i r) (tuples_of rows n) (map (tuple_of n) (rows n)) (subst (λ (j : ℕ). In (tuple_of i r) (map (tuple_of j) (rows j))) same (In-map_from (tuple_of i) r (rows i) h))
]
