-- Rows of states, as a judge asks for them.
use Rattle.std.proofs.Common.{ℕ, zero, suc, ◌<◌, ◌≤◌, Bool, true, false, cond, eqb, List, [], ◌∷◌, ◌≡◌, Option, Some, None, length, map, filter, get_or, refl, sym, ap, ◌∙◌, subst, arith}
use Rattle.std.proofs.lemmas.Bool.{false≢true}
use Rattle.std.specs.List.{slice_get}
use Rattle.pj_state.specs.declared.shared.Stored.{Stored}
use Rattle.pj_state.specs.Rising.{AllAbove, IsRising, first_with}
use Rattle.pj_state.specs.States.{StateView, pair_of, pairs, row_in, row_under, rows_with, stored, ticket_of, tickets_of}
use Rattle.pj_cover.specs.Rising.{AreAbove, AreRisingRows, has_there_value, row_with, tickets_with}
use Rattle.pj_rows.specs.Tuples.{ticket_in, no_state, row_pairs, state_at}
use Rattle.pj_events.specs.Join.{Value}
use Rattle.pj_rows.proofs.States.{same-at}
use Rattle.pj_value.specs.Options.{is_value}

rising-rows : (rows : List Stored) → IsRising ticket_of rows → AreRisingRows (pairs rows)
rising-rows [] r = tt
rising-rows (s ∷ rows) r = (above rows s.ticket r.0, rising-rows rows r.1)
  where
    above : (xs : List Stored) (n : ℕ) → AllAbove ticket_of n xs → AreAbove n (pairs xs)
    above [] n a = tt
    above (x ∷ xs) n a = (a.0, above xs n a.1)

pub rising_at : (row_states : List StateView) (k : ℕ) (s : StateView) → k < length row_states → IsRising ticket_of (get_or row_states k s).rows → AreRisingRows (row_pairs row_states k)
rising_at row_states k s lt r = subst (λ (t : StateView). AreRisingRows (pairs t.rows)) (same-at row_states k s no_state lt) (rising-rows (get_or row_states k s).rows r)

-- an input with a row has a state
some-state : (row_states : List StateView) (k at : ℕ) → at < length (row_pairs row_states k) → k < length row_states
some-state [] zero at lt = absurd (omega (arith, lt))
some-state [] (suc k) at lt = absurd (omega (arith, lt))
some-state (s ∷ ss) zero at lt = omega arith
some-state (s ∷ ss) (suc k) at lt = let l = some-state ss k at lt in omega (arith, l)

pub pair_there : (row_states : List StateView) (k at : ℕ) (s : StateView) (ticket : ℕ) (row : List Value) → at < length (row_pairs row_states k) → slice_get (get_or row_states k s).rows at ≡ Some (stored ticket row) → slice_get (row_pairs row_states k) at ≡ Some (ticket, row)
pair_there row_states k at s ticket row lt e = go (state_at row_states k).rows at (ap (λ (t : StateView). slice_get t.rows at) same ∙ e)
  where
    same : state_at row_states k ≡ get_or row_states k s
    same = same-at row_states k no_state s (some-state row_states k at lt)

    go : (rows : List Stored) (i : ℕ) → slice_get rows i ≡ Some (stored ticket row) → slice_get (pairs rows) i ≡ Some (ticket, row)
    go [] i q = absurd (cc)
    go (r ∷ rows) zero q = first r q
      where
        first : (t : Stored) → Some t ≡ Some (stored ticket row) → Some (pair_of t) ≡ Some (ticket, row)
        first t p = cc
    go (r ∷ rows) (suc i) q = go rows i q

-- ---- rows that are looked up

under-pairs : (rows : List Stored) (ticket : ℕ) → row_under ticket rows ≡ row_with ticket (pairs rows)
under-pairs [] ticket = refl
under-pairs (s ∷ rows) ticket = go (eqb s.ticket ticket) (under-pairs rows ticket)
  where
    go : (b : Bool) → row_in (first_with ticket_of ticket rows) ≡ row_with ticket (pairs rows) → row_in (cond b (Some s) (first_with ticket_of ticket rows)) ≡ cond b (Some s.row) (row_with ticket (pairs rows))
    go true e = refl
    go false e = e

pub under_pair : (row_states : List StateView) (k ticket : ℕ) (s : StateView) → k < length row_states → row_under ticket (get_or row_states k s).rows ≡ row_with ticket (row_pairs row_states k)
under_pair row_states k ticket s lt = under-pairs (get_or row_states k s).rows ticket ∙ ap (λ (t : StateView). row_with ticket (pairs t.rows)) (same-at row_states k s no_state lt)

-- no row is found where there is no such input
pub none_there : (row_states : List StateView) (k ticket : ℕ) → length row_states ≤ k → row_with ticket (row_pairs row_states k) ≡ None
none_there [] zero ticket le = refl
none_there [] (suc k) ticket le = refl
none_there (s ∷ ss) zero ticket le = absurd (omega (arith, le))
none_there (s ∷ ss) (suc k) ticket le = none_there ss k ticket (omega (arith, le))

with-pairs : (rows : List Stored) (column : ℕ) (value : Value) → tickets_of (rows_with column value rows) ≡ tickets_with column value (pairs rows)
with-pairs [] column value = refl
with-pairs (s ∷ rows) column value = go (is_value value (slice_get s.row column)) (is_value value (slice_get s.row column)) (same (slice_get s.row column)) (with-pairs rows column value)
  where
    same : (o : Option Value) → is_value value o ≡ is_value value o
    same None = refl
    same (Some v) = refl

    go : (a b : Bool) → a ≡ b → tickets_of (rows_with column value rows) ≡ tickets_with column value (pairs rows)
        → tickets_of (cond a (s ∷ rows_with column value rows) (rows_with column value rows)) ≡ map ticket_in (cond b (pair_of s ∷ filter (has_there_value column value) (pairs rows)) (filter (has_there_value column value) (pairs rows)))
    go true true e ih = ap (λ (ns : List ℕ). s.ticket ∷ ns) ih
    go false false e ih = ih
    go true false e ih = absurd (false≢true (sym e))
    go false true e ih = absurd (false≢true e)

pub with_pair : (row_states : List StateView) (k column : ℕ) (value : Value) (s : StateView) → k < length row_states → tickets_of (rows_with column value (get_or row_states k s).rows) ≡ tickets_with column value (row_pairs row_states k)
with_pair row_states k column value s lt = with-pairs (get_or row_states k s).rows column value ∙ ap (λ (t : StateView). tickets_with column value (pairs t.rows)) (same-at row_states k s no_state lt)
