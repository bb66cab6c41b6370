-- What a join keeps its tuples in, and the list of them all.
use Rattle.std.proofs.Common.{ℕ, zero, suc, ◌+◌, ◌-◌, ◌<◌, ◌≤◌, ◌^◌, Bool, true, false, cond, List, [], ◌∷◌, ◌++◌, ◌≡◌, Some, None, map, filter, drop, length, get_or, set, refl, sym, ap, ap₂, ◌∙◌, subst, inl, inr, eqb, arith}
use Rattle.std.specs.List.{slice_get}
use Rattle.std.specs.Prelude.{Result, Ok, Err, OnErr}
use Rattle.std.proofs.lemmas.Option.{get_or_from_slice_get, slice_get_within}
use Rattle.std.proofs.lemmas.Bool.{eq-eqb}
use Rattle.std.proofs.lemmas.List.{map-append, length-map}
use Rattle.pj_shape.specs.declared.columns.Column.{Column}
use Rattle.pj_state.specs.declared.shared.Stored.{Stored}
use Rattle.pj_state.specs.States.{StateView, row_in, row_under, state_of, stored, ticket_of}
use Rattle.pj_state.specs.Rising.{first_with}
use Rattle.pj_puncts.specs.Stores.{IsAbove, Store}
use Rattle.pj_puncts.specs.declared.store.NumberedPunct.{NumberedPunct}
use Rattle.pj_cover.specs.Asking.{punct_of}
use Rattle.pj_shape.specs.Sound.{IsSoundSpec}
use Rattle.pj_events.specs.Join.{AreCertified, In, JoinData, PunctAt, TupleAt, Value, arities, arity, has, inputs, of_input, upto_from}
use Rattle.pj_events.specs.KeptState.{without}
use Rattle.pj_events.specs.Patterns.{Pattern}
use Rattle.pj_join_laws.proofs.Upto.{get_or-upto}
use Rattle.pj_value.proofs.Members.{In-append_cases, In-filter, In-filter_from, In-map_from, in-place}
use Rattle.pj_join.specs.declared.place.Place.{Place}
use Rattle.pj_join.specs.Insides.{AreHeard, IsJoin, IsOrdered, Rise, inside, tickets}
use Rattle.pj_join.specs.Sides.{AreAllShaped, IsShaped, arrived_at, arrived_with, first_of, held_in, heard_of, log_of, merged, place_of, puncts_of, ticket_at}
use Rattle.pj_rows.specs.Tuples.{AreWide, state_at, tuple_in, tuples_in}
use Rattle.pj_waiting.specs.Holding.{held_at}
use Rattle.pj_join.proofs.Classes.{classes-more, eqb-below}
use Rattle.pj_join.proofs.Merging.{merged-is}
use Rattle.pj_join.proofs.Orders.{drop-more_end, ordered-give, ordered-probe, ordered-start, ordered-punct, ordered-take, ordered-tuple, rise-end, rise-in, rise-more, rise-widen}
use Rattle.pj_rows.proofs.States.{tuples-length, tuples-at}

pub tuples-set : (base : ℕ) (row_states : List StateView) (k : ℕ) (s : StateView) → tuples_in base (set row_states k s) ≡ set (tuples_in base row_states) k (map (tuple_in (base + k)) s.rows)
tuples-set base [] k s = refl
tuples-set base (r ∷ rs) zero s = ap (λ (n : ℕ). map (tuple_in n) s.rows ∷ tuples_in (base + 1) rs) (omega arith)
tuples-set base (r ∷ rs) (suc k) s =
    ap (λ (xs : List (List TupleAt)). map (tuple_in base) r.rows ∷ xs) (tuples-set (base + 1) rs k s ∙ ap (λ (n : ℕ). set (tuples_in (base + 1) rs) k (map (tuple_in n) s.rows)) (omega arith))

pub heard-length : (base : ℕ) (punct_stores : List Store) → length (held_in base punct_stores) ≡ length punct_stores
heard-length base [] = refl
heard-length base (s ∷ ss) = ap suc (heard-length (base + 1) ss)

pub heard-get : (base : ℕ) (punct_stores : List Store) (k : ℕ) (d : Store) → k < length punct_stores → get_or (held_in base punct_stores) k [] ≡ map (punct_of (base + k)) (get_or punct_stores k d).kept
heard-get base [] k d lt = absurd (omega (arith, lt))
heard-get base (s ∷ ss) zero d lt = ap (λ (n : ℕ). map (punct_of n) s.kept) (omega arith)
heard-get base (s ∷ ss) (suc k) d lt = heard-get (base + 1) ss k d (omega (arith, lt)) ∙ ap (λ (n : ℕ). map (punct_of n) (get_or ss k d).kept) (omega arith)

heard-set : (base : ℕ) (punct_stores : List Store) (k : ℕ) (s : Store) → held_in base (set punct_stores k s) ≡ set (held_in base punct_stores) k (map (punct_of (base + k)) s.kept)
heard-set base [] k s = refl
heard-set base (r ∷ rs) zero s = ap (λ (n : ℕ). map (punct_of n) s.kept ∷ held_in (base + 1) rs) (omega arith)
heard-set base (r ∷ rs) (suc k) s =
    ap (λ (xs : List (List PunctAt)). map (punct_of base) r.kept ∷ xs) (heard-set (base + 1) rs k s ∙ ap (λ (n : ℕ). set (held_in (base + 1) rs) k (map (punct_of n) s.kept)) (omega arith))

arities-set : (punct_stores : List Store) (k : ℕ) (d s : Store) → k < length punct_stores → s.arity ≡ (get_or punct_stores k d).arity → map (λ t. t.arity) (set punct_stores k s) ≡ map (λ t. t.arity) punct_stores
arities-set [] k d s lt e = refl
arities-set (r ∷ rs) zero d s lt e = ap (λ n. n ∷ map (λ t. t.arity) rs) e
arities-set (r ∷ rs) (suc k) d s lt e = ap (λ ns. r.arity ∷ ns) (arities-set rs k d s (omega (arith, lt)) e)

pub shaped-length : (ns : List ℕ) (row_states : List StateView) → AreAllShaped ns row_states → length row_states ≡ length ns
shaped-length [] [] a = refl
shaped-length [] (s ∷ ss) a = absurd a
shaped-length (n ∷ ns) [] a = absurd a
shaped-length (n ∷ ns) (s ∷ ss) a = ap suc (shaped-length ns ss a.1)

pub shaped-at : (ns : List ℕ) (row_states : List StateView) (k : ℕ) → AreAllShaped ns row_states → k < length ns → IsShaped (get_or ns k 0) (state_at row_states k)
shaped-at [] [] k a lt = absurd (omega (arith, lt))
shaped-at [] (s ∷ ss) k a lt = absurd a
shaped-at (n ∷ ns) [] k a lt = absurd a
shaped-at (n ∷ ns) (s ∷ ss) zero a lt = a.0
shaped-at (n ∷ ns) (s ∷ ss) (suc k) a lt = shaped-at ns ss k a.1 (omega (arith, lt))

pub shaped-set : (ns : List ℕ) (row_states : List StateView) (k : ℕ) (s : StateView) → AreAllShaped ns row_states → k < length ns → IsShaped (get_or ns k 0) s → AreAllShaped ns (set row_states k s)
shaped-set [] [] k s a lt is = a
shaped-set [] (r ∷ rs) k s a lt is = absurd a
shaped-set (n ∷ ns) [] k s a lt is = absurd a
shaped-set (n ∷ ns) (r ∷ rs) zero s a lt is = (is, a.1)
shaped-set (n ∷ ns) (r ∷ rs) (suc k) s a lt is = (a.0, shaped-set ns rs k s a.1 (omega (arith, lt)) is)

pub shaped-push : (ns : List ℕ) (row_states : List StateView) (n : ℕ) (s : StateView) → AreAllShaped ns row_states → IsShaped n s → AreAllShaped (ns ++ n ∷ []) (row_states ++ s ∷ [])
shaped-push [] [] n s a is = (is, tt)
shaped-push [] (r ∷ rs) n s a is = absurd a
shaped-push (m ∷ ns) [] n s a is = absurd a
shaped-push (m ∷ ns) (r ∷ rs) n s a is = (a.0, shaped-push ns rs n s a.1 is)

-- a row that is stored is the first under its ticket
first-in : (k from end : ℕ) (rows : List Stored) (x : TupleAt) → Rise from (tickets (map (tuple_in k) rows)) end → In x (map (tuple_in k) rows) → row_under x.ticket rows ≡ Some x.row
first-in k from end [] x r h = absurd h
first-in k from end (s ∷ rows) x r (inl e) =
    subst (λ (y : TupleAt). row_under y.ticket (s ∷ rows) ≡ Some y.row) e (ap (λ b. row_in (cond b (Some s) (first_with ticket_of s.ticket rows))) (eq-eqb s.ticket s.ticket refl))
first-in k from end (s ∷ rows) x r (inr h) =
    let above = rise-in (s.ticket + 1) (tickets (map (tuple_in k) rows)) end x.ticket r.1 (In-map_from (λ (y : TupleAt). y.ticket) x (map (tuple_in k) rows) h) in
    ap (λ b. row_in (cond b (Some s) (first_with ticket_of x.ticket rows))) (eqb-below s.ticket x.ticket (omega (arith, above)))
    ∙ first-in k (s.ticket + 1) end rows x r.1 h

rise-filter : (from : ℕ) (q : TupleAt → Bool) (xs : List TupleAt) (end : ℕ) → Rise from (tickets xs) end → Rise from (tickets (filter q xs)) end
rise-filter from q [] end r = r
rise-filter from q (x ∷ xs) end r = go (q x) (rise-filter (x.ticket + 1) q xs end r.1)
  where
    lower : (low high : ℕ) (ts : List ℕ) → low ≤ high → Rise high ts end → Rise low ts end
    lower low high [] le h = omega (arith, le, h)
    lower low high (t ∷ ts) le h = (omega (arith, le, h.0), h.1)

    go : (b : Bool) → Rise (x.ticket + 1) (tickets (filter q xs)) end → Rise from (tickets (cond b (x ∷ filter q xs) (filter q xs))) end
    go true k = (r.0, k)
    go false k = lower from (x.ticket + 1) (tickets (filter q xs)) (omega (arith, r.0)) k

pub below-end : (from : ℕ) (ts : List ℕ) (end t : ℕ) → Rise from ts end → In t ts → t < end
below-end from [] end t r h = absurd h
below-end from (u ∷ ts) end t r (inl e) = let l = rise-end (u + 1) ts end r.1 in subst (λ v. v < end) e (omega (arith, l))
below-end from (u ∷ ts) end t r (inr h) = below-end (u + 1) ts end t r.1 h

-- ---- a join

module _ (spec : JoinData) (limit next done : ℕ) (row_states : List StateView) (punct_stores : List Store) (pending : List Place) (taken : List ℕ) (j : IsJoin spec limit (inside next done row_states punct_stores pending taken)) where
  abbrev log : List TupleAt
  log = log_of row_states

  pub shapes : inputs spec ≡ length spec.shape.inputs
  shapes = length-map spec.shape.inputs (λ (schema : List Column). length schema)

  pub all-row_states : length row_states ≡ inputs spec
  all-row_states = shaped-length (arities spec) row_states j.shaped

  pub all-sides : length (tuples_in 0 row_states) ≡ inputs spec
  all-sides = tuples-length 0 row_states ∙ all-row_states

  pub all-punct_stores : length punct_stores ≡ inputs spec
  all-punct_stores = sym (length-map punct_stores (λ (s : Store). s.arity)) ∙ ap (λ (ns : List ℕ). length ns) j.heard.arities

  -- the tuples of an input
  pub side-is : (k : ℕ) → k < inputs spec → map (tuple_in k) (state_at row_states k).rows ≡ of_input k log
  side-is k lt =
      ap (λ n. map (tuple_in n) (state_at row_states k).rows) (omega arith)
      ∙ sym (tuples-at 0 row_states k (omega (arith, lt, all-row_states)))
      ∙ ap (λ (s : List (List TupleAt)). get_or s k []) j.ordered.by_input
      ∙ get_or-upto (λ i. of_input i log) 0 (length spec.shape.inputs) k [] (omega (arith, lt, shapes))
      ∙ ap (λ i. of_input i log) (omega arith)

  pub wide : AreWide row_states
  wide = λ k lt s h i d l.
      let shape : IsShaped (get_or (arities spec) k 0) (state_at row_states k) = shaped-at (arities spec) row_states k j.shaped (omega (arith, lt, all-row_states)) in
      subst (λ n. get_or (state_at row_states k).columns i d < n) (sym (shape.fit s h)) (shape.indexed i d l)

  -- a tuple that is stored is found in its place
  pub found-at : (x : TupleAt) → In x log → arrived_at row_states (place_of x) ≡ Some x
  found-at x h =
      ap (arrived_with (place_of x)) (first-in x.input 0 next (state_at row_states x.input).rows x
      (subst (λ (xs : List TupleAt). Rise 0 (tickets xs) next) (sym side) (rise-filter 0 (λ y. eqb y.input x.input) log next j.ordered.rising))
      (subst (λ (xs : List TupleAt). In x xs) (sym side) (In-filter_from (λ (y : TupleAt). eqb y.input x.input) x log h (eq-eqb x.input x.input refl))))
    where
      side : map (tuple_in x.input) (state_at row_states x.input).rows ≡ of_input x.input log
      side = side-is x.input (let l = j.ordered.placed x h in omega (arith, l, shapes))

  -- the first that is pending
  pub first-is : first_of row_states pending ≡ slice_get log done
  first-is = ap (first_of row_states) j.queued ∙ go log done (λ x h. found-at x h)
    where
      go : (xs : List TupleAt) (n : ℕ) → ((x : TupleAt) → In x xs → arrived_at row_states (place_of x) ≡ Some x) → first_of row_states (map place_of (drop n xs)) ≡ slice_get xs n
      go [] zero at = refl
      go [] (suc n) at = refl
      go (x ∷ xs) zero at = at x (inl refl)
      go (x ∷ xs) (suc n) at = go xs n (λ y h. at y (inr h))

  pub first-place : (p : Place) → Some p ≡ slice_get pending 0 → (x : TupleAt) × (Some x ≡ slice_get log done) × (p.ticket ≡ x.ticket)
  first-place p e = go log done (e ∙ ap (λ (ps : List Place). slice_get ps 0) j.queued)
    where
      there : (x : TupleAt) → Some p ≡ Some (place_of x) → p.ticket ≡ x.ticket
      there x q = cc

      go : (xs : List TupleAt) (n : ℕ) → Some p ≡ slice_get (map place_of (drop n xs)) 0 → (x : TupleAt) × (Some x ≡ slice_get xs n) × (p.ticket ≡ x.ticket)
      go [] zero q = absurd (cc)
      go [] (suc n) q = absurd (cc)
      go (x ∷ xs) zero q = (x, refl, there x q)
      go (x ∷ xs) (suc n) q = go xs n q

  pub no-place : None ≡ slice_get pending 0 → None ≡ slice_get log done
  no-place e = go log done (e ∙ ap (λ (ps : List Place). slice_get ps 0) j.queued)
    where
      go : (xs : List TupleAt) (n : ℕ) → None ≡ slice_get (map place_of (drop n xs)) 0 → None ≡ slice_get xs n
      go [] zero q = refl
      go [] (suc n) q = refl
      go (x ∷ xs) zero q = absurd (cc)
      go (x ∷ xs) (suc n) q = go xs n q

  pub next-pending : done < length log → drop 1 pending ≡ map place_of (drop (done + 1) log)
  next-pending lt = ap (drop 1) j.queued ∙ go log done lt
    where
      go : (xs : List TupleAt) (n : ℕ) → n < length xs → drop 1 (map place_of (drop n xs)) ≡ map place_of (drop (n + 1) xs)
      go [] n l = absurd (omega (arith, l))
      go (x ∷ xs) zero l = refl
      go (x ∷ xs) (suc n) l = go xs n (omega (arith, l)) ∙ ap (λ m. map place_of (drop m (x ∷ xs))) (plus n)
        where
          plus : (m : ℕ) → suc (m + 1) ≡ suc m + 1
          plus m = omega arith

  pub pending-length : length pending ≡ length log - done
  pending-length = ap (λ (ps : List Place). length ps) j.queued ∙ length-map (drop done log) place_of ∙ go log done
    where
      go : (xs : List TupleAt) (n : ℕ) → length (drop n xs) ≡ length xs - n
      go [] zero = omega arith
      go [] (suc n) = omega arith
      go (x ∷ xs) zero = omega arith
      go (x ∷ xs) (suc n) = omega (arith, go xs n)

  -- a ticket is taken
  pub join-takes : (d : TupleAt) → done < length log → IsJoin spec limit (inside next (done + 1) row_states punct_stores (drop 1 pending) (taken ++ (get_or log done d).ticket ∷ []))
  join-takes d lt = record {
    ordered = ordered-take spec limit next done log (tuples_in 0 row_states) taken d j.ordered lt;
    shaped = j.shaped;
    heard = j.heard;
    queued = next-pending lt;
  }

  -- a ticket is taken and given
  pub join-probes : (d : TupleAt) → done < length log → IsJoin spec limit (inside next (done + 1) row_states punct_stores (drop 1 pending) taken)
  join-probes d lt = record {
    ordered = ordered-probe spec limit next done log (tuples_in 0 row_states) taken d j.ordered lt;
    shaped = j.shaped;
    heard = j.heard;
    queued = next-pending lt;
  }

  -- the same where the first that is pending is known
  pub takes-now : (x : TupleAt) (ts : List ℕ) (ps : List Place) → Some x ≡ slice_get log done → ts ≡ taken ++ x.ticket ∷ [] → ps ≡ drop 1 pending → IsJoin spec limit (inside next (done + 1) row_states punct_stores ps ts)
  takes-now x ts ps here more less =
      subst (λ qs. IsJoin spec limit (inside next (done + 1) row_states punct_stores ps qs)) (sym (more ∙ ap (λ (y : TupleAt). taken ++ y.ticket ∷ []) (sym (get_or_from_slice_get log done x x (sym here)))))
      (subst (λ (qs : List Place). IsJoin spec limit (inside next (done + 1) row_states punct_stores qs (taken ++ (get_or log done x).ticket ∷ []))) (sym less) (join-takes x (slice_get_within log done x (sym here))))

  pub probes-now : (x : TupleAt) (ps : List Place) → Some x ≡ slice_get log done → ps ≡ drop 1 pending → IsJoin spec limit (inside next (done + 1) row_states punct_stores ps taken)
  probes-now x ps here less = subst (λ (qs : List Place). IsJoin spec limit (inside next (done + 1) row_states punct_stores qs taken)) (sym less) (join-probes x (slice_get_within log done x (sym here)))

  -- it is of an input with a state
  pub own-there : (x : TupleAt) → Some x ≡ slice_get log done → x.input < length row_states
  own-there x here =
      let l = j.ordered.placed x (subst (λ (y : TupleAt). In y log) (get_or_from_slice_get log done x x (sym here)) (in-place log x done (slice_get_within log done x (sym here)))) in
      omega (arith, l, all-row_states, shapes)

  -- a ticket is given
  pub join-gives : (u : ℕ) → has (tickets (drop done log)) u ≡ false → IsJoin spec limit (inside next done row_states punct_stores pending (without taken u))
  join-gives u f = record {
    ordered = ordered-give spec limit next done log (tuples_in 0 row_states) taken u j.ordered f;
    shaped = j.shaped;
    heard = j.heard;
    queued = j.queued;
  }

  -- the rows have smaller tickets than the next
  pub rows-below : (k : ℕ) → k < inputs spec → (i : ℕ) (d : Stored) → i < length (state_at row_states k).rows → (get_or (state_at row_states k).rows i d).ticket < next
  rows-below k lt i d l =
      let s = get_or (state_at row_states k).rows i d in
      let there : In (tuple_in k s) (of_input k log) = subst (λ (xs : List TupleAt). In (tuple_in k s) xs) (side-is k lt) (In-map_from (tuple_in k) s (state_at row_states k).rows (in-place (state_at row_states k).rows d i l)) in
      below-end 0 (tickets log) next s.ticket j.ordered.rising (In-map_from (λ (y : TupleAt). y.ticket) (tuple_in k s) log (In-filter (λ (y : TupleAt). eqb y.input k) (tuple_in k s) log there).0)

  -- a row that fits has all columns that are indexed
  pub columns-below : (k n : ℕ) → k < inputs spec → n ≡ arity spec k → (i d : ℕ) → i < length (state_at row_states k).columns → get_or (state_at row_states k).columns i d < n
  columns-below k n lt e i d l =
      let shape : IsShaped (get_or (arities spec) k 0) (state_at row_states k) = shaped-at (arities spec) row_states k j.shaped lt in
      subst (λ m. get_or (state_at row_states k).columns i d < m) (sym e) (shape.indexed i d l)

  pub rows-of-below : (k : ℕ) (s : StateView) → k < inputs spec → s ≡ state_at row_states k → (i : ℕ) (d : Stored) → i < length s.rows → (get_or s.rows i d).ticket < next
  rows-of-below k s lt is = subst (λ (t : StateView). (i : ℕ) (d : Stored) → i < length t.rows → (get_or t.rows i d).ticket < next) (sym is) (rows-below k lt)

  pub columns-of-below : (k n : ℕ) (s : StateView) → k < inputs spec → n ≡ arity spec k → s ≡ state_at row_states k → (i d : ℕ) → i < length s.columns → get_or s.columns i d < n
  columns-of-below k n s lt e is = subst (λ (t : StateView). (i d : ℕ) → i < length t.columns → get_or t.columns i d < n) (sym is) (columns-below k n lt e)

  -- a tuple comes
  module _ (input : ℕ) (row : List Value) (old new : StateView) (few : next ≡ limit → ⊥) (lt : input < inputs spec) (fits : length row ≡ arity spec input) (is : old ≡ state_at row_states input) (more : new ≡ state_of old.columns (old.rows ++ stored next row ∷ [])) where
    abbrev come : TupleAt
    come = record { ticket = next; input = input; row = row }

    ordered-now : IsOrdered spec limit (next + 1) done (log ++ come ∷ []) (set (tuples_in 0 row_states) input (get_or (tuples_in 0 row_states) input [] ++ come ∷ [])) taken
    ordered-now = ordered-tuple spec limit next done log (tuples_in 0 row_states) taken come j.ordered j.ordered.below few refl (omega (arith, lt, shapes))

    sides-now : tuples_in 0 (set row_states input new) ≡ set (tuples_in 0 row_states) input (get_or (tuples_in 0 row_states) input [] ++ come ∷ [])
    sides-now =
        tuples-set 0 row_states input new
        ∙ ap (set (tuples_in 0 row_states) input)
        (ap₂ (λ n (s : StateView). map (tuple_in n) s.rows) (omega arith) (more ∙ ap (λ (s : StateView). state_of s.columns (s.rows ++ stored next row ∷ [])) is)
        ∙ map-append (tuple_in input) (state_at row_states input).rows (stored next row ∷ [])
        ∙ ap (λ (xs : List TupleAt). xs ++ come ∷ []) (ap (λ n. map (tuple_in n) (state_at row_states input).rows) (omega arith) ∙ sym (tuples-at 0 row_states input (omega (arith, lt, all-row_states)))))

    pub log-more : log_of (set row_states input new) ≡ log ++ come ∷ []
    log-more =
        ap (merged ticket_at) (sides-now ∙ ordered-now.by_input)
        ∙ merged-is ticket_at (λ (x : TupleAt). x.input) (length spec.shape.inputs) (log ++ come ∷ []) (next + 1) ordered-now.rising ordered-now.placed

    pub join-more : (queue : List Place) → queue ≡ pending ++ place_of come ∷ [] → IsJoin spec limit (inside (next + 1) done (set row_states input new) punct_stores queue taken)
    join-more queue q = record {
      ordered =
          subst (λ (xs : List TupleAt). IsOrdered spec limit (next + 1) done xs (tuples_in 0 (set row_states input new)) taken) (sym log-more)
          (subst (λ (ss : List (List TupleAt)). IsOrdered spec limit (next + 1) done (log ++ come ∷ []) ss taken) (sym sides-now) ordered-now);
      shaped = shaped-set (arities spec) row_states input new j.shaped lt shaped-new;
      heard = record { rising = rise-widen 0 (map (λ (p : PunctAt). p.ticket) (puncts_of punct_stores)) next j.heard.rising; placed = j.heard.placed; by_input = j.heard.by_input; arities = j.heard.arities };
      queued =
          q ∙ ap (λ (ps : List Place). ps ++ place_of come ∷ []) j.queued
          ∙ sym (ap (λ (xs : List TupleAt). map place_of (drop done xs)) log-more ∙ ap (map place_of) (drop-more_end done log come j.ordered.within) ∙ map-append place_of (drop done log) (come ∷ []));
    }
      where
        shape : IsShaped (get_or (arities spec) input 0) (state_at row_states input)
        shape = shaped-at (arities spec) row_states input j.shaped lt

        fit-now : (s : Stored) → In s ((state_at row_states input).rows ++ stored next row ∷ []) → length s.row ≡ get_or (arities spec) input 0
        fit-now s h = elim (In-append_cases s (state_at row_states input).rows (stored next row ∷ []) h) [
          | inl k ↦ shape.fit s k
          | inr k ↦ elim k [
            | inl same ↦ subst (λ (t : Stored). length t.row ≡ get_or (arities spec) input 0) same fits
            | inr none ↦ absurd none
          ]
        ]

        shaped-new : IsShaped (get_or (arities spec) input 0) new
        shaped-new =
            subst (λ (s : StateView). IsShaped (get_or (arities spec) input 0) s) (sym (more ∙ ap (λ (s : StateView). state_of s.columns (s.rows ++ stored next row ∷ [])) is))
            (record { indexed = shape.indexed; fit = fit-now })

  -- a punctuation comes
  module _ (input : ℕ) (patterns : List Pattern) (old new : Store) (lt : input < inputs spec) (is : (d : Store) → old ≡ get_or punct_stores input d) (width : new.arity ≡ old.arity) (more : new.kept ≡ old.kept ++ record { punct = patterns; number = next } ∷ []) where
    abbrev said : PunctAt
    said = record { ticket = next; input = input; patterns = patterns }

    there : input < length punct_stores
    there = omega (arith, lt, all-punct_stores)

    heard-now : held_in 0 (set punct_stores input new) ≡ map (λ k. heard_of k (puncts_of punct_stores ++ said ∷ [])) (upto_from 0 (inputs spec))
    heard-now =
        heard-set 0 punct_stores input new
        ∙ ap (set (held_in 0 punct_stores) input)
        (ap₂ (λ n (ks : List NumberedPunct). map (punct_of n) ks) (omega arith) (more ∙ ap (λ (s : Store). s.kept ++ record { punct = patterns; number = next } ∷ []) (is old))
        ∙ map-append (punct_of input) (get_or punct_stores input old).kept (record { punct = patterns; number = next } ∷ [])
        ∙ ap (λ (ps : List PunctAt). ps ++ said ∷ []) (ap (λ n. map (punct_of n) (get_or punct_stores input old).kept) (omega arith) ∙ sym (heard-get 0 punct_stores input old there)))
        ∙ ap (λ (hs : List (List PunctAt)). set hs input (get_or hs input [] ++ said ∷ [])) j.heard.by_input
        ∙ classes-more (λ (p : PunctAt). p.input) 0 (inputs spec) input (puncts_of punct_stores) said (omega arith) lt

    rising-now : Rise 0 (map (λ (p : PunctAt). p.ticket) (puncts_of punct_stores ++ said ∷ [])) (next + 1)
    rising-now =
        subst (λ ts. Rise 0 ts (next + 1)) (sym (map-append (λ (p : PunctAt). p.ticket) (puncts_of punct_stores) (said ∷ [])))
        (rise-more 0 (map (λ (p : PunctAt). p.ticket) (puncts_of punct_stores)) next j.heard.rising)

    placed-now : (p : PunctAt) → In p (puncts_of punct_stores ++ said ∷ []) → p.input < inputs spec
    placed-now p h = elim (In-append_cases p (puncts_of punct_stores) (said ∷ []) h) [
      | inl k ↦ j.heard.placed p k
      | inr k ↦ elim k [
        | inl same ↦ subst (λ (q : PunctAt). q.input < inputs spec) same lt
        | inr none ↦ absurd none
      ]
    ]

    pub puncts-more : puncts_of (set punct_stores input new) ≡ puncts_of punct_stores ++ said ∷ []
    puncts-more =
        ap (merged held_at) heard-now
        ∙ merged-is held_at (λ (p : PunctAt). p.input) (inputs spec) (puncts_of punct_stores ++ said ∷ []) (next + 1) rising-now placed-now

    pub join-hears : (next ≡ limit → ⊥) → IsJoin spec limit (inside (next + 1) done row_states (set punct_stores input new) pending taken)
    join-hears few = record {
      ordered = ordered-punct spec limit next done log (tuples_in 0 row_states) taken j.ordered few;
      shaped = j.shaped;
      heard =
          subst (λ (ps : List PunctAt). AreHeard spec (next + 1) ps (set punct_stores input new)) (sym puncts-more) (record {
            rising = rising-now;
            placed = placed-now;
            by_input = heard-now;
            arities = arities-set punct_stores input old new there (width ∙ ap (λ (s : Store). s.arity) (is old)) ∙ j.heard.arities;
          });
      queued = j.queued;
    }

  -- a store that is as it was changes nothing
  pub same-punct_stores : (input : ℕ) (old new : Store) → input < inputs spec → old ≡ get_or punct_stores input old → new.arity ≡ old.arity → new.kept ≡ old.kept → set punct_stores input new ≡ punct_stores
  same-punct_stores input old new lt is width kept = ap (set punct_stores input) (same ∙ is) ∙ put-back punct_stores input old (omega (arith, lt, all-punct_stores))
    where
      same : new ≡ old
      same = λ i. record { arity = width i; kept = kept i }

      put-back : (xs : List Store) (k : ℕ) (d : Store) → k < length xs → set xs k (get_or xs k d) ≡ xs
      put-back [] k d l = refl
      put-back (x ∷ xs) zero d l = refl
      put-back (x ∷ xs) (suc k) d l = ap (λ (ys : List Store). x ∷ ys) (put-back xs k d (omega (arith, l)))

  -- the numbers of an input's punctuations are below the next ticket
  pub above-all : (k : ℕ) (d : Store) → k < inputs spec → IsAbove next (get_or punct_stores k d).kept
  above-all k d lt = go (get_or punct_stores k d).kept below
    where
      kept-in : map (punct_of k) (get_or punct_stores k d).kept ≡ heard_of k (puncts_of punct_stores)
      kept-in =
          ap (λ n. map (punct_of n) (get_or punct_stores k d).kept) (omega arith)
          ∙ sym (heard-get 0 punct_stores k d (omega (arith, lt, all-punct_stores)))
          ∙ ap (λ (hs : List (List PunctAt)). get_or hs k []) j.heard.by_input
          ∙ get_or-upto (λ i. heard_of i (puncts_of punct_stores)) 0 (inputs spec) k [] lt
          ∙ ap (λ i. heard_of i (puncts_of punct_stores)) (omega arith)

      below : (q : NumberedPunct) → In q (get_or punct_stores k d).kept → q.number < next
      below q h =
          below-end 0 (map (λ (p : PunctAt). p.ticket) (puncts_of punct_stores)) next q.number j.heard.rising
          (In-map_from (λ (p : PunctAt). p.ticket) (punct_of k q) (puncts_of punct_stores)
          (In-filter (λ (p : PunctAt). eqb p.input k) (punct_of k q) (puncts_of punct_stores) (subst (λ (ps : List PunctAt). In (punct_of k q) ps) kept-in (In-map_from (punct_of k) q (get_or punct_stores k d).kept h))).0)

      go : (ks : List NumberedPunct) → ((q : NumberedPunct) → In q ks → q.number < next) → IsAbove next ks
      go [] all = tt
      go (q ∷ ks) all = (all q (inl refl), go ks (λ r h. all r (inr h)))

-- ---- a new join

module _ (spec : JoinData) (limit : ℕ) (row_states : List StateView) (punct_stores : List Store) (none : tuples_in 0 row_states ≡ map (λ k. of_input k []) (upto_from 0 (length spec.shape.inputs))) (quiet : held_in 0 punct_stores ≡ map (λ k. heard_of k []) (upto_from 0 (length spec.shape.inputs))) where
  pub log-none : log_of row_states ≡ []
  log-none = ap (merged ticket_at) none ∙ merged-is ticket_at (λ (x : TupleAt). x.input) (length spec.shape.inputs) [] 0 (omega arith) (λ x h. absurd h)

  pub puncts-none : puncts_of punct_stores ≡ []
  puncts-none = ap (merged held_at) quiet ∙ merged-is held_at (λ (p : PunctAt). p.input) (length spec.shape.inputs) [] 0 (omega arith) (λ p h. absurd h)

  pub join-starts : IsSoundSpec spec.shape → AreCertified spec → limit ≤ 2 ^ 40 → AreAllShaped (arities spec) row_states → map (λ s. s.arity) punct_stores ≡ arities spec → IsJoin spec limit (inside 0 0 row_states punct_stores [] [])
  join-starts sound certified few shaped widths = record {
    ordered = subst (λ (xs : List TupleAt). IsOrdered spec limit 0 0 xs (tuples_in 0 row_states) []) (sym log-none) (ordered-start spec limit (tuples_in 0 row_states) sound certified few none);
    shaped = shaped;
    heard = subst (λ (ps : List PunctAt). AreHeard spec 0 ps punct_stores) (sym puncts-none) (record {
      rising = omega arith;
      placed = λ p h. absurd h;
      by_input = quiet ∙ ap (λ n. map (λ k. heard_of k []) (upto_from 0 n)) (sym (length-map spec.shape.inputs (λ (schema : List Column). length schema)));
      arities = widths;
    });
    queued = sym (ap (map place_of) log-none);
  }

-- what holds in any case holds after a refusal
pub on-err : {V E : Type 0} {P : Type 0} (r : Result V E) → P → OnErr r P
on-err (Ok v) p = tt
on-err (Err e) p = p
