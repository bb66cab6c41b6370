-- What the calls of a join cite.
use Rattle.std.proofs.Common.{ℕ, zero, suc, ◌+◌, ◌<◌, ◌≤◌, ◌^◌, Bool, true, false, cond, ◌||◌, not, List, [], ◌∷◌, ◌++◌, ◌≡◌, Option, Some, None, map, filter, take, drop, length, get_or, refl, sym, ap, ◌∙◌, subst, eqb, ltb, arith}
use Rattle.std.specs.List.{slice_get, position, position_or_len}
use Rattle.std.proofs.lemmas.Bool.{eqb-true, eq-eqb, false_from_ne_true, ltb-false}
use Rattle.std.proofs.lemmas.List.Sums.{fails_before_first}
use Rattle.std.proofs.lemmas.List.{length-map}
use Rattle.std.proofs.lemmas.List.Quantifiers.{position-Some}
use Rattle.std.proofs.lemmas.Option.{slice_get_within, get_or_from_slice_get}
use Rattle.pj_shape.specs.declared.columns.Column.{Column}
use Rattle.pj_events.specs.Join.{JoinData, Value, TupleAt, PunctAt, Take, TupleComes, results, agree, product, joined, has, inputs}
use Rattle.pj_events.specs.KeptState.{least, without}
use Rattle.pj_probe.specs.declared.probe.Found.{Found}
use Rattle.pj_join.specs.Joins.{JoinView, TakesLeast, after, found_of}
use Rattle.pj_events.specs.declared.events.Out.{Out}
use Rattle.pj_events.specs.declared.events.Out.TheVariants.{Tuple}
use Rattle.pj_join.specs.Handed.{JoinProbes, behind_probe, rows_probed}
use Rattle.pj_probe.specs.Results.{found_out}
use Rattle.pj_probe.specs.Choices.{choices}
use Rattle.pj_join.specs.Insides.{tickets, seen, Rise, IsOrdered, made_with}
use Rattle.pj_join.proofs.Orders.{seen-probe, seen-tuple, rise-front, rise-to, rise-length, rise-has, least-first, pending-first, seen-take, taken-first, IsTakenFirst}
use Rattle.pj_join.proofs.Finding.{choices-results}
use Rattle.pj_join_laws.proofs.Stand.{without-all}

-- ---- the low-water ticket

pub low-taken : (taken pending : List ℕ) (next t : ℕ) → Some t ≡ slice_get taken 0 → Rise 0 (taken ++ pending) next → t ≡ least next (taken ++ pending)
low-taken [] pending next t e r = let lt : 0 < 0 = slice_get_within [] 0 t (sym e) in absurd (omega (arith, lt))
low-taken (u ∷ taken) pending next t e r = sym (get_or_from_slice_get (u ∷ taken) 0 t 0 (sym e)) ∙ sym (least-first 0 u (taken ++ pending) next r)

pub low-pending : (taken : List ℕ) (log : List TupleAt) (next done : ℕ) (x : TupleAt) → length taken ≤ 0 → Some x ≡ slice_get log done → Rise 0 (taken ++ tickets (drop done log)) next
    → x.ticket ≡ least next (taken ++ tickets (drop done log))
low-pending (u ∷ taken) log next done x few e r = absurd (omega (arith, few))
low-pending [] log next done x few e r =
    sym (ap (λ (y : TupleAt). y.ticket) (get_or_from_slice_get log done x x (sym e)))
    ∙ sym (least-first 0 (get_or log done x).ticket (tickets (drop (done + 1) log)) next (subst (λ ts. Rise 0 ts next) first r))
    ∙ ap (least next) (sym first)
  where
    first : tickets (drop done log) ≡ (get_or log done x).ticket ∷ tickets (drop (done + 1) log)
    first = pending-first done log x (slice_get_within log done x (sym e))

none-left : (xs : List TupleAt) (i : ℕ) → None ≡ slice_get xs i → drop i xs ≡ []
none-left [] zero e = refl
none-left [] (suc i) e = refl
none-left (x ∷ xs) zero e = absurd (clash e)
  where
    clash : None ≡ Some x → ⊥
    clash p = subst (λ (o : Option TupleAt). is_none o) p tt
      where
        is_none : Option TupleAt → Type 0
        is_none None = Unit {0}
        is_none (Some y) = ⊥
none-left (x ∷ xs) (suc i) e = none-left xs i e

pub none-pending : (log : List TupleAt) (done : ℕ) → None ≡ slice_get log done → tickets (drop done log) ≡ []
none-pending log done e = ap tickets (none-left log done e)

pub low-next : (taken : List ℕ) (log : List TupleAt) (next done : ℕ) → length taken ≤ 0 → None ≡ slice_get log done → next ≡ least next (taken ++ tickets (drop done log))
low-next (u ∷ taken) log next done few e = absurd (omega (arith, few))
low-next [] log next done few e = ap (least next) (sym (none-pending log done e))

-- ---- tickets that are forgotten

forget-place : (from : ℕ) (ts : List ℕ) (end i u : ℕ) → Rise from ts end → i < length ts → get_or ts i 0 ≡ u → take i ts ++ drop (suc i) ts ≡ without ts u
forget-place from [] end i u r lt e = absurd (omega (arith, lt))
forget-place from (t ∷ ts) end zero u r lt e =
    sym (without-all ts u (rise-has (t + 1) ts end u r.1 (omega (arith, e)))) ∙ ap (λ b. cond (not b) (t ∷ without ts u) (without ts u)) (sym (eq-eqb t u e))
forget-place from (t ∷ ts) end (suc i) u r lt e =
    ap (λ us. t ∷ us) (forget-place (t + 1) ts end i u r.1 (omega (arith, lt)) e)
    ∙ ap (λ b. cond (not b) (t ∷ without ts u) (without ts u)) (sym (false_from_ne_true (eqb t u) (λ k. omega (arith, eqb-true t u k, e, above (t + 1) ts end i r.1 (omega (arith, lt))))))
  where
    above : (low : ℕ) (us : List ℕ) (last k : ℕ) → Rise low us last → k < length us → low ≤ get_or us k 0
    above low [] last k s l = absurd (omega (arith, l))
    above low (v ∷ us) last zero s l = s.0
    above low (v ∷ us) last (suc k) s l = omega (arith, s.0, above (v + 1) us last k s.1 (omega (arith, l)))

pub forget-found : (ts : List ℕ) (end i u : ℕ) → Rise 0 ts end → position (λ t. eqb t u) ts ≡ Some i → take i ts ++ drop (suc i) ts ≡ without ts u
forget-found ts end i u r p =
    let here = position-Some (λ t. eqb t u) ts i 0 p in
    forget-place 0 ts end i u r here.0 (eqb-true (get_or ts i 0) u here.1)

has-none : (ts : List ℕ) (u : ℕ) → ((k : ℕ) → k < length ts → eqb (get_or ts k 0) u ≡ false) → has ts u ≡ false
has-none [] u f = refl
has-none (t ∷ ts) u f = ap (λ b. b || has ts u) (f 0 (omega arith)) ∙ has-none ts u (λ k lt. f (suc k) (omega (arith, lt)))

pub forget-none : (ts : List ℕ) (u : ℕ) → None ≡ position (λ t. eqb t u) ts → ts ≡ without ts u
forget-none ts u e = go (ltb (position_or_len (λ t. eqb t u) ts) (length ts)) refl e
  where
    clash : (i : ℕ) → None ≡ Some i → ⊥
    clash i p = subst (λ (o : Option ℕ). is_none o) p tt
      where
        is_none : Option ℕ → Type 0
        is_none None = Unit {0}
        is_none (Some y) = ⊥

    go : (b : Bool) → ltb (position_or_len (λ t. eqb t u) ts) (length ts) ≡ b → None ≡ cond b (Some (position_or_len (λ t. eqb t u) ts)) None → ts ≡ without ts u
    go true k p = absurd (clash (position_or_len (λ t. eqb t u) ts) p)
    go false k p = sym (without-all ts u (has-none ts u (λ i lt. fails_before_first (λ t. eqb t u) ts i 0 (omega (arith, lt, ltb-false (position_or_len (λ t. eqb t u) ts) (length ts) k)))))

-- ---- calls

-- a ticket that was taken may be taken out
pub may-forget : (spec : JoinData) (limit next done : ℕ) (log : List TupleAt) (sides : List (List TupleAt)) (taken : List ℕ) → IsOrdered spec limit next done log sides taken → Rise 0 taken (2 ^ 64)
may-forget spec limit next done log sides taken o =
    rise-to 0 taken next (2 ^ 64) (omega (arith, o.small, o.below)) (rise-front 0 taken (tickets (drop done log)) next o.open_rising)

-- one more ticket can be counted
pub done-fits : (spec : JoinData) (limit next done : ℕ) (log : List TupleAt) (sides : List (List TupleAt)) (taken : List ℕ) → IsOrdered spec limit next done log sides taken → done < 2 ^ 40 + 1
done-fits spec limit next done log sides taken o =
    omega (arith, o.small, o.below, o.within, rise-length 0 (tickets log) next o.rising, length-map log (λ (x : TupleAt). x.ticket))

pub several : (spec : JoinData) (limit next done : ℕ) (log : List TupleAt) (sides : List (List TupleAt)) (taken : List ℕ) → IsOrdered spec limit next done log sides taken → 1 < inputs spec
several spec limit next done log sides taken o = omega (arith, o.sound.few_inputs.0, length-map spec.shape.inputs (λ (schema : List Column). length schema))

-- what the choices of a ticket give is what its work finds
pub probe-finds : (node : ℕ) (spec : JoinData) (limit next done : ℕ) (log : List TupleAt) (sides : List (List TupleAt)) (puncts waiting : List PunctAt) (taken : List ℕ) (x : TupleAt)
    → IsOrdered spec limit next done log sides taken → Some x ≡ slice_get log done
    → record { join = node; ticket = x.ticket; rows = map joined (filter (agree spec.shape.classes) (product (choices spec.shape.classes x sides))) } ≡ found_of (seen (made_with node spec limit) next done log puncts waiting taken) x.ticket
probe-finds node spec limit next done log sides puncts waiting taken x o here =
    ap the_found (subst (λ (y : TupleAt). map joined (filter (agree spec.shape.classes) (product (choices spec.shape.classes y sides))) ≡ map joined (results spec log log y.ticket))
    (get_or_from_slice_get log done x x (sym here)) (choices-results spec limit next done log sides taken x o (slice_get_within log done x (sym here))))
  where
    the_found : List (List Value) → Found
    the_found rs = record { join = node; ticket = x.ticket; rows = rs }

-- what a take leaves and finds
pub takes-least : (node : ℕ) (spec : JoinData) (limit next done : ℕ) (log : List TupleAt) (sides : List (List TupleAt)) (puncts waiting : List PunctAt) (taken : List ℕ) (x : TupleAt) (found : Found)
    → IsOrdered spec limit next done log sides taken → done < length log → get_or log done x ≡ x
    → found ≡ record { join = node; ticket = x.ticket; rows = map joined (filter (agree spec.shape.classes) (product (choices spec.shape.classes x sides))) }
    → TakesLeast (seen (made_with node spec limit) next done log puncts waiting taken) (seen (made_with node spec limit) next (done + 1) log puncts waiting (taken ++ found.ticket ∷ [])) found
takes-least node spec limit next done log sides puncts waiting taken x found o lt here is = subst (λ (f : Found). TakesLeast (seen (made_with node spec limit) next done log puncts waiting taken) (seen (made_with node spec limit) next (done + 1) log puncts waiting (taken ++ f.ticket ∷ [])) f) (sym (is ∙ rows)) main
  where
    rows : record { join = node; ticket = x.ticket; rows = map joined (filter (agree spec.shape.classes) (product (choices spec.shape.classes x sides))) } ≡ found_of (seen (made_with node spec limit) next done log puncts waiting taken) x.ticket
    rows = ap (λ (rs : List (List Value)). the_found rs) (subst (λ (y : TupleAt). map joined (filter (agree spec.shape.classes) (product (choices spec.shape.classes y sides))) ≡ map joined (results spec log log y.ticket)) here (choices-results spec limit next done log sides taken x o lt))
      where
        the_found : List (List Value) → Found
        the_found rs = record { join = node; ticket = x.ticket; rows = rs }

    first : IsTakenFirst taken done log x.ticket
    first = subst (λ (y : TupleAt). IsTakenFirst taken done log y.ticket) here (taken-first next done log taken x o.open_rising lt)

    main : TakesLeast (seen (made_with node spec limit) next done log puncts waiting taken) (seen (made_with node spec limit) next (done + 1) log puncts waiting (taken ++ x.ticket ∷ [])) (found_of (seen (made_with node spec limit) next done log puncts waiting taken) x.ticket)
    main = record {
      pending = first.pending;
      least = first.least;
      finds = refl;
      changes = subst (λ (y : TupleAt). seen (made_with node spec limit) next (done + 1) log puncts waiting (taken ++ y.ticket ∷ []) ≡ after (seen (made_with node spec limit) next done log puncts waiting taken) (Take y.ticket)) here (seen-take node spec limit next done log puncts waiting taken x o.open_rising lt);
      taken = (first.opened, first.gone);
    }

-- a tuple is kept
pub tuple-keeps : (node : ℕ) (spec : JoinData) (limit next done : ℕ) (log more : List TupleAt) (puncts waiting : List PunctAt) (taken : List ℕ) (input : ℕ) (row : List Value) (x : TupleAt)
    → done ≤ length log → x ≡ record { ticket = next; input = input; row = row } → more ≡ log ++ x ∷ []
    → seen (made_with node spec limit) (next + 1) done more puncts waiting taken ≡ after (seen (made_with node spec limit) next done log puncts waiting taken) (TupleComes input row)
tuple-keeps node spec limit next done log more puncts waiting taken input row x le e m =
    ap (λ (l : List TupleAt). seen (made_with node spec limit) (next + 1) done l puncts waiting taken) (m ∙ ap (λ (y : TupleAt). log ++ y ∷ []) e)
    ∙ seen-tuple node spec limit next done log puncts waiting taken input row le

probe-does : (node : ℕ) (spec : JoinData) (limit next done : ℕ) (log : List TupleAt) (sides : List (List TupleAt)) (puncts waiting : List PunctAt) (taken : List ℕ) (x : TupleAt)
    → IsOrdered spec limit next done log sides taken → Some x ≡ slice_get log done
    → JoinProbes (seen (made_with node spec limit) next done log puncts waiting taken) (seen (made_with node spec limit) next (done + 1) log puncts waiting taken) (Some x.ticket)
probe-does node spec limit next done log sides puncts waiting taken x o here = (
  least,
  subst (λ (y : TupleAt). seen (made_with node spec limit) next (done + 1) log puncts waiting taken ≡ behind_probe (seen (made_with node spec limit) next done log puncts waiting taken) y.ticket) at (seen-probe node spec limit next done log puncts waiting taken x o.open_rising lt),
)
  where
    lt : done < length log
    lt = slice_get_within log done x (sym here)

    at : get_or log done x ≡ x
    at = get_or_from_slice_get log done x x (sym here)

    rows : List (List Value)
    rows = map joined (filter (agree spec.shape.classes) (product (choices spec.shape.classes x sides)))

    is : record { join = node; ticket = x.ticket; rows = rows } ≡ found_of (seen (made_with node spec limit) next done log puncts waiting taken) x.ticket
    is = probe-finds node spec limit next done log sides puncts waiting taken x o here

    first : TakesLeast (seen (made_with node spec limit) next done log puncts waiting taken) (seen (made_with node spec limit) next (done + 1) log puncts waiting (taken ++ x.ticket ∷ [])) (record { join = node; ticket = x.ticket; rows = rows })
    first = takes-least node spec limit next done log sides puncts waiting taken x (record { join = node; ticket = x.ticket; rows = rows }) o lt at refl

    least : TakesLeast (seen (made_with node spec limit) next done log puncts waiting taken) (after (seen (made_with node spec limit) next done log puncts waiting taken) (Take x.ticket)) (found_of (seen (made_with node spec limit) next done log puncts waiting taken) x.ticket)
    least = subst (λ (f : Found). TakesLeast (seen (made_with node spec limit) next done log puncts waiting taken) (after (seen (made_with node spec limit) next done log puncts waiting taken) (Take x.ticket)) f) is
        (subst (λ (v : JoinView). TakesLeast (seen (made_with node spec limit) next done log puncts waiting taken) v (record { join = node; ticket = x.ticket; rows = rows })) first.changes first)

pub probe-does-at : (node : ℕ) (spec : JoinData) (limit next done : ℕ) (log : List TupleAt) (sides : List (List TupleAt)) (puncts waiting : List PunctAt) (taken : List ℕ) (x : TupleAt)
    → IsOrdered spec limit next done log sides taken → Some x ≡ slice_get log done → (old : JoinView) → seen (made_with node spec limit) next done log puncts waiting taken ≡ old → (u : ℕ) → u ≡ x.ticket
    → JoinProbes old (seen (made_with node spec limit) next (done + 1) log puncts waiting taken) (Some u)
probe-does-at node spec limit next done log sides puncts waiting taken x o here old is u e =
    subst (λ (v : JoinView). JoinProbes v (seen (made_with node spec limit) next (done + 1) log puncts waiting taken) (Some u)) is
    (subst (λ (n : ℕ). JoinProbes (seen (made_with node spec limit) next done log puncts waiting taken) (seen (made_with node spec limit) next (done + 1) log puncts waiting taken) (Some n)) (sym e)
    (probe-does node spec limit next done log sides puncts waiting taken x o here))

pub probe-hands : (node : ℕ) (spec : JoinData) (limit next done : ℕ) (log : List TupleAt) (sides : List (List TupleAt)) (puncts waiting : List PunctAt) (taken : List ℕ) (x : TupleAt)
    → IsOrdered spec limit next done log sides taken → Some x ≡ slice_get log done → (old : JoinView) → seen (made_with node spec limit) next done log puncts waiting taken ≡ old → (u : ℕ) → u ≡ x.ticket
    → (before behind : List Out) → behind ≡ before ++ found_out spec.shape.classes x sides → behind ≡ before ++ map Tuple (rows_probed old (Some u))
probe-hands node spec limit next done log sides puncts waiting taken x o here old is u e before behind hands =
    hands ∙ ap (λ (f : Found). before ++ map Tuple f.rows) (probe-finds node spec limit next done log sides puncts waiting taken x o here)
    ∙ ap (λ (n : ℕ). before ++ map Tuple (rows_probed (seen (made_with node spec limit) next done log puncts waiting taken) (Some n))) (sym e)
    ∙ ap (λ (v : JoinView). before ++ map Tuple (rows_probed v (Some u))) is

pub take-finds : (node : ℕ) (spec : JoinData) (limit next done : ℕ) (log : List TupleAt) (sides : List (List TupleAt)) (puncts waiting : List PunctAt) (taken new : List ℕ) (x : TupleAt) (found : Found) (t : ℕ)
    → IsOrdered spec limit next done log sides taken → Some x ≡ slice_get log done
    → found ≡ record { join = node; ticket = x.ticket; rows = map joined (filter (agree spec.shape.classes) (product (choices spec.shape.classes x sides))) } → t ≡ found.ticket → new ≡ taken ++ t ∷ []
    → TakesLeast (seen (made_with node spec limit) next done log puncts waiting taken) (seen (made_with node spec limit) next (done + 1) log puncts waiting new) found
take-finds node spec limit next done log sides puncts waiting taken new x found t o here is e n =
    subst (λ ts. TakesLeast (seen (made_with node spec limit) next done log puncts waiting taken) (seen (made_with node spec limit) next (done + 1) log puncts waiting ts) found) (sym (n ∙ ap (λ u. taken ++ u ∷ []) e))
    (takes-least node spec limit next done log sides puncts waiting taken x found o (slice_get_within log done x (sym here)) (get_or_from_slice_get log done x x (sym here)) is)
