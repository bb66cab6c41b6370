-- Tickets that rise, and what each call makes of the inside of a join.
use Rattle.std.proofs.Common.{ℕ, zero, suc, ◌+◌, ◌<◌, ◌≤◌, ◌^◌, Bool, true, false, cond, ◌||◌, not, List, [], ◌∷◌, ◌++◌, ◌≡◌, map, filter, drop, length, get_or, set, refl, sym, ap, ap₂, ◌∙◌, subst, inl, inr, eqb, arith, append_assoc}
use Rattle.std.proofs.lemmas.Bool.{eq-eqb, or_right}
use Rattle.std.proofs.lemmas.List.{map-append, length-append, drop_more}
use Rattle.std.proofs.lemmas.List.Elements.{filter-append}
use Rattle.pj_shape.specs.Sound.{IsSoundSpec}
use Rattle.pj_events.specs.Join.{In, AreCertified, JoinData, Value, TupleAt, PunctAt, TupleComes, Take, Give, of_input, upto_from, has}
use Rattle.pj_events.specs.KeptState.{least, without}
use Rattle.pj_join.specs.Joins.{JoinView, after}
use Rattle.pj_join.specs.Insides.{tickets, seen, Rise, IsOrdered, made_with}
use Rattle.pj_value.proofs.Members.{In-append_cases}
use Rattle.pj_join_laws.proofs.Stand.{without-all}
use Rattle.pj_join.proofs.Classes.{eqb-apart, eqb-below, classes-more}

-- ---- numbers that rise

pub rise-more : (from : ℕ) (ts : List ℕ) (end : ℕ) → Rise from ts end → Rise from (ts ++ end ∷ []) (end + 1)
rise-more from [] end r = (r, omega arith)
rise-more from (t ∷ ts) end r = (r.0, rise-more (t + 1) ts end r.1)

pub rise-widen : (from : ℕ) (ts : List ℕ) (end : ℕ) → Rise from ts end → Rise from ts (end + 1)
rise-widen from [] end r = omega (arith, r)
rise-widen from (t ∷ ts) end r = (r.0, rise-widen (t + 1) ts end r.1)

pub rise-lower : (low from : ℕ) (ts : List ℕ) (end : ℕ) → low ≤ from → Rise from ts end → Rise low ts end
rise-lower low from [] end le r = omega (arith, le, r)
rise-lower low from (t ∷ ts) end le r = (omega (arith, le, r.0), r.1)

pub rise-end : (from : ℕ) (ts : List ℕ) (end : ℕ) → Rise from ts end → from ≤ end
rise-end from [] end r = r
rise-end from (t ∷ ts) end r = omega (arith, r.0, rise-end (t + 1) ts end r.1)

rise-least : (from : ℕ) (ts : List ℕ) (end : ℕ) → Rise from ts end → from ≤ least end ts
rise-least from [] end r = r
rise-least from (t ∷ ts) end r = omega (arith, r.0, rise-least (t + 1) ts end r.1)

-- the first number is the least
pub least-first : (from t : ℕ) (ts : List ℕ) (end : ℕ) → Rise from (t ∷ ts) end → least end (t ∷ ts) ≡ t
least-first from t ts end r = omega (arith, rise-least (t + 1) ts end r.1)

rise-back : (from : ℕ) (ts us : List ℕ) (end : ℕ) → Rise from (ts ++ us) end → Rise from us end
rise-back from [] us end r = r
rise-back from (t ∷ ts) us end r = rise-lower from (t + 1) us end (omega (arith, r.0)) (rise-back (t + 1) ts us end r.1)

pub rise-front : (from : ℕ) (ts us : List ℕ) (end : ℕ) → Rise from (ts ++ us) end → Rise from ts end
rise-front from [] us end r = rise-end from us end r
rise-front from (t ∷ ts) us end r = (r.0, rise-front (t + 1) ts us end r.1)

pub rise-to : (from : ℕ) (ts : List ℕ) (end last : ℕ) → end ≤ last → Rise from ts end → Rise from ts last
rise-to from [] end last le r = omega (arith, le, r)
rise-to from (t ∷ ts) end last le r = (r.0, rise-to (t + 1) ts end last le r.1)

-- no more numbers rise than there is room for
pub rise-length : (from : ℕ) (ts : List ℕ) (end : ℕ) → Rise from ts end → from + length ts ≤ end
rise-length from [] end r = omega (arith, r)
rise-length from (t ∷ ts) end r = omega (arith, r.0, rise-length (t + 1) ts end r.1)

pub rise-in : (from : ℕ) (ts : List ℕ) (end u : ℕ) → Rise from ts end → In u ts → from ≤ u
rise-in from [] end u r h = absurd h
rise-in from (t ∷ ts) end u r (inl e) = omega (arith, r.0, e)
rise-in from (t ∷ ts) end u r (inr h) = omega (arith, r.0, rise-in (t + 1) ts end u r.1 h)

-- a number below those that rise is none of them
pub rise-has : (from : ℕ) (ts : List ℕ) (end u : ℕ) → Rise from ts end → u < from → has ts u ≡ false
rise-has from [] end u r lt = refl
rise-has from (t ∷ ts) end u r lt = ap (λ b. b || has ts u) (eqb-apart t u (omega (arith, lt, r.0))) ∙ rise-has (t + 1) ts end u r.1 (omega (arith, lt, r.0))

without-first : (t : ℕ) (ts : List ℕ) → has ts t ≡ false → without (t ∷ ts) t ≡ ts
without-first t ts f = ap (λ b. cond (not b) (t ∷ without ts t) (without ts t)) (eq-eqb t t refl) ∙ without-all ts t f

rise-without : (from : ℕ) (ts : List ℕ) (end u : ℕ) → Rise from ts end → Rise from (without ts u) end
rise-without from [] end u r = r
rise-without from (t ∷ ts) end u r = go (eqb t u) (rise-without (t + 1) ts end u r.1)
  where
    go : (b : Bool) → Rise (t + 1) (without ts u) end → Rise from (cond (not b) (t ∷ without ts u) (without ts u)) end
    go true k = rise-lower from (t + 1) (without ts u) end (omega (arith, r.0)) k
    go false k = (r.0, k)

has-here : (ts us : List ℕ) (u : ℕ) → has (ts ++ u ∷ us) u ≡ true
has-here [] us u = ap (λ b. b || has us u) (eq-eqb u u refl)
has-here (t ∷ ts) us u = or_right (eqb t u) (has (ts ++ u ∷ us) u) (has-here ts us u)

opened-without : (taken pending : List ℕ) (u : ℕ) → has pending u ≡ false → without (taken ++ pending) u ≡ without taken u ++ pending
opened-without taken pending u f = filter-append (λ t. not (eqb t u)) taken pending ∙ ap (λ ts. without taken u ++ ts) (without-all pending u f)

-- ---- tickets of the log

pub drop-more_end : (done : ℕ) (log : List TupleAt) (x : TupleAt) → done ≤ length log → drop done (log ++ x ∷ []) ≡ drop done log ++ x ∷ []
drop-more_end zero log x le = refl
drop-more_end (suc done) [] x le = absurd (omega (arith, le))
drop-more_end (suc done) (y ∷ log) x le = drop-more_end done log x (omega (arith, le))

tickets-more : (done : ℕ) (log : List TupleAt) (x : TupleAt) → done ≤ length log → tickets (drop done (log ++ x ∷ [])) ≡ tickets (drop done log) ++ x.ticket ∷ []
tickets-more done log x le = ap tickets (drop-more_end done log x le) ∙ map-append (λ (y : TupleAt). y.ticket) (drop done log) (x ∷ [])

-- the first pending ticket
pub pending-first : (done : ℕ) (log : List TupleAt) (d : TupleAt) → done < length log → tickets (drop done log) ≡ (get_or log done d).ticket ∷ tickets (drop (done + 1) log)
pending-first done log d lt = ap tickets (drop_more log done d lt)

rise-at : (from : ℕ) (xs : List TupleAt) (end i : ℕ) (d : TupleAt) → Rise from (tickets xs) end → i < length xs → from ≤ (get_or xs i d).ticket
rise-at from [] end i d r lt = absurd (omega (arith, lt))
rise-at from (x ∷ xs) end zero d r lt = r.0
rise-at from (x ∷ xs) end (suc i) d r lt = omega (arith, r.0, rise-at (x.ticket + 1) xs end i d r.1 (omega (arith, lt)))

none-of : (from : ℕ) (xs : List TupleAt) (end u : ℕ) → Rise from (tickets xs) end → u < from → filter (λ y. eqb y.ticket u) xs ≡ []
none-of from [] end u r lt = refl
none-of from (x ∷ xs) end u r lt =
    ap (λ b. cond b (x ∷ filter (λ y. eqb y.ticket u) xs) (filter (λ y. eqb y.ticket u) xs)) (eqb-apart x.ticket u (omega (arith, lt, r.0)))
    ∙ none-of (x.ticket + 1) xs end u r.1 (omega (arith, lt, r.0))

-- one tuple alone has its ticket
pub only-of : (from : ℕ) (xs : List TupleAt) (end i : ℕ) (d : TupleAt) → Rise from (tickets xs) end → i < length xs → filter (λ y. eqb y.ticket (get_or xs i d).ticket) xs ≡ get_or xs i d ∷ []
only-of from [] end i d r lt = absurd (omega (arith, lt))
only-of from (x ∷ xs) end zero d r lt =
    ap (λ b. cond b (x ∷ filter (λ y. eqb y.ticket x.ticket) xs) (filter (λ y. eqb y.ticket x.ticket) xs)) (eq-eqb x.ticket x.ticket refl)
    ∙ ap (λ (ys : List TupleAt). x ∷ ys) (none-of (x.ticket + 1) xs end x.ticket r.1 (omega arith))
only-of from (x ∷ xs) end (suc i) d r lt =
    ap (λ b. cond b (x ∷ filter (λ y. eqb y.ticket (get_or xs i d).ticket) xs) (filter (λ y. eqb y.ticket (get_or xs i d).ticket) xs))
    (eqb-below x.ticket (get_or xs i d).ticket (omega (arith, rise-at (x.ticket + 1) xs end i d r.1 (omega (arith, lt)))))
    ∙ only-of (x.ticket + 1) xs end i d r.1 (omega (arith, lt))

-- ---- the calls

pub ordered-tuple : (spec : JoinData) (limit next done : ℕ) (log : List TupleAt) (sides : List (List TupleAt)) (taken : List ℕ) (x : TupleAt)
    → IsOrdered spec limit next done log sides taken → next ≤ limit → (next ≡ limit → ⊥) → x.ticket ≡ next → x.input < length spec.shape.inputs
    → IsOrdered spec limit (next + 1) done (log ++ x ∷ []) (set sides x.input (get_or sides x.input [] ++ x ∷ [])) taken
ordered-tuple spec limit next done log sides taken x o le ne e lt = record {
  sound = o.sound;
  certified = o.certified;
  small = o.small;
  below = omega (arith, le, ne);
  within = omega (arith, o.within, length-append log (x ∷ []));
  rising = subst (λ ts. Rise 0 ts (next + 1)) (ap (λ t. tickets log ++ t ∷ []) (sym e) ∙ sym (map-append (λ (y : TupleAt). y.ticket) log (x ∷ []))) (rise-more 0 (tickets log) next o.rising);
  open_rising = subst (λ ts. Rise 0 ts (next + 1)) (ap (λ t. (taken ++ tickets (drop done log)) ++ t ∷ []) (sym e) ∙ append_assoc taken (tickets (drop done log)) (x.ticket ∷ []) ∙ ap (λ ts. taken ++ ts) (sym (tickets-more done log x o.within))) (rise-more 0 (taken ++ tickets (drop done log)) next o.open_rising);
  placed = λ y h. elim (In-append_cases y log (x ∷ []) h) [
    | inl k ↦ o.placed y k
    | inr k ↦ elim k [
      | inl same ↦ subst (λ (z : TupleAt). z.input < length spec.shape.inputs) same lt
      | inr none ↦ absurd none
    ]
  ];
  by_input = ap (λ (s : List (List TupleAt)). set s x.input (get_or s x.input [] ++ x ∷ [])) o.by_input ∙ classes-more (λ y. y.input) 0 (length spec.shape.inputs) x.input log x (omega arith) lt;
}

pub seen-tuple : (node : ℕ) (spec : JoinData) (limit next done : ℕ) (log : List TupleAt) (puncts waiting : List PunctAt) (taken : List ℕ) (input : ℕ) (row : List Value) → done ≤ length log
    → seen (made_with node spec limit) (next + 1) done (log ++ record { ticket = next; input = input; row = row } ∷ []) puncts waiting taken ≡ after (seen (made_with node spec limit) next done log puncts waiting taken) (TupleComes input row)
seen-tuple node spec limit next done log puncts waiting taken input row le =
    ap (λ ts. view ts (taken ++ ts)) (tickets-more done log (record { ticket = next; input = input; row = row }) le)
    ∙ ap (view (tickets (drop done log) ++ next ∷ [])) (sym (append_assoc taken (tickets (drop done log)) (next ∷ [])))
  where
    view : List ℕ → List ℕ → JoinView
    view pending opened = record {
      node = node;
      spec = spec;
      limit = limit;
      kept = record { next = next + 1; stored = log ++ record { ticket = next; input = input; row = row } ∷ []; puncts = puncts; pending = pending; opened = opened; waiting = waiting };
    }

pub ordered-punct : (spec : JoinData) (limit next done : ℕ) (log : List TupleAt) (sides : List (List TupleAt)) (taken : List ℕ)
    → IsOrdered spec limit next done log sides taken → (next ≡ limit → ⊥) → IsOrdered spec limit (next + 1) done log sides taken
ordered-punct spec limit next done log sides taken o ne = record {
  sound = o.sound;
  certified = o.certified;
  small = o.small;
  below = omega (arith, o.below, ne);
  within = o.within;
  rising = rise-widen 0 (tickets log) next o.rising;
  open_rising = rise-widen 0 (taken ++ tickets (drop done log)) next o.open_rising;
  placed = o.placed;
  by_input = o.by_input;
}

pub ordered-take : (spec : JoinData) (limit next done : ℕ) (log : List TupleAt) (sides : List (List TupleAt)) (taken : List ℕ) (d : TupleAt)
    → IsOrdered spec limit next done log sides taken → done < length log → IsOrdered spec limit next (done + 1) log sides (taken ++ (get_or log done d).ticket ∷ [])
ordered-take spec limit next done log sides taken d o lt = record {
  sound = o.sound;
  certified = o.certified;
  small = o.small;
  below = o.below;
  within = omega (arith, lt);
  rising = o.rising;
  open_rising = subst (λ ts. Rise 0 ts next) (ap (λ ts. taken ++ ts) (pending-first done log d lt) ∙ sym (append_assoc taken ((get_or log done d).ticket ∷ []) (tickets (drop (done + 1) log)))) o.open_rising;
  placed = o.placed;
  by_input = o.by_input;
}

pub ordered-give : (spec : JoinData) (limit next done : ℕ) (log : List TupleAt) (sides : List (List TupleAt)) (taken : List ℕ) (u : ℕ)
    → IsOrdered spec limit next done log sides taken → has (tickets (drop done log)) u ≡ false → IsOrdered spec limit next done log sides (without taken u)
ordered-give spec limit next done log sides taken u o f = record {
  sound = o.sound;
  certified = o.certified;
  small = o.small;
  below = o.below;
  within = o.within;
  rising = o.rising;
  open_rising = subst (λ ts. Rise 0 ts next) (opened-without taken (tickets (drop done log)) u f) (rise-without 0 (taken ++ tickets (drop done log)) next u o.open_rising);
  placed = o.placed;
  by_input = o.by_input;
}

pub seen-give : (node : ℕ) (spec : JoinData) (limit next done : ℕ) (log : List TupleAt) (puncts waiting : List PunctAt) (taken : List ℕ) (u : ℕ) → has (tickets (drop done log)) u ≡ false
    → seen (made_with node spec limit) next done log puncts waiting (without taken u) ≡ after (seen (made_with node spec limit) next done log puncts waiting taken) (Give u)
seen-give node spec limit next done log puncts waiting taken u f = ap view (sym (opened-without taken (tickets (drop done log)) u f))
  where
    view : List ℕ → JoinView
    view opened = record {
      node = node;
      spec = spec;
      limit = limit;
      kept = record { next = next; stored = log; puncts = puncts; pending = tickets (drop done log); opened = opened; waiting = waiting };
    }

-- the pending tickets behind the first are greater
after-first : (taken : List ℕ) (u : ℕ) (us : List ℕ) (next : ℕ) → Rise 0 (taken ++ u ∷ us) next → Rise (u + 1) us next
after-first taken u us next r = (rise-back 0 taken (u ∷ us) next r).1

pub seen-take : (node : ℕ) (spec : JoinData) (limit next done : ℕ) (log : List TupleAt) (puncts waiting : List PunctAt) (taken : List ℕ) (d : TupleAt) → Rise 0 (taken ++ tickets (drop done log)) next → done < length log
    → seen (made_with node spec limit) next (done + 1) log puncts waiting (taken ++ (get_or log done d).ticket ∷ []) ≡ after (seen (made_with node spec limit) next done log puncts waiting taken) (Take (get_or log done d).ticket)
seen-take node spec limit next done log puncts waiting taken d r lt = ap₂ view (sym pending) opened
  where
    view : List ℕ → List ℕ → JoinView
    view pending opened = record {
      node = node;
      spec = spec;
      limit = limit;
      kept = record { next = next; stored = log; puncts = puncts; pending = pending; opened = opened; waiting = waiting };
    }

    first : tickets (drop done log) ≡ (get_or log done d).ticket ∷ tickets (drop (done + 1) log)
    first = pending-first done log d lt

    later : Rise ((get_or log done d).ticket + 1) (tickets (drop (done + 1) log)) next
    later = after-first taken (get_or log done d).ticket (tickets (drop (done + 1) log)) next (subst (λ ts. Rise 0 (taken ++ ts) next) first r)

    pending : without (tickets (drop done log)) (get_or log done d).ticket ≡ tickets (drop (done + 1) log)
    pending = ap (λ ts. without ts (get_or log done d).ticket) first ∙ without-first (get_or log done d).ticket (tickets (drop (done + 1) log)) (rise-has ((get_or log done d).ticket + 1) (tickets (drop (done + 1) log)) next (get_or log done d).ticket later (omega arith))

    opened : (taken ++ (get_or log done d).ticket ∷ []) ++ tickets (drop (done + 1) log) ≡ taken ++ tickets (drop done log)
    opened = append_assoc taken ((get_or log done d).ticket ∷ []) (tickets (drop (done + 1) log)) ∙ ap (λ ts. taken ++ ts) (sym first)

-- a ticket behind those that are taken is the last of them
rise-behind : (from : ℕ) (ts : List ℕ) (u : ℕ) (us : List ℕ) (end : ℕ) → Rise from (ts ++ u ∷ us) end → from ≤ u
rise-behind from [] u us end r = r.0
rise-behind from (t ∷ ts) u us end r = omega (arith, r.0, rise-behind (t + 1) ts u us end r.1)

without-last : (from : ℕ) (ts : List ℕ) (u : ℕ) (us : List ℕ) (end : ℕ) → Rise from (ts ++ u ∷ us) end → without (ts ++ u ∷ []) u ≡ ts
without-last from [] u us end r = without-first u [] refl
without-last from (t ∷ ts) u us end r =
    ap (λ b. cond (not b) (t ∷ without (ts ++ u ∷ []) u) (without (ts ++ u ∷ []) u)) (eqb-below t u (let b = rise-behind (t + 1) ts u us end r.1 in omega (arith, b)))
    ∙ ap (λ vs. t ∷ vs) (without-last (t + 1) ts u us end r.1)

-- the ticket that is taken: it was pending, and the least of those, and is taken and not given
pub record IsTakenFirst (taken : List ℕ) (done : ℕ) (log : List TupleAt) (u : ℕ) : Type 0 where
  pub pending : has (tickets (drop done log)) u ≡ true
  pub least : (t : ℕ) → In t (tickets (drop done log)) → u ≤ t
  pub opened : has ((taken ++ u ∷ []) ++ tickets (drop (done + 1) log)) u ≡ true
  pub gone : has (tickets (drop (done + 1) log)) u ≡ false

pub taken-first : (next done : ℕ) (log : List TupleAt) (taken : List ℕ) (d : TupleAt) → Rise 0 (taken ++ tickets (drop done log)) next → done < length log → IsTakenFirst taken done log (get_or log done d).ticket
taken-first next done log taken d r lt = record {
  pending = subst (λ ts. has ts (get_or log done d).ticket ≡ true) (sym first) (has-here [] (tickets (drop (done + 1) log)) (get_or log done d).ticket);
  least = λ t h. go t (subst (λ ts. In t ts) first h);
  opened = subst (λ ts. has ts (get_or log done d).ticket ≡ true) (sym (append_assoc taken ((get_or log done d).ticket ∷ []) (tickets (drop (done + 1) log)))) (has-here taken (tickets (drop (done + 1) log)) (get_or log done d).ticket);
  gone = rise-has ((get_or log done d).ticket + 1) (tickets (drop (done + 1) log)) next (get_or log done d).ticket later (omega arith);
}
  where
    first : tickets (drop done log) ≡ (get_or log done d).ticket ∷ tickets (drop (done + 1) log)
    first = pending-first done log d lt

    later : Rise ((get_or log done d).ticket + 1) (tickets (drop (done + 1) log)) next
    later = after-first taken (get_or log done d).ticket (tickets (drop (done + 1) log)) next (subst (λ ts. Rise 0 (taken ++ ts) next) first r)

    go : (t : ℕ) → In t ((get_or log done d).ticket ∷ tickets (drop (done + 1) log)) → (get_or log done d).ticket ≤ t
    go t (inl e) = omega (arith, e)
    go t (inr h) = omega (arith, rise-in ((get_or log done d).ticket + 1) (tickets (drop (done + 1) log)) next t later h)

taken-and-given : (next done : ℕ) (log : List TupleAt) (taken : List ℕ) (d : TupleAt) → Rise 0 (taken ++ tickets (drop done log)) next → done < length log
    → without (taken ++ (get_or log done d).ticket ∷ []) (get_or log done d).ticket ≡ taken
taken-and-given next done log taken d r lt =
    without-last 0 taken (get_or log done d).ticket (tickets (drop (done + 1) log)) next (subst (λ ts. Rise 0 (taken ++ ts) next) (pending-first done log d lt) r)

-- a ticket that is taken and given at once
pub ordered-probe : (spec : JoinData) (limit next done : ℕ) (log : List TupleAt) (sides : List (List TupleAt)) (taken : List ℕ) (d : TupleAt)
    → IsOrdered spec limit next done log sides taken → done < length log → IsOrdered spec limit next (done + 1) log sides taken
ordered-probe spec limit next done log sides taken d o lt =
    subst (λ ts. IsOrdered spec limit next (done + 1) log sides ts) (taken-and-given next done log taken d o.open_rising lt)
    (ordered-give spec limit next (done + 1) log sides (taken ++ (get_or log done d).ticket ∷ []) (get_or log done d).ticket (ordered-take spec limit next done log sides taken d o lt)
    (taken-first next done log taken d o.open_rising lt).gone)

pub seen-probe : (node : ℕ) (spec : JoinData) (limit next done : ℕ) (log : List TupleAt) (puncts waiting : List PunctAt) (taken : List ℕ) (d : TupleAt) → Rise 0 (taken ++ tickets (drop done log)) next → done < length log
    → seen (made_with node spec limit) next (done + 1) log puncts waiting taken ≡ after (after (seen (made_with node spec limit) next done log puncts waiting taken) (Take (get_or log done d).ticket)) (Give (get_or log done d).ticket)
seen-probe node spec limit next done log puncts waiting taken d r lt =
    ap (seen (made_with node spec limit) next (done + 1) log puncts waiting) (sym (taken-and-given next done log taken d r lt))
    ∙ seen-give node spec limit next (done + 1) log puncts waiting (taken ++ (get_or log done d).ticket ∷ []) (get_or log done d).ticket (taken-first next done log taken d r lt).gone
    ∙ ap (λ (v : JoinView). after v (Give (get_or log done d).ticket)) (seen-take node spec limit next done log puncts waiting taken d r lt)

pub ordered-start : (spec : JoinData) (limit : ℕ) (sides : List (List TupleAt)) → IsSoundSpec spec.shape → AreCertified spec → limit ≤ 2 ^ 40 → sides ≡ map (λ k. of_input k []) (upto_from 0 (length spec.shape.inputs)) → IsOrdered spec limit 0 0 [] sides []
ordered-start spec limit sides s certified le e = record {
  sound = s;
  certified = certified;
  small = le;
  below = omega arith;
  within = omega arith;
  rising = omega arith;
  open_rising = omega arith;
  placed = λ x h. absurd h;
  by_input = e;
}
