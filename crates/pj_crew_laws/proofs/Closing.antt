-- A stream that an entry of a history closes is closed.
use Rattle.std.proofs.Common.{ℕ, Bool, true, false, cond, List, [], ◌∷◌, ◌≡◌, eqb, inl, inr, sym, subst}
use Rattle.std.proofs.lemmas.Bool.{and_parts, false≢true, or_cases, or_left, or_right}
use Rattle.pj_events.specs.declared.events.Entry.{Entry}
use Rattle.pj_events.specs.declared.events.Event.{Event}
use Rattle.pj_events.specs.declared.events.Event.TheVariants.{Arrive, Take as Taken, Give as Given, Sweep as Swept, Drain, Halt, Look as Looked, Stopped, Idle}
use Rattle.pj_events.specs.Join.{has}
use Rattle.pj_events.specs.History.{Reached, closed_after, next, reached_from}
use Rattle.pj_laws.specs.Seats.{closes, is_closed}

still-closed : (stream mark : ℕ) (closed : List ℕ) (event : Event) → has closed stream ≡ true → has (closed_after closed mark event) stream ≡ true
still-closed stream mark closed (Arrive s e) is = go (eqb mark 1)
  where
    go : (b : Bool) → has (cond b (s ∷ closed) closed) stream ≡ true
    go true = or_right (eqb s stream) (has closed stream) is
    go false = is
still-closed stream mark closed (Taken join ticket) is = is
still-closed stream mark closed (Given join ticket) is = is
still-closed stream mark closed (Swept join input) is = is
still-closed stream mark closed Drain is = is
still-closed stream mark closed Halt is = is
still-closed stream mark closed (Looked pending) is = is
still-closed stream mark closed (Stopped stop) is = is
still-closed stream mark closed Idle is = is

now-closed : (stream mark : ℕ) (closed : List ℕ) (event : Event) → closes stream mark event ≡ true → has (closed_after closed mark event) stream ≡ true
now-closed stream mark closed (Arrive s e) is =
    let parts = and_parts (eqb s stream) (eqb mark 1) is in
    subst (λ (b : Bool). has (cond b (s ∷ closed) closed) stream ≡ true) (sym parts.1) (or_left (eqb s stream) (has closed stream) parts.0)
now-closed stream mark closed (Taken join ticket) is = absurd (false≢true is)
now-closed stream mark closed (Given join ticket) is = absurd (false≢true is)
now-closed stream mark closed (Swept join input) is = absurd (false≢true is)
now-closed stream mark closed Drain is = absurd (false≢true is)
now-closed stream mark closed Halt is = absurd (false≢true is)
now-closed stream mark closed (Looked pending) is = absurd (false≢true is)
now-closed stream mark closed (Stopped stop) is = absurd (false≢true is)
now-closed stream mark closed Idle is = absurd (false≢true is)

closed-stays : (trace : Bool) (r : Reached) (h : List Entry) (stream : ℕ) → has r.closed stream ≡ true → has (reached_from trace r h).closed stream ≡ true
closed-stays trace r [] stream is = is
closed-stays trace r (entry ∷ h) stream is = closed-stays trace (next trace r entry) h stream (still-closed stream entry.closing r.closed entry.event is)

pub closed-reached : (trace : Bool) (r : Reached) (h : List Entry) (stream : ℕ) → is_closed stream h ≡ true → has (reached_from trace r h).closed stream ≡ true
closed-reached trace r [] stream is = absurd (false≢true is)
closed-reached trace r (entry ∷ h) stream is = elim (or_cases (closes stream entry.closing entry.event) (is_closed stream h) is) [
  | inl now ↦ closed-stays trace (next trace r entry) h stream (now-closed stream entry.closing r.closed entry.event now)
  | inr later ↦ closed-reached trace (next trace r entry) h stream later
]
