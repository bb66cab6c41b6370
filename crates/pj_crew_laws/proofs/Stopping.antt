-- Why a feeder is halted, and with which stop the run stopped.
use Rattle.std.proofs.Common.{ℕ, Bool, true, false, List, [], ◌∷◌, ◌++◌, ◌≡◌, Option, Some, None, inl, inr, refl, sym, ap, ◌∙◌, subst}
use Rattle.std.proofs.lemmas.Bool.{false≢true, true≢false}
use Rattle.pj_value.specs.Lists.{In}
use Rattle.pj_value.proofs.Members.{In-append_left, any_at}
use Rattle.pj_events.specs.declared.events.Entry.{Entry}
use Rattle.pj_events.specs.declared.events.Event.{Event}
use Rattle.pj_events.specs.declared.events.Event.TheVariants.{Arrive, Take as Taken, Give as Given, Sweep as Swept, Drain, Halt, Look as Looked, Stopped as StopMade, Idle}
use Rattle.pj_events.specs.declared.events.Stop.{Stop}
use Rattle.pj_events.specs.History.{AreEntriesLegal, IsEventAllowed, Reached, begun, next, reached_from, reached_of, stop_after}
use Rattle.pj_laws.specs.Seats.{HubPlan, halts, is_halted, seated, stop_from, stop_of}
use Rattle.pj_laws.proofs.Lists.{halt-reached, stop-reached}
use Rattle.pj_seats.specs.Answers.{IsRefusal, refused, stopping}
use Rattle.pj_workers.specs.Ends.{Ending, IsOver, IsRefused, ends_feeding}
use Rattle.pj_workers.specs.declared.ends.WorkEnd.TheVariants.{Over, NoMemory, Stopped}
use Rattle.pj_workers.specs.declared.feeding.FeedEnd.TheVariants.{Ended, Halted, ReadFault, ByteLimit, NoMemory as FeedMemory, Stopped as FeedStopped}
use Rattle.pj_crew_laws.specs.Acts.{Act, Fed, Probed, Swept as SweptPlaces, Wrote, HasActed, IsCrewHistory, is_fault, stop_told}
use Rattle.pj_crew_laws.specs.Crews.{HaltsHaveCause, NoneStops, OfCrews, StopsAreTold}
use Rattle.pj_crew_laws.proofs.Tests.{IsOfNoRound, NonePasses}
use Rattle.pj_crew_laws.proofs.Makers.{IsMade, made-of, none-made, seen-in}

-- ---- halts

halts-in-none : IsOfNoRound halts
halts-in-none = record {
  looks = λ pending. refl;
  idles = refl;
  takes = λ join ticket. refl;
  gives = λ join ticket. refl;
  sweeps = λ join input. refl;
  arrives = λ stream element. refl;
}

module _ (hub : HubPlan) (acts : List Act) (history : List Entry) (crew : IsCrewHistory hub acts history) where
  -- a worker that made a halt ended by a fault
  halt-is-fault : (entry : Entry) (made : IsMade hub acts history entry) → halts entry.event ≡ true → is_fault made.act ≡ true
  halt-is-fault entry made halt = go (is_fault made.act) refl
    where
      go : (fault : Bool) → is_fault made.act ≡ fault → fault ≡ true
      go true q = refl
      go false q = absurd (false≢true (sym (none-made hub acts history crew halts halts-in-none entry made (record {
        drains = λ writer. refl;
        halts = λ fault. absurd (false≢true (sym q ∙ fault));
        stops = λ stop told. refl;
      })) ∙ halt))

  -- a look that shows a halt
  halt-seen : (seat : ℕ) (ending : Ending) → IsOver hub seat ends_feeding ending → is_halted ending.history ≡ true
  halt-seen seat ending over = sym (halt-reached hub.trace hub.nodes ending.history) ∙ (sym over.told.halted ∙ over.shows)

  halt-has-cause : HaltsHaveCause hub acts history
  halt-has-cause seat old new did =
      let each = crew.each seat (Fed old new Halted) did in
      let ended = each.2.1.ended in
      let at = any_at (λ (entry : Entry). halts entry.event) ended.ending.history (halt-seen seat ended.ending ended.is) in
      let seen = subst (In at.0) (sym ended.seen) (In-append_left at.0 ended.ending.history (ended.ending.last ∷ []) at.1) in
      let made = made-of hub acts history crew at.0 (seen-in seat each.0 history each.1 at.0 seen) in
      ((at.0).seat, made.act, made.did, halt-is-fault at.0 made at.2)

pub halts-have-cause : OfCrews HaltsHaveCause
halts-have-cause hub planned acts history crew = halt-has-cause hub acts history crew

-- ---- the stop that is kept

stop-append : (stop : Option Stop) (xs ys : List Entry) → stop_from stop (xs ++ ys) ≡ stop_from (stop_from stop xs) ys
stop-append stop [] ys = refl
stop-append stop (x ∷ xs) ys = stop-append (stop_after stop x.event) xs ys

legal-behind : (r : Reached) (xs ys : List Entry) → AreEntriesLegal r (xs ++ ys) → AreEntriesLegal (reached_from false r xs) ys
legal-behind r [] ys legal = legal
legal-behind r (x ∷ xs) ys legal = legal-behind (next false r x) xs ys legal.1

-- an event behind a stop leaves it
stop-next : (r : Reached) (event : Event) (stop : Stop) → IsEventAllowed r event → r.stop ≡ Some stop → stop_after r.stop event ≡ Some stop
stop-next r (StopMade other) stop allowed is = absurd (cc (allowed, is))
stop-next r (Arrive stream element) stop allowed is = is
stop-next r (Taken join ticket) stop allowed is = is
stop-next r (Given join ticket) stop allowed is = is
stop-next r (Swept join input) stop allowed is = is
stop-next r Drain stop allowed is = is
stop-next r Halt stop allowed is = is
stop-next r (Looked pending) stop allowed is = is
stop-next r Idle stop allowed is = is

-- legal entries behind a stop leave it
stop-stays : (r : Reached) (entries : List Entry) (stop : Stop) → AreEntriesLegal r entries → r.stop ≡ Some stop → stop_from r.stop entries ≡ Some stop
stop-stays r [] stop legal is = is
stop-stays r (entry ∷ entries) stop legal is = stop-stays (next false r entry) entries stop legal.1 (stop-next r entry.event stop legal.0.0 is)

-- ---- refusals

refused-stops : (seat : ℕ) (history : List Entry) (stop : Stop) (cause : Type 0) → IsRefusal (stop_of history) stop cause → stop_of (history ++ seated seat (refused history stop) 0 ∷ []) ≡ Some stop
refused-stops seat history stop cause refusal = stop-append None history (seated seat (refused history stop) 0 ∷ []) ∙ go (stop_of history) refusal
  where
    go : (before : Option Stop) → IsRefusal before stop cause → stop_after before (stopping before stop) ≡ Some stop
    go None refusal = refl
    go (Some before) refusal = ap Some (sym refusal)

-- a call that was refused leaves what the seat has seen stopped
ending-stops : (hub : HubPlan) (seat : ℕ) (part : List Entry → Type 0) (stop : Stop) (ending : Ending) (seen : List Entry) → seen ≡ ending.history ++ ending.last ∷ [] → IsRefused hub seat part stop ending
    → stop_of seen ≡ Some stop
ending-stops hub seat part stop ending seen is refused =
    ap stop_of (is ∙ ap (λ (entry : Entry). ending.history ++ entry ∷ []) refused.is_last) ∙ refused-stops seat ending.history stop _ refused.cause

acted-stops : (hub : HubPlan) (seat : ℕ) (seen : List Entry) (act : Act) (stop : Stop) → HasActed hub seat seen act → stop_told act ≡ Some stop → stop_of seen ≡ Some stop
acted-stops hub seat seen (Fed old new Ended) stop acted told = absurd (cc)
acted-stops hub seat seen (Fed old new Halted) stop acted told = absurd (cc)
acted-stops hub seat seen (Fed old new ReadFault) stop acted told = absurd (cc)
acted-stops hub seat seen (Fed old new ByteLimit) stop acted told = absurd (cc)
acted-stops hub seat seen (Fed old new FeedMemory) stop acted told = absurd (cc)
acted-stops hub seat seen (Fed old new (FeedStopped own)) stop acted told =
    let ended = acted.1.ended in ending-stops hub seat _ own ended.ending seen ended.seen ended.is.call ∙ told
acted-stops hub seat seen (Probed Over) stop acted told = absurd (cc)
acted-stops hub seat seen (Probed NoMemory) stop acted told = absurd (cc)
acted-stops hub seat seen (Probed (Stopped own)) stop acted told = let ended = acted.ended in ending-stops hub seat _ own ended.ending seen ended.seen ended.is ∙ told
acted-stops hub seat seen (SweptPlaces places Over) stop acted told = absurd (cc)
acted-stops hub seat seen (SweptPlaces places NoMemory) stop acted told = absurd (cc)
acted-stops hub seat seen (SweptPlaces places (Stopped own)) stop acted told = let ended = acted.ended in ending-stops hub seat _ own ended.ending seen ended.seen ended.is ∙ told
acted-stops hub seat seen (Wrote end) stop acted told = absurd (cc)

pub stops-are-told : OfCrews StopsAreTold
stops-are-told hub planned acts history crew seat act stop did told =
    let each = crew.each seat act did in
    let saw = each.1 in
    let r : Reached = reached_of false hub.nodes each.0 in
    let here : r.stop ≡ stop_of each.0 = stop-reached false (begun hub.nodes) each.0 in
    let legal = legal-behind (begun hub.nodes) each.0 saw.behind (subst (AreEntriesLegal (begun hub.nodes)) saw.begins crew.by_plan.legal) in
    ap stop_of saw.begins
    ∙ (stop-append None each.0 saw.behind
    ∙ (ap (λ (o : Option Stop). stop_from o saw.behind) (sym here)
    ∙ stop-stays r saw.behind stop legal (here ∙ acted-stops hub seat each.0 act stop each.2 told)))

-- ---- no stop

abbrev is_stop : Event → Bool
is_stop (StopMade stop) = true
is_stop _ = false

stops-in-none : IsOfNoRound is_stop
stops-in-none = record {
  looks = λ pending. refl;
  idles = refl;
  takes = λ join ticket. refl;
  gives = λ join ticket. refl;
  sweeps = λ join input. refl;
  arrives = λ stream element. refl;
}

stop-unchanged : (old : Option Stop) (event : Event) → is_stop event ≡ false → stop_after old event ≡ old
stop-unchanged old (StopMade stop) none = absurd (true≢false none)
stop-unchanged old (Arrive stream element) none = refl
stop-unchanged old (Taken join ticket) none = refl
stop-unchanged old (Given join ticket) none = refl
stop-unchanged old (Swept join input) none = refl
stop-unchanged old Drain none = refl
stop-unchanged old Halt none = refl
stop-unchanged old (Looked pending) none = refl
stop-unchanged old Idle none = refl

none-stop : (old : Option Stop) (entries : List Entry) → NonePasses is_stop entries → stop_from old entries ≡ old
none-stop old [] none = refl
none-stop old (entry ∷ entries) none =
    ap (λ (o : Option Stop). stop_from o entries) (stop-unchanged old entry.event (none entry (inl refl)))
    ∙ none-stop old entries (λ other i. none other (inr i))

pub none-stops : OfCrews NoneStops
none-stops hub planned acts history crew none = none-stop None history (λ entry i. go entry (made-of hub acts history crew entry i))
  where
    go : (entry : Entry) → IsMade hub acts history entry → is_stop entry.event ≡ false
    go entry made = none-made hub acts history crew is_stop stops-in-none entry made (record {
      drains = λ writer. refl;
      halts = λ fault. refl;
      stops = λ stop told. absurd (cc (none entry.seat made.act made.did, told));
    })
