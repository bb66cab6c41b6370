-- What the ends of workers tell of the history.
use Rattle.std.proofs.Common.{ℕ, ◌⊎◌, inl, inr, true, false, List, [], ◌∷◌, ◌++◌, ◌≡◌, Option, Some, None, refl, sym, ap, ◌∙◌, subst, append_assoc}
use Rattle.std.proofs.lemmas.Bool.{true≢false}
use Rattle.pj_events.specs.declared.events.Entry.{Entry}
use Rattle.pj_events.specs.declared.events.Event.{Event}
use Rattle.pj_events.specs.declared.events.Event.TheVariants.{Arrive, Take as Taken, Give as Given, Sweep as Swept, Drain, Halt, Look as Looked, Stopped as StopMade, Idle}
use Rattle.pj_events.specs.declared.events.Stop.{Stop}
use Rattle.pj_events.specs.declared.events.Stop.TheVariants.{Limit, NoMemory as CoreMemory}
use Rattle.pj_events.specs.Outcomes.{elements_of}
use Rattle.pj_events.specs.History.{stop_after}
use Rattle.pj_laws.specs.Seats.{AreStopsDue, IsDue, IsStopDue, StopsWhereDue, made_by, stop_from}
use Rattle.pj_laws.proofs.Feeding.{elements-own}
use Rattle.pj_core.proofs.Planned.{planned}
use Rattle.pj_feed.specs.Feeds.{FeedState}
use Rattle.pj_feed.proofs.AllFeeds.{told_at}
use Rattle.pj_run.specs.Jobs.{Job}
use Rattle.pj_run.specs.Runs.{plan_run, run_nodes}
use Rattle.pj_workers.specs.declared.ends.WorkEnd.{WorkEnd}
use Rattle.pj_workers.specs.declared.ends.WorkEnd.TheVariants.{Over, NoMemory, Stopped}
use Rattle.pj_workers.specs.Feeds.{has_ended}
use Rattle.pj_workers.specs.declared.feeding.FeedEnd.{FeedEnd}
use Rattle.pj_workers.specs.declared.feeding.FeedEnd.TheVariants.{Ended, Halted, ReadFault, ByteLimit, NoMemory as FeedMemory, Stopped as FeedStopped}
use Rattle.pj_workers.specs.declared.writing.WriteEnd.{WriteEnd}
use Rattle.pj_workers.specs.declared.writing.WriteEnd.TheVariants.{Over as WriteOver, WriteFault, NoMemory as WriteMemory}
use Rattle.pj_crew_laws.specs.Acts.{Act, Fed, Probed, Swept as SweptAct, Wrote, feed_stop, is_fault, is_feed_fault, is_whole, is_work_fault, is_work_whole, is_write_fault, is_write_whole, stop_told, work_stop}
use Rattle.pj_crew_laws.specs.Crews.{Did}
use Rattle.pj_crew_laws.proofs.Makers.{own-seen}
use Rattle.pj_crew_laws.proofs.Stopping.{halts-have-cause, stops-are-told}
use Rattle.pj_crew_runs.specs.Runs.{IsCrewRun, LargeFilesTell, LimitsTell, MeetsLimit, OfCrewRuns, QuietAreWhole, ReadsTell, hub_of}

module _ (job : Job) (feeds : List FeedState) (acts : List Act) (history : List Entry) (run : IsCrewRun job feeds acts history) where
  -- what the seat of a stream made arrive is what arrived there
  own-is : (stream : ℕ) (act : Act) (did : Did acts stream act) → elements_of stream history ≡ elements_of stream (made_by stream (run.crew.each stream act did).0)
  own-is stream act did =
      elements-own stream history run.crew.by_seats.fed ∙ ap (elements_of stream) (own-seen stream (run.crew.each stream act did).0 history (run.crew.each stream act did).1)

pub reads-tell : OfCrewRuns ReadsTell
reads-tell job sound certified feeds acts history run stream old new at did =
    own-is job feeds acts history run stream (Fed old new ReadFault) did
    ∙ sym ((run.crew.each stream (Fed old new ReadFault) did).2.2.given.1 (told_at feeds stream old run.told at))

pub large-files-tell : OfCrewRuns LargeFilesTell
large-files-tell job sound certified feeds acts history run stream old new at did =
    let fault = (run.crew.each stream (Fed old new ByteLimit) did).2.2.given (told_at feeds stream old run.told at) in
    record { bytes = fault.0; arrived = own-is job feeds acts history run stream (Fed old new ByteLimit) did ∙ sym fault.1 }

-- ---- limits

module _ (job : Job) where
  -- of entries behind a history, the one that left the stop for a limit is due, or there was that stop before
  due-at : (old : Option Stop) (h es : List Entry) (node : ℕ) → AreStopsDue job.limit (run_nodes job) h es → stop_from old es ≡ Some (Limit node) → MeetsLimit job (h ++ es) node ⊎ (old ≡ Some (Limit node))
  due-at old h [] node due is = inr is
  due-at old h (e ∷ es) node due is = elim (due-at (stop_after old e.event) (h ++ e ∷ []) es node due.1 is) [
    | inl met ↦ inl (subst (λ (l : List Entry). MeetsLimit job l node) (append_assoc h (e ∷ []) es) met)
    | inr before ↦ at e.event due.0 before
  ]
    where
      met-here : (stop : Stop) → IsStopDue job.limit (run_nodes job) h stop → Some stop ≡ Some (Limit node) → MeetsLimit job (h ++ e ∷ es) node
      met-here (Limit n) d q = record { front = h; back = e ∷ es; parts = refl; due = let same : n ≡ node = cc in subst (IsDue job.limit (run_nodes job) h) same d }
      met-here CoreMemory d q = absurd (cc)

      at : (event : Event) → StopsWhereDue job.limit (run_nodes job) h event → stop_after old event ≡ Some (Limit node) → MeetsLimit job (h ++ e ∷ es) node ⊎ (old ≡ Some (Limit node))
      at (StopMade stop) d q = inl (met-here stop d q)
      at (Arrive s a) d q = inr q
      at (Taken j t) d q = inr q
      at (Given j t) d q = inr q
      at (Swept j i) d q = inr q
      at Drain d q = inr q
      at Halt d q = inr q
      at (Looked p) d q = inr q
      at Idle d q = inr q

pub limits-tell : OfCrewRuns LimitsTell
limits-tell job sound certified feeds acts history run seat node act did told =
    elim (due-at job None [] history node run.crew.by_plan.stops (stops-are-told (hub_of job) (planned (plan_run job) sound) acts history run.crew seat act (Limit node) did told)) [
      | inl met ↦ met
      | inr none ↦ absurd (cc)
    ]

-- ---- quiet crews

quiet-work : (end : WorkEnd) → is_work_fault end ≡ false → work_stop end ≡ None → is_work_whole end ≡ true
quiet-work Over fault stop = refl
quiet-work NoMemory fault stop = absurd (true≢false fault)
quiet-work (Stopped s) fault stop = absurd (cc)

quiet-write : (end : WriteEnd) → is_write_fault end ≡ false → is_write_whole end ≡ true
quiet-write WriteOver fault = refl
quiet-write WriteFault fault = absurd (true≢false fault)
quiet-write WriteMemory fault = absurd (true≢false fault)

quiet-feed : (end : FeedEnd) → is_feed_fault end ≡ false → feed_stop end ≡ None → (end ≡ Halted → ⊥) → has_ended end ≡ true
quiet-feed Ended fault stop on = refl
quiet-feed Halted fault stop on = absurd (on refl)
quiet-feed ReadFault fault stop on = absurd (true≢false fault)
quiet-feed ByteLimit fault stop on = absurd (true≢false fault)
quiet-feed FeedMemory fault stop on = absurd (true≢false fault)
quiet-feed (FeedStopped s) fault stop on = absurd (cc)

pub quiet-are-whole : OfCrewRuns QuietAreWhole
quiet-are-whole job sound certified feeds acts history run quiet seat act did = of-act act did (quiet seat act did)
  where
    of-act : (act : Act) → Did acts seat act → (is_fault act ≡ false) × (stop_told act ≡ None) → is_whole act ≡ true
    of-act (Fed old new end) did q = quiet-feed end q.0 q.1 (λ halted.
        let cause = halts-have-cause (hub_of job) (planned (plan_run job) sound) acts history run.crew seat old new (subst (λ (e : FeedEnd). Did acts seat (Fed old new e)) halted did) in
        true≢false (sym cause.3 ∙ (quiet cause.0 cause.1 cause.2).0))
    of-act (Probed end) did q = quiet-work end q.0 q.1
    of-act (SweptAct places end) did q = quiet-work end q.0 q.1
    of-act (Wrote end) did q = quiet-write end q.0
