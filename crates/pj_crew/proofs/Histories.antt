-- The one history of a crew.
use Rattle.std.proofs.Common.{◌≡◌, ◌<◌, ℕ, suc, ◌+◌, ◌⊎◌, arith, List, [], ◌∷◌, ◌++◌, length, reverse, All, Some, slice_get, inl, inr, refl, sym, ap, ◌∙◌, subst}
use Rattle.std.specs.List.{AllZip}
use Rattle.std.proofs.lemmas.List.{length-reverse}
use Rattle.std.proofs.lemmas.List.Elements.{length_all_zip}
use Rattle.pj_io.specs.States.{SinkState}
use Rattle.pj_plan.specs.declared.node.PlanNode.{PlanNode}
use Rattle.pj_events.specs.declared.events.Entry.{Entry}
use Rattle.pj_events.specs.declared.events.Out.{Out}
use Rattle.pj_core.specs.Cores.{CoreState, StandsFor}
use Rattle.pj_laws.specs.Seats.{HubPlan}
use Rattle.pj_turn.specs.History.{HasSeen}
use Rattle.pj_report.specs.declared.writer.ResultWriter.{ResultWriter}
use Rattle.pj_workers.specs.Writes.{IsWritten, drained_in}
use Rattle.pj_workers.specs.declared.writing.WriteEnd.{WriteEnd}
use Rattle.pj_hub.specs.declared.made.MadeWith.{MadeWith}
use Rattle.pj_hub.specs.Hubs.{ClosesHub, hub_with, made_with}
use Rattle.pj_crew_laws.specs.Acts.{Act, HasActed, IsCrewHistory, SawFront, Wrote}
use Rattle.pj_crew.specs.declared.duties.Duty.{Duty}
use Rattle.pj_crew.specs.declared.crew.Ended.{Ended}
use Rattle.pj_crew.specs.Crews.{HasRun}
use Rattle.pj_crew.specs.Duties.{IsSameDuty, acts_of}
use Rattle.pj_crew.specs.Tasks.{HandsOver, HasWorked, HasWritten, Name, SeatState, TaskState, WriterState}
use Rattle.pj_crew.specs.Seats.{duties_of, seat_states, seated, seats_of}
use Rattle.pj_crew.proofs.Beginnings.{AreFresh, IsFreshAt, numbered-so, opened, zip-turned-back}
use Rattle.pj_crew.proofs.Endings.{AreNumbered, acted-at, at-last, drained-front, has-at, in-front, numbered-at, numbered-push, push-cases, same-duties, saw-front, some-is, states-at, states-of, worked-numbered}

-- a crew that began on new seats, and what its tasks and its writer are now
pub record Done {A S : Type 0} (view : A → SeatState) (name : Name) (hub : HubPlan) (nodes : List PlanNode) (duties : List (Duty S)) (before after : SinkState) : Type 0 where
  pub seats : List A
  pub news : List (TaskState S)
  pub writer : WriterState
  pub wrote : WriterState
  pub each : length seats ≡ length duties
  pub fresh : AreFresh name 0 (seat_states view seats)
  pub alone : IsFreshAt name (length duties) writer.seat
  pub worked : AllZip (HasWorked hub) (seated view seats duties) news
  pub written : HasWritten hub nodes writer wrote before after

pub length-push : {X : Type 0} (xs : List X) (x : X) → length (xs ++ x ∷ []) ≡ length xs + 1
length-push [] x = refl
length-push (y ∷ xs) x = ap suc (length-push xs x) ∙ omega (arith)

length-seated : {A S : Type 0} (view : A → SeatState) (seats : List A) (duties : List (Duty S)) → length seats ≡ length duties → length (seated view seats duties) ≡ length duties
length-seated view [] [] same = refl
length-seated view [] (d ∷ duties) same = absurd (omega (arith, same))
length-seated view (s ∷ seats) [] same = absurd (omega (arith, same))
length-seated view (s ∷ seats) (d ∷ duties) same = ap suc (length-seated view seats duties (omega (arith, same)))

-- there are as many tasks as there were duties
pub tasks-long : {A S : Type 0} (view : A → SeatState) (hub : HubPlan) (all seats : List A) (last : A) (duties : List (Duty S)) (tasks news : List (TaskState S)) → all ≡ seats ++ last ∷ [] → length all ≡ length duties + 1
    → tasks ≡ reverse (seated view seats duties) → AllZip (HasWorked hub) tasks news → length news ≡ length duties
tasks-long view hub all seats last duties tasks news is long placed worked =
    sym (length_all_zip (HasWorked hub) tasks news worked) ∙ (ap length placed ∙ (length-reverse (seated view seats duties) ∙ length-seated view seats duties (omega (arith, long, ap length is, length-push seats last))))

-- by what the crew was made of, and what its parts are now
abbrev pub crew-done : {A S : Type 0} (view : A → SeatState) (name : Name) (made : MadeWith) (nodes : List PlanNode) (duties : List (Duty S)) (before after : SinkState) (all seats : List A) (last : A) (tasks news : List (TaskState S))
    (writer wrote : WriterState) → all ≡ seats ++ last ∷ [] → ((i : ℕ) (s : A) → slice_get all i ≡ Some s → IsFreshAt name i (view s)) → length all ≡ length duties + 1 → tasks ≡ reverse (seated view seats duties)
    → AllZip (HasWorked (hub_with made)) tasks news → writer.seat ≡ view last → HasWritten (hub_with made) nodes writer wrote before after → Done view name (hub_with made) nodes duties before after
crew-done view name made nodes duties before after all seats last tasks news writer wrote is each long placed worked writes written = record {
  seats = seats;
  news = reverse news;
  writer = writer;
  wrote = wrote;
  each = same;
  fresh = (opened view name all seats last is each).0;
  alone = subst (IsFreshAt name (length duties)) (sym writes) (numbered-so name (length seats) (length duties) (view last) same (opened view name all seats last is each).1);
  worked = zip-turned-back (HasWorked (hub_with made)) (seated view seats duties) news (subst (λ ts. AllZip (HasWorked (hub_with made)) ts news) placed worked);
  written = written;
}
  where
    same : length seats ≡ length duties
    same = omega (arith, long, ap length is, length-push seats last)

-- the seats of a crew, all of them
pub record AreAll {A : Type 0} (view : A → SeatState) (name : Name) (count : ℕ) (seats : List A) : Type 0 where
  pub named : (k : ℕ) (s : A) → slice_get seats k ≡ Some s → (view s).name ≡ name
  pub each : (n : ℕ) → n < count → (k : ℕ) × (s : A) × (slice_get seats k ≡ Some s) × ((view s).number ≡ n)

pub are-all : {A : Type 0} (view : A → SeatState) (name : Name) (seats : List A) (states : List SeatState) → seat_states view seats ≡ states → AreNumbered name 0 states → AreAll view name (length states) seats
are-all {A = A} view name seats states is are = record {
  named = λ k s e. (numbered-at name 0 states k (view s) are (subst (λ (l : List SeatState). slice_get l k ≡ Some (view s)) is (states-of view seats k s e))).0;
  each = λ n lt. find n (has-at states n lt);
}
  where
    find : (n : ℕ) → (state : SeatState) × (slice_get states n ≡ Some state) → (k : ℕ) × (s : A) × (slice_get seats k ≡ Some s) × ((view s).number ≡ n)
    find n (state, at) =
        let there = states-at view seats n state (subst (λ (l : List SeatState). slice_get l n ≡ Some state) (sym is) at) in
        (n, there.0, there.1, ap (λ (x : SeatState). x.number) there.2 ∙ ((numbered-at name 0 states n state are at).1 ∙ omega (arith)))

module _ {A S : Type 0} (view : A → SeatState) (name : Name) (made : MadeWith) (nodes : List PlanNode) (duties : List (Duty S)) (before after : SinkState) (d : Done view name (hub_with made) nodes duties before after) where
  abbrev pub hub : HubPlan
  hub = hub_with made

  abbrev pub acts : List Act
  acts = acts_of duties (duties_of d.news)

  abbrev pub states : List SeatState
  states = seats_of d.news ++ d.wrote.seat ∷ []

  counted : AreNumbered name 0 (seats_of d.news) × (length (seats_of d.news) ≡ length duties) × (length acts ≡ length duties)
  counted = worked-numbered view name hub 0 d.seats duties d.news d.each d.fresh d.worked

  -- the seats of all, the writer's behind the others
  pub all-numbered : AreNumbered name 0 states
  all-numbered = numbered-push name 0 (seats_of d.news) d.wrote.seat counted.0 (d.written.seat.name ∙ d.alone.fresh.name) (d.written.seat.number ∙ (d.alone.number ∙ (sym counted.1 ∙ omega (arith))))

  pub all-counted : length states ≡ length duties + 1
  all-counted = length-push (seats_of d.news) d.wrote.seat ∙ ap (λ n. n + 1) counted.1

  module _ (Saw : ℕ → List Entry → Type 0) (core : CoreState) (closes : ClosesHub made (length duties + 1) Saw core)
      (saw : (i : ℕ) (state : SeatState) → slice_get states i ≡ Some state → Saw state.number state.seen) where
    has-seen : (i : ℕ) (state : SeatState) → slice_get states i ≡ Some state → SawFront i state.seen closes.history
    has-seen i state at = saw-front i state.seen closes.history
        (subst (λ n. HasSeen (λ (entry : Entry). entry.seat) n state.seen closes.history) ((numbered-at name 0 states i state all-numbered at).1 ∙ omega (arith)) (closes.seen state.number state.seen (saw i state at)).0)

    pub crew-history : IsCrewHistory hub (acts ++ Wrote d.wrote.end ∷ []) closes.history
    crew-history = record {
      by_plan = closes.by_plan;
      by_seats = closes.by_seats;
      of_seats = subst (λ n. All (λ (entry : Entry). entry.seat < n) closes.history) (sym (length-push acts (Wrote d.wrote.end) ∙ ap (λ n. n + 1) counted.2)) closes.of_seats;
      each = λ seat act e. go seat act (push-cases acts (Wrote d.wrote.end) act seat e);
    }
      where
        go : (seat : ℕ) (act : Act) → (slice_get acts seat ≡ Some act) ⊎ ((seat ≡ length acts) × (Some (Wrote d.wrote.end) ≡ Some act)) → (seen : List Entry) × SawFront seat seen closes.history × HasActed hub seat seen act
        go seat act (inl at) =
            let a = acted-at view name hub 0 d.seats duties d.news d.fresh d.worked d.each seat act at in
            (a.seat.seen, has-seen seat a.seat (in-front (seats_of d.news) (d.wrote.seat ∷ []) a.seat seat a.there), subst (λ n. HasActed hub n a.seat.seen act) (omega (arith)) a.acted)
        go seat act (inr last) =
            let place : length (seats_of d.news) ≡ seat = counted.1 ∙ (sym counted.2 ∙ sym last.0) in (
              d.wrote.seat.seen,
              has-seen seat d.wrote.seat (subst (λ n. slice_get states n ≡ Some d.wrote.seat) place (at-last (seats_of d.news) d.wrote.seat)),
              subst (λ (a : Act). HasActed hub seat d.wrote.seat.seen a) (some-is (Wrote d.wrote.end) act last.1) (subst (λ n. HasActed hub n d.wrote.seat.seen (Wrote d.wrote.end)) (d.alone.number ∙ (sym counted.2 ∙ sym last.0)) d.written.acted),
            )

    pub crew-wrote : IsWritten d.wrote.end nodes d.writer.results d.wrote.results before after (drained_in hub (length duties) closes.history)
    crew-wrote = subst (λ (outs : List Out). IsWritten d.wrote.end nodes d.writer.results d.wrote.results before after outs) gained d.written.wrote.handled
      where
        front : SawFront (length duties) d.wrote.seat.seen closes.history
        front = has-seen (length duties) d.wrote.seat (subst (λ n. slice_get states n ≡ Some d.wrote.seat) counted.1 (at-last (seats_of d.news) d.wrote.seat))

        gained : d.written.wrote.gained ≡ drained_in hub (length duties) closes.history
        gained = sym d.written.wrote.drains
            ∙ (ap (λ n. drained_in hub n d.wrote.seat.seen) d.alone.number
            ∙ (sym (drained-front hub (length duties) d.wrote.seat.seen front.behind front.no_own) ∙ ap (λ (l : List Entry). drained_in hub (length duties) l) (sym front.begins)))

    -- what the crew leaves
    pub has-run : (results : ResultWriter) (ended : Ended S) → d.writer.results ≡ results → ended.core ≡ core → ended.duties.items ≡ duties_of d.news → ended.results ≡ d.wrote.results → ended.end ≡ d.wrote.end
        → HasRun (record { made = made; nodes = nodes; duties = duties; results = results }) before after ended
    has-run results ended began is-core is-duties is-results is-end = record {
      history = closes.history;
      stands = subst (λ (c : CoreState). StandsFor c closes.history) (sym is-core) closes.stands;
      made = subst (λ (c : CoreState). made_with c ≡ made) (sym is-core) closes.made_is;
      acted = subst (λ (news : List (Duty S)). IsCrewHistory hub (acts_of duties news ++ Wrote ended.end ∷ []) closes.history) (sym is-duties)
          (subst (λ (end : WriteEnd). IsCrewHistory hub (acts ++ Wrote end ∷ []) closes.history) (sym is-end) crew-history);
      same = subst (λ (news : List (Duty S)). AllZip (IsSameDuty hub) duties news) (sym is-duties) (same-duties view hub d.seats duties d.news d.each d.worked);
      wrote = subst (λ (end : WriteEnd). IsWritten end nodes results ended.results before after outs) (sym is-end)
          (subst (λ (r : ResultWriter). IsWritten d.wrote.end nodes results r before after outs) (sym is-results)
          (subst (λ (r : ResultWriter). IsWritten d.wrote.end nodes r d.wrote.results before after outs) began crew-wrote));
      form = ap (λ (r : ResultWriter). r.form) is-results ∙ (d.written.form ∙ ap (λ (r : ResultWriter). r.form) began);
      output = subst (λ (end : WriteEnd). HandsOver end before after) (sym is-end) d.written.output;
    }
      where
        outs : List Out
        outs = drained_in hub (length duties) closes.history
