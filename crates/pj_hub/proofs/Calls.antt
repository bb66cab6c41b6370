-- What each call of a core comes to as an act.
use Rattle.std.proofs.Common.{ℕ, ◌+◌, ◌<◌, ◌&&◌, Bool, true, false, cond, eqb, List, [], ◌∷◌, ◌++◌, ◌≡◌, Option, Some, None, Result, Ok, Err, length, refl, sym, ap, ◌∙◌, subst, inl, inr}
use Rattle.std.specs.Prelude.{IfErr, IfOk, OnOk}
use Rattle.std.specs.Bool.{⊤}
use Rattle.std.proofs.lemmas.Bool.{and_parts, eqb-true}
use Rattle.pj_shape.specs.declared.columns.Column.{Column}
use Rattle.pj_shape.specs.Columns.{domains_of}
use Rattle.pj_pattern.specs.declared.element.Element.{Element}
use Rattle.pj_pattern.specs.declared.element.Element.TheVariants.{Punct}
use Rattle.pj_pattern.specs.Fitting.{FitsDomains}
use Rattle.pj_plan.specs.Nodes.{streams_of, stream_columns, streams_in}
use Rattle.pj_events.specs.Patterns.{all_wild}
use Rattle.pj_events.specs.declared.events.Entry.{Entry}
use Rattle.pj_events.specs.declared.events.Event.{Event}
use Rattle.pj_events.specs.declared.events.Event.TheVariants.{Arrive, Take as Taken, Give as Given, Sweep as Swept, Drain, Halt, Look as Looked, Idle}
use Rattle.pj_events.specs.declared.events.Look.{Look}
use Rattle.pj_events.specs.declared.events.Out.{Out}
use Rattle.pj_events.specs.declared.events.Stop.{Stop}
use Rattle.pj_events.specs.declared.events.Stop.TheVariants.{Limit, NoMemory}
use Rattle.pj_events.specs.Join.{In}
use Rattle.pj_events.specs.Plan.{Node}
use Rattle.pj_events.specs.History.{IsLegal, IsOn, begun, nodes_from, reached_of}
use Rattle.pj_events.specs.Outcomes.{results_of}
use Rattle.pj_events.specs.OneThread.{arrival_of, plain}
use Rattle.pj_laws.proofs.NextProbe.{none-is-pending}
use Rattle.pj_probe.specs.declared.probe.Found.{Found}
use Rattle.pj_core.specs.Calls.{CoreTakes, FitNode, HasArrived, HasGiven, HasSwept, IsCause, IsGiveCause, IsJoinInput, IsLookAt, IsOpen, IsRefused, arriving_of}
use Rattle.pj_core.specs.Cores.{CoreState, Notes, nodes_in}
use Rattle.pj_core.specs.Plans.{nodes_of}
use Rattle.pj_core.proofs.Planned.{planned}
use Rattle.pj_core_laws.proofs.UnderWay.{fits-under_way, opens-under_way}
use Rattle.pj_turn.specs.History.{Did, Ready}
use Rattle.pj_turn.proofs.Lists.{own_seen}
use Rattle.std.specs.declared.snapshot.Snapshot.{Snapshot}
use Rattle.pj_laws.specs.Seats.{Holds, IsInputOf, IsUnderWay, KeptBySeats, MayFeed, giver_by, givers, is_closed, made_by, seated, stop_of, takers}
use Rattle.pj_seats.specs.Answers.{Goes, IsCauseOf, refused}
use Rattle.pj_laws.proofs.Arriving.{closes-entry, feeds-entry}
use Rattle.pj_laws.proofs.Held.{held-results, holds-new, sweep-allowed, under-way}
use Rattle.pj_laws.proofs.Quiet.{quiet-within}
use Rattle.pj_laws.proofs.Lists.{stop-reached}
use Rattle.pj_hub.specs.declared.made.MadeWith.{MadeWith}
use Rattle.pj_hub.specs.declared.made.Shared.{Shared}
use Rattle.pj_hub.specs.Hubs.{CoreAct, HubStands, arrives, closes_stream, core_meaning, drains, gives, halts, hub_with, looks, plan_of, shared, sweeps, takes}
use Rattle.pj_hub.proofs.Making.{Made, did-made, is-tree, refusal, refused-made, stop-is}
use Rattle.pj_hub.proofs.Plans.{input-there, schema-is, stream-below}

module _ (x : Shared) where
  -- ---- what is ready

  -- the core and its history, where an act is ready
  abbrev at : {A : Type 0} (act : CoreAct A) (made : MadeWith) (core : CoreState) (n : ℕ) (seen log : List Entry) → Type 0
  at act made core n seen log = Ready core_meaning act made (shared x core) n seen log

  -- the same of the core as its box lends it
  pub lent : {A : Type 0} (act : CoreAct A) (made : MadeWith) (core old : CoreState) (n : ℕ) (seen log : List Entry) → old ≡ core → at act made core n seen log → at act made old n seen log
  lent act made core old n seen log is r = subst (λ (o : CoreState). at act made o n seen log) (sym is) r

  -- what an act did to the core that its box lent
  pub did-lent : {A : Type 0} (act : CoreAct A) (core old : CoreState) (n : ℕ) (log : List Entry) (answer : A) (after : Shared) → old ≡ core
      → Did core_meaning act n log (shared x old) answer after → Did core_meaning act n log (shared x core) answer after
  did-lent act core old n log answer after is d = subst (λ (o : CoreState). Did core_meaning act n log (shared x o) answer after) is d

  -- ---- takes

  module _ (old new : CoreState) (answer : Result (Option Found) Stop) (on : OnOk answer (old.kept.stop ≡ None)) (ok : IfOk answer (λ a. CoreTakes old new a)) (err : IfErr answer (λ stop. IsRefused old.kept.stop old new stop (stop ≡ NoMemory))) where
    pub take-did : (made : MadeWith) (n : ℕ) (seen log : List Entry) → at takes made old n seen log → Did core_meaning takes n log (shared x old) answer (shared x new)
    take-did made n seen log r = go answer on ok err
      where
        S : HubStands old log
        S = r.standing

        no-stop : (s : Stop) → stop_of log ≡ None → IsOn (reached_of false (nodes_in old) log)
        no-stop s e = stop-reached false (begun (nodes_in old)) log ∙ e

        stays : (probe : Found) → probe.rows ≡ results_of (nodes_in new) (log ++ plain (Taken probe.join probe.ticket) ∷ []) probe.join probe.ticket → new.plan ≡ old.plan
            → probe.rows ≡ results_of (nodes_in old) (log ++ seated n (Taken probe.join probe.ticket) 0 ∷ []) probe.join probe.ticket
        stays probe e p =
            e ∙ ap (λ (q : Rattle.pj_core.specs.Plans.RunPlan). results_of (nodes_of q) (log ++ plain (Taken probe.join probe.ticket) ∷ []) probe.join probe.ticket) p
            ∙ ap (λ (ns : List Node). Rattle.std.proofs.Common.map Rattle.pj_events.specs.Join.joined (Rattle.pj_events.specs.Join.results (Rattle.pj_events.specs.History.data_at (nodes_in old) probe.join) (Rattle.pj_events.specs.History.join_at ns probe.join).tuples (Rattle.pj_events.specs.History.join_at ns probe.join).tuples probe.ticket))
            (Rattle.pj_laws.proofs.Reseat.nodes-same (nodes_in old) log (Taken probe.join probe.ticket) 0 0 n)

        go : (a : Result (Option Found) Stop) → OnOk a (old.kept.stop ≡ None) → IfOk a (λ x. CoreTakes old new x) → IfErr a (λ stop. IsRefused old.kept.stop old new stop (stop ≡ NoMemory))
            → Did core_meaning takes n log (shared x old) a (shared x new)
        go (Ok None) none o e =
            did-made x old new log n Idle 0 S
            (record {
              plan = o.notes.plan;
              limit = o.notes.limit;
              stands = o.notes.stands log S.stands;
              within = quiet-within old.limit (nodes_in old) (is-tree old log S) log Idle refl;
              due = tt;
              fed = tt;
              given = λ j u a i. absurd i;
            })
            takes (Ok None) refl r.keeps
            (sym (stop-is old log S) ∙ none, o.none log S.stands, (none-is-pending (nodes_from (nodes_in old) log)).0 (o.none log S.stands))
        go (Ok (Some probe)) none o e =
            did-made x old new log n (Taken probe.join probe.ticket) 0 S
            (record {
              plan = o.notes.plan;
              limit = o.notes.limit;
              stands = o.notes.stands log S.stands;
              within = o.within log S.stands;
              due = tt;
              fed = tt;
              given = λ j u a i. absurd i;
            })
            takes (Ok (Some probe)) refl r.keeps (
              sym (stop-is old log S) ∙ none,
              o.next log S.stands,
              stays probe (o.keeps log S.stands) o.notes.plan,
              holds-new (nodes_in old) (planned old.plan S.sound) log r.keeps.given n probe.join probe.ticket
                  (Rattle.pj_laws.proofs.Reseat.legal-same (nodes_in old) log (Taken probe.join probe.ticket) 0 0 n (subst (λ (q : Rattle.pj_core.specs.Plans.RunPlan). IsLegal (nodes_of q) (log ++ plain (Taken probe.join probe.ticket) ∷ [])) o.notes.plan (o.notes.stands log S.stands).legal)),
            )
        go (Err stop) none o e =
            did-made x old new log n (refused log stop) 0 S
            (refused-made old new log n stop (stop ≡ NoMemory) S e (λ on' w. subst (λ (s : Stop). Rattle.pj_laws.specs.Seats.IsStopDue old.limit (nodes_in old) log s) (sym w) tt))
            takes (Err stop) refl r.keeps
            (refusal old new log n stop (stop ≡ NoMemory) S e (stop ≡ NoMemory) (λ w. w))

  -- ---- drains, halts and looks

  abbrev quiet : CoreState → CoreState → List Entry → ℕ → Event → Type 0
  quiet old new log n event = Made old new log n event 0

  pub drain-did : (old new : CoreState) (outs : List Out) → outs ≡ old.kept.undrained → Notes old new (plain Drain) → (made : MadeWith) (n : ℕ) (seen log : List Entry) → at drains made old n seen log
      → Did core_meaning drains n log (shared x old) outs (shared x new)
  drain-did old new outs handed notes made n seen log r =
      let S : HubStands old log = r.standing in
      did-made x old new log n Drain 0 S
      (record {
        plan = notes.plan;
        limit = notes.limit;
        stands = notes.stands log S.stands;
        within = quiet-within old.limit (nodes_in old) (is-tree old log S) log Drain refl;
        due = tt;
        fed = tt;
        given = λ j u a i. absurd i;
      })
      drains outs refl r.keeps (handed ∙ S.stands.stands.1)

  pub halt-did : (old new : CoreState) (answer : ⊤) → Notes old new (plain Halt) → (made : MadeWith) (n : ℕ) (seen log : List Entry) → at halts made old n seen log
      → Did core_meaning halts n log (shared x old) answer (shared x new)
  halt-did old new answer notes made n seen log r =
      let S : HubStands old log = r.standing in
      did-made x old new log n Halt 0 S
      (record {
        plan = notes.plan;
        limit = notes.limit;
        stands = notes.stands log S.stands;
        within = quiet-within old.limit (nodes_in old) (is-tree old log S) log Halt refl;
        due = tt;
        fed = tt;
        given = λ j u a i. absurd i;
      })
      halts answer refl r.keeps tt

  pub look-did : (core : CoreState) (look : Look) → IsLookAt core look → (made : MadeWith) (n : ℕ) (seen log : List Entry) → at looks made core n seen log
      → Did core_meaning looks n log (shared x core) look (shared x core)
  look-did core look is made n seen log r =
      let S : HubStands core log = r.standing in
      let streams = ap length (Rattle.pj_core_laws.proofs.PlainAnswers.same-streams core.plan) in
      did-made x core core log n (Looked look.pending) 0 S
      (record {
        plan = is.notes.plan;
        limit = is.notes.limit;
        stands = is.notes.stands log S.stands;
        within = quiet-within core.limit (nodes_in core) (is-tree core log S) log (Looked look.pending) refl;
        due = tt;
        fed = tt;
        given = λ j u a i. absurd i;
      })
      looks look refl r.keeps
      (record {
        outputs = is.outputs ∙ ap length S.stands.stands.1;
        halted = is.halted ∙ S.stands.stands.2;
        stop = is.stop ∙ stop-is core log S;
        streams = is.streams ∙ sym streams;
        tells = λ on.
            let t = is.tells (stop-is core log S ∙ on) log S.stands in
            record {
              pending = t.pending;
              taken = t.taken;
              stored = t.stored;
              waiting = t.waiting;
              ended = t.ended ∙ ap (λ (k : ℕ). Rattle.pj_events.specs.Outcomes.ended_of k (reached_of false (nodes_in core) log).closed) (sym streams);
            };
      })

  -- ---- gives

  -- the cause of a refusal over what histories tell
  given-cause-told : (core : CoreState) (log : List Entry) (probe found : Found) (stop : Stop) → HubStands core log → found.rows ≡ results_of (nodes_in core) log probe.join probe.ticket → IsGiveCause core probe found stop
      → IsCauseOf (plan_of core) log (Given probe.join probe.ticket) stop
  given-cause-told core log probe found (Limit node) S are c = c log S.stands are
  given-cause-told core log probe found NoMemory S are c = tt

  module _ (core : CoreState) (n : ℕ) (seen log : List Entry) (probe found : Found) (made : MadeWith) (r : at (gives probe found) made core n seen log) where
    S : HubStands core log
    S = r.standing

    own-log : made_by n log ≡ made_by n seen
    own-log = own_seen (λ e. e.seat) n seen log r.seen_so_far

    needs : Holds n probe.join probe.ticket (made_by n seen) × (found.join ≡ probe.join) × (found.ticket ≡ probe.ticket) × (found.rows ≡ results_of (hub_with made).nodes seen probe.join probe.ticket)
    needs = r.may

    took-log : In n (takers probe.join probe.ticket (made_by n log))
    took-log = subst (λ (es : List Entry). In n (takers probe.join probe.ticket es)) (sym own-log) needs.0.took

    way : IsUnderWay (nodes_in core) log probe.join probe.ticket
    way =
        under-way (nodes_in core) (planned core.plan S.sound) log S.stands.legal r.keeps.given n probe.join probe.ticket
        (record { took = took-log; not_given = ap (givers probe.join probe.ticket) own-log ∙ needs.0.not_given })

    -- the probe is open at the core
    pub give-open : core.kept.stop ≡ None → IsOpen core probe
    give-open on = opens-under_way core S.sound on log S.stands probe way

    -- the rows are the results of the ticket over the whole history
    pub give-rows : found.rows ≡ results_of (nodes_in core) log probe.join probe.ticket
    give-rows =
        needs.3
        ∙ ap (λ (m : MadeWith). results_of (hub_with m).nodes seen probe.join probe.ticket) (sym r.fixed_is)
        ∙ sym (held-results (nodes_in core) (planned core.plan S.sound) seen r.seen_so_far.behind (subst (IsLegal (nodes_in core)) r.seen_so_far.begins S.stands.legal) n probe.join probe.ticket needs.0.took)
        ∙ ap (λ (h : List Entry). results_of (nodes_in core) h probe.join probe.ticket) (sym r.seen_so_far.begins)

    -- the rows fit the join
    pub give-fits : FitNode core probe.join found.rows
    give-fits = subst (FitNode core probe.join) (sym give-rows) (fits-under_way core S.sound log S.stands probe way)

    -- only this ticket is given, and it was taken on this seat
    gave-own : (j u a : ℕ) → In a (giver_by j u n (Given probe.join probe.ticket)) → In a (takers j u log)
    gave-own j u a i = go (eqb probe.join j && eqb probe.ticket u) refl i
      where
        all : In n (takers probe.join probe.ticket log)
        all = Rattle.pj_laws.proofs.Held.takers-made n log probe.join probe.ticket n took-log

        go : (b : Bool) → (eqb probe.join j && eqb probe.ticket u) ≡ b → In a (cond b (n ∷ []) []) → In a (takers j u log)
        go true q (inl e) =
            let p = and_parts (eqb probe.join j) (eqb probe.ticket u) q in
            subst (λ (x : ℕ). In x (takers j u log)) e
            (subst (λ (x : ℕ). In n (takers x u log)) (eqb-true probe.join j p.0)
            (subst (λ (x : ℕ). In n (takers probe.join x log)) (eqb-true probe.ticket u p.1) all))
        go true q (inr h) = absurd h
        go false q h = absurd h

    open-event : IsOn (reached_of false (nodes_in core) log) → Rattle.pj_events.specs.History.IsEventAllowed (reached_of false (nodes_in core) log) (Given probe.join probe.ticket)
    open-event on = Rattle.pj_laws.proofs.Held.give-allowed (nodes_in core) (planned core.plan S.sound) log on probe.join probe.ticket way

    pub give-did : (new : CoreState) (answer : Result ⊤ Stop) → OnOk answer (HasGiven core new probe found) → IfErr answer (λ stop. IsRefused core.kept.stop core new stop (IsGiveCause core probe found stop))
        → Did core_meaning (gives probe found) n log (shared x core) answer (shared x new)
    give-did new (Ok done) ok err =
        did-made x core new log n (Given probe.join probe.ticket) 0 S
        (record {
          plan = ok.plan;
          limit = ok.limit;
          stands = ok.stands log S.stands give-rows;
          within = ok.within log S.stands give-rows;
          due = tt;
          fed = tt;
          given = gave-own;
        })
        (gives probe found) (Ok done) refl r.keeps
        (sym (stop-is core log S) ∙ ok.on.0, ok.within log S.stands give-rows, tt)
    give-did new (Err stop) ok err =
        did-made x core new log n (refused log stop) 0 S
        (refused-made core new log n stop (IsGiveCause core probe found stop) S err (λ on c. due stop (stop-reached false (begun (nodes_in core)) log ∙ on) c))
        (gives probe found) (Err stop) refl r.keeps
        (refusal core new log n stop (IsGiveCause core probe found stop) S err (IsCauseOf (plan_of core) log (Given probe.join probe.ticket) stop) (given-cause-told core log probe found stop S give-rows))
      where
        due : (s : Stop) → IsOn (reached_of false (nodes_in core) log) → IsGiveCause core probe found s → Rattle.pj_laws.specs.Seats.IsStopDue core.limit (nodes_in core) log s
        due (Limit node) on c = record { event = Given probe.join probe.ticket; allowed = open-event on; beyond = c log S.stands give-rows }
        due NoMemory on c = tt

  -- ---- arrivals

  -- the cause of a refusal over what histories tell
  cause-told : (core : CoreState) (log : List Entry) (event : Event) (stop : Stop) → HubStands core log → IsCause core event stop → IsCauseOf (plan_of core) log event stop
  cause-told core log event (Limit node) S c = c log S.stands
  cause-told core log event NoMemory S c = tt

  -- a stop for this event is due where the event is allowed
  cause-due : (core : CoreState) (log : List Entry) (event : Event) (stop : Stop) → HubStands core log → (IsOn (reached_of false (nodes_in core) log) → Rattle.pj_events.specs.History.IsEventAllowed (reached_of false (nodes_in core) log) event)
      → stop_of log ≡ None → IsCause core event stop → Rattle.pj_laws.specs.Seats.IsStopDue core.limit (nodes_in core) log stop
  cause-due core log event (Limit node) S may on c = record { event = event; allowed = may (stop-reached false (begun (nodes_in core)) log ∙ on); beyond = c log S.stands }
  cause-due core log event NoMemory S may on c = tt

  module _ (old new : CoreState) (log : List Entry) (n stream : ℕ) (element : Element) (closing : ℕ) (S : HubStands old log) (kept : KeptBySeats log) (by-own : n ≡ stream)
      (may : IsOn (reached_of false (nodes_in old) log) → Rattle.pj_events.specs.History.IsEntryAllowed (reached_of false (nodes_in old) log) (seated 0 (Arrive stream element) closing)) where
    pub arrival-did : {A : Type 0} (act : CoreAct A) (answer : A) (result : Result ⊤ Stop) → act.entry n log answer ≡ Rattle.pj_seats.specs.Answers.call_entry n (Arrive stream element) closing result log
        → (Goes (plan_of old) (Arrive stream element) result log → act.gives n log (shared x old) answer (shared x new))
        → OnOk result (HasArrived old new (seated 0 (Arrive stream element) closing)) → IfErr result (λ stop. IsRefused old.kept.stop old new stop (IsCause old (Arrive stream element) stop))
        → Did core_meaning act n log (shared x old) answer (shared x new)
    arrival-did act answer (Ok done) is tells ok err =
        let on = stop-reached false (begun (nodes_in old)) log ∙ (sym (stop-is old log S) ∙ ok.on.0) in
        did-made x old new log n (Arrive stream element) closing S
        (record {
          plan = ok.notes.plan;
          limit = ok.notes.limit;
          stands = ok.notes.stands log S.stands (may on);
          within = ok.within log S.stands;
          due = tt;
          fed = by-own;
          given = λ j u a i. absurd i;
        })
        act answer is kept (tells (sym (stop-is old log S) ∙ ok.on.0, ok.within log S.stands, tt))
    arrival-did act answer (Err stop) is tells ok err =
        did-made x old new log n (refused log stop) 0 S
        (refused-made old new log n stop (IsCause old (Arrive stream element) stop) S err (cause-due old log (Arrive stream element) stop S (λ on. (may on).0)))
        act answer is kept
        (tells (refusal old new log n stop (IsCause old (Arrive stream element) stop) S err (IsCauseOf (plan_of old) log (Arrive stream element) stop) (cause-told old log (Arrive stream element) stop S)))

  module _ (core : CoreState) (n : ℕ) (seen log : List Entry) (stream : ℕ) (element : Element) (made : MadeWith) (r : at (arrives stream element) made core n seen log) where
    SA : HubStands core log
    SA = r.standing

    needs-there : (stream ≡ n) × (stream < length (Rattle.pj_events.specs.History.streams_of (nodes_in core))) × MayFeed (nodes_in core) stream (made_by n seen) element
    needs-there = subst (λ (m : MadeWith). (stream ≡ n) × (stream < length (Rattle.pj_events.specs.History.streams_of (hub_with m).nodes)) × MayFeed (hub_with m).nodes stream (made_by n seen) element) (sym r.fixed_is) r.may

    pub arrive-there : stream < length (streams_of core.plan.nodes)
    arrive-there = stream-below core.plan stream needs-there.1

    pub arrive-fits : FitsDomains (domains_of (stream_columns (streams_in core.plan.nodes) stream)) element
    arrive-fits = subst (λ (columns : List Column). FitsDomains (domains_of columns) element) (schema-is core.plan stream arrive-there) needs-there.2.fits

    feed-log : MayFeed (nodes_in core) stream (made_by stream log) element
    feed-log =
        subst (λ (es : List Entry). MayFeed (nodes_in core) stream es element)
        (sym (own_seen (λ e. e.seat) n seen log r.seen_so_far) ∙ ap (λ (k : ℕ). made_by k log) (sym needs-there.0))
        needs-there.2

    pub arrive-did : (new : CoreState) (answer : Result ⊤ Stop) → OnOk answer (HasArrived core new (arrival_of (arriving_of stream element))) → IfErr answer (λ stop. IsRefused core.kept.stop core new stop (IsCause core (Arrive stream element) stop))
        → Did core_meaning (arrives stream element) n log (shared x core) answer (shared x new)
    arrive-did new answer ok err =
        arrival-did core new log n stream element 0 SA r.keeps (sym needs-there.0)
        (λ on. feeds-entry (nodes_in core) (planned core.plan SA.sound) log SA.stands.legal r.keeps.fed on stream needs-there.1 element 0 feed-log)
        (arrives stream element) answer answer refl (λ g. g) ok err

  -- ---- closings

  module _ (core : CoreState) (n : ℕ) (seen log : List Entry) (stream : ℕ) (made : MadeWith) (r : at (closes_stream stream) made core n seen log) where
    SC : HubStands core log
    SC = r.standing

    needs-close : (stream ≡ n) × (stream < length (Rattle.pj_events.specs.History.streams_of (nodes_in core))) × (is_closed stream (made_by n seen) ≡ false)
    needs-close = subst (λ (m : MadeWith). (stream ≡ n) × (stream < length (Rattle.pj_events.specs.History.streams_of (hub_with m).nodes)) × (is_closed stream (made_by n seen) ≡ false)) (sym r.fixed_is) r.may

    pub close-there : stream < length (streams_of core.plan.nodes)
    close-there = stream-below core.plan stream needs-close.1

    unclosed-log : is_closed stream (made_by stream log) ≡ false
    unclosed-log =
        ap (is_closed stream) (ap (λ (k : ℕ). made_by k log) needs-close.0 ∙ own_seen (λ e. e.seat) n seen log r.seen_so_far) ∙ needs-close.2

    closing-same : Rattle.pj_seats.specs.Answers.closing_of (plan_of core) stream ≡ (Rattle.pj_core.specs.Calls.closing_of core stream).element
    closing-same = ap (λ (columns : List Column). Punct (all_wild (length columns))) (schema-is core.plan stream close-there)

    pub close-did : (new : CoreState) (answer : Result ⊤ Stop × Snapshot CoreState) → answer.1.value ≡ core → OnOk answer.0 (HasArrived core new (arrival_of (Rattle.pj_core.specs.Calls.closing_of core stream)))
        → IfErr answer.0 (λ stop. IsRefused core.kept.stop core new stop (IsCause core (Arrive stream (Rattle.pj_core.specs.Calls.closing_of core stream).element) stop))
        → Did core_meaning (closes_stream stream) n log (shared x core) answer (shared x new)
    close-did new answer is ok err =
        arrival-did core new log n stream (Rattle.pj_seats.specs.Answers.closing_of (plan_of core) stream) 1 SC r.keeps (sym needs-close.0)
        (λ on. closes-entry (nodes_in core) (planned core.plan SC.sound) log SC.stands.legal r.keeps.fed on stream needs-close.1 0 unclosed-log)
        (closes_stream stream) answer answer.0
        (ap (λ (c : CoreState). Rattle.pj_seats.specs.Answers.call_entry n (Arrive stream (Rattle.pj_seats.specs.Answers.closing_of (plan_of c) stream)) 1 answer.0 log) is)
        (λ g. (is, g))
        (subst (λ (e : Element). OnOk answer.0 (HasArrived core new (seated 0 (Arrive stream e) 1))) (sym closing-same) ok)
        (subst (λ (e : Element). IfErr answer.0 (λ stop. IsRefused core.kept.stop core new stop (IsCause core (Arrive stream e) stop))) (sym closing-same) err)

  -- ---- sweeps

  module _ (core : CoreState) (n : ℕ) (seen log : List Entry) (join input : ℕ) (made : MadeWith) (r : at (sweeps join input) made core n seen log) where
    SW : HubStands core log
    SW = r.standing

    at-input : IsInputOf (nodes_in core) join input
    at-input = subst (λ (m : MadeWith). IsInputOf (hub_with m).nodes join input) (sym r.fixed_is) r.may

    pub sweep-there : IsJoinInput core join input
    sweep-there = input-there core join input SW.sound at-input

    pub sweep-did : (new : CoreState) (answer : Result ℕ Stop) → IfOk answer (λ count. HasSwept core new join input count) → IfErr answer (λ stop. IsRefused core.kept.stop core new stop (IsCause core (Swept join input) stop))
        → Did core_meaning (sweeps join input) n log (shared x core) answer (shared x new)
    sweep-did new (Ok count) ok err =
        did-made x core new log n (Swept join input) 0 SW
        (record {
          plan = ok.notes.plan;
          limit = ok.notes.limit;
          stands = ok.notes.stands log SW.stands;
          within = ok.within log SW.stands;
          due = tt;
          fed = tt;
          given = λ j u a i. absurd i;
        })
        (sweeps join input) (Ok count) refl r.keeps (sym (stop-is core log SW) ∙ ok.on.0, ok.within log SW.stands, ok.removes log SW.stands)
    sweep-did new (Err stop) ok err =
        did-made x core new log n (refused log stop) 0 SW
        (refused-made core new log n stop (IsCause core (Swept join input) stop) SW err
        (cause-due core log (Swept join input) stop SW (λ on. sweep-allowed (nodes_in core) (planned core.plan SW.sound) SW.certified log on join input at-input)))
        (sweeps join input) (Err stop) refl r.keeps
        (refusal core new log n stop (IsCause core (Swept join input) stop) SW err (IsCauseOf (plan_of core) log (Swept join input) stop) (cause-told core log (Swept join input) stop SW))
