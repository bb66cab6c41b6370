-- Where a worker tells a limit, or it is met as the core is settled, more elements come to the node in all than may.
use Rattle.std.proofs.Common.{ℕ, ◌<◌, ◌≤◌, Bool, true, false, cond, ◌||◌, List, [], ◌∷◌, ◌++◌, ◌≡◌, ◌⊎◌, Option, Some, None, get_or, slice_get, length, inl, inr, refl, sym, ap, ap₂, ◌∙◌, subst, arith, append_assoc, append-nil, IsTrue}
use Rattle.std.proofs.lemmas.Bool.{cases_lt, eq-eqb, false≢true}
use Rattle.std.proofs.lemmas.List.{append_cancel_left, get_or_past, same_from_push, take-append-drop}
use Rattle.pj_value.specs.Lists.{In}
use Rattle.pj_pattern.specs.declared.element.Element.{Element}
use Rattle.pj_pattern.specs.declared.element.Element.TheVariants.{Punct}
use Rattle.pj_events.specs.Patterns.{all_wild}
use Rattle.pj_events.specs.declared.events.Entry.{Entry}
use Rattle.pj_events.specs.declared.events.Event.{Event}
use Rattle.pj_events.specs.declared.events.Event.TheVariants.{Arrive, Take as Taken, Give as Given, Sweep as Swept, Drain, Halt, Look as Looked, Stopped as StopMade, Idle}
use Rattle.pj_events.specs.declared.events.Stop.{Stop}
use Rattle.pj_events.specs.declared.events.Stop.TheVariants.{Limit}
use Rattle.pj_events.specs.Limits.{StaysWithin}
use Rattle.pj_events.specs.OneThread.{Turn, places_from, plain, probes, sweeps_at, turns_of}
use Rattle.pj_events.specs.Outcomes.{element_at, elements_of, goes_beyond}
use Rattle.pj_events.specs.Plan.{ArePlanned, Fed as FedHere, Node, Operator, hands, operator_at}
use Rattle.pj_events.specs.History.{AreEntriesLegal, IsEventAllowed, IsLegal, Reached, begun, next, nodes_from, stop_after, streams_of}
use Rattle.pj_laws.specs.ClimbLimits.{begun_by}
use Rattle.pj_laws.specs.HistoryLaws.{AllAreCertified, schema_at}
use Rattle.pj_laws.specs.Seats.{GivenByTakers, closes, is_closed, made_by, seated, stop_from}
use Rattle.pj_laws.proofs.Arriving.{stream-node-from}
use Rattle.pj_laws.proofs.Feeding.{closed-own, elements-own, not-closed}
use Rattle.pj_laws.proofs.Histories.{nodes-append}
use Rattle.pj_laws.proofs.HistoryAnswers.{fronts-are-legal}
use Rattle.pj_laws.proofs.Limits.{reaches, within-front}
use Rattle.pj_laws.proofs.Lists.{stop-reached}
use Rattle.pj_laws.proofs.OneRun.{elements-append}
use Rattle.pj_laws.proofs.Probes.{AreActsLegal}
use Rattle.pj_laws.proofs.Quiet.{quiet-within, take-within}
use Rattle.pj_plan.specs.Sound.{IsSoundPlan}
use Rattle.pj_core.specs.Cores.{CoreState}
use Rattle.pj_core.specs.Plans.{RunPlan, nodes_of}
use Rattle.pj_core.specs.Turns.{working}
use Rattle.pj_core.proofs.Planned.{planned, tree}
use Rattle.pj_feed.specs.Feeds.{FeedState, IsSameFeed, all_accepted, count_of, files_of}
use Rattle.pj_feed.proofs.AllFeeds.{told_at}
use Rattle.pj_feed.proofs.FeedFacts.{begins_with, nothing_left_of}
use Rattle.pj_run.specs.Jobs.{Job}
use Rattle.pj_run.specs.Runs.{plan_run, run_nodes}
use Rattle.pj_script_laws.proofs.Acts.{IsGoing, may-sweep, work-allowed, worked}
use Rattle.pj_script_laws.proofs.Arrivals.{IsOpen, Leaves}
use Rattle.pj_script_laws.proofs.Steps.{Stands, act-stands}
use Rattle.pj_seats.specs.Answers.{closing_of}
use Rattle.pj_workers.specs.Ends.{MayBeRefused}
use Rattle.pj_workers.specs.Feeds.{HasGiven, closing_given, has_ended}
use Rattle.pj_workers.specs.declared.ends.WorkEnd.{WorkEnd}
use Rattle.pj_workers.specs.declared.ends.WorkEnd.TheVariants.{Over, NoMemory, Stopped}
use Rattle.pj_workers.specs.declared.feeding.FeedEnd.{FeedEnd}
use Rattle.pj_workers.specs.declared.feeding.FeedEnd.TheVariants.{Stopped as FeedStopped}
use Rattle.pj_workers.proofs.Passing.{so-far}
use Rattle.pj_crew_laws.specs.Acts.{Act, Fed, HasActed, Probed, SawFront, Swept as SweptPlaces, Wrote, feed_stop, is_whole, is_work_whole, stop_told, work_stop}
use Rattle.pj_crew_laws.specs.Crews.{ArrivesOf, Did}
use Rattle.pj_crew_laws.proofs.Closing.{closed-reached}
use Rattle.pj_crew_laws.proofs.Makers.{made-of, own-seen}
use Rattle.pj_crew_laws.proofs.Stopping.{none-stops, stops-are-told}
use Rattle.pj_crew_runs.specs.Limits.{ComesBeyond, LimitsHaveCause, SettlingLimitsHaveCause}
use Rattle.pj_crew_runs.specs.Runs.{FedFrom, IsCrewRun, OfCrewRuns, hub_of}
use Rattle.pj_crew_runs.proofs.Completing.{accepted, act-beyond, comes-beyond, lists, stands-by, turn-beyond}
use Rattle.pj_crew_runs.proofs.Fronts.{accepted-is, arrives, brought-is, ended-is, feed-there, number-is, same-feed}
use Rattle.pj_crew_runs.proofs.Holding.{last-may-give, nowhere-at, sweep-place}
use Rattle.pj_crew_runs.proofs.Refusing.{Fits, MetLimit, GivesWith, met-by}

-- ---- behind a stop nothing arrives

quiet-event : (r : Reached) (s mark : ℕ) (event : Event) (stop : Stop) → IsEventAllowed r event → r.stop ≡ Some stop → (element_at s event ≡ []) × (closes s mark event ≡ false) × (stop_after r.stop event ≡ Some stop)
quiet-event r s mark (Arrive stream element) stop allowed is = absurd (cc (allowed.0, is))
quiet-event r s mark (Taken join ticket) stop allowed is = (refl, refl, is)
quiet-event r s mark (Given join ticket) stop allowed is = (refl, refl, is)
quiet-event r s mark (Swept join input) stop allowed is = (refl, refl, is)
quiet-event r s mark Drain stop allowed is = (refl, refl, is)
quiet-event r s mark Halt stop allowed is = (refl, refl, is)
quiet-event r s mark (Looked pending) stop allowed is = (refl, refl, is)
quiet-event r s mark (StopMade other) stop allowed is = absurd (cc (allowed, is))
quiet-event r s mark Idle stop allowed is = (refl, refl, is)

-- these entries bring nothing to any stream, and close none
abbrev AreQuiet : List Entry → Type 0
AreQuiet entries = ((s : ℕ) → elements_of s entries ≡ []) × ((s : ℕ) → is_closed s entries ≡ false)

quiet-behind : (r : Reached) (entries : List Entry) (stop : Stop) → AreEntriesLegal r entries → r.stop ≡ Some stop → AreQuiet entries
quiet-behind r [] stop legal is = (λ s. refl, λ s. refl)
quiet-behind r (e ∷ entries) stop legal is =
    let here = λ (s : ℕ). quiet-event r s e.closing e.event stop legal.0.0 is in
    let rest = quiet-behind (next false r e) entries stop legal.1 (here 0).2 in (
      λ s. ap (λ (xs : List Element). xs ++ elements_of s entries) (here s).0 ∙ rest.0 s,
      λ s. ap (λ (b : Bool). b || is_closed s entries) (here s).1 ∙ rest.1 s,
    )

quiet-after : (r : Reached) (h : List Entry) (seat : ℕ) (stop : Stop) (entries : List Entry) → AreEntriesLegal r (h ++ seated seat (StopMade stop) 0 ∷ entries) → AreQuiet (seated seat (StopMade stop) 0 ∷ entries)
quiet-after r [] seat stop entries legal = quiet-behind (next false r (seated seat (StopMade stop) 0)) entries stop legal.1 refl
quiet-after r (x ∷ h) seat stop entries legal = quiet-after (next false r x) h seat stop entries legal.1

closed-with : (s : ℕ) (h entries : List Entry) → is_closed s entries ≡ false → is_closed s (h ++ entries) ≡ is_closed s h
closed-with s [] entries none = none
closed-with s (x ∷ h) entries none = ap (λ (b : Bool). closes s x.closing x.event || b) (closed-with s h entries none)

-- a stop that is kept was made
stop-made : (old : Option Stop) (entries : List Entry) (stop : Stop) → stop_from old entries ≡ Some stop → (old ≡ Some stop) ⊎ ((entry : Entry) × In entry entries × (entry.event ≡ StopMade stop))
stop-made old [] stop is = inl is
stop-made old (e ∷ entries) stop is = elim (stop-made (stop_after old e.event) entries stop is) [
  | inl before ↦ here e.event refl before
  | inr later ↦ inr (later.0, inr later.1, later.2)
]
  where
    here : (event : Event) → e.event ≡ event → stop_after old event ≡ Some stop → (old ≡ Some stop) ⊎ ((entry : Entry) × In entry (e ∷ entries) × (entry.event ≡ StopMade stop))
    here (StopMade other) is q = let same : other ≡ stop = cc q in inr (e, inl refl, is ∙ ap StopMade same)
    here (Arrive s x) is q = inl q
    here (Taken j u) is q = inl q
    here (Given j u) is q = inl q
    here (Swept j i) is q = inl q
    here Drain is q = inl q
    here Halt is q = inl q
    here (Looked p) is q = inl q
    here Idle is q = inl q

-- ---- one run

module _ (job : Job) (sound : IsSoundPlan job.nodes) (certified : AllAreCertified (run_nodes job)) (feeds : List FeedState) (acts : List Act) (history : List Entry) (run : IsCrewRun job feeds acts history) where
  abbrev plan : List Node
  plan = run_nodes job

  abbrev files : List (List ℕ)
  files = files_of feeds

  abbrev all : List (List Element)
  all = lists job sound certified files

  well_made : ArePlanned [] plan
  well_made = planned (plan_run job) sound

  -- the stream of a feeder is closed where that ended
  closed-is : (s : ℕ) (old new : FeedState) (end : FeedEnd) → Did acts s (Fed old new end) → is_closed s history ≡ has_ended end
  closed-is s old new end did =
      let each = run.crew.each s (Fed old new end) did in
      closed-own s history run.crew.by_seats.fed ∙ (ap (is_closed s) (own-seen s each.0 history each.1) ∙ each.2.2.closed)

  -- a history that has brought to each stream what the whole history does
  record HasArrived (h : List Entry) : Type 0 where
    pub going : IsGoing plan h
    pub elements : (s : ℕ) → elements_of s h ≡ elements_of s history
    pub closed : (s : ℕ) → is_closed s h ≡ is_closed s history

  leaves : (h : List Entry) → HasArrived h → (s : ℕ) → s < length (streams_of plan) → (turns : List Turn) × Leaves plan all h s turns
  leaves h arrived s lt = go (has_ended a.0.end) refl
    where
      there : (feed : FeedState) × (slice_get feeds s ≡ Some feed)
      there = feed-there job sound feeds acts history run s lt

      a : (fed : FedFrom acts s there.0) × ArrivesOf (hub_of job) history s fed.new fed.end
      a = arrives job sound feeds acts history run s there.0 there.1

      same : IsSameFeed there.0 a.0.new
      same = same-feed job sound feeds acts history run s there.0 a.0

      ends : is_closed s h ≡ has_ended a.0.end
      ends = arrived.closed s ∙ closed-is s there.0 a.0.new a.0.end a.0.did

      go : (ended : Bool) → has_ended a.0.end ≡ ended → (turns : List Turn) × Leaves plan all h s turns
      go true q = (
        [],
        inr (record {
          none = refl;
          whole = arrived.elements s ∙ (a.1.whole (ended-is a.0.end q) ∙ brought-is job sound feeds acts history run s there.0 a.0.new there.1 same);
          closed = closed-reached false (begun plan) h s (ends ∙ q);
        }),
      )
      go false q =
          let less = a.1.less q in (
            turns_of s (schema_at plan s) less.0,
            inl (record {
              later = less.0;
              turns_are = refl;
              parts = accepted-is job sound feeds acts history run s there.0 a.0.new there.1 same ∙ (less.1 ∙ ap (λ (es : List Element). es ++ less.0) (sym (arrived.elements s)));
              unclosed = not-closed false (begun plan) h s refl (ends ∙ q);
            }),
          )

  stands-at : (h : List Entry) → HasArrived h → (left : List (List Turn)) × Stands plan all h left
  stands-at h arrived = stands-by job sound certified files h arrived.going (leaves h arrived)

  -- ---- the first stop

  module _ (seat node : ℕ) (streams : ℕ → Type 0) (told : Event → Type 0) (seen : List Entry) (saw : SawFront seat seen history) (met : MetLimit (hub_of job) seat node streams told seen) where
    abbrev h : List Entry
    h = met.history

    abbrev stopped : Entry
    stopped = seated seat (StopMade (Limit node)) 0

    parts : history ≡ h ++ stopped ∷ saw.behind
    parts = saw.begins ∙ (ap (λ (es : List Entry). es ++ saw.behind) met.sees ∙ append_assoc h (stopped ∷ []) saw.behind)

    legal-all : IsLegal plan (h ++ stopped ∷ saw.behind)
    legal-all = subst (IsLegal plan) parts run.crew.by_plan.legal

    quiet : AreQuiet (stopped ∷ saw.behind)
    quiet = quiet-after (begun plan) h seat (Limit node) saw.behind legal-all

    arrived-here : HasArrived h
    arrived-here = record {
      going = record { legal = fronts-are-legal plan h (stopped ∷ saw.behind) legal-all; on = stop-reached false (begun plan) h ∙ met.on };
      elements = λ s. sym (ap (elements_of s) parts ∙ (elements-append s h (stopped ∷ saw.behind) ∙ (ap (λ (es : List Element). elements_of s h ++ es) (quiet.0 s) ∙ append-nil (elements_of s h))));
      closed = λ s. sym (ap (is_closed s) parts ∙ closed-with s h (stopped ∷ saw.behind) (quiet.1 s));
    }

    stood : (left : List (List Turn)) × Stands plan all h left
    stood = stands-at h arrived-here

    within-here : StaysWithin job.limit plan [] h
    within-here = within-front job.limit plan [] h (stopped ∷ saw.behind) (subst (StaysWithin job.limit plan []) parts run.crew.by_plan.within)

    -- an event at which the node where it begins hands nothing up did not meet the limit
    not-quiet : (event : Event) → goes_beyond job.limit plan h event ≡ Some node → begun_by (nodes_from plan h) event ≡ [] → ⊥
    not-quiet event beyond none = cc (quiet-within job.limit plan (tree (plan_run job) sound) h event none, beyond)

    beyond-by : ((stream : ℕ) (element : Element) → streams stream → told (Arrive stream element) → goes_beyond job.limit plan h (Arrive stream element) ≡ Some node → ComesBeyond job files node)
        → (event : Event) → MayBeRefused event → Fits streams seat met.front event → told event → goes_beyond job.limit plan h event ≡ Some node → ComesBeyond job files node
    beyond-by feed (Arrive s e) may fits tells beyond = feed s e fits tells beyond
    beyond-by feed (Taken j u) may fits tells beyond = absurd (cc (take-within job.limit plan (tree (plan_run job) sound) h j u, beyond))
    beyond-by feed (Given j u) may fits tells beyond =
        act-beyond job sound certified files h stood.0 stood.1 within-here node (plain (Given j u)) (tt, refl, last-may-give plan well_made h (met.own ++ fits.0) (stopped ∷ saw.behind) seat j u mine legal-all given, tt) beyond
      where
        mine : made_by seat h ≡ (met.own ++ fits.0) ++ seated seat (Taken j u) 0 ∷ []
        mine = met.mine ∙ (ap (λ (es : List Entry). met.own ++ es) fits.1 ∙ sym (append_assoc met.own fits.0 (seated seat (Taken j u) 0 ∷ [])))

        given : GivenByTakers (h ++ stopped ∷ saw.behind)
        given = subst GivenByTakers parts run.crew.by_seats.given
    beyond-by feed (Swept j i) may fits tells beyond =
        act-beyond job sound certified files h stood.0 stood.1 within-here node (plain (Swept j i))
        (tt, refl, may-sweep plan well_made certified h j i arrived-here.going (sweep-place plan well_made h j i arrived-here.going.legal (not-quiet (Swept j i) beyond)), tt) beyond
    beyond-by feed Idle may fits tells beyond = absurd (not-quiet Idle beyond refl)
    beyond-by feed Drain may fits tells beyond = absurd may
    beyond-by feed Halt may fits tells beyond = absurd may
    beyond-by feed (Looked p) may fits tells beyond = absurd may
    beyond-by feed (StopMade s) may fits tells beyond = absurd may

    cause-by : ((stream : ℕ) (element : Element) → streams stream → told (Arrive stream element) → goes_beyond job.limit plan h (Arrive stream element) ≡ Some node → ComesBeyond job files node) → ComesBeyond job files node
    cause-by feed = beyond-by feed met.event met.may met.fits met.tells met.beyond

  -- ---- an arrival that was refused

  -- the first turn that is left of a stream
  record IsFirst (s : ℕ) (e : Element) (turns : List Turn) : Type 0 where
    pub turn : Turn
    pub others : List Turn
    pub are : turns ≡ turn ∷ others
    pub stream : turn.stream ≡ s
    pub element : turn.element ≡ e

  module _ (s : ℕ) (e : Element) (h : List Entry) (new : FeedState) (number : new.stream ≡ s) (told : IsTrue new.source.told) (is-all : get_or all s [] ≡ all_accepted new) where
    -- where the feed has given it behind what arrived, it is the next one
    first-turn : (turns : List Turn) → IsOpen plan all h s turns → HasGiven (hub_of job) new (elements_of s h ++ e ∷ []) → IsFirst s e turns
    first-turn turns o given = go new.is_open refl given.are
      where
        came : List Element
        came = elements_of s h

        go : (still : Bool) → new.is_open ≡ still → came ++ e ∷ [] ≡ given.accepted ++ closing_given (hub_of job) new.stream still → IsFirst s e turns
        go true q are =
            let more = begins_with new given.has.fed told in
            let whole : all_accepted new ≡ (came ++ e ∷ []) ++ more.0 = more.1 ∙ ap (λ (es : List Element). es ++ more.0) (sym given.has.are ∙ sym (are ∙ append-nil given.accepted)) in
            let next : o.later ≡ e ∷ more.0 = append_cancel_left came o.later (e ∷ more.0) (sym o.parts ∙ (is-all ∙ (whole ∙ append_assoc came (e ∷ []) more.0))) in
            record {
              turn = record { stream = s; element = e; closing = 0 };
              others = turns_of s (schema_at plan s) more.0;
              are = o.turns_are ∙ ap (turns_of s (schema_at plan s)) next;
              stream = refl;
              element = refl;
            }
        go false q are =
            let ends = same_from_push came given.accepted e (closing_of (hub_of job) new.stream) are in
            let whole : all_accepted new ≡ given.accepted =
            sym (take-append-drop (count_of new) (all_accepted new))
            ∙ (ap₂ (λ (xs ys : List Element). xs ++ ys) (so-far new given.accepted given.has told) (nothing_left_of new given.has.fed (given.has.fed.closed q) told)
            ∙ append-nil given.accepted) in
            let next : o.later ≡ [] = append_cancel_left came o.later [] (sym o.parts ∙ (is-all ∙ (whole ∙ (sym ends.0 ∙ sym (append-nil came))))) in
            record {
              turn = record { stream = s; element = Punct (all_wild (length (schema_at plan s))); closing = 1 };
              others = [];
              are = o.turns_are ∙ ap (turns_of s (schema_at plan s)) next;
              stream = refl;
              element = sym (ends.1 ∙ ap (closing_of (hub_of job)) number);
            }

  module _ (node : ℕ) (seat : ℕ) (old new : FeedState) (stop : Stop) (did : Did acts seat (Fed old new (FeedStopped stop))) (seen : List Entry) (saw : SawFront seat seen history) (acted : HasActed (hub_of job) seat seen (Fed old new (FeedStopped stop)))
      (met : MetLimit (hub_of job) seat node (λ s. s ≡ seat) (GivesWith (hub_of job) seat new seen) seen) where
    abbrev front : List Entry
    front = met.history

    arrived-front : HasArrived front
    arrived-front = arrived-here seat node (λ s. s ≡ seat) (GivesWith (hub_of job) seat new seen) seen saw met

    left-front : (left : List (List Turn)) × Stands plan all front left
    left-front = stood seat node (λ s. s ≡ seat) (GivesWith (hub_of job) seat new seen) seen saw met

    within-limit : StaysWithin job.limit plan [] front
    within-limit = within-here seat node (λ s. s ≡ seat) (GivesWith (hub_of job) seat new seen) seen saw met

    -- what the seat made arrive is what arrived before the stop
    own-is : elements_of seat (made_by seat seen) ≡ elements_of seat front
    own-is = sym (arrived-front.elements seat ∙ (elements-own seat history run.crew.by_seats.fed ∙ ap (elements_of seat) (own-seen seat seen history saw)))

    arrive-beyond : seat < length (streams_of plan) → (e : Element) → GivesWith (hub_of job) seat new seen (Arrive seat e) → goes_beyond job.limit plan front (Arrive seat e) ≡ Some node → ComesBeyond job files node
    arrive-beyond lt e given beyond =
        turn-beyond job sound certified files front left-front.0 left-front.1 within-limit node seat first.turn first.others lt first.are
        (subst (λ (s : ℕ). goes_beyond job.limit plan front (Arrive s first.turn.element) ≡ Some node) (sym first.stream)
        (subst (λ (x : Element). goes_beyond job.limit plan front (Arrive seat x) ≡ Some node) (sym first.element) beyond))
      where
        there : (feed : FeedState) × (slice_get feeds seat ≡ Some feed)
        there = feed-there job sound feeds acts history run seat lt

        fed : FedFrom acts seat there.0
        fed = run.fed seat there.0 there.1

        same : there.0 ≡ old
        same = cc (fed.did, did)

        kept : IsSameFeed there.0 new
        kept = subst (λ (f : FeedState). IsSameFeed f new) (sym same) acted.0

        told : IsTrue new.source.told
        told = subst IsTrue (sym kept.told) (told_at feeds seat there.0 run.told there.1)

        gave : HasGiven (hub_of job) new (elements_of seat front ++ e ∷ [])
        gave =
            subst (λ (es : List Element). HasGiven (hub_of job) new (es ++ e ∷ [])) own-is
            (subst (λ (b : Bool). HasGiven (hub_of job) new (elements_of seat (made_by seat seen) ++ cond b (e ∷ []) [])) (eq-eqb seat seat refl) given)

        unended : IsOpen plan all front seat (get_or left-front.0 seat [])
        unended = elim (left-front.1.each seat lt) [
          | inl o ↦ o
          | inr ended ↦ absurd (false≢true (sym (not-closed false (begun plan) front seat refl (arrived-front.closed seat ∙ closed-is seat old new (FeedStopped stop) did)) ∙ ended.closed))
        ]

        first : IsFirst seat e (get_or left-front.0 seat [])
        first =
            first-turn seat e front new (number-is job sound feeds acts history run seat there.0 new there.1 kept) told (accepted-is job sound feeds acts history run seat there.0 new there.1 kept)
            (get_or left-front.0 seat []) unended gave

    -- at no stream nothing arrives
    no-stream : length (streams_of plan) ≤ seat → (e : Element) → begun_by (nodes_from plan front) (Arrive seat e) ≡ []
    no-stream le e =
        ap (λ (n : ℕ). hands (operator_at (nodes_from plan front) n) (FedHere e)) (stream-node-from plan front seat ∙ get_or_past (streams_of plan) seat (length plan) le)
        ∙ ap (λ (o : Operator). hands o (FedHere e)) (nowhere-at plan front (length plan) (omega arith))

    feed-cause : ComesBeyond job files node
    feed-cause = cause-by seat node (λ s. s ≡ seat) (GivesWith (hub_of job) seat new seen) seen saw met (λ s e own given beyond.
        at e (subst (λ (n : ℕ). GivesWith (hub_of job) seat new seen (Arrive n e)) own given) (subst (λ (n : ℕ). goes_beyond job.limit plan front (Arrive n e) ≡ Some node) own beyond))
      where
        at : (e : Element) → GivesWith (hub_of job) seat new seen (Arrive seat e) → goes_beyond job.limit plan front (Arrive seat e) ≡ Some node → ComesBeyond job files node
        at e given beyond = elim (cases_lt seat (length (streams_of plan))) [
          | inl lt ↦ arrive-beyond lt e given beyond
          | inr le ↦ absurd (not-quiet seat node (λ s. s ≡ seat) (GivesWith (hub_of job) seat new seen) seen saw met (Arrive seat e) beyond (no-stream le e))
        ]

  limit-has-cause : LimitsHaveCause job feeds acts history
  limit-has-cause seat node act did told =
      elim (stop-made None history (Limit node) (stops-are-told (hub_of job) well_made acts history run.crew seat act (Limit node) did told)) [
        | inl none ↦ absurd (cc none)
        | inr stop ↦
            let made = made-of (hub_of job) acts history run.crew stop.0 stop.1 in
            elim (met-by (hub_of job) (stop.0).seat node made.seen made.act made.acted stop.0 made.own stop.2) [
              | inl met ↦ cause-by (stop.0).seat node (λ s. ⊥) (λ event. Unit {0}) made.seen made.saw met (λ s e never given beyond. absurd never)
              | inr fed ↦ feed-cause node (stop.0).seat fed.old fed.new fed.stop (subst (Did acts (stop.0).seat) fed.is made.did) made.seen made.saw (subst (HasActed (hub_of job) (stop.0).seat made.seen) fed.is made.acted) fed.met
            ]
      ]

  -- ---- where the core is settled

  whole-work : (end : WorkEnd) → is_work_whole end ≡ true → work_stop end ≡ None
  whole-work Over whole = refl
  whole-work NoMemory whole = absurd (false≢true whole)
  whole-work (Stopped stop) whole = absurd (false≢true whole)

  whole-feed : (end : FeedEnd) → has_ended end ≡ true → feed_stop end ≡ None
  whole-feed end whole = ap feed_stop (ended-is end whole)

  whole-tells : (act : Act) → is_whole act ≡ true → stop_told act ≡ None
  whole-tells (Fed old new end) whole = whole-feed end whole
  whole-tells (Probed end) whole = whole-work end whole
  whole-tells (SweptPlaces places end) whole = whole-work end whole
  whole-tells (Wrote end) whole = refl

  working-is : (core : CoreState) → core.plan ≡ plan_run job → working true core history ≡ worked (nodes_from plan history)
  working-is core is =
      ap (λ (p : RunPlan). behind p (nodes_from (nodes_of p) (history ++ probes (nodes_from (nodes_of p) history)))) is
      ∙ ap (behind (plan_run job)) (nodes-append plan history (probes (nodes_from plan history)))
    where
      behind : RunPlan → List Node → List Entry
      behind p after = probes (nodes_from (nodes_of p) history) ++ sweeps_at after (places_from 0 after)

  settling-has-cause : SettlingLimitsHaveCause job feeds acts history
  settling-has-cause whole core is limit settles front back node cut within beyond =
      comes-beyond job sound certified files (history ++ work) left.0 node (act-stands plan well_made all (accepted job sound certified files) history work left.0 left.1 allowed)
      (reaches job.limit plan (history ++ work) [] (history ++ front) back [] node
      (ap (λ (es : List Entry). history ++ es) (sym (working-is core is) ∙ cut) ∙ (sym (append_assoc history front back) ∙ sym (append-nil ((history ++ front) ++ back)))) tt within beyond)
    where
      work : List Entry
      work = worked (nodes_from plan history)

      going : IsGoing plan history
      going = record {
        legal = run.crew.by_plan.legal;
        on = stop-reached false (begun plan) history ∙ none-stops (hub_of job) well_made acts history run.crew (λ seat act did. whole-tells act (whole seat act did));
      }

      left : (left : List (List Turn)) × Stands plan all history left
      left = stands-at history (record { going = going; elements = λ s. refl; closed = λ s. refl })

      allowed : AreActsLegal (nodes_from plan history) work
      allowed = work-allowed plan well_made certified history going

pub limits-have-cause : OfCrewRuns LimitsHaveCause
limits-have-cause job sound certified feeds acts history run = limit-has-cause job sound certified feeds acts history run

pub settling-limits-have-cause : OfCrewRuns SettlingLimitsHaveCause
settling-limits-have-cause job sound certified feeds acts history run = settling-has-cause job sound certified feeds acts history run
