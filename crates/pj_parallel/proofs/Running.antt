-- A run with workers, from what its crew has done to what it leaves.
use Rattle.std.proofs.Common.{ℕ, zero, suc, ◌+◌, ◌≡◌, ◌≤◌, ◌^◌, ◌⊎◌, arith, Bool, true, false, List, [], ◌∷◌, ◌++◌, map, length, slice_get, Option, Some, None, Result, Ok, Err, IfErr, IfOk, OnOk, IsTrue, inl, inr, refl, sym, ap, ap₂, ◌∙◌, subst, append-nil, if◌then◌else◌}
use Rattle.std.specs.List.{AllZip}
use Rattle.std.proofs.lemmas.Bool.{true≢false}
use Rattle.pj_io.specs.States.{SinkState}
use Rattle.pj_value.specs.declared.values.Value.{Value}
use Rattle.pj_pattern.specs.declared.element.Element.{Element}
use Rattle.pj_pattern.specs.Elements.{rows_of}
use Rattle.pj_pattern.proofs.Elements.{rows_of-append}
use Rattle.pj_plan.specs.declared.node.PlanNode.{PlanNode}
use Rattle.pj_plan.specs.Nodes.{streams_in}
use Rattle.pj_events.specs.declared.events.Out.{Out}
use Rattle.pj_laws.specs.Seats.{HubPlan, made_by}
use Rattle.pj_laws.proofs.Lists.{stop-reached}
use Rattle.pj_core.specs.Cores.{CoreState, nodes_in}
use Rattle.pj_core.specs.Plans.{RunPlan, nodes_of, run_plan}
use Rattle.pj_core.proofs.Planned.{planned}
use Rattle.pj_events.specs.History.{begun}
use Rattle.pj_events.specs.Outcomes.{elements_of, elements_out}
use Rattle.std.proofs.lemmas.Option.{slice_get_within}
use Rattle.pj_shape.specs.declared.columns.Column.{Column}
use Rattle.pj_element.specs.Accepted.{fates_of, taken_of}
use Rattle.pj_seats.specs.Answers.{closing_of}
use Rattle.pj_feed.specs.Feeds.{AllClosed, AllTold, AreAllTaken, AreFeeds, AreNew, AreSameFeeds, FeedState, IsFed, IsSameFeed, accepted_of, all_accepted, bytes_of, files_of, tallies_in, tallies_of}
use Rattle.pj_feed.proofs.AllFeeds.{all_taken, all_tallied, feeds_long, files_still, told_still}
use Rattle.pj_report.specs.declared.writer.ResultWriter.{ResultWriter}
use Rattle.pj_report.specs.Forms.{shown, taken_so_far}
use Rattle.pj_report.specs.Written.{WholeLines}
use Rattle.pj_laws.specs.HistoryLaws.{closed_list}
use Rattle.pj_run.specs.declared.run.Writing.{Writing}
use Rattle.pj_run.specs.declared.stops.RunStop.{RunStop}
use Rattle.pj_run.specs.declared.stops.RunStop.TheVariants.{NoMemory as RunMemory}
use Rattle.pj_run.specs.Cuts.{run_cut}
use Rattle.pj_run.specs.Jobs.{Job}
use Rattle.pj_run.specs.PlanNames.{HasShortNames}
use Rattle.pj_run.specs.Runs.{IsNewCore, accepted_rows, job_in, outs_by, plan_run, run_nodes}
use Rattle.pj_run.specs.Whole.{HasTaken, WritesWhole, WroteWhole}
use Rattle.pj_run.proofs.WholeLaws.{none_wrote, wrote_same}
use Rattle.pj_workers.specs.Feeds.{IsGiven}
use Rattle.pj_workers.specs.Writes.{IsWritten, drained_in}
use Rattle.pj_workers.specs.declared.feeding.FeedEnd.{FeedEnd}
use Rattle.pj_workers.specs.declared.feeding.FeedEnd.TheVariants.{Ended as FeedEnded, Halted as FeedHalted, ReadFault, ByteLimit, NoMemory as FeedMemory, Stopped as FeedStopped}
use Rattle.pj_workers.specs.declared.writing.WriteEnd.{WriteEnd}
use Rattle.pj_workers.specs.declared.writing.WriteEnd.TheVariants.{Over, WriteFault}
use Rattle.pj_hub.specs.declared.made.MadeWith.{MadeWith}
use Rattle.pj_hub.specs.Hubs.{hub_with, made_with, plan_of}
use Rattle.pj_crew_laws.specs.Acts.{Act, Fed, HasActed, IsCrewHistory, Wrote, feed_stop, is_fault, is_feed_fault, stop_told}
use Rattle.pj_crew_laws.specs.Crews.{AllWhole, Did, OfEach, WritesAlone}
use Rattle.pj_crew_laws.proofs.Stopping.{halts-have-cause, none-stops}
use Rattle.pj_crew_runs.specs.Limits.{ComesBeyond}
use Rattle.pj_crew_runs.specs.Runs.{IsCrewRun, hub_of}
use Rattle.pj_crew_runs.proofs.Tells.{large-files-tell, limits-tell, quiet-are-whole, reads-tell}
use Rattle.pj_crew.specs.declared.crew.Ended.{Ended}
use Rattle.pj_crew.specs.declared.duties.Duty.{Duty}
use Rattle.pj_crew.specs.declared.duties.Duty.TheVariants.{Feed, Probe, Sweep}
use Rattle.pj_crew.specs.Crews.{HasRun}
use Rattle.pj_crew.specs.Duties.{IsSameDuty, MayBeginFrom, act_of, acts_of}
use Rattle.pj_crew.proofs.Endings.{in-front, some-is}
use Rattle.pj_roster.specs.declared.causes.Causes.{Causes}
use Rattle.pj_roster.specs.Assigned.{AreAssigned, AreOthers, feeders}
use Rattle.pj_roster.specs.Dismissed.{causes_in, feeds_in, no_causes, rows_in}
use Rattle.pj_roster.specs.Rosters.{FedEach, rows_accepted, rows_kept}
use Rattle.pj_roster.proofs.Begins.{begins}
use Rattle.pj_roster.proofs.FedEach.{feed-each}
use Rattle.pj_roster.proofs.Keeps.{keep-all}
use Rattle.pj_roster.proofs.Tells.{none-told}
use Rattle.pj_parallel.specs.declared.run.Settled.{Settled}
use Rattle.pj_parallel.specs.Causes.{FileFailed, IsTooLarge, OutputCause, StopCause}
use Rattle.pj_parallel.specs.Closing.{IsOfCrew, file_stop, first_of, node_stop, read_stop, run_state}
use Rattle.pj_parallel.specs.Concluding.{Concludes, Gathers, IsConcluded, IsCutShort}
use Rattle.pj_parallel.specs.Parallel.{ArrivesLarge, ArrivesUntil, IsStopped, LimitTells, StopTells}
use Rattle.pj_parallel.proofs.Causing.{first-cause, short-cause}
use Rattle.pj_crew_runs.proofs.Limiting.{limits-have-cause}
use Rattle.pj_parallel.proofs.Lines.{EndsWell, WroteUntil, ends-well, short-whole, well-whole, wrote-until}
use Rattle.pj_parallel.proofs.Counts.{FeederAt, FeederDid, act-there, feeder-did, files-by, nodes-by, reads-by, told-is}
use Rattle.pj_parallel.proofs.Ends.{Came, is-done, is-stopped, settling-cause}

-- ---- lists

-- of a list with one more behind it, a place is of the list or the last
record IsLast {X : Type 0} (xs : List X) (y z : X) (i : ℕ) : Type 0 where
  place : i ≡ length xs
  same : y ≡ z

of-push : {X : Type 0} (xs : List X) (y z : X) (i : ℕ) → slice_get (xs ++ y ∷ []) i ≡ Some z → (slice_get xs i ≡ Some z) ⊎ IsLast xs y z i
of-push [] y z zero e = inr (record { place = refl; same = cc })
of-push [] y z (suc i) e = absurd (cc)
of-push (x ∷ xs) y z zero e = inl e
of-push (x ∷ xs) y z (suc i) e = elim (of-push xs y z i e) [
  | inl at ↦ inl at
  | inr last ↦ inr (record { place = ap suc last.place; same = last.same })
]

acts-long : {S : Type 0} (hub : HubPlan) (duties news : List (Duty S)) → AllZip (IsSameDuty hub) duties news → length (acts_of duties news) ≡ length duties
acts-long hub [] [] zip = refl
acts-long hub [] (n ∷ news) zip = absurd zip
acts-long hub (d ∷ duties) [] zip = absurd zip
acts-long hub (d ∷ duties) (n ∷ news) zip = ap suc (acts-long hub duties news zip.1)

-- ---- feeds

-- what came of each feed
abbrev CameOf : (FeedState → FeedState → Type 0) → List FeedState → List FeedState → Type 0
CameOf Holds olds news = (k : ℕ) (old new : FeedState) → slice_get olds k ≡ Some old → slice_get news k ≡ Some new → Holds old new

same-feeds : (olds news : List FeedState) → length news ≡ length olds → CameOf IsSameFeed olds news → AreSameFeeds olds news
same-feeds [] [] same each = tt
same-feeds [] (n ∷ news) same each = absurd (omega (arith, same))
same-feeds (o ∷ olds) [] same each = absurd (omega (arith, same))
same-feeds (o ∷ olds) (n ∷ news) same each = (each 0 o n refl refl, same-feeds olds news (omega (arith, same)) (λ k old new p q. each (suc k) old new p q))

record IsClosed (old new : FeedState) : Type 0 where
  same : IsSameFeed old new
  fed : IsFed new
  shut : new.is_open ≡ false

closed-feeds : (k : ℕ) (streams : List PlanNode) (olds news : List FeedState) → AreFeeds k streams olds → length news ≡ length olds → CameOf IsClosed olds news → AreFeeds k streams news × AllClosed news
closed-feeds k [] [] [] of same each = (tt, tt)
closed-feeds k [] [] (n ∷ news) of same each = absurd (omega (arith, same))
closed-feeds k [] (o ∷ olds) news of same each = absurd of
closed-feeds k (s ∷ streams) [] news of same each = absurd of
closed-feeds k (s ∷ streams) (o ∷ olds) [] of same each = absurd (omega (arith, same))
closed-feeds k (s ∷ streams) (o ∷ olds) (n ∷ news) of same each =
    let now = each 0 o n refl refl in
    let rest = closed-feeds (k + 1) streams olds news of.3 (omega (arith, same)) (λ i old new p q. each (suc i) old new p q) in
    ((now.same.stream ∙ of.0, now.same.columns ∙ of.1, now.fed, rest.0), (now.shut, rest.1))

-- the closing has no row
rows-all : (hub : HubPlan) (feed : FeedState) → rows_accepted hub feed ≡ rows_of (all_accepted feed)
rows-all hub feed = rows_of-append (all_accepted feed) (closing_of hub feed.stream ∷ []) ∙ append-nil (rows_of (all_accepted feed))

rows-are : (hub : HubPlan) (k : ℕ) (streams : List PlanNode) (feeds : List FeedState) → AreFeeds k streams feeds → map (rows_accepted hub) feeds ≡ map rows_of (accepted_of streams (files_of feeds))
rows-are hub k [] [] of = refl
rows-are hub k [] (f ∷ feeds) of = absurd of
rows-are hub k (s ∷ streams) [] of = absurd of
rows-are hub k (s ∷ streams) (f ∷ feeds) of =
    ap₂ (λ (row : List (List Value)) (rows : List (List (List Value))). row ∷ rows)
    (rows-all hub f ∙ ap (λ (columns : List Column). rows_of (taken_of (fates_of columns (bytes_of f)))) of.1) (rows-are hub (k + 1) streams feeds of.3)

-- ---- what is counted

none-counted : (causes : Causes) → first_of causes ≡ None → causes ≡ no_causes
none-counted causes e = memory causes.memory causes.read causes.node causes.file e
  where
    memory : (m : Bool) (read limit file : Option ℕ) → (if m then Some RunMemory else read_stop read (node_stop limit (file_stop file))) ≡ None → record { memory = m; read = read; node = limit; file = file } ≡ no_causes
    memory true read limit file e = absurd (cc)
    memory false (Some s) limit file e = absurd (cc)
    memory false None (Some n) file e = absurd (cc)
    memory false None None (Some s) e = absurd (cc)
    memory false None None None e = refl

-- only stops of workers are told first
pub of-crew : (causes : Causes) → IsOfCrew (first_of causes)
of-crew causes = memory causes.memory causes.read causes.node causes.file
  where
    memory : (m : Bool) (read limit file : Option ℕ) → IsOfCrew (if m then Some RunMemory else read_stop read (node_stop limit (file_stop file)))
    memory true read limit file = tt
    memory false (Some s) limit file = tt
    memory false None (Some n) file = tt
    memory false None None (Some s) = tt
    memory false None None None = tt

-- a feeder without a fault that no stop was told ended, or was halted
quiet-end : (end : FeedEnd) → is_feed_fault end ≡ false → feed_stop end ≡ None → (end ≡ FeedEnded) ⊎ (end ≡ FeedHalted)
quiet-end FeedEnded fault stop = inl refl
quiet-end FeedHalted fault stop = inr refl
quiet-end ReadFault fault stop = absurd (true≢false fault)
quiet-end ByteLimit fault stop = absurd (true≢false fault)
quiet-end FeedMemory fault stop = absurd (true≢false fault)
quiet-end (FeedStopped s) fault stop = absurd (cc)

-- ---- a crew that did not begin

fed-others : {S : Type 0} (nodes : List PlanNode) (others : List (Duty S)) → AreOthers nodes others → (feeds_in others ≡ []) × (rows_in others ≡ [])
fed-others nodes [] are = (refl, refl)
fed-others nodes (Feed stream feed kept end ∷ others) are = absurd are.0
fed-others nodes (Probe index end ∷ others) are = fed-others nodes others are.1
fed-others nodes (Sweep index places end ∷ others) are = fed-others nodes others are.1

fed-by : {S : Type 0} (nodes : List PlanNode) (keep : Bool) (others : List (Duty S)) → AreOthers nodes others → (k : ℕ) (feeds : List FeedState) → (feeds_in (feeders k keep feeds ++ others) ≡ feeds) × (length (rows_in (feeders k keep feeds ++ others)) ≤ length feeds)
fed-by nodes keep others are k [] = let none = fed-others nodes others are in (none.0, omega (arith, ap length none.1))
fed-by nodes true others are k (f ∷ feeds) = let rest = fed-by nodes true others are (k + 1) feeds in (ap (λ fs. f ∷ fs) rest.0, omega (arith, rest.1))
fed-by nodes false others are k (f ∷ feeds) = let rest = fed-by nodes false others are (k + 1) feeds in (ap (λ fs. f ∷ fs) rest.0, omega (arith, rest.1))

-- the feeds that duties hold as they are handed out
pub handed-feeds : {S : Type 0} (nodes : List PlanNode) (keep : Bool) (feeds : List FeedState) (duties : List (Duty S)) → AreAssigned nodes keep feeds duties → (feeds_in duties ≡ feeds) × (length (rows_in duties) ≤ length feeds)
handed-feeds nodes keep feeds duties is = subst (λ ds. (feeds_in ds ≡ feeds) × (length (rows_in ds) ≤ length feeds)) (sym is.are) (fed-by nodes keep is.others is.are_others 0 feeds)

-- nothing was done and nothing was written
pub nothing-done : (job : Job) (feeds news : List FeedState) (before after : SinkState) → after ≡ before → IsStopped job feeds news RunMemory before after
nothing-done job feeds news before after same = record {
  history = [];
  front = record { legal = tt; within = tt; arrived = λ stream lt. (closed_list (run_nodes job) (accepted_of (streams_in job.nodes) (files_of feeds)) stream, refl) };
  tells = tt;
  written = λ t. subst (λ (s : SinkState). WholeLines (shown job.form job.nodes (outs_by job [])) before.written s.written) (sym same)
      (record { first = []; others = shown job.form job.nodes (outs_by job []); all = refl; written = sym (append-nil before.written) });
}

pub nothing-written : (before after : SinkState) → after ≡ before → WritesWhole {T = Settled} run_cut before after (Err RunMemory)
nothing-written before after same told = wrote_same before.written before.written after.written (ap (λ (s : SinkState). s.written) same) (none_wrote before.written)

-- ---- before

module _ (writing : Writing) (core : CoreState) (fresh : IsNewCore core) (nodes : List PlanNode) (of-nodes : nodes ≡ core.plan.nodes) (feeds : List FeedState) (of : AreFeeds 0 (streams_in core.plan.nodes) feeds) where
  abbrev job : Job
  job = job_in writing core

  pub few-feeds : length feeds ≤ 16
  few-feeds = subst (λ n. n ≤ 16) (sym (feeds_long 0 (streams_in core.plan.nodes) feeds of)) fresh.sound.few_streams

  module _ {S : Type 0} (duties : List (Duty S)) (are : AreAssigned nodes writing.check feeds duties) where
    assigned : AreAssigned core.plan.nodes writing.check feeds duties
    assigned = subst (λ (ns : List PlanNode). AreAssigned ns writing.check feeds duties) of-nodes are

    pub may-begin : AreNew feeds → MayBeginFrom (plan_of core) 0 duties
    may-begin new = begins S (plan_of core) core.plan.nodes fresh.sound (record { plan = core.plan; of_nodes = refl; runs = refl }) feeds (record { each = of; are_new = new }) writing.check duties assigned

    -- ---- after

    module _ (results : ResultWriter) (results-are : results ≡ taken_so_far writing.form []) (before after : SinkState) (ended : Ended S)
        (ran : HasRun (record { made = made_with core; nodes = nodes; duties = duties; results = results }) before after ended) where
      abbrev news : List (Duty S)
      news = ended.duties.items

      abbrev acts : List Act
      acts = acts_of duties news

      abbrev all-acts : List Act
      all-acts = acts ++ Wrote ended.end ∷ []

      hub-is : hub_with (made_with core) ≡ hub_of job
      hub-is = ap (λ (p : RunPlan). record { nodes = nodes_of p; limit = core.limit; trace = core.plan.trace }) fresh.fresh.of_plan

      fed-each : FedEach feeds duties news
      fed-each = feed-each S (hub_with (made_with core)) core.plan.nodes writing.check feeds duties news assigned ran.same

      pub feeds-long : length (feeds_in news) ≤ length feeds
      feeds-long = omega (arith, fed-each.count)

      pub rows-long : length (rows_in news) ≤ length feeds
      rows-long = fed-each.rows

      crew : IsCrewHistory (hub_of job) all-acts ran.history
      crew = subst (λ (h : HubPlan). IsCrewHistory h all-acts ran.history) hub-is ran.acted

      core-is : ended.core.plan ≡ core.plan
      core-is = ap (λ (m : MadeWith). run_plan m.nodes m.certs m.trace) ran.made

      plan-is : ended.core.plan ≡ plan_run job
      plan-is = core-is ∙ fresh.fresh.of_plan

      -- every feed was taken back as its feeder left it
      came-back : CameOf IsSameFeed feeds (feeds_in news)
      came-back k old new p q =
          let f = fed-each.each k (slice_get_within feeds k old p) in
          let was : f.old ≡ old = some-is f.old old (sym f.was ∙ p) in
          let is : f.new ≡ new = some-is f.new new (sym f.is ∙ q) in
          subst (λ (x : FeedState). IsSameFeed x new) was (subst (IsSameFeed f.old) is (crew.each k (Fed f.old f.new f.end) (in-front acts (Wrote ended.end ∷ []) (Fed f.old f.new f.end) k f.did)).2.0)

      pub same-all : AreSameFeeds feeds (feeds_in news)
      same-all = same-feeds feeds (feeds_in news) fed-each.count came-back

      -- ---- where workers tell nothing

      module _ (none : first_of (causes_in news) ≡ None) (over : ended.end ≡ Over) where
        quiet : OfEach all-acts (λ act. (is_fault act ≡ false) × (stop_told act ≡ None))
        quiet seat act did = elim (of-push acts (Wrote ended.end) act seat did) [
          | inl at ↦ none-told S duties news (none-counted (causes_in news) none) seat act at
          | inr last ↦ subst (λ (a : Act). (is_fault a ≡ false) × (stop_told a ≡ None)) (ap Wrote (sym over) ∙ last.same) (refl, refl)
        ]

        pub stays-on : ended.core.kept.stop ≡ None
        stays-on =
            ran.stands.stands.3
            ∙ (stop-reached ended.core.plan.trace (begun (nodes_in ended.core)) ran.history
            ∙ none-stops (hub_of job) (planned (plan_run job) fresh.sound) all-acts ran.history crew (λ seat act did. (quiet seat act did).1))

        -- every feeder ended its stream
        each-ended : (k : ℕ) (old new : FeedState) (end : FeedEnd) → Did all-acts k (Fed old new end) → end ≡ FeedEnded
        each-ended k old new end did = elim (quiet-end end (quiet k (Fed old new end) did).0 (quiet k (Fed old new end) did).1) [
          | inl is ↦ is
          | inr halted ↦
              let cause = halts-have-cause (hub_of job) (planned (plan_run job) fresh.sound) all-acts ran.history crew k old new (subst (λ (e : FeedEnd). Did all-acts k (Fed old new e)) halted did) in
              absurd (true≢false (sym cause.3 ∙ (quiet cause.0 cause.1 cause.2).0))
        ]

        closed : CameOf IsClosed feeds (feeds_in news)
        closed k old new p q =
            let f = fed-each.each k (slice_get_within feeds k old p) in
            let did = in-front acts (Wrote ended.end ∷ []) (Fed f.old f.new f.end) k f.did in
            let acted = (crew.each k (Fed f.old f.new f.end) did).2 in
            let given = subst (λ (e : FeedEnd). IsGiven (hub_of job) e f.old f.new (elements_of k (made_by k (crew.each k (Fed f.old f.new f.end) did).0))) (each-ended k f.old f.new f.end did) acted.2.given in
            subst (IsClosed old) (some-is f.new new (sym f.is ∙ q))
            (record { same = subst (λ (x : FeedState). IsSameFeed x f.new) (some-is f.old old (sym f.was ∙ p)) acted.0; fed = given.0.has.fed; shut = given.1 })

        pub all-closed : AreFeeds 0 (streams_in core.plan.nodes) (feeds_in news) × AllClosed (feeds_in news)
        all-closed = closed-feeds 0 (streams_in core.plan.nodes) feeds (feeds_in news) of fed-each.count closed

        pub all-taken : AreAllTaken (feeds_in news)
        all-taken = all_taken 0 (streams_in core.plan.nodes) (feeds_in news) all-closed.0 all-closed.1

      -- nothing stopped a run that was made to its end
      well : (last : SinkState) (settled : Settled) → IsConcluded writing.check ended after last settled
          → EndsWell (first_of (causes_in news)) ended.end (run_state ended.core ended.results after) (run_state settled.core settled.gathered.results last)
      well last settled c = ends-well (first_of (causes_in news)) ended.end (run_state ended.core ended.results after) (run_state settled.core settled.gathered.results last) c.closes

      -- ---- where files tell their bytes

      module _ (told : AllTold feeds) where
        run : IsCrewRun job feeds all-acts ran.history
        run = record {
          crew = crew;
          of_streams = of;
          told = told;
          fed = λ stream feed at.
              let f = fed-each.each stream (slice_get_within feeds stream feed at) in
              let was : f.old ≡ feed = some-is f.old feed (sym f.was ∙ at) in
              record { new = f.new; end = f.end; did = subst (λ (x : FeedState). Did all-acts stream (Fed x f.new f.end)) was (in-front acts (Wrote ended.end ∷ []) (Fed f.old f.new f.end) stream f.did) };
        }

        alone : WritesAlone all-acts (length duties)
        alone seat act did writes = elim (of-push acts (Wrote ended.end) act seat did) [
          | inl at ↦ absurd (true≢false (sym writes ∙ fed-each.none_writes seat act at))
          | inr last ↦ last.place ∙ acts-long (hub_with (made_with core)) duties news ran.same
        ]

        pub came : Came job feeds all-acts ended.end before (run_state ended.core ended.results after)
        came = record {
          history = ran.history;
          run = run;
          writer = length duties;
          alone = alone;
          stood = ran.stands;
          plan = plan-is;
          limit = ap (λ (m : MadeWith). m.limit) ran.made;
          wrote =
              subst (λ (h : HubPlan). IsWritten ended.end core.plan.nodes (taken_so_far writing.form []) ended.results before after (drained_in h (length duties) ran.history)) hub-is
              (subst (λ (ns : List PlanNode). IsWritten ended.end ns (taken_so_far writing.form []) ended.results before after (drained_in (hub_with (made_with core)) (length duties) ran.history)) of-nodes
              (subst (λ (r : ResultWriter). IsWritten ended.end nodes r ended.results before after (drained_in (hub_with (made_with core)) (length duties) ran.history)) results-are ran.wrote));
          form = ran.form ∙ ap (λ (r : ResultWriter). r.form) results-are;
        }

        -- the first stop tells of the history
        reads : (stream : ℕ) → (causes_in news).read ≡ Some stream → ArrivesUntil (feeds_in news) ran.history stream
        reads stream e = elim (reads-by no_causes news stream e) [
          | inl before' ↦ absurd (cc)
          | inr at ↦
              let did = feeder-did (hub_with (made_with core)) core.plan.nodes writing.check feeds duties news assigned ran.same fed-each stream ReadFault at in
              (did.new, did.is, reads-tell job fresh.sound fresh.certified feeds all-acts ran.history run stream did.old did.new did.was (in-front acts (Wrote ended.end ∷ []) (Fed did.old did.new ReadFault) stream did.did))
        ]

        files : (stream : ℕ) → (causes_in news).file ≡ Some stream → ArrivesLarge (feeds_in news) ran.history stream
        files stream e = elim (files-by no_causes news stream e) [
          | inl before' ↦ absurd (cc)
          | inr at ↦
              let did = feeder-did (hub_with (made_with core)) core.plan.nodes writing.check feeds duties news assigned ran.same fed-each stream ByteLimit at in
              (did.new, did.is, large-files-tell job fresh.sound fresh.certified feeds all-acts ran.history run stream did.old did.new did.was (in-front acts (Wrote ended.end ∷ []) (Fed did.old did.new ByteLimit) stream did.did))
        ]

        limits : (node : ℕ) → (causes_in news).node ≡ Some node → LimitTells job ran.history node
        limits node e = elim (nodes-by no_causes news node e) [
          | inl before' ↦ absurd (cc)
          | inr at ↦
              let there = act-there (hub_with (made_with core)) duties news ran.same at.place at.duty at.there in
              inl (limits-tell job fresh.sound fresh.certified feeds all-acts ran.history run at.place node (act_of there.old at.duty)
              (in-front acts (Wrote ended.end ∷ []) (act_of there.old at.duty) at.place there.did) (told-is there.old at.duty ∙ at.told))
        ]

        abbrev FirstTells : Option RunStop → Type 0
        FirstTells None = Unit {0}
        FirstTells (Some stop) = StopTells stop job (feeds_in news) ran.history

        pub first-tells : FirstTells (first_of (causes_in news))
        first-tells = memory (causes_in news).memory (causes_in news).read (causes_in news).node (causes_in news).file refl refl refl
          where
            memory : (m : Bool) (read limit file : Option ℕ) → (causes_in news).read ≡ read → (causes_in news).node ≡ limit → (causes_in news).file ≡ file → FirstTells (if m then Some RunMemory else read_stop read (node_stop limit (file_stop file)))
            memory true read limit file r n f = tt
            memory false (Some s) limit file r n f = reads s r
            memory false None (Some k) file r n f = limits k n
            memory false None None (Some s) r n f = files s f
            memory false None None None r n f = tt

        pub all-whole : first_of (causes_in news) ≡ None → ended.end ≡ Over → AllWhole all-acts
        all-whole none over = quiet-are-whole job fresh.sound fresh.certified feeds all-acts ran.history run (quiet none over)

        -- ---- what is gathered

        module _ (none : first_of (causes_in news) ≡ None) (over : ended.end ≡ Over) where
          pub tallied : tallies_in (feeds_in news) ≡ tallies_of (streams_in job.nodes) (files_of feeds)
          tallied =
              all_tallied 0 (streams_in core.plan.nodes) (feeds_in news) (all-closed none over).0 (all-closed none over).1 (told_still feeds (feeds_in news) same-all told)
              ∙ ap (tallies_of (streams_in core.plan.nodes)) (files_still feeds (feeds_in news) same-all told)

          -- the acts of all but the writer
          whole-acts : AllWhole acts
          whole-acts seat act did = all-whole none over seat act (in-front acts (Wrote ended.end ∷ []) act seat did)

          pub rows-gathered : writing.check ≡ true → rows_in news ≡ accepted_rows job (files_of feeds)
          rows-gathered asked =
              keep-all S (hub_with (made_with core)) core.plan.nodes writing.check feeds duties news assigned ran.same told whole-acts
              ∙ (ap (λ (b : Bool). rows_kept (hub_with (made_with core)) b (feeds_in news)) asked
              ∙ (rows-are (hub_with (made_with core)) 0 (streams_in core.plan.nodes) (feeds_in news) (all-closed none over).0
              ∙ ap (λ (fs : List (List ℕ)). map rows_of (accepted_of (streams_in core.plan.nodes) fs)) (files_still feeds (feeds_in news) same-all told)))

        -- ---- how it is concluded

        module _ (last : SinkState) (still : IsTrue last.told → IsTrue after.told) where
          pub gathers : (settled : Settled) → IsConcluded writing.check ended after last settled → Gathers job feeds (feeds_in news) before last settled
          gathers settled c =
              let w = well last settled c in
              let closing = run_state settled.core settled.gathered.results last in record {
                done = is-done job fresh.sound fresh.certified feeds all-acts ended.end before (run_state ended.core ended.results after) came (all-whole w.none w.over) w.over closing w.settles still;
                on = w.settles.finishes.makes.on;
                tallies = tallied w.none w.over;
                taken = all-taken w.none w.over;
                asked = c.asked;
                rows = λ asked. c.rows ∙ rows-gathered w.none w.over (sym c.asked ∙ asked);
              }

          pub cut-short : (stop : RunStop) → IsCutShort ended after last stop → IsStopped job feeds (feeds_in news) stop before last
          unfolding came
          cut-short stop c =
              is-stopped job fresh.sound fresh.certified feeds all-acts ended.end before (run_state ended.core ended.results after) came (feeds_in news) (run_state c.core c.results last) still
              (first_of (causes_in news)) (of-crew (causes_in news)) first-tells all-whole stop c.closes

          pub ended-well : (r : Result Settled RunStop) → Concludes writing.check ended after last r → IfOk r (Gathers job feeds (feeds_in news) before last)
          ended-well (Ok settled) c = gathers settled c
          ended-well (Err stop) c = tt

          pub ended-short : (r : Result Settled RunStop) → Concludes writing.check ended after last r → IfErr r (λ stop. IsStopped job feeds (feeds_in news) stop before last)
          ended-short (Ok settled) c = tt
          ended-short (Err stop) c = cut-short stop c

      -- ---- whatever files and output tell

      module _ (last : SinkState) where
        pub same-plan : (r : Result Settled RunStop) → Concludes writing.check ended after last r → IfOk r (λ settled. settled.core.plan ≡ core.plan)
        same-plan (Ok settled) c = (well last settled c).settles.finishes.makes.plan ∙ core-is
        same-plan (Err stop) c = tt

        pub still-on : (r : Result Settled RunStop) → Concludes writing.check ended after last r → IfOk r (λ settled. settled.core.kept.stop ≡ None)
        still-on (Ok settled) c = (well last settled c).settles.finishes.makes.on
        still-on (Err stop) c = tt

        pub taken-all : (r : Result Settled RunStop) → Concludes writing.check ended after last r → OnOk r (AreAllTaken (feeds_in news))
        taken-all (Ok settled) c = let w = well last settled c in all-taken w.none w.over
        taken-all (Err stop) c = tt

        -- what the writer drained
        abbrev drained : List Out
        drained = drained_in (hub_with (made_with core)) (length duties) ran.history

        wrote-at : (end : WriteEnd) → ended.end ≡ end → IsWritten end nodes results ended.results before after drained
        wrote-at end is = subst (λ (e : WriteEnd). IsWritten e nodes results ended.results before after drained) is ran.wrote

        pub taken-in-form : (r : Result Settled RunStop) → Concludes writing.check ended after last r → IfOk r (λ settled. HasTaken writing.form settled.gathered.results)
        taken-in-form (Ok settled) c =
            let w = well last settled c in
            let es : List Element = [] ++ elements_out drained in
            (es ++ elements_out w.settles.outs, w.settles.taken writing.form es ((wrote-at Over w.over).0 writing.form [] results-are))
        taken-in-form (Err stop) c = tt

        short-names : HasShortNames ended.core.plan.nodes
        short-names = subst HasShortNames (sym (ap (λ (p : RunPlan). p.nodes) core-is)) fresh.names

        pub whole-lines : (r : Result Settled RunStop) → Concludes writing.check ended after last r → (IsTrue last.told → IsTrue after.told) → WritesWhole run_cut before last r
        whole-lines r c still told = go r c
          where
            so-far : WroteUntil ended.end before.written after.written
            so-far = wrote-until ended.end nodes results ended.results before after drained (subst HasShortNames (sym of-nodes) fresh.names) (still told) ran.wrote

            go : (r : Result Settled RunStop) → Concludes writing.check ended after last r → WroteWhole run_cut before last r
            go (Ok settled) c =
                let w = well last settled c in
                well-whole before (run_state ended.core ended.results after) (run_state settled.core settled.gathered.results last) short-names told
                (subst (λ (e : WriteEnd). WroteUntil e before.written after.written) w.over so-far) w.settles
            go (Err stop) c =
                short-whole before (run_state ended.core ended.results after) (run_state c.core c.results last) short-names told ran.history ran.stands (first_of (causes_in news)) (of-crew (causes_in news)) ended.end so-far stop c.closes

        -- ---- causes

        -- a feeder that ended so
        did-of : (stream : ℕ) (end : FeedEnd) → FeederAt news stream end → FeederDid feeds duties news stream end
        did-of = feeder-did (hub_with (made_with core)) core.plan.nodes writing.check feeds duties news assigned ran.same fed-each

        fed-of : (stream : ℕ) (end : FeedEnd) (at : FeederDid feeds duties news stream end) → HasActed (hub_of job) stream (crew.each stream (Fed at.old at.new end) (in-front acts (Wrote ended.end ∷ []) (Fed at.old at.new end) stream at.did)).0 (Fed at.old at.new end)
        fed-of stream end at = (crew.each stream (Fed at.old at.new end) (in-front acts (Wrote ended.end ∷ []) (Fed at.old at.new end) stream at.did)).2

        failed : (stream : ℕ) → (causes_in news).read ≡ Some stream → FileFailed feeds (feeds_in news) stream
        failed stream e = elim (reads-by no_causes news stream e) [
          | inl none ↦ absurd (cc)
          | inr there ↦ let at = did-of stream ReadFault there in record { old = at.old; new = at.new; was = at.was; is = at.is; rose = (fed-of stream ReadFault at).2.given.0 }
        ]

        too-large : (stream : ℕ) → (causes_in news).file ≡ Some stream → IsTooLarge feeds stream
        too-large stream e = elim (files-by no_causes news stream e) [
          | inl none ↦ absurd (cc)
          | inr there ↦
              let at = did-of stream ByteLimit there in
              let fed = fed-of stream ByteLimit at in
              record { feed = at.old; is = at.was; bytes = λ t. subst (λ (bytes : List ℕ). 2 ^ 40 ≤ length bytes) (fed.0.bytes t) (fed.2.given t).0 }
        ]

        beyond : (node : ℕ) → (causes_in news).node ≡ Some node → AllTold feeds → ComesBeyond job (files_of feeds) node
        beyond node e told = elim (nodes-by no_causes news node e) [
          | inl none ↦ absurd (cc)
          | inr at ↦
              let there = act-there (hub_with (made_with core)) duties news ran.same at.place at.duty at.there in
              limits-have-cause job fresh.sound fresh.certified feeds all-acts ran.history (run told) at.place node (act_of there.old at.duty)
              (in-front acts (Wrote ended.end ∷ []) (act_of there.old at.duty) at.place there.did) (told-is there.old at.duty ∙ at.told)
        ]

        pub stop-cause : (r : Result Settled RunStop) → Concludes writing.check ended after last r → (ended.end ≡ Over → IfErr r (λ stop. OutputCause stop after last))
            → IfErr r (λ stop. StopCause stop job feeds (feeds_in news) before last)
        stop-cause (Ok settled) c output = tt
        stop-cause (Err stop) c output =
            short-cause job feeds (feeds_in news) before (run_state ended.core ended.results after) (run_state c.core c.results last) (first_of (causes_in news)) ended.end stop
            (first-cause job feeds (feeds_in news) (causes_in news) failed beyond too-large) ran.output.later (λ is. (wrote-at WriteFault is).0) output
            (λ none over turn s node is told. settling-cause job fresh.sound fresh.certified feeds all-acts ended.end before (run_state ended.core ended.results after) (came told) (all-whole told none over) turn c.core last s node is) c.closes
