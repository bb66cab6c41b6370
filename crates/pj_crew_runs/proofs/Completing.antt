-- A history over accepted elements goes on until all of them came: where it goes beyond a limit, more elements come in all than may.
use Rattle.std.proofs.Common.{ℕ, zero, suc, ◌+◌, ◌<◌, true, false, List, [], ◌∷◌, ◌++◌, ◌≡◌, Option, Some, is_some, if◌then◌else◌, map, get_or, length, slice_get, refl, sym, ap, ◌∙◌, subst, inl, inr, arith, append_assoc}
use Rattle.pj_pattern.specs.declared.element.Element.{Element}
use Rattle.pj_pattern.specs.Elements.{puncts_of, rows_of}
use Rattle.pj_events.specs.declared.events.Entry.{Entry}
use Rattle.pj_events.specs.CoreKept.{core_kept}
use Rattle.pj_events.specs.Join.{In, has}
use Rattle.pj_events.specs.Plan.{ArePlanned, Node}
use Rattle.pj_events.specs.History.{IsLegal, nodes_from, reached_of, stream_node, streams_of}
use Rattle.pj_events.specs.Limits.{ReachesLimit, StaysWithin}
use Rattle.pj_events.specs.OneThread.{Turn, arrival_of, places_from, probes, sweeps_at}
use Rattle.pj_events.specs.Outcomes.{goes_beyond}
use Rattle.pj_laws.specs.HistoryLaws.{AllAreCertified, AreAcceptedLists, closed_lists}
use Rattle.pj_laws.specs.Reaching.{elements_to as coming_to, IsCounted as CountsAt}
use Rattle.pj_laws.specs.SettlingHistories.{EachTakeIsGiven, IsSettling}
use Rattle.pj_laws.proofs.Histories.{nodes-append}
use Rattle.pj_laws.proofs.Probes.{AreActsLegal}
use Rattle.pj_laws.proofs.Rounds.{AreTagged, all-tagged}
use Rattle.pj_plan.specs.Nodes.{streams_in}
use Rattle.pj_plan.specs.Sound.{IsSoundPlan}
use Rattle.pj_core.specs.Cores.{CoreState, StandsFor}
use Rattle.pj_core.proofs.Planned.{planned, tree}
use Rattle.pj_core_laws.proofs.PlainAnswers.{counted-are-plain, counts-are-plain}
use Rattle.pj_core_laws.proofs.Settles.{work-settles}
use Rattle.pj_feed.specs.Feeds.{accepted_of}
use Rattle.pj_run.specs.Jobs.{Job}
use Rattle.pj_run.specs.Runs.{elements_of, plan_run, run_nodes}
use Rattle.pj_run.proofs.Accepting.{accepted_lists}
use Rattle.pj_run.proofs.OutputLaws.{closed_so}
use Rattle.pj_script.specs.declared.step.ScriptStep.{ScriptStep}
use Rattle.pj_script.specs.declared.step.ScriptStep.TheVariants.{Arrive as ArrivesNext}
use Rattle.pj_script.specs.Playing.{Played, arrival_if, behind, goes_on, left_behind, listed, play, refused_at}
use Rattle.pj_script_laws.proofs.Acts.{IsGoing, worked}
use Rattle.pj_script_laws.proofs.Arrivals.{Leaves}
use Rattle.pj_script_laws.proofs.Ending.{Ends, ended-at, goes-on-ends}
use Rattle.pj_script_laws.proofs.Steps.{Stands, act-stands, play-stands}
use Rattle.pj_script_laws.proofs.Whole.{limits-of}
use Rattle.pj_crew_runs.specs.Limits.{ComesBeyond}

-- ---- turns that are left

module _ (plan : List Node) (lists : List (List Element)) (h : List Entry) where
  leaves-tagged : (s : ℕ) (turns : List Turn) → Leaves plan lists h s turns → (t : Turn) → In t turns → t.stream ≡ s
  leaves-tagged s turns (inl o) t i = (all-tagged plan s (stream_node plan s ∷ []) (o.later ∷ [])).0 t (subst (λ (ts : List Turn). In t ts) o.turns_are i)
  leaves-tagged s turns (inr o) t i = absurd (subst (λ (ts : List Turn). In t ts) o.none i)

  -- what is left of so many streams from this one on
  record AreLeft (k n : ℕ) : Type 0 where
    pub left : List (List Turn)
    pub long : length left ≡ n
    pub tagged : AreTagged k left
    pub each : (i : ℕ) → i < n → Leaves plan lists h (k + i) (get_or left i [])

  left-more : (k n : ℕ) (turns : List Turn) → Leaves plan lists h k turns → AreLeft (k + 1) n → AreLeft k (suc n)
  left-more k n turns here rest = record {
    left = turns ∷ rest.left;
    long = ap suc rest.long;
    tagged = (leaves-tagged k turns here, rest.tagged);
    each = each;
  }
    where
      each : (i : ℕ) → i < suc n → Leaves plan lists h (k + i) (get_or (turns ∷ rest.left) i [])
      each zero lt = let z : k ≡ k + 0 = omega arith in subst (λ (s : ℕ). Leaves plan lists h s turns) z here
      each (suc i) lt =
          let z : k + 1 + i ≡ k + suc i = omega arith in
          subst (λ (s : ℕ). Leaves plan lists h s (get_or rest.left i [])) z (rest.each i (omega (arith, lt)))

  are-left : ((s : ℕ) → s < length (streams_of plan) → (turns : List Turn) × Leaves plan lists h s turns) → (n k : ℕ) → k + n ≡ length (streams_of plan) → AreLeft k n
  are-left leaves zero k e = record { left = []; long = refl; tagged = tt; each = λ i lt. absurd (omega (arith, lt)) }
  are-left leaves (suc n) k e = let here = leaves k (omega (arith, e)) in left-more k n here.0 here.1 (are-left leaves n (k + 1) (omega (arith, e)))

  all-left : ((s : ℕ) → s < length (streams_of plan) → (turns : List Turn) × Leaves plan lists h s turns) → AreLeft 0 (length (streams_of plan))
  all-left leaves = are-left leaves (length (streams_of plan)) 0 (omega arith)

-- ---- one job

module _ (job : Job) (sound : IsSoundPlan job.nodes) (certified : AllAreCertified (run_nodes job)) (files : List (List ℕ)) where
  abbrev pub nodes : List Node
  nodes = run_nodes job

  abbrev pub lists : List (List Element)
  lists = accepted_of (streams_in job.nodes) files

  pub made : ArePlanned [] nodes
  made = planned (plan_run job) sound

  pub accepted : AreAcceptedLists nodes lists
  accepted = accepted_lists job files

  -- what is left of each stream tells what stands
  pub stands-by : (h : List Entry) → IsGoing nodes h → ((s : ℕ) → s < length (streams_of nodes) → (turns : List Turn) × Leaves nodes lists h s turns)
      → (left : List (List Turn)) × Stands nodes lists h left
  stands-by h going leaves =
      let are = all-left nodes lists h leaves in (
        are.left,
        record {
          going = going;
          each = λ s lt. (let z : 0 + s ≡ s = omega arith in subst (λ (n : ℕ). Leaves nodes lists h n (get_or are.left s [])) z (are.each s lt));
          long = are.long;
          tagged = are.tagged;
        },
      )

  -- all work of the job settles a history that has ended
  job-settles : (h : List Entry) → IsLegal nodes h → ((s : ℕ) → s < length (streams_of nodes) → has (reached_of false nodes h).closed s ≡ true) → EachTakeIsGiven nodes h
      → IsSettling nodes (h ++ worked (nodes_from nodes h))
  job-settles h legal closed given =
      subst (λ (ns : List Node). IsSettling nodes (h ++ (probes (nodes_from nodes h) ++ sweeps_at ns (places_from 0 ns)))) (nodes-append nodes h (probes (nodes_from nodes h)))
      (work-settles core sound h stood (record { closed = closed; given = given }))
    where
      core : CoreState
      core = record { plan = plan_run job; limit = job.limit; kept = core_kept job.trace nodes h }

      stood : StandsFor core h
      stood = record { legal = legal; stands = (λ e. refl, refl, refl, refl) }

  -- where the history goes beyond the limit, more elements come in all than may
  pub comes-beyond : (h : List Entry) (left : List (List Turn)) (node : ℕ) → Stands nodes lists h left → ReachesLimit job.limit nodes h node → ComesBeyond job files node
  comes-beyond h left node stands r = record {
    counted = sym (counted-are-plain (plan_run job) node) ∙ tells.0;
    many = subst (λ (n : ℕ). job.limit < n)
        (ap (λ (ls : List (List Element)). coming_to nodes (map rows_of lists) (map puncts_of ls) node) (closed_so job files)
        ∙ counts-are-plain (plan_run job) (map rows_of lists) (map puncts_of (elements_of job files)) node)
        tells.1;
  }
    where
      more : List Entry
      more = goes_on (nodes_from nodes h) left

      ends : Ends nodes lists (h ++ more)
      ends = goes-on-ends nodes made certified lists accepted job-settles h left stands

      reaches : ReachesLimit job.limit nodes (h ++ more) node
      reaches = record {
        front = r.front;
        next = r.next;
        back = r.back ++ more;
        parts = ap (λ (es : List Entry). es ++ more) r.parts ∙ append_assoc r.front (r.next ∷ r.back) more;
        within = r.within;
        beyond = r.beyond;
      }

      tells : CountsAt nodes node × (job.limit < coming_to nodes (map rows_of lists) (map puncts_of (closed_lists nodes lists)) node)
      tells =
          limits-of (plan_run job) sound certified lists accepted (h ++ more) ends.turning.going.legal
          (record { complete = ends.complete; arrived = λ s lt. (ended-at nodes lists (h ++ more) s (ends.turning.each s lt)).arrived })
          (tree (plan_run job) sound) job.limit node reaches

  -- ---- one more step

  module _ (h : List Entry) (left : List (List Turn)) (stands : Stands nodes lists h left) (within : StaysWithin job.limit nodes [] h) (node : ℕ) where
    -- a step of a join that is allowed
    pub act-beyond : (entry : Entry) → AreActsLegal (nodes_from nodes h) (entry ∷ []) → goes_beyond job.limit nodes h entry.event ≡ Some node → ComesBeyond job files node
    act-beyond entry acts beyond =
        comes-beyond (h ++ entry ∷ []) left node (act-stands nodes made lists accepted h (entry ∷ []) left stands acts)
        (record { front = h; next = entry; back = []; parts = refl; within = within; beyond = beyond })

    -- the next turn of a stream
    pub turn-beyond : (s : ℕ) (t : Turn) (turns : List Turn) → s < length (streams_of nodes) → get_or left s [] ≡ t ∷ turns → goes_beyond job.limit nodes h (arrival_of t).event ≡ Some node → ComesBeyond job files node
    turn-beyond s t turns lt is beyond =
        comes-beyond (h ++ arrival_of t ∷ []) played.left node
        (subst (λ (es : List Entry). Stands nodes lists (h ++ es) played.left) one (play-stands nodes made lists accepted certified steps h left stands (lt, tt)))
        (record { front = h; next = arrival_of t; back = []; parts = refl; within = within; beyond = beyond })
      where
        step : ScriptStep
        step = ArrivesNext s

        steps : List (ℕ × ScriptStep)
        steps = (0, step) ∷ []

        played : Played
        played = play (nodes_from nodes h) left steps

        make : Option Entry → Played
        make o = if is_some o then behind (listed o) (play (nodes_from (nodes_from nodes h) (listed o)) (left_behind left step) []) else refused_at 0 left

        one : played.entries ≡ arrival_of t ∷ []
        one = ap (λ (ts : List Turn). (make (arrival_if (slice_get ts 0))).entries) is
