-- A replay begins: a new core, over new feeds.
use Rattle.std.proofs.Common.{◌≡◌, ℕ, zero, suc, ◌+◌, Bool, cond, List, [], ◌∷◌, ◌++◌, length, Option, Some, refl, ap, sym, ◌∙◌, append-nil, subst, arith}
use Rattle.std.specs.List.{slice_get}
use Rattle.pj_io.specs.States.{SinkState}
use Rattle.pj_pattern.specs.declared.element.Element.{Element}
use Rattle.pj_plan.specs.Nodes.{streams_in}
use Rattle.pj_plan.specs.Sound.{IsSoundPlan}
use Rattle.pj_element.specs.Accepted.{fates_of, taken_of}
use Rattle.pj_core.specs.Cores.{CoreState}
use Rattle.pj_feed.specs.Feeds.{FeedState, AreFeeds, AreNew, accepted_of, files_of}
use Rattle.pj_feed.proofs.AllFeeds.{all_same, feeds_long, one_of}
use Rattle.pj_feed.proofs.FeedFacts.{counted}
use Rattle.pj_hand.specs.Hands.{HandState}
use Rattle.pj_hand.specs.Steps.{IsNewHand}
use Rattle.pj_report.specs.Forms.{taken_so_far}
use Rattle.pj_report.specs.Written.{flat}
use Rattle.pj_report.proofs.Forms.{shown-nil}
use Rattle.pj_run.specs.declared.run.Gathered.{Gathered}
use Rattle.pj_run.specs.declared.run.Writing.{Writing}
use Rattle.pj_run.specs.Checking.{HoldsNone}
use Rattle.pj_run.specs.Jobs.{Job}
use Rattle.pj_run.specs.Runs.{IsEnabled, IsNewCore, job_by, plan_in, plan_run, run_nodes}
use Rattle.pj_run.proofs.OutputLaws.{legal_run, whole_run}
use Rattle.pj_run.proofs.Planned.{IsPlanned, new_planned}
use Rattle.pj_run.proofs.Running.{feeds-lists}
use Rattle.pj_script.specs.declared.step.ScriptStep.{ScriptStep}
use Rattle.pj_events.specs.OneThread.{Turn}
use Rattle.pj_script.specs.Playing.{all_left, play}
use Rattle.pj_script.specs.Reading.{AreStepsOf}
use Rattle.pj_run.specs.Goes.{BringsAll, RunStart}
use Rattle.pj_replay.specs.Playing.{Follows, IsReady, Stage, lefts, stage}
use Rattle.pj_replay.specs.Plays.{IsPlaying, remaining}

-- the run of a new core, by this script if there is one
abbrev pub replay_of : Option (List (ℕ × ScriptStep)) → Writing → CoreState → List FeedState → SinkState → RunStart
replay_of script writing core feeds sink = record { job = job_by script writing core; feeds = feeds; sink = sink }

-- ---- the beginning

none-of : (es : List Element) → length es ≡ 0 → es ≡ []
none-of [] e = refl
none-of (x ∷ es) e = absurd (omega (arith, e))

new-at : (feeds : List FeedState) (k : ℕ) (feed : FeedState) → AreNew feeds → slice_get feeds k ≡ Some feed → feed.intake.seen.tally.tuples + feed.intake.seen.tally.puncts ≡ 0
new-at [] k feed new is = absurd (cc)
new-at (f ∷ feeds) zero feed new is = let same : f ≡ feed = cc is in subst (λ (g : FeedState). g.intake.seen.tally.tuples + g.intake.seen.tally.puncts ≡ 0) same new.1
new-at (f ∷ feeds) (suc k) feed new is = new-at feeds k feed new.2 is

module _ (writing : Writing) (core : CoreState) (fresh : IsNewCore core) (steps : List (ℕ × ScriptStep)) (feeds : List FeedState) (sink : SinkState) (fed : AreFeeds 0 (streams_in core.plan.nodes) feeds) (new : AreNew feeds) (fit : AreStepsOf core.plan.nodes steps) where
  abbrev job : Job
  job = job_by (Some steps) writing core

  abbrev run : RunStart
  run = replay_of (Some steps) writing core feeds sink

  pub is-planned : IsPlanned job
  is-planned = new_planned (Some steps) writing core fresh fit

  -- all arrives where no step is refused
  pub brings-all : IsEnabled job (files_of feeds) → BringsAll run
  brings-all enabled = record { legal = legal_run job (files_of feeds) is-planned; elements = (whole_run job (files_of feeds) is-planned enabled).arrived }

  module _ (hand : HandState) (gathered : Gathered) (at : IsNewHand core hand) (results : gathered.results ≡ taken_so_far writing.form []) (asked : gathered.accepted.asked ≡ writing.check) (lists : HoldsNone (cond writing.check (length feeds) 0) gathered.accepted.lists.items) where
    abbrev start : Stage
    start = stage hand feeds gathered sink

    plan-is : hand.core.plan ≡ plan_run job
    plan-is = ap (λ (c : CoreState). c.plan) at.over ∙ fresh.fresh.of_plan

    fed-here : AreFeeds 0 (streams_in hand.core.plan.nodes) feeds
    fed-here = subst (λ (c : CoreState). AreFeeds 0 (streams_in c.plan.nodes) feeds) (sym at.over) fed

    follows : Follows hand feeds []
    follows = record {
      stands = at.stands [] fresh.fresh.stands;
      come = λ k feed is still.
          let one = (one_of 0 (streams_in core.plan.nodes) feeds k feed fed is).fed in
          record {
            es = [];
            accepted = record { fed = one; are = sym (none-of (taken_of (fates_of feed.intake.columns one.judged)) (sym (counted feed.intake one.judged one.follows.has_judged) ∙ new-at feeds k feed new is)) };
            arrived = refl;
            unclosed = refl;
          };
    }

    pub begins-ready : IsReady start
    begins-ready = record {
      on = ap (λ (c : CoreState). c.kept.stop) at.over ∙ fresh.fresh.on;
      sound = subst (λ (c : CoreState). IsSoundPlan c.plan.nodes) (sym at.over) fresh.sound;
      plan = subst (λ (c : CoreState). c.plan ≡ plan_in c) (sym at.over) fresh.fresh.of_plan;
      fed = fed-here;
      lists = λ a. lists.0 ∙ ap (λ (b : Bool). cond b (length feeds) 0) (sym asked ∙ a) ∙ feeds_long 0 (streams_in hand.core.plan.nodes) feeds fed-here;
      follows = ([], follows);
    }

    pub begins-playing : IsPlaying run [] start steps
    begins-playing = record {
      plan = plan-is;
      limit = ap (λ (c : CoreState). c.limit) at.over;
      same = all_same feeds;
      later = omega arith;
      follows = follows;
      within = tt;
      given = [];
      all = ap (λ (c : CoreState). c.kept.undrained) at.over ∙ fresh.fresh.undrained;
      taken = results;
      written = λ t. sym (append-nil sink.written) ∙ ap (λ (ls : List (List ℕ)). sink.written ++ flat ls) (sym (shown-nil job.form job.nodes));
      asked = asked;
      kept = λ a k lt. lists.1 k;
      script = (steps, refl);
      rest = λ told. ap (λ (ls : List (List Turn)). remaining (run_nodes job) ls steps) (sym lefts-are);
      refused = λ told. ap (λ (ls : List (List Turn)). (play (run_nodes job) ls steps).refused) (sym lefts-are);
    }
      where
        lefts-are : lefts start ≡ all_left (run_nodes job) (accepted_of (streams_in job.nodes) (files_of feeds))
        lefts-are = ap (λ (c : CoreState). lefts (stage (record hand { core = c }) feeds gathered sink)) at.over ∙ feeds-lists job feeds fed new
