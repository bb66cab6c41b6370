use Rattle.std.proofs.Common.{◌≡◌, ◌∙◌, ◌++◌, [], Err, List, ap, subst, sym}
use Rattle.pj_core.specs.Cores.{CoreState}
use Rattle.pj_core.specs.Plans.{RunPlan}
use Rattle.pj_events.specs.declared.events.Entry.{Entry}
use Rattle.pj_events.specs.History.{nodes_from}
use Rattle.pj_events.specs.Outcomes.{elements_out}
use Rattle.pj_feed.specs.Feeds.{AllTold}
use Rattle.pj_feed.proofs.AllFeeds.{all_same}
use Rattle.pj_report.specs.Written.{Cut, Leaves}
use Rattle.pj_run.specs.Cuts.{run_cut}
use Rattle.pj_run.specs.PlanNames.{HasShortNames}
use Rattle.pj_run.specs.Runs.{run_nodes}
use Rattle.pj_run.specs.Whole.{LeavesWhole}
use Rattle.pj_run.specs.declared.stops.RunStop.{RunStop}
use Rattle.pj_run.proofs.Carried.{turn_cut_same}
use Rattle.pj_run.proofs.WholeLaws.{leaves_then, wrote_then}
use Rattle.pj_script.specs.Playing.{settled}
use Rattle.pj_run.specs.Goes.{BringsAll, IsGoing, RunStart, StopCause, StopLeaves, whole_of}
use Rattle.pj_replay.specs.Playing.{Stage, stage}
use Rattle.pj_replay.specs.Plays.{IsPlaying}
use Rattle.pj_replay.proofs.Behind.{settle-causes, settle-ends, settle-lines, settled-going}
use Rattle.pj_run.proofs.Going.{shown_until}
use Rattle.pj_replay.proofs.replay.finish_turns.Given.{Over}
use Rattle.pj_replay.proofs.replay.finish_turns.Goals.{Start, In-Ok}
use Rattle.pj_replay.proofs.replay.finish_turns.Goals as goal

abbrev before : (g : Over) → Start g → Stage
before g c = stage c.args.hand c.args.feeds.now.feeds.items c.args.gathered (g.K.Sink.state c.args.out.now)

-- the history with what settles it
abbrev behind : RunStart → List Entry → List Entry
behind run history = history ++ settled (nodes_from (run_nodes run.job) history)

-- the run goes on behind it
going : (g : Over) (c : In-Ok g) (core : CoreState) → core ≡ c.settle.new.hand.core → (run : RunStart) (history : List Entry) → IsPlaying run history (stage c.args.hand c.args.feeds.now.feeds.items c.args.gathered (g.K.Sink.state c.args.out.now)) []
    → (AllTold run.feeds → BringsAll run)
    → IsGoing run (behind run history) core c.args.feeds.now.feeds.items c.args.feeds.now.at (record { results = c.settle.new.results; accepted = c.args.gathered.accepted }) (g.K.Sink.state c.settle.new.out)
going g c core is run history p brings =
    subst (λ (k : CoreState). IsGoing run (behind run history) k c.args.feeds.now.feeds.items c.args.feeds.now.at (record { results = c.settle.new.results; accepted = c.args.gathered.accepted }) (g.K.Sink.state c.settle.new.out)) (sym is)
    (settled-going run history (stage c.args.hand c.args.feeds.now.feeds.items c.args.gathered (g.K.Sink.state c.args.out.now)) p c.settle.new.hand c.settle.new.results (g.K.Sink.state c.settle.new.out) c.args.feeds.now.at c.requires.first
    c.in-Ok.ensures.done c.in-Ok.ensures.form c.in-Ok.ensures.told c.in-Ok.ensures.later c.in-Ok.ensures.lines brings)

-- the names are those of the same plan
names-then : (g : Over) (c : In-Ok g) (core : CoreState) → core ≡ c.settle.new.hand.core → HasShortNames c.args.hand.core.plan.nodes → HasShortNames core.plan.nodes
names-then g c core is names = subst (λ (p : RunPlan). HasShortNames p.nodes) (sym (ap (λ (k : CoreState). k.plan) is ∙ c.in-Ok.ensures.plan)) names

-- ---- settling stopped

pub returns-in-Err-clause-same : goal.returns-in-Err-clause-same
returns-in-Err-clause-same g c = all_same c.args.feeds.now.feeds.items

pub returns-in-Err-clause-lines : goal.returns-in-Err-clause-lines
returns-in-Err-clause-lines g c = λ run history p brings told t.
    let a = (goal.at.returns-in-Err-clause-lines g c).Start in
    subst (λ (stop : RunStop). Leaves (run_cut stop) (shown_until run.job (whole_of run)) run.sink.written (g.K.Sink.state c.settle.new.out).written) (sym c.from.ensures)
    (settle-lines run history (before g a) p (g.K.Sink.state c.settle.new.out) c.in-Err.stop c.in-Err.ensures.told c.in-Err.ensures.later c.in-Err.ensures.lines told t)

pub returns-in-Err-clause-whole : goal.returns-in-Err-clause-whole
returns-in-Err-clause-whole g c = λ names t.
    subst (λ (stop : RunStop). LeavesWhole (run_cut stop) (g.K.Sink.state c.args.out.now).written (g.K.Sink.state c.settle.new.out).written) (sym c.from.ensures)
    (subst (λ (cut : Cut). LeavesWhole cut (g.K.Sink.state c.args.out.now).written (g.K.Sink.state c.settle.new.out).written) (sym (turn_cut_same c.in-Err.stop)) (c.in-Err.ensures.whole names t))

pub returns-in-Err-clause-ends : goal.returns-in-Err-clause-ends
returns-in-Err-clause-ends g c = λ run history p brings told t.
    let a = (goal.at.returns-in-Err-clause-ends g c).Start in
    subst (λ (stop : RunStop). StopLeaves stop run c.args.feeds.now.feeds.items (g.K.Sink.state c.settle.new.out).written) (sym c.from.ensures)
    (settle-ends run history (before g a) p (g.K.Sink.state c.settle.new.out) c.in-Err.stop c.in-Err.ensures.told c.in-Err.ensures.later c.in-Err.stop c.args.feeds.now.feeds.items
    (c.in-Err.ensures.stops history p.follows.stands) told t)

pub returns-in-Err-clause-causes : goal.returns-in-Err-clause-causes
returns-in-Err-clause-causes g c = λ run history p brings.
    let a = (goal.at.returns-in-Err-clause-causes g c).Start in
    subst (λ (stop : RunStop). StopCause stop run c.args.feeds.now.feeds.items (g.K.Sink.state c.settle.new.out)) (sym c.from.ensures)
    (settle-causes run history (before g a) p (g.K.Sink.state c.settle.new.out) c.in-Err.stop c.in-Err.ensures.told c.in-Err.ensures.later c.in-Err.stop c.args.feeds.now.feeds.items
    (c.in-Err.ensures.stops history p.follows.stands) (λ is. c.in-Err.ensures.fault (ap Err is)) (λ why is. c.in-Err.ensures.cut why (ap Err is)))

-- ---- the turns that are left stopped

pub returns-in-Err-go_on-clause-lines : goal.returns-in-Err-go_on-clause-lines
returns-in-Err-go_on-clause-lines g c = λ run history p brings.
    c.in-Err-go_on.ensures.lines run (behind run history) (going g (goal.at.returns-in-Err-go_on-clause-lines g c).In-Ok c.into_core-core.result c.into_core-core.ensures run history p brings)

pub returns-in-Err-go_on-clause-ends : goal.returns-in-Err-go_on-clause-ends
returns-in-Err-go_on-clause-ends g c = λ run history p brings.
    c.in-Err-go_on.ensures.ends run (behind run history) (going g (goal.at.returns-in-Err-go_on-clause-ends g c).In-Ok c.into_core-core.result c.into_core-core.ensures run history p brings)

pub returns-in-Err-go_on-clause-causes : goal.returns-in-Err-go_on-clause-causes
returns-in-Err-go_on-clause-causes g c = λ run history p brings.
    c.in-Err-go_on.ensures.causes run (behind run history) (going g (goal.at.returns-in-Err-go_on-clause-causes g c).In-Ok c.into_core-core.result c.into_core-core.ensures run history p brings)

-- whole lines were written until then
pub returns-in-Err-go_on-clause-whole : goal.returns-in-Err-go_on-clause-whole
returns-in-Err-go_on-clause-whole g c = λ names t.
    leaves_then (run_cut c.in-Err-go_on.why) (g.K.Sink.state c.args.out.now).written (g.K.Sink.state c.settle.new.out).written (g.K.Sink.state c.go_on.new.out).written (c.in-Ok.ensures.whole names (c.in-Err-go_on.ensures.told t))
    (c.in-Err-go_on.ensures.whole (names-then g (goal.at.returns-in-Err-go_on-clause-whole g c).In-Ok c.into_core-core.result c.into_core-core.ensures names) t)

-- ---- all was made

pub returns-in-Ok-go_on-clause-lines : goal.returns-in-Ok-go_on-clause-lines
returns-in-Ok-go_on-clause-lines g c = λ run history p brings.
    c.in-Ok-go_on.ensures.lines run (behind run history) (going g (goal.at.returns-in-Ok-go_on-clause-lines g c).In-Ok c.into_core-core.result c.into_core-core.ensures run history p brings)

pub returns-in-Ok-go_on-clause-outcome : goal.returns-in-Ok-go_on-clause-outcome
returns-in-Ok-go_on-clause-outcome g c = λ run history p brings told.
    (c.in-Ok-go_on.ensures.outcome run (behind run history) (going g (goal.at.returns-in-Ok-go_on-clause-outcome g c).In-Ok c.into_core-core.result c.into_core-core.ensures run history p brings)).gathers told

pub returns-in-Ok-go_on-clause-within : goal.returns-in-Ok-go_on-clause-within
returns-in-Ok-go_on-clause-within g c = λ run history p brings told.
    (c.in-Ok-go_on.ensures.outcome run (behind run history) (going g (goal.at.returns-in-Ok-go_on-clause-within g c).In-Ok c.into_core-core.result c.into_core-core.ensures run history p brings)).within told

pub returns-in-Ok-go_on-clause-stands : goal.returns-in-Ok-go_on-clause-stands
returns-in-Ok-go_on-clause-stands g c = λ run history p brings told.
    (c.in-Ok-go_on.ensures.outcome run (behind run history) (going g (goal.at.returns-in-Ok-go_on-clause-stands g c).In-Ok c.into_core-core.result c.into_core-core.ensures run history p brings)).stands told

pub returns-in-Ok-go_on-clause-has_taken : goal.returns-in-Ok-go_on-clause-has_taken
returns-in-Ok-go_on-clause-has_taken g c = λ form had.
    let done = c.in-Ok.ensures.done in
    c.in-Ok-go_on.ensures.has_taken form (had.0 ++ elements_out done.outs, done.taken form had.0 had.1)

pub returns-in-Ok-go_on-clause-whole : goal.returns-in-Ok-go_on-clause-whole
returns-in-Ok-go_on-clause-whole g c = λ names t.
    wrote_then (g.K.Sink.state c.args.out.now).written (g.K.Sink.state c.settle.new.out).written (g.K.Sink.state c.go_on.new.out).written (c.in-Ok.ensures.whole names (c.in-Ok-go_on.ensures.told t))
    (c.in-Ok-go_on.ensures.whole (names-then g (goal.at.returns-in-Ok-go_on-clause-whole g c).In-Ok c.into_core-core.result c.into_core-core.ensures names) t)
