use Rattle.std.proofs.Common.{◌∙◌, ℕ, [], List, Some, ap, cond, length, subst, sym}
use Rattle.pj_core.specs.Cores.{CoreState}
use Rattle.pj_core.specs.Plans.{RunPlan}
use Rattle.pj_events.specs.declared.events.Entry.{Entry}
use Rattle.pj_events.specs.Outcomes.{elements_out}
use Rattle.pj_feed.specs.Feeds.{AllTold, files_of}
use Rattle.pj_feed.proofs.AllFeeds.{all_same, all_same_then}
use Rattle.pj_report.specs.Forms.{shown}
use Rattle.pj_report.specs.Written.{between}
use Rattle.pj_report.proofs.LinesWritten.{none_written}
use Rattle.pj_run.specs.Checking.{HoldsNone}
use Rattle.pj_run.specs.Cuts.{run_cut}
use Rattle.pj_run.specs.PlanNames.{HasShortNames}
use Rattle.pj_run.specs.Runs.{IsEnabled, job_by}
use Rattle.pj_run.proofs.Running.{turns_cause}
use Rattle.pj_run.proofs.WholeLaws.{lines_wrote, none_wrote, shown_are_lines}
use Rattle.pj_run.specs.Goes.{BringsAll, RunStart}
use Rattle.pj_replay.specs.Playing.{stage}
use Rattle.pj_replay.specs.Plays.{IsPlaying, StopsReplay}
use Rattle.pj_replay.proofs.Begins.{begins-playing, begins-ready, brings-all, is-planned, replay_of}
use Rattle.pj_replay.proofs.Ended.{holds_on, whole_then, why_ended}
use Rattle.pj_replay.proofs.replay.replay_streams.Given.{Over}
use Rattle.pj_replay.proofs.replay.replay_streams.Goals.{After-new-hand, In-Err-play, In-Ok-play, Start}
use Rattle.pj_replay.proofs.replay.replay_streams.Goals as goal

-- the replay
abbrev run : (g : Over) → Start g → RunStart
run g c = replay_of (Some c.args.steps.now) c.args.writing c.args.core c.args.feeds.now.feeds.items (g.K.Sink.state c.args.out.now)

lists : (g : Over) (c : After-new-hand g) → HoldsNone (cond c.args.writing.check (length c.args.feeds.now.feeds.items) 0) c.in-Ok.accepted.lists.items
lists g c = subst (λ (n : ℕ). HoldsNone (cond c.args.writing.check n 0) c.in-Ok.accepted.lists.items) (ap length c.as_slice.ensures.value) c.in-Ok.ensures.none

-- it begins
begun : (g : Over) (c : After-new-hand g) → IsPlaying (replay_of (Some c.args.steps.now) c.args.writing c.args.core c.args.feeds.now.feeds.items (g.K.Sink.state c.args.out.now)) []
    (stage c.new-hand.result c.args.feeds.now.feeds.items (record { results = c.new-results.result; accepted = c.in-Ok.accepted }) (g.K.Sink.state c.args.out.now)) c.args.steps.now
begun g c =
    begins-playing c.args.writing c.args.core c.requires.fresh c.args.steps.now c.args.feeds.now.feeds.items (g.K.Sink.state c.args.out.now) c.requires.feeds c.requires.none c.requires.fit c.new-hand.result (record { results = c.new-results.result; accepted = c.in-Ok.accepted })
    c.new-hand.ensures c.new-results.ensures c.in-Ok.ensures.asked (lists g c)

-- how the steps end, where one stops
stopped : (g : Over) (c : In-Err-play g) → StopsReplay c.in-Err-play.stop (replay_of (Some c.args.steps.now) c.args.writing c.args.core c.args.feeds.now.feeds.items (g.K.Sink.state c.args.out.now)) c.play.new.feeds.feeds.items (g.K.Sink.state c.play.new.out)
stopped g c =
    c.in-Err-play.ensures.err (replay_of (Some c.args.steps.now) c.args.writing c.args.core c.args.feeds.now.feeds.items (g.K.Sink.state c.args.out.now)) []
    (begins-playing c.args.writing c.args.core c.requires.fresh c.args.steps.now c.args.feeds.now.feeds.items (g.K.Sink.state c.args.out.now) c.requires.feeds c.requires.none c.requires.fit c.new-hand.result (record { results = c.new-results.result; accepted = c.in-Ok.accepted })
    c.new-hand.ensures c.new-results.ensures c.in-Ok.ensures.asked
    (subst (λ (n : ℕ). HoldsNone (cond c.args.writing.check n 0) c.in-Ok.accepted.lists.items) (ap length c.as_slice.ensures.value) c.in-Ok.ensures.none))

-- all steps were made
played : (g : Over) (c : In-Ok-play g) → (now : List Entry) × IsPlaying (replay_of (Some c.args.steps.now) c.args.writing c.args.core c.args.feeds.now.feeds.items (g.K.Sink.state c.args.out.now)) now
    (stage c.play.new.hand c.play.new.feeds.feeds.items c.play.new.gathered (g.K.Sink.state c.play.new.out)) []
played g c =
    c.in-Ok-play.ensures.ok.goes (replay_of (Some c.args.steps.now) c.args.writing c.args.core c.args.feeds.now.feeds.items (g.K.Sink.state c.args.out.now)) []
    (begins-playing c.args.writing c.args.core c.requires.fresh c.args.steps.now c.args.feeds.now.feeds.items (g.K.Sink.state c.args.out.now) c.requires.feeds c.requires.none c.requires.fit c.new-hand.result (record { results = c.new-results.result; accepted = c.in-Ok.accepted })
    c.new-hand.ensures c.new-results.ensures c.in-Ok.ensures.asked
    (subst (λ (n : ℕ). HoldsNone (cond c.args.writing.check n 0) c.in-Ok.accepted.lists.items) (ap length c.as_slice.ensures.value) c.in-Ok.ensures.none))

enabled : (g : Over) (c : In-Ok-play g) → AllTold c.args.feeds.now.feeds.items → IsEnabled (job_by (Some c.args.steps.now) c.args.writing c.args.core) (files_of c.args.feeds.now.feeds.items)
enabled g c told = (played g c).1.refused told

brings : (g : Over) (c : In-Ok-play g) → AllTold c.args.feeds.now.feeds.items → BringsAll (replay_of (Some c.args.steps.now) c.args.writing c.args.core c.args.feeds.now.feeds.items (g.K.Sink.state c.args.out.now))
brings g c told =
    brings-all c.args.writing c.args.core c.requires.fresh c.args.steps.now c.args.feeds.now.feeds.items (g.K.Sink.state c.args.out.now) c.requires.feeds c.requires.none c.requires.fit (enabled g c told)

-- ---- no room for the lists of rows

pub returns-in-Err-clause-same : goal.returns-in-Err-clause-same
returns-in-Err-clause-same g c = all_same c.args.feeds.now.feeds.items

pub returns-in-Err-clause-lines : goal.returns-in-Err-clause-lines
returns-in-Err-clause-lines g c = λ told t. none_written between _ _

pub returns-in-Err-clause-whole : goal.returns-in-Err-clause-whole
returns-in-Err-clause-whole g c = λ t. none_wrote _

-- ---- a step stopped

pub play-requires-clause-ready : goal.play-requires-clause-ready
play-requires-clause-ready g c =
    begins-ready c.args.writing c.args.core c.requires.fresh c.args.steps.now c.args.feeds.now.feeds.items (g.K.Sink.state c.args.out.now) c.requires.feeds c.requires.none c.requires.fit c.new-hand.result (record { results = c.new-results.result; accepted = c.in-Ok.accepted })
    c.new-hand.ensures c.new-results.ensures c.in-Ok.ensures.asked (lists g (goal.at.play-requires-clause-ready g c).After-new-hand)

pub returns-in-Err-play-clause-lines : goal.returns-in-Err-play-clause-lines
returns-in-Err-play-clause-lines g c = λ told t. (stopped g (goal.at.returns-in-Err-play-clause-lines g c).In-Err-play).lines told t

pub returns-in-Err-play-clause-whole : goal.returns-in-Err-play-clause-whole
returns-in-Err-play-clause-whole g c = λ t. (stopped g (goal.at.returns-in-Err-play-clause-whole g c).In-Err-play).whole c.requires.fresh.names t

pub returns-in-Err-play-clause-ends : goal.returns-in-Err-play-clause-ends
returns-in-Err-play-clause-ends g c = λ told t. (stopped g (goal.at.returns-in-Err-play-clause-ends g c).In-Err-play).ends told t

pub returns-in-Err-play-clause-causes : goal.returns-in-Err-play-clause-causes
returns-in-Err-play-clause-causes g c =
    let a = goal.at.returns-in-Err-play-clause-causes g c in
    turns_cause c.in-Err-play.stop (run g a.Start) c.play.new.feeds.feeds.items (g.K.Sink.state c.play.new.out)
    (is-planned c.args.writing c.args.core c.requires.fresh c.args.steps.now c.args.feeds.now.feeds.items (g.K.Sink.state c.args.out.now) c.requires.feeds c.requires.none c.requires.fit)
    (stopped g a.In-Err-play).causes

-- ---- all steps were made

pub returns-in-Ok-play-clause-same : goal.returns-in-Ok-play-clause-same
returns-in-Ok-play-clause-same g c = all_same_then c.args.feeds.now.feeds.items c.play.new.feeds.feeds.items c.finish_turns.new.feeds.feeds.items c.in-Ok-play.ensures.same c.finish_turns.ensures.same

pub returns-in-Ok-play-clause-lines : goal.returns-in-Ok-play-clause-lines
returns-in-Ok-play-clause-lines g c =
    let a = goal.at.returns-in-Ok-play-clause-lines g c in
    let p = played g a.In-Ok-play in c.finish_turns.ensures.lines (run g a.Start) p.0 p.1 (brings g a.In-Ok-play)

pub returns-in-Ok-play-clause-ends : goal.returns-in-Ok-play-clause-ends
returns-in-Ok-play-clause-ends g c =
    let a = goal.at.returns-in-Ok-play-clause-ends g c in
    let p = played g a.In-Ok-play in c.finish_turns.ensures.ends (run g a.Start) p.0 p.1 (brings g a.In-Ok-play)

pub returns-in-Ok-play-clause-outcome : goal.returns-in-Ok-play-clause-outcome
returns-in-Ok-play-clause-outcome g c =
    let a = goal.at.returns-in-Ok-play-clause-outcome g c in
    let p = played g a.In-Ok-play in c.finish_turns.ensures.outcome (run g a.Start) p.0 p.1 (brings g a.In-Ok-play)

pub returns-in-Ok-play-clause-stands : goal.returns-in-Ok-play-clause-stands
returns-in-Ok-play-clause-stands g c =
    let a = goal.at.returns-in-Ok-play-clause-stands g c in
    let p = played g a.In-Ok-play in c.finish_turns.ensures.stands (run g a.Start) p.0 p.1 (brings g a.In-Ok-play)

pub returns-in-Ok-play-clause-within : goal.returns-in-Ok-play-clause-within
returns-in-Ok-play-clause-within g c =
    let a = goal.at.returns-in-Ok-play-clause-within g c in
    let p = played g a.In-Ok-play in c.finish_turns.ensures.within (run g a.Start) p.0 p.1 (brings g a.In-Ok-play)

pub returns-in-Ok-play-clause-enabled : goal.returns-in-Ok-play-clause-enabled
returns-in-Ok-play-clause-enabled g c = λ told. holds_on c.finish_turns.result.ended _ (enabled g (goal.at.returns-in-Ok-play-clause-enabled g c).In-Ok-play told)

pub returns-in-Ok-play-clause-causes : goal.returns-in-Ok-play-clause-causes
returns-in-Ok-play-clause-causes g c =
    let a = goal.at.returns-in-Ok-play-clause-causes g c in
    let p = played g a.In-Ok-play in
    why_ended c.finish_turns.result.ended (run g a.Start) c.finish_turns.new.feeds.feeds.items (g.K.Sink.state c.finish_turns.new.out)
    (is-planned c.args.writing c.args.core c.requires.fresh c.args.steps.now c.args.feeds.now.feeds.items (g.K.Sink.state c.args.out.now) c.requires.feeds c.requires.none c.requires.fit)
    (c.finish_turns.ensures.causes (run g a.Start) p.0 p.1 (brings g a.In-Ok-play))

pub returns-in-Ok-play-clause-has_taken : goal.returns-in-Ok-play-clause-has_taken
returns-in-Ok-play-clause-has_taken g c =
    let p = played g (goal.at.returns-in-Ok-play-clause-has_taken g c).In-Ok-play in
    c.finish_turns.ensures.has_taken c.args.writing.form (elements_out p.1.given, p.1.taken)

-- whole lines until the steps were made, and then others
pub returns-in-Ok-play-clause-whole : goal.returns-in-Ok-play-clause-whole
returns-in-Ok-play-clause-whole g c = λ t.
    let p = played g (goal.at.returns-in-Ok-play-clause-whole g c).In-Ok-play in
    let nodes = c.args.core.plan.nodes in
    let form = c.args.writing.form in
    let first = g.K.Sink.state c.args.out.now in
    let mid = g.K.Sink.state c.play.new.out in
    whole_then run_cut first mid (g.K.Sink.state c.finish_turns.new.out) c.finish_turns.result.ended
    (lines_wrote (shown form nodes p.1.given) first.written mid.written (shown_are_lines form nodes p.1.given c.requires.fresh.names) (p.1.written (c.finish_turns.ensures.told t)))
    (c.finish_turns.ensures.whole (subst (λ (plan : RunPlan). HasShortNames plan.nodes) (sym (c.play.ensures.plan ∙ ap (λ (k : CoreState). k.plan) c.new-hand.ensures.over)) c.requires.fresh.names) t)
