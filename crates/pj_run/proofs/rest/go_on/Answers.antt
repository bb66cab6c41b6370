use Rattle.std.proofs.Common.{◌∙◌, ◌≡◌, ◌++◌, ◌∷◌, List, [], Err, Some, ap, arith, length, refl, subst, sym}
use Rattle.pj_core.specs.Calls.{turn_behind}
use Rattle.pj_core.specs.Plans.{RunPlan}
use Rattle.pj_events.specs.Outcomes.{elements_out}
use Rattle.pj_feed.specs.Feeds.{AllTold, AreAllTaken, AreFeeds, BringsIn, feeds_left, turn_in}
use Rattle.pj_feed.proofs.AllFeeds.{all_same, all_same_then, all_taken}
use Rattle.pj_feed.proofs.Answered.{err_is, if_err}
use Rattle.pj_plan.specs.declared.node.PlanNode.{PlanNode}
use Rattle.pj_plan.specs.Nodes.{streams_in}
use Rattle.pj_report.specs.Written.{Cut, between}
use Rattle.pj_run.specs.Cuts.{run_cut, turn_cut}
use Rattle.pj_run.specs.PlanNames.{HasShortNames}
use Rattle.pj_run.specs.Stops.{of_feed}
use Rattle.pj_run.specs.Whole.{LeavesWhole}
use Rattle.pj_run.proofs.Carried.{turn_cut_same}
use Rattle.pj_run.proofs.Ending.{brings_none, brings_some, given_none, given_some, same_none}
use Rattle.pj_run.proofs.Refused.{on_err}
use Rattle.pj_run.proofs.Running.{turn_of_feeds}
use Rattle.pj_run.proofs.WholeLaws.{leaves_then, leaves_wrote, none_wrote, wrote_same, wrote_then}
use Rattle.pj_run.specs.Goes.{HasLists, StopCause, StopLeaves, WhereGoing}
use Rattle.pj_run.specs.Refused.{RunLeaves}
use Rattle.pj_run.proofs.GoingTurns.{end_gathers, end_lines, feed_causes, feed_ends, few_of, going_lines, going_more, kept_more, refused_before, refused_row, refused_turn, there_for, turn_causes, turn_cut_lines, turn_ends}
use Rattle.pj_run.proofs.rest.go_on.Given.{Over}
use Rattle.pj_run.proofs.rest.go_on.Goals.{In-Some, In_default}
use Rattle.pj_run.proofs.rest.go_on.Goals as goal

pub turns-init : goal.turns-init
turns-init g c = record {
  plan = refl;
  on = c.requires.on;
  drained = c.requires.drained;
  fed = c.requires.feeds;
  lists = c.requires.lists;
  same = all_same c.args.feeds.now.feeds.items;
  told = λ t. t;
  later = omega arith;
  whole = λ names t. none_wrote _;
  taken = λ form had. had;
  goes = λ run history going. (history, going);
}

pub next_turn-requires-clause-few : goal.next_turn-requires-clause-few
next_turn-requires-clause-few g c = few_of c.args.core.now.plan.nodes c.turns.feeds.feeds.items c.requires.sound c.turns.invariant.fed

-- ---- a stream's turn that could not be made

pub returns-in_err-next-clause-same : goal.returns-in_err-next-clause-same
returns-in_err-next-clause-same g c = all_same_then c.args.feeds.now.feeds.items c.turns.feeds.feeds.items c.next_turn.new.feeds.feeds.items c.turns.invariant.same c.in_err-next.ensures.same

pub returns-in_err-next-clause-lines : goal.returns-in_err-next-clause-lines
returns-in_err-next-clause-lines g c = λ run history going told t.
    let now = c.turns.invariant.goes run history going in
    rw (err_is c.from_residual.result _ c.from_residual.ensures.1)
    (going_lines run now.0 c.turns.core c.turns.feeds.feeds.items c.turns.feeds.feeds.items c.turns.feeds.at c.turns.gathered (g.K.Sink.state c.turns.out) (g.K.Sink.state c.next_turn.new.out) now.1 (run_cut (of_feed c.in_err-next.field-0.0)) c.in_err-next.ensures.written told t)

pub returns-in_err-next-clause-ends : goal.returns-in_err-next-clause-ends
returns-in_err-next-clause-ends g c = λ run history going told t.
    let now = c.turns.invariant.goes run history going in
    if_err (λ stop. StopLeaves stop run c.next_turn.new.feeds.feeds.items (g.K.Sink.state c.next_turn.new.out).written) c.from_residual.result _ c.from_residual.ensures.1
    (feed_ends run now.0 c.turns.core c.turns.feeds.feeds.items c.next_turn.new.feeds.feeds.items c.turns.feeds.at c.turns.gathered (g.K.Sink.state c.turns.out) (g.K.Sink.state c.next_turn.new.out) now.1 c.in_err-next.field-0.0
    c.in_err-next.ensures.written (subst (λ (p : RunPlan). AreFeeds 0 (streams_in p.nodes) c.turns.feeds.feeds.items) (sym c.turns.invariant.plan) c.turns.invariant.fed) c.in_err-next.ensures.same c.in_err-next.ensures.stops told t)

pub returns-in_err-next-clause-causes : goal.returns-in_err-next-clause-causes
returns-in_err-next-clause-causes g c = λ run history going.
    let now = c.turns.invariant.goes run history going in
    if_err (λ stop. StopCause stop run c.next_turn.new.feeds.feeds.items (g.K.Sink.state c.next_turn.new.out)) c.from_residual.result _ c.from_residual.ensures.1
    (feed_causes run now.0 c.turns.core c.turns.feeds.feeds.items c.next_turn.new.feeds.feeds.items c.turns.feeds.at c.turns.gathered (g.K.Sink.state c.turns.out) (g.K.Sink.state c.next_turn.new.out) now.1 c.in_err-next.field-0.0 c.in_err-next.ensures.stops)

-- ---- the row that a turn brings

-- what the feeds gave, in the words of the core that takes it
fed : (g : Over) (c : In-Some g) → AreFeeds 0 (streams_in c.turns.core.plan.nodes) c.turns.feeds.feeds.items
fed g c = subst (λ (p : RunPlan). AreFeeds 0 (streams_in p.nodes) c.turns.feeds.feeds.items) (sym c.turns.invariant.plan) c.turns.invariant.fed

brings : (g : Over) (c : In-Some g) → BringsIn c.turns.feeds.feeds.items (Some c.in-Some.next)
brings g c = brings_some c.turns.feeds.feeds.items c.in_ok-next.field-0 c.in-Some.next c.in-Some.is c.in_ok-next.ensures.brings

lists : (g : Over) (c : In-Some g) → HasLists (length (streams_in c.turns.core.plan.nodes)) c.turns.gathered.accepted
lists g c = subst (λ (p : RunPlan). HasLists (length (streams_in p.nodes)) c.turns.gathered.accepted) (sym c.turns.invariant.plan) c.turns.invariant.lists

gives : (g : Over) (c : In-Some g) → AllTold c.turns.feeds.feeds.items → (streams : List PlanNode) → AreFeeds 0 streams c.turns.feeds.feeds.items
    → feeds_left streams c.turns.feeds.feeds.items c.turns.feeds.at ≡ turn_in streams c.in-Some.next ∷ feeds_left streams c.next_turn.new.feeds.feeds.items c.next_turn.new.feeds.at
gives g c told streams f = given_some streams c.in_ok-next.field-0 c.in-Some.next _ _ c.in-Some.is (c.in_ok-next.ensures.gives told streams f)

pub keep-requires : goal.keep-requires
keep-requires g c =
    let a = (goal.at.keep-requires g c).In-Some in
    record { there = there_for c.turns.core c.turns.feeds.feeds.items c.in-Some.next c.turns.gathered.accepted (fed g a) (brings g a) (lists g a) }

pub returns-in_err-keep-clause-same : goal.returns-in_err-keep-clause-same
returns-in_err-keep-clause-same g c = all_same_then c.args.feeds.now.feeds.items c.turns.feeds.feeds.items c.next_turn.new.feeds.feeds.items c.turns.invariant.same c.in_ok-next.ensures.same

pub returns-in_err-keep-clause-lines : goal.returns-in_err-keep-clause-lines
returns-in_err-keep-clause-lines g c = λ run history going told t.
    let now = c.turns.invariant.goes run history going in
    rw (err_is c.from_residual-in_err-keep.result _ c.from_residual-in_err-keep.ensures.1)
    (going_lines run now.0 c.turns.core c.turns.feeds.feeds.items c.turns.feeds.feeds.items c.turns.feeds.at c.turns.gathered (g.K.Sink.state c.turns.out) (g.K.Sink.state c.next_turn.new.out) now.1 between c.in_ok-next.ensures.written told t)

pub returns-in_err-keep-clause-ends : goal.returns-in_err-keep-clause-ends
returns-in_err-keep-clause-ends g c = λ run history going told t. if_err _ c.from_residual-in_err-keep.result _ c.from_residual-in_err-keep.ensures.1 tt

-- ---- a turn

pub take_turn-requires-clause-of : goal.take_turn-requires-clause-of
take_turn-requires-clause-of g c =
    let a = (goal.at.take_turn-requires-clause-of g c).In-Some in
    turn_of_feeds (streams_in c.turns.core.plan.nodes) c.turns.feeds.feeds.items c.in-Some.next (fed g a) (brings g a)

pub turns-preserved : goal.turns-preserved
turns-preserved g c =
    let a = (goal.at.turns-preserved g c).In-Some in
    let e = c.in_ok-take_turn.ensures in record {
      plan = e.plan ∙ c.turns.invariant.plan;
      on = e.done.makes.on.1;
      drained = e.done.makes.undrained;
      fed = c.in_ok-next.ensures.fed (streams_in c.args.core.now.plan.nodes) c.turns.invariant.fed;
      lists = λ asked. c.in_ok-keep.ensures.many ∙ c.turns.invariant.lists (sym c.in_ok-keep.ensures.asked ∙ asked);
      same = all_same_then c.args.feeds.now.feeds.items c.turns.feeds.feeds.items c.next_turn.new.feeds.feeds.items c.turns.invariant.same c.in_ok-next.ensures.same;
      told = λ t. c.turns.invariant.told (c.in_ok-next.ensures.written.told (e.told t));
      later = omega (arith, c.turns.invariant.later, c.in_ok-next.ensures.written.later, e.later);
      whole = λ names t'.
          let told = e.told t' in
          wrote_then (g.K.Sink.state c.args.out.now).written (g.K.Sink.state c.next_turn.new.out).written (g.K.Sink.state c.take_turn.new.out).written
          (wrote_same _ _ _ (c.in_ok-next.ensures.written.same told) (c.turns.invariant.whole names (c.in_ok-next.ensures.written.told told)))
          (e.whole (subst (λ (p : RunPlan). HasShortNames p.nodes) (sym c.turns.invariant.plan) names) t');
      taken = λ form had. let t = c.turns.invariant.taken form had in (t.0 ++ elements_out e.done.outs, e.done.taken form t.0 t.1);
      goes = λ run history going.
          let now = c.turns.invariant.goes run history going in (
            now.0 ++ turn_behind c.turns.core now.0 (turn_in (streams_in c.turns.core.plan.nodes) c.in-Some.next),
            going_more run now.0 c.turns.core c.turns.feeds.feeds.items c.next_turn.new.feeds.feeds.items c.turns.feeds.at c.next_turn.new.feeds.at c.turns.gathered (g.K.Sink.state c.turns.out) (g.K.Sink.state c.next_turn.new.out) c.in-Some.next now.1 (fed g a) c.in_ok-next.ensures.written (gives g a)
                c.take_turn.new.core c.take_turn.new.results c.keep.new.self (g.K.Sink.state c.take_turn.new.out) c.in_ok-next.ensures.same c.turns.invariant.drained e.done e.form c.in_ok-keep.ensures.asked
                (kept_more run now.0 c.turns.core c.turns.feeds.feeds.items c.next_turn.new.feeds.feeds.items c.turns.feeds.at c.next_turn.new.feeds.at c.turns.gathered (g.K.Sink.state c.turns.out) (g.K.Sink.state c.next_turn.new.out) c.in-Some.next now.1 (fed g a) c.in_ok-next.ensures.written (gives g a)
                c.keep.new.self (lists g a) (brings g a) c.in_ok-keep.ensures.asked c.in_ok-keep.ensures.many c.in_ok-keep.ensures.kept)
                e.told e.later e.lines,
          );
    }

pub returns-in_err-take_turn-clause-same : goal.returns-in_err-take_turn-clause-same
returns-in_err-take_turn-clause-same g c = all_same_then c.args.feeds.now.feeds.items c.turns.feeds.feeds.items c.next_turn.new.feeds.feeds.items c.turns.invariant.same c.in_ok-next.ensures.same

pub returns-in_err-take_turn-clause-lines : goal.returns-in_err-take_turn-clause-lines
returns-in_err-take_turn-clause-lines g c = λ run history going told t.
    let a = (goal.at.returns-in_err-take_turn-clause-lines g c).In-Some in
    let now = c.turns.invariant.goes run history going in
    rw (err_is c.from_residual-in_err-take_turn.result _ c.from_residual-in_err-take_turn.ensures.1)
    (turn_cut_lines run now.0 c.turns.core c.turns.feeds.feeds.items c.next_turn.new.feeds.feeds.items c.turns.feeds.at c.next_turn.new.feeds.at c.turns.gathered (g.K.Sink.state c.turns.out) (g.K.Sink.state c.next_turn.new.out) c.in-Some.next now.1 (fed g a) c.in_ok-next.ensures.written (gives g a)
    c.in_err-take_turn.field-0.0 (g.K.Sink.state c.take_turn.new.out) c.in_err-take_turn.ensures.told c.in_err-take_turn.ensures.lines told t)

pub returns-in_err-take_turn-clause-ends : goal.returns-in_err-take_turn-clause-ends
returns-in_err-take_turn-clause-ends g c = λ run history going told t.
    let a = (goal.at.returns-in_err-take_turn-clause-ends g c).In-Some in
    let now = c.turns.invariant.goes run history going in
    if_err (λ stop. StopLeaves stop run c.next_turn.new.feeds.feeds.items (g.K.Sink.state c.take_turn.new.out).written) c.from_residual-in_err-take_turn.result _ c.from_residual-in_err-take_turn.ensures.1
    (turn_ends run now.0 c.turns.core c.turns.feeds.feeds.items c.next_turn.new.feeds.feeds.items c.turns.feeds.at c.next_turn.new.feeds.at c.turns.gathered (g.K.Sink.state c.turns.out) (g.K.Sink.state c.next_turn.new.out) c.in-Some.next now.1 (fed g a) c.in_ok-next.ensures.written (gives g a)
    c.in_err-take_turn.field-0.0 (g.K.Sink.state c.take_turn.new.out) c.in_err-take_turn.ensures.told c.in_err-take_turn.ensures.stops told t)

pub returns-in_err-take_turn-clause-causes : goal.returns-in_err-take_turn-clause-causes
returns-in_err-take_turn-clause-causes g c = λ run history going.
    let a = (goal.at.returns-in_err-take_turn-clause-causes g c).In-Some in
    let now = c.turns.invariant.goes run history going in
    if_err (λ stop. StopCause stop run c.next_turn.new.feeds.feeds.items (g.K.Sink.state c.take_turn.new.out)) c.from_residual-in_err-take_turn.result _ c.from_residual-in_err-take_turn.ensures.1
    (turn_causes run now.0 c.turns.core c.turns.feeds.feeds.items c.next_turn.new.feeds.feeds.items c.turns.feeds.at c.next_turn.new.feeds.at c.turns.gathered (g.K.Sink.state c.turns.out) (g.K.Sink.state c.next_turn.new.out) c.in-Some.next now.1 (fed g a) c.in_ok-next.ensures.written (gives g a)
    c.in_err-take_turn.field-0.0 (g.K.Sink.state c.take_turn.new.out) (λ is. c.in_err-take_turn.ensures.fault (ap Err is)) (λ why is. c.in_err-take_turn.ensures.cut why (ap Err is)) c.in_err-take_turn.ensures.stops)

-- ---- no stream has a turn

-- nothing is left
nothing : (g : Over) (c : In_default g) → AllTold c.turns.feeds.feeds.items → (streams : List PlanNode) → AreFeeds 0 streams c.turns.feeds.feeds.items → feeds_left streams c.turns.feeds.feeds.items c.turns.feeds.at ≡ []
nothing g c told streams f = given_none streams c.in_ok-next.field-0 _ _ c.in_default.is (c.in_ok-next.ensures.gives told streams f)

fed-still : (g : Over) (c : In_default g) → AreFeeds 0 (streams_in c.turns.core.plan.nodes) c.turns.feeds.feeds.items
fed-still g c = subst (λ (p : RunPlan). AreFeeds 0 (streams_in p.nodes) c.turns.feeds.feeds.items) (sym c.turns.invariant.plan) c.turns.invariant.fed

pub returns-clause-same : goal.returns-clause-same
returns-clause-same g c = all_same_then c.args.feeds.now.feeds.items c.turns.feeds.feeds.items c.next_turn.new.feeds.feeds.items c.turns.invariant.same c.in_ok-next.ensures.same

pub returns-clause-lines : goal.returns-clause-lines
returns-clause-lines g c = λ run history going.
    let now = c.turns.invariant.goes run history going in
    end_lines run now.0 c.turns.core c.turns.feeds.feeds.items c.next_turn.new.feeds.feeds.items c.turns.feeds.at c.turns.gathered (g.K.Sink.state c.turns.out) (g.K.Sink.state c.next_turn.new.out) now.1 (fed-still g c) (nothing g c) c.in_ok-next.ensures.written

pub returns-clause-outcome : goal.returns-clause-outcome
returns-clause-outcome g c = λ run history going.
    let now = c.turns.invariant.goes run history going in
    end_gathers run now.0 c.turns.core c.turns.feeds.feeds.items c.next_turn.new.feeds.feeds.items c.turns.feeds.at c.turns.gathered (g.K.Sink.state c.turns.out) (g.K.Sink.state c.next_turn.new.out) now.1 (fed-still g c) (nothing g c)
    (subst (λ (p : RunPlan). HasLists (length (streams_in p.nodes)) c.turns.gathered.accepted) (sym c.turns.invariant.plan) c.turns.invariant.lists)
    (brings_none c.turns.feeds.feeds.items c.in_ok-next.field-0 c.in_default.is c.in_ok-next.ensures.brings)
    (same_none c.turns.feeds.feeds.items c.next_turn.new.feeds.feeds.items c.in_ok-next.field-0 c.in_default.is c.in_ok-next.ensures.nothing)

pub returns-clause-taken : goal.returns-clause-taken
returns-clause-taken g c =
    let closed = brings_none c.turns.feeds.feeds.items c.in_ok-next.field-0 c.in_default.is c.in_ok-next.ensures.brings in
    let same = same_none c.turns.feeds.feeds.items c.next_turn.new.feeds.feeds.items c.in_ok-next.field-0 c.in_default.is c.in_ok-next.ensures.nothing in
    subst AreAllTaken (sym same) (all_taken 0 (streams_in c.args.core.now.plan.nodes) c.turns.feeds.feeds.items c.turns.invariant.fed closed)

-- ---- whole lines, and what the writer has taken

pub returns-in_err-next-clause-whole : goal.returns-in_err-next-clause-whole
returns-in_err-next-clause-whole g c = λ names t.
    rw (err_is c.from_residual.result _ c.from_residual.ensures.1)
    (leaves_wrote (run_cut (of_feed c.in_err-next.field-0.0)) _ _ (wrote_same _ _ _ (c.in_err-next.ensures.written.same t) (c.turns.invariant.whole names (c.in_err-next.ensures.written.told t))))

pub returns-in_err-keep-clause-whole : goal.returns-in_err-keep-clause-whole
returns-in_err-keep-clause-whole g c = λ names t.
    rw (err_is c.from_residual-in_err-keep.result _ c.from_residual-in_err-keep.ensures.1)
    (wrote_same _ _ _ (c.in_ok-next.ensures.written.same t) (c.turns.invariant.whole names (c.in_ok-next.ensures.written.told t)))

pub returns-in_err-take_turn-clause-whole : goal.returns-in_err-take_turn-clause-whole
returns-in_err-take_turn-clause-whole g c = λ names t.
    let stop = c.in_err-take_turn.field-0.0 in
    let first = (g.K.Sink.state c.args.out.now).written in
    let mid = (g.K.Sink.state c.next_turn.new.out).written in
    let after = (g.K.Sink.state c.take_turn.new.out).written in
    let told = c.in_err-take_turn.ensures.told t in
    rw (err_is c.from_residual-in_err-take_turn.result _ c.from_residual-in_err-take_turn.ensures.1)
    (subst (λ (cut : Cut). LeavesWhole cut first after) (sym (turn_cut_same stop))
    (leaves_then (turn_cut stop) first mid after (wrote_same _ _ _ (c.in_ok-next.ensures.written.same told) (c.turns.invariant.whole names (c.in_ok-next.ensures.written.told told)))
    (c.in_err-take_turn.ensures.whole (subst (λ (p : RunPlan). HasShortNames p.nodes) (sym c.turns.invariant.plan) names) t)))

pub returns-clause-whole : goal.returns-clause-whole
returns-clause-whole g c = λ names t. wrote_same _ _ _ (c.in_ok-next.ensures.written.same t) (c.turns.invariant.whole names (c.in_ok-next.ensures.written.told t))

pub returns-clause-has_taken : goal.returns-clause-has_taken
returns-clause-has_taken g c = λ form had. c.turns.invariant.taken form had

-- ---- what a refusal leaves

pub returns-in_err-next-clause-left : goal.returns-in_err-next-clause-left
returns-in_err-next-clause-left g c =
    on_err c.from_residual.result (WhereGoing c.args.core.now c.args.feeds.now.feeds.items c.args.feeds.now.at c.args.gathered.now (g.K.Sink.state c.args.out.now) (λ run. RunLeaves run c.turns.core c.turns.gathered))
    (λ run history going.
    let now = c.turns.invariant.goes run history going in
    refused_before run now.0 c.turns.core c.turns.feeds.feeds.items c.turns.feeds.at c.turns.gathered (g.K.Sink.state c.turns.out) now.1 c.turns.invariant.on)

pub returns-in_err-keep-clause-left : goal.returns-in_err-keep-clause-left
returns-in_err-keep-clause-left g c =
    on_err c.from_residual-in_err-keep.result (WhereGoing c.args.core.now c.args.feeds.now.feeds.items c.args.feeds.now.at c.args.gathered.now (g.K.Sink.state c.args.out.now) (λ run. RunLeaves run c.turns.core (record { results = c.turns.gathered.results; accepted = c.keep.new.self })))
    (λ run history going.
    let now = c.turns.invariant.goes run history going in
    refused_row run now.0 c.turns.core c.turns.feeds.feeds.items c.turns.feeds.at c.turns.gathered (g.K.Sink.state c.turns.out) now.1 c.turns.invariant.on c.keep.new.self c.in_err-keep.ensures.asked c.in_err-keep.ensures.refused)

pub returns-in_err-take_turn-clause-left : goal.returns-in_err-take_turn-clause-left
returns-in_err-take_turn-clause-left g c =
    let a = (goal.at.returns-in_err-take_turn-clause-left g c).In-Some in
    on_err c.from_residual-in_err-take_turn.result (WhereGoing c.args.core.now c.args.feeds.now.feeds.items c.args.feeds.now.at c.args.gathered.now (g.K.Sink.state c.args.out.now) (λ run. RunLeaves run c.take_turn.new.core (record { results = c.take_turn.new.results; accepted = c.keep.new.self })))
    (λ run history going.
    let now = c.turns.invariant.goes run history going in
    refused_turn run now.0 c.turns.core c.turns.feeds.feeds.items c.next_turn.new.feeds.feeds.items c.turns.feeds.at c.next_turn.new.feeds.at c.turns.gathered (g.K.Sink.state c.turns.out) (g.K.Sink.state c.next_turn.new.out) c.in-Some.next now.1 (fed g a) c.in_ok-next.ensures.written (gives g a)
    c.take_turn.new.core c.take_turn.new.results c.keep.new.self c.in_err-take_turn.ensures.left
    (kept_more run now.0 c.turns.core c.turns.feeds.feeds.items c.next_turn.new.feeds.feeds.items c.turns.feeds.at c.next_turn.new.feeds.at c.turns.gathered (g.K.Sink.state c.turns.out) (g.K.Sink.state c.next_turn.new.out) c.in-Some.next now.1 (fed g a) c.in_ok-next.ensures.written (gives g a)
    c.keep.new.self (lists g a) (brings g a) c.in_ok-keep.ensures.asked c.in_ok-keep.ensures.many c.in_ok-keep.ensures.kept))
