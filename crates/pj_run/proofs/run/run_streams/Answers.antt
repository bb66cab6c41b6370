use Rattle.std.proofs.Common.{[], ℕ, ap, cond, length, refl, subst}
use Rattle.pj_feed.proofs.AllFeeds.{all_same}
use Rattle.pj_feed.proofs.Answered.{err_is, if_err}
use Rattle.pj_report.specs.Written.{between}
use Rattle.pj_report.proofs.LinesWritten.{none_written}
use Rattle.pj_run.specs.declared.run.Gathered.{Gathered}
use Rattle.pj_run.specs.Checking.{HoldsNone}
use Rattle.pj_run.specs.Goes.{IsGoing, RunStart}
use Rattle.pj_feed.specs.Feeds.{files_of}
use Rattle.pj_run.specs.Runs.{history_of, job_in}
use Rattle.pj_run.proofs.Refused.{on_err, stands_on}
use Rattle.pj_run.proofs.Running.{begins, begins-lists, is-planned, turns_cause}
use Rattle.pj_run.proofs.WholeLaws.{none_wrote}
use Rattle.pj_run.proofs.run.run_streams.Given.{Over}
use Rattle.pj_run.proofs.run.run_streams.Goals.{In_ok-accepted, Start}
use Rattle.pj_run.proofs.run.run_streams.Goals as goal

-- what is run
abbrev run : (g : Over) → Start g → RunStart
run g c = record { job = job_in c.args.writing c.args.core.now; feeds = c.args.feeds.now.feeds.items; sink = g.K.Sink.state c.args.out.now }

abbrev none-gathered : (g : Over) → In_ok-accepted g → Gathered
none-gathered g c = record { results = c.new-results.result; accepted = c.in_ok-accepted.accepted }

lists : (g : Over) (c : In_ok-accepted g) → HoldsNone (cond c.args.writing.check (length c.args.feeds.now.feeds.items) 0) c.in_ok-accepted.accepted.lists.items
lists g c = subst (λ (n : ℕ). HoldsNone (cond c.args.writing.check n 0) c.in_ok-accepted.accepted.lists.items) (ap length c.as_slice.ensures.value) c.in_ok-accepted.ensures.none

-- none of its turns is made
begun : (g : Over) (c : In_ok-accepted g) → IsGoing (record { job = job_in c.args.writing c.args.core.now; feeds = c.args.feeds.now.feeds.items; sink = g.K.Sink.state c.args.out.now }) [] c.args.core.now c.args.feeds.now.feeds.items c.args.feeds.now.at (none-gathered g c) (g.K.Sink.state c.args.out.now)
begun g c =
    begins c.args.writing c.args.core.now c.requires.fresh c.args.feeds.now.feeds.items c.args.feeds.now.at (g.K.Sink.state c.args.out.now) c.requires.feeds c.requires.none c.requires.first (none-gathered g c)
    c.new-results.ensures c.in_ok-accepted.ensures.asked (lists g c)

-- ---- no room for the lists of rows

pub returns-in_err-accepted-clause-same : goal.returns-in_err-accepted-clause-same
returns-in_err-accepted-clause-same g c = all_same c.args.feeds.now.feeds.items

pub returns-in_err-accepted-clause-lines : goal.returns-in_err-accepted-clause-lines
returns-in_err-accepted-clause-lines g c = λ told t. rw (err_is c.from_residual.result _ c.from_residual.ensures.1) (none_written between _ _)

pub returns-in_err-accepted-clause-ends : goal.returns-in_err-accepted-clause-ends
returns-in_err-accepted-clause-ends g c = λ told t. if_err _ c.from_residual.result _ c.from_residual.ensures.1 tt

pub returns-in_err-accepted-clause-causes : goal.returns-in_err-accepted-clause-causes
returns-in_err-accepted-clause-causes g c = if_err _ c.from_residual.result _ c.from_residual.ensures.1 tt

pub returns-in_err-accepted-clause-whole : goal.returns-in_err-accepted-clause-whole
returns-in_err-accepted-clause-whole g c = λ t. rw (err_is c.from_residual.result _ c.from_residual.ensures.1) (none_wrote _)

-- ---- its turns

pub go_on-requires-clause-lists : goal.go_on-requires-clause-lists
go_on-requires-clause-lists g c =
    let a = (goal.at.go_on-requires-clause-lists g c).In_ok-accepted in
    begins-lists c.args.writing c.args.core.now c.requires.fresh c.args.feeds.now.feeds.items c.args.feeds.now.at (g.K.Sink.state c.args.out.now) c.requires.feeds c.requires.none c.requires.first (none-gathered g a)
    c.new-results.ensures c.in_ok-accepted.ensures.asked (lists g a)

pub returns-in_err-go_on-clause-lines : goal.returns-in_err-go_on-clause-lines
returns-in_err-go_on-clause-lines g c =
    let a = goal.at.returns-in_err-go_on-clause-lines g c in
    λ told t. rw (err_is c.from_residual-in_err-go_on.result _ c.from_residual-in_err-go_on.ensures.1) (c.in_err-go_on.ensures.lines (run g a.Start) [] (begun g a.In_ok-accepted) told t)

pub returns-in_err-go_on-clause-ends : goal.returns-in_err-go_on-clause-ends
returns-in_err-go_on-clause-ends g c =
    let a = goal.at.returns-in_err-go_on-clause-ends g c in
    λ told t. if_err _ c.from_residual-in_err-go_on.result _ c.from_residual-in_err-go_on.ensures.1 (c.in_err-go_on.ensures.ends (run g a.Start) [] (begun g a.In_ok-accepted) told t)

pub returns-in_err-go_on-clause-causes : goal.returns-in_err-go_on-clause-causes
returns-in_err-go_on-clause-causes g c =
    let a = goal.at.returns-in_err-go_on-clause-causes g c in
    if_err _ c.from_residual-in_err-go_on.result _ c.from_residual-in_err-go_on.ensures.1
    (turns_cause c.in_err-go_on.field-0.0 (run g a.Start) c.go_on.new.feeds.feeds.items (g.K.Sink.state c.go_on.new.out)
    (is-planned c.args.writing c.args.core.now c.requires.fresh c.args.feeds.now.feeds.items c.args.feeds.now.at (g.K.Sink.state c.args.out.now) c.requires.feeds c.requires.none c.requires.first)
    (c.in_err-go_on.ensures.causes (run g a.Start) [] (begun g a.In_ok-accepted)))

pub returns-in_err-go_on-clause-whole : goal.returns-in_err-go_on-clause-whole
returns-in_err-go_on-clause-whole g c = λ t. rw (err_is c.from_residual-in_err-go_on.result _ c.from_residual-in_err-go_on.ensures.1) (c.in_err-go_on.ensures.whole c.requires.fresh.names t)

pub returns-clause-lines : goal.returns-clause-lines
returns-clause-lines g c =
    let a = goal.at.returns-clause-lines g c in
    c.in_ok-go_on.ensures.lines (run g a.Start) [] (begun g a.In_ok-accepted)

pub returns-clause-outcome : goal.returns-clause-outcome
returns-clause-outcome g c = λ told.
    let a = goal.at.returns-clause-outcome g c in
    (c.in_ok-go_on.ensures.outcome (run g a.Start) [] (begun g a.In_ok-accepted)).gathers told

pub returns-clause-stands : goal.returns-clause-stands
returns-clause-stands g c = λ told.
    let a = goal.at.returns-clause-stands g c in
    (c.in_ok-go_on.ensures.outcome (run g a.Start) [] (begun g a.In_ok-accepted)).stands told

pub returns-clause-within : goal.returns-clause-within
returns-clause-within g c = λ told.
    let a = goal.at.returns-clause-within g c in
    (c.in_ok-go_on.ensures.outcome (run g a.Start) [] (begun g a.In_ok-accepted)).within told

pub returns-clause-whole : goal.returns-clause-whole
returns-clause-whole g c = λ t. c.in_ok-go_on.ensures.whole c.requires.fresh.names t

pub returns-clause-has_taken : goal.returns-clause-has_taken
returns-clause-has_taken g c = c.in_ok-go_on.ensures.has_taken c.args.writing.form ([], c.new-results.ensures)

-- ---- what a refusal leaves of the core

pub returns-in_err-accepted-clause-left : goal.returns-in_err-accepted-clause-left
returns-in_err-accepted-clause-left g c = λ told.
    let fresh = c.requires.fresh.fresh in
    on_err c.from_residual.result _ (record {
      front = [];
      others = history_of (job_in c.args.writing c.args.core.now) (files_of c.args.feeds.now.feeds.items);
      all = refl;
      so = stands_on c.args.core.now [] fresh.on fresh.stands;
    })

pub returns-in_err-go_on-clause-left : goal.returns-in_err-go_on-clause-left
returns-in_err-go_on-clause-left g c = λ told.
    let a = goal.at.returns-in_err-go_on-clause-left g c in
    let f = (c.in_err-go_on.ensures.left (run g a.Start) [] (begun g a.In_ok-accepted) told).0 in
    on_err c.from_residual-in_err-go_on.result _ (record { front = f.front; others = f.others; all = f.all; so = f.so.0 })
