use Rattle.std.proofs.Common.{sym, ◌∙◌}
use Rattle.pj_intervals.proofs.PatternSteps.{serve_more, serve_none}
use Rattle.pj_intervals.proofs.index.FirstIndex.insert.Goals as goal

pub returns-then-len-eq0-clause-ok : goal.returns-then-len-eq0-clause-ok
returns-then-len-eq0-clause-ok c kept a =
    serve_none c.args.self.now.levels.items kept c.args.pattern.now c.args.place c.in_ok-steps.steps c.in_ok-steps.ensures.normal c.in_ok-steps.ensures.steps (sym c.len.ensures ∙ c.if-len-eq0.true) a

pub returns-clause-ok : goal.returns-clause-ok
returns-clause-ok c kept a =
    serve_more c.args.self.now.levels.items c.push.new.self.items c.settle.new.levels.items kept c.args.pattern.now c.args.place c.in_ok-steps.steps c.in_ok-steps.ensures.normal c.in_ok-steps.ensures.steps c.in_ok-push.ensures.items c.settle.ensures a
