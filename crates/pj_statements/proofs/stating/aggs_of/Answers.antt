use Rattle.std.proofs.Common.{List, refl, arith}
use Rattle.pj_shape.specs.declared.columns.Column.{Column}
use Rattle.pj_shape.specs.declared.groups.Agg.{Agg}
use Rattle.pj_plan.specs.Canonical.{aggs_of}
use Rattle.pj_statements.proofs.Walked.{no_aggs, walked}
use Rattle.pj_statements.proofs.stating.aggs_of.Goals as goal

pub returns : goal.returns
returns c =
    walked (λ (news : List Column) (aggs : List Agg). aggs_of news c.args.columns.now aggs) (λ aggs. refl) (no_aggs c.args.columns.now) c.args.news.now c.args.aggs.now c.loop-at.at c.loop-at.named c.loop-at.invariant (omega arith)
