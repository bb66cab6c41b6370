use Rattle.std.proofs.Common.{ℕ, List, refl, arith}
use Rattle.pj_shape.specs.declared.columns.Column.{Column}
use Rattle.pj_plan.specs.Canonical.{renamed_of}
use Rattle.pj_statements.proofs.Walked.{no_renamed, walked}
use Rattle.pj_statements.proofs.stating.renamed_of.Goals as goal

pub returns : goal.returns
returns c =
    walked (λ (news : List Column) (numbers : List ℕ). renamed_of news c.args.columns.now numbers) (λ numbers. refl) (no_renamed c.args.columns.now) c.args.news.now c.args.numbers.now c.loop-at.at c.loop-at.words c.loop-at.invariant (omega arith)
