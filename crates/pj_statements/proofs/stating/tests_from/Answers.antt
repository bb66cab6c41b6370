use Rattle.std.proofs.Common.{List, refl, arith}
use Rattle.pj_shape.specs.declared.columns.Column.{Column}
use Rattle.pj_pattern.specs.declared.pattern.Form.{Form}
use Rattle.pj_plan.specs.Canonical.{tests_from}
use Rattle.pj_statements.proofs.Walked.{no_tests, tests_turn, walked}
use Rattle.pj_statements.proofs.stating.tests_from.Goals as goal

pub loop-at-preserved : goal.loop-at-preserved
loop-at-preserved c =
    tests_turn c.args.columns.now c.args.patterns.now c.loop-at.at c.index-columns-at.result c.index-patterns-at.result c.loop-at.tests c.append_test.new.out c.loop-at.invariant (omega arith) (omega arith) c.index-columns-at.is c.index-patterns-at.is c.in_ok-append_test.ensures

pub returns : goal.returns
returns c =
    walked (λ (columns : List Column) (patterns : List Form). tests_from columns patterns) (λ patterns. refl) no_tests c.args.columns.now c.args.patterns.now c.loop-at.at c.loop-at.tests c.loop-at.invariant (omega arith)
