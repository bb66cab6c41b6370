use Rattle.pj_core.proofs.Turning.{node-done, node-stops, so-far-more}
use Rattle.pj_core.proofs.running.Core.probe_node.Goals as goal

pub probing-preserved : goal.probing-preserved
probing-preserved c = (
  so-far-more c.args.self.now c.probing.self c.probe_at.new.self c.args.node c.requires.sound c.probing.invariant.0 (rw c.in-Ok-true.field-0-test at c.in-Ok-true.ensures.ok),
  λ q. (rw c.in-Ok-true.field-0-test at c.in-Ok-true.ensures.quiet) (c.probing.invariant.1 q),
)

pub returns-in-Ok-false-clause-ok : goal.returns-in-Ok-false-clause-ok
returns-in-Ok-false-clause-ok c =
    node-done c.args.self.now c.probing.self c.probe_at.new.self c.args.node c.probing.invariant.0 (rw c.in-Ok-false.field-0-test at c.in-Ok-false.ensures.ok)

pub returns-in-Err-clause-err : goal.returns-in-Err-clause-err
returns-in-Err-clause-err c =
    node-stops c.args.self.now c.probing.self c.probe_at.new.self c.args.node c.in-Err.stop c.probing.invariant.0 c.in-Err.ensures.err

pub returns-in-Ok-false-clause-quiet : goal.returns-in-Ok-false-clause-quiet
returns-in-Ok-false-clause-quiet c = λ q. (rw c.in-Ok-false.field-0-test at c.in-Ok-false.ensures.quiet) (c.probing.invariant.1 q)
