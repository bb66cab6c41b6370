use Rattle.std.proofs.Common.{arith}
use Rattle.std.proofs.lemmas.Grind.{common_steps}
use Rattle.pj_script.proofs.StepsFit.{steps_fit}
use Rattle.pj_script.proofs.reader.read_script.Goals as goal

pub returns-clause-fits : goal.returns-clause-fits
returns-clause-fits c =
    steps_fit c.args.plan.now.nodes c.args.bytes.now c.loop-rest.rest.now c.loop-rest.steps c.loop-rest.line c.loop-rest.invariant (grind (arith, common_steps))
