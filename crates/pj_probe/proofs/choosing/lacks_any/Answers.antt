use Rattle.std.proofs.Common.{None, get_or}
use Rattle.std.proofs.lemmas.Option.{slice_get-get_or}
use Rattle.pj_probe.specs.declared.route.ProbeStep.{ProbeStep}
use Rattle.pj_probe.proofs.Lacking.{step_indexed}
use Rattle.pj_probe.proofs.Routed.{step_there}
use Rattle.pj_probe.proofs.choosing.lacks_any.Goals as goal

abbrev none : ProbeStep
none = record { input = 0; link = None }

pub lacks_partner-requires-clause-there : goal.lacks_partner-requires-clause-there
lacks_partner-requires-clause-there c =
    step_there c.args.own.now.input c.args.sides.now c.args.steps.now c.loop-at.at (get_or c.args.steps.now c.loop-at.at none) c.requires.route (slice_get-get_or c.args.steps.now c.loop-at.at none c.loop-at-test.true)

pub lacks_partner-requires-clause-indexed : goal.lacks_partner-requires-clause-indexed
lacks_partner-requires-clause-indexed c =
    step_indexed c.args.own.now.input c.args.sides.now c.args.steps.now c.loop-at.at (get_or c.args.steps.now c.loop-at.at none) c.requires.route (slice_get-get_or c.args.steps.now c.loop-at.at none c.loop-at-test.true)
