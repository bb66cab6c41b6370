use Rattle.std.proofs.Common.{◌≡◌, ◌++◌, drop}
use Rattle.pj_cert.specs.Instances.{blank_instances_from, blank_instances_of}
use Rattle.pj_cert.proofs.blanks.instances_of.Given as goal

abbrev pub invariant-loop-input : goal.invariant-loop-input
invariant-loop-input l = l.listed ++ blank_instances_from l.reached l.input (drop l.input l.spec.inputs) (drop l.input l.schemes) ≡ blank_instances_of l.spec l.schemes l.reached
