use Rattle.std.proofs.Common.{◌≡◌, ◌+◌, length, drop}
use Rattle.pj_cert.specs.Instances.{constants_of}
use Rattle.pj_cert.proofs.fresh.count_of.Given as goal

abbrev pub invariant-loop-instance : goal.invariant-loop-instance
invariant-loop-instance l = l.count + length (constants_of (drop l.instance-index l.listed)) ≡ length (constants_of l.listed)
