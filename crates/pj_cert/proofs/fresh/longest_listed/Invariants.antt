use Rattle.std.proofs.Common.{◌≡◌, max, drop}
use Rattle.pj_cert.specs.Fresh.{longest}
use Rattle.pj_cert.specs.Instances.{constants_of}
use Rattle.pj_cert.proofs.fresh.longest_listed.Given as goal

abbrev pub invariant-loop-instance : goal.invariant-loop-instance
invariant-loop-instance l = max l.most (longest (constants_of (drop l.instance-index l.listed))) ≡ longest (constants_of l.listed)
