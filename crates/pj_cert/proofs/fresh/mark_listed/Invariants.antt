use Rattle.std.proofs.Common.{◌≡◌, drop}
use Rattle.pj_cert.specs.Fresh.{with_marks}
use Rattle.pj_cert.specs.Instances.{constants_of}
use Rattle.pj_cert.proofs.fresh.mark_listed.Given as goal

abbrev pub invariant-loop-instance : goal.invariant-loop-instance
invariant-loop-instance l = with_marks l.taken (constants_of (drop l.instance-index l.listed)) ≡ with_marks l.fn.taken (constants_of l.listed)
