use Rattle.std.proofs.Common.{◌≡◌, drop}
use Rattle.pj_cert.specs.Fresh.{with_marks}
use Rattle.pj_cert.proofs.fresh.mark_all.Given as goal

abbrev pub invariant-loop-value : goal.invariant-loop-value
invariant-loop-value l = with_marks l.taken (drop l.value-index l.values) ≡ with_marks l.fn.taken l.values
