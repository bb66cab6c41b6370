use Rattle.std.proofs.Common.{◌≡◌, drop}
use Rattle.pj_cert.specs.Fresh.{first_free}
use Rattle.pj_cert.proofs.fresh.first_free.Given as goal

abbrev pub invariant-loop-n : goal.invariant-loop-n
invariant-loop-n l = first_free l.n (drop l.n l.taken) ≡ first_free 0 l.taken
