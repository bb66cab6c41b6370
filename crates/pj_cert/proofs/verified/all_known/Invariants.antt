use Rattle.std.proofs.Common.{◌≡◌, true}
use Rattle.pj_cert.specs.Tests.{all_known}
use Rattle.pj_cert.proofs.verified.all_known.Given as goal

abbrev pub invariant-loop-k : goal.invariant-loop-k
invariant-loop-k l = all_known l.known l.k ≡ true
