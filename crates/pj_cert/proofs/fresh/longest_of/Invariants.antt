use Rattle.std.proofs.Common.{◌≡◌, max, drop}
use Rattle.pj_cert.specs.Fresh.{longest}
use Rattle.pj_cert.proofs.fresh.longest_of.Given as goal

abbrev pub invariant-loop-value : goal.invariant-loop-value
invariant-loop-value l = max l.most (longest (drop l.value-index l.values)) ≡ longest l.values
