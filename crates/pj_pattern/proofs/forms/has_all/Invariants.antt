use Rattle.std.proofs.Common.{◌+◌, length}
use Rattle.pj_pattern.proofs.Walking.{IsWalked}
use Rattle.pj_pattern.proofs.forms.has_all.Given as goal

abbrev pub invariant-loop-value : goal.invariant-loop-value
invariant-loop-value l = IsWalked l.members l.values l.left l.rest

abbrev pub decreases-loop-value : goal.decreases-loop-value
decreases-loop-value l = length l.left + length l.rest
