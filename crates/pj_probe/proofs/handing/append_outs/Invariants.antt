use Rattle.std.proofs.Common.{◌≡◌, ◌++◌}
use Rattle.pj_probe.proofs.handing.append_outs.Given as goal

abbrev pub invariant-loop-out : goal.invariant-loop-out
invariant-loop-out l = l.outs ≡ l.initial.outs ++ l.yielded
