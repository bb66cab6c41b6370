use Rattle.std.proofs.Common.{◌≡◌, ◌++◌, take}
use Rattle.pj_probe.specs.Checks.{checks_from}
use Rattle.pj_probe.proofs.checks.append_from.Given as goal

abbrev pub invariant-loop-at : goal.invariant-loop-at
invariant-loop-at l = l.checks ≡ l.fn.checks ++ checks_from l.input l.from (take l.at-index l.class)
