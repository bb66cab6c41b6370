use Rattle.std.proofs.Common.{◌≡◌, take}
use Rattle.pj_probe.specs.Walks.{end_to_end}
use Rattle.pj_probe.proofs.joined.Joined.to_row.Given as goal

abbrev pub invariant-loop-input : goal.invariant-loop-input
invariant-loop-input l = l.values ≡ end_to_end (take l.input l.self)
