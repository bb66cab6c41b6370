use Rattle.std.proofs.Common.{◌+◌, ◌≤◌, length}
use Rattle.pj_group.specs.Steps.{Fits}
use Rattle.pj_test_states.proofs.groups.say_all.Given as goal

abbrev pub invariant-loop-line : goal.invariant-loop-line
invariant-loop-line l = record {
  fits : Fits l.group.spec l.width;
  few : length l.group.spec.keys + length l.group.spec.aggs ≤ 120;
}
