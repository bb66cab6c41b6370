use Rattle.std.proofs.Common.{◌≡◌, ◌+◌, length, take}
use Rattle.std.specs.List.{All}
use Rattle.pj_group.specs.Insides.{IsBounded}
use Rattle.pj_group.specs.Steps.{next_tallies}
use Rattle.pj_group.proofs.group.next_tallies.Given as goal

abbrev pub invariant-loop-at : goal.invariant-loop-at
invariant-loop-at l = record {
  made : l.made ≡ next_tallies l.row (take l.at l.aggs) (take l.at l.tallies);
  long : length l.made ≡ l.at;
  bounded : All (IsBounded (l.count + 1)) l.made;
}
