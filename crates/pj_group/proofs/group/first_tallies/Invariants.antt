use Rattle.std.proofs.Common.{◌≡◌, take, map}
use Rattle.std.specs.List.{All}
use Rattle.pj_group.specs.Insides.{IsBounded}
use Rattle.pj_group.specs.Steps.{first_tally}
use Rattle.pj_group.proofs.group.first_tallies.Given as goal

abbrev pub invariant-loop-agg : goal.invariant-loop-agg
invariant-loop-agg l = record {
  made : l.made ≡ map (first_tally l.row) (take l.agg-index l.aggs);
  bounded : All (IsBounded 1) l.made;
}
