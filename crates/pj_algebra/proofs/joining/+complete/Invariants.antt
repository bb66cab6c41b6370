use Rattle.std.proofs.Common.{◌≡◌, ◌++◌, length, take, map, flat_map}
use Rattle.pj_algebra.specs.Answers.{list_of}
use Rattle.pj_algebra.proofs.Combinations.{grown}
use Rattle.pj_algebra.proofs.joining.+complete.Given as goal

abbrev pub decreases-complete : goal.decreases-complete
decreases-complete l = length l.inputs.now

abbrev pub invariant-loop-row : goal.invariant-loop-row
invariant-loop-row l =
    (l.rows ≡ l.fn.rows) × (l.out ≡ l.fn.out ++ flat_map (grown l.classes l.fn.rows (map (list_of l.lists) l.others)) (take l.row-index l.row-items))
