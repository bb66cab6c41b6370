use Rattle.std.proofs.Common.{◌≡◌, take, flat_map}
use Rattle.pj_algebra.specs.Answers.{list_of}
use Rattle.pj_algebra.proofs.passing.united.Given as goal

abbrev pub invariant-loop-input : goal.invariant-loop-input
invariant-loop-input l = l.all ≡ flat_map (list_of l.lists) (take l.input-index l.inputs)
