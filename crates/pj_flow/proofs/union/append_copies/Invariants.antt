use Rattle.std.proofs.Common.{◌≡◌, ◌++◌, take, map}
use Rattle.pj_flow.specs.Insides.{patterns_at}
use Rattle.pj_flow.proofs.union.append_copies.Given as goal

abbrev pub invariant-loop-place : goal.invariant-loop-place
invariant-loop-place l = l.out ≡ l.fn.out ++ map (patterns_at l.came) (take l.place-index l.places)
