use Rattle.std.proofs.Common.{◌≡◌, take, filter, not}
use Rattle.pj_flow.specs.Insides.{is_ready}
use Rattle.pj_flow.proofs.union.parted.Given as goal

abbrev pub invariant-loop-place : goal.invariant-loop-place
invariant-loop-place l = record {
  going : l.going.items ≡ filter (is_ready l.inputs l.came) (take l.place-index l.waiting);
  staying : l.staying.items ≡ filter (λ at. not (is_ready l.inputs l.came at)) (take l.place-index l.waiting);
}
