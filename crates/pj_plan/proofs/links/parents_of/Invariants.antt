use Rattle.std.proofs.Common.{ℕ, ◌≡◌, ◌<◌, Some, length, slice_get}
use Rattle.pj_plan.specs.Nodes.{parent_of}
use Rattle.pj_plan.proofs.links.parents_of.Given as goal

abbrev pub invariant-loop-number : goal.invariant-loop-number
invariant-loop-number l = (length l.parents ≡ l.number) × ((n : ℕ) → n < l.number → slice_get l.parents n ≡ Some (parent_of l.nodes n))
