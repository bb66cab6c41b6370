use Rattle.std.proofs.Common.{◌≡◌, ◌∷◌, drop}
use Rattle.pj_plan.specs.Faults.{has_unused, uses}
use Rattle.pj_plan.proofs.limits.has_unused.Given as goal

abbrev pub invariant-loop-number : goal.invariant-loop-number
invariant-loop-number l = has_unused (l.output ∷ uses l.draft) 0 l.draft.nodes ≡ has_unused (l.output ∷ uses l.draft) l.number (drop l.number l.draft.nodes)
