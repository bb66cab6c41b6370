use Rattle.std.proofs.Common.{◌≡◌, ◌+◌, ◌++◌, length, vec_capacity}
use Rattle.pj_roster.specs.Assigned.{probers}
use Rattle.pj_roster.proofs.assigning.add_probers.Given as goal

abbrev pub invariant-loop-index : goal.invariant-loop-index
invariant-loop-index g l =
    (l.duties.items ≡ l.initial.duties.items ++ probers 0 l.index) × (length l.duties.items ≡ length l.initial.duties.items + l.index)
    × (vec_capacity l.duties ≡ vec_capacity l.initial.duties)
