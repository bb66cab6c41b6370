use Rattle.std.proofs.Common.{◌≡◌, ◌≤◌, ◌++◌, All, drop, map, length}
use Rattle.pj_plan.specs.Made.{schema_of}
use Rattle.pj_plan.proofs.making.schemas_of.Given as goal

abbrev pub invariant-loop-name : goal.invariant-loop-name
invariant-loop-name l = (l.schemas ++ map (schema_of l.nodes) (drop l.name-index l.names) ≡ map (schema_of l.nodes) l.names) × All (λ columns. length columns ≤ 120) l.schemas
