use Rattle.std.proofs.Common.{◌≡◌, ◌++◌, drop, flat_map}
use Rattle.pj_plan.specs.Made.{schema_of}
use Rattle.pj_plan.proofs.schemas.joined_schema.Given as goal

abbrev pub invariant-loop-input : goal.invariant-loop-input
invariant-loop-input l = l.columns ++ flat_map (schema_of l.nodes) (drop l.input-index l.inputs) ≡ flat_map (schema_of l.nodes) l.inputs
