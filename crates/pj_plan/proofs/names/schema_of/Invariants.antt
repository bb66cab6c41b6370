use Rattle.std.proofs.Common.{◌≡◌, drop}
use Rattle.pj_plan.specs.Made.{schema_of}
use Rattle.pj_plan.proofs.names.schema_of.Given as goal

abbrev pub invariant-loop-node : goal.invariant-loop-node
invariant-loop-node l = schema_of l.nodes l.name ≡ schema_of (drop l.node-index l.nodes) l.name
