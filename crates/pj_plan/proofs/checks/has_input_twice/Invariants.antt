use Rattle.std.proofs.Common.{◌≡◌, drop, map}
use Rattle.std.specs.List.{list_any}
use Rattle.pj_plan.specs.Made.{schema_of}
use Rattle.pj_plan.specs.Faults.{has_two_of}
use Rattle.pj_plan.proofs.checks.has_input_twice.Given as goal

abbrev pub invariant-loop-input : goal.invariant-loop-input
invariant-loop-input l = list_any (has_two_of l.class) (map (schema_of l.nodes) l.inputs) ≡ list_any (has_two_of l.class) (map (schema_of l.nodes) (drop l.input-index l.inputs))
