use Rattle.std.proofs.Common.{◌≡◌, ◌++◌, drop, map}
use Rattle.pj_plan.specs.Made.{key_column}
use Rattle.pj_plan.proofs.schemas.key_columns.Given as goal

abbrev pub invariant-loop-key : goal.invariant-loop-key
invariant-loop-key l = l.columns ++ map (key_column l.input) (drop l.key-index l.keys) ≡ map (key_column l.input) l.keys
