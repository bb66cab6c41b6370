-- A law of rows that join.
use Rattle.std.specs.Prelude.{List, IsTrue, ◌↔◌}
use Rattle.pj_shape.specs.declared.joins.ClassCol.{ClassCol}
use Rattle.pj_shape.specs.Joining.{Part, Joins, joins}

-- the test is true exactly where the rows join
abbrev pub TestsJoining : Type 0
TestsJoining = (classes : List (List ClassCol)) (parts : List Part) → IsTrue (joins classes parts) ↔ Joins classes parts
