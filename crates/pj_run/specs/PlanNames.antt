-- The names of a plan.
use Rattle.std.specs.Prelude.{ℕ, ◌≡◌, Bool, true, ◌&&◌, List, nat_le, length}
use Rattle.std.specs.List.{list_all}
use Rattle.pj_plan.specs.Names.{is_name_byte}
use Rattle.pj_plan.specs.declared.node.PlanNode.{PlanNode}

-- at most 32 bytes, only small letters, digits and `_`
abbrev pub is_short : List ℕ → Bool
is_short name = nat_le (length name) 32 && list_all is_name_byte name

abbrev pub are_short : List PlanNode → Bool
are_short nodes = list_all (λ node. is_short node.name) nodes

-- the names of the nodes have at most 32 bytes, only small letters, digits and `_`
abbrev pub HasShortNames : List PlanNode → Type 0
HasShortNames nodes = are_short nodes ≡ true
