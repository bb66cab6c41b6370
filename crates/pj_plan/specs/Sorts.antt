-- The sorts of nodes that a plan lists.
use Rattle.std.specs.Prelude.{Bool}
use Rattle.pj_plan.specs.declared.node.Node.{Node}
use Rattle.pj_plan.specs.declared.links.Sort.{Sort}
use Rattle.pj_plan.specs.declared.links.Sort.TheVariants.{Streams, Joins}
use Rattle.pj_plan.specs.Nodes.{is_stream, is_join}

abbrev pub is_of : Sort → Node → Bool
is_of Streams node = is_stream node
is_of Joins node = is_join node
