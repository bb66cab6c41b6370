use denote.Param.Send.{sendable}
use Rattle.pj_crew.proofs.side.run_side_by_side.Goals as goal

pub join_mut-requires-after_bounds : goal.join_mut-requires-after_bounds
join_mut-requires-after_bounds g c κs within = (
  (c.requires.writer, (search sendable depth 20, search sendable depth 20, search sendable depth 20, search sendable depth 20)),
  (c.requires.tasks, (search sendable depth 20, search sendable depth 20, search sendable depth 20, search sendable depth 20)),
)
