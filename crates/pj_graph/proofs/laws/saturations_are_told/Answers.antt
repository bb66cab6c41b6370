use Rattle.pj_graph.proofs.Unique.{saturations_are_told}
use Rattle.pj_graph.proofs.laws.saturations_are_told.Goals as goal

pub returns : goal.returns
returns c = saturations_are_told
