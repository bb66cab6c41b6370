use Rattle.pj_graph.proofs.Reached.{reaches_are_told}
use Rattle.pj_graph.proofs.laws.reaches_are_told.Goals as goal

pub returns : goal.returns
returns c = reaches_are_told
