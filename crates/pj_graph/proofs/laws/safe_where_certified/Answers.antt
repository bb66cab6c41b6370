use Rattle.pj_graph.proofs.Safe.{safe_where_certified}
use Rattle.pj_graph.proofs.laws.safe_where_certified.Goals as goal

pub returns : goal.returns
returns c = safe_where_certified
