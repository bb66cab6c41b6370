use Rattle.pj_laws.proofs.Trees.{planned-tree, tree-from}
use Rattle.pj_laws.proofs.ClimbingKept.{top-from, adds-climb, joins-climb, stores-grow}
use Rattle.pj_laws.proofs.ClimbingEvents.{events-climb}
use Rattle.pj_laws.proofs.ClimbingLimits.{beyond-is-climbed}
use Rattle.pj_laws.proofs.climb_laws.climbs_of_histories.Goals as goal

pub returns-clause-trees : goal.returns-clause-trees
returns-clause-trees c = planned-tree

pub returns-clause-stays : goal.returns-clause-stays
returns-clause-stays c = λ plan t h. tree-from plan h t

pub returns-clause-tops : goal.returns-clause-tops
returns-clause-tops c = λ plan t h. top-from plan h t

pub returns-clause-events : goal.returns-clause-events
returns-clause-events c = events-climb

pub returns-clause-adds : goal.returns-clause-adds
returns-clause-adds c = adds-climb

pub returns-clause-beyond : goal.returns-clause-beyond
returns-clause-beyond c = beyond-is-climbed

pub returns-clause-stores : goal.returns-clause-stores
returns-clause-stores c = stores-grow

pub returns-clause-joins : goal.returns-clause-joins
returns-clause-joins c = joins-climb
