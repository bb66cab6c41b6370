use Rattle.pj_laws.proofs.Climbing.{steps-climb}
use Rattle.pj_laws.proofs.ClimbingEvents.{leaves-nodes}
use Rattle.pj_laws.proofs.ClimbingParts.{climbs-on}
use Rattle.pj_laws.proofs.ClimbingLimits.{levels-climb}
use Rattle.pj_laws.proofs.climb_laws.climbs_of_steps.Goals as goal

pub returns-clause-steps : goal.returns-clause-steps
returns-clause-steps c = steps-climb

pub returns-clause-leaves : goal.returns-clause-leaves
returns-clause-leaves c = leaves-nodes

pub returns-clause-goes_on : goal.returns-clause-goes_on
returns-clause-goes_on c = climbs-on

pub returns-clause-levels : goal.returns-clause-levels
returns-clause-levels c = levels-climb
