use Rattle.pj_element.proofs.Positions.{taken_accepted, accepted_taken, closed_refused, refused_closed}
use Rattle.pj_element.proofs.acceptance.acceptance_goes_by_position.Goals as goal

pub returns : goal.returns
returns c = record {
  taken = λ reads n e. (taken_accepted reads n e, accepted_taken reads n e);
  closed = closed_refused;
  named = refused_closed;
}
