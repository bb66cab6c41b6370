use Rattle.pj_line.proofs.FedPieces.{pieces_go_on}
use Rattle.pj_element.proofs.GoOn.{fates_go_on, taken_go_on, rejects_go_on}
use Rattle.pj_element.proofs.acceptance.acceptance_goes_on.Goals as goal

pub returns : goal.returns
returns c = record { pieces = pieces_go_on; fates = fates_go_on; elements = taken_go_on; rejects = rejects_go_on }
