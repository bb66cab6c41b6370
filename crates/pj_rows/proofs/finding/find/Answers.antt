use Rattle.std.proofs.Common.{List, subst}
use Rattle.pj_state.specs.declared.shared.Stored.{Stored}
use Rattle.pj_rows.specs.Finding.{IsFound}
use Rattle.pj_rows.proofs.Found.{found_among}
use Rattle.pj_rows.proofs.finding.find.Goals as goal

pub matching-requires : goal.matching-requires
matching-requires c = c.in-Some.ensures.0

pub returns-in-Some : goal.returns-in-Some
returns-in-Some c =
    found_among c.args.state.now c.args.gone.now c.args.punct.now c.in-Some.at.column c.in-Some.at.value.now c.find_matching.result c.in-Some.ensures
    (subst (λ (rows : List Stored). IsFound rows c.args.gone.now c.args.punct.now c.find_matching.result) c.matching.ensures c.find_matching.ensures)
