use Rattle.std.proofs.Common.{◌∙◌, List, ap, sym, arith}
use Rattle.std.proofs.lemmas.List.{take_all}
use Rattle.pj_state.specs.declared.shared.Stored.{Stored}
use Rattle.pj_state.specs.States.{stored}
use Rattle.pj_rows.specs.Finding.{still_held}
use Rattle.pj_rows.proofs.Found.{found_here, not_held_more}
use Rattle.pj_rows.proofs.finding.find_matching.Goals as goal

pub returns-then-stays : goal.returns-then-stays
returns-then-stays c =
    found_here c.args.among.now c.args.gone.now c.args.punct.now c.loop-at.at (stored c.nth-ticket.result.0 c.nth-ticket.result.1.now) c.nth-ticket.ensures (sym c.stays.ensures ∙ c.if-stays.true)

pub loop-at-preserved : goal.loop-at-preserved
loop-at-preserved c =
    not_held_more c.args.among.now c.args.gone.now c.args.punct.now c.loop-at.at (stored c.nth-ticket.result.0 c.nth-ticket.result.1.now) c.nth-ticket.ensures c.loop-at.invariant (sym c.stays.ensures ∙ c.if-stays.false)

pub returns : goal.returns
returns c =
    ap (λ (xs : List Stored). still_held xs c.args.gone.now c.args.punct.now) (sym (take_all c.loop-at.at c.args.among.now (omega (arith, c.loop-at-test.false, c.len-at-end.ensures.len, c.loop-at.auto)))) ∙ c.loop-at.invariant
