use Rattle.std.proofs.Common.{◌≡◌, ◌-◌, List, ap, arith, drop, subst, sym, ◌∙◌}
use Rattle.std.specs.List.{slice_get}
use Rattle.pj_state.specs.declared.shared.Stored.{Stored}
use Rattle.pj_value.specs.Lists.{In}
use Rattle.pj_state.specs.States.{stored}
use Rattle.pj_recheck.proofs.Picked.{young_more, young_stop}
use Rattle.pj_recheck.proofs.sweeping.young.Goals as goal

pub returns-then-low-from-clause-young : goal.returns-then-low-from-clause-young
returns-then-low-from-clause-young c t h le lt = absurd (omega (arith, c.if-low-from.true, le, lt))

pub returns-then-ticket-from-clause-young : goal.returns-then-ticket-from-clause-young
returns-then-ticket-from-clause-young c =
    young_stop c.args.state.now.rows c.loop-back.list c.len-count.result c.loop-back.back (c.len-count.result - 1 - c.loop-back.back) c.args.from c.args.low (stored c.nth-ticket.result.0 c.nth-ticket.result.1.now) c.len-count.ensures.rising (ap (λ (rows : List Stored). slice_get rows (c.len-count.result - 1 - c.loop-back.back)) (sym c.loop-back.invariant.0) ∙ c.nth-ticket.ensures.row) (omega (arith, c.loop-back-test.true)) (omega (arith, c.if-ticket-from.true)) c.loop-back.invariant.1.1

pub loop-back-preserved : goal.loop-back-preserved
loop-back-preserved c = (
  c.nth-ticket.ensures.same ∙ c.loop-back.invariant.0,
  (
    c.loop-back.invariant.1.0,
    young_more c.args.state.now.rows c.loop-back.list c.push_below.new.list c.len-count.result c.loop-back.back (c.len-count.result - 1 - c.loop-back.back) c.args.low (stored c.nth-ticket.result.0 c.nth-ticket.result.1.now) (ap (λ (rows : List Stored). slice_get rows (c.len-count.result - 1 - c.loop-back.back)) (sym c.loop-back.invariant.0) ∙ c.nth-ticket.ensures.row) (omega (arith, c.loop-back-test.true)) (omega arith) c.in_ok-push_below.ensures c.loop-back.invariant.1.1,
  ),
)

pub returns-clause-young : goal.returns-clause-young
returns-clause-young c t h le lt =
    let n : c.len-count.result - c.loop-back.back ≡ 0 = omega (arith, c.loop-back-test.false) in
    c.loop-back.invariant.1.1 t (subst (λ k. In t (drop k c.args.state.now.rows)) (sym n) h) lt
