use Rattle.std.proofs.Common.{◌+◌, ◌<◌, BTreeSet, ℤ, length, ap, not, sym, ◌∙◌, subst, arith}
use Rattle.pj_state.proofs.Orders.{IsOrderTo, entry-has, order-all, order-more, order-skip}
use Rattle.pj_state.proofs.numbers.order_of.Goals as goal
use Rattle.pj_state.proofs.numbers.order_of.Goals.{in-None, in-Some+then-not-is_empty+in_ok-put-in-Some, in-Some+else-not-is_empty}

pub loop-at-preserved : goal.loop-at-preserved
loop-at-preserved c =
    let entries = c.args.numbers.now.entries in
    let at = c.loop-at.at in
    let there : at < length entries = omega (arith, c.loop-at-test.true, c.len-at-end.ensures.len) in
    elim c.match-get_index.branch [
      | in-None w ↦ absurd (cc (w.in-None.ensures.found.1 there))
      | in-Some+then-not-is_empty+in_ok-put-in-Some w ↦
          subst (λ (o : BTreeSet ℤ). IsOrderTo entries o (at + 1)) (sym w.order-is)
          (order-more entries c.loop-at.order w.put.new.order at w.in-Some.number.now w.in-Some.tickets.now c.loop-at.invariant there (sym w.in-Some.ensures.entry)
          (entry-has entries w.in-Some.number.now w.in-Some.tickets.now w.as_slice.result.now w.is_empty.result w.in-Some.ensures.value w.as_slice.ensures w.is_empty.ensures ∙ ap not w.if-not-is_empty.true)
          w.in_ok-put-in-Some.ensures)
      | in-Some+else-not-is_empty w ↦
          subst (λ (o : BTreeSet ℤ). IsOrderTo entries o (at + 1)) (sym w.order-is)
          (order-skip entries c.loop-at.order at w.in-Some.number.now w.in-Some.tickets.now c.loop-at.invariant there (sym w.in-Some.ensures.entry)
          (entry-has entries w.in-Some.number.now w.in-Some.tickets.now w.as_slice.result.now w.is_empty.result w.in-Some.ensures.value w.as_slice.ensures w.is_empty.ensures ∙ ap not w.if-not-is_empty.false))
    ]

pub returns : goal.returns
returns c = order-all c.args.numbers.now.entries c.loop-at.order c.loop-at.at c.loop-at.invariant (omega (arith, c.loop-at-test.false, c.len-at-end.ensures.len))
