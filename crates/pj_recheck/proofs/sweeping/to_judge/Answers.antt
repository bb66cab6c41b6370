use Rattle.std.proofs.Common.{◌∙◌, ◌++◌, ap, arith}
use Rattle.pj_recheck.proofs.Picked.{append_empty, judged_all}
use Rattle.pj_recheck.proofs.sweeping.to_judge.Goals as goal
use Rattle.pj_recheck.proofs.sweeping.to_judge.Goals.{then-len-gt0+in_ok-append, else-len-gt0}

pub returns-clause-all : goal.returns-clause-all
returns-clause-all c =
    judged_all c.args.due.now c.args.state.now.rows c.args.low c.in_ok-list.list c.if-len-gt0.list c.in_order.result.items c.in_ok-list.ensures.young
    (elim c.if-len-gt0.branch [
      | then-len-gt0+in_ok-append w ↦ w.list-is ∙ w.in_ok-append.ensures.ok ∙ ap (λ ns. c.in_ok-list.list ++ ns) w.as_slice.ensures
      | else-len-gt0 w ↦ w.list-is ∙ append_empty c.in_ok-list.list c.args.due.now.marked (omega (arith, w.if-len-gt0.false, c.len.ensures))
    ]) c.in_order.ensures.all
