use Rattle.std.proofs.Common.{ap, sym, ◌∙◌, subst, arith}
use Rattle.pj_value.specs.Lists.{In}
use Rattle.pj_state.specs.States.{StateView}
use Rattle.pj_state.proofs.Indexed.{column-there}
use Rattle.pj_state.proofs.state.State.tickets.Goals as goal

pub returns : goal.returns
returns c =
    absurd (column-there c.as_slice-own-items.result.now c.args.column
    (subst (In c.args.column) (sym (c.as_slice-own-items.ensures ∙ ap (λ (s : StateView). s.columns) c.self.view_is)) c.requires)
    (λ k lt. c.loop-at.invariant k (omega (arith, lt, c.loop-at-test.false))))
