use Rattle.std.proofs.Common.{◌<◌, List, ℕ, length, get_or, ap, sym, ◌∙◌, subst}
use Rattle.pj_state.specs.Ordered.{TellsNearestRow}
use Rattle.pj_state.specs.States.{StateView}
use Rattle.pj_state.specs.declared.shared.Stored.{Stored}
use Rattle.pj_state.proofs.Next.{nearest-at}
use Rattle.pj_state.proofs.state.State.nearest_number.Goals as goal

pub returns-then-column-named : goal.returns-then-column-named
returns-then-column-named c =
    let columns = c.self.inside.columns in
    let at = c.loop-at.at in
    let lt : at < length columns = subst (λ (cs : List ℕ). at < length cs) c.as_slice-named-items.ensures c.loop-at-test.true in
    let named = ap (λ (cs : List ℕ). get_or cs at 0) (sym c.as_slice-named-items.ensures) ∙ sym c.if-column-named.true in
    subst (λ (rows : List Stored). TellsNearestRow c.args.column c.args.seek rows c.nearest_number.result) (ap (λ (s : StateView). s.rows) c.self.view_is)
    (nearest-at columns c.args.column c.args.seek c.self.inside.store c.self.inside.indexes.items at c.index.result.now c.nearest_number.result c.self.invariant lt named c.index.ensures c.nearest_number.ensures)
