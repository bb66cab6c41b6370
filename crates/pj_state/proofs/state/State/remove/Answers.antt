use Rattle.std.proofs.Common.{◌≡◌, ℕ, List, Some, length, ap, ap₂, sym, ◌∙◌, subst}
use Rattle.pj_state.specs.Indexes.{IndexesFewer, IsKept}
use Rattle.pj_state.specs.Rising.{first_with}
use Rattle.pj_state.specs.States.{state_of, stored, ticket_of}
use Rattle.pj_state.specs.declared.shared.Stored.{Stored}
use Rattle.pj_state.proofs.Indexed.{kept-less}
use Rattle.pj_state.proofs.Rising.{first-number, without-missing}
use Rattle.pj_state.proofs.state.State.remove.Goals as goal

pub invariant_of-self : goal.invariant_of-self
invariant_of-self c =
    subst (λ (rows : List Stored). IsKept c.self.inside.columns rows c.self.inside.indexes.items)
    (sym (c.in-None.ensures.left ∙ without-missing ticket_of c.args.ticket c.self.inside.store (sym c.in-None.ensures.taken))) c.self.invariant

pub invariant_of-self-in-Some : goal.invariant_of-self-in-Some
invariant_of-self-in-Some c =
    let columns = c.self.inside.columns in
    let rows = c.self.inside.store in
    let there = c.in-Some.stored in
    let s : Stored = stored c.args.ticket c.row.result.now in
    let same : there ≡ s = ap₂ stored (first-number ticket_of c.args.ticket rows there (sym c.in-Some.ensures.taken)) (sym c.row.ensures) in
    let first : first_with ticket_of c.args.ticket rows ≡ Some s = sym c.in-Some.ensures.taken ∙ ap (λ (x : Stored). Some x) same in
    let fewer : IndexesFewer columns c.self.inside.indexes.items c.take_from.new.indexes.items (length columns) s =
    subst (λ (cs : List ℕ). IndexesFewer cs c.self.inside.indexes.items c.take_from.new.indexes.items (length cs) s) c.as_slice-columns.ensures c.take_from.ensures.fewer in
    subst (λ (xs : List Stored). IsKept columns xs c.take_from.new.indexes.items) (sym c.in-Some.ensures.left)
    (kept-less columns rows c.self.inside.indexes.items c.take_from.new.indexes.items s c.self.invariant first c.take_from.ensures.long fewer)

pub returns-in-None-clause-missing : goal.returns-in-None-clause-missing
returns-in-None-clause-missing c =
    ap (state_of c.self.inside.columns) (c.in-None.ensures.left ∙ without-missing ticket_of c.args.ticket c.self.inside.store (sym c.in-None.ensures.taken)) ∙ c.self.view_is
