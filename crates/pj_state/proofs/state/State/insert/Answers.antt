use Rattle.std.proofs.Common.{ℕ, List, length, ap, sym, ◌∙◌, subst, arith}
use Rattle.pj_value.specs.declared.values.Value.{Value}
use Rattle.pj_state.specs.Indexes.{IndexesFewer, IndexesMore, IndexesSame, IsIndexed, IsKept}
use Rattle.pj_state.specs.Rising.{AllBelow}
use Rattle.pj_state.specs.States.{StateView, stored, ticket_of}
use Rattle.pj_state.specs.declared.shared.Stored.{Stored}
use Rattle.pj_state.proofs.Indexed.{below-from-all, kept-back, kept-more}
use Rattle.pj_state.proofs.state.State.insert.Goals as goal

pub invariant_of-self : goal.invariant_of-self
invariant_of-self c =
    let same : IndexesSame c.self.inside.columns c.self.inside.indexes.items c.add_to_all.new.indexes.items c.args.ticket =
    subst (λ (cs : List ℕ). IndexesSame cs c.self.inside.indexes.items c.add_to_all.new.indexes.items c.args.ticket) c.as_slice-columns.ensures c.in-Err.ensures.err in
    let below : AllBelow ticket_of c.args.ticket c.self.inside.store =
    subst (AllBelow ticket_of c.args.ticket) (sym (ap (λ (s : StateView). s.rows) c.self.view_is)) (below-from-all c.args.ticket c.args.self.now.rows c.requires.later) in
    record {
      rising = c.self.invariant.rising;
      indexed = same c.self.inside.store c.self.invariant.rising below c.self.invariant.indexed;
    }

pub push-requires : goal.push-requires
push-requires c = subst (AllBelow ticket_of c.args.ticket) (sym (ap (λ (s : StateView). s.rows) c.self.view_is)) (below-from-all c.args.ticket c.args.self.now.rows c.requires.later)

pub invariant_of-self-in-Ok-push : goal.invariant_of-self-in-Ok-push
invariant_of-self-in-Ok-push c =
    let columns = c.self.inside.columns in
    let old = c.self.inside.indexes.items in
    let new = c.add_to_all.new.indexes.items in
    let below : AllBelow ticket_of c.args.ticket c.self.inside.store =
    subst (AllBelow ticket_of c.args.ticket) (sym (ap (λ (s : StateView). s.rows) c.self.view_is)) (below-from-all c.args.ticket c.args.self.now.rows c.requires.later) in
    let more : IndexesMore columns old new (stored c.args.ticket c.args.row) =
    subst (λ (cs : List ℕ). IndexesMore cs old new (stored c.args.ticket c.args.row)) c.as_slice-columns.ensures
    (subst (λ (row : List Value). IndexesMore c.as_slice-columns.result.now old new (stored c.args.ticket row)) c.row.ensures c.in-Ok.ensures.ok) in
    subst (λ (rows : List Stored). IsKept columns rows new) (sym c.in-Ok-push.ensures.ok)
    (kept-more columns c.self.inside.store old new (stored c.args.ticket c.args.row) c.self.invariant below (more c.self.inside.store))

pub take_from-requires-clause-indexes : goal.take_from-requires-clause-indexes
take_from-requires-clause-indexes c =
    let indexed : IsIndexed c.as_slice-columns.result.now c.self.inside.store c.self.inside.indexes.items =
    subst (λ (cs : List ℕ). IsIndexed cs c.self.inside.store c.self.inside.indexes.items) (sym c.as_slice-columns.ensures) c.self.invariant.indexed in
    omega (arith, (c.in-Ok.ensures.ok c.self.inside.store indexed).count)

pub invariant_of-self-in-Err-push : goal.invariant_of-self-in-Err-push
invariant_of-self-in-Err-push c =
    let columns = c.self.inside.columns in
    let old = c.self.inside.indexes.items in
    let mid = c.add_to_all.new.indexes.items in
    let new = c.take_from.new.indexes.items in
    let below : AllBelow ticket_of c.args.ticket c.self.inside.store =
    subst (AllBelow ticket_of c.args.ticket) (sym (ap (λ (s : StateView). s.rows) c.self.view_is)) (below-from-all c.args.ticket c.args.self.now.rows c.requires.later) in
    let more : IndexesMore columns old mid (stored c.args.ticket c.args.row) =
    subst (λ (cs : List ℕ). IndexesMore cs old mid (stored c.args.ticket c.args.row)) c.as_slice-columns.ensures
    (subst (λ (row : List Value). IndexesMore c.as_slice-columns.result.now old mid (stored c.args.ticket row)) c.row.ensures c.in-Ok.ensures.ok) in
    let fewer : IndexesFewer columns mid new (length columns) (stored c.args.ticket c.args.row) =
    subst (λ (cs : List ℕ). IndexesFewer cs mid new (length cs) (stored c.args.ticket c.args.row)) c.as_slice-columns.ensures
    (subst (λ (row : List Value). IndexesFewer c.as_slice-columns.result.now mid new (length c.as_slice-columns.result.now) (stored c.args.ticket row)) (c.row-in-Err-push.ensures ∙ c.in-Err-push.ensures.back)
    c.take_from.ensures.fewer) in
    subst (λ (rows : List Stored). IsKept columns rows new) (sym c.in-Err-push.ensures.err)
    (kept-back columns c.self.inside.store old mid new (stored c.args.ticket c.args.row) c.self.invariant below (more c.self.inside.store) c.take_from.ensures.long fewer)
