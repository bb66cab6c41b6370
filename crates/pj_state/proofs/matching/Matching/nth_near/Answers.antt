use Rattle.std.proofs.Common.{List, [], Some, ◌<◌, length, get_or, ap, sym, ◌∙◌, arith}
use Rattle.std.specs.List.{slice_get}
use Rattle.std.proofs.lemmas.Option.{slice_get-get_or}
use Rattle.pj_value.specs.declared.values.Value.{Value}
use Rattle.pj_state.specs.Rising.{first_with}
use Rattle.pj_state.specs.States.{rows_with, stored, ticket_of}
use Rattle.pj_state.specs.declared.shared.Stored.{Stored}
use Rattle.pj_state.proofs.Looking.{is-there, matching-at, row-is}
use Rattle.pj_state.proofs.matching.Matching.nth_near.Goals as goal

pub unwrap-row-requires : goal.unwrap-row-requires
unwrap-row-requires c =
    let rows = c.self.inside.store.now in
    let t = get_or c.self.inside.tickets.now c.args.at 0 in
    let found = rows_with c.self.inside.column c.self.inside.value.now rows in
    let there : c.args.at < length found = omega (arith, c.requires, ap length c.self.view_is) in
    is-there c.get_near.result (first_with ticket_of t rows) (slice_get found c.args.at) (get_or found c.args.at (stored 0 [])) c.get_near.ensures.missing
    (matching-at rows c.self.inside.column c.self.inside.value.now c.self.inside.tickets.now c.args.at c.self.invariant there) (slice_get-get_or found c.args.at (stored 0 []) there)

pub returns : goal.returns
returns c =
    let rows = c.self.inside.store.now in
    let t = get_or c.self.inside.tickets.now c.args.at 0 in
    let found = rows_with c.self.inside.column c.self.inside.value.now rows in
    let there : c.args.at < length found = omega (arith, c.requires, ap length c.self.view_is) in
    ap (λ (xs : List Stored). slice_get xs c.args.at) (sym c.self.view_is)
    ∙ (sym (matching-at rows c.self.inside.column c.self.inside.value.now c.self.inside.tickets.now c.args.at c.self.invariant there)
    ∙ (row-is c.get_near.result c.unwrap-row.result _ c.get_near.ensures.found c.unwrap-row.ensures ∙ ap (λ (row : List Value). Some (stored t row)) (sym c.row.ensures)))
