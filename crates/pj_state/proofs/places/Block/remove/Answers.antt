use Rattle.std.proofs.Common.{List, Some, length, ap, sym, ◌∙◌, arith}
use Rattle.std.specs.List.{remove, slice_get}
use Rattle.pj_state.specs.Nears.{places_from}
use Rattle.pj_state.specs.declared.places.Place.{Place}
use Rattle.pj_state.proofs.Near.{near-got, near-length, near-remove}
use Rattle.pj_state.proofs.places.Block.remove.Goals as goal

pub remove-requires : goal.remove-requires
remove-requires c = omega (arith, c.requires, ap length c.self.view_is, near-length c.self.inside.base c.self.inside.nears)

pub returns-clause-taken : goal.returns-clause-taken
returns-clause-taken c =
    ap (λ (ps : List Place). slice_get ps c.args.at) (sym c.self.view_is)
    ∙ (near-got c.self.inside.base c.self.inside.nears c.args.at c.remove.result c.remove.ensures.taken ∙ ap (λ (p : Place). Some p) (sym c.place.ensures))

pub returns-clause-left : goal.returns-clause-left
returns-clause-left c =
    let base = c.self.inside.base in
    ap (places_from base) c.remove.ensures.left
    ∙ (near-remove base c.self.inside.nears c.args.at ∙ ap (λ (ps : List Place). remove ps c.args.at) c.self.view_is)
