use Rattle.std.proofs.Common.{List, Some, length, ap, sym, ◌∙◌, arith}
use Rattle.std.specs.List.{slice_get}
use Rattle.pj_state.specs.declared.places.Place.{Place}
use Rattle.pj_state.proofs.Near.{near-got, near-length}
use Rattle.pj_state.proofs.places.Block.at.Goals as goal

pub at-requires : goal.at-requires
at-requires c = omega (arith, c.requires, ap length c.self.view_is, near-length c.self.inside.base c.self.inside.nears)

pub returns : goal.returns
returns c =
    let base = c.self.inside.base in
    ap (λ (ps : List Place). slice_get ps c.args.at) (sym c.self.view_is)
    ∙ (near-got base c.self.inside.nears c.args.at _ c.at.ensures ∙ ap (λ (p : Place). Some p) (sym c.place.ensures))
