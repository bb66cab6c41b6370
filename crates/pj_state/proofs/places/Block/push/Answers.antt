use Rattle.std.proofs.Common.{List, [], ◌∷◌, ◌++◌, ap, ap₂, ◌∙◌}
use Rattle.pj_state.specs.Nears.{places_from}
use Rattle.pj_state.specs.declared.places.Place.{Place}
use Rattle.pj_state.proofs.Near.{near-push}
use Rattle.pj_state.proofs.places.Block.push.Goals as goal

pub returns-in_ok-push-in-Some-clause-ok : goal.returns-in_ok-push-in-Some-clause-ok
returns-in_ok-push-in-Some-clause-ok c =
    let base = c.self.inside.base in
    ap (places_from base) c.in_ok-push-in-Some.ensures.ok
    ∙ (near-push base c.self.inside.nears c.in-Some.near ∙ ap₂ (λ (ps : List Place) (p : Place). ps ++ p ∷ []) c.self.view_is c.in-Some.ensures)
