use Rattle.std.proofs.Common.{◌-◌, ◌<◌, List, [], ◌∷◌, ◌++◌, length, set, ap, sym, ◌∙◌, subst, arith}
use Rattle.std.proofs.lemmas.List.{length-append, get_or_default}
use Rattle.pj_state.specs.Stores.{AreFilled, flat}
use Rattle.pj_state.specs.declared.places.Place.{Place}
use Rattle.pj_state.proofs.Blocks.{filled-push, filled-set, flat-last, flat-push}
use Rattle.pj_state.proofs.places.push_place.Goals as goal

pub returns-in_ok-push-clause-ok : goal.returns-in_ok-push-clause-ok
returns-in_ok-push-clause-ok c =
    let blocks = c.args.blocks.now.items in
    let at = c.len-count.result - 1 in
    let there : at < length blocks = omega arith in
    ap (λ (b : List Place). flat (set blocks at b))
    (c.in_ok-push.ensures.ok ∙ ap (λ (b : List Place). b ++ c.args.place ∷ []) (c.index_mut.ensures.value ∙ get_or_default blocks at c.index_mut.result.now [] there))
    ∙ flat-last blocks at c.args.place [] (omega arith)

pub returns-in_ok-push-clause-filled : goal.returns-in_ok-push-clause-filled
returns-in_ok-push-clause-filled c = λ filled.
    let some : 0 < length c.push.new.self = omega (arith, ap length c.in_ok-push.ensures.ok, length-append c.index_mut.result.now (c.args.place ∷ [])) in
    filled-set c.args.blocks.now.items (c.len-count.result - 1) c.push.new.self some filled

pub returns-in_ok-push-2-clause-ok : goal.returns-in_ok-push-2-clause-ok
returns-in_ok-push-2-clause-ok c =
    ap flat c.in_ok-push-2.ensures.items ∙ (flat-push c.args.blocks.now.items c.in_ok-block.block ∙ ap (λ (ps : List Place). flat c.args.blocks.now.items ++ ps) c.in_ok-block.ensures)

pub returns-in_ok-push-2-clause-filled : goal.returns-in_ok-push-2-clause-filled
returns-in_ok-push-2-clause-filled c = λ filled.
    let some : 0 < length c.in_ok-block.block = omega (arith, ap length c.in_ok-block.ensures) in
    subst AreFilled (sym c.in_ok-push-2.ensures.items) (filled-push c.args.blocks.now.items c.in_ok-block.block some filled)
