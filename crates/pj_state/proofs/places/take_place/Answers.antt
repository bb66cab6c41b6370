use Rattle.std.proofs.Common.{◌≡◌, ◌<◌, List, [], length, set, ap, sym, ◌∙◌, subst, arith}
use Rattle.pj_state.specs.Stores.{AreFilled, flat}
use Rattle.pj_state.specs.declared.places.Place.{Place}
use Rattle.pj_state.proofs.Blocks.{empty-is, emptied, filled-removed, filled-set, put-there, taken-of}
use Rattle.pj_state.proofs.places.take_place.Goals as goal

pub returns-then-len-eq0-clause-left : goal.returns-then-len-eq0-clause-left
returns-then-len-eq0-clause-left c = λ rising.
    let blocks = c.args.blocks.now.items in
    let new = c.take-place.new.self in
    let shown : c.index.result.now ≡ new = put-there blocks c.args.at new c.index.result.now c.requires c.index.ensures in
    let nothing : new ≡ [] = sym shown ∙ empty-is c.index.result.now (omega (arith, c.if-len-eq0.true, c.len.ensures)) in
    ap flat c.remove.ensures.items
    ∙ (emptied blocks c.args.at new c.requires nothing
    ∙ ap (λ (b : List Place). flat (set blocks c.args.at b)) (taken-of c.args.ticket blocks c.args.at c.index_mut.result.now new c.requires c.index_mut.ensures.value c.take-place.ensures.left rising))

pub returns-then-len-eq0-clause-filled : goal.returns-then-len-eq0-clause-filled
returns-then-len-eq0-clause-filled c = λ filled.
    subst AreFilled (sym c.remove.ensures.items) (filled-removed c.args.blocks.now.items c.args.at c.take-place.new.self c.requires filled)

pub returns-else-len-eq0-clause-filled : goal.returns-else-len-eq0-clause-filled
returns-else-len-eq0-clause-filled c = λ filled.
    let blocks = c.args.blocks.now.items in
    let new = c.take-place.new.self in
    let shown : c.index.result.now ≡ new = put-there blocks c.args.at new c.index.result.now c.requires c.index.ensures in
    let some : 0 < length new = omega (arith, ap length shown, c.len.ensures, c.if-len-eq0.false) in
    filled-set blocks c.args.at new some filled
