use Rattle.std.proofs.Common.{◌≡◌, ◌∙◌, List, Option, ℕ, true, ap, ap₂, subst, sym}
use Rattle.pj_puncts.specs.declared.store.NumberedPunct.{NumberedPunct}
use Rattle.pj_puncts.specs.Alone.{first_told, kept_of}
use Rattle.pj_puncts.specs.Indexed.{first_covering, is_below, least}
use Rattle.pj_puncts.specs.Stores.{Store, TellsCover, covered_below}
use Rattle.pj_puncts.proofs.Alone.{below_left, first_of_all}
use Rattle.pj_puncts.proofs.Lookups.{below_tells, first_below, first_tells}
use Rattle.pj_puncts.proofs.store.PunctStore.covering_cells.Goals as goal

pub returns : goal.returns
returns g c =
    let s = c.self.inside in
    let kept = kept_of s.arity s.others s.numbers in
    let cells = g.C.Cells.cells c.args.cells.now in
    let first : c.least.result ≡ first_covering kept cells =
    c.least.ensures
    ∙ (ap₂ least c.first-alone.ensures (c.first.ensures ∙ ap (λ (ks : List NumberedPunct). first_covering ks cells) c.as_slice.ensures)
    ∙ first_of_all s.arity kept s.others s.index s.numbers c.self.invariant cells) in
    subst (λ (t : Store). TellsCover t.kept c.args.below cells c.least.result) c.self.view_is
    (subst (TellsCover kept c.args.below cells) (sym first) (first_tells kept cells c.args.below c.self.invariant.rising))

pub returns-then-is_below : goal.returns-then-is_below
returns-then-is_below g c =
    let s = c.self.inside in
    let kept = kept_of s.arity s.others s.numbers in
    let cells = g.C.Cells.cells c.args.cells.now in
    let alone = first_told s.arity s.numbers cells in
    let yes : is_below c.first-alone.result c.args.below ≡ true = sym c.is_below.ensures ∙ c.if-is_below.true in
    let told : is_below alone c.args.below ≡ true = ap (λ (o : Option ℕ). is_below o c.args.below) (sym c.first-alone.ensures) ∙ yes in
    let covered : covered_below kept c.args.below cells ≡ true =
    sym (first_below kept cells c.args.below c.self.invariant.rising)
    ∙ (sym (ap (λ (o : Option ℕ). is_below o c.args.below) (first_of_all s.arity kept s.others s.index s.numbers c.self.invariant cells)) ∙ below_left alone (first_covering s.others cells) c.args.below told) in
    subst (λ (t : Store). TellsCover t.kept c.args.below cells c.first-alone.result) c.self.view_is (below_tells kept cells c.args.below c.first-alone.result yes covered)
