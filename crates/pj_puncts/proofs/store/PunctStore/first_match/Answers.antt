use Rattle.std.proofs.Common.{◌≡◌, ◌∙◌, List, ap, ap₂, sym, subst}
use Rattle.pj_puncts.specs.declared.store.NumberedPunct.{NumberedPunct}
use Rattle.pj_puncts.specs.Alone.{kept_of}
use Rattle.pj_puncts.specs.Indexed.{first_covering, least}
use Rattle.pj_puncts.specs.Hashes.{row_cells}
use Rattle.pj_puncts.specs.Stores.{AreRising, IsLeastMatch, Store}
use Rattle.pj_puncts.proofs.Alone.{first_of_all}
use Rattle.pj_puncts.proofs.Firsts.{first_least}
use Rattle.pj_puncts.proofs.Lookups.{first_for_row}
use Rattle.pj_puncts.proofs.store.PunctStore.first_match.Goals as goal

pub returns-clause-first : goal.returns-clause-first
returns-clause-first c =
    let kept = kept_of c.self.inside.arity c.self.inside.others c.self.inside.numbers in
    let same : kept ≡ c.args.self.now.kept = ap (λ (s : Store). s.kept) c.self.view_is in
    c.least.ensures
    ∙ (ap₂ least c.first-alone.ensures (c.first.ensures ∙ ap (λ (ks : List NumberedPunct). first_covering ks (row_cells c.args.row.now)) c.as_slice.ensures)
    ∙ (first_of_all c.self.inside.arity kept c.self.inside.others c.self.inside.index c.self.inside.numbers c.self.invariant (row_cells c.args.row.now)
    ∙ (ap (λ (ks : List NumberedPunct). first_covering ks (row_cells c.args.row.now)) same ∙ first_for_row c.args.self.now.kept c.args.row.now)))

pub returns-clause-least : goal.returns-clause-least
returns-clause-least c =
    let rising : AreRising c.args.self.now.kept = subst AreRising (ap (λ (s : Store). s.kept) c.self.view_is) c.self.invariant.rising in
    subst (IsLeastMatch c.args.self.now.kept c.args.row.now) (sym (returns-clause-first c)) (first_least c.args.self.now.kept c.args.row.now rising)
