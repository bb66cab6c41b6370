use Rattle.std.proofs.Common.{List, subst, ◌∙◌, ◌≡◌, None, ap, get_or, rules}
use Rattle.std.specs.List.{slice_get}
use Rattle.std.specs.Option.{option_copied}
use Rattle.pj_value.specs.declared.values.Value.{Value}
use Rattle.pj_puncts.proofs.Lent.{lent_none, lent_some}
use Rattle.pj_puncts.proofs.given.Given.get.Goals as goal

pub returns-then-at-len : goal.returns-then-at-len
returns-then-at-len c = subst (λ (vs : List Value). None ≡ slice_get vs c.args.at) c.self.view_is (lent_none c.self.inside.values.items c.args.at c.self.invariant (search rules))

pub returns : goal.returns
returns c =
    let found : c.index-as_slice-at.result ≡ get_or c.self.inside.values.items c.args.at c.index-as_slice-at.result = c.index-as_slice-at.is ∙ ap (λ xs. get_or xs c.args.at c.index-as_slice-at.result) c.as_slice.ensures.value in
    subst (λ (vs : List Value). option_copied c.place.inside.value ≡ slice_get vs c.args.at) c.self.view_is
    (c.place.view_is ∙ lent_some c.self.inside.values.items c.args.at c.index-as_slice-at.result c.self.invariant (search rules) found)
