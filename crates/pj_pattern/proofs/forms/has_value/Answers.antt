use Rattle.std.proofs.Common.{◌≡◌, ◌∙◌, rules}
use Rattle.std.proofs.lemmas.Fn.{always_returns_same}
use Rattle.pj_value.specs.Values.{value_cmp}
use Rattle.pj_pattern.proofs.BinarySearch.{searched}
use Rattle.pj_pattern.proofs.forms.has_value.Goals as goal

pub returns : goal.returns
returns c =
    let v = c.args.value.now in
    c.is_ok.ensures.value ∙ searched c.args.members.now v c.binary_search_by.result c.requires c.binary_search_by.ensures.bound
    (c.binary_search_by.ensures.position (λ m. value_cmp m v) (always_returns_same _ (λ a r. r ≡ value_cmp a.0.now v) _ (λ a r f' k. search rules)))
