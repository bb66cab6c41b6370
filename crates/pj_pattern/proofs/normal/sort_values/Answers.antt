use Rattle.std.proofs.Common.{◌≡◌, rules}
use Rattle.std.specs.Ordering.{is_lt}
use Rattle.std.proofs.lemmas.Fn.{always_returns_same}
use Rattle.std.proofs.lemmas.List.MinMax.{ranks_by}
use Rattle.pj_value.specs.Values.{value_cmp}
use Rattle.pj_value.proofs.Orders.{total}
use Rattle.pj_pattern.proofs.normal.sort_values.Goals as goal

pub returns-clause-sorted : goal.returns-clause-sorted
returns-clause-sorted c = c.in_ok-sort_by.ensures.sorted (λ x y. is_lt (value_cmp x y)) (ranks_by total (λ v. v)) (always_returns_same _ (λ a r. is_lt r ≡ is_lt (value_cmp a.0.now a.1.0.now)) _ (λ a r f' k. search rules))
