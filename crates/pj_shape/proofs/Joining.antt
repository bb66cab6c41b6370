-- The test whether rows join.
use Rattle.std.proofs.Common.{true, List, ◌≡◌}
use Rattle.std.specs.List.{list_all}
use Rattle.pj_value.specs.declared.values.Value.{Value}
use Rattle.pj_value.specs.Lists.{In}
use Rattle.pj_value.specs.Values.{value_eq}
use Rattle.pj_value.proofs.Members.{all_at, all_from}
use Rattle.pj_value.proofs.Orders.{equal_if_same, same_if_equal}
use Rattle.pj_shape.specs.declared.joins.ClassCol.{ClassCol}
use Rattle.pj_shape.specs.Joining.{Joins, Part, all_equal, joins, values}
use Rattle.pj_shape.specs.Laws.{TestsJoining}

pub all_equal-at : (vs : List Value) (v w : Value) → all_equal vs ≡ true → In v vs → In w vs → v ≡ w
all_equal-at vs v w t hv hw = same_if_equal v w (all_at (value_eq v) vs w (all_at (λ u. list_all (value_eq u) vs) vs v t hv) hw)

pub all_equal-from : (vs : List Value) → ((v w : Value) → In v vs → In w vs → v ≡ w) → all_equal vs ≡ true
all_equal-from vs f = all_from (λ u. list_all (value_eq u) vs) vs (λ v hv. all_from (value_eq v) vs (λ w hw. equal_if_same v w (f v w hv hw)))

pub joins-at : (classes : List (List ClassCol)) (parts : List Part) → joins classes parts ≡ true → Joins classes parts
joins-at classes parts t class h v w = all_equal-at (values parts class) v w (all_at (λ k. all_equal (values parts k)) classes class t h)

pub joins-from : (classes : List (List ClassCol)) (parts : List Part) → Joins classes parts → joins classes parts ≡ true
joins-from classes parts f = all_from (λ k. all_equal (values parts k)) classes (λ class h. all_equal-from (values parts class) (f class h))

pub joined_where_tested : TestsJoining
joined_where_tested classes parts = (joins-at classes parts, joins-from classes parts)
