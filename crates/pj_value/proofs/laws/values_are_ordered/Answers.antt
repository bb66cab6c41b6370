use Rattle.pj_value.proofs.Orders.{row_equal_where_same, tied_where_same, total}
use Rattle.pj_value.proofs.laws.values_are_ordered.Goals as goal

pub returns-clause-total : goal.returns-clause-total
returns-clause-total c = total

pub returns-clause-same : goal.returns-clause-same
returns-clause-same c = tied_where_same

pub returns-clause-rows : goal.returns-clause-rows
returns-clause-rows c = row_equal_where_same
