use Rattle.pj_value.proofs.Bags.{same_where_counted, sub_where_counted}
use Rattle.pj_value.proofs.laws.bags_count_rows.Goals as goal

pub returns-clause-same : goal.returns-clause-same
returns-clause-same c = same_where_counted

pub returns-clause-sub : goal.returns-clause-sub
returns-clause-sub c = sub_where_counted
