use Rattle.pj_report.proofs.Sorting.{form_by_bags, sorted_by_bag, sorted_in_order, sorted_same}
use Rattle.pj_report.proofs.laws.sorted_by_bags.Goals as goal

pub returns-clause-same : goal.returns-clause-same
returns-clause-same c = sorted_same

pub returns-clause-order : goal.returns-clause-order
returns-clause-order c = sorted_in_order

pub returns-clause-lines : goal.returns-clause-lines
returns-clause-lines c = sorted_by_bag

pub returns-clause-form : goal.returns-clause-form
returns-clause-form c = form_by_bags
