use Rattle.pj_report.proofs.Exact.{exact_by_bag, totals_exact}
use Rattle.pj_report.proofs.laws.totals_are_exact.Goals as goal

pub returns-clause-exact : goal.returns-clause-exact
returns-clause-exact c = totals_exact

pub returns-clause-bags : goal.returns-clause-bags
returns-clause-bags c = exact_by_bag
