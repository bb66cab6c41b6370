use Rattle.pj_group.proofs.Ordered.{finds_all}
use Rattle.pj_group.proofs.indexes.ColumnIndex.between.Goals as goal

pub returns-clause-ok : goal.returns-clause-ok
returns-clause-ok c =
    finds_all c.args.column c.args.slots.now.entries c.args.range c.catch_up.new.self c.in_ok-between.field-0.items c.catch_up.ensures.same c.in_ok-catch_up.ensures.ok c.catch_up.ensures.few c.in_ok-between.ensures
