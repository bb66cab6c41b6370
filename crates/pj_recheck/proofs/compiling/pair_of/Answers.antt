use Rattle.pj_recheck.proofs.Roused.{pair_found}
use Rattle.pj_recheck.proofs.compiling.pair_of.Goals as goal

pub returns-in-Some-clause-joins : goal.returns-in-Some-clause-joins
returns-in-Some-clause-joins c =
    pair_found c.args.classes.now c.as_slice.result.now c.class-item.result c.loop-class.class-index c.args.side.now.input c.args.other c.in-Some.pair c.loop-class-test.true c.as_slice.ensures c.class-item.is c.in-Some.ensures.own c.in-Some.ensures.next
