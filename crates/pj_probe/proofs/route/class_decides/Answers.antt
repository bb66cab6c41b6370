use Rattle.pj_events.specs.Join.{ClassCol}
use Rattle.pj_probe.proofs.Decided.{own_first, own_second}
use Rattle.pj_probe.proofs.route.class_decides.Goals as goal

abbrev none : ClassCol
none = record { input = 0; column = 0 }

pub returns-then-is_at : goal.returns-then-is_at
returns-then-is_at c = λ t.
    own_first c.args.class.now c.args.own c.args.input c.args.link none none c.in-len2.len_at_least c.in-len2.len_below c.if-own-input.false (c.is_at.ensures c.if-is_at.true) (c.is_at-then-is_at.ensures t)

pub returns-then-is_at-2 : goal.returns-then-is_at-2
returns-then-is_at-2 c = λ t.
    own_second c.args.class.now c.args.own c.args.input c.args.link none none c.in-len2.len_at_least c.in-len2.len_below c.if-own-input.false (c.is_at-in-len2.ensures c.if-is_at-2.true) (c.is_at-then-is_at-2.ensures t)
