use Rattle.std.proofs.Common.{◌≤◌, ◌∙◌, length, arith}
use Rattle.pj_join.proofs.Looped.{small_schema, stores_more}
use Rattle.pj_join.proofs.starting.empty_stores.Goals as goal

pub overflow_cast-len : goal.overflow_cast-len
overflow_cast-len c =
    let few : length c.schema-item.result ≤ 120 = small_schema c.args.schemas.now c.loop-schema.schema-index c.schema-item.result c.requires c.loop-schema-test.true c.schema-item.is in
    omega (arith, few, c.len.ensures)

pub loop-schema-preserved : goal.loop-schema-preserved
loop-schema-preserved c =
    stores_more c.loop-schema.punct_stores.items c.push.new.self.items c.in_ok-new.field-0 c.loop-schema.schema-index c.args.schemas.now c.schema-item.result c.in_ok-push.ensures.items c.in_ok-new.ensures.1 (c.in_ok-new.ensures.0 ∙ c.len.ensures) c.loop-schema-test.true c.schema-item.is c.loop-schema.invariant
