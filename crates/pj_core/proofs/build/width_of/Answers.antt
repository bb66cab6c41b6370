use Rattle.std.proofs.Common.{length, ap, arith}
use Rattle.pj_core.proofs.Makes.{few_columns}
use Rattle.pj_core.proofs.build.width_of.Goals as goal

pub overflow_cast-result : goal.overflow_cast-result
overflow_cast-result c =
    let few = few_columns c.args.plan.now.nodes c.args.number c.nodes-nodes.ensures.sound c.requires in
    let a = ap length c.columns.ensures in
    let b = ap length c.schema.ensures in
    omega (arith, few, a, b)
