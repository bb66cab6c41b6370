use Rattle.std.proofs.Common.{refl}
use Rattle.pj_value.specs.Values.{row_eq}
use Rattle.pj_group.proofs.Bounds.{found_states}
use Rattle.pj_group.proofs.handing.append_one.Goals as goal

pub append_states-requires : goal.append_states-requires
append_states-requires c =
    found_states _ c.args.spec.now c.args.slots.now.entries (row_eq c.args.key.now) c.in-Some.states.now c.args.spec.now.aggs c.requires c.in-Some.ensures.value refl
