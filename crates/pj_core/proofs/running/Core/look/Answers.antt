use Rattle.std.proofs.Common.{ap, ap₂, length, refl, reverse, ◌∙◌, arith}
use Rattle.pj_plan.specs.Nodes.{streams_of}
use Rattle.pj_core.specs.Plans.{run_plan}
use Rattle.pj_core.proofs.Ended.{ended-reversed}
use Rattle.pj_core.proofs.Words.{few-now, few-streams, is-look-now}
use Rattle.pj_events.specs.Outcomes.{ended_of}
use Rattle.pj_core.proofs.running.Core.look.Goals as goal

pub overflow_cast-streams : goal.overflow_cast-streams
overflow_cast-streams c =
    let few = few-streams (run_plan c.self.inside.plan.nodes c.self.inside.certs c.self.inside.trace) c.self.inside.limit c.self.inside.operators.items (reverse c.self.inside.closed) c.self.inside.halted c.self.inside.undrained c.self.inside.stop c.args.self.now c.self.view_is c.self.invariant in
    let nodes = c.self.invariant.0.few in
    let e = ap length c.streams.ensures in
    omega (arith, few, nodes, e)

pub sums_of-sums-requires : goal.sums_of-sums-requires
sums_of-sums-requires c = few-now (run_plan c.self.inside.plan.nodes c.self.inside.certs c.self.inside.trace) c.self.inside.limit c.self.inside.operators.items (reverse c.self.inside.closed) c.self.inside.halted c.self.inside.undrained c.self.inside.stop c.args.self.now c.self.view_is c.self.invariant c.as_slice.result.now c.as_slice.ensures.value

pub returns : goal.returns
returns c =
    is-look-now (run_plan c.self.inside.plan.nodes c.self.inside.certs c.self.inside.trace) c.self.inside.limit c.self.inside.operators.items (reverse c.self.inside.closed) c.self.inside.halted c.self.inside.undrained c.self.inside.stop c.args.self.now c.self.view_is c.self.invariant c.sums_of-sums.result _ c.as_slice.result.now c.as_slice.ensures.value c.sums_of-sums.ensures
    (record { pending = refl; taken = refl; stored = refl; waiting = refl; streams_are = ap length c.streams.ensures; ended = c.count_ended.ensures ∙ ap₂ ended_of (ap length c.streams.ensures) c.as_slice-2.ensures ∙ ended-reversed (length (streams_of c.self.inside.plan.nodes)) c.self.inside.closed; outputs = c.len.ensures; halted = refl; stop = refl })
