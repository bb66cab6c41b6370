use Rattle.std.proofs.Common.{◌<◌, length, reverse, rules, subst, sym}
use Rattle.std.proofs.lemmas.List.{places, with_items_is}
use Rattle.pj_core.specs.Plans.{run_plan}
use Rattle.pj_events.specs.declared.events.Event.TheVariants.{Sweep as Swept}
use Rattle.pj_operator.specs.Acts.{HasJoinInput, HasSweptAt, IsSweepStop}
use Rattle.pj_core.specs.Calls.{HasSwept, IsCause, IsJoinInput}
use Rattle.pj_operator.specs.Operators.{running_at}
use Rattle.pj_core.proofs.Calls.{input-there, swept-cause, swept-core}
use Rattle.pj_core.specs.Turns.{StaysQuietBelow}
use Rattle.pj_core.proofs.Quiet.{sweeps-above}
use Rattle.pj_core.proofs.Words.{holds-now, linked-operators, made-now, of-parts, orderly-operators, stop-none, stopped-now}
use Rattle.pj_core.proofs.running.Core.sweep_one.Goals as goal

pub sweep_at-requires-clause-there : goal.sweep_at-requires-clause-there
sweep_at-requires-clause-there c =
    subst (λ ys. c.args.join < length ys) (sym c.as_mut_slice.ensures.value)
    (input-there (run_plan c.self.inside.plan.nodes c.self.inside.certs c.self.inside.trace) c.self.inside.limit c.self.inside.operators.items (reverse c.self.inside.closed) c.self.inside.halted c.self.inside.undrained c.self.invariant c.args.join c.args.input (of-parts (run_plan c.self.inside.plan.nodes c.self.inside.certs c.self.inside.trace) c.self.inside.limit c.self.inside.operators.items (reverse c.self.inside.closed) c.self.inside.halted c.self.inside.undrained c.self.inside.stop c.args.self.now c.self.view_is c.self.invariant (λ o. IsJoinInput o c.args.join c.args.input) (stop-none (run_plan c.self.inside.plan.nodes c.self.inside.certs c.self.inside.trace) c.self.inside.limit c.self.inside.operators.items (reverse c.self.inside.closed) c.self.inside.halted c.self.inside.undrained c.self.inside.stop c.args.self.now c.self.view_is c.self.invariant c.requires.on) c.requires.there)).0

pub sweep_at-requires-clause-input : goal.sweep_at-requires-clause-input
sweep_at-requires-clause-input c =
    subst (λ ys. HasJoinInput (running_at ys c.args.join).state c.args.input) (sym c.as_mut_slice.ensures.value)
    (input-there (run_plan c.self.inside.plan.nodes c.self.inside.certs c.self.inside.trace) c.self.inside.limit c.self.inside.operators.items (reverse c.self.inside.closed) c.self.inside.halted c.self.inside.undrained c.self.invariant c.args.join c.args.input (of-parts (run_plan c.self.inside.plan.nodes c.self.inside.certs c.self.inside.trace) c.self.inside.limit c.self.inside.operators.items (reverse c.self.inside.closed) c.self.inside.halted c.self.inside.undrained c.self.inside.stop c.args.self.now c.self.view_is c.self.invariant (λ o. IsJoinInput o c.args.join c.args.input) (stop-none (run_plan c.self.inside.plan.nodes c.self.inside.certs c.self.inside.trace) c.self.inside.limit c.self.inside.operators.items (reverse c.self.inside.closed) c.self.inside.halted c.self.inside.undrained c.self.inside.stop c.args.self.now c.self.view_is c.self.invariant c.requires.on) c.requires.there)).1

pub sweep_at-requires-clause-linked : goal.sweep_at-requires-clause-linked
sweep_at-requires-clause-linked c = linked-operators (run_plan c.self.inside.plan.nodes c.self.inside.certs c.self.inside.trace) c.self.inside.limit c.self.inside.operators.items (reverse c.self.inside.closed) c.self.inside.halted c.self.inside.undrained c.self.inside.stop c.args.self.now c.self.view_is c.self.invariant c.as_mut_slice.result.now c.as_mut_slice.ensures.value

pub sweep_at-requires-clause-orderly : goal.sweep_at-requires-clause-orderly
sweep_at-requires-clause-orderly c = orderly-operators (run_plan c.self.inside.plan.nodes c.self.inside.certs c.self.inside.trace) c.self.inside.limit c.self.inside.operators.items (reverse c.self.inside.closed) c.self.inside.halted c.self.inside.undrained c.self.inside.stop c.args.self.now c.self.view_is c.self.invariant c.as_mut_slice.result.now c.as_mut_slice.ensures.value

pub invariant_of-self : goal.invariant_of-self
invariant_of-self c =
    made-now (run_plan c.self.inside.plan.nodes c.self.inside.certs c.self.inside.trace) c.self.inside.limit c.self.inside.operators.items (reverse c.self.inside.closed) c.self.inside.halted c.self.inside.undrained c.self.inside.stop c.args.self.now c.self.view_is c.self.invariant c.as_mut_slice.result.now c.sweep_at.new.operators _ c.as_mut_slice.ensures.value (with_items_is c.self.inside.operators c.sweep_at.new.operators (search (rules, places))) c.sweep_at.ensures.frames (λ o. (c.sweep_at.ensures.opens o).0)

pub returns-in-Ok-clause-ok : goal.returns-in-Ok-clause-ok
returns-in-Ok-clause-ok c =
    holds-now (run_plan c.self.inside.plan.nodes c.self.inside.certs c.self.inside.trace) c.self.inside.limit c.self.inside.operators.items (reverse c.self.inside.closed) c.self.inside.halted c.self.inside.undrained c.self.inside.stop c.args.self.now c.self.view_is c.self.invariant
    (λ a b. HasSwept a b c.args.join c.args.input c.in-Ok.count) (stop-none (run_plan c.self.inside.plan.nodes c.self.inside.certs c.self.inside.trace) c.self.inside.limit c.self.inside.operators.items (reverse c.self.inside.closed) c.self.inside.halted c.self.inside.undrained c.self.inside.stop c.args.self.now c.self.view_is c.self.invariant c.requires.on) c.sweep_at.new.operators _ (reverse c.self.inside.closed) c.sweep_at.new.outs (with_items_is c.self.inside.operators c.sweep_at.new.operators (search (rules, places)))
    (swept-core (run_plan c.self.inside.plan.nodes c.self.inside.certs c.self.inside.trace) c.self.inside.limit c.self.inside.operators.items (reverse c.self.inside.closed) c.self.inside.halted c.self.inside.undrained c.self.invariant c.sweep_at.new.operators c.sweep_at.new.outs c.args.join c.args.input c.in-Ok.count
    (of-parts (run_plan c.self.inside.plan.nodes c.self.inside.certs c.self.inside.trace) c.self.inside.limit c.self.inside.operators.items (reverse c.self.inside.closed) c.self.inside.halted c.self.inside.undrained c.self.inside.stop c.args.self.now c.self.view_is c.self.invariant (λ o. IsJoinInput o c.args.join c.args.input) (stop-none (run_plan c.self.inside.plan.nodes c.self.inside.certs c.self.inside.trace) c.self.inside.limit c.self.inside.operators.items (reverse c.self.inside.closed) c.self.inside.halted c.self.inside.undrained c.self.inside.stop c.args.self.now c.self.view_is c.self.invariant c.requires.on) c.requires.there)
    (subst (λ ys. HasSweptAt c.self.inside.trace (record { operators = ys; outs = c.self.inside.undrained }) (record { operators = c.sweep_at.new.operators; outs = c.sweep_at.new.outs }) c.args.join c.args.input c.in-Ok.count) c.as_mut_slice.ensures.value c.in-Ok.ensures.ok))

pub returns-in-Ok-clause-quiet : goal.returns-in-Ok-clause-quiet
returns-in-Ok-clause-quiet c =
    holds-now (run_plan c.self.inside.plan.nodes c.self.inside.certs c.self.inside.trace) c.self.inside.limit c.self.inside.operators.items (reverse c.self.inside.closed) c.self.inside.halted c.self.inside.undrained c.self.inside.stop c.args.self.now c.self.view_is c.self.invariant
    (λ a b. StaysQuietBelow a b c.args.join) (stop-none (run_plan c.self.inside.plan.nodes c.self.inside.certs c.self.inside.trace) c.self.inside.limit c.self.inside.operators.items (reverse c.self.inside.closed) c.self.inside.halted c.self.inside.undrained c.self.inside.stop c.args.self.now c.self.view_is c.self.invariant c.requires.on) c.sweep_at.new.operators _ (reverse c.self.inside.closed) c.sweep_at.new.outs (with_items_is c.self.inside.operators c.sweep_at.new.operators (search (rules, places)))
    (sweeps-above (run_plan c.self.inside.plan.nodes c.self.inside.certs c.self.inside.trace) c.self.inside.limit c.self.inside.operators.items (reverse c.self.inside.closed) c.self.inside.halted c.self.inside.undrained c.args.join c.sweep_at.new.operators c.sweep_at.new.outs c.args.input c.in-Ok.count
    (subst (λ ys. HasSweptAt c.self.inside.trace (record { operators = ys; outs = c.self.inside.undrained }) (record { operators = c.sweep_at.new.operators; outs = c.sweep_at.new.outs }) c.args.join c.args.input c.in-Ok.count) c.as_mut_slice.ensures.value c.in-Ok.ensures.ok))

pub returns-in-Err-clause-err : goal.returns-in-Err-clause-err
returns-in-Err-clause-err c =
    stopped-now (run_plan c.self.inside.plan.nodes c.self.inside.certs c.self.inside.trace) c.self.inside.limit c.self.inside.operators.items (reverse c.self.inside.closed) c.self.inside.halted c.self.inside.undrained c.self.inside.stop c.args.self.now c.self.view_is c.self.invariant _ _ c.sweep_at.new.outs c.in-Err.stop (λ o. IsCause o (Swept c.args.join c.args.input) c.in-Err.stop) (stop-none (run_plan c.self.inside.plan.nodes c.self.inside.certs c.self.inside.trace) c.self.inside.limit c.self.inside.operators.items (reverse c.self.inside.closed) c.self.inside.halted c.self.inside.undrained c.self.inside.stop c.args.self.now c.self.view_is c.self.invariant c.requires.on) c.in-Err.ensures.refused
    (swept-cause (run_plan c.self.inside.plan.nodes c.self.inside.certs c.self.inside.trace) c.self.inside.limit c.self.inside.operators.items (reverse c.self.inside.closed) c.self.inside.halted c.self.inside.undrained c.self.invariant c.args.join c.args.input c.in-Err.stop (of-parts (run_plan c.self.inside.plan.nodes c.self.inside.certs c.self.inside.trace) c.self.inside.limit c.self.inside.operators.items (reverse c.self.inside.closed) c.self.inside.halted c.self.inside.undrained c.self.inside.stop c.args.self.now c.self.view_is c.self.invariant (λ o. IsJoinInput o c.args.join c.args.input) (stop-none (run_plan c.self.inside.plan.nodes c.self.inside.certs c.self.inside.trace) c.self.inside.limit c.self.inside.operators.items (reverse c.self.inside.closed) c.self.inside.halted c.self.inside.undrained c.self.inside.stop c.args.self.now c.self.view_is c.self.invariant c.requires.on) c.requires.there)
    (subst (λ ys. IsSweepStop c.self.inside.trace (record { operators = ys; outs = c.self.inside.undrained }) c.args.join c.args.input c.in-Err.stop) c.as_mut_slice.ensures.value c.in-Err.ensures.err))
