use Rattle.std.proofs.Common.{reverse, rules, subst}
use Rattle.std.proofs.lemmas.List.{places, with_items_is}
use Rattle.pj_core.specs.Plans.{run_plan}
use Rattle.pj_operator.specs.Acts.{IsProbeStop, ProbesOn}
use Rattle.pj_core.specs.Turns.{MayProbeAt, ProbesAbove}
use Rattle.pj_core.proofs.Probes.{may-probe, probe-stops-now}
use Rattle.pj_core.proofs.Quiet.{probes-above}
use Rattle.pj_core.proofs.Words.{holds-now, linked-operators, orderly-operators, stop-none}
use Rattle.pj_core.proofs.running.Core.probe_at.Goals as goal

pub probe_on-requires-clause-orderly : goal.probe_on-requires-clause-orderly
probe_on-requires-clause-orderly c = orderly-operators (run_plan c.self.inside.plan.nodes c.self.inside.certs c.self.inside.trace) c.self.inside.limit c.self.inside.operators.items (reverse c.self.inside.closed) c.self.inside.halted c.self.inside.undrained c.self.inside.stop c.args.self.now c.self.view_is c.self.invariant c.as_mut_slice.result.now c.as_mut_slice.ensures.value

pub probe_on-requires-clause-linked : goal.probe_on-requires-clause-linked
probe_on-requires-clause-linked c = linked-operators (run_plan c.self.inside.plan.nodes c.self.inside.certs c.self.inside.trace) c.self.inside.limit c.self.inside.operators.items (reverse c.self.inside.closed) c.self.inside.halted c.self.inside.undrained c.self.inside.stop c.args.self.now c.self.view_is c.self.invariant c.as_mut_slice.result.now c.as_mut_slice.ensures.value

pub returns-in-Ok-clause-ok : goal.returns-in-Ok-clause-ok
returns-in-Ok-clause-ok c =
    holds-now (run_plan c.self.inside.plan.nodes c.self.inside.certs c.self.inside.trace) c.self.inside.limit c.self.inside.operators.items (reverse c.self.inside.closed) c.self.inside.halted c.self.inside.undrained c.self.inside.stop c.args.self.now c.self.view_is c.self.invariant
    (λ a b. MayProbeAt c.in-Ok.more a b c.args.join) (stop-none (run_plan c.self.inside.plan.nodes c.self.inside.certs c.self.inside.trace) c.self.inside.limit c.self.inside.operators.items (reverse c.self.inside.closed) c.self.inside.halted c.self.inside.undrained c.self.inside.stop c.args.self.now c.self.view_is c.self.invariant c.requires.on) c.probe_on.new.operators _ (reverse c.self.inside.closed) c.probe_on.new.outs (with_items_is c.self.inside.operators c.probe_on.new.operators (search (rules, places)))
    (may-probe (run_plan c.self.inside.plan.nodes c.self.inside.certs c.self.inside.trace) c.self.inside.limit c.self.inside.operators.items (reverse c.self.inside.closed) c.self.inside.halted c.self.inside.undrained c.self.invariant c.args.join c.in-Ok.more c.probe_on.new.operators c.probe_on.new.outs
    (subst (λ ys. ProbesOn c.in-Ok.more (record { operators = ys; outs = c.self.inside.undrained }) (record { operators = c.probe_on.new.operators; outs = c.probe_on.new.outs }) c.args.join) c.as_mut_slice.ensures.value c.in-Ok.ensures.ok))

pub returns-in-Ok-clause-quiet : goal.returns-in-Ok-clause-quiet
returns-in-Ok-clause-quiet c =
    holds-now (run_plan c.self.inside.plan.nodes c.self.inside.certs c.self.inside.trace) c.self.inside.limit c.self.inside.operators.items (reverse c.self.inside.closed) c.self.inside.halted c.self.inside.undrained c.self.inside.stop c.args.self.now c.self.view_is c.self.invariant
    (λ a b. ProbesAbove c.in-Ok.more a b c.args.join) (stop-none (run_plan c.self.inside.plan.nodes c.self.inside.certs c.self.inside.trace) c.self.inside.limit c.self.inside.operators.items (reverse c.self.inside.closed) c.self.inside.halted c.self.inside.undrained c.self.inside.stop c.args.self.now c.self.view_is c.self.invariant c.requires.on) c.probe_on.new.operators _ (reverse c.self.inside.closed) c.probe_on.new.outs (with_items_is c.self.inside.operators c.probe_on.new.operators (search (rules, places)))
    (probes-above (run_plan c.self.inside.plan.nodes c.self.inside.certs c.self.inside.trace) c.self.inside.limit c.self.inside.operators.items (reverse c.self.inside.closed) c.self.inside.halted c.self.inside.undrained c.args.join c.probe_on.new.operators c.probe_on.new.outs c.in-Ok.more
    (subst (λ ys. ProbesOn c.in-Ok.more (record { operators = ys; outs = c.self.inside.undrained }) (record { operators = c.probe_on.new.operators; outs = c.probe_on.new.outs }) c.args.join) c.as_mut_slice.ensures.value c.in-Ok.ensures.ok))

pub returns-in-Err-clause-err : goal.returns-in-Err-clause-err
returns-in-Err-clause-err c =
    probe-stops-now (run_plan c.self.inside.plan.nodes c.self.inside.certs c.self.inside.trace) c.self.inside.limit c.self.inside.operators.items (reverse c.self.inside.closed) c.self.inside.halted c.self.inside.undrained c.self.invariant c.self.inside.stop c.args.self.now c.self.view_is (stop-none (run_plan c.self.inside.plan.nodes c.self.inside.certs c.self.inside.trace) c.self.inside.limit c.self.inside.operators.items (reverse c.self.inside.closed) c.self.inside.halted c.self.inside.undrained c.self.inside.stop c.args.self.now c.self.view_is c.self.invariant c.requires.on) c.args.join _ c.probe_on.new.outs c.in-Err.stop c.in-Err.ensures.refused
    (subst (λ ys. IsProbeStop ys c.args.join c.in-Err.stop) c.as_mut_slice.ensures.value c.in-Err.ensures.err)
