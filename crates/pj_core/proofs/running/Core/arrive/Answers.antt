use Rattle.std.proofs.Common.{refl, reverse, rules}
use Rattle.std.proofs.lemmas.List.{places, with_items_is}
use Rattle.pj_core.specs.Calls.{IsCause, arriving_of}
use Rattle.pj_core.specs.Plans.{run_plan}
use Rattle.pj_events.specs.declared.events.Event.TheVariants.{Arrive}
use Rattle.pj_core.proofs.Words.{arrival-cause, arrived-now, below-operators, may-arrive, refused-again, refused-now}
use Rattle.pj_core.proofs.running.Core.arrive.Goals as goal

pub emit-requires-clause-there : goal.emit-requires-clause-there
emit-requires-clause-there c =
    below-operators (run_plan c.self.inside.plan.nodes c.self.inside.certs c.self.inside.trace) c.self.inside.limit c.self.inside.operators.items (reverse c.self.inside.closed) c.self.inside.halted c.self.inside.undrained c.self.inside.stop c.args.self.now c.self.view_is c.self.invariant
    c.number_of-from.result c.number_of-from.ensures.there c.as_mut_slice.result.now c.as_mut_slice.ensures.value

pub emit-requires-clause-may : goal.emit-requires-clause-may
emit-requires-clause-may c =
    may-arrive (run_plan c.self.inside.plan.nodes c.self.inside.certs c.self.inside.trace) c.self.inside.limit c.self.inside.operators.items (reverse c.self.inside.closed) c.self.inside.halted c.self.inside.undrained c.self.inside.stop c.args.self.now c.self.view_is c.self.invariant
    c.as_mut_slice.result.now c.number_of-from.result c.args.stream c.args.element c.as_mut_slice.ensures.value c.number_of-from.ensures.is c.requires.there c.requires.fits

pub returns-in-Some-clause-err : goal.returns-in-Some-clause-err
returns-in-Some-clause-err c =
    refused-again (run_plan c.self.inside.plan.nodes c.self.inside.certs c.self.inside.trace) c.self.inside.limit c.self.inside.operators.items (reverse c.self.inside.closed) c.self.inside.halted c.self.inside.undrained c.self.inside.stop c.args.self.now c.self.view_is c.self.invariant
    c.in-Some.stop _ c.in-Some.is

pub returns-in-Ok-clause-ok : goal.returns-in-Ok-clause-ok
returns-in-Ok-clause-ok c =
    arrived-now (run_plan c.self.inside.plan.nodes c.self.inside.certs c.self.inside.trace) c.self.inside.limit c.self.inside.operators.items (reverse c.self.inside.closed) c.self.inside.halted c.self.inside.undrained c.self.inside.stop c.args.self.now c.self.view_is c.self.invariant
    c.in-None.is (arriving_of c.args.stream c.args.element) c.requires.there c.as_mut_slice.result.now c.emit.new.operators _ c.number_of-from.result _ c.emit.new.outs c.as_mut_slice.ensures.value (with_items_is c.self.inside.operators c.emit.new.operators (search (rules, places))) c.number_of-from.ensures.is
    c.in-Ok.ensures.ok c.emit.ensures.stays refl

pub returns-in-Err-clause-err : goal.returns-in-Err-clause-err
returns-in-Err-clause-err c =
    refused-now (run_plan c.self.inside.plan.nodes c.self.inside.certs c.self.inside.trace) c.self.inside.limit c.self.inside.operators.items (reverse c.self.inside.closed) c.self.inside.halted c.self.inside.undrained c.self.inside.stop c.args.self.now c.self.view_is c.self.invariant
    _ _ c.emit.new.outs c.in-Err.stop (λ o. IsCause o (Arrive c.args.stream c.args.element) c.in-Err.stop) c.in-None.is c.in-Err.ensures.refused
    (arrival-cause (run_plan c.self.inside.plan.nodes c.self.inside.certs c.self.inside.trace) c.self.inside.limit c.self.inside.operators.items (reverse c.self.inside.closed) c.self.inside.halted c.self.inside.undrained c.self.inside.stop c.args.self.now c.self.view_is c.self.invariant
    c.args.stream c.args.element c.as_mut_slice.result.now c.number_of-from.result c.in-Err.stop c.requires.there c.as_mut_slice.ensures.value c.number_of-from.ensures.is c.in-Err.ensures.err)
