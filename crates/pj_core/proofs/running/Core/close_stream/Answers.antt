use Rattle.std.proofs.Common.{[], ◌∷◌, ap, refl, reverse, rules, ◌∙◌}
use Rattle.std.proofs.lemmas.List.{places, reverse-append, with_items_is}
use Rattle.pj_events.specs.declared.events.Event.TheVariants.{Arrive}
use Rattle.pj_core.specs.Calls.{IsCause, closing_of}
use Rattle.pj_core.specs.Parts.{closing_in}
use Rattle.pj_core.specs.Plans.{run_plan}
use Rattle.pj_core.proofs.Words.{arrival-cause, closed-now, long-operators, may-close, refused-again, refused-now, streams-here}
use Rattle.pj_core.proofs.running.Core.close_stream.Goals as goal

pub close-requires-clause-there : goal.close-requires-clause-there
close-requires-clause-there c = streams-here (run_plan c.self.inside.plan.nodes c.self.inside.certs c.self.inside.trace) c.self.inside.limit c.self.inside.operators.items (reverse c.self.inside.closed) c.self.inside.halted c.self.inside.undrained c.self.inside.stop c.args.self.now c.self.view_is c.self.invariant c.args.stream c.requires.there

pub close-requires-clause-long : goal.close-requires-clause-long
close-requires-clause-long c = long-operators (run_plan c.self.inside.plan.nodes c.self.inside.certs c.self.inside.trace) c.self.inside.limit c.self.inside.operators.items (reverse c.self.inside.closed) c.self.inside.halted c.self.inside.undrained c.self.inside.stop c.args.self.now c.self.view_is c.self.invariant c.as_mut_slice.result.now c.as_mut_slice.ensures.value

pub close-requires-clause-may : goal.close-requires-clause-may
close-requires-clause-may c = may-close (run_plan c.self.inside.plan.nodes c.self.inside.certs c.self.inside.trace) c.self.inside.limit c.self.inside.operators.items (reverse c.self.inside.closed) c.self.inside.halted c.self.inside.undrained c.self.inside.stop c.args.self.now c.self.view_is c.self.invariant c.as_mut_slice.result.now c.args.stream c.as_mut_slice.ensures.value c.requires.there

pub returns-in-Some-clause-err : goal.returns-in-Some-clause-err
returns-in-Some-clause-err c = refused-again (run_plan c.self.inside.plan.nodes c.self.inside.certs c.self.inside.trace) c.self.inside.limit c.self.inside.operators.items (reverse c.self.inside.closed) c.self.inside.halted c.self.inside.undrained c.self.inside.stop c.args.self.now c.self.view_is c.self.invariant c.in-Some.stop _ c.in-Some.is

pub returns-in-Ok-clause-ok : goal.returns-in-Ok-clause-ok
returns-in-Ok-clause-ok c =
    closed-now (run_plan c.self.inside.plan.nodes c.self.inside.certs c.self.inside.trace) c.self.inside.limit c.self.inside.operators.items (reverse c.self.inside.closed) c.self.inside.halted c.self.inside.undrained c.self.inside.stop c.args.self.now c.self.view_is c.self.invariant
    c.in-None.is c.args.stream c.requires.there c.as_mut_slice.result.now c.close.new.operators _ _ _ c.close.new.outs c.as_mut_slice.ensures.value (with_items_is c.self.inside.operators c.close.new.operators (search (rules, places))) refl
    c.in-Ok.ensures.ok c.close.ensures.stays (ap reverse c.in-Ok.ensures.closed ∙ reverse-append c.self.inside.closed (c.args.stream ∷ []))

pub returns-in-Err-clause-err : goal.returns-in-Err-clause-err
returns-in-Err-clause-err c =
    refused-now (run_plan c.self.inside.plan.nodes c.self.inside.certs c.self.inside.trace) c.self.inside.limit c.self.inside.operators.items (reverse c.self.inside.closed) c.self.inside.halted c.self.inside.undrained c.self.inside.stop c.args.self.now c.self.view_is c.self.invariant
    _ _ c.close.new.outs c.in-Err.stop (λ o. IsCause o (Arrive c.args.stream (closing_of o c.args.stream).element) c.in-Err.stop) c.in-None.is c.in-Err.ensures.refused
    (arrival-cause (run_plan c.self.inside.plan.nodes c.self.inside.certs c.self.inside.trace) c.self.inside.limit c.self.inside.operators.items (reverse c.self.inside.closed) c.self.inside.halted c.self.inside.undrained c.self.inside.stop c.args.self.now c.self.view_is c.self.invariant
    c.args.stream (closing_in c.self.inside.plan.nodes c.args.stream) c.as_mut_slice.result.now _ c.in-Err.stop c.requires.there c.as_mut_slice.ensures.value refl c.in-Err.ensures.err)
