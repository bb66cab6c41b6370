use Rattle.std.proofs.Common.{refl, reverse, rules, subst}
use Rattle.std.proofs.lemmas.List.{places, with_items_is}
use Rattle.pj_core.specs.Plans.{run_plan}
use Rattle.pj_operator.specs.Acts.{HasGivenOn, IsGiveStop}
use Rattle.pj_core.specs.Calls.{HasGiven, IsGiveCause}
use Rattle.pj_core.proofs.Calls.{given-cause, given-core}
use Rattle.pj_core.proofs.Words.{holds-now, made-now, may-give, on-now, open-parts, refused-again, refused-now}
use Rattle.pj_core.proofs.running.Core.give.Goals as goal

pub give_found-requires-clause-there : goal.give_found-requires-clause-there
give_found-requires-clause-there c = (open-parts (run_plan c.self.inside.plan.nodes c.self.inside.certs c.self.inside.trace) c.self.inside.limit c.self.inside.operators.items (reverse c.self.inside.closed) c.self.inside.halted c.self.inside.undrained c.self.inside.stop c.args.self.now c.self.view_is c.self.invariant c.args.probe (c.requires.open (on-now (run_plan c.self.inside.plan.nodes c.self.inside.certs c.self.inside.trace) c.self.inside.limit c.self.inside.operators.items (reverse c.self.inside.closed) c.self.inside.halted c.self.inside.undrained c.self.inside.stop c.args.self.now c.self.view_is c.self.invariant c.in-None.is)) c.as_mut_slice.result.now c.as_mut_slice.ensures.value).0

pub give_found-requires-clause-open : goal.give_found-requires-clause-open
give_found-requires-clause-open c = (open-parts (run_plan c.self.inside.plan.nodes c.self.inside.certs c.self.inside.trace) c.self.inside.limit c.self.inside.operators.items (reverse c.self.inside.closed) c.self.inside.halted c.self.inside.undrained c.self.inside.stop c.args.self.now c.self.view_is c.self.invariant c.args.probe (c.requires.open (on-now (run_plan c.self.inside.plan.nodes c.self.inside.certs c.self.inside.trace) c.self.inside.limit c.self.inside.operators.items (reverse c.self.inside.closed) c.self.inside.halted c.self.inside.undrained c.self.inside.stop c.args.self.now c.self.view_is c.self.invariant c.in-None.is)) c.as_mut_slice.result.now c.as_mut_slice.ensures.value).1

pub give_found-requires-clause-may : goal.give_found-requires-clause-may
give_found-requires-clause-may c =
    let on = on-now (run_plan c.self.inside.plan.nodes c.self.inside.certs c.self.inside.trace) c.self.inside.limit c.self.inside.operators.items (reverse c.self.inside.closed) c.self.inside.halted c.self.inside.undrained c.self.inside.stop c.args.self.now c.self.view_is c.self.invariant c.in-None.is in
    may-give (run_plan c.self.inside.plan.nodes c.self.inside.certs c.self.inside.trace) c.self.inside.limit c.self.inside.operators.items (reverse c.self.inside.closed) c.self.inside.halted c.self.inside.undrained c.self.inside.stop c.args.self.now c.self.view_is c.self.invariant c.as_mut_slice.result.now c.args.probe c.args.found.rows c.as_mut_slice.ensures.value (c.requires.open on) (c.requires.fits on)

pub returns-in-Some-clause-err : goal.returns-in-Some-clause-err
returns-in-Some-clause-err c = refused-again (run_plan c.self.inside.plan.nodes c.self.inside.certs c.self.inside.trace) c.self.inside.limit c.self.inside.operators.items (reverse c.self.inside.closed) c.self.inside.halted c.self.inside.undrained c.self.inside.stop c.args.self.now c.self.view_is c.self.invariant c.in-Some.stop _ c.in-Some.is

pub returns-in-Ok-clause-ok : goal.returns-in-Ok-clause-ok
returns-in-Ok-clause-ok c =
    holds-now (run_plan c.self.inside.plan.nodes c.self.inside.certs c.self.inside.trace) c.self.inside.limit c.self.inside.operators.items (reverse c.self.inside.closed) c.self.inside.halted c.self.inside.undrained c.self.inside.stop c.args.self.now c.self.view_is c.self.invariant
    (λ a b. HasGiven a b c.args.probe c.args.found) c.in-None.is c.give_found.new.operators _ (reverse c.self.inside.closed) c.give_found.new.outs (with_items_is c.self.inside.operators c.give_found.new.operators (search (rules, places)))
    (given-core (run_plan c.self.inside.plan.nodes c.self.inside.certs c.self.inside.trace) c.self.inside.limit c.self.inside.operators.items (reverse c.self.inside.closed) c.self.inside.halted c.self.inside.undrained c.self.invariant c.give_found.new.operators c.give_found.new.outs c.args.probe c.args.found
    (open-parts (run_plan c.self.inside.plan.nodes c.self.inside.certs c.self.inside.trace) c.self.inside.limit c.self.inside.operators.items (reverse c.self.inside.closed) c.self.inside.halted c.self.inside.undrained c.self.inside.stop c.args.self.now c.self.view_is c.self.invariant c.args.probe (c.requires.open (on-now (run_plan c.self.inside.plan.nodes c.self.inside.certs c.self.inside.trace) c.self.inside.limit c.self.inside.operators.items (reverse c.self.inside.closed) c.self.inside.halted c.self.inside.undrained c.self.inside.stop c.args.self.now c.self.view_is c.self.invariant c.in-None.is)) c.self.inside.operators.items refl)
    (subst (λ ys. HasGivenOn (record { operators = ys; outs = c.self.inside.undrained }) (record { operators = c.give_found.new.operators; outs = c.give_found.new.outs }) c.args.probe c.args.found.rows) c.as_mut_slice.ensures.value c.in-Ok.ensures.ok))

pub returns-in-Err-clause-err : goal.returns-in-Err-clause-err
returns-in-Err-clause-err c =
    refused-now (run_plan c.self.inside.plan.nodes c.self.inside.certs c.self.inside.trace) c.self.inside.limit c.self.inside.operators.items (reverse c.self.inside.closed) c.self.inside.halted c.self.inside.undrained c.self.inside.stop c.args.self.now c.self.view_is c.self.invariant _ _ c.give_found.new.outs c.in-Err.stop (λ o. IsGiveCause o c.args.probe c.args.found c.in-Err.stop) c.in-None.is c.in-Err.ensures.refused
    (given-cause (run_plan c.self.inside.plan.nodes c.self.inside.certs c.self.inside.trace) c.self.inside.limit c.self.inside.operators.items (reverse c.self.inside.closed) c.self.inside.halted c.self.inside.undrained c.self.invariant c.args.probe c.args.found c.in-Err.stop (open-parts (run_plan c.self.inside.plan.nodes c.self.inside.certs c.self.inside.trace) c.self.inside.limit c.self.inside.operators.items (reverse c.self.inside.closed) c.self.inside.halted c.self.inside.undrained c.self.inside.stop c.args.self.now c.self.view_is c.self.invariant c.args.probe (c.requires.open (on-now (run_plan c.self.inside.plan.nodes c.self.inside.certs c.self.inside.trace) c.self.inside.limit c.self.inside.operators.items (reverse c.self.inside.closed) c.self.inside.halted c.self.inside.undrained c.self.inside.stop c.args.self.now c.self.view_is c.self.invariant c.in-None.is)) c.self.inside.operators.items refl)
    (subst (λ ys. IsGiveStop ys c.args.probe c.args.found.rows c.in-Err.stop) c.as_mut_slice.ensures.value c.in-Err.ensures.err))

pub invariant_of-self : goal.invariant_of-self
invariant_of-self c =
    made-now (run_plan c.self.inside.plan.nodes c.self.inside.certs c.self.inside.trace) c.self.inside.limit c.self.inside.operators.items (reverse c.self.inside.closed) c.self.inside.halted c.self.inside.undrained c.self.inside.stop c.args.self.now c.self.view_is c.self.invariant c.as_mut_slice.result.now c.give_found.new.operators _ c.as_mut_slice.ensures.value (with_items_is c.self.inside.operators c.give_found.new.operators (search (rules, places))) c.give_found.ensures.frames c.give_found.ensures.orderly
