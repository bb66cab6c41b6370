use Rattle.std.proofs.Common.{◌≡◌, refl, reverse, rules, subst}
use Rattle.std.proofs.lemmas.List.{places, with_items_is}
use Rattle.pj_core.specs.Plans.{run_plan}
use Rattle.pj_events.specs.declared.events.Stop.TheVariants.{NoMemory}
use Rattle.pj_operator.specs.Acts.{TakesFirst}
use Rattle.pj_core.specs.Calls.{CoreTakes}
use Rattle.pj_core.proofs.Calls.{core-takes}
use Rattle.pj_core.proofs.Words.{few-operators, holds-now, refused-again, refused-now}
use Rattle.pj_core.proofs.running.Core.take.Goals as goal

pub take_first-requires : goal.take_first-requires
take_first-requires c = few-operators (run_plan c.self.inside.plan.nodes c.self.inside.certs c.self.inside.trace) c.self.inside.limit c.self.inside.operators.items (reverse c.self.inside.closed) c.self.inside.halted c.self.inside.undrained c.self.inside.stop c.args.self.now c.self.view_is c.self.invariant c.as_mut_slice.result.now c.as_mut_slice.ensures.value

pub returns-in-Some-clause-err : goal.returns-in-Some-clause-err
returns-in-Some-clause-err c = refused-again (run_plan c.self.inside.plan.nodes c.self.inside.certs c.self.inside.trace) c.self.inside.limit c.self.inside.operators.items (reverse c.self.inside.closed) c.self.inside.halted c.self.inside.undrained c.self.inside.stop c.args.self.now c.self.view_is c.self.invariant c.in-Some.stop _ c.in-Some.is

pub returns-in-Ok-clause-ok : goal.returns-in-Ok-clause-ok
returns-in-Ok-clause-ok c =
    holds-now (run_plan c.self.inside.plan.nodes c.self.inside.certs c.self.inside.trace) c.self.inside.limit c.self.inside.operators.items (reverse c.self.inside.closed) c.self.inside.halted c.self.inside.undrained c.self.inside.stop c.args.self.now c.self.view_is c.self.invariant
    (λ a b. CoreTakes a b c.in-Ok.answer) c.in-None.is c.take_first.new.operators _ (reverse c.self.inside.closed) c.self.inside.undrained (with_items_is c.self.inside.operators c.take_first.new.operators (search (rules, places)))
    (core-takes (run_plan c.self.inside.plan.nodes c.self.inside.certs c.self.inside.trace) c.self.inside.limit c.self.inside.operators.items c.take_first.new.operators (reverse c.self.inside.closed) c.self.inside.halted c.self.inside.undrained c.in-Ok.answer c.self.invariant
    (subst (λ ys. TakesFirst ys c.take_first.new.operators c.in-Ok.answer) c.as_mut_slice.ensures.value c.in-Ok.ensures.ok))

pub returns-in-Err-clause-err : goal.returns-in-Err-clause-err
returns-in-Err-clause-err c = refused-now (run_plan c.self.inside.plan.nodes c.self.inside.certs c.self.inside.trace) c.self.inside.limit c.self.inside.operators.items (reverse c.self.inside.closed) c.self.inside.halted c.self.inside.undrained c.self.inside.stop c.args.self.now c.self.view_is c.self.invariant _ _ c.self.inside.undrained NoMemory (λ o. NoMemory ≡ NoMemory) c.in-None.is refl refl
