use Rattle.std.proofs.Common.{◌<◌, ◌∙◌, List, None, get_or, length, arith, sym, subst}
use Rattle.std.specs.Prelude.{IfSome}
use Rattle.std.proofs.lemmas.Bool.{eqb-true}
use Rattle.std.proofs.lemmas.Option.{slice_get-get_or}
use Rattle.pj_events.specs.Join.{In}
use Rattle.pj_probe.specs.Hops.{AreStepped}
use Rattle.pj_rows.specs.Tuples.{state_at}
use Rattle.pj_probe.specs.declared.route.ProbeStep.{ProbeStep}
use Rattle.pj_probe.proofs.Hopped.{Pairs, route_step, step_link}
use Rattle.pj_probe.proofs.Lacking.{none_found}
use Rattle.pj_probe.proofs.Routed.{step_there}
use Rattle.pj_probe.proofs.choosing.follow.Goals as goal

abbrev none : ProbeStep
none = record { input = 0; link = None }

pub take_step-requires-clause-there : goal.take_step-requires-clause-there
take_step-requires-clause-there c = step_there c.args.own.now.input c.args.sides.now c.args.steps.now c.args.at (get_or c.args.steps.now c.args.at none) c.requires.route (slice_get-get_or c.args.steps.now c.args.at none c.requires.there.1)

pub take_step-requires-clause-link : goal.take_step-requires-clause-link
take_step-requires-clause-link c =
    let step : ProbeStep = get_or c.args.steps.now c.args.at none in
    subst (λ (lists : List Pairs). IfSome step.link (λ link. (link.from_input < length lists) × In link.index_column (state_at c.args.sides.now step.input).columns)) (sym c.as_slice.ensures.value)
    (step_link c.args.own.now c.args.sides.now c.args.steps.now c.args.at step c.args.lists.now.items c.requires.route (slice_get-get_or c.args.steps.now c.args.at none c.requires.there.1) c.requires.found)

pub put_rows-requires : goal.put_rows-requires
put_rows-requires c =
    let there : (get_or c.args.steps.now c.args.at none).input < length c.args.sides.now = step_there c.args.own.now.input c.args.sides.now c.args.steps.now c.args.at (get_or c.args.steps.now c.args.at none) c.requires.route (slice_get-get_or c.args.steps.now c.args.at none c.requires.there.1) in
    omega (arith, there, c.requires.found.count)

pub returns-clause-found : goal.returns-clause-found
returns-clause-found c =
    let step : ProbeStep = get_or c.args.steps.now c.args.at none in
    route_step c.args.own.now c.args.sides.now c.args.steps.now c.args.at step c.ticket.result c.args.lists.now.items c.put_rows.new.lists.items c.in_ok-rows.rows c.requires.route (slice_get-get_or c.args.steps.now c.args.at none c.requires.there.1) c.requires.found c.ticket.ensures
    (subst (λ (lists : List Pairs). AreStepped step.link (state_at c.args.sides.now step.input) c.ticket.result lists c.in_ok-rows.rows) c.as_slice.ensures.value c.in_ok-rows.ensures) c.put_rows.ensures

pub returns-clause-none : goal.returns-clause-none
returns-clause-none c = λ t.
    none_found c.args.own.now c.args.sides.now c.args.steps.now c.args.at (get_or c.args.steps.now c.args.at none) c.args.lists.now.items c.put_rows.new.lists.items c.in_ok-rows.rows c.requires.route (slice_get-get_or c.args.steps.now c.args.at none c.requires.there.1) c.requires.there.0
    (returns-clause-found c) c.requires.found.count c.put_rows.ensures (sym c.len-is_none.ensures ∙ eqb-true c.len-is_none.result 0 t)
