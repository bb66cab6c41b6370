use Rattle.std.proofs.Common.{◌≡◌, ◌≤◌, ◌+◌, ◌∙◌, ◌∷◌, [], length, map, sym, arith}
use Rattle.pj_cover.specs.declared.ripeness.Verdict.TheVariants.{Ripe}
use Rattle.pj_cover.specs.Asking.{known_of, tuple_of}
use Rattle.pj_cover.proofs.Searching.{found_here, gone_through, last_step, map_here, ready}
use Rattle.pj_cover.proofs.Linked.{ready_here}
use Rattle.pj_cover.proofs.Steps.{length-map}
use Rattle.pj_cover.specs.Routes.{step_of, steps_in}
use Rattle.pj_cover.proofs.ripeness.Judge.judge.Goals as goal

pub judge_step-first-requires-clause-step : goal.judge_step-first-requires-clause-step
judge_step-first-requires-clause-step g c =
    ready c.args.self.now.spec.now c.args.self.now.schemes.now (g.R.StoredRows.rows c.args.self.now.rows.now) c.args.self.now.punct_stores.now (steps_in c.args.self.now.route.now) 0 c.at-step.result.step (c.args.own ∷ []) c.requires.parts c.requires.walk
    (map_here step_of c.args.self.now.route.now.steps 0 c.at-step.result c.at-step.ensures)

pub judge_step-first-requires-clause-ready : goal.judge_step-first-requires-clause-ready
judge_step-first-requires-clause-ready g c =
    ready_here c.args.self.now.spec.now c.args.self.now.schemes.now c.args.self.now.route.now.links c.args.self.now.route.now.steps 0 c.at-step.result (c.args.own ∷ []) c.from_ref.result.now c.requires.parts.sound c.requires.walk c.requires.route c.at-step.ensures c.from_ref.ensures.value

pub returns-then-not-is_ripe : goal.returns-then-not-is_ripe
returns-then-not-is_ripe g c =
    found_here (known_of c.args.self.now.spec.now (g.R.StoredRows.rows c.args.self.now.rows.now) c.args.self.now.punct_stores.now c.args.self.now.low) c.args.self.now.schemes.now (steps_in c.args.self.now.route.now) 0 c.at-step.result.step (c.args.own ∷ []) c.from_ref.result.now c.judge_step-first.result
    (map_here step_of c.args.self.now.route.now.steps 0 c.at-step.result c.at-step.ensures) c.from_ref.ensures.value c.judge_step-first.ensures (sym c.is_ripe.ensures ∙ c.if-not-is_ripe.true)

pub returns-then-len-eq1 : goal.returns-then-len-eq1
returns-then-len-eq1 g c =
    let n : length (steps_in c.args.self.now.route.now) ≡ length c.args.self.now.route.now.steps = length-map step_of c.args.self.now.route.now.steps in
    let le : length (steps_in c.args.self.now.route.now) ≤ 0 + 1 = omega (arith, c.if-len-eq1.true, c.len-2.ensures, n) in
    gone_through c.args.self.now.spec.now c.args.self.now.schemes.now (g.R.StoredRows.rows c.args.self.now.rows.now) c.args.self.now.punct_stores.now c.args.self.now.low (steps_in c.args.self.now.route.now) 0 c.at-step.result.step (c.args.own ∷ []) c.from_ref.result.now c.judge_step-first.result Ripe
    (map_here step_of c.args.self.now.route.now.steps 0 c.at-step.result c.at-step.ensures) c.from_ref.ensures.value c.judge_step-first.ensures (sym c.is_ripe.ensures ∙ c.if-not-is_ripe.false)
    (last_step (known_of c.args.self.now.spec.now (g.R.StoredRows.rows c.args.self.now.rows.now) c.args.self.now.punct_stores.now c.args.self.now.low) c.args.self.now.schemes.now (steps_in c.args.self.now.route.now) 0 c.at-step.result.step (c.args.own ∷ []) (map (tuple_of c.at-step.result.step.input) (g.R.StoredRows.rows c.args.self.now.rows.now c.at-step.result.step.input)) (map_here step_of c.args.self.now.route.now.steps 0 c.at-step.result c.at-step.ensures) le)

pub returns : goal.returns
returns g c =
    gone_through c.args.self.now.spec.now c.args.self.now.schemes.now (g.R.StoredRows.rows c.args.self.now.rows.now) c.args.self.now.punct_stores.now c.args.self.now.low (steps_in c.args.self.now.route.now) 0 c.at-step.result.step (c.args.own ∷ []) c.from_ref.result.now c.judge_step-first.result c.judge_through.result
    (map_here step_of c.args.self.now.route.now.steps 0 c.at-step.result c.at-step.ensures) c.from_ref.ensures.value c.judge_step-first.ensures (sym c.is_ripe.ensures ∙ c.if-not-is_ripe.false) c.judge_through.ensures
