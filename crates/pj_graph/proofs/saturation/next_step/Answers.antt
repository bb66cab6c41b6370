use Rattle.std.proofs.Common.{ℕ, Bool, List, length, map, Option, sym, ap, ◌∙◌, arith}
use Rattle.pj_shape.specs.Sets.{touches}
use Rattle.pj_graph.specs.Search.{step_from}
use Rattle.pj_graph.proofs.saturation.next_step.Goals as goal
use Rattle.pj_graph.proofs.Found.{next_is}
use Rattle.pj_graph.proofs.Steps.{lists_length}
use Rattle.pj_graph.proofs.Numbers.{numbers_length}
use Rattle.pj_value.specs.Lists.{has}

pub first_step-step-requires-clause-all : goal.first_step-step-requires-clause-all
first_step-step-requires-clause-all c =
    ap length c.requires.table ∙ numbers_length c.args.spec.now.classes 0 c.args.spec.now.inputs ∙ sym (lists_length c.args.spec.now.inputs c.args.schemes.now c.requires.fitting)

pub first_step-step-requires-clause-few : goal.first_step-step-requires-clause-few
first_step-step-requires-clause-few c =
    omega (arith, ap length c.requires.table, numbers_length c.args.spec.now.classes 0 c.args.spec.now.inputs, c.requires.sound.few_inputs.1)

pub returns : goal.returns
returns c = next_is c.args.spec.now c.args.schemes.now c.args.known.now c.first_step-step.result c.requires.sound.apart c.requires.fitting
    (c.first_step-step.ensures
    ∙ ap (λ (b : List Bool). step_from b c.args.known.now 0 c.args.table.now c.args.schemes.now)
    (c.as_slice-2.ensures ∙ c.in_ok-bound.ensures ∙ ap (map (touches (has c.args.known.now))) c.as_slice.ensures)
    ∙ ap (λ (t : List (List (Option ℕ))). step_from (map (touches (has c.args.known.now)) c.args.spec.now.classes) c.args.known.now 0 t c.args.schemes.now) c.requires.table)
