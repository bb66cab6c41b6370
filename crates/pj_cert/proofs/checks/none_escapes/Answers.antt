use Rattle.std.proofs.Common.{◌+◌, ◌≡◌, ◌≤◌, Bool, true, false, ◌&&◌, List, length, drop, sym, ap, subst, ◌∙◌, arith, All}
use Rattle.pj_shape.specs.declared.joins.ClassCol.{ClassCol}
use Rattle.pj_graph.proofs.Steps.{lists_length}
use Rattle.pj_cert.specs.Tests.{closed_from, passes}
use Rattle.pj_cert.proofs.ClosedSets.{closed_on, short_at}
use Rattle.pj_cert.proofs.checks.none_escapes.Goals as goal

pub overflow_cast-input : goal.overflow_cast-input
overflow_cast-input c =
    omega (arith, c.loop-input-test.true, c.len-input-end.ensures, lists_length c.args.spec.now.inputs c.args.schemes.now c.requires.fitting, c.requires.sound.few_inputs.1)

pub is_passed-requires : goal.is_passed-requires
is_passed-requires c =
    subst (λ (list : List (List Bool)). All (λ (marks : List Bool). length marks ≤ 120) list) (sym c.as_slice-list.ensures)
    (short_at c.args.spec.now.inputs c.args.schemes.now c.loop-input.input c.at.result.now c.requires.fitting c.requires.sound.few_columns c.at.ensures)

pub returns-then-not-is_passed : goal.returns-then-not-is_passed
returns-then-not-is_passed c =
    let passed : passes c.args.spec.now.classes c.args.reached.now c.loop-input.input c.at.result.now ≡ false =
    ap (λ (list : List (List Bool)). passes c.args.spec.now.classes c.args.reached.now c.loop-input.input list) (sym c.as_slice-list.ensures)
    ∙ ap (λ (classes : List (List ClassCol)). passes classes c.args.reached.now c.loop-input.input c.as_slice-list.result.now) (sym c.as_slice.ensures)
    ∙ sym c.is_passed.ensures ∙ c.if-not-is_passed.true in
    sym (c.loop-input.invariant
    ∙ closed_on c.args.spec.now.classes c.args.reached.now c.loop-input.input c.args.schemes.now c.at.result.now c.at.ensures
    ∙ ap (λ (b : Bool). b && closed_from c.args.spec.now.classes c.args.reached.now (c.loop-input.input + 1) (drop (c.loop-input.input + 1) c.args.schemes.now)) passed)

pub loop-input-preserved : goal.loop-input-preserved
loop-input-preserved c =
    let passed : passes c.args.spec.now.classes c.args.reached.now c.loop-input.input c.at.result.now ≡ true =
    ap (λ (list : List (List Bool)). passes c.args.spec.now.classes c.args.reached.now c.loop-input.input list) (sym c.as_slice-list.ensures)
    ∙ ap (λ (classes : List (List ClassCol)). passes classes c.args.reached.now c.loop-input.input c.as_slice-list.result.now) (sym c.as_slice.ensures)
    ∙ sym c.is_passed.ensures ∙ c.if-not-is_passed.false in
    c.loop-input.invariant
    ∙ closed_on c.args.spec.now.classes c.args.reached.now c.loop-input.input c.args.schemes.now c.at.result.now c.at.ensures
    ∙ ap (λ (b : Bool). b && closed_from c.args.spec.now.classes c.args.reached.now (c.loop-input.input + 1) (drop (c.loop-input.input + 1) c.args.schemes.now)) passed
