use Rattle.std.proofs.Common.{ℕ, ◌+◌, ◌≡◌, ◌≤◌, true, false, List, [], ◌∷◌, ◌++◌, length, sym, ap, subst, ◌∙◌, lit<}
use Rattle.pj_graph.proofs.Steps.{lists_length}
use Rattle.pj_graph.proofs.Saturations.{unknown}
use Rattle.pj_cert.specs.Tests.{step_holds, steps_hold}
use Rattle.pj_cert.proofs.TestedSteps.{room_at_first, room_kept, room_left, steps_end, steps_more}
use Rattle.pj_cert.proofs.verified.steps_hold.Goals as goal

pub loop-n-init : goal.loop-n-init
loop-n-init c =
    let e : c.push.new.self.items ≡ c.args.input ∷ [] = c.push.ensures.items ∙ ap (λ (ks : List ℕ). ks ++ c.args.input ∷ []) c.new-known.ensures in (
      subst (λ (ks : List ℕ). length ks + unknown ks (length c.args.spec.now.inputs) ≤ length c.args.spec.now.inputs) (sym e)
          (room_at_first c.args.input (length c.args.spec.now.inputs) c.requires.input),
      ap (λ (ks : List ℕ). steps_hold c.args.spec.now c.args.schemes.now ks c.args.cert.now) (sym e),
    )

pub returns-then-not-step_holds : goal.returns-then-not-step_holds
returns-then-not-step_holds c =
    let fails : step_holds c.args.spec.now c.args.schemes.now c.loop-n.known.items c.at-step.result.now ≡ false =
    ap (λ (ks : List ℕ). step_holds c.args.spec.now c.args.schemes.now ks c.at-step.result.now) (sym c.as_slice.ensures.value) ∙ sym c.step_holds.ensures ∙ c.if-not-step_holds.true in
    sym (c.loop-n.invariant.1
    ∙ steps_end c.args.spec.now c.args.schemes.now c.loop-n.known.items c.args.cert.now c.loop-n.n c.at-step.result.now c.at-step.ensures fails)

pub push-requires-in-loop-n : goal.push-requires-in-loop-n
push-requires-in-loop-n c =
    let goes : step_holds c.args.spec.now c.args.schemes.now c.loop-n.known.items c.at-step.result.now ≡ true =
    ap (λ (ks : List ℕ). step_holds c.args.spec.now c.args.schemes.now ks c.at-step.result.now) (sym c.as_slice.ensures.value) ∙ sym c.step_holds.ensures ∙ c.if-not-step_holds.false in (
      lit< tt,
      room_left c.args.spec.now c.args.schemes.now c.loop-n.known.items c.at-step.result.now (length c.args.spec.now.inputs)
          (lists_length c.args.spec.now.inputs c.args.schemes.now c.requires.fitting) goes c.loop-n.invariant.0 c.requires.sound.few_inputs.1,
    )

pub loop-n-preserved : goal.loop-n-preserved
loop-n-preserved c =
    let goes : step_holds c.args.spec.now c.args.schemes.now c.loop-n.known.items c.at-step.result.now ≡ true =
    ap (λ (ks : List ℕ). step_holds c.args.spec.now c.args.schemes.now ks c.at-step.result.now) (sym c.as_slice.ensures.value) ∙ sym c.step_holds.ensures ∙ c.if-not-step_holds.false in (
      room_kept c.args.spec.now c.args.schemes.now c.loop-n.known.items c.push-in-loop-n.new.self.items c.at-step.result.now (length c.args.spec.now.inputs)
          (lists_length c.args.spec.now.inputs c.args.schemes.now c.requires.fitting) goes c.push-in-loop-n.ensures.items c.loop-n.invariant.0,
      steps_more c.args.spec.now c.args.schemes.now c.loop-n.known.items c.push-in-loop-n.new.self.items c.args.cert.now c.loop-n.n c.at-step.result.now
          (steps_hold c.args.spec.now c.args.schemes.now (c.args.input ∷ []) c.args.cert.now) c.loop-n.invariant.1 c.at-step.ensures goes c.push-in-loop-n.ensures.items,
    )
