use Rattle.std.proofs.Common.{◌≡◌, ℕ, ◌+◌, ◌++◌, length, arith, ap, ◌∙◌, sym, subst}
use Rattle.std.specs.List.{concat}
use Rattle.pj_judge.specs.Asked.{IsFirstOf}
use Rattle.pj_judge.specs.Checks.{inputs_lines}
use Rattle.pj_judge.proofs.Inputs.{first_more}
use Rattle.pj_judge.proofs.Texts.{input_more}
use Rattle.pj_judge.proofs.check.append_inputs.Goals as goal

pub loop-input-preserved : goal.loop-input-preserved
loop-input-preserved c = record {
  first =
      subst (IsFirstOf c.args.asked.now (c.loop-input.input + 1)) (sym c.or_stuck-first.ensures)
      (first_more c.args.asked.now c.loop-input.input c.loop-input.first c.in_ok-found.found c.loop-input.invariant.first (omega (arith, c.inputs-input-end.ensures.count)) c.in_ok-found.ensures.reached);
  told =
      input_more c.args.asked.now c.loop-input.input c.in_ok-found.found c.args.text.now c.loop-input.text c.append_input.new.text c.loop-input.invariant.told
      c.in_ok-found.ensures.told c.in_ok-append_input.ensures;
}

pub returns-clause-answer : goal.returns-clause-answer
returns-clause-answer c =
    let end : c.loop-input.input ≡ length c.args.asked.now.spec.inputs = omega (arith, c.inputs-input-end.ensures.count) in
    subst (λ (n : ℕ). IsFirstOf c.args.asked.now n c.loop-input.first) end c.loop-input.invariant.first

pub returns-clause-text : goal.returns-clause-text
returns-clause-text c =
    let end : c.loop-input.input ≡ length c.args.asked.now.spec.inputs = omega (arith, c.inputs-input-end.ensures.count) in
    c.loop-input.invariant.told ∙ ap (λ (n : ℕ). c.args.text.now ++ concat (inputs_lines c.args.asked.now n)) end
