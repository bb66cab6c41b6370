use Rattle.std.proofs.Common.{◌≡◌, ℕ, List, ◌+◌, ◌++◌, length, arith, ap, sym, subst, ◌∙◌}
use Rattle.std.specs.List.{concat}
use Rattle.pj_judge.specs.Asked.{IsFirstIn}
use Rattle.pj_judge.specs.Checks.{nodes_lines, printed}
use Rattle.pj_judge.proofs.Plans.{answered, first_more}
use Rattle.pj_judge.proofs.Texts.{check_put, node_more}
use Rattle.pj_judge.proofs.check.check_text.Goals as goal

pub loop-node-preserved : goal.loop-node-preserved
loop-node-preserved c = record {
  first =
      subst (IsFirstIn c.args.plan.now.nodes (c.loop-node.node + 1)) (sym c.or_risk-first.ensures)
      (first_more c.args.plan.now.nodes c.loop-node.node c.loop-node.first c.in_ok-risk.risk c.loop-node.invariant.first (omega (arith, c.nodes-node-end.ensures.count))
      c.in_ok-risk.ensures.answer);
  told =
      node_more c.args.plan.now.nodes c.loop-node.node (printed c.args.print c.args.plan.now) c.loop-node.text c.append_node.new.text c.loop-node.invariant.told
      c.in_ok-risk.ensures.text;
}

pub returns-clause-answer : goal.returns-clause-answer
returns-clause-answer c =
    let end : c.loop-node.node ≡ length c.args.plan.now.nodes = omega (arith, c.nodes-node-end.ensures.count) in
    answered c.args.plan.now.nodes c.loop-node.node c.loop-node.first end c.loop-node.invariant.first

pub returns-clause-text : goal.returns-clause-text
returns-clause-text c =
    let end : c.loop-node.node ≡ length c.args.plan.now.nodes = omega (arith, c.nodes-node-end.ensures.count) in
    let before : List ℕ = printed c.args.print c.args.plan.now in
    check_put c.args.print c.args.plan.now c.args.out.now c.loop-node.text c.append.new.self
    (c.loop-node.invariant.told ∙ ap (λ (n : ℕ). before ++ concat (nodes_lines c.args.plan.now.nodes n)) end)
    (c.in_ok-append.ensures.ok ∙ ap (λ (t : List ℕ). c.args.out.now ++ t) c.as_slice.ensures)
