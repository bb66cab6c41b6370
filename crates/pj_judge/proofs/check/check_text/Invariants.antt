use Rattle.std.proofs.Common.{◌≡◌, ◌++◌}
use Rattle.std.specs.List.{concat}
use Rattle.pj_judge.specs.Asked.{IsFirstIn}
use Rattle.pj_judge.specs.Checks.{nodes_lines, printed}
use Rattle.pj_judge.proofs.check.check_text.Given as goal

abbrev pub invariant-loop-node : goal.invariant-loop-node
invariant-loop-node l = record {
  first : IsFirstIn l.plan.nodes l.node l.first;
  told : l.text ≡ printed l.print l.plan ++ concat (nodes_lines l.plan.nodes l.node);
}
