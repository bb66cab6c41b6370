use Rattle.std.proofs.Common.{◌≡◌, ◌++◌}
use Rattle.std.specs.List.{concat}
use Rattle.pj_judge.specs.Asked.{IsFirstOf}
use Rattle.pj_judge.specs.Checks.{inputs_lines}
use Rattle.pj_judge.proofs.check.append_inputs.Given as goal

abbrev pub invariant-loop-input : goal.invariant-loop-input
invariant-loop-input l = record {
  first : IsFirstOf l.asked l.input l.first;
  told : l.text ≡ l.fn.text ++ concat (inputs_lines l.asked l.input);
}
