use Rattle.std.proofs.Common.{◌≡◌, ◌++◌, drop}
use Rattle.pj_plan_text.specs.Spelling.{lines_of}
use Rattle.pj_plan_text.proofs.writer.append_lines.Given as goal

abbrev pub invariant-loop-statement : goal.invariant-loop-statement
invariant-loop-statement l = l.out ++ lines_of (drop l.statement-index l.statements) ≡ l.fn.out ++ lines_of l.statements
