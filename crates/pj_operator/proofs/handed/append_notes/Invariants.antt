use Rattle.std.proofs.Common.{◌≡◌, ◌++◌, true}
use Rattle.pj_operator.specs.Handed.{notes_out}
use Rattle.pj_operator.proofs.handed.append_notes.Given as goal

abbrev pub invariant-loop-row : goal.invariant-loop-row
invariant-loop-row l = l.outs ≡ l.initial.outs ++ notes_out true l.join l.input l.yielded
