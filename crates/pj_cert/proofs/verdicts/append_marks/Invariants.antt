use Rattle.std.proofs.Common.{◌≡◌, ◌++◌, drop, flat_map}
use Rattle.pj_cert.specs.Verdicts.{mark_text}
use Rattle.pj_cert.proofs.verdicts.append_marks.Given as goal

abbrev pub invariant-loop-column : goal.invariant-loop-column
invariant-loop-column l = l.text ++ flat_map mark_text (drop l.column l.scheme) ≡ l.fn.text ++ flat_map mark_text l.scheme
