use Rattle.std.proofs.Common.{◌≡◌, drop}
use Rattle.pj_line.specs.Lines.{is_skipped}
use Rattle.pj_line.proofs.lines.is_skipped.Given as goal

abbrev pub invariant-loop-byte : goal.invariant-loop-byte
invariant-loop-byte l = is_skipped (drop l.byte-index l.line) ≡ is_skipped l.line
