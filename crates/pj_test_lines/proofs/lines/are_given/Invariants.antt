use Rattle.pj_line.specs.Buffers.{KnowsEnd}
use Rattle.pj_test_lines.proofs.lines.are_given.Given as goal

abbrev pub invariant-loop-line : goal.invariant-loop-line
invariant-loop-line l = KnowsEnd l.buffer l.source.source
