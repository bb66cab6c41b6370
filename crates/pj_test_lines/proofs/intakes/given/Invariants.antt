use Rattle.pj_line.specs.Buffers.{KnowsEnd}
use Rattle.pj_test_lines.proofs.intakes.given.Given as goal

abbrev pub invariant-loop : goal.invariant-loop
invariant-loop l = KnowsEnd l.intake.state.buffer l.intake.source.source
