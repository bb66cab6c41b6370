use Rattle.std.proofs.Common.{take}
use Rattle.pj_flow.specs.Stored.{IsSample}
use Rattle.pj_flow.proofs.sample.sample_of.Given as goal

abbrev pub invariant-loop-column : goal.invariant-loop-column
invariant-loop-column l = IsSample (take l.column l.punct) l.marks l.values
