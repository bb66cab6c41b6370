use Rattle.std.proofs.Common.{length}
use Rattle.pj_script.proofs.ScriptLines.{ReadSoFar}
use Rattle.pj_script.proofs.reader.read_script.Given as goal

abbrev pub invariant-loop-rest : goal.invariant-loop-rest
invariant-loop-rest l = ReadSoFar l.fn.plan.nodes l.fn.bytes l.steps l.line l.rest

abbrev pub decreases-loop-rest : goal.decreases-loop-rest
decreases-loop-rest l = length l.rest
