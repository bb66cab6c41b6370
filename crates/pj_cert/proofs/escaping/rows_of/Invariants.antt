use Rattle.std.proofs.Common.{◌≡◌, ◌++◌, drop}
use Rattle.pj_cert.specs.Escaping.{rows_from}
use Rattle.pj_cert.proofs.escaping.rows_of.Given as goal

abbrev pub invariant-loop-input : goal.invariant-loop-input
invariant-loop-input l = l.rows ++ rows_from l.chooser l.input (drop l.input l.spec.inputs) ≡ rows_from l.chooser 0 l.spec.inputs
