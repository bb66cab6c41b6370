use Rattle.std.proofs.Common.{◌≡◌, drop}
use Rattle.pj_cert.specs.Escaping.{column_of}
use Rattle.pj_cert.proofs.escaping.column_of.Given as goal

abbrev pub invariant-loop-at : goal.invariant-loop-at
invariant-loop-at l = column_of l.input (drop l.at-index l.class) ≡ column_of l.input l.class
