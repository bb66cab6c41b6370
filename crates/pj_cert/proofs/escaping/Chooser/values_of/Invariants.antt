use Rattle.std.proofs.Common.{◌≡◌, ◌++◌, drop}
use Rattle.pj_cert.specs.Escaping.{values_from}
use Rattle.pj_cert.proofs.escaping.Chooser.values_of.Given as goal

abbrev pub invariant-loop-n : goal.invariant-loop-n
invariant-loop-n l = l.values ++ values_from l.self l.fn.input l.n (drop l.n l.schema) ≡ values_from l.self l.fn.input 0 l.schema
