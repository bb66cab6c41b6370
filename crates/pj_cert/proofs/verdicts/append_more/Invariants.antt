use Rattle.std.proofs.Common.{◌≡◌, ◌++◌, drop}
use Rattle.pj_cert.specs.Verdicts.{more_text}
use Rattle.pj_cert.proofs.verdicts.append_more.Given as goal

abbrev pub invariant-loop-n : goal.invariant-loop-n
invariant-loop-n l = l.text ++ more_text l.schemes l.names (drop l.n l.cert) ≡ l.fn.text ++ more_text l.schemes l.names (drop 1 l.cert)
