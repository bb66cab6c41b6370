use Rattle.std.proofs.Common.{◌≡◌, ◌++◌, drop}
use Rattle.std.specs.List.{concat}
use Rattle.pj_cert.specs.Partners.{partners_from, partners_of}
use Rattle.pj_cert.proofs.partners.append_partners.Given as goal

abbrev pub invariant-loop-other : goal.invariant-loop-other
invariant-loop-other l = l.text ++ concat (partners_from l.names l.input l.other (drop l.other l.rows)) ≡ l.fn.text ++ concat (partners_of l.names l.input l.rows)
