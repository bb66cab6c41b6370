use Rattle.std.proofs.Common.{◌≡◌, ◌++◌, drop}
use Rattle.pj_cert.specs.Verdicts.{names_text}
use Rattle.pj_cert.proofs.verdicts.append_names.Given as goal

abbrev pub invariant-loop-input : goal.invariant-loop-input
invariant-loop-input l = l.text ++ names_text l.names (drop l.input-index l.inputs) ≡ l.fn.text ++ names_text l.names l.inputs
