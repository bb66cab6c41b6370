use Rattle.pj_safe_core.proofs.OneByOne.{FirstAre}
use Rattle.pj_safe_core.proofs.checks.are_certificates.Given as goal

abbrev pub invariant-loop-input : goal.invariant-loop-input
invariant-loop-input l = FirstAre l.spec l.schemes l.certs l.input
