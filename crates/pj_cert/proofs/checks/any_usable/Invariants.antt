use Rattle.std.proofs.Common.{◌≡◌, drop}
use Rattle.pj_cert.specs.Tests.{any_usable}
use Rattle.pj_cert.proofs.checks.any_usable.Given as goal

abbrev pub invariant-loop-scheme : goal.invariant-loop-scheme
invariant-loop-scheme l = any_usable l.classes l.known l.input l.list ≡ any_usable l.classes l.known l.input (drop l.scheme-index l.list)
