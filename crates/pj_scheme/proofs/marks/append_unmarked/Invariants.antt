use Rattle.std.proofs.Common.{◌≡◌, ◌++◌}
use Rattle.pj_scheme.specs.Derived.{unmarked}
use Rattle.pj_scheme.proofs.marks.append_unmarked.Given as goal

abbrev pub invariant-loop : goal.invariant-loop
invariant-loop l = l.marks ≡ l.fn.marks ++ unmarked l.counter
