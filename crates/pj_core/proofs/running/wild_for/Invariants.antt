use Rattle.std.proofs.Common.{◌≡◌}
use Rattle.pj_events.specs.Patterns.{all_wild}
use Rattle.pj_core.proofs.running.wild_for.Given as goal

abbrev pub invariant-loop-column : goal.invariant-loop-column
invariant-loop-column l = l.patterns ≡ all_wild l._column-index
