use Rattle.std.proofs.Common.{◌≡◌, drop}
use Rattle.pj_recheck.specs.Watching.{is_wild_elsewhere}
use Rattle.pj_recheck.proofs.due_rechecks.is_wild_elsewhere.Given as goal

abbrev pub invariant-loop-column : goal.invariant-loop-column
invariant-loop-column l = is_wild_elsewhere l.scheme l.punct ≡ is_wild_elsewhere (drop l.column l.scheme) (drop l.column l.punct)
