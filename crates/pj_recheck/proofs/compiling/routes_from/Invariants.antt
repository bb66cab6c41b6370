use Rattle.pj_recheck.specs.Recheck.{LeadTo}
use Rattle.pj_recheck.proofs.compiling.routes_from.Given as goal

abbrev pub invariant-loop-owner : goal.invariant-loop-owner
invariant-loop-owner l = LeadTo l.join l.row_states l.input l.owner l.routes
