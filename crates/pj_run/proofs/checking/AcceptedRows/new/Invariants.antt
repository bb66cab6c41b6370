use Rattle.pj_run.specs.Checking.{HoldsNone}
use Rattle.pj_run.proofs.checking.AcceptedRows.new.Given as goal

abbrev pub invariant-loop : goal.invariant-loop
invariant-loop l = HoldsNone l.counter l.lists.items
