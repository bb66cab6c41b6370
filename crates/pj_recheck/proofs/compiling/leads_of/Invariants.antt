use Rattle.pj_recheck.specs.Recheck.{AreLeads, LeadsIn, entry_with}
use Rattle.pj_recheck.proofs.compiling.leads_of.Given as goal

abbrev pub invariant-loop-column : goal.invariant-loop-column
invariant-loop-column l = AreLeads l.classes (entry_with l.input l.scheme) l.side.input l.leads × LeadsIn l.side.state.columns l.leads
