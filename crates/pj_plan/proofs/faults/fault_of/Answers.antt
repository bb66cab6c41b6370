use Rattle.std.proofs.Common.{sym, ◌∙◌}
use Rattle.pj_plan.proofs.FirstFaults.{found_in_names, found_in_columns}
use Rattle.pj_plan.proofs.faults.fault_of.Goals as goal

pub returns-in-Some : goal.returns-in-Some
returns-in-Some c = found_in_names c.args.draft.now c.args.statement.now c.in-Some.why (sym c.in-Some.is ∙ c.name_fault.ensures)

pub returns-in-Some-column_fault : goal.returns-in-Some-column_fault
returns-in-Some-column_fault c = found_in_columns c.args.draft.now c.args.statement.now c.in-Some-column_fault.why (sym c.in-None.is ∙ c.name_fault.ensures) (sym c.in-Some-column_fault.is ∙ c.column_fault.ensures)
