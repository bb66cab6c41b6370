use Rattle.pj_report.proofs.Forms.{formed_lawful, formed_puncts, formed_rows, sorted_elements}
use Rattle.pj_report.proofs.laws.forms_write_the_same.Goals as goal

pub returns-clause-rows : goal.returns-clause-rows
returns-clause-rows c = formed_rows

pub returns-clause-puncts : goal.returns-clause-puncts
returns-clause-puncts c = formed_puncts

pub returns-clause-lawful : goal.returns-clause-lawful
returns-clause-lawful c = formed_lawful

pub returns-clause-lines : goal.returns-clause-lines
returns-clause-lines c = sorted_elements
