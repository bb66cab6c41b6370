use Rattle.pj_script_laws.proofs.Whole.{scripted-is-answer, scripted-is-complete, scripted-is-lawful, scripted-is-legal, scripted-limits-tell}
use Rattle.pj_script_laws.proofs.laws.scripted_histories.Goals as goal

pub returns-clause-legal : goal.returns-clause-legal
returns-clause-legal c = scripted-is-legal

pub returns-clause-complete : goal.returns-clause-complete
returns-clause-complete c = scripted-is-complete

pub returns-clause-answer : goal.returns-clause-answer
returns-clause-answer c = scripted-is-answer

pub returns-clause-lawful : goal.returns-clause-lawful
returns-clause-lawful c = scripted-is-lawful

pub returns-clause-limits : goal.returns-clause-limits
returns-clause-limits c = scripted-limits-tell
