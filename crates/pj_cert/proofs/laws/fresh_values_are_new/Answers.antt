use Rattle.pj_cert.proofs.FreeValues.{finds_least_number, text_is_free}
use Rattle.pj_cert.proofs.laws.fresh_values_are_new.Goals as goal

pub returns-clause-number : goal.returns-clause-number
returns-clause-number c = finds_least_number

pub returns-clause-text : goal.returns-clause-text
returns-clause-text c = text_is_free
