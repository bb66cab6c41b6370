use Rattle.std.proofs.Common.{refl}
use Rattle.pj_make_laws.proofs.Plans.{made_plan_fits}
use Rattle.pj_make_laws.proofs.Lengths.{made_files_are_short}
use Rattle.pj_make_laws.proofs.Punctuations.{made_puncts_are_few}
use Rattle.pj_make_laws.proofs.Limits.{made_is_within_limits}
use Rattle.pj_make_laws.proofs.Totals.{made_answer_is_small, made_total_is_exact}
use Rattle.pj_make_laws.proofs.laws.made_inputs_fit.Goals as goal

pub returns-clause-is_read : goal.returns-clause-is_read
returns-clause-is_read c = refl

pub returns-clause-fits : goal.returns-clause-fits
returns-clause-fits c = made_plan_fits

pub returns-clause-short : goal.returns-clause-short
returns-clause-short c = λ seed count few. made_files_are_short seed count few

pub returns-clause-few : goal.returns-clause-few
returns-clause-few c = λ seed count few. made_puncts_are_few seed count few

pub returns-clause-within : goal.returns-clause-within
returns-clause-within c = made_is_within_limits

pub returns-clause-small : goal.returns-clause-small
returns-clause-small c = made_answer_is_small

pub returns-clause-exact : goal.returns-clause-exact
returns-clause-exact c = made_total_is_exact
