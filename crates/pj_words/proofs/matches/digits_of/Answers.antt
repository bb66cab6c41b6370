use Rattle.pj_words.proofs.Numbers.{numeral_is, no_plus}
use Rattle.pj_words.proofs.matches.digits_of.Goals as goal

pub returns-in-Err : goal.returns-in-Err
returns-in-Err c = λ e lt. absurd (c.in-Err.ensures.value.0 (rw (no_plus c.args.text.now e) (numeral_is c.args.text.now e, lt)))
