use Rattle.std.proofs.Common.{◌∙◌, ap, sym}
use Rattle.pj_words.specs.Steps.{within}
use Rattle.pj_words.proofs.reader.number_fits.Goals as goal

pub returns-in-Some : goal.returns-in-Some
returns-in-Some c = c.is_number.ensures ∙ sym (c.range_of.ensures.fits c.args.digits.now ∙ ap (λ o. within o c.args.digits.now) c.in-Some.is)
