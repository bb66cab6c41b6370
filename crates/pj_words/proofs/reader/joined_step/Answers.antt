use Rattle.std.proofs.Common.{◌∙◌, sym}
use Rattle.pj_words.proofs.Steps.{joined_leads}
use Rattle.pj_words.proofs.reader.joined_step.Goals as goal

pub returns-then-number_fits : goal.returns-then-number_fits
returns-then-number_fits c = joined_leads c.args.command c.args.seen c.args.name c.args.digits.now c.with_option.result (sym c.number_fits.ensures ∙ c.if-number_fits.true)
    c.with_option.ensures
