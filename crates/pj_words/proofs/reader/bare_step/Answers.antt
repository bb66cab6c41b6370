use Rattle.std.proofs.Common.{◌∙◌, ap, sym, is_some}
use Rattle.pj_words.proofs.Steps.{flag_leads, number_leads}
use Rattle.pj_words.proofs.reader.bare_step.Goals as goal

pub returns-then-is_flag : goal.returns-then-is_flag
returns-then-is_flag c = flag_leads c.args.command c.args.seen c.args.name c.with_option.result (sym c.is_flag.ensures ∙ c.if-is_flag.true) c.with_option.ensures

pub returns-in-Some : goal.returns-in-Some
returns-in-Some c = number_leads c.args.command c.args.seen c.args.name c.with_option-in-Some.result (sym c.is_flag.ensures ∙ c.if-is_flag.false)
    (c.range_of.ensures.numbered ∙ ap is_some c.in-Some.is) c.with_option-in-Some.ensures
