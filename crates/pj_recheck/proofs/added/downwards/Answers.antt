use Rattle.std.proofs.Common.{ap, ap₂, sym, ◌∙◌}
use Rattle.std.specs.Option.{option_copied}
use Rattle.pj_pattern.specs.declared.pattern.Form.TheVariants.{Range}
use Rattle.pj_recheck.proofs.Adding.{downwards_beyond}
use Rattle.pj_recheck.proofs.added.downwards.Goals as goal

pub returns-in_ok-part-in-Some-low : goal.returns-in_ok-part-in-Some-low
returns-in_ok-part-in-Some-low c =
    downwards_beyond c.args.pattern.now c.in_ok-part-in-Some-low.part c.in-Some-low.from.now c.args.to.now
    (c.in-Range.ensures.shape ∙ ap₂ Range (ap option_copied c.in-Some-low.is) (ap option_copied c.in-None.is))
    (sym c.matches.ensures ∙ c.if-not-matches.false) c.in_ok-part-in-Some-low.ensures
