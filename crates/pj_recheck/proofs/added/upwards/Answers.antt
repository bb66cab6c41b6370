use Rattle.std.proofs.Common.{ap, ap₂, sym, ◌∙◌}
use Rattle.std.specs.Option.{option_copied}
use Rattle.pj_pattern.specs.declared.pattern.Form.TheVariants.{Range}
use Rattle.pj_recheck.proofs.Adding.{upwards_beyond}
use Rattle.pj_recheck.proofs.added.upwards.Goals as goal

pub returns-in_ok-part-in-Some-high : goal.returns-in_ok-part-in-Some-high
returns-in_ok-part-in-Some-high c =
    upwards_beyond c.args.pattern.now c.in_ok-part-in-Some-high.part c.args.from.now c.in-Some-high.to.now
    (c.in-Range.ensures.shape ∙ ap₂ Range (ap option_copied c.in-None.is) (ap option_copied c.in-Some-high.is))
    (sym c.matches.ensures ∙ c.if-not-matches.false) c.in_ok-part-in-Some-high.ensures
