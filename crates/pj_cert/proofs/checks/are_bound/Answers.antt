use Rattle.std.proofs.Common.{◌+◌, Bool, ◌&&◌, drop, sym, ap, ◌∙◌}
use Rattle.pj_shape.specs.Sets.{are_bound}
use Rattle.pj_cert.proofs.ClosedSets.{bound_on}
use Rattle.pj_value.specs.Lists.{has}
use Rattle.pj_cert.proofs.checks.are_bound.Goals as goal

pub returns-then-not-is_met : goal.returns-then-not-is_met
returns-then-not-is_met c =
    sym (c.loop-column.invariant
    ∙ bound_on (has c.args.known.now) c.args.classes.now c.args.input c.loop-column.column c.args.scheme.now c.at.result.now c.at.ensures
    ∙ ap (λ (b : Bool). b && are_bound (has c.args.known.now) c.args.classes.now c.args.input (c.loop-column.column + 1) (drop (c.loop-column.column + 1) c.args.scheme.now))
    (sym c.is_met.ensures ∙ c.if-not-is_met.true))

pub loop-column-preserved : goal.loop-column-preserved
loop-column-preserved c =
    c.loop-column.invariant
    ∙ bound_on (has c.args.known.now) c.args.classes.now c.args.input c.loop-column.column c.args.scheme.now c.at.result.now c.at.ensures
    ∙ ap (λ (b : Bool). b && are_bound (has c.args.known.now) c.args.classes.now c.args.input (c.loop-column.column + 1) (drop (c.loop-column.column + 1) c.args.scheme.now))
    (sym c.is_met.ensures ∙ c.if-not-is_met.false)
