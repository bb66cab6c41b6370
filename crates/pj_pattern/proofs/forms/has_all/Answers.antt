use Rattle.std.proofs.Common.{sym, ◌∙◌}
use Rattle.pj_pattern.proofs.Walking.{begins, equal_passed, greater_missing, lesser_passed}
use Rattle.pj_pattern.proofs.forms.has_all.Goals as goal

pub loop-value-init : goal.loop-value-init
loop-value-init c = begins c.args.members.now c.args.values.now c.requires.members c.requires.values

pub loop-value-preserved-in-Less : goal.loop-value-preserved-in-Less
loop-value-preserved-in-Less c =
    lesser_passed c.args.members.now c.args.values.now c.loop-value.left.now c.loop-value.rest.now c.in-Some-split_first.member.now c.in-Some.value.now c.in-Some-split_first.others.now c.in-Some.behind.now c.loop-value.invariant c.in-Some-split_first.ensures.cases.0 c.in-Some.ensures.cases.0 (sym c.order.ensures ∙ c.in-Less.is)

pub loop-value-preserved : goal.loop-value-preserved
loop-value-preserved c =
    equal_passed c.args.members.now c.args.values.now c.loop-value.left.now c.loop-value.rest.now c.in-Some-split_first.member.now c.in-Some.value.now c.in-Some-split_first.others.now c.in-Some.behind.now c.loop-value.invariant c.in-Some-split_first.ensures.cases.0 c.in-Some.ensures.cases.0 (sym c.order.ensures ∙ c.in-Equal.is)

pub returns-in-Greater : goal.returns-in-Greater
returns-in-Greater c =
    greater_missing c.args.members.now c.args.values.now c.loop-value.left.now c.loop-value.rest.now c.in-Some-split_first.member.now c.in-Some.value.now c.in-Some-split_first.others.now c.in-Some.behind.now c.loop-value.invariant c.in-Some-split_first.ensures.cases.0 c.in-Some.ensures.cases.0 (sym c.order.ensures ∙ c.in-Greater.is)
