use Rattle.std.proofs.Common.{List, ◌∙◌, subst, sym}
use Rattle.std.proofs.lemmas.List.{take_all}
use Rattle.pj_value.specs.Lists.{In}
use Rattle.pj_events.specs.Join.{ClassCol}
use Rattle.pj_cover.specs.Routes.{IsFixed}
use Rattle.pj_cover.proofs.Making.{taken_more}
use Rattle.pj_cover.proofs.route.is_determined.Goals as goal

pub loop-class-preserved : goal.loop-class-preserved
loop-class-preserved c = taken_more (λ (class : List ClassCol). IsFixed c.args.known.now c.args.input class) c.args.classes.now c.loop-class.class-index c.class-item.result c.loop-class-test.true c.loop-class.invariant (subst (λ (class : List ClassCol). IsFixed c.args.known.now c.args.input class) (c.as_slice.ensures ∙ c.class-item.is) (c.is_fixed.ensures c.if-not-is_fixed.false))

pub returns : goal.returns
returns c told class h = c.loop-class.invariant class (subst (λ (classes : List (List ClassCol)). In class classes) (sym (take_all c.loop-class.class-index c.args.classes.now c.loop-class-test.false)) h)
