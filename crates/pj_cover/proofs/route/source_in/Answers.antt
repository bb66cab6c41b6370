use Rattle.std.proofs.Common.{get_or, subst, sym, List, refl}
use Rattle.std.proofs.lemmas.List.{take_all}
use Rattle.pj_value.specs.Lists.{In}
use Rattle.pj_events.specs.Join.{ClassCol}
use Rattle.pj_shape.proofs.Classes.{found_column}
use Rattle.pj_cover.proofs.Making.{taken_more}
use Rattle.pj_cover.proofs.route.source_in.Goals as goal

abbrev none : ClassCol
none = record { input = 0; column = 0 }

pub returns-in-Some : goal.returns-in-Some
returns-in-Some c =
    let at : ClassCol = get_or c.args.class.now c.loop-at.at-index none in
    (at.input, c.in-Some.ensures, found_column c.args.class.now c.loop-at.at-index none at.input c.loop-at-test.true refl)

pub loop-at-preserved : goal.loop-at-preserved
loop-at-preserved c = taken_more (λ (at : ClassCol). In at.input c.args.known.now → ⊥) c.args.class.now c.loop-at.at-index none c.loop-at-test.true c.loop-at.invariant c.in-None.ensures

pub returns : goal.returns
returns c at h = c.loop-at.invariant at (subst (λ (ats : List ClassCol). In at ats) (sym (take_all c.loop-at.at-index c.args.class.now c.loop-at-test.false)) h)
