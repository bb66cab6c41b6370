use Rattle.std.proofs.Common.{◌∙◌, ◌-◌, IfSome, List, Option, get_or, ap, length, subst, sym}
use Rattle.pj_value.proofs.Members.{in-place}
use Rattle.pj_events.specs.Join.{In}
use Rattle.pj_probe.specs.Routes.{IsOwnStep}
use Rattle.pj_probe.specs.declared.route.ProbeLink.{ProbeLink}
use Rattle.pj_probe.specs.declared.route.ProbeStep.{ProbeStep}
use Rattle.pj_probe.proofs.Narrowed.{own_step}
use Rattle.pj_probe.proofs.Partners.{link_indexed}
use Rattle.pj_probe.proofs.choosing.narrowest.Goals as goal
use Rattle.pj_probe.proofs.choosing.narrowest.Goals.{in-None, in-Some+then-is_none, in-Some+else-is_none+else-len-fewest}

abbrev none : ProbeLink
none = record { index_column = 0; from_input = 0; from_column = 0 }

pub linked_to-requires-clause-indexed : goal.linked_to-requires-clause-indexed
linked_to-requires-clause-indexed c =
    link_indexed c.args.own.now c.args.sides.now c.args.route.now c.saturating_sub-input.result (get_or c.as_slice-links.result.now c.loop-at.at none) c.if-sides-ne2.false c.requires.route (c.saturating_sub-input.ensures ∙ ap (λ n. 1 - n) c.input.ensures)
    (subst (λ (links : List ProbeLink). In (get_or c.as_slice-links.result.now c.loop-at.at none) links) c.as_slice-links.ensures (in-place c.as_slice-links.result.now none c.loop-at.at c.loop-at-test.true))

pub loop-at-preserved : goal.loop-at-preserved
loop-at-preserved c =
    let links = c.as_slice-links.result.now in
    let step = own_step c.args.own.now.input c.saturating_sub-input.result (length c.args.sides.now) c.args.route.now (get_or links c.loop-at.at none) links c.if-sides-ne2.false (c.saturating_sub-input.ensures ∙ ap (λ n. 1 - n) c.input.ensures) c.as_slice-links.ensures (in-place links none c.loop-at.at c.loop-at-test.true) in
    elim c.match-linked_to.branch [
      | in-None w ↦ subst (λ (o : Option ProbeStep). IfSome o (IsOwnStep (length c.args.sides.now) c.args.own.now.input c.args.route.now)) (sym w.best-is) c.loop-at.invariant
      | in-Some+then-is_none w ↦ subst (λ (o : Option ProbeStep). IfSome o (IsOwnStep (length c.args.sides.now) c.args.own.now.input c.args.route.now)) (sym w.best-is) step
      | in-Some+else-is_none+else-len-fewest w ↦ subst (λ (o : Option ProbeStep). IfSome o (IsOwnStep (length c.args.sides.now) c.args.own.now.input c.args.route.now)) (sym w.best-is) c.loop-at.invariant
    ]
