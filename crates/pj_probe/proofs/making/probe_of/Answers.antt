use Rattle.std.proofs.Common.{◌∙◌, ℕ, List, subst, sym}
use Rattle.std.specs.Arc.{arc_value}
use Rattle.pj_events.specs.Join.{Value}
use Rattle.pj_probe.specs.Hops.{FindSame}
use Rattle.pj_probe.proofs.Probed.{probe_is}
use Rattle.pj_probe.proofs.making.probe_of.Goals as goal

pub returns : goal.returns
returns c =
    probe_is c.args.join c.ticket.result c.args.own.now (arc_value c.args.route.now.checks) (arc_value c.in_ok-checks.checks) c.args.sides.now c.in_ok-sides.sides c.new.result
    c.new.ensures c.ticket.ensures c.in_ok-checks.ensures
    (subst (λ (lists : List (List (ℕ × List Value))). FindSame (arc_value c.args.route.now.checks) c.args.own.now c.args.sides.now lists) (sym (c.in_ok-sides.ensures ∙ c.as_slice.ensures)) c.in_ok-lent.ensures.same)
