use Rattle.std.proofs.Common.{◌≡◌, ◌∙◌, ◌-◌, ◌++◌, ◌∷◌, [], true, List, ap, subst, sym, arith}
use Rattle.std.proofs.lemmas.Option.{get_or_from_slice_get, slice_get_within}
use Rattle.pj_value.proofs.Members.{in-place}
use Rattle.pj_state.specs.declared.shared.Stored.{Stored}
use Rattle.pj_events.specs.Join.{In, TupleAt, agree}
use Rattle.std.specs.Arc.{arc_value}
use Rattle.pj_events.specs.declared.events.Out.{Out}
use Rattle.pj_state.specs.States.{stored}
use Rattle.pj_probe.specs.Results.{pairs_out}
use Rattle.pj_probe.proofs.Looped.{pairs_more, pairs_stop}
use Rattle.pj_probe.proofs.handing.append_pairs.Goals as goal

pub returns-then-ticket-clause-ok : goal.returns-then-ticket-clause-ok
returns-then-ticket-clause-ok c =
    c.loop-at.invariant ∙ ap (λ (outs : List Out). c.args.outs.now ++ outs)
    (pairs_stop (arc_value c.args.route.now.checks) c.args.own.now (1 - c.args.own.now.input) c.args.among.now c.loop-at.at (stored c.nth_near-ticket.result.0 c.nth_near-ticket.result.1.now) c.len-at-end.ensures.rising c.nth_near-ticket.ensures (omega (arith, c.if-ticket.true, c.ticket.ensures)))

pub loop-at-preserved : goal.loop-at-preserved
loop-at-preserved c =
    pairs_more (arc_value c.args.route.now.checks) c.args.own.now (1 - c.args.own.now.input) c.args.among.now c.loop-at.at (stored c.nth_near-ticket.result.0 c.nth_near-ticket.result.1.now) c.args.outs.now c.loop-at.outs c.append_pair.new.outs c.nth_near-ticket.ensures c.loop-at.invariant
    (c.in_ok-append_pair.ensures.ok ∙ ap (λ (x : TupleAt). c.loop-at.outs ++ pairs_out (arc_value c.args.route.now.checks) c.args.own.now (x ∷ [])) (c.of-other.ensures ∙ ap (λ n. record { ticket = c.nth_near-ticket.result.0; input = n; row = c.nth_near-ticket.result.1.now }) (c.saturating_sub-input.ensures ∙ ap (λ n. 1 - n) c.input.ensures)))

pub append_pair-requires-clause-joins : goal.append_pair-requires-clause-joins
append_pair-requires-clause-joins c = λ t.
    let s : Stored = stored c.nth_near-ticket.result.0 c.nth_near-ticket.result.1.now in
    let there : In s c.args.among.now = subst (λ (u : Stored). In u c.args.among.now) (get_or_from_slice_get c.args.among.now c.loop-at.at s s c.nth_near-ticket.ensures) (in-place c.args.among.now s c.loop-at.at (slice_get_within c.args.among.now c.loop-at.at s c.nth_near-ticket.ensures)) in
    subst (λ (x : TupleAt). agree (arc_value c.args.route.now.checks) (c.args.own.now ∷ x ∷ []) ≡ true)
    (sym (c.of-other.ensures ∙ ap (λ n. record { ticket = c.nth_near-ticket.result.0; input = n; row = c.nth_near-ticket.result.1.now }) (c.saturating_sub-input.ensures ∙ ap (λ n. 1 - n) c.input.ensures)))
    (c.requires.join t s there)
