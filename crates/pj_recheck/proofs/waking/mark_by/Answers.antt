use Rattle.std.proofs.Common.{ℕ, List, Option, IfSome, ◌∙◌, subst, sym}
use Rattle.pj_recheck.specs.Recheck.{RouteFinds}
use Rattle.pj_recheck.proofs.Rechecked.{leaves_elsewhere, leaves_found}
use Rattle.pj_recheck.proofs.waking.mark_by.Goals as goal

pub returns-then-not-is_wild_elsewhere-clause-left : goal.returns-then-not-is_wild_elsewhere-clause-left
returns-then-not-is_wild_elsewhere-clause-left c =
    leaves_elsewhere c.args.row_states.now c.args.route.now c.args.punct.now c.args.due.now (sym c.is_wild_elsewhere.ensures ∙ c.if-not-is_wild_elsewhere.true)

pub returns-in-Some-clause-left : goal.returns-in-Some-clause-left
returns-in-Some-clause-left c =
    leaves_found c.mark.result c.args.row_states.now c.args.route.now c.args.punct.now c.args.due.now c.mark.new.self c.in-Some.found.now c.in-Some.ensures c.mark.ensures.from c.mark.ensures.ok

pub returns-in-Some-2-clause-left : goal.returns-in-Some-2-clause-left
returns-in-Some-2-clause-left c =
    leaves_found c.mark-in-Some-2.result c.args.row_states.now c.args.route.now c.args.punct.now c.args.due.now c.mark-in-Some-2.new.self c.as_slice.result.now
    (subst (λ (ts : List ℕ). RouteFinds c.args.row_states.now c.args.route.now c.args.punct.now ts) (sym c.as_slice.ensures)
    (subst (λ (o : Option (List ℕ)). IfSome o (RouteFinds c.args.row_states.now c.args.route.now c.args.punct.now)) c.in-Some-2.is c.in_ok-asking-in-None.ensures))
    c.mark-in-Some-2.ensures.from c.mark-in-Some-2.ensures.ok
