use Rattle.std.proofs.Common.{true, ◌≡◌, subst, sym, IfErr, arith}
use Rattle.std.specs.Prelude.{nat_lt}
use Rattle.pj_workers.specs.Ends.{Breaks}
use Rattle.pj_workers.specs.Rounds.{IsProbedWhere, most_pending}
use Rattle.pj_workers.proofs.feeding.relieve.Goals as goal

pub returns-then-pending-gt-MOST_PENDING-clause-breaks : goal.returns-then-pending-gt-MOST_PENDING-clause-breaks
returns-then-pending-gt-MOST_PENDING-clause-breaks g c =
    let h = g.H.Hub in
    let n = h.number c.args.seat.now in
    let due : nat_lt most_pending c.args.pending ≡ true = grind (arith, c.if-pending-gt-MOST_PENDING.true) in
    subst (λ b. IfErr c.probe_once.result (Breaks (h.plan c.args.hub.now) n (IsProbedWhere b n) (h.seen c.args.seat.now) (h.seen c.probe_once.new.seat))) (sym due) c.probe_once.ensures.breaks
