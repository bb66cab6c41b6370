use Rattle.std.proofs.Common.{◌+◌, ◌++◌, List, ℕ, get_or, refl, subst, sym, take}
use Rattle.std.specs.BTreeSet.{BTreeSet}
use Rattle.std.proofs.lemmas.List.{take_all}
use Rattle.pj_state.specs.States.{rows_with, tickets_of}
use Rattle.pj_events.specs.Join.{In}
use Rattle.pj_recheck.specs.Watching.{AreWhole, HavePartners}
use Rattle.pj_recheck.proofs.Backward.{partners_all, partners_more, partners_past}
use Rattle.pj_recheck.proofs.reaching.partners.Goals as goal
use Rattle.pj_recheck.proofs.reaching.partners.Goals.{in-None, in-Some+in-Some-get+in_ok-append_once-in-Some-get}

pub loop-ticket-preserved : goal.loop-ticket-preserved
loop-ticket-preserved c = elim c.match-get_near.branch [
  | in-None w ↦ (
    subst (λ (found : List ℕ). HavePartners c.args.state.now.rows c.args.others.now.rows c.args.pair (take (c.loop-ticket.ticket-index + 1) c.args.tickets.now) found) (sym w.found-is)
        (partners_past c.args.state.now.rows c.args.others.now.rows c.args.pair c.args.tickets.now c.loop-ticket.found c.loop-ticket.ticket-index (get_or c.args.tickets.now c.loop-ticket.ticket-index 0) c.len.ensures.rising c.loop-ticket-test.true refl w.in-None.ensures c.loop-ticket.invariant.0),
    subst (λ (found : List ℕ). AreWhole c.args.state.now.rows c.args.pair.mine c.match-get_near.seen found) (sym w.found-is)
        (subst (λ (seen : BTreeSet ℕ). AreWhole c.args.state.now.rows c.args.pair.mine seen c.loop-ticket.found) (sym w.seen-is) c.loop-ticket.invariant.1),
  )
  | in-Some+in-Some-get+in_ok-append_once-in-Some-get w ↦ (
    partners_more c.args.state.now c.args.others.now.rows c.args.pair c.args.tickets.now c.loop-ticket.found c.match-get_near.found c.loop-ticket.ticket-index (get_or c.args.tickets.now c.loop-ticket.ticket-index 0) w.in-Some.row.now w.in-Some-get.value.now c.requires.wide c.requires.indexed c.len.ensures.rising c.loop-ticket-test.true refl
        w.in-Some.ensures (sym w.in-Some-get.ensures)
        (subst (λ (found : List ℕ). (n : ℕ) → In n (c.loop-ticket.found ++ tickets_of (rows_with c.args.pair.mine w.in-Some-get.value.now c.args.state.now.rows)) → In n found) (sym w.found-is) w.in_ok-append_once-in-Some-get.ensures.all)
        c.loop-ticket.invariant.0,
    subst (λ (found : List ℕ). AreWhole c.args.state.now.rows c.args.pair.mine c.match-get_near.seen found) (sym w.found-is)
        (subst (λ (seen : BTreeSet ℕ). AreWhole c.args.state.now.rows c.args.pair.mine seen w.append_once.new.found) (sym w.seen-is) w.in_ok-append_once-in-Some-get.ensures.whole),
  )
]

pub returns : goal.returns
returns c =
    partners_all c.args.state.now.rows c.args.others.now.rows c.args.pair c.args.tickets.now c.loop-ticket.found c.of.result (λ n h. subst (λ (ns : List ℕ). In n ns) (sym c.of.ensures) (c.in_order.ensures.all n h))
    (subst (λ (ns : List ℕ). HavePartners c.args.state.now.rows c.args.others.now.rows c.args.pair ns c.loop-ticket.found) (take_all c.loop-ticket.ticket-index c.args.tickets.now c.loop-ticket-test.false) c.loop-ticket.invariant.0)
