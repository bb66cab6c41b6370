use Rattle.std.proofs.Common.{[], ◌≡◌, ◌≤◌, IsTrue}
use Rattle.pj_laws.specs.Seats.{made_by}
use Rattle.pj_workers.specs.declared.writing.WriteEnd.TheVariants.{Over}
use Rattle.pj_workers.specs.Rounds.{FollowsWriting, IsRound, Whole}
use Rattle.pj_workers.specs.Writes.{HandsOn, IsWritten}
use Rattle.pj_workers.proofs.writing.write_out.Given as goal

abbrev pub invariant-loop : goal.invariant-loop
invariant-loop g l =
    let h = g.H.Hub in
    let n = h.number l.fn.seat in
    let sink = g.K.Sink.state in
    (h.seat_name l.seat ≡ h.seat_name l.fn.seat)
    × (h.number l.seat ≡ n)
    × Whole (IsRound FollowsWriting n) (made_by n (h.seen l.fn.seat)) (made_by n (h.seen l.seat))
    × HandsOn (h.plan l.fn.hub) n (h.seen l.fn.seat) (h.seen l.seat) (IsWritten Over l.fn.plan.nodes l.fn.results l.results (sink l.fn.out) (sink l.out))
    × (l.results.form ≡ l.fn.results.form)
    × (IsTrue (sink l.out).told → IsTrue (sink l.fn.out).told)
    × ((sink l.fn.out).faults ≤ (sink l.out).faults)
    × ((sink l.fn.out).held ≡ [] → (sink l.out).held ≡ [])
