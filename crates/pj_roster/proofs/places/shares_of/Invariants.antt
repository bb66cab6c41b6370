use Rattle.std.proofs.Common.{◌≡◌, length, map, vec_capacity}
use Rattle.pj_events.specs.Join.{upto_from}
use Rattle.pj_roster.specs.Assigned.{share_at}
use Rattle.pj_roster.proofs.places.shares_of.Given as goal

abbrev pub invariant-loop-sweeper : goal.invariant-loop-sweeper
invariant-loop-sweeper l =
    (l.shares.items ≡ map (share_at l.fn.plan.nodes l.sweepers) (upto_from 0 l.sweeper)) × (length l.shares.items ≡ l.sweeper) × (vec_capacity l.shares ≡ vec_capacity l.initial.shares)
