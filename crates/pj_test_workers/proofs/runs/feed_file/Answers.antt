use Rattle.std.proofs.Common.{arith}
use Rattle.pj_hub.specs.Hubs.{hub_with}
use Rattle.pj_hub.specs.Seated.{hub_made}
use Rattle.pj_turn.specs.Seats.{seat_number, seat_seen}
use Rattle.pj_test_workers.proofs.Auctions.{feeding}
use Rattle.pj_test_workers.proofs.runs.feed_file.Goals as goal

pub feed-end-requires-clause-feeding : goal.feed-end-requires-clause-feeding
feed-end-requires-clause-feeding g c κs within =
    feeding c.args.plan.now.nodes (hub_with (hub_made c.args.hub.now)) c.args.stream (seat_number c.args.seat.now) (seat_seen c.args.seat.now) c.in-Ok.from
    c.fresh_feeds_stand.ensures c.requires.auction (let few = c.requires.few in omega (arith, few)) c.requires.new.number c.requires.new.seen c.in-Ok.ensures
