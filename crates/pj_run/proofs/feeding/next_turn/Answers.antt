use Rattle.std.proofs.Common.{arith}
use Rattle.pj_feed.proofs.AllFeeds.{all_same, same_set, feeds_set, works_set}
use Rattle.pj_feed.proofs.Turned.{IsTurnAt, turn_here, turn_fed, turn_given, nothing_given}
use Rattle.pj_run.proofs.FeedTurns.{turn_stops}
use Rattle.pj_run.proofs.feeding.next_turn.Given.{Over}
use Rattle.pj_run.proofs.feeding.next_turn.Goals.{After-index_mut}
use Rattle.pj_run.proofs.feeding.next_turn.Goals as goal

-- the stream at this place has the turn
turn : (g : Over) (c : After-index_mut g) → IsTurnAt c.args.feeds.now.feeds.items c.in-Some.place c.index_mut.result.now
turn g c = turn_here c.args.feeds.now.feeds.items c.args.feeds.now.at c.in-Some.place c.index_mut.result.now c.in-Some.ensures c.index_mut.ensures.value

pub next_of-requires-clause-fed : goal.next_of-requires-clause-fed
next_of-requires-clause-fed g c =
    let here = turn g (goal.at.next_of-requires-clause-fed g c).After-index_mut in
    turn_fed c.requires.fed.0 c.args.feeds.now.feeds.items c.in-Some.place c.index_mut.result.now c.requires.fed.1 here

pub next_of-requires-clause-open : goal.next_of-requires-clause-open
next_of-requires-clause-open g c = (turn g (goal.at.next_of-requires-clause-open g c).After-index_mut).still

pub overflow_cast-result : goal.overflow_cast-result
overflow_cast-result g c =
    let here = turn g (goal.at.overflow_cast-result g c).After-index_mut in
    omega (arith, here.there, c.requires.few)

pub returns-in-None-clause-same : goal.returns-in-None-clause-same
returns-in-None-clause-same g c = all_same c.args.feeds.now.feeds.items

pub returns-in-None-clause-gives : goal.returns-in-None-clause-gives
returns-in-None-clause-gives g c = λ told streams f. nothing_given streams c.args.feeds.now.feeds.items c.args.feeds.now.at f told c.in-None.ensures

pub returns-in-Ok-clause-fed : goal.returns-in-Ok-clause-fed
returns-in-Ok-clause-fed g c = λ streams f.
    let here = turn g (goal.at.returns-in-Ok-clause-fed g c).After-index_mut in
    feeds_set 0 streams c.args.feeds.now.feeds.items c.in-Some.place c.index_mut.result.now c.next_of.new.feed f here.is c.in-Ok.ensures.same c.in-Ok.ensures.fed

pub returns-in-Ok-clause-same : goal.returns-in-Ok-clause-same
returns-in-Ok-clause-same g c =
    let here = turn g (goal.at.returns-in-Ok-clause-same g c).After-index_mut in
    same_set c.args.feeds.now.feeds.items c.in-Some.place c.index_mut.result.now c.next_of.new.feed here.is c.in-Ok.ensures.same

pub returns-in-Ok-clause-gives : goal.returns-in-Ok-clause-gives
returns-in-Ok-clause-gives g c = λ told streams f.
    let here = turn g (goal.at.returns-in-Ok-clause-gives g c).After-index_mut in
    turn_given streams c.args.feeds.now.feeds.items c.args.feeds.now.at c.in-Some.place c.index_mut.result.now c.next_of.new.feed c.in-Ok.next f told c.in-Some.ensures here (λ t. c.in-Ok.ensures.gives t streams)

pub returns-in-Ok-clause-works : goal.returns-in-Ok-clause-works
returns-in-Ok-clause-works g c =
    let here = turn g (goal.at.returns-in-Ok-clause-works g c).After-index_mut in
    works_set c.args.feeds.now.feeds.items c.in-Some.place c.index_mut.result.now c.next_of.new.feed here.is c.in-Ok.ensures.works

pub returns-in-Ok-clause-brings : goal.returns-in-Ok-clause-brings
returns-in-Ok-clause-brings g c =
    let here = turn g (goal.at.returns-in-Ok-clause-brings g c).After-index_mut in
    (c.in-Some.place, c.index_mut.result.now, here.is, c.in-Ok.ensures.brings)

pub returns-in-Err-clause-same : goal.returns-in-Err-clause-same
returns-in-Err-clause-same g c =
    let here = turn g (goal.at.returns-in-Err-clause-same g c).After-index_mut in
    same_set c.args.feeds.now.feeds.items c.in-Some.place c.index_mut.result.now c.next_of.new.feed here.is c.in-Err.ensures.same

pub returns-in-Err-clause-stops : goal.returns-in-Err-clause-stops
returns-in-Err-clause-stops g c =
    let here = turn g (goal.at.returns-in-Err-clause-stops g c).After-index_mut in
    turn_stops c.args.feeds.now.feeds.items c.args.feeds.now.at c.in-Some.place c.index_mut.result.now c.next_of.new.feed (g.K.Sink.state c.args.out.now) (g.K.Sink.state c.next_of.new.out) c.in-Err.why c.in-Some.ensures here c.in-Err.ensures.stops
