-- Tests of events that no round passes: what a worker made of them, by how it ended.
use Rattle.std.proofs.Common.{ℕ, Bool, true, false, List, [], ◌∷◌, ◌++◌, ◌≡◌, Option, Some, None, inl, inr, refl, sym, subst}
use Rattle.pj_value.specs.Lists.{In}
use Rattle.pj_value.proofs.Members.{In-append_cases, In-append_left}
use Rattle.pj_pattern.specs.declared.element.Element.{Element}
use Rattle.pj_events.specs.declared.events.Entry.{Entry}
use Rattle.pj_events.specs.declared.events.Event.{Event}
use Rattle.pj_events.specs.declared.events.Event.TheVariants.{Arrive, Take as Taken, Give as Given, Sweep as Swept, Drain, Halt, Look as Looked, Stopped as StopMade, Idle}
use Rattle.pj_events.specs.declared.events.Stop.{Stop}
use Rattle.pj_feed.specs.Feeds.{FeedState}
use Rattle.pj_laws.specs.Seats.{HubPlan, made_by, seated, stop_of}
use Rattle.pj_seats.specs.Answers.{refused, stopping}
use Rattle.pj_workers.specs.Rounds.{FollowsFeeding, FollowsProbing, FollowsSweeping, FollowsWriting, IsRound, looked}
use Rattle.pj_workers.specs.Ends.{Ending, IsEnd, IsHalt, IsRefused, ends_feeding, ends_probing, ends_sweeping}
use Rattle.pj_workers.specs.Feeds.{IsFeedEnd}
use Rattle.pj_workers.specs.Writes.{IsWriteEnd}
use Rattle.pj_workers.specs.declared.ends.WorkEnd.{WorkEnd}
use Rattle.pj_workers.specs.declared.ends.WorkEnd.TheVariants.{Over, NoMemory, Stopped}
use Rattle.pj_workers.specs.declared.feeding.FeedEnd.{FeedEnd}
use Rattle.pj_workers.specs.declared.feeding.FeedEnd.TheVariants.{Ended, Halted, ReadFault, ByteLimit, NoMemory as FeedMemory, Stopped as FeedStopped}
use Rattle.pj_workers.specs.declared.writing.WriteEnd.{WriteEnd}
use Rattle.pj_workers.specs.declared.writing.WriteEnd.TheVariants.{Over as WriteOver, WriteFault, NoMemory as WriteMemory}
use Rattle.pj_crew_laws.specs.Acts.{Act, Fed, Probed, Swept as SweptPlaces, Wrote, HasActed, is_fault, is_writer, stop_told}
use Rattle.pj_crew_laws.proofs.Rounds.{IsOfRounds, feeding-is, made-is, over-is, probing-is, sweeping-is, writing-is}

-- ---- entries that do not pass a test

-- none of these entries passes the test
abbrev pub NonePasses : (Event → Bool) → List Entry → Type 0
NonePasses test entries = (entry : Entry) → In entry entries → test entry.event ≡ false

none-append : (test : Event → Bool) (xs ys : List Entry) → NonePasses test xs → NonePasses test ys → NonePasses test (xs ++ ys)
none-append test xs ys a b entry i = elim (In-append_cases entry xs ys i) [ inl k ↦ a entry k | inr k ↦ b entry k ]

none-front : (test : Event → Bool) (xs ys : List Entry) → NonePasses test (xs ++ ys) → NonePasses test xs
none-front test xs ys a entry i = a entry (In-append_left entry xs ys i)

none-one : (test : Event → Bool) (one : Entry) → test one.event ≡ false → NonePasses test (one ∷ [])
none-one test one fails entry (inl q) = subst (λ (e : Entry). test e.event ≡ false) q fails
none-one test one fails entry (inr i) = absurd i

-- no event of a round passes the test, but maybe a drain
pub record IsOfNoRound (test : Event → Bool) : Type 0 where
  pub looks : (pending : ℕ) → test (Looked pending) ≡ false
  pub idles : test Idle ≡ false
  pub takes : (join ticket : ℕ) → test (Taken join ticket) ≡ false
  pub gives : (join ticket : ℕ) → test (Given join ticket) ≡ false
  pub sweeps : (join input : ℕ) → test (Swept join input) ≡ false
  pub arrives : (stream : ℕ) (element : Element) → test (Arrive stream element) ≡ false

none-are : (test : Event → Bool) → IsOfNoRound test → IsOfRounds (NonePasses test)
none-are test spares = record {
  none = λ entry i. absurd i;
  both = none-append test;
  looks = λ seat pending. none-one test (looked seat pending) (spares.looks pending);
  idles = λ seat. none-one test (seated seat Idle 0) spares.idles;
  probes = λ seat join ticket. none-append test (seated seat (Taken join ticket) 0 ∷ []) (seated seat (Given join ticket) 0 ∷ [])
      (none-one test (seated seat (Taken join ticket) 0) (spares.takes join ticket))
      (none-one test (seated seat (Given join ticket) 0) (spares.gives join ticket));
  sweeps = λ seat join input. none-one test (seated seat (Swept join input) 0) (spares.sweeps join input);
  arrives = λ seat stream mark element. none-one test (seated seat (Arrive stream element) mark) (spares.arrives stream element);
}

-- ---- acts

-- what a worker of this role and with this end may make beyond the events of all rounds does not pass the test
pub record IsOfNone (test : Event → Bool) (act : Act) : Type 0 where
  pub drains : is_writer act ≡ true → test Drain ≡ false
  pub halts : is_fault act ≡ true → test Halt ≡ false
  pub stops : (stop : Stop) → stop_told act ≡ Some stop → test (StopMade stop) ≡ false

module _ (test : Event → Bool) (spares : IsOfNoRound test) (hub : HubPlan) (seat : ℕ) where
  are : IsOfRounds (NonePasses test)
  are = none-are test spares

  -- ---- endings

  module _ (part : List Entry → Type 0) (part-is : (entries : List Entry) → part entries → NonePasses test entries) where
    halt-is : test Halt ≡ false → (ending : Ending) → IsHalt seat part ending → NonePasses test (ending.front ++ ending.last ∷ [])
    halt-is fails ending is =
        none-append test ending.front (ending.last ∷ []) (none-front test ending.front is.rest (part-is (ending.front ++ is.rest) is.begins))
        (subst (λ (entry : Entry). NonePasses test (entry ∷ [])) (sym is.is_last) (none-one test (seated seat Halt 0) fails))

    refused-is : (stop : Stop) → test (StopMade stop) ≡ false → (ending : Ending) → IsRefused hub seat part stop ending → NonePasses test (ending.front ++ ending.last ∷ [])
    refused-is stop fails ending is =
        none-append test ending.front (ending.last ∷ [])
        (none-front test ending.front (seated seat is.event is.mark ∷ is.rest) (part-is (ending.front ++ seated seat is.event is.mark ∷ is.rest) is.begins))
        (subst (λ (entry : Entry). NonePasses test (entry ∷ [])) (sym is.is_last) (none-one test (seated seat (refused ending.history stop) 0) (go (stop_of ending.history))))
      where
        go : (before : Option Stop) → test (stopping before stop) ≡ false
        go None = fails
        go (Some before) = spares.idles

  feed-end-is : (old new : FeedState) (end : FeedEnd) → IsOfNone test (Fed old new end) → (ending : Ending) → IsFeedEnd hub seat (IsRound FollowsFeeding seat) ends_feeding new end ending
      → NonePasses test (ending.front ++ ending.last ∷ [])
  feed-end-is old new Ended fails ending is = feeding-is (NonePasses test) are seat (ending.front ++ ending.last ∷ []) is.whole
  feed-end-is old new Halted fails ending is = over-is (NonePasses test) are hub seat ends_feeding ending is
  feed-end-is old new ReadFault fails ending is = halt-is (IsRound FollowsFeeding seat) (feeding-is (NonePasses test) are seat) (fails.halts refl) ending is
  feed-end-is old new ByteLimit fails ending is = halt-is (IsRound FollowsFeeding seat) (feeding-is (NonePasses test) are seat) (fails.halts refl) ending is
  feed-end-is old new FeedMemory fails ending is = halt-is (IsRound FollowsFeeding seat) (feeding-is (NonePasses test) are seat) (fails.halts refl) ending is
  feed-end-is old new (FeedStopped stop) fails ending is = refused-is (IsRound FollowsFeeding seat) (feeding-is (NonePasses test) are seat) stop (fails.stops stop refl) ending is.call

  probe-end-is : (end : WorkEnd) → IsOfNone test (Probed end) → (ending : Ending) → IsEnd hub seat (IsRound FollowsProbing seat) ends_probing end ending → NonePasses test (ending.front ++ ending.last ∷ [])
  probe-end-is Over fails ending is = over-is (NonePasses test) are hub seat ends_probing ending is
  probe-end-is NoMemory fails ending is = halt-is (IsRound FollowsProbing seat) (probing-is (NonePasses test) are seat) (fails.halts refl) ending is
  probe-end-is (Stopped stop) fails ending is = refused-is (IsRound FollowsProbing seat) (probing-is (NonePasses test) are seat) stop (fails.stops stop refl) ending is

  sweep-end-is : (places : List (ℕ × ℕ)) (end : WorkEnd) → IsOfNone test (SweptPlaces places end) → (ending : Ending) → IsEnd hub seat (IsRound (FollowsSweeping places) seat) ends_sweeping end ending
      → NonePasses test (ending.front ++ ending.last ∷ [])
  sweep-end-is places Over fails ending is = over-is (NonePasses test) are hub seat ends_sweeping ending is
  sweep-end-is places NoMemory fails ending is = halt-is (IsRound (FollowsSweeping places) seat) (sweeping-is (NonePasses test) are places seat) (fails.halts refl) ending is
  sweep-end-is places (Stopped stop) fails ending is = refused-is (IsRound (FollowsSweeping places) seat) (sweeping-is (NonePasses test) are places seat) stop (fails.stops stop refl) ending is

  write-end-is : (end : WriteEnd) → IsOfNone test (Wrote end) → (ending : Ending) → IsWriteEnd hub seat end ending → NonePasses test (ending.front ++ ending.last ∷ [])
  write-end-is WriteOver fails ending is = over-is (NonePasses test) are hub seat ends_sweeping ending is
  write-end-is WriteFault fails ending is = halt-is (IsRound FollowsWriting seat) (writing-is (NonePasses test) are seat (none-one test (seated seat Drain 0) (fails.drains refl))) (fails.halts refl) ending is
  write-end-is WriteMemory fails ending is = halt-is (IsRound FollowsWriting seat) (writing-is (NonePasses test) are seat (none-one test (seated seat Drain 0) (fails.drains refl))) (fails.halts refl) ending is

  -- ---- all that a worker made

  pub none-acted : (seen : List Entry) (act : Act) → IsOfNone test act → HasActed hub seat seen act → NonePasses test (made_by seat seen)
  none-acted seen (Fed old new end) fails acted =
      made-is (NonePasses test) are seat (IsRound FollowsFeeding seat) (IsFeedEnd hub seat (IsRound FollowsFeeding seat) ends_feeding new end) seen
      (feeding-is (NonePasses test) are seat) (feed-end-is old new end fails) acted.1
  none-acted seen (Probed end) fails acted =
      made-is (NonePasses test) are seat (IsRound FollowsProbing seat) (IsEnd hub seat (IsRound FollowsProbing seat) ends_probing end) seen
      (probing-is (NonePasses test) are seat) (probe-end-is end fails) acted
  none-acted seen (SweptPlaces places end) fails acted =
      made-is (NonePasses test) are seat (IsRound (FollowsSweeping places) seat) (IsEnd hub seat (IsRound (FollowsSweeping places) seat) ends_sweeping end) seen
      (sweeping-is (NonePasses test) are places seat) (sweep-end-is places end fails) acted
  none-acted seen (Wrote end) fails acted =
      made-is (NonePasses test) are seat (IsRound FollowsWriting seat) (IsWriteEnd hub seat end) seen
      (writing-is (NonePasses test) are seat (none-one test (seated seat Drain 0) (fails.drains refl))) (write-end-is end fails) acted
