-- Lines of a feed that are passed over, and what comes behind them.
use Rattle.std.proofs.Common.{◌≡◌, ◌≤◌, ◌^◌, ℕ, List, length, take, refl, ap, sym, ◌∙◌, subst, arith, IsTrue}
use Rattle.pj_io.specs.Causes.{Rose}
use Rattle.pj_pattern.specs.declared.element.Element.{Element}
use Rattle.pj_element.specs.Accepted.{taken_of, fates_of}
use Rattle.pj_intake.specs.declared.intake.IntakeStop.{IntakeStop}
use Rattle.pj_intake.specs.declared.intake.IntakeStop.TheVariants.{ReadFault, ByteLimit, NoMemory}
use Rattle.pj_feed.specs.declared.feeds.Arrival.{Arrival}
use Rattle.pj_feed.specs.Feeds.{AcceptsNone, ComesBehind, FeedState, FeedStops, HasAccepted, IsSameFeed, all_accepted, bytes_of, count_of, fed_elements}
use Rattle.pj_feed.proofs.FeedFacts.{begins_with, counted, those_so_far}
use Rattle.pj_workers.specs.Feeds.{FaultAt}

pub rose-later : (before mid now : ℕ) → before ≤ mid → Rose mid now → Rose before now
rose-later before mid now later rose = omega (arith, later, rose)

-- a feed that nothing was done with
pub same-still : {feed : FeedState} → IsSameFeed feed feed
same-still = record { stream = refl; columns = refl; told = refl; name = refl; faults = omega arith; bytes = λ t. refl }

pub same-then : (old mid new : FeedState) → IsSameFeed old mid → IsSameFeed mid new → IsSameFeed old new
same-then old mid new a b = record {
  stream = b.stream ∙ a.stream;
  columns = b.columns ∙ a.columns;
  told = b.told ∙ a.told;
  name = b.name ∙ a.name;
  faults = omega (arith, a.faults, b.faults);
  bytes = λ t. b.bytes (subst IsTrue (sym a.told) t) ∙ a.bytes t;
}

pub accepts-then : (old mid new : FeedState) → AcceptsNone old mid → AcceptsNone mid new → AcceptsNone old new
accepts-then old mid new a b = record { accepted = λ es had. b.accepted es (a.accepted es had); still = b.still ∙ a.still }

pub comes-then : (old mid new : FeedState) (next : Arrival) → AcceptsNone old mid → ComesBehind mid new next → ComesBehind old new next
comes-then old mid new next a c = record { accepted = λ es had. c.accepted es (a.accepted es had); still = c.still }

-- what was accepted so far is as much as was counted, of all that is accepted
pub so-far : (feed : FeedState) (es : List Element) → HasAccepted feed es → IsTrue feed.source.told → take (count_of feed) (all_accepted feed) ≡ es
so-far feed es has told =
    let b = begins_with feed has.fed told in
    those_so_far (all_accepted feed) (taken_of (fates_of feed.intake.columns has.fed.judged)) b.0 (count_of feed) b.1 (counted feed.intake has.fed.judged has.fed.follows.has_judged)
    ∙ sym has.are

-- a feed that stops behind lines that were passed over
pub stops-behind : (old mid new : FeedState) (stop : IntakeStop) → IsSameFeed old mid → AcceptsNone old mid → IsSameFeed mid new → FeedStops mid new stop → (es : List Element) → HasAccepted old es → FaultAt old new stop es
stops-behind old mid new ReadFault a passed b stops es had = (
  rose-later old.source.faults mid.source.faults new.source.faults a.faults stops.0,
  λ t. let told : IsTrue mid.source.told = subst IsTrue (sym a.told) t in stops.1 told ∙ so-far mid es (passed.accepted es had) told,
)
stops-behind old mid new ByteLimit a passed b stops es had = λ t.
    let told : IsTrue mid.source.told = subst IsTrue (sym a.told) t in
    let s = stops told in
    let bytes : bytes_of new ≡ bytes_of mid = b.bytes told in (
      subst (λ (xs : List ℕ). 2 ^ 40 ≤ length xs) (sym bytes) s.0,
      ap (λ (xs : List ℕ). fed_elements new.intake.columns (take (2 ^ 40) xs)) bytes ∙ (s.1 ∙ so-far mid es (passed.accepted es had) told),
    )
stops-behind old mid new NoMemory a passed b stops es had = tt
