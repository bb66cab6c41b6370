-- Rounds of a feeder, and how they break off.
use Rattle.std.proofs.Common.{ℕ, Bool, false, List, [], ◌∷◌, ◌++◌, ◌≡◌, refl, sym, ap, ap₂, ◌∙◌, subst, append_assoc, append-nil}
use Rattle.std.specs.Prelude.{nat_lt}
use Rattle.std.proofs.lemmas.Bool.{true≢false}
use Rattle.pj_pattern.specs.declared.element.Element.{Element}
use Rattle.pj_events.specs.declared.events.Entry.{Entry}
use Rattle.pj_events.specs.declared.events.Event.TheVariants.{Arrive}
use Rattle.pj_events.specs.declared.events.Stop.{Stop}
use Rattle.pj_events.specs.Outcomes.{element_at, elements_of}
use Rattle.pj_feed.specs.Feeds.{FeedState}
use Rattle.pj_laws.specs.Seats.{HubPlan, made_by, seated}
use Rattle.pj_seats.specs.Answers.{closing_of}
use Rattle.pj_workers.specs.declared.ends.Broken.{Broken}
use Rattle.pj_workers.specs.declared.ends.Broken.TheVariants.{NoMemory as BrokenMemory, Stopped as BrokenStop}
use Rattle.pj_workers.specs.declared.feeding.FeedEnd.{FeedEnd}
use Rattle.pj_workers.specs.declared.feeding.FeedEnd.TheVariants.{Ended, Halted, ReadFault, ByteLimit, NoMemory, Stopped}
use Rattle.pj_workers.specs.Rounds.{FollowsFeeding, IsArrival, IsProbedWhere, IsRound, looked, most_pending}
use Rattle.pj_workers.specs.Ends.{Breaks, Ending, Ends, IsBreak, IsRefused, ends_feeding}
use Rattle.pj_workers.specs.Feeds.{BringsNone, IsFeedEnd, IsFeeding, closing_given, feed_end}
use Rattle.pj_workers.proofs.Rounds.{behind, halt-behind, look-first, more-added, refused-behind}
use Rattle.pj_workers.proofs.Bare.{IsBare, bare-append, bare-halted, bare-parts, bare-probed, bare-refused, none-left}

module _ (hub : HubPlan) (n pending : ℕ) (probed : List Entry) (is : IsProbedWhere (nat_lt most_pending pending) n probed) where
  abbrev firsts : List Entry
  firsts = looked n pending ∷ probed

  -- an arrival behind a look and what it asks for makes a whole round
  pub fed-round : (entries : List Entry) → IsArrival n entries → IsRound FollowsFeeding n (looked n pending ∷ (probed ++ entries))
  fed-round entries arrival = look-first FollowsFeeding n pending (probed ++ entries) (probed, entries, refl, is, arrival)

  lift : (entries : List Entry) → IsArrival n entries → IsRound FollowsFeeding n (firsts ++ (entries ++ []))
  lift entries arrival = subst (λ (l : List Entry). IsRound FollowsFeeding n (firsts ++ l)) (sym (append-nil entries)) (fed-round entries arrival)

  fed-end : (feed : FeedState) (end : FeedEnd) (ending : Ending) → IsFeedEnd hub n (IsArrival n) (λ look. false) feed end ending → IsFeedEnd hub n (IsRound FollowsFeeding n) ends_feeding feed end (behind firsts ending)
  fed-end feed Ended ending e = record {
    whole = subst (IsRound FollowsFeeding n) (sym (append_assoc firsts ending.front (ending.last ∷ []))) (fed-round (ending.front ++ ending.last ∷ []) e.whole);
    is_last = e.is_last;
  }
  fed-end feed Halted ending e = absurd (true≢false (sym e.shows))
  fed-end feed ReadFault ending e = halt-behind (IsArrival n) (IsRound FollowsFeeding n) firsts [] lift n ending e
  fed-end feed ByteLimit ending e = halt-behind (IsArrival n) (IsRound FollowsFeeding n) firsts [] lift n ending e
  fed-end feed NoMemory ending e = halt-behind (IsArrival n) (IsRound FollowsFeeding n) firsts [] lift n ending e
  fed-end feed (Stopped stop) ending e = record { call = refused-behind (IsArrival n) (IsRound FollowsFeeding n) firsts [] lift hub n stop ending e.call; given = e.given }

  -- no element arrived behind them
  pub fed-behind : (own mid after : List Entry) (old new : FeedState) (end : FeedEnd) → made_by n mid ≡ own ++ firsts → BringsNone hub n mid after old new end → Ends n (IsFeedEnd hub n (IsRound FollowsFeeding n) ends_feeding new end) own after
  fed-behind own mid after old new end added b =
      let e = b.ended in record {
        ending = behind firsts e.ending;
        seen = e.seen;
        adds = e.adds
            ∙ (ap (λ (l : List Entry). l ++ (e.ending.front ++ e.ending.last ∷ [])) added
            ∙ (append_assoc own firsts (e.ending.front ++ e.ending.last ∷ []) ∙ ap (λ (l : List Entry). own ++ l) (sym (append_assoc firsts e.ending.front (e.ending.last ∷ [])))));
        is = fed-end new end e.ending e.is;
      }

-- ---- what a look asks for broke off

module _ (hub : HubPlan) (n pending : ℕ) (mid after : List Entry) (broken : Broken) (e : Breaks hub n (IsProbedWhere (nat_lt most_pending pending) n) mid after broken) where
  abbrev part : List Entry → Type 0
  part = IsProbedWhere (nat_lt most_pending pending) n

  front-bare : (broken : Broken) → IsBreak hub n part broken e.ending → IsBare n e.ending.front
  front-bare BrokenMemory is = (bare-parts n e.ending.front is.rest (bare-probed (nat_lt most_pending pending) n (e.ending.front ++ is.rest) is.begins)).0
  front-bare (BrokenStop stop) is =
      (bare-parts n e.ending.front (seated n is.event is.mark ∷ is.rest) (bare-probed (nat_lt most_pending pending) n (e.ending.front ++ seated n is.event is.mark ∷ is.rest) is.begins)).0

  last-bare : (broken : Broken) → IsBreak hub n part broken e.ending → IsBare n (e.ending.last ∷ [])
  last-bare BrokenMemory is = subst (λ (entry : Entry). IsBare n (entry ∷ [])) (sym is.is_last) (bare-halted n)
  last-bare (BrokenStop stop) is = subst (λ (entry : Entry). IsBare n (entry ∷ [])) (sym is.is_last) (bare-refused n e.ending.history stop)

  -- it brings nothing
  pub broken-bare : IsBare n (e.ending.front ++ e.ending.last ∷ [])
  broken-bare = bare-append n e.ending.front (e.ending.last ∷ []) (front-bare broken e.is) (last-bare broken e.is)

  lift-part : (entries : List Entry) → part entries → IsRound FollowsFeeding n ((looked n pending ∷ []) ++ (entries ++ seated n (Arrive n (closing_of hub n)) 1 ∷ []))
  lift-part entries is = fed-round hub n pending entries is (seated n (Arrive n (closing_of hub n)) 1 ∷ []) (closing_of hub n, 1, refl)

  -- the event in whose place a call was refused brings nothing
  refused-none : (stop : Stop) (is : IsRefused hub n part stop e.ending) → element_at n is.event ≡ []
  refused-none stop is =
      let bare = bare-parts n e.ending.front (seated n is.event is.mark ∷ is.rest) (bare-probed (nat_lt most_pending pending) n (e.ending.front ++ seated n is.event is.mark ∷ is.rest) is.begins) in
      (none-left (element_at n is.event) (elements_of n is.rest) bare.1.none).0

  pub broken-behind : (own : List Entry) (feed : FeedState) → made_by n mid ≡ own ++ looked n pending ∷ [] → IsFeeding hub n (made_by n after) feed → Ends n (IsFeedEnd hub n (IsRound FollowsFeeding n) ends_feeding feed (feed_end broken)) own after
  broken-behind own feed added f = record {
    ending = behind (looked n pending ∷ []) e.ending;
    seen = e.seen;
    adds = more-added own (made_by n mid) (made_by n after) (looked n pending) (e.ending.front ++ e.ending.last ∷ []) added e.adds;
    is = go broken e.is;
  }
    where
      go : (broken : Broken) → IsBreak hub n part broken e.ending → IsFeedEnd hub n (IsRound FollowsFeeding n) ends_feeding feed (feed_end broken) (behind (looked n pending ∷ []) e.ending)
      go BrokenMemory is = halt-behind part (IsRound FollowsFeeding n) (looked n pending ∷ []) (seated n (Arrive n (closing_of hub n)) 1 ∷ []) lift-part n e.ending is
      go (BrokenStop stop) is = record {
        call = refused-behind part (IsRound FollowsFeeding n) (looked n pending ∷ []) (seated n (Arrive n (closing_of hub n)) 1 ∷ []) lift-part hub n stop e.ending is;
        given = record {
          accepted = elements_of n (made_by n after);
          has = f.accepted;
          are = ap₂ (λ (xs ys : List Element). xs ++ ys) (ap (λ (es : List Entry). elements_of n (made_by n es)) (sym e.seen)) (refused-none stop is)
              ∙ ap (λ (b : Bool). elements_of n (made_by n after) ++ closing_given hub feed.stream b) (sym f.still);
        };
      }
