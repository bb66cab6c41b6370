-- What each round of a role is, so is all that is made of whole rounds.
use Rattle.std.proofs.Common.{ℕ, Bool, true, false, List, [], ◌∷◌, ◌++◌, ◌≡◌, nat_lt, inl, inr, refl, sym, subst}
use Rattle.std.proofs.lemmas.Bool.{false≢true}
use Rattle.pj_pattern.specs.declared.element.Element.{Element}
use Rattle.pj_events.specs.declared.events.Entry.{Entry}
use Rattle.pj_events.specs.declared.events.Event.TheVariants.{Arrive, Take as Taken, Give as Given, Sweep as Swept, Drain, Idle}
use Rattle.pj_events.specs.declared.events.Look.{Look}
use Rattle.pj_laws.specs.Seats.{HubPlan, made_by, seated}
use Rattle.pj_workers.specs.Rounds.{AreRounds, FollowsFeeding, FollowsProbing, FollowsSweeping, FollowsWriting, IsArrival, IsProbed, IsProbedWhere, IsRound, joined, looked, most_pending, swept_each}
use Rattle.pj_workers.specs.Ends.{Ending, IsEnd, IsOver, Made, ends_feeding, ends_probing, ends_sweeping}
use Rattle.pj_workers.specs.Feeds.{IsFeedEnd}
use Rattle.pj_workers.specs.Writes.{IsWriteEnd}
use Rattle.pj_workers.specs.declared.ends.WorkEnd.TheVariants.{Over, NoMemory, Stopped}
use Rattle.pj_workers.specs.declared.feeding.FeedEnd.TheVariants.{Ended, Halted, ReadFault, ByteLimit, NoMemory as FeedMemory, Stopped as FeedStopped}
use Rattle.pj_workers.specs.declared.writing.WriteEnd.TheVariants.{Over as WriteOver, WriteFault, NoMemory as WriteMemory}
use Rattle.pj_crew_laws.specs.Acts.{Act, Fed, Probed, Swept as SweptPlaces, Wrote, HasActed, is_whole, is_writer}

-- what the parts of rounds are, but maybe drains, and what stands behind one another is
pub record IsOfRounds (Good : List Entry → Type 0) : Type 0 where
  pub none : Good []
  pub both : (xs ys : List Entry) → Good xs → Good ys → Good (xs ++ ys)
  pub looks : (seat pending : ℕ) → Good (looked seat pending ∷ [])
  pub idles : (seat : ℕ) → Good (seated seat Idle 0 ∷ [])
  pub probes : (seat join ticket : ℕ) → Good (seated seat (Taken join ticket) 0 ∷ seated seat (Given join ticket) 0 ∷ [])
  pub sweeps : (seat join input : ℕ) → Good (seated seat (Swept join input) 0 ∷ [])
  pub arrives : (seat stream mark : ℕ) (element : Element) → Good (seated seat (Arrive stream element) mark ∷ [])

module _ (Good : List Entry → Type 0) (are : IsOfRounds Good) where
  -- ---- parts of rounds

  probed-is : (seat : ℕ) (entries : List Entry) → IsProbed seat entries → Good entries
  probed-is seat entries (inl is) = subst Good (sym is) (are.idles seat)
  probed-is seat entries (inr is) = subst Good (sym is.2) (are.probes seat is.0 is.1)

  relief-is : (due : Bool) (seat : ℕ) (entries : List Entry) → IsProbedWhere due seat entries → Good entries
  relief-is true seat entries is = probed-is seat entries is
  relief-is false seat entries is = subst Good (sym is) are.none

  arrival-is : (seat : ℕ) (entries : List Entry) → IsArrival seat entries → Good entries
  arrival-is seat entries is = subst Good (sym is.2) (are.arrives seat seat is.1 is.0)

  swept-is : (seat : ℕ) (places : List (ℕ × ℕ)) → Good (swept_each seat places)
  swept-is seat [] = are.none
  swept-is seat (place ∷ places) = are.both (seated seat (Swept place.0 place.1) 0 ∷ []) (swept_each seat places) (are.sweeps seat place.0 place.1) (swept-is seat places)

  -- ---- rounds

  round-is : (follows : ℕ → ℕ → List Entry → Type 0) (seat : ℕ) → ((pending : ℕ) (rest : List Entry) → follows seat pending rest → Good rest) → (entries : List Entry) → IsRound follows seat entries → Good entries
  round-is follows seat rest-is entries round =
      subst Good (sym round.begins) (are.both (looked seat round.pending ∷ []) round.rest (are.looks seat round.pending) (rest-is round.pending round.rest round.goes_on))

  pub probing-is : (seat : ℕ) (entries : List Entry) → IsRound FollowsProbing seat entries → Good entries
  probing-is seat entries round = round-is FollowsProbing seat (λ pending rest is. probed-is seat rest is) entries round

  pub sweeping-is : (places : List (ℕ × ℕ)) (seat : ℕ) (entries : List Entry) → IsRound (FollowsSweeping places) seat entries → Good entries
  sweeping-is places seat entries round = round-is (FollowsSweeping places) seat (λ pending rest is. subst Good (sym is) (swept-is seat places)) entries round

  pub writing-is : (seat : ℕ) → Good (seated seat Drain 0 ∷ []) → (entries : List Entry) → IsRound FollowsWriting seat entries → Good entries
  writing-is seat drains entries round = round-is FollowsWriting seat (λ pending rest is. subst Good (sym is) drains) entries round

  pub feeding-is : (seat : ℕ) (entries : List Entry) → IsRound FollowsFeeding seat entries → Good entries
  feeding-is seat entries round =
      round-is FollowsFeeding seat (λ pending rest is. subst Good (sym is.2) (are.both is.0 is.1 (relief-is (nat_lt most_pending pending) seat is.0 is.3) (arrival-is seat is.1 is.4))) entries round

  -- ---- what one call made

  joined-is : (part : List Entry → Type 0) → ((entries : List Entry) → part entries → Good entries) → (rounds : List (List Entry)) → AreRounds part rounds → Good (joined rounds)
  joined-is part part-is [] each = are.none
  joined-is part part-is (round ∷ rounds) each = are.both round (joined rounds) (part-is round each.0) (joined-is part part-is rounds each.1)

  pub made-is : (seat : ℕ) (part : List Entry → Type 0) (is_end : Ending → Type 0) (seen : List Entry) → ((entries : List Entry) → part entries → Good entries)
      → ((ending : Ending) → is_end ending → Good (ending.front ++ ending.last ∷ [])) → Made seat part is_end [] seen → Good (made_by seat seen)
  made-is seat part is_end seen part-is end-is made =
      subst Good (sym made.ended.adds)
      (are.both made.own (made.ended.ending.front ++ made.ended.ending.last ∷ [])
      (subst Good (sym made.whole.adds) (joined-is part part-is made.whole.rounds made.whole.each))
      (end-is made.ended.ending made.ended.is))

  pub over-is : (hub : HubPlan) (seat : ℕ) (over : Look → Bool) (ending : Ending) → IsOver hub seat over ending → Good (ending.front ++ ending.last ∷ [])
  over-is hub seat over ending is =
      are.both ending.front (ending.last ∷ []) (subst Good (sym is.none) are.none)
      (subst (λ (entry : Entry). Good (entry ∷ [])) (sym is.is_last) (are.looks seat is.look.pending))

  -- ---- acts that are whole

  pub whole-is : (hub : HubPlan) (seat : ℕ) (seen : List Entry) (act : Act) → (is_writer act ≡ true → Good (seated seat Drain 0 ∷ [])) → is_whole act ≡ true → HasActed hub seat seen act → Good (made_by seat seen)
  whole-is hub seat seen (Fed old new Ended) drains whole acted =
      made-is seat (IsRound FollowsFeeding seat) (IsFeedEnd hub seat (IsRound FollowsFeeding seat) ends_feeding new Ended) seen (feeding-is seat)
      (λ ending is. feeding-is seat (ending.front ++ ending.last ∷ []) is.whole) acted.1
  whole-is hub seat seen (Fed old new Halted) drains whole acted = absurd (false≢true whole)
  whole-is hub seat seen (Fed old new ReadFault) drains whole acted = absurd (false≢true whole)
  whole-is hub seat seen (Fed old new ByteLimit) drains whole acted = absurd (false≢true whole)
  whole-is hub seat seen (Fed old new FeedMemory) drains whole acted = absurd (false≢true whole)
  whole-is hub seat seen (Fed old new (FeedStopped stop)) drains whole acted = absurd (false≢true whole)
  whole-is hub seat seen (Probed Over) drains whole acted =
      made-is seat (IsRound FollowsProbing seat) (IsEnd hub seat (IsRound FollowsProbing seat) ends_probing Over) seen (probing-is seat) (over-is hub seat ends_probing) acted
  whole-is hub seat seen (Probed NoMemory) drains whole acted = absurd (false≢true whole)
  whole-is hub seat seen (Probed (Stopped stop)) drains whole acted = absurd (false≢true whole)
  whole-is hub seat seen (SweptPlaces places Over) drains whole acted =
      made-is seat (IsRound (FollowsSweeping places) seat) (IsEnd hub seat (IsRound (FollowsSweeping places) seat) ends_sweeping Over) seen (sweeping-is places seat) (over-is hub seat ends_sweeping) acted
  whole-is hub seat seen (SweptPlaces places NoMemory) drains whole acted = absurd (false≢true whole)
  whole-is hub seat seen (SweptPlaces places (Stopped stop)) drains whole acted = absurd (false≢true whole)
  whole-is hub seat seen (Wrote WriteOver) drains whole acted =
      made-is seat (IsRound FollowsWriting seat) (IsWriteEnd hub seat WriteOver) seen (writing-is seat (drains refl)) (over-is hub seat ends_sweeping) acted
  whole-is hub seat seen (Wrote WriteFault) drains whole acted = absurd (false≢true whole)
  whole-is hub seat seen (Wrote WriteMemory) drains whole acted = absurd (false≢true whole)
