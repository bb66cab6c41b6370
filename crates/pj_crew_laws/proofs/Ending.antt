-- What a crew comes to whose feeders ended their streams and whose other workers were over.
use Rattle.std.proofs.Common.{ℕ, ◌<◌, true, false, List, [], ◌∷◌, ◌++◌, ◌≡◌, length, eqb, inl, inr, refl, ap, ◌∙◌}
use Rattle.pj_value.proofs.Members.{In-append_cases, In-append_left, In-append_right, In-filter}
use Rattle.pj_events.specs.declared.events.Entry.{Entry}
use Rattle.pj_events.specs.declared.events.Event.{Event}
use Rattle.pj_events.specs.declared.events.Event.TheVariants.{Arrive, Take as Taken, Give as Given, Sweep as Swept, Drain, Look as Looked, Idle}
use Rattle.pj_events.specs.Join.{has}
use Rattle.pj_events.specs.History.{begun, reached_of, streams_of}
use Rattle.pj_laws.specs.Seats.{HubPlan, is_closed, made_by, seated}
use Rattle.pj_laws.proofs.Feeding.{closed-own}
use Rattle.pj_crew_laws.specs.Acts.{Act, Fed, IsCrewHistory}
use Rattle.pj_crew_laws.specs.Crews.{AllWhole, FeedsAll, OfCrews, WholeCrewsEnd}
use Rattle.pj_crew_laws.proofs.Rounds.{IsOfRounds, whole-is}
use Rattle.pj_crew_laws.proofs.Makers.{made-of, own-seen, seen-in}
use Rattle.pj_crew_laws.proofs.Tickets.{TakesAreGiven, each-given}
use Rattle.pj_crew_laws.proofs.Closing.{closed-reached}

-- ---- takes and their gives

given-append : (xs ys : List Entry) → TakesAreGiven xs → TakesAreGiven ys → TakesAreGiven (xs ++ ys)
given-append xs ys a b taken i join ticket is = elim (In-append_cases taken xs ys i) [
  | inl k ↦ let g = a taken k join ticket is in (g.0, In-append_left g.0 xs ys g.1, g.2)
  | inr k ↦ let g = b taken k join ticket is in (g.0, In-append_right g.0 xs ys g.1, g.2)
]

-- an entry that takes nothing
given-one : (one : Entry) → ((join ticket : ℕ) → one.event ≡ Taken join ticket → ⊥) → TakesAreGiven (one ∷ [])
given-one one none taken (inl same) join ticket is = absurd (none join ticket (ap (λ (entry : Entry). entry.event) same ∙ is))
given-one one none taken (inr i) join ticket is = absurd i

-- the event that gives what an event takes
abbrev give_of : Event → Event
give_of (Taken join ticket) = Given join ticket
give_of _ = Idle

given-probe : (seat join ticket : ℕ) → TakesAreGiven (seated seat (Taken join ticket) 0 ∷ seated seat (Given join ticket) 0 ∷ [])
given-probe seat join ticket taken (inl same) j u is = (
  seated seat (Given join ticket) 0,
  inr (inl refl),
  ap give_of (ap (λ (entry : Entry). entry.event) same ∙ is),
)
given-probe seat join ticket taken (inr (inl same)) j u is = absurd (cc (ap (λ (entry : Entry). entry.event) same ∙ is))
given-probe seat join ticket taken (inr (inr i)) j u is = absurd i

given-are : IsOfRounds TakesAreGiven
given-are = record {
  none = λ taken i. absurd i;
  both = given-append;
  looks = λ seat pending. given-one (seated seat (Looked pending) 0) (λ join ticket is. cc);
  idles = λ seat. given-one (seated seat Idle 0) (λ join ticket is. cc);
  probes = given-probe;
  sweeps = λ seat join input. given-one (seated seat (Swept join input) 0) (λ j u is. cc);
  arrives = λ seat stream mark element. given-one (seated seat (Arrive stream element) mark) (λ join ticket is. cc);
}

-- ---- a crew that is whole

module _ (hub : HubPlan) (acts : List Act) (history : List Entry) (crew : IsCrewHistory hub acts history) (whole : AllWhole acts) where
  takes-given : TakesAreGiven history
  takes-given taken i join ticket is =
      let made = made-of hub acts history crew taken i in
      let own = whole-is TakesAreGiven given-are hub taken.seat made.seen made.act (λ writes. given-one (seated taken.seat Drain 0) (λ j u q. cc)) (whole taken.seat made.act made.did) made.acted in
      let given = own taken made.own join ticket is in
      (given.0, seen-in taken.seat made.seen history made.saw given.0 (In-filter (λ (entry : Entry). eqb entry.seat taken.seat) given.0 made.seen given.1).0, given.2)

  streams-closed : FeedsAll hub acts → (stream : ℕ) → stream < length (streams_of hub.nodes) → has (reached_of false hub.nodes history).closed stream ≡ true
  streams-closed feeds stream lt =
      let feed = feeds stream lt in
      let act : Act = Fed feed.0 feed.1 feed.2 in
      let each = crew.each stream act feed.3 in
      let own : is_closed stream history ≡ is_closed stream (made_by stream each.0) =
      closed-own stream history crew.by_seats.fed ∙ ap (is_closed stream) (own-seen stream each.0 history each.1) in
      closed-reached false (begun hub.nodes) history stream (own ∙ (each.2.2.closed ∙ whole stream act feed.3))

pub whole-crews-end : OfCrews WholeCrewsEnd
whole-crews-end hub planned acts history crew feeds whole = record {
  closed = streams-closed hub acts history crew whole feeds;
  given = each-given hub.nodes planned history (takes-given hub acts history crew whole);
}
