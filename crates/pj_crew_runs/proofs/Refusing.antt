-- The call of a worker that was refused with the first stop of a crew, where that is for a limit.
use Rattle.std.proofs.Common.{ℕ, Bool, true, false, List, [], ◌∷◌, ◌++◌, ◌≡◌, ◌⊎◌, Option, Some, None, nat_lt, eqb, cond, inl, inr, refl, sym, ap, ◌∙◌, subst, append_assoc, append-nil}
use Rattle.std.proofs.lemmas.Bool.{eq-eqb, true≢false}
use Rattle.std.proofs.lemmas.List.{append_cancel_right}
use Rattle.std.proofs.lemmas.List.Elements.{filter-append}
use Rattle.pj_value.specs.Lists.{In}
use Rattle.pj_value.proofs.Members.{In-append_cases, In-append_left}
use Rattle.pj_events.specs.declared.events.Entry.{Entry}
use Rattle.pj_events.specs.declared.events.Event.{Event}
use Rattle.pj_events.specs.declared.events.Event.TheVariants.{Arrive, Take as Taken, Give as Given, Sweep as Swept, Drain, Halt, Look as Looked, Stopped as StopMade, Idle}
use Rattle.pj_events.specs.declared.events.Stop.{Stop}
use Rattle.pj_events.specs.declared.events.Stop.TheVariants.{Limit}
use Rattle.pj_events.specs.Outcomes.{element_at, elements_of, goes_beyond}
use Rattle.pj_feed.specs.Feeds.{FeedState}
use Rattle.pj_laws.specs.Seats.{HubPlan, made_by, seated, stop_of}
use Rattle.pj_seats.specs.Answers.{IsCauseOf, IsRefusal, stopping}
use Rattle.pj_workers.specs.Rounds.{FollowsFeeding, FollowsProbing, FollowsSweeping, IsArrival, IsProbed, IsProbedWhere, IsRound, looked, most_pending, swept_each}
use Rattle.pj_workers.specs.Ends.{Ending, IsEnd, IsRefused, Made, MayBeRefused, ends_feeding, ends_probing, ends_sweeping}
use Rattle.pj_workers.specs.Feeds.{HasGiven, IsFeedEnd}
use Rattle.pj_workers.specs.declared.ends.WorkEnd.TheVariants.{Over, NoMemory, Stopped}
use Rattle.pj_workers.specs.declared.feeding.FeedEnd.TheVariants.{Ended, Halted, ReadFault, ByteLimit, NoMemory as FeedMemory, Stopped as FeedStopped}
use Rattle.pj_crew_laws.specs.Acts.{Act, Fed, HasActed, Probed, Swept as SweptPlaces, Wrote, stop_told}
use Rattle.pj_crew_laws.proofs.Rounds.{IsOfRounds, feeding-is, made-is, probing-is, sweeping-is}
use Rattle.pj_crew_laws.proofs.Tests.{IsOfNoRound, none-acted}

-- ---- the order of a round

-- behind these entries of a round: a give stands right behind the take of its ticket, and an arrival is at one of these streams
abbrev pub Fits : (ℕ → Type 0) → ℕ → List Entry → Event → Type 0
Fits feeds seat front (Arrive stream element) = feeds stream
Fits feeds seat front (Given join ticket) = (before : List Entry) × (front ≡ before ++ seated seat (Taken join ticket) 0 ∷ [])
Fits feeds seat front (Taken join ticket) = Unit {0}
Fits feeds seat front (Swept join input) = Unit {0}
Fits feeds seat front Drain = Unit {0}
Fits feeds seat front Halt = Unit {0}
Fits feeds seat front (Looked pending) = Unit {0}
Fits feeds seat front (StopMade stop) = Unit {0}
Fits feeds seat front Idle = Unit {0}

-- each of these entries fits behind those before it
abbrev AreInOrder : (ℕ → Type 0) → ℕ → List Entry → List Entry → Type 0
AreInOrder feeds seat front [] = Unit {0}
AreInOrder feeds seat front (entry ∷ entries) = Fits feeds seat front entry.event × AreInOrder feeds seat (front ++ entry ∷ []) entries

module _ (feeds : ℕ → Type 0) (seat : ℕ) where
  order-at : (front xs ys : List Entry) (entry : Entry) → AreInOrder feeds seat front (xs ++ entry ∷ ys) → Fits feeds seat (front ++ xs) entry.event
  order-at front [] ys entry o = subst (λ (es : List Entry). Fits feeds seat es entry.event) (sym (append-nil front)) o.0
  order-at front (x ∷ xs) ys entry o = subst (λ (es : List Entry). Fits feeds seat es entry.event) (append_assoc front (x ∷ []) xs) (order-at (front ++ x ∷ []) xs ys entry o.1)

  order-append : (front xs ys : List Entry) → AreInOrder feeds seat front xs → AreInOrder feeds seat (front ++ xs) ys → AreInOrder feeds seat front (xs ++ ys)
  order-append front [] ys a b = subst (λ (es : List Entry). AreInOrder feeds seat es ys) (append-nil front) b
  order-append front (x ∷ xs) ys a b =
      (a.0, order-append (front ++ x ∷ []) xs ys a.1 (subst (λ (es : List Entry). AreInOrder feeds seat es ys) (sym (append_assoc front (x ∷ []) xs)) b))

  probed-order : (front entries : List Entry) → IsProbed seat entries → AreInOrder feeds seat front entries
  probed-order front entries (inl is) = subst (AreInOrder feeds seat front) (sym is) (tt, tt)
  probed-order front entries (inr is) = subst (AreInOrder feeds seat front) (sym is.2) (tt, ((front, refl), tt))

  relief-order : (due : Bool) (front entries : List Entry) → IsProbedWhere due seat entries → AreInOrder feeds seat front entries
  relief-order true front entries is = probed-order front entries is
  relief-order false front entries is = subst (AreInOrder feeds seat front) (sym is) tt

  swept-order : (front : List Entry) (places : List (ℕ × ℕ)) → AreInOrder feeds seat front (swept_each seat places)
  swept-order front [] = tt
  swept-order front (place ∷ places) = (tt, swept-order (front ++ seated seat (Swept place.0 place.1) 0 ∷ []) places)

  round-order : (follows : ℕ → ℕ → List Entry → Type 0) → ((front : List Entry) (pending : ℕ) (rest : List Entry) → follows seat pending rest → AreInOrder feeds seat front rest)
      → (entries : List Entry) → IsRound follows seat entries → AreInOrder feeds seat [] entries
  round-order follows rest-order entries round =
      subst (AreInOrder feeds seat []) (sym round.begins) (tt, rest-order (looked seat round.pending ∷ []) round.pending round.rest round.goes_on)

  probing-order : (entries : List Entry) → IsRound FollowsProbing seat entries → AreInOrder feeds seat [] entries
  probing-order entries round = round-order FollowsProbing (λ front pending rest is. probed-order front rest is) entries round

  sweeping-order : (places : List (ℕ × ℕ)) (entries : List Entry) → IsRound (FollowsSweeping places) seat entries → AreInOrder feeds seat [] entries
  sweeping-order places entries round =
      round-order (FollowsSweeping places) (λ front pending rest is. subst (AreInOrder feeds seat front) (sym is) (swept-order front places)) entries round

feeding-order : (seat : ℕ) (entries : List Entry) → IsRound FollowsFeeding seat entries → AreInOrder (λ s. s ≡ seat) seat [] entries
feeding-order seat entries round =
    round-order own seat FollowsFeeding (λ front pending rest is. subst (AreInOrder own seat front) (sym is.2)
    (order-append own seat front is.0 is.1 (relief-order own seat (nat_lt most_pending pending) front is.0 is.3) (fed-order (front ++ is.0) is.1 is.4)))
    entries round
  where
    own : ℕ → Type 0
    own s = s ≡ seat

    fed-order : (front fed : List Entry) → IsArrival seat fed → AreInOrder own seat front fed
    fed-order front fed is = subst (AreInOrder own seat front) (sym is.2) (refl, tt)

-- ---- entries that tell a stop

module _ (P : Type 0) (stop : Stop) where
  -- where one of these entries is this stop, this holds
  abbrev TellsStop : List Entry → Type 0
  TellsStop entries = (entry : Entry) → In entry entries → entry.event ≡ StopMade stop → P

  tells-append : (xs ys : List Entry) → TellsStop xs → TellsStop ys → TellsStop (xs ++ ys)
  tells-append xs ys a b entry i is = elim (In-append_cases entry xs ys i) [ inl k ↦ a entry k is | inr k ↦ b entry k is ]

  tells-front : (xs ys : List Entry) → TellsStop (xs ++ ys) → TellsStop xs
  tells-front xs ys a entry i is = a entry (In-append_left entry xs ys i) is

  tells-one : (one : Entry) → (one.event ≡ StopMade stop → P) → TellsStop (one ∷ [])
  tells-one one f entry (inl q) is = f (ap (λ (e : Entry). e.event) q ∙ is)
  tells-one one f entry (inr i) is = absurd i

  tells-are : IsOfRounds TellsStop
  tells-are = record {
    none = λ entry i is. absurd i;
    both = tells-append;
    looks = λ seat pending. tells-one (looked seat pending) (λ q. absurd (cc q));
    idles = λ seat. tells-one (seated seat Idle 0) (λ q. absurd (cc q));
    probes = λ seat join ticket. tells-append (seated seat (Taken join ticket) 0 ∷ []) (seated seat (Given join ticket) 0 ∷ [])
        (tells-one (seated seat (Taken join ticket) 0) (λ q. absurd (cc q)))
        (tells-one (seated seat (Given join ticket) 0) (λ q. absurd (cc q)));
    sweeps = λ seat join input. tells-one (seated seat (Swept join input) 0) (λ q. absurd (cc q));
    arrives = λ seat stream mark element. tells-one (seated seat (Arrive stream element) mark) (λ q. absurd (cc q));
  }

-- ---- the call that met the limit

-- The seat made the stop for the limit of this node, and nothing had stopped before it: what the seat had made, and the event that
-- was refused there
pub record MetLimit (hub : HubPlan) (seat node : ℕ) (feeds : ℕ → Type 0) (told : Event → Type 0) (seen : List Entry) : Type 0 where
  pub history : List Entry
  pub own : List Entry
  pub front : List Entry
  pub event : Event
  pub sees : seen ≡ history ++ seated seat (StopMade (Limit node)) 0 ∷ []
  pub mine : made_by seat history ≡ own ++ front
  pub on : stop_of history ≡ None
  pub may : MayBeRefused event
  pub fits : Fits feeds seat front event
  pub tells : told event
  pub beyond : goes_beyond hub.limit hub.nodes history event ≡ Some node

module _ (hub : HubPlan) (seat node : ℕ) (feeds : ℕ → Type 0) (told : Event → Type 0) (seen : List Entry) (part : List Entry → Type 0) where
  abbrev MetHere : Type 0
  MetHere = MetLimit hub seat node feeds told seen

  -- the last call was refused with this stop
  record IsLastCall (stop : Stop) (ending : Ending) : Type 0 where
    pub call : IsRefused hub seat part stop ending
    pub sees : seen ≡ ending.history ++ ending.last ∷ []
    pub own : List Entry
    pub adds : made_by seat seen ≡ own ++ (ending.front ++ ending.last ∷ [])
    pub tells : told call.event

  module _ (part-tells : (entries : List Entry) → part entries → TellsStop MetHere (Limit node) entries) (part-order : (entries : List Entry) → part entries → AreInOrder feeds seat [] entries) (stop : Stop) where
    last-met : (ending : Ending) → IsLastCall stop ending → ending.last.event ≡ StopMade (Limit node) → MetHere
    last-met ending l is = go (stop_of ending.history) refl l.call.cause (sym (ap (λ (e : Entry). e.event) l.call.is_last) ∙ is)
      where
        last-own : made_by seat seen ≡ made_by seat ending.history ++ ending.last ∷ []
        last-own =
            ap (made_by seat) l.sees
            ∙ (filter-append (λ (e : Entry). eqb e.seat seat) ending.history (ending.last ∷ [])
            ∙ ap (λ (b : Bool). made_by seat ending.history ++ cond b (ending.last ∷ []) []) (eq-eqb ending.last.seat seat (ap (λ (e : Entry). e.seat) l.call.is_last)))

        mine : made_by seat ending.history ≡ l.own ++ ending.front
        mine =
            append_cancel_right (made_by seat ending.history) (l.own ++ ending.front) (ending.last ∷ [])
            (sym last-own ∙ (l.adds ∙ sym (append_assoc l.own ending.front (ending.last ∷ []))))

        go : (before : Option Stop) → stop_of ending.history ≡ before → IsRefusal before stop (IsCauseOf hub ending.history l.call.event stop) → stopping (stop_of ending.history) stop ≡ StopMade (Limit node) → MetHere
        go None on cause q =
            let made : StopMade stop ≡ StopMade (Limit node) = ap (λ (o : Option Stop). stopping o stop) (sym on) ∙ q in
            let same : stop ≡ Limit node = cc made in
            record {
              history = ending.history;
              own = l.own;
              front = ending.front;
              event = l.call.event;
              sees = l.sees ∙ ap (λ (e : Entry). ending.history ++ e ∷ []) (l.call.is_last ∙ ap (λ (event : Event). seated seat event 0) q);
              mine = mine;
              on = on;
              may = l.call.may;
              fits = order-at feeds seat [] ending.front l.call.rest (seated seat l.call.event l.call.mark) (part-order (ending.front ++ seated seat l.call.event l.call.mark ∷ l.call.rest) l.call.begins);
              tells = l.tells;
              beyond = subst (IsCauseOf hub ending.history l.call.event) same cause;
            }
        go (Some before) on cause q = absurd (cc (ap (λ (o : Option Stop). stopping o stop) (sym on) ∙ q))

    last-tells : (ending : Ending) → IsLastCall stop ending → TellsStop MetHere (Limit node) (ending.front ++ ending.last ∷ [])
    last-tells ending l =
        let next : List Entry = seated seat l.call.event l.call.mark ∷ l.call.rest in
        tells-append MetHere (Limit node) ending.front (ending.last ∷ [])
        (tells-front MetHere (Limit node) ending.front next (part-tells (ending.front ++ next) l.call.begins))
        (tells-one MetHere (Limit node) ending.last (last-met ending l))

    met : (is_end : Ending → Type 0) → ((ending : Ending) → seen ≡ ending.history ++ ending.last ∷ [] → is_end ending → (call : IsRefused hub seat part stop ending) × told call.event)
        → Made seat part is_end [] seen → TellsStop MetHere (Limit node) (made_by seat seen)
    met is_end calls made =
        let ended = made.ended in
        let call = calls ended.ending ended.seen ended.is in
        made-is (TellsStop MetHere (Limit node)) (tells-are MetHere (Limit node)) seat part (IsLastCall stop) seen part-tells last-tells (record {
          own = made.own;
          whole = made.whole;
          ended = record {
            ending = ended.ending;
            seen = ended.seen;
            adds = ended.adds;
            is = record { call = call.0; sees = ended.seen; own = made.own; adds = ended.adds; tells = call.1 };
          };
        })

-- ---- acts

-- a stop for a limit
abbrev is_limit : Event → Bool
is_limit (StopMade (Limit node)) = true
is_limit _ = false

limits-in-none : IsOfNoRound is_limit
limits-in-none = record {
  looks = λ pending. refl;
  idles = refl;
  takes = λ join ticket. refl;
  gives = λ join ticket. refl;
  sweeps = λ join input. refl;
  arrives = λ stream element. refl;
}

-- what a feeder tells of the event that was refused: with its element the feed has given exactly what the seat made arrive
abbrev pub GivesWith : HubPlan → ℕ → FeedState → List Entry → Event → Type 0
GivesWith hub seat feed seen event = HasGiven hub feed (elements_of seat (made_by seat seen) ++ element_at seat event)

-- a feeder met the limit
pub record FedUntil (hub : HubPlan) (seat node : ℕ) (seen : List Entry) (act : Act) : Type 0 where
  pub old : FeedState
  pub new : FeedState
  pub stop : Stop
  pub is : act ≡ Fed old new (FeedStopped stop)
  pub met : MetLimit hub seat node (λ s. s ≡ seat) (GivesWith hub seat new seen) seen

module _ (hub : HubPlan) (seat node : ℕ) (seen : List Entry) where
  -- a prober or a sweeper met it, or a feeder
  abbrev pub MetBy : Act → Type 0
  MetBy act = MetLimit hub seat node (λ s. ⊥) (λ event. Unit {0}) seen ⊎ FedUntil hub seat node seen act

  none-met : (act : Act) → stop_told act ≡ None → HasActed hub seat seen act → TellsStop (MetBy act) (Limit node) (made_by seat seen)
  none-met act none acted entry i is =
      absurd (true≢false (sym (ap is_limit is) ∙ none-acted is_limit limits-in-none hub seat seen act (record {
        drains = λ writer. refl;
        halts = λ fault. refl;
        stops = λ stop told. absurd (cc (none, told));
      }) acted entry i))

  pub met-by : (act : Act) → HasActed hub seat seen act → (entry : Entry) → In entry (made_by seat seen) → entry.event ≡ StopMade (Limit node) → MetBy act
  met-by (Fed old new (FeedStopped stop)) acted entry i is = inr (record {
    old = old;
    new = new;
    stop = stop;
    is = refl;
    met = met hub seat node (λ s. s ≡ seat) (GivesWith hub seat new seen) seen (IsRound FollowsFeeding seat)
        (feeding-is (TellsStop Fmet (Limit node)) (tells-are Fmet (Limit node)) seat) (feeding-order seat) stop
        (IsFeedEnd hub seat (IsRound FollowsFeeding seat) ends_feeding new (FeedStopped stop))
        (λ ending sees e. (e.call, subst (λ (es : List Entry). GivesWith hub seat new es e.call.event) (sym sees) e.given)) acted.1 entry i is;
  })
    where
      Fmet : Type 0
      Fmet = MetLimit hub seat node (λ s. s ≡ seat) (GivesWith hub seat new seen) seen
  met-by (Probed (Stopped stop)) acted entry i is =
      inl (met hub seat node (λ s. ⊥) (λ event. Unit {0}) seen (IsRound FollowsProbing seat) (probing-is (TellsStop Wmet (Limit node)) (tells-are Wmet (Limit node)) seat) (probing-order (λ s. ⊥) seat) stop
      (IsEnd hub seat (IsRound FollowsProbing seat) ends_probing (Stopped stop)) (λ ending sees e. (e, tt)) acted entry i is)
    where
      Wmet : Type 0
      Wmet = MetLimit hub seat node (λ s. ⊥) (λ event. Unit {0}) seen
  met-by (SweptPlaces places (Stopped stop)) acted entry i is =
      inl (met hub seat node (λ s. ⊥) (λ event. Unit {0}) seen (IsRound (FollowsSweeping places) seat) (sweeping-is (TellsStop Wmet (Limit node)) (tells-are Wmet (Limit node)) places seat)
      (sweeping-order (λ s. ⊥) seat places) stop
      (IsEnd hub seat (IsRound (FollowsSweeping places) seat) ends_sweeping (Stopped stop)) (λ ending sees e. (e, tt)) acted entry i is)
    where
      Wmet : Type 0
      Wmet = MetLimit hub seat node (λ s. ⊥) (λ event. Unit {0}) seen
  met-by (Fed old new Ended) acted entry i is = none-met (Fed old new Ended) refl acted entry i is
  met-by (Fed old new Halted) acted entry i is = none-met (Fed old new Halted) refl acted entry i is
  met-by (Fed old new ReadFault) acted entry i is = none-met (Fed old new ReadFault) refl acted entry i is
  met-by (Fed old new ByteLimit) acted entry i is = none-met (Fed old new ByteLimit) refl acted entry i is
  met-by (Fed old new FeedMemory) acted entry i is = none-met (Fed old new FeedMemory) refl acted entry i is
  met-by (Probed Over) acted entry i is = none-met (Probed Over) refl acted entry i is
  met-by (Probed NoMemory) acted entry i is = none-met (Probed NoMemory) refl acted entry i is
  met-by (SweptPlaces places Over) acted entry i is = none-met (SweptPlaces places Over) refl acted entry i is
  met-by (SweptPlaces places NoMemory) acted entry i is = none-met (SweptPlaces places NoMemory) refl acted entry i is
  met-by (Wrote end) acted entry i is = none-met (Wrote end) refl acted entry i is
