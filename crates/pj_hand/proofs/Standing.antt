-- What a hand stands for behind each of its steps.
use Rattle.std.proofs.Common.{ℕ, Bool, true, false, List, [], ◌∷◌, ◌++◌, ◌≡◌, ◌⊎◌, Option, Some, None, refl, sym, ap, ◌∙◌, subst, inl, inr}
use Rattle.pj_value.specs.Lists.{In, has}
use Rattle.pj_events.specs.declared.events.Entry.{Entry}
use Rattle.pj_events.specs.declared.events.Event.{Event}
use Rattle.pj_events.specs.declared.events.Event.TheVariants.{Drain, Take as Taken, Give as Given, Sweep as Swept}
use Rattle.pj_events.specs.declared.events.Stop.{Stop}
use Rattle.pj_events.specs.declared.events.Stop.TheVariants.{Limit, NoMemory}
use Rattle.pj_events.specs.History.{IsLegal}
use Rattle.pj_events.specs.OneThread.{Pending, plain}
use Rattle.pj_events.specs.Outcomes.{goes_beyond, results_of}
use Rattle.pj_events.specs.Plan.{ArePlanned}
use Rattle.pj_plan.specs.Sound.{IsSoundPlan}
use Rattle.pj_probe.specs.declared.probe.Found.{Found}
use Rattle.pj_core.specs.Calls.{AreResults, FindsNone, FitNode, HasArrived, HasSwept, IsCause, IsGiveCause, IsOpen, IsRefused, StopsNow, TakesNext}
use Rattle.pj_core.specs.Cores.{Notes, StandsFor, nodes_after, nodes_in}
use Rattle.pj_core.specs.Plans.{RunPlan, nodes_of}
use Rattle.pj_core.proofs.Planned.{planned}
use Rattle.pj_core_laws.proofs.UnderWay.{fits-under_way, opens-under_way}
use Rattle.pj_laws.specs.Seats.{IsUnderWay}
use Rattle.pj_value.specs.declared.values.Value.{Value}
use Rattle.pj_value.proofs.Members.{any_from}
use Rattle.pj_script.specs.declared.step.ScriptStep.TheVariants.{Give, Sweep, Take}
use Rattle.pj_script.specs.Playing.{give_if, take_if, under_way_at}
use Rattle.pj_hand.specs.Hands.{HandState, HandStandsFor, HoldsUnderWay, StandsForOne}
use Rattle.pj_hand.specs.Held.{AreInOrder, first_place, found_at, holds, is_of, put_in, without}
use Rattle.pj_hand.specs.Steps.{AnswersStep, GivesFirst, GivesOne, GivesProbe, HandArrives, HandNotes, HandStops, IsEventRefused, IsGiveRefused, IsHandCause, IsHandRefused, IsMade, IsUnderWayThere, LacksMemory, MakesStep, SkipsStep, StopsGive, StopsGiveFirst}
use Rattle.pj_hand.proofs.InOrder.{HoldsLess, HoldsMore, first-held, found-is, found-none, holds-less, holds-more, in-less, in-more, is-held, key-is, order-less, order-more, puts-in, stood-in, takes-out}
use Rattle.pj_hand.proofs.UnderWay.{changed, entry-changes, results-kept, taken-now, way-is}

-- ---- one entry more

module _ (old new : HandState) (sound : IsSoundPlan old.core.plan.nodes) (same : new.core.plan ≡ old.core.plan) where
  pub made : ArePlanned [] (nodes_in old.core)
  made = planned old.core.plan sound

  pub legal-as : (h : List Entry) → StandsFor new.core h → IsLegal (nodes_in old.core) h
  legal-as h S = subst (λ (p : RunPlan). IsLegal (nodes_of p) h) same S.legal

  way-as : (h : List Entry) (n u : ℕ) → has (under_way_at (nodes_after new.core h) n) u ≡ has (under_way_at (nodes_after old.core h) n) u
  way-as h n u = ap (λ (p : RunPlan). has (under_way_at (Rattle.pj_events.specs.History.nodes_from (nodes_of p) h) n) u) same

  -- what is held behind an entry
  held-after : (h : List Entry) (e : Entry) → HoldsUnderWay old h → StandsFor new.core (h ++ e ∷ []) → AreInOrder new.taken → ((n u : ℕ) → holds new.taken n u ≡ changed n u e.event (holds old.taken n u))
      → ((p : Found) → In p new.taken → In p old.taken ⊎ AreResults new.core (h ++ e ∷ []) p p) → HoldsUnderWay new (h ++ e ∷ [])
  held-after h e H S ordered those finds = record {
    ordered = ordered;
    those = λ n u. those n u ∙ ap (changed n u e.event) (H.those n u) ∙ sym (entry-changes (nodes_in old.core) made h e (legal-as (h ++ e ∷ []) S) n u) ∙ sym (way-as (h ++ e ∷ []) n u);
    finds = λ p i. elim (finds p i) [
      | inl k ↦
          H.finds p k
          ∙ sym (results-kept (nodes_in old.core) made h e (legal-as (h ++ e ∷ []) S) p.join p.ticket (sym (H.those p.join p.ticket) ∙ is-held old.taken p k))
          ∙ sym (ap (λ (q : RunPlan). results_of (nodes_of q) (h ++ e ∷ []) p.join p.ticket) same)
      | inr r ↦ r
    ];
  }

-- an entry that neither takes nor gives
abbrev pub IsNeither : Event → Type 0
IsNeither event = (n u : ℕ) (before : Bool) → changed n u event before ≡ before

pub stands-still : (old new : HandState) → IsSoundPlan old.core.plan.nodes → new.core.plan ≡ old.core.plan → new.taken ≡ old.taken → (new.core.kept.stop ≡ None → old.core.kept.stop ≡ None)
    → (e : Entry) → IsNeither e.event → (h : List Entry) → HandStandsFor old h → StandsFor new.core (h ++ e ∷ []) → HandStandsFor new (h ++ e ∷ [])
stands-still old new sound same held on e neither h H S = record {
  stands = S;
  held = λ q.
      let W = H.held (on q) in
      held-after old new sound same h e W S (subst AreInOrder (sym held) W.ordered) (λ n u. ap (λ (ps : List Found). holds ps n u) held ∙ sym (neither n u (holds old.taken n u)))
      (λ p i. inl (subst (λ (ps : List Found). In p ps) held i));
}

-- ---- arrivals, sweeps and drains

pub arrives : (old new : HandState) (entry : Entry) → IsSoundPlan old.core.plan.nodes → new.taken ≡ old.taken → IsNeither entry.event → HasArrived old.core new.core entry → HandArrives old new entry
arrives old new entry sound held neither a = record {
  on = a.on;
  plan = a.notes.plan;
  limit = a.notes.limit;
  within = a.within;
  stands = λ h H m. stands-still old new sound a.notes.plan held (λ q. a.on.0) entry neither h H (a.notes.stands h H.stands m);
}

pub sweeps : (old new : HandState) (join input count : ℕ) → IsSoundPlan old.core.plan.nodes → new.taken ≡ old.taken → HasSwept old.core new.core join input count → MakesStep old new (Sweep join input)
sweeps old new join input count sound held s = record {
  on = s.on;
  plan = s.notes.plan;
  limit = s.notes.limit;
  makes = λ h H left. (s.within h H.stands, stands-still old new sound s.notes.plan held (λ q. s.on.0) (plain (Swept join input)) (λ n u b. refl) h H (s.notes.stands h H.stands));
}

pub notes-drain : (old new : HandState) → IsSoundPlan old.core.plan.nodes → new.taken ≡ old.taken → new.core.kept.stop ≡ old.core.kept.stop → Notes old.core new.core (plain Drain) → HandNotes old new (plain Drain)
notes-drain old new sound held stop n = record {
  plan = n.plan;
  limit = n.limit;
  stands = λ h H. stands-still old new sound n.plan held (λ q. sym stop ∙ q) (plain Drain) (λ n u b. refl) h H (n.stands h H.stands);
}

-- ---- stops

off : (s : Option Stop) (stop : Stop) → s ≡ Some stop → s ≡ None → ⊥
off s stop e n = let q : Some stop ≡ None = sym e ∙ n in cc

pub stops : (old new : HandState) (stop : Stop) → StopsNow old.core new.core stop → HandStops old new stop
stops old new stop s = record {
  notes = record {
    plan = s.notes.plan;
    limit = s.notes.limit;
    stands = λ h H. record { stands = s.notes.stands h H.stands; held = λ q. absurd (off new.core.kept.stop stop s.stopped q) };
  };
  stopped = s.stopped;
  undrained = s.undrained;
}

pub cause-on : (old : HandState) (event : Event) (stop : Stop) → IsCause old.core event stop → IsHandCause old event stop
cause-on old event (Limit node) c = λ h H. c h H.stands
cause-on old event NoMemory c = tt

refused-at : (o : Option Stop) (old new : HandState) (stop : Stop) (cause now : Type 0) → new.taken ≡ old.taken → (cause → now) → IsRefused o old.core new.core stop cause → IsHandRefused o old new stop now
refused-at None old new stop cause now held f r = (stops old new stop r.0, f r.1)
refused-at (Some before) old new stop cause now held f r = record { again = r.again; stays = λ i. record { core = r.stays i; taken = held i } }

pub refused : (old new : HandState) (event : Event) (stop : Stop) → new.taken ≡ old.taken → IsRefused old.core.kept.stop old.core new.core stop (IsCause old.core event stop) → IsEventRefused old new event stop
refused old new event stop held r = refused-at old.core.kept.stop old new stop (IsCause old.core event stop) (IsHandCause old event stop) held (cause-on old event stop) r

pub take-refused : (old new : HandState) (stop : Stop) → new.taken ≡ old.taken → IsRefused old.core.kept.stop old.core new.core stop (stop ≡ NoMemory)
    → IsHandRefused old.core.kept.stop old new stop (stop ≡ NoMemory)
take-refused old new stop held r = refused-at old.core.kept.stop old new stop (stop ≡ NoMemory) (stop ≡ NoMemory) held (λ c. c) r

-- ---- takes

pub takes : (old new : HandState) (probe : Found) → IsSoundPlan old.core.plan.nodes → old.core.kept.stop ≡ None → TakesNext old.core new.core probe → new.taken ≡ put_in probe old.taken → MakesStep old new Take
takes old new probe sound on t put = record {
  on = (on, t.on);
  plan = t.notes.plan;
  limit = t.notes.limit;
  makes = λ h H left. subst (λ (o : Option Pending). IsMade old new h (take_if o)) (sym (t.next h H.stands)) (t.within h H.stands, stands h H);
}
  where
    entry : Entry
    entry = plain (Taken probe.join probe.ticket)

    stands : (h : List Entry) → HandStandsFor old h → HandStandsFor new (h ++ entry ∷ [])
    stands h H = record { stands = S; held = λ q. held-after old new sound t.notes.plan h entry W S (order-more old.taken probe new.taken more W.ordered) (holds-more old.taken probe new.taken more) finds }
      where
        S : StandsFor new.core (h ++ entry ∷ [])
        S = t.notes.stands h H.stands

        W : HoldsUnderWay old h
        W = H.held on

        free : holds old.taken probe.join probe.ticket ≡ false
        free = W.those probe.join probe.ticket ∙ taken-now (nodes_in old.core) (made old new sound t.notes.plan) h probe.join probe.ticket entry refl (legal-as old new sound t.notes.plan (h ++ entry ∷ []) S)

        more : HoldsMore old.taken probe new.taken
        more = subst (HoldsMore old.taken probe) (sym put) (puts-in old.taken probe W.ordered free)

        finds : (p : Found) → In p new.taken → In p old.taken ⊎ AreResults new.core (h ++ entry ∷ []) p p
        finds p i = elim (in-more old.taken probe new.taken more p i) [
          | inl e ↦ inr (subst (λ (x : Found). AreResults new.core (h ++ entry ∷ []) x x) e (t.keeps h H.stands))
          | inr k ↦ inl k
        ]

pub takes-none : (old new : HandState) → old.core.kept.stop ≡ None → new.taken ≡ old.taken → FindsNone old.core new.core → SkipsStep old new Take
takes-none old new on held f = record {
  on = on;
  stays = λ i. record { core = f.stays i; taken = held i };
  none = λ h H left. ap take_if (f.none h H.stands);
}

-- ---- gives

-- what is taken out where a probe was given
pub less-of : (old new : HandState) (join ticket : ℕ) → (g : GivesProbe old new join ticket) → HoldsLess old.taken g.probe new.taken
less-of old new join ticket g = subst (HoldsLess old.taken g.probe) (sym g.left) (takes-out old.taken join ticket g.probe g.stood)

-- the probe of a ticket was given, which is no longer under way
pub given-stands : (old new : HandState) (join ticket : ℕ) → IsSoundPlan old.core.plan.nodes → (g : GivesProbe old new join ticket) → (h : List Entry) → HandStandsFor old h → HandStandsFor new (h ++ plain (Given g.probe.join g.probe.ticket) ∷ [])
given-stands old new join ticket sound g h H = record { stands = S; held = λ q. held-after old new sound g.given.plan h entry W S (order-less old.taken g.probe new.taken less W.ordered) (holds-less old.taken g.probe new.taken less W.ordered) (λ p i. inl (in-less old.taken g.probe new.taken less p i)) }
  where
    less : HoldsLess old.taken g.probe new.taken
    less = less-of old new join ticket g

    entry : Entry
    entry = plain (Given g.probe.join g.probe.ticket)

    W : HoldsUnderWay old h
    W = H.held g.given.on.0

    S : StandsFor new.core (h ++ entry ∷ [])
    S = g.given.stands h H.stands (W.finds g.probe (stood-in old.taken g.probe new.taken less))

-- the hand holds what is under way
holds-now : (hand : HandState) → hand.core.kept.stop ≡ None → (one : StandsForOne hand) → HoldsUnderWay hand one.0
holds-now hand on one = one.1.held on

way-here : (hand : HandState) → IsSoundPlan hand.core.plan.nodes → hand.core.kept.stop ≡ None → (one : StandsForOne hand) → (probe : Found) → In probe hand.taken → IsUnderWay (nodes_in hand.core) one.0 probe.join probe.ticket
way-here hand sound on one probe i =
    let W = holds-now hand on one in
    way-is (nodes_in hand.core) (planned hand.core.plan sound) one.0 one.1.stands.legal probe.join probe.ticket (sym (W.those probe.join probe.ticket) ∙ is-held hand.taken probe i)

-- a probe that is held may be given
pub is-open : (hand : HandState) → IsSoundPlan hand.core.plan.nodes → hand.core.kept.stop ≡ None → StandsForOne hand → (probe : Found) → In probe hand.taken → IsOpen hand.core probe
is-open hand sound on one probe i = opens-under_way hand.core sound on one.0 one.1.stands probe (way-here hand sound on one probe i)

-- and its rows fit its join
pub fits-node : (hand : HandState) → IsSoundPlan hand.core.plan.nodes → hand.core.kept.stop ≡ None → StandsForOne hand → (probe : Found) → In probe hand.taken → FitNode hand.core probe.join probe.rows
fits-node hand sound on one probe i =
    subst (λ (rows : List (List Value)). FitNode hand.core probe.join rows) (sym ((holds-now hand on one).finds probe i))
    (fits-under_way hand.core sound one.0 one.1.stands probe (way-here hand sound on one probe i))

-- a probe that is found is held
pub found-in : (probes : List Found) (join ticket : ℕ) (probe : Found) → found_at probes join ticket ≡ Some probe → In probe probes
found-in probes join ticket probe e = stood-in probes probe (without probes join ticket) (takes-out probes join ticket probe e)

given-as : (join ticket : ℕ) (probe : Found) → is_of join ticket probe ≡ true → Given probe.join probe.ticket ≡ Given join ticket
given-as join ticket probe t = let k = key-is join ticket probe t in λ i. Given (k.0 i) (k.1 i)

-- the probe of a ticket was given
gives : (old new : HandState) (join ticket : ℕ) → IsSoundPlan old.core.plan.nodes → GivesProbe old new join ticket → MakesStep old new (Give join ticket)
gives old new join ticket sound g = record {
  on = g.given.on;
  plan = g.given.plan;
  limit = g.given.limit;
  makes = λ h H left.
      let W = H.held g.given.on.0 in
      let way = sym (W.those join ticket) ∙ any_from (is_of join ticket) old.taken g.probe there key in
      subst (λ (b : Bool). IsMade old new h (give_if b join ticket)) (sym way) (
        subst (λ (e : Event). goes_beyond old.core.limit (nodes_in old.core) h e ≡ None) event (g.given.within h H.stands (W.finds g.probe there)),
        subst (λ (e : Event). HandStandsFor new (h ++ plain e ∷ [])) event (given-stands old new join ticket sound g h H),
      );
}
  where
    key : is_of join ticket g.probe ≡ true
    key = found-is old.taken join ticket g.probe g.stood

    there : In g.probe old.taken
    there = found-in old.taken join ticket g.probe g.stood

    event : Given g.probe.join g.probe.ticket ≡ Given join ticket
    event = given-as join ticket g.probe key

-- it was given, or its ticket is not under way
pub gives-one : (made : Bool) (old new : HandState) (join ticket : ℕ) → IsSoundPlan old.core.plan.nodes → old.core.kept.stop ≡ None → GivesOne made old new join ticket → AnswersStep made old new (Give join ticket)
gives-one true old new join ticket sound on g = gives old new join ticket sound g
gives-one false old new join ticket sound on g = record {
  on = on;
  stays = g.1;
  none = λ h H left. ap (λ (b : Bool). give_if b join ticket) (sym ((H.held on).those join ticket) ∙ found-none old.taken join ticket g.0);
}

-- the core stopped at the give
give-cause : (old : HandState) (probe : Found) (stop : Stop) → old.core.kept.stop ≡ None → In probe old.taken → IsGiveCause old.core probe probe stop → IsHandCause old (Given probe.join probe.ticket) stop
give-cause old probe (Limit node) on i c = λ h H. c h H.stands ((H.held on).finds probe i)
give-cause old probe NoMemory on i c = tt

give-stops : (old new : HandState) (join ticket : ℕ) (stop : Stop) → old.core.kept.stop ≡ None → StopsGive old new join ticket stop → IsHandRefused old.core.kept.stop old new stop (IsHandCause old (Given join ticket) stop × IsUnderWayThere old join ticket)
give-stops old new join ticket stop on s =
    subst (λ (o : Option Stop). IsHandRefused o old new stop (IsHandCause old (Given join ticket) stop × IsUnderWayThere old join ticket)) (sym on) (
      stops old new stop s.stops,
      (
        subst (λ (e : Event). IsHandCause old e stop) (given-as join ticket s.probe key) (give-cause old s.probe stop on there s.cause),
        λ h H. sym ((H.held on).those join ticket) ∙ any_from (is_of join ticket) old.taken s.probe there key,
      ),
    )
  where
    key : is_of join ticket s.probe ≡ true
    key = found-is old.taken join ticket s.probe s.stood

    there : In s.probe old.taken
    there = found-in old.taken join ticket s.probe s.stood

pub give-refused : (old new : HandState) (join ticket : ℕ) (stop : Stop) → old.core.kept.stop ≡ None → LacksMemory old new stop ⊎ StopsGive old new join ticket stop → IsGiveRefused old new join ticket stop
give-refused old new join ticket stop on (inl m) = inl m
give-refused old new join ticket stop on (inr s) = inr (give-stops old new join ticket stop on s)

-- ---- the first probe

-- what was done at the first place was done with the first probe
pub gives-first : (made : Bool) (old mid new : HandState) (place : ℕ × ℕ) → mid ≡ old → Some place ≡ first_place old.taken → GivesOne made mid new place.0 place.1 → GivesFirst made old new
gives-first made old mid new place same first g = go made (subst (λ (x : HandState). GivesOne made x new place.0 place.1) same g)
  where
    go : (b : Bool) → GivesOne b old new place.0 place.1 → GivesFirst b old new
    go true g = (place, sym first, g)
    go false g = absurd (first-held old.taken place (sym first) g.0)

pub stops-first : (old mid new : HandState) (place : ℕ × ℕ) (stop : Stop) → mid ≡ old → Some place ≡ first_place old.taken → LacksMemory mid new stop ⊎ StopsGive mid new place.0 place.1 stop
    → LacksMemory old new stop ⊎ StopsGiveFirst old new stop
stops-first old mid new place stop same first r = go (subst (λ (x : HandState). LacksMemory x new stop ⊎ StopsGive x new place.0 place.1 stop) same r)
  where
    go : LacksMemory old new stop ⊎ StopsGive old new place.0 place.1 stop → LacksMemory old new stop ⊎ StopsGiveFirst old new stop
    go (inl m) = inl m
    go (inr s) = inr (place, sym first, s)
