-- Which worker made an entry of the history of a crew.
use Rattle.std.proofs.Common.{ℕ, zero, suc, ◌<◌, Bool, false, List, [], ◌∷◌, ◌++◌, ◌≡◌, All, Some, slice_get, length, eqb, inl, inr, refl, sym, ap, ◌∙◌, subst, arith, append-nil}
use Rattle.std.proofs.lemmas.Bool.{eq-eqb}
use Rattle.std.proofs.lemmas.List.Elements.{All-head, All-tail, filter-append}
use Rattle.pj_value.specs.Lists.{In}
use Rattle.pj_value.proofs.Members.{In-append_left, In-filter_from}
use Rattle.pj_events.specs.declared.events.Entry.{Entry}
use Rattle.pj_events.specs.declared.events.Event.{Event}
use Rattle.pj_laws.specs.Seats.{HubPlan, made_by}
use Rattle.pj_crew_laws.specs.Acts.{Act, HasActed, IsCrewHistory, SawFront}
use Rattle.pj_crew_laws.specs.Crews.{Did}
use Rattle.pj_crew_laws.proofs.Tests.{IsOfNoRound, IsOfNone, none-acted}

all-in : {X : Type 0} (P : X → Type 0) (xs : List X) → All P xs → (x : X) → In x xs → P x
all-in P [] all x i = absurd i
all-in P (y ∷ xs) all x (inl q) = subst P q (All-head P y xs all)
all-in P (y ∷ xs) all x (inr i) = all-in P xs (All-tail P y xs all) x i

act-at : {X : Type 0} (xs : List X) (i : ℕ) → i < length xs → (x : X) × (slice_get xs i ≡ Some x)
act-at [] i lt = absurd (omega (arith, lt))
act-at (x ∷ xs) zero lt = (x, refl)
act-at (x ∷ xs) (suc i) lt = act-at xs i (omega (arith, lt))

-- what a seat has made in the history is what it has made in what it has seen
pub own-seen : (seat : ℕ) (seen history : List Entry) → SawFront seat seen history → made_by seat history ≡ made_by seat seen
own-seen seat seen history saw =
    ap (made_by seat) saw.begins
    ∙ (filter-append (λ (entry : Entry). eqb entry.seat seat) seen saw.behind
    ∙ (ap (λ (es : List Entry). made_by seat seen ++ es) saw.no_own ∙ append-nil (made_by seat seen)))

-- what a seat has seen is in the history
pub seen-in : (seat : ℕ) (seen history : List Entry) → SawFront seat seen history → (entry : Entry) → In entry seen → In entry history
seen-in seat seen history saw entry i = subst (In entry) (sym saw.begins) (In-append_left entry seen saw.behind i)

-- the act of the seat that made this entry, and what it has seen
pub record IsMade (hub : HubPlan) (acts : List Act) (history : List Entry) (entry : Entry) : Type 0 where
  pub act : Act
  pub did : Did acts entry.seat act
  pub seen : List Entry
  pub saw : SawFront entry.seat seen history
  pub acted : HasActed hub entry.seat seen act
  pub own : In entry (made_by entry.seat seen)

module _ (hub : HubPlan) (acts : List Act) (history : List Entry) (crew : IsCrewHistory hub acts history) where
  pub made-of : (entry : Entry) → In entry history → IsMade hub acts history entry
  made-of entry i =
      let at = act-at acts entry.seat (all-in (λ (e : Entry). e.seat < length acts) history crew.of_seats entry i) in
      let each = crew.each entry.seat at.0 at.1 in record {
        act = at.0;
        did = at.1;
        seen = each.0;
        saw = each.1;
        acted = each.2;
        own = subst (In entry) (own-seen entry.seat each.0 history each.1) (In-filter_from (λ (e : Entry). eqb e.seat entry.seat) entry history i (eq-eqb entry.seat entry.seat refl));
      }

  -- where the act of its seat makes none that passes a test, it does not
  pub none-made : (test : Event → Bool) → IsOfNoRound test → (entry : Entry) (made : IsMade hub acts history entry) → IsOfNone test made.act → test entry.event ≡ false
  none-made test spares entry made fails = none-acted test spares hub entry.seat made.seen made.act fails made.acted entry made.own
