-- What a crew has done, by what each of its seats has seen.
use Rattle.std.proofs.Common.{◌≡◌, ◌<◌, ℕ, zero, suc, ◌+◌, ◌⊎◌, arith, List, [], ◌∷◌, ◌++◌, length, Some, slice_get, inl, inr, refl, sym, ap, ◌∙◌, subst, append-nil}
use Rattle.std.specs.List.{AllZip}
use Rattle.std.proofs.lemmas.List.{append_cancel_right}
use Rattle.pj_events.specs.declared.events.Entry.{Entry}
use Rattle.pj_events.specs.declared.events.Event.TheVariants.{Drain}
use Rattle.pj_events.specs.History.{reached_of}
use Rattle.pj_laws.specs.Seats.{HubPlan, made_by, seated as seated_entry}
use Rattle.pj_laws.proofs.Drained.{drained-gains}
use Rattle.pj_turn.specs.History.{HasSeen}
use Rattle.pj_workers.specs.Writes.{drained_in}
use Rattle.pj_crew_laws.specs.Acts.{Act, HasActed, SawFront}
use Rattle.pj_crew.specs.declared.duties.Duty.{Duty}
use Rattle.pj_crew.specs.Duties.{IsSameDuty, acts_of}
use Rattle.pj_crew.specs.Tasks.{HasWorked, Name, SeatState, TaskState}
use Rattle.pj_crew.specs.Seats.{duties_of, seat_states, seated, seats_of}
use Rattle.pj_crew.proofs.Beginnings.{AreFresh}

-- ---- lists

pub push-cases : {X : Type 0} (xs : List X) (y z : X) (i : ℕ) → slice_get (xs ++ y ∷ []) i ≡ Some z → (slice_get xs i ≡ Some z) ⊎ ((i ≡ length xs) × (Some y ≡ Some z))
push-cases [] y z zero e = inr (refl, e)
push-cases [] y z (suc i) e = absurd (cc)
push-cases (x ∷ xs) y z zero e = inl e
push-cases (x ∷ xs) y z (suc i) e = go (push-cases xs y z i e)
  where
    go : (slice_get xs i ≡ Some z) ⊎ ((i ≡ length xs) × (Some y ≡ Some z)) → (slice_get xs i ≡ Some z) ⊎ ((suc i ≡ suc (length xs)) × (Some y ≡ Some z))
    go (inl at) = inl at
    go (inr at) = inr (ap suc at.0, at.1)

pub some-is : {X : Type 0} (x y : X) → Some x ≡ Some y → x ≡ y
some-is x y e = cc

pub in-front : {X : Type 0} (xs ys : List X) (z : X) (i : ℕ) → slice_get xs i ≡ Some z → slice_get (xs ++ ys) i ≡ Some z
in-front [] ys z i e = absurd (cc)
in-front (x ∷ xs) ys z zero e = e
in-front (x ∷ xs) ys z (suc i) e = in-front xs ys z i e

pub at-last : {X : Type 0} (xs : List X) (y : X) → slice_get (xs ++ y ∷ []) (length xs) ≡ Some y
at-last [] y = refl
at-last (x ∷ xs) y = at-last xs y

pub has-at : {X : Type 0} (xs : List X) (n : ℕ) → n < length xs → (x : X) × (slice_get xs n ≡ Some x)
has-at [] n lt = absurd (omega (arith, lt))
has-at (x ∷ xs) zero lt = (x, refl)
has-at (x ∷ xs) (suc n) lt = has-at xs n (omega (arith, lt))

-- ---- seats

-- seats of this name, numbered from this number on
abbrev pub AreNumbered : Name → ℕ → List SeatState → Type 0
AreNumbered name k [] = Unit {0}
AreNumbered name k (seat ∷ seats) = (seat.name ≡ name) × (seat.number ≡ k) × AreNumbered name (k + 1) seats

pub numbered-at : (name : Name) (k : ℕ) (seats : List SeatState) (i : ℕ) (seat : SeatState) → AreNumbered name k seats → slice_get seats i ≡ Some seat → (seat.name ≡ name) × (seat.number ≡ k + i)
numbered-at name k [] i seat are e = absurd (cc)
numbered-at name k (s ∷ seats) zero seat are e = let same : s ≡ seat = cc in (subst (λ (x : SeatState). x.name ≡ name) same are.0, subst (λ (x : SeatState). x.number ≡ k + 0) same (are.1 ∙ omega (arith)))
numbered-at name k (s ∷ seats) (suc i) seat are e = let at = numbered-at name (k + 1) seats i seat are.2 e in (at.0, at.1 ∙ omega (arith))

pub numbered-push : (name : Name) (k : ℕ) (seats : List SeatState) (last : SeatState) → AreNumbered name k seats → last.name ≡ name → last.number ≡ k + length seats → AreNumbered name k (seats ++ last ∷ [])
numbered-push name k [] last are named number = (named, number ∙ omega (arith), tt)
numbered-push name k (s ∷ seats) last are named number = (are.0, are.1, numbered-push name (k + 1) seats last are.2 named (number ∙ omega (arith)))

pub states-at : {A : Type 0} (view : A → SeatState) (seats : List A) (i : ℕ) (state : SeatState) → slice_get (seat_states view seats) i ≡ Some state → (s : A) × (slice_get seats i ≡ Some s) × (view s ≡ state)
states-at view [] i state e = absurd (cc)
states-at view (s ∷ seats) zero state e = (s, refl, cc)
states-at view (s ∷ seats) (suc i) state e = states-at view seats i state e

pub states-of : {A : Type 0} (view : A → SeatState) (seats : List A) (i : ℕ) (s : A) → slice_get seats i ≡ Some s → slice_get (seat_states view seats) i ≡ Some (view s)
states-of view [] i s e = absurd (cc)
states-of view (t ∷ seats) zero s e = ap Some (let same : t ≡ s = cc in ap view same)
states-of view (t ∷ seats) (suc i) s e = states-of view seats i s e

-- ---- tasks that were done

-- the seats are the same, as many as the duties were
pub worked-numbered : {A S : Type 0} (view : A → SeatState) (name : Name) (hub : HubPlan) (k : ℕ) (seats : List A) (duties : List (Duty S)) (news : List (TaskState S)) → length seats ≡ length duties
    → AreFresh name k (seat_states view seats) → AllZip (HasWorked hub) (seated view seats duties) news → AreNumbered name k (seats_of news) × (length (seats_of news) ≡ length duties) × (length (acts_of duties (duties_of news)) ≡ length duties)
worked-numbered view name hub k [] [] [] same fresh zip = (tt, refl, refl)
worked-numbered view name hub k [] [] (n ∷ news) same fresh zip = absurd zip
worked-numbered view name hub k [] (d ∷ duties) news same fresh zip = absurd (omega (arith, same))
worked-numbered view name hub k (s ∷ seats) [] news same fresh zip = absurd (omega (arith, same))
worked-numbered view name hub k (s ∷ seats) (d ∷ duties) [] same fresh zip = absurd zip
worked-numbered view name hub k (s ∷ seats) (d ∷ duties) (n ∷ news) same fresh zip =
    let rest = worked-numbered view name hub (k + 1) seats duties news (omega (arith, same)) fresh.1 zip.1 in
    ((zip.0.seat.name ∙ fresh.0.fresh.name, zip.0.seat.number ∙ fresh.0.number, rest.0), ap suc rest.1, ap suc rest.2)

pub same-duties : {A S : Type 0} (view : A → SeatState) (hub : HubPlan) (seats : List A) (duties : List (Duty S)) (news : List (TaskState S)) → length seats ≡ length duties
    → AllZip (HasWorked hub) (seated view seats duties) news → AllZip (IsSameDuty hub) duties (duties_of news)
same-duties view hub [] [] [] same zip = tt
same-duties view hub [] [] (n ∷ news) same zip = absurd zip
same-duties view hub [] (d ∷ duties) news same zip = absurd (omega (arith, same))
same-duties view hub (s ∷ seats) [] news same zip = absurd (omega (arith, same))
same-duties view hub (s ∷ seats) (d ∷ duties) [] same zip = absurd zip
same-duties view hub (s ∷ seats) (d ∷ duties) (n ∷ news) same zip = (zip.0.same, same-duties view hub seats duties news (omega (arith, same)) zip.1)

-- the seat at this place did this, as it has seen
pub record ActedAt (hub : HubPlan) (n i : ℕ) (states : List SeatState) (act : Act) : Type 0 where
  pub seat : SeatState
  pub there : slice_get states i ≡ Some seat
  pub acted : HasActed hub n seat.seen act

pub acted-at : {A S : Type 0} (view : A → SeatState) (name : Name) (hub : HubPlan) (k : ℕ) (seats : List A) (duties : List (Duty S)) (news : List (TaskState S)) → AreFresh name k (seat_states view seats)
    → AllZip (HasWorked hub) (seated view seats duties) news → length seats ≡ length duties → (i : ℕ) (act : Act) → slice_get (acts_of duties (duties_of news)) i ≡ Some act → ActedAt hub (k + i) i (seats_of news) act
acted-at view name hub k [] [] news fresh zip same i act e = absurd (cc)
acted-at view name hub k [] (d ∷ duties) news fresh zip same i act e = absurd (omega (arith, same))
acted-at view name hub k (s ∷ seats) [] news fresh zip same i act e = absurd (cc)
acted-at view name hub k (s ∷ seats) (d ∷ duties) [] fresh zip same i act e = absurd zip
acted-at view name hub k (s ∷ seats) (d ∷ duties) (n ∷ news) fresh zip same zero act e = record {
  seat = n.seat;
  there = refl;
  acted = subst (λ m. HasActed hub m n.seat.seen act) (fresh.0.number ∙ omega (arith)) (subst (λ (a : Act). HasActed hub (view s).number n.seat.seen a) (cc) zip.0.acted);
}
acted-at view name hub k (s ∷ seats) (d ∷ duties) (n ∷ news) fresh zip same (suc i) act e =
    let at = acted-at view name hub (k + 1) seats duties news fresh.1 zip.1 (omega (arith, same)) i act e in
    record { seat = at.seat; there = at.there; acted = subst (λ m. HasActed hub m at.seat.seen act) (omega (arith)) at.acted }

-- ---- the history

pub saw-front : (n : ℕ) (seen history : List Entry) → HasSeen (λ (entry : Entry). entry.seat) n seen history → SawFront n seen history
saw-front n seen history has = record { behind = has.behind; begins = has.begins; no_own = has.no_own }

-- behind what the seat has seen its drains handed out nothing
pub drained-front : (hub : HubPlan) (n : ℕ) (seen behind : List Entry) → made_by n behind ≡ [] → drained_in hub n (seen ++ behind) ≡ drained_in hub n seen
drained-front hub n seen behind none =
    append_cancel_right (drained_in hub n whole) (drained_in hub n seen) (reached_of hub.trace hub.nodes whole).undrained (sym now ∙ drained-gains hub.trace hub.nodes seen behind n none)
  where
    whole : List Entry
    whole = seen ++ behind

    now : drained_in hub n (whole ++ seated_entry n Drain 0 ∷ []) ≡ drained_in hub n whole ++ (reached_of hub.trace hub.nodes whole).undrained
    now = subst (λ (l : List Entry). drained_in hub n (l ++ seated_entry n Drain 0 ∷ []) ≡ drained_in hub n whole ++ (reached_of hub.trace hub.nodes l).undrained) (append-nil whole)
        (drained-gains hub.trace hub.nodes whole [] n refl)
