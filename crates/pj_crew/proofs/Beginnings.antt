-- Workers may begin on new seats.
use Rattle.std.proofs.Common.{◌≡◌, ℕ, suc, ◌+◌, arith, List, [], ◌∷◌, ◌++◌, length, reverse, All, Some, slice_get, take, drop, refl, sym, ap, subst, ◌∙◌}
use Rattle.std.specs.List.{AllZip}
use Rattle.std.proofs.lemmas.List.{reverse-append, reverse-reverse}
use Rattle.std.proofs.Math.Seq.{take-append_seam}
use Rattle.std.proofs.lemmas.List.Elements.{All-cons, All-head, All-nil, All-push, All-tail, AllZip-push}
use Rattle.pj_laws.specs.Seats.{HubPlan}
use Rattle.pj_crew.specs.declared.duties.Duty.{Duty}
use Rattle.pj_crew.specs.Duties.{MayBegin, MayBeginFrom}
use Rattle.pj_crew.specs.Tasks.{IsFreshSeat, IsReady, Name, SeatState, TaskState}
use Rattle.pj_crew.specs.Seats.{at_seat, seat_states, seated, seats_of}
use Rattle.pj_crew.proofs.Places.{states-push}

-- the seat of this number, which has seen nothing
pub record IsFreshAt (name : Name) (n : ℕ) (seat : SeatState) : Type 0 where
  pub fresh : IsFreshSeat name seat
  pub number : seat.number ≡ n

-- seats that have seen nothing, numbered from this number on
abbrev pub AreFresh : Name → ℕ → List SeatState → Type 0
AreFresh name k [] = Unit {0}
AreFresh name k (seat ∷ seats) = IsFreshAt name k seat × AreFresh name (k + 1) seats

pub numbered-so : (name : Name) (n m : ℕ) (seat : SeatState) → n ≡ m → IsFreshAt name n seat → IsFreshAt name m seat
numbered-so name n m seat e at = record { fresh = at.fresh; number = at.number ∙ e }

pub fresh-from : {A : Type 0} (view : A → SeatState) (name : Name) (k : ℕ) (seats : List A) → ((i : ℕ) (s : A) → slice_get seats i ≡ Some s → IsFreshAt name (k + i) (view s)) → AreFresh name k (seat_states view seats)
fresh-from view name k [] each = tt
fresh-from view name k (s ∷ seats) each = (
  numbered-so name (k + 0) k (view s) (omega (arith)) (each 0 s refl),
  fresh-from view name (k + 1) seats (λ i t e. numbered-so name (k + suc i) (k + 1 + i) (view t) (omega (arith)) (each (suc i) t e)),
)

-- all but the last, and the last
pub fresh-push : (name : Name) (k : ℕ) (seats : List SeatState) (last : SeatState) → AreFresh name k (seats ++ last ∷ []) → AreFresh name k seats × IsFreshAt name (k + length seats) last
fresh-push name k [] last are = (tt, numbered-so name k (k + 0) last (omega (arith)) are.0)
fresh-push name k (s ∷ seats) last are =
    let rest = fresh-push name (k + 1) seats last are.1 in
    ((are.0, rest.0), numbered-so name (k + 1 + length seats) (k + length (s ∷ seats)) last (omega (arith)) rest.1)

pub all-ready : {A S : Type 0} (view : A → SeatState) (name : Name) (hub : HubPlan) (k : ℕ) (seats : List A) (duties : List (Duty S)) → AreFresh name k (seat_states view seats) → MayBeginFrom hub k duties
    → All (IsReady name hub) (seated view seats duties)
all-ready view name hub k [] duties fresh may = All-nil (IsReady name hub)
all-ready view name hub k (s ∷ seats) [] fresh may = All-nil (IsReady name hub)
all-ready view name hub k (s ∷ seats) (d ∷ duties) fresh may =
    All-cons (IsReady name hub) (at_seat (view s) d) (seated view seats duties)
    (record { fresh = fresh.0.fresh; may = subst (λ n. MayBegin hub n d) (sym fresh.0.number) may.0 })
    (all-ready view name hub (k + 1) seats duties fresh.1 may.1)

-- ---- lists turned round

pub all-turned : {X : Type 0} (P : X → Type 0) (xs : List X) → All P xs → All P (reverse xs)
all-turned P [] all = All-nil P
all-turned P (x ∷ xs) all = subst (All P) (sym (reverse-append (x ∷ []) xs)) (All-push P (reverse xs) x (all-turned P xs (All-tail P x xs all)) (All-head P x xs all))

zip-turned : {X : Type 0} (R : X → X → Type 0) (xs ys : List X) → AllZip R xs ys → AllZip R (reverse xs) (reverse ys)
zip-turned R [] [] zip = tt
zip-turned R [] (y ∷ ys) zip = absurd zip
zip-turned R (x ∷ xs) [] zip = absurd zip
zip-turned R (x ∷ xs) (y ∷ ys) zip =
    subst (λ l. AllZip R l (reverse (y ∷ ys))) (sym (reverse-append (x ∷ []) xs))
    (subst (λ l. AllZip R (reverse xs ++ x ∷ []) l) (sym (reverse-append (y ∷ []) ys))
    (AllZip-push R (reverse xs) (reverse ys) x y (zip-turned R xs ys zip.1) zip.0))

pub zip-turned-back : {X : Type 0} (R : X → X → Type 0) (xs ys : List X) → AllZip R (reverse xs) ys → AllZip R xs (reverse ys)
zip-turned-back R xs ys zip = subst (λ l. AllZip R l (reverse ys)) (reverse-reverse xs) (zip-turned R (reverse xs) ys zip)

-- ---- new seats

pub length-states : {A : Type 0} (view : A → SeatState) (seats : List A) → length (seat_states view seats) ≡ length seats
length-states view [] = refl
length-states view (s ∷ seats) = ap suc (length-states view seats)

pub length-seats : {S : Type 0} (tasks : List (TaskState S)) → length (seats_of tasks) ≡ length tasks
length-seats [] = refl
length-seats (t ∷ tasks) = ap suc (length-seats tasks)

-- of new seats, those before the last and the last
pub opened : {A : Type 0} (view : A → SeatState) (name : Name) (all seats : List A) (last : A) → all ≡ seats ++ last ∷ [] → ((i : ℕ) (s : A) → slice_get all i ≡ Some s → IsFreshAt name i (view s))
    → AreFresh name 0 (seat_states view seats) × IsFreshAt name (length seats) (view last)
opened view name all seats last is each =
    let fresh = fresh-from view name 0 all (λ i s e. numbered-so name i (0 + i) (view s) (omega (arith)) (each i s e)) in
    let parts = fresh-push name 0 (seat_states view seats) (view last) (subst (AreFresh name 0) (ap (seat_states view) is ∙ states-push view seats last) fresh) in
    (parts.0, numbered-so name (0 + length (seat_states view seats)) (length seats) (view last) (omega (arith, length-states view seats)) parts.1)

-- what a slice leaves of the list that it was lent of
pub written-back : {X : Type 0} (n : ℕ) (old new : List X) → n ≡ length old → length new ≡ length old → take n (new ++ drop (length new) old) ≡ new
written-back n old new e same =
    ap (λ k. take k (new ++ drop (length new) old)) (e ∙ sym same) ∙ take-append_seam new (drop (length new) old)
