-- Duties on seats, one after the other.
use Rattle.std.proofs.Common.{◌≡◌, arith, List, [], ◌∷◌, ◌++◌, length, reverse, refl, sym, ap, ap₂, ◌∙◌, append_assoc, append-nil}
use Rattle.std.proofs.lemmas.List.{reverse-append}
use Rattle.pj_crew.specs.Tasks.{SeatState, TaskState}
use Rattle.pj_crew.specs.Seats.{at_seat, duties_of, seat_states, seated, seats_of}
use Rattle.pj_crew.specs.declared.duties.Duty.{Duty}

-- of all of these, those that are left stand on seats still, and the others are tasks, from the last to the first
pub record IsSeating {A S : Type 0} (view : A → SeatState) (all : List (TaskState S)) (seats : List A) (duties : List (Duty S)) (tasks : List (TaskState S)) : Type 0 where
  pub each : length seats ≡ length duties
  pub made : tasks ++ reverse (seated view seats duties) ≡ all

pub seated-push : {A S : Type 0} (view : A → SeatState) (seats : List A) (duties : List (Duty S)) (seat : A) (duty : Duty S) → length seats ≡ length duties
    → seated view (seats ++ seat ∷ []) (duties ++ duty ∷ []) ≡ seated view seats duties ++ at_seat (view seat) duty ∷ []
seated-push view [] [] seat duty same = refl
seated-push view [] (d ∷ duties) seat duty same = absurd (omega (arith, same))
seated-push view (s ∷ seats) [] seat duty same = absurd (omega (arith, same))
seated-push view (s ∷ seats) (d ∷ duties) seat duty same = ap (λ ts. at_seat (view s) d ∷ ts) (seated-push view seats duties seat duty (omega (arith, same)))

pub seating_begins : {A S : Type 0} (view : A → SeatState) (seats : List A) (duties : List (Duty S)) (tasks : List (TaskState S)) → length seats ≡ length duties → tasks ≡ []
    → IsSeating view (reverse (seated view seats duties)) seats duties tasks
seating_begins view seats duties tasks same none = record { each = same; made = ap (λ ts. ts ++ reverse (seated view seats duties)) none }

pub seating_goes : {A S : Type 0} (view : A → SeatState) (all : List (TaskState S)) (seats : List A) (duties : List (Duty S)) (tasks : List (TaskState S)) (olds : List A) (old : List (Duty S)) (seat : A) (duty : Duty S)
    (after : List (TaskState S)) → IsSeating view all olds old tasks → olds ≡ seats ++ seat ∷ [] → old ≡ duties ++ duty ∷ [] → length seats ≡ length duties → after ≡ tasks ++ at_seat (view seat) duty ∷ []
    → IsSeating view all seats duties after
seating_goes view all seats duties tasks olds old seat duty after is s d same a = record {
  each = same;
  made = ap (λ ts. ts ++ reverse (seated view seats duties)) a ∙ append_assoc tasks (at_seat (view seat) duty ∷ []) (reverse (seated view seats duties))
      ∙ (ap (λ ts. tasks ++ ts) (sym (ap reverse (ap₂ (λ xs ys. seated view xs ys) s d ∙ seated-push view seats duties seat duty same) ∙ reverse-append (seated view seats duties) (at_seat (view seat) duty ∷ []))) ∙ is.made);
}

pub seating_ends : {A S : Type 0} (view : A → SeatState) (all : List (TaskState S)) (seats : List A) (duties : List (Duty S)) (tasks : List (TaskState S)) → IsSeating view all seats duties tasks → duties ≡ []
    → (tasks ≡ all) × (seats ≡ [])
seating_ends view all [] duties tasks is none = (sym (append-nil tasks) ∙ is.made, refl)
seating_ends view all (s ∷ seats) duties tasks is none = absurd (omega (arith, is.each, ap length none))

-- ---- back

-- of all of these, from the last to the first, those that are left are tasks still
pub record IsLeaving {A S : Type 0} (view : A → SeatState) (all : List (TaskState S)) (seats : List A) (duties : List (Duty S)) (tasks : List (TaskState S)) : Type 0 where
  pub each : seat_states view seats ++ seats_of (reverse tasks) ≡ seats_of all
  pub made : duties ++ duties_of (reverse tasks) ≡ duties_of all

pub states-push : {A : Type 0} (view : A → SeatState) (seats : List A) (seat : A) → seat_states view (seats ++ seat ∷ []) ≡ seat_states view seats ++ view seat ∷ []
states-push view [] seat = refl
states-push view (s ∷ seats) seat = ap (λ ts. view s ∷ ts) (states-push view seats seat)

pub leaving_begins : {A S : Type 0} (view : A → SeatState) (seats : List A) (duties : List (Duty S)) (tasks : List (TaskState S)) → seats ≡ [] → duties ≡ []
    → IsLeaving view (reverse tasks) seats duties tasks
leaving_begins view seats duties tasks s d = record { each = ap (λ ss. seat_states view ss ++ seats_of (reverse tasks)) s; made = ap (λ ds. ds ++ duties_of (reverse tasks)) d }

pub leaving_goes : {A S : Type 0} (view : A → SeatState) (all : List (TaskState S)) (seats : List A) (duties : List (Duty S)) (olds tasks : List (TaskState S)) (seat : A) (duty : Duty S) (task : TaskState S)
    (after : List A) (behind : List (Duty S)) → IsLeaving view all seats duties olds → olds ≡ tasks ++ task ∷ [] → task ≡ at_seat (view seat) duty → after ≡ seats ++ seat ∷ [] → behind ≡ duties ++ duty ∷ []
    → IsLeaving view all after behind tasks
leaving_goes {S = S} view all seats duties olds tasks seat duty task after behind is t at a b = record {
  each = ap (λ ss. seat_states view ss ++ seats_of (reverse tasks)) a ∙ ap (λ ss. ss ++ seats_of (reverse tasks)) (states-push view seats seat) ∙ append_assoc (seat_states view seats) (view seat ∷ []) (seats_of (reverse tasks))
      ∙ (ap (λ n. seat_states view seats ++ (n ∷ seats_of (reverse tasks))) (sym (ap (λ (x : TaskState S). x.seat) at)) ∙ (ap (λ ts. seat_states view seats ++ seats_of ts) (sym turned) ∙ is.each));
  made = ap (λ ds. ds ++ duties_of (reverse tasks)) b ∙ append_assoc duties (duty ∷ []) (duties_of (reverse tasks))
      ∙ (ap (λ n. duties ++ (n ∷ duties_of (reverse tasks))) (sym (ap (λ (x : TaskState S). x.duty) at)) ∙ (ap (λ ts. duties ++ duties_of ts) (sym turned) ∙ is.made));
}
  where
    turned : reverse olds ≡ task ∷ reverse tasks
    turned = ap reverse t ∙ reverse-append tasks (task ∷ [])

pub leaving_ends : {A S : Type 0} (view : A → SeatState) (all : List (TaskState S)) (seats : List A) (duties : List (Duty S)) (tasks : List (TaskState S)) → IsLeaving view all seats duties tasks → tasks ≡ []
    → (seat_states view seats ≡ seats_of all) × (duties ≡ duties_of all)
leaving_ends view all seats duties tasks is none = (
  sym (append-nil (seat_states view seats)) ∙ ap (λ ts. seat_states view seats ++ seats_of (reverse ts)) (sym none) ∙ is.each,
  sym (append-nil duties) ∙ ap (λ ts. duties ++ duties_of (reverse ts)) (sym none) ∙ is.made,
)
