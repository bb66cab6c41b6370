-- Seats in a list of them, by their places: all that `close` asks for, where each place has the seat of its number.
use Rattle.std.proofs.Common.{refl, sym, ap, ◌∙◌, ◌≡◌, ◌<◌, ℕ, zero, suc, List, [], ◌∷◌, ◌++◌, length, take, Some, slice_get, arith}
use Rattle.std.proofs.Math.Seq.{take-append_seam}
use Rattle.pj_turn.specs.declared.turn.Turn.{Turn}
use Rattle.pj_turn.specs.declared.turn.TurnSeat.{TurnSeat}
use Rattle.pj_turn.specs.Seats.{AreAllSeats, IsSeat, turn_seats}

there : {A : Type 0} (xs : List A) (k : ℕ) → k < length xs → (x : A) × (slice_get xs k ≡ Some x)
there [] k lt = absurd (omega arith)
there (x ∷ xs) zero lt = (x, refl)
there (x ∷ xs) (suc k) lt = there xs k (omega arith)

-- the front of a list that is as long as its first part is that part
pub first-part : {A : Type 0} (xs rest all : List A) (n : ℕ) → all ≡ take n (xs ++ rest) → n ≡ length xs → all ≡ xs
first-part xs rest all n is long = is ∙ (ap (λ k. take k (xs ++ rest)) long ∙ take-append_seam xs rest)

module _ {T E F : Type 0} {K : _} where
  pub all-seats : (fixed : T → F) (turn : Turn T E F) (seats all : List (TurnSeat T E F K)) → all ≡ seats → length seats ≡ turn_seats turn
      → ((k : ℕ) (s : TurnSeat T E F K) → slice_get seats k ≡ Some s → IsSeat fixed turn k s) → AreAllSeats fixed turn all
  all-seats fixed turn seats all same long at = record {
    of_turn = λ k s e. (at k s (ap (λ (l : List (TurnSeat T E F K)). slice_get l k) (sym same) ∙ e)).name;
    all = λ n lt.
        let s = there seats n (omega (arith, lt, long)) in
        (n, s.0, ap (λ (l : List (TurnSeat T E F K)). slice_get l n) same ∙ s.1, (at n s.0 s.1).number);
  }
