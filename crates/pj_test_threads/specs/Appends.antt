-- The act of the tests: it appends a number beside that of its seat.
use Rattle.std.specs.Prelude.{◌≡◌, ◌<◌, ℕ, Option, IfSome}
use Rattle.pj_turn.specs.Meanings.{ActMeaning}

-- it needs its seat's own number and a value below the limit, and answers both, or nothing where memory ran out
abbrev pub appends : {T : Type 0} → ℕ → ℕ → ActMeaning T (ℕ × Option (ℕ × ℕ)) ℕ (Option (ℕ × ℕ))
appends seat value = record {
  needs = λ limit n seen mine. (seat ≡ n) × (value < limit);
  entry = λ n log answer. (n, answer);
  gives = λ n log x answer y. IfSome answer (λ p. p ≡ (seat, value));
}
