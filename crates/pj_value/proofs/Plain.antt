-- Bytes that stand for themselves inside quotes.
use Rattle.std.proofs.Common.{◌≡◌, ℕ, zero, suc, ◌-◌, ◌<◌, ◌≤◌, Bool, true, false, cond, ◌==◌, ◌&&◌, T, eqb, List, [], ◌∷◌, ◌++◌, length, take, drop, get_or, refl, ap, sym, ◌∙◌, append_assoc, inl, inr, arith, eq-zero-or-pos, eqb→eq}
use lib.Ieee.Fits.{and_l, and_r}
use Rattle.std.specs.Prelude.{slice_index}
use Rattle.std.specs.List.{flat_map}
use Rattle.std.proofs.lemmas.Bool.Decides.{nat_tests}
use Rattle.std.proofs.lemmas.Grind.{flat_map-append}
use Rattle.std.proofs.lemmas.List.{take-append-drop}
use Rattle.std.proofs.lemmas.List.Concat.{flat_map-cons}
use Rattle.pj_value.specs.declared.texts.TheConstants.{PLAIN}
use Rattle.pj_value.specs.Texts.{plain, spelled_byte}

-- ---- the table

abbrev are_plain : ℕ → Bool
are_plain zero = true
are_plain (suc b) = eqb (get_or PLAIN b 0) (cond (plain b) 1 0) && are_plain b

below : (n b : ℕ) → T (are_plain n) → b < n → get_or PLAIN b 0 ≡ cond (plain b) 1 0
below zero b t h = absurd (omega arith)
below (suc n) b t h =
    elim (eq-zero-or-pos (n - b)) [
      | inl z ↦ let e : b ≡ n = omega arith in rw e (eqb→eq _ _ (and_l _ _ t))
      | inr g ↦ below n b (and_r _ (are_plain n) t) (omega arith)
    ]

one_where : (p : Bool) → (cond p 1 0 == 1) ≡ p
one_where true = refl
one_where false = refl

pub plain_test : (b : ℕ) → b < 256 → (get_or PLAIN b 0 == 1) ≡ plain b
plain_test b h = rw (below 256 b tt h) (one_where (plain b))

-- ---- runs of such bytes

pub plain_spelled : (b : ℕ) → plain b ≡ true → spelled_byte b ≡ b ∷ []
plain_spelled b p = grind (arith, nat_tests)

pub plain_run : (bytes : List ℕ) (n : ℕ) → ((k : ℕ) → k < n → plain (slice_index bytes k) ≡ true) → n ≤ length bytes → flat_map spelled_byte (take n bytes) ≡ take n bytes
plain_run [] zero all le = refl
plain_run [] (suc n) all le = refl
plain_run (b ∷ bs) zero all le = refl
plain_run (b ∷ bs) (suc n) all le =
    rw (flat_map-cons spelled_byte b (take n bs), plain_spelled b (all zero (omega arith)), plain_run bs n (λ k lt. all (suc k) (omega arith)) (omega arith)) refl

-- what is escaped of bytes of which so many at the front are plain
escaped_split : (bytes : List ℕ) (n : ℕ) → ((k : ℕ) → k < n → plain (slice_index bytes k) ≡ true) → n ≤ length bytes → flat_map spelled_byte bytes ≡ take n bytes ++ flat_map spelled_byte (drop n bytes)
escaped_split bytes n all le =
    ap (flat_map spelled_byte) (sym (take-append-drop n bytes))
    ∙ (flat_map-append spelled_byte (take n bytes) (drop n bytes)
    ∙ ap (λ (front : List ℕ). front ++ flat_map spelled_byte (drop n bytes)) (plain_run bytes n all le))

-- all bytes were plain
pub front_all : (old new bytes run behind : List ℕ) (n : ℕ) → ((k : ℕ) → k < n → plain (slice_index bytes k) ≡ true) → n ≤ length bytes → run ≡ take n bytes → behind ≡ drop n bytes → new ≡ old ++ run
    → new ++ flat_map spelled_byte behind ≡ old ++ flat_map spelled_byte bytes
front_all old new bytes run behind n all le front back is = rw (is, front, back, escaped_split bytes n all le, append_assoc old (take n bytes) (flat_map spelled_byte (drop n bytes))) refl

-- a byte stands behind them
pub front_more : (old mid new bytes run : List ℕ) (n byte : ℕ) (more : List ℕ) → ((k : ℕ) → k < n → plain (slice_index bytes k) ≡ true) → n ≤ length bytes → run ≡ take n bytes → drop n bytes ≡ byte ∷ more → mid ≡ old ++ run → new ≡ mid ++ spelled_byte byte
    → new ++ flat_map spelled_byte more ≡ old ++ flat_map spelled_byte bytes
front_more old mid new bytes run n byte more all le front back is then =
    rw (then, is, front, escaped_split bytes n all le, back, flat_map-cons spelled_byte byte more, append_assoc (old ++ take n bytes) (spelled_byte byte) (flat_map spelled_byte more), append_assoc old (take n bytes) (spelled_byte byte ++ flat_map spelled_byte more)) refl
