-- A punctuation that is no wildcard in some column that a scheme does not mark covers no instance of it.
use Rattle.std.proofs.Common.{ℕ, ◌+◌, ◌≡◌, Bool, true, false, ◌&&◌, ◌||◌, List, [], ◌∷◌, Some, drop, length, refl, sym, ap, ap₂, ◌∙◌, arith}
use Rattle.std.specs.List.{slice_get}
use Rattle.std.proofs.Math.Bool.{and-false}
use Rattle.std.proofs.lemmas.Bool.{false≢true}
use Rattle.pj_events.specs.Patterns.{Pattern, covers, is_wild, matches_value}
use Rattle.pj_events.specs.Join.{ClassCol, TupleAt, class_with, constant, instance_from}
use Rattle.pj_recheck.specs.Watching.{is_wild_elsewhere}
use Rattle.pj_recheck.proofs.Picked.{drop_one}

pub elsewhere_length : (marks : List Bool) (ps : List Pattern) → (length marks ≡ length ps → ⊥) → is_wild_elsewhere marks ps ≡ false
elsewhere_length [] [] differ = absurd (differ refl)
elsewhere_length [] (p ∷ ps) differ = refl
elsewhere_length (m ∷ marks) [] differ = refl
elsewhere_length (m ∷ marks) (p ∷ ps) differ = ap (λ b. (m || is_wild p) && b) (elsewhere_length marks ps (λ e. differ (omega (arith, e)))) ∙ and-false (m || is_wild p)

one-on : (marks : List Bool) (ps : List Pattern) (i : ℕ) (m : Bool) (p : Pattern) → is_wild_elsewhere marks ps ≡ is_wild_elsewhere (drop i marks) (drop i ps) → slice_get marks i ≡ Some m → slice_get ps i ≡ Some p
    → is_wild_elsewhere marks ps ≡ ((m || is_wild p) && is_wild_elsewhere (drop (i + 1) marks) (drop (i + 1) ps))
one-on marks ps i m p e at there = e ∙ ap₂ (λ (ms : List Bool) (qs : List Pattern). is_wild_elsewhere ms qs) (drop_one marks i m at) (drop_one ps i p there)

pub elsewhere_not : (marks : List Bool) (ps : List Pattern) (i : ℕ) (m : Bool) (p : Pattern) → is_wild_elsewhere marks ps ≡ is_wild_elsewhere (drop i marks) (drop i ps) → slice_get marks i ≡ Some m → slice_get ps i ≡ Some p
    → (m || is_wild p) ≡ false → is_wild_elsewhere marks ps ≡ false
elsewhere_not marks ps i m p e at there not_wild = one-on marks ps i m p e at there ∙ ap (λ b. b && is_wild_elsewhere (drop (i + 1) marks) (drop (i + 1) ps)) not_wild

pub elsewhere_on : (marks : List Bool) (ps : List Pattern) (i : ℕ) (m : Bool) (p : Pattern) → is_wild_elsewhere marks ps ≡ is_wild_elsewhere (drop i marks) (drop i ps) → slice_get marks i ≡ Some m → slice_get ps i ≡ Some p
    → (m || is_wild p) ≡ true → is_wild_elsewhere marks ps ≡ is_wild_elsewhere (drop (i + 1) marks) (drop (i + 1) ps)
elsewhere_on marks ps i m p e at there free = one-on marks ps i m p e at there ∙ ap (λ b. b && is_wild_elsewhere (drop (i + 1) marks) (drop (i + 1) ps)) free

pub elsewhere_uncovered : (classes : List (List ClassCol)) (other c : ℕ) (marks : List Bool) (ps : List Pattern) (xs : List TupleAt) → is_wild_elsewhere marks ps ≡ false → covers ps (instance_from classes other c marks xs) ≡ false
elsewhere_uncovered classes other c [] [] xs e = absurd (false≢true (sym e))
elsewhere_uncovered classes other c [] (p ∷ ps) xs e = refl
elsewhere_uncovered classes other c (true ∷ marks) [] xs e = refl
elsewhere_uncovered classes other c (false ∷ marks) [] xs e = refl
elsewhere_uncovered classes other c (true ∷ marks) (p ∷ ps) xs e =
    ap (λ b. matches_value p (constant (class_with classes other c) xs) && b) (elsewhere_uncovered classes other (c + 1) marks ps xs e) ∙ and-false (matches_value p (constant (class_with classes other c) xs))
elsewhere_uncovered classes other c (false ∷ marks) (p ∷ ps) xs e = go (is_wild p) e (elsewhere_uncovered classes other (c + 1) marks ps xs)
  where
    go : (b : Bool) → (b && is_wild_elsewhere marks ps) ≡ false → (is_wild_elsewhere marks ps ≡ false → covers ps (instance_from classes other (c + 1) marks xs) ≡ false) → (b && covers ps (instance_from classes other (c + 1) marks xs)) ≡ false
    go true f ih = ih f
    go false f ih = refl
