-- The first line feed of bytes, and what is in front of it.
use Rattle.std.proofs.Common.{◌≡◌, ℕ, zero, suc, ◌+◌, ◌-◌, ◌<◌, ◌≤◌, Bool, true, false, List, [], ◌∷◌, ◌++◌, Option, Some, None, length, get_or, take, drop, refl, ap, sym, ◌∙◌, subst, arith, append_assoc, drop-cons, add-one, eqb}
use Rattle.std.proofs.lemmas.Bool.{eqb-true, eqb-false, eq-eqb}
use Rattle.std.proofs.lemmas.Bool.Decides.{nat_tests}
use Rattle.std.proofs.lemmas.List.{take-append-drop, take_all, get_or-drop, length-drop, length-take-le}
use Rattle.std.proofs.Math.Seq.{take-add}
use Rattle.memchr.specs.Find.{IsFirstByte, is_byte, Passes}
use Rattle.pj_line.specs.Lines.{HasNo}
use Rattle.pj_line.specs.FirstFeed.{IsFeedAt, first_feed, one_behind}

pub has_no_both : (byte : ℕ) (xs ys : List ℕ) → HasNo byte xs → HasNo byte ys → HasNo byte (xs ++ ys)
has_no_both byte [] ys none rest = rest
has_no_both byte (x ∷ xs) ys none rest = (none.0, has_no_both byte xs ys none.1 rest)

pub has_no_first : (byte : ℕ) (xs ys : List ℕ) → HasNo byte (xs ++ ys) → HasNo byte xs
has_no_first byte [] ys none = tt
has_no_first byte (x ∷ xs) ys none = (none.0, has_no_first byte xs ys none.1)

-- the first n bytes, where a test fails at each place below n
has_no_front : (hay : List ℕ) (n : ℕ) → ((k : ℕ) → k < n → Passes (is_byte 10) hay k → ⊥) → HasNo 10 (take n hay)
has_no_front hay zero none = tt
has_no_front [] (suc n) none = tt
has_no_front (x ∷ hay) (suc n) none = (
  λ is. none 0 (omega arith) (eq-eqb x 10 is),
  has_no_front hay n (λ k lt passes. none (suc k) (omega arith) passes),
)

-- what a search behind the first places tells of the whole
pub searched_none : (bytes rest : List ℕ) (searched : ℕ) → rest ≡ drop searched bytes → HasNo 10 (take searched bytes) → IsFirstByte (is_byte 10) rest None → HasNo 10 bytes
searched_none bytes rest searched is_rest front none =
    let behind : HasNo 10 rest = subst (HasNo 10) (take_all (length rest) rest (omega arith)) (has_no_front rest (length rest) (λ k lt passes. none k (omega arith) lt passes)) in
    subst (HasNo 10) (take-append-drop searched bytes) (has_no_both 10 (take searched bytes) (drop searched bytes) front (subst (HasNo 10) is_rest behind))

pub split_at_byte : (bytes : List ℕ) (n byte : ℕ) → n < length bytes → get_or bytes n 0 ≡ byte → bytes ≡ take n bytes ++ byte ∷ drop (n + 1) bytes
split_at_byte bytes n byte lt is = sym (take-append-drop n bytes) ∙ ap (λ (xs : List ℕ). take n bytes ++ xs) (drop-cons bytes n 0 lt ∙ rw (is, add-one) refl)

pub searched_some : (bytes rest : List ℕ) (searched at : ℕ) → searched ≤ length bytes → rest ≡ drop searched bytes → HasNo 10 (take searched bytes) → IsFirstByte (is_byte 10) rest (Some at) → IsFeedAt bytes (Some (searched + at))
searched_some bytes rest searched at le is_rest front first =
    let lt : at < length rest = first.0.high in
    let long : length rest ≡ length bytes - searched = ap length is_rest ∙ length-drop searched bytes in
    let feed : get_or bytes (searched + at) 0 ≡ 10 = sym (get_or-drop searched bytes at 0) ∙ (ap (λ (xs : List ℕ). get_or xs at 0) (sym is_rest) ∙ eqb-true (get_or rest at 0) 10 first.1) in
    let behind : HasNo 10 (take at rest) = has_no_front rest at (λ k below passes. first.0.before k (omega arith) below passes) in (
      omega arith,
      subst (HasNo 10) (sym (take-add searched at bytes)) (has_no_both 10 (take searched bytes) (take at (drop searched bytes)) front (subst (λ (xs : List ℕ). HasNo 10 (take at xs)) is_rest behind)),
      split_at_byte bytes (searched + at) 10 (omega arith) feed,
    )

-- ---- the first line feed as a number

first_at_other : (b : ℕ) (bs : List ℕ) → (b ≡ 10 → ⊥) → first_feed (b ∷ bs) ≡ one_behind (first_feed bs)
first_at_other b bs is_not = grind (arith, nat_tests)

first_none : (bytes : List ℕ) → HasNo 10 bytes → first_feed bytes ≡ None
first_none [] none = refl
first_none (b ∷ bs) none = first_at_other b bs none.0 ∙ ap one_behind (first_none bs none.1)

first_behind : (piece rest : List ℕ) → HasNo 10 piece → first_feed (piece ++ 10 ∷ rest) ≡ Some (length piece)
first_behind [] rest none = refl
first_behind (b ∷ bs) rest none = first_at_other b (bs ++ 10 ∷ rest) none.0 ∙ (ap one_behind (first_behind bs rest none.1) ∙ ap Some (add-one (length bs)))

pub is_first : (bytes : List ℕ) (feed : Option ℕ) → IsFeedAt bytes feed → feed ≡ first_feed bytes
is_first bytes None none = sym (first_none bytes none)
is_first bytes (Some n) at =
    let long : length (take n bytes) ≡ n = length-take-le n bytes (omega (arith, at.0)) in
    ap Some (sym long) ∙ (sym (first_behind (take n bytes) (drop (n + 1) bytes) at.1) ∙ ap first_feed (sym at.2))

first_here : (b : ℕ) (bs : List ℕ) → b ≡ 10 → first_feed (b ∷ bs) ≡ Some 0
first_here b bs is = subst (λ k. first_feed (k ∷ bs) ≡ Some 0) (sym is) refl

pub first_is : (bytes : List ℕ) → IsFeedAt bytes (first_feed bytes)
first_is [] = tt
first_is (b ∷ bs) = go (first_is bs) (eqb b 10) refl
  where
    behind : (feed : Option ℕ) → (b ≡ 10 → ⊥) → IsFeedAt bs feed → IsFeedAt (b ∷ bs) (one_behind feed)
    behind None is_not none = (is_not, none)
    behind (Some n) is_not at =
        subst (λ k. IsFeedAt (b ∷ bs) (Some k)) (sym (add-one n)) (omega (arith, at.0), (is_not, at.1), ap (λ (xs : List ℕ). b ∷ xs) (at.2 ∙ ap (λ k. take n bs ++ 10 ∷ drop k bs) (add-one n)) ∙ ap (λ k. b ∷ take n bs ++ 10 ∷ drop k (b ∷ bs)) (sym (add-one (suc n))))

    go : IsFeedAt bs (first_feed bs) → (t : Bool) → eqb b 10 ≡ t → IsFeedAt (b ∷ bs) (first_feed (b ∷ bs))
    go rest true is =
        let ten : b ≡ 10 = eqb-true b 10 is in
        subst (IsFeedAt (b ∷ bs)) (sym (first_here b bs ten)) (omega arith, tt, ap (λ (k : ℕ). k ∷ bs) ten)
    go rest false is = subst (IsFeedAt (b ∷ bs)) (sym (first_at_other b bs (eqb-false b 10 is))) (behind (first_feed bs) (eqb-false b 10 is) rest)

-- it stays where bytes come behind
first_stays : (xs ys : List ℕ) (n : ℕ) → first_feed xs ≡ Some n → first_feed (xs ++ ys) ≡ Some n
first_stays xs ys n is =
    let at : IsFeedAt xs (Some n) = subst (IsFeedAt xs) is (first_is xs) in
    let whole : xs ++ ys ≡ take n xs ++ 10 ∷ (drop (n + 1) xs ++ ys) = ap (λ (zs : List ℕ). zs ++ ys) at.2 ∙ append_assoc (take n xs) (10 ∷ drop (n + 1) xs) ys in
    ap first_feed whole ∙ (first_behind (take n xs) (drop (n + 1) xs ++ ys) at.1 ∙ ap Some (length-take-le n xs (omega (arith, at.0))))

-- and so does what is told of the first bytes
pub feed_stays : (bytes : List ℕ) (k n : ℕ) → IsFeedAt (take k bytes) (Some n) → IsFeedAt bytes (Some n)
feed_stays bytes k n at =
    let whole : IsFeedAt (take k bytes ++ drop k bytes) (Some n) = subst (IsFeedAt (take k bytes ++ drop k bytes)) (first_stays (take k bytes) (drop k bytes) n (sym (is_first (take k bytes) (Some n) at))) (first_is (take k bytes ++ drop k bytes)) in
    subst (λ (xs : List ℕ). IsFeedAt xs (Some n)) (take-append-drop k bytes) whole
