-- The rejects of lines that come behind others, and how many elements and rejects there are.
use Rattle.std.proofs.Common.{◌≡◌, ◌≤◌, ℕ, suc, ◌+◌, List, [], ◌∷◌, ◌++◌, length, refl, ap, sym, ◌∙◌, arith}
use Rattle.pj_pattern.specs.declared.element.Element.{Element}
use Rattle.pj_pattern.specs.declared.element.Element.TheVariants.{Tuple as AcceptedTuple, Punct as AcceptedPunct}
use Rattle.pj_pattern.specs.Elements.{rows_of, puncts_of}
use Rattle.pj_element.specs.declared.element.Reject.{Reject}
use Rattle.pj_element.specs.Accepted.{Fate, Passed, Taken, Refused, with_taken, taken_of, with_refused, rejects_of}

pub with_refused-append : (n : ℕ) (f : Fate) (xs ys : List (ℕ × Reject)) → with_refused n f xs ++ ys ≡ with_refused n f (xs ++ ys)
with_refused-append n Passed xs ys = refl
with_refused-append n (Taken e) xs ys = refl
with_refused-append n (Refused why) xs ys = refl

pub rejects_of-append : (n : ℕ) (xs ys : List Fate) → rejects_of n (xs ++ ys) ≡ rejects_of n xs ++ rejects_of (n + length xs) ys
rejects_of-append n [] ys = let e : n ≡ n + 0 = omega arith in ap (λ m. rejects_of m ys) e
rejects_of-append n (x ∷ xs) ys =
    let e : (n + 1) + length xs ≡ n + suc (length xs) = omega arith in
    ap (with_refused n x) (rejects_of-append (n + 1) xs ys ∙ ap (λ m. rejects_of (n + 1) xs ++ rejects_of m ys) e)
    ∙ sym (with_refused-append n x (rejects_of (n + 1) xs) (rejects_of (n + suc (length xs)) ys))

-- ---- bounds

with_taken-bound : (f : Fate) (es : List Element) (n : ℕ) → length (rows_of es) + length (puncts_of es) ≤ n → length (rows_of (with_taken f es)) + length (puncts_of (with_taken f es)) ≤ suc n
with_taken-bound Passed es n le = omega arith
with_taken-bound (Taken (AcceptedTuple row)) es n le = omega arith
with_taken-bound (Taken (AcceptedPunct punct)) es n le = omega arith
with_taken-bound (Refused why) es n le = omega arith

pub taken-bound : (fs : List Fate) → length (rows_of (taken_of fs)) + length (puncts_of (taken_of fs)) ≤ length fs
taken-bound [] = omega arith
taken-bound (f ∷ fs) = with_taken-bound f (taken_of fs) (length fs) (taken-bound fs)

with_refused-bound : (n : ℕ) (f : Fate) (xs : List (ℕ × Reject)) (m : ℕ) → length xs ≤ m → length (with_refused n f xs) ≤ suc m
with_refused-bound n Passed xs m le = omega arith
with_refused-bound n (Taken e) xs m le = omega arith
with_refused-bound n (Refused why) xs m le = omega arith

pub rejects-bound : (n : ℕ) (fs : List Fate) → length (rejects_of n fs) ≤ length fs
rejects-bound n [] = omega arith
rejects-bound n (f ∷ fs) = with_refused-bound n f (rejects_of (n + 1) fs) (length fs) (rejects-bound (n + 1) fs)
