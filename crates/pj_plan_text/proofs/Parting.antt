-- Cutting lists at an item, and bytes into parts.
use Rattle.std.proofs.Common.{◌≡◌, ℕ, suc, ◌+◌, Bool, true, false, ◌==◌, cond, ltb, List, [], ◌∷◌, ◌++◌, Option, Some, None, length, refl, ap, sym, ◌∙◌, append_assoc, arith}
use Rattle.std.proofs.lemmas.Bool.Decides.{nat_tests}
use Rattle.std.specs.List.{position, position_or_len}
use Rattle.pj_line.specs.Lines.{onto}
use Rattle.pj_plan_text.specs.Cuts.{around, cut_at, is_byte, parts_of, past}

-- ---- a cut is at the first place

one_and : (n : ℕ) → 1 + n ≡ suc n
one_and n = omega arith

first_below : {A : Type 0} (x : A) (xs : List A) → ltb 0 (length (x ∷ xs)) ≡ true
first_below x xs = grind (arith, nat_tests)

below_more : {A : Type 0} (x : A) (xs : List A) (n : ℕ) → ltb (1 + n) (length (x ∷ xs)) ≡ ltb n (length xs)
below_more x xs n = grind (arith, nat_tests)

past_around : {A : Type 0} (x : A) (xs : List A) (n : ℕ) (b : Bool) → past x (around xs (cond b (Some n) None)) ≡ around (x ∷ xs) (cond b (Some (1 + n)) None)
past_around x xs n true = ap (λ (m : ℕ). around (x ∷ xs) (Some m)) (sym (one_and n))
past_around x xs n false = refl

past_below : {A : Type 0} (x : A) (xs : List A) (n : ℕ) → past x (around xs (cond (ltb n (length xs)) (Some n) None)) ≡ around (x ∷ xs) (cond (ltb (1 + n) (length (x ∷ xs))) (Some (1 + n)) None)
past_below x xs n =
    past_around x xs n (ltb n (length xs)) ∙ ap (λ (b : Bool). around (x ∷ xs) (cond b (Some (1 + n)) None)) (sym (below_more x xs n))

pub cut_around : {A : Type 0} (test : A → Bool) (xs : List A) → cut_at test xs ≡ around xs (position test xs)
cut_around test [] = refl
cut_around test (x ∷ xs) = go (test x) refl (cut_around test xs)
  where
    go : (b : Bool) → test x ≡ b → cut_at test xs ≡ around xs (position test xs) → cut_at test (x ∷ xs) ≡ around (x ∷ xs) (position test (x ∷ xs))
    go true is ih = rw is (ap (λ (b : Bool). around (x ∷ xs) (cond b (Some 0) None)) (sym (first_below x xs)))
    go false is ih = rw is (ap (past x) ih ∙ past_below x xs (position_or_len test xs))

-- ---- the parts of bytes

abbrev pub parts_by : ℕ → List ℕ → Option (List ℕ × List ℕ) → List (List ℕ)
parts_by mark bytes None = bytes ∷ []
parts_by mark bytes (Some (front, behind)) = front ∷ parts_of mark behind

onto_by : (mark b : ℕ) (bs : List ℕ) (o : Option (List ℕ × List ℕ)) → onto b (parts_by mark bs o) ≡ parts_by mark (b ∷ bs) (past b o)
onto_by mark b bs None = refl
onto_by mark b bs (Some (front, behind)) = refl

-- the first part stands before the first mark
pub parts_are : (mark : ℕ) (bytes : List ℕ) → parts_of mark bytes ≡ parts_by mark bytes (cut_at (is_byte mark) bytes)
parts_are mark [] = refl
parts_are mark (b ∷ bs) = go (b == mark) refl (parts_are mark bs)
  where
    go : (t : Bool) → (b == mark) ≡ t → parts_of mark bs ≡ parts_by mark bs (cut_at (is_byte mark) bs) → parts_of mark (b ∷ bs) ≡ parts_by mark (b ∷ bs) (cut_at (is_byte mark) (b ∷ bs))
    go true is ih = rw is refl
    go false is ih = rw is (ap (onto b) ih ∙ onto_by mark b bs (cut_at (is_byte mark) bs))

-- these parts stand in front of those of the rest
abbrev pub PartsSoFar : ℕ → List ℕ → List (List ℕ) → List ℕ → Type 0
PartsSoFar mark bytes done rest = parts_of mark bytes ≡ done ++ parts_of mark rest

pub parts_start : (mark : ℕ) (bytes : List ℕ) → PartsSoFar mark bytes [] bytes
parts_start mark bytes = refl

pub parts_more : (mark : ℕ) (bytes rest front behind : List ℕ) (done : List (List ℕ)) → PartsSoFar mark bytes done rest → Some (front, behind) ≡ cut_at (is_byte mark) rest → PartsSoFar mark bytes (done ++ front ∷ []) behind
parts_more mark bytes rest front behind done before is =
    before ∙ (ap (λ (ps : List (List ℕ)). done ++ ps) (parts_are mark rest ∙ ap (parts_by mark rest) (sym is)) ∙ sym (append_assoc done (front ∷ []) (parts_of mark behind)))

pub parts_end : (mark : ℕ) (bytes rest : List ℕ) (done : List (List ℕ)) → PartsSoFar mark bytes done rest → None ≡ cut_at (is_byte mark) rest → done ++ rest ∷ [] ≡ parts_of mark bytes
parts_end mark bytes rest done before is =
    sym (before ∙ ap (λ (ps : List (List ℕ)). done ++ ps) (parts_are mark rest ∙ ap (parts_by mark rest) (sym is)))
