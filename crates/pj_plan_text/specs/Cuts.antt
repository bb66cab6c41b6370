-- Where a list is cut in two, or in many.
use Rattle.std.specs.Prelude.{ℕ, Bool, List, [], ◌∷◌, Option, Some, None, if◌then◌else◌, ◌==◌, take, drop}
use Rattle.pj_value.specs.Options.{both}
use Rattle.pj_line.specs.Lines.{onto}

-- what each of these says, if each says something
abbrev pub all_of : {A : Type 0} → {B : Type 0} → (A → Option B) → List A → Option (List B)
all_of f [] = Some []
all_of f (x ∷ xs) = both (f x) (all_of f xs)

abbrev pub past : {A : Type 0} → A → Option (List A × List A) → Option (List A × List A)
past x None = None
past x (Some (front, behind)) = Some (x ∷ front, behind)

-- what stands before the first that passes the test and behind it, if one passes
abbrev pub cut_at : {A : Type 0} → (A → Bool) → List A → Option (List A × List A)
cut_at test [] = None
cut_at test (x ∷ xs) = if test x then Some ([], xs) else past x (cut_at test xs)

-- what stands before this place and behind it, if there is one
abbrev pub around : {A : Type 0} → List A → Option ℕ → Option (List A × List A)
around xs None = None
around xs (Some at) = Some (take at xs, drop 1 (drop at xs))

abbrev pub is_byte : ℕ → ℕ → Bool
is_byte mark b = b == mark

-- what stands between the bytes of this sort
abbrev pub parts_of : ℕ → List ℕ → List (List ℕ)
parts_of mark [] = [] ∷ []
parts_of mark (b ∷ bs) = if b == mark then [] ∷ parts_of mark bs else onto b (parts_of mark bs)
