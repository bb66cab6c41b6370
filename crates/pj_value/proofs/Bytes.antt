-- Which bytes are the same.
use Rattle.std.proofs.Common.{ℕ, ◌≡◌, true, false, List}
use Rattle.std.specs.Str.{bytes_eq}
use Rattle.std.proofs.lemmas.Bool.{false_from_ne_true}
use Rattle.std.proofs.lemmas.Slice.Eq.{bytes_eq-Decides}

pub bytes_same : (xs ys : List ℕ) → bytes_eq xs ys ≡ true → xs ≡ ys
bytes_same xs ys t = (bytes_eq-Decides xs ys).0 t

pub other_bytes : (xs ys : List ℕ) → (xs ≡ ys → ⊥) → bytes_eq xs ys ≡ false
other_bytes xs ys differ = false_from_ne_true (bytes_eq xs ys) (λ t. differ (bytes_same xs ys t))
