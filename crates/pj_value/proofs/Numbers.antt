-- Numbers among numbers.
use Rattle.std.proofs.Common.{ℕ, ◌<◌, ◌≡◌, true, false, ◌||◌, List, ◌++◌, refl, subst, eqb, arith}
use Rattle.std.proofs.lemmas.Bool.{eqb-true, eq-eqb, false_from_ne_true}
use Rattle.std.proofs.lemmas.List.Folds.{list_any-append}
use Rattle.pj_value.specs.Lists.{In, has}
use Rattle.pj_value.proofs.Members.{any_at, any_from}

pub has-in : (ns : List ℕ) (n : ℕ) → has ns n ≡ true → In n ns
has-in ns n t = let at = any_at (λ m. eqb m n) ns t in subst (λ m. In m ns) (eqb-true at.0 n at.2) at.1

pub in-has : (ns : List ℕ) (n : ℕ) → In n ns → has ns n ≡ true
in-has ns n h = any_from (λ m. eqb m n) ns n h (eq-eqb n n refl)

pub has-append : (ms ns : List ℕ) (n : ℕ) → has (ms ++ ns) n ≡ (has ms n || has ns n)
has-append ms ns n = list_any-append (λ m. eqb m n) ms ns

-- a number that is above all of these is none of them
pub has-new : (ns : List ℕ) (n : ℕ) → ((m : ℕ) → has ns m ≡ true → m < n) → has ns n ≡ false
has-new ns n f = false_from_ne_true (has ns n) (λ t. let l : n < n = f n t in omega arith)
