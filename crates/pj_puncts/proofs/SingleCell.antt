-- Cells of which one has a value.
use Rattle.std.proofs.Common.{◌≡◌, ℕ, zero, suc, ◌+◌, ◌<◌, ◌≤◌, Bool, true, false, ◌&&◌, List, [], ◌∷◌, Option, Some, None, length, get_or, drop, replicate, refl, sym, ap, ap₂, ◌∙◌, arith}
use Rattle.std.proofs.lemmas.Bool.{false≢true}
use Rattle.pj_value.specs.declared.values.Value.{Value}
use Rattle.pj_events.specs.Join.{ClassCol, TupleAt, class_with, constant, instance_from}
use Rattle.pj_events.specs.Patterns.{Pattern, covers}
use Rattle.pj_puncts.specs.Givens.{covers_cell, first_marked, none_marked, one_cell, only_marked}
use Rattle.pj_puncts.specs.Hashes.{cell_at}

nones-length : (n : ℕ) → length (replicate {A = Option Value} n None) ≡ n
nones-length zero = refl
nones-length (suc n) = ap suc (nones-length n)

pub one_length : (count column : ℕ) (v : Value) → length (one_cell count column v) ≡ count
one_length zero column v = refl
one_length (suc count) zero v = ap suc (nones-length count)
one_length (suc count) (suc column) v = ap suc (one_length count column v)

-- ---- the cell of a column

no-cell : (count at : ℕ) → cell_at (replicate count None) at ≡ None
no-cell zero at = refl
no-cell (suc count) zero = refl
no-cell (suc count) (suc at) = no-cell count at

pub cell_behind : (count column : ℕ) (v : Value) (at : ℕ) → count ≤ at → cell_at (one_cell count column v) at ≡ None
cell_behind zero column v at le = refl
cell_behind (suc count) column v zero le = absurd (omega (arith, le))
cell_behind (suc count) zero v (suc at) le = no-cell count at
cell_behind (suc count) (suc column) v (suc at) le = cell_behind count column v at (omega (arith, le))

pub cell_beside : (count column : ℕ) (v : Value) (at : ℕ) → (at ≡ column → ⊥) → cell_at (one_cell count column v) at ≡ None
cell_beside zero column v at ne = refl
cell_beside (suc count) zero v zero ne = absurd (ne refl)
cell_beside (suc count) zero v (suc at) ne = no-cell count at
cell_beside (suc count) (suc column) v zero ne = refl
cell_beside (suc count) (suc column) v (suc at) ne = cell_beside count column v at (λ e. ne (ap suc e))

pub cell_own : (count column : ℕ) (v : Value) (at : ℕ) → at < count → at ≡ column → cell_at (one_cell count column v) at ≡ Some v
cell_own zero column v at lt e = absurd (omega (arith, lt))
cell_own (suc count) zero v zero lt e = refl
cell_own (suc count) zero v (suc at) lt e = absurd (omega (arith, e))
cell_own (suc count) (suc column) v zero lt e = absurd (omega (arith, e))
cell_own (suc count) (suc column) v (suc at) lt e = cell_own count column v at (omega (arith, lt)) (omega (arith, e))

pub cell_is : (cells : List (Option Value)) (at : ℕ) → cell_at cells at ≡ get_or cells at None
cell_is [] at = refl
cell_is (c ∷ cells) zero = refl
cell_is (c ∷ cells) (suc at) = cell_is cells at

-- one column more
pub covers_step : (ps : List Pattern) (cells : List (Option Value)) (at : ℕ) (p : Pattern) → at < length ps → length ps ≡ length cells → p ≡ get_or ps at p
    → covers (drop at ps) (drop at cells) ≡ (covers_cell p (cell_at cells at) && covers (drop (at + 1) ps) (drop (at + 1) cells))
covers_step [] cells at p lt e is = absurd (omega (arith, lt))
covers_step (q ∷ ps) [] at p lt e is = absurd (omega (arith, e))
covers_step (q ∷ ps) (None ∷ cells) zero p lt e is = ap (λ (x : Pattern). covers (x ∷ ps) (None ∷ cells)) (sym is)
covers_step (q ∷ ps) (Some v ∷ cells) zero p lt e is = ap (λ (x : Pattern). covers (x ∷ ps) (Some v ∷ cells)) (sym is)
covers_step (q ∷ ps) (c ∷ cells) (suc at) p lt e is = let n : suc at + 1 ≡ suc (at + 1) = omega arith in rw n (covers_step ps cells at p (omega (arith, lt)) (omega (arith, e)) is)

pub covers_end : (ps : List Pattern) (cells : List (Option Value)) (at : ℕ) → length ps ≡ length cells → length ps ≤ at → covers (drop at ps) (drop at cells) ≡ true
covers_end [] [] zero e le = refl
covers_end [] [] (suc at) e le = refl
covers_end [] (c ∷ cells) at e le = absurd (omega (arith, e))
covers_end (p ∷ ps) [] at e le = absurd (omega (arith, e))
covers_end (p ∷ ps) (c ∷ cells) zero e le = absurd (omega (arith, le))
covers_end (p ∷ ps) (c ∷ cells) (suc at) e le = covers_end ps cells at (omega (arith, e)) (omega (arith, le))

-- ---- the only mark

pub only_at : (marks : List Bool) → first_marked marks < length marks → none_marked (drop (first_marked marks + 1) marks) ≡ true → only_marked (first_marked marks) marks ≡ true
only_at [] lt t = absurd (omega (arith, lt))
only_at (true ∷ marks) lt t = t
only_at (false ∷ marks) lt t = let n : suc (first_marked marks) + 1 ≡ suc (first_marked marks + 1) = omega arith in only_at marks (omega (arith, lt)) (ap (λ i. none_marked (drop i (false ∷ marks))) (sym n) ∙ t)

module _ (classes : List (List ClassCol)) (input : ℕ) (xs : List TupleAt) where
  none-instance : (from : ℕ) (marks : List Bool) → none_marked marks ≡ true → replicate (length marks) None ≡ instance_from classes input from marks xs
  none-instance from [] t = refl
  none-instance from (true ∷ marks) t = absurd (false≢true t)
  none-instance from (false ∷ marks) t = ap (λ (cells : List (Option Value)). None ∷ cells) (none-instance (from + 1) marks t)

  -- the instance of a scheme with one mark
  pub one_instance : (from column : ℕ) (marks : List Bool) (v : Value) → only_marked column marks ≡ true → constant (class_with classes input (from + column)) xs ≡ v → one_cell (length marks) column v ≡ instance_from classes input from marks xs
  one_instance from column [] v t e = absurd (false≢true t)
  one_instance from zero (false ∷ marks) v t e = absurd (false≢true t)
  one_instance from zero (true ∷ marks) v t e =
      let n : from + 0 ≡ from = omega arith in
      ap₂ (λ (w : Value) (cells : List (Option Value)). Some w ∷ cells) (sym e ∙ ap (λ c. constant (class_with classes input c) xs) n) (none-instance (from + 1) marks t)
  one_instance from (suc column) (true ∷ marks) v t e = absurd (false≢true t)
  one_instance from (suc column) (false ∷ marks) v t e =
      let n : from + 1 + column ≡ from + suc column = omega arith in
      ap (λ (cells : List (Option Value)). None ∷ cells) (one_instance (from + 1) column marks v t (ap (λ c. constant (class_with classes input c) xs) n ∙ e))
