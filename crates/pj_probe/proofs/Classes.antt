-- The values that numbered rows have in a class of columns.
use Rattle.std.proofs.Common.{◌≡◌, ℕ, zero, suc, ◌+◌, ◌<◌, ◌≤◌, cond, List, [], ◌∷◌, ◌++◌, length, get_or, refl, sym, ap, ap₂, subst, inl, inr, eqb, arith}
use Rattle.std.proofs.lemmas.Bool.{cases_lt, eqb-true, eq-eqb, false_from_ne_true}
use Rattle.pj_value.specs.Lists.{In}
use Rattle.pj_value.proofs.Members.{In-flat_map, In-flat_map_from}
use Rattle.pj_shape.specs.Joining.{values, values_in, parts_on}
use Rattle.pj_events.specs.Join.{ClassCol, Value, value_at}

-- the value of these rows in a column of their inputs
abbrev pub cell_in : List (List Value) → ClassCol → Value
cell_in rows at = value_at (get_or rows at.input []) at.column

-- ---- a column of a row

other-part : (k : ℕ) (row : List Value) (at : ClassCol) → (k ≡ at.input → ⊥) → cond (eqb k at.input) (value_at row at.column ∷ []) [] ≡ []
other-part k row at ne = ap (λ b. cond b (value_at row at.column ∷ []) []) (false_from_ne_true (eqb k at.input) (λ t. ne (eqb-true k at.input t)))

none-below : (k : ℕ) (rows : List (List Value)) (at : ClassCol) → at.input < k → values_in (parts_on k rows) at ≡ []
none-below k [] at lt = refl
none-below k (r ∷ rs) at lt = ap₂ (λ (vs ws : List Value). vs ++ ws) (other-part k r at (λ e. omega (arith, e, lt))) (none-below (k + 1) rs at (omega (arith, lt)))

none-above : (k : ℕ) (rows : List (List Value)) (at : ClassCol) → k + length rows ≤ at.input → values_in (parts_on k rows) at ≡ []
none-above k [] at le = refl
none-above k (r ∷ rs) at le = ap₂ (λ (vs ws : List Value). vs ++ ws) (other-part k r at (λ e. omega (arith, e, le))) (none-above (k + 1) rs at (omega (arith, le)))

one-there : (k i : ℕ) (rows : List (List Value)) (at : ClassCol) → at.input ≡ k + i → i < length rows → values_in (parts_on k rows) at ≡ value_at (get_or rows i []) at.column ∷ []
one-there k i [] at e lt = absurd (omega (arith, lt))
one-there k zero (r ∷ rs) at e lt =
    ap₂ (λ (vs ws : List Value). vs ++ ws) (ap (λ b. cond b (value_at r at.column ∷ []) []) (eq-eqb k at.input (omega (arith, e)))) (none-below (k + 1) rs at (omega (arith, e)))
one-there k (suc i) (r ∷ rs) at e lt =
    ap₂ (λ (vs ws : List Value). vs ++ ws) (other-part k r at (λ h. omega (arith, e, h))) (one-there (k + 1) i rs at (omega (arith, e)) (omega (arith, lt)))

here : (rows : List (List Value)) (at : ClassCol) → at.input < length rows → values_in (parts_on 0 rows) at ≡ cell_in rows at ∷ []
here rows at lt = one-there 0 at.input rows at (omega arith) lt

nowhere : (rows : List (List Value)) (at : ClassCol) → length rows ≤ at.input → values_in (parts_on 0 rows) at ≡ []
nowhere rows at le = none-above 0 rows at (omega (arith, le))

-- the value of a column of an input that has a row is among those of its class
pub value-there : (rows : List (List Value)) (class : List ClassCol) (at : ClassCol) → In at class → at.input < length rows → In (cell_in rows at) (values (parts_on 0 rows) class)
value-there rows class at there lt = In-flat_map_from (values_in (parts_on 0 rows)) (cell_in rows at) at class there (subst (λ (vs : List Value). In (cell_in rows at) vs) (sym (here rows at lt)) (inl refl))

-- a column of the class whose value this is
pub record IsCell (rows : List (List Value)) (class : List ClassCol) (v : Value) : Type 0 where
  pub at : ClassCol
  pub there : In at class
  pub within : at.input < length rows
  pub value : cell_in rows at ≡ v

-- each value is that of such a column
pub value-from : (rows : List (List Value)) (class : List ClassCol) (v : Value) → In v (values (parts_on 0 rows) class) → IsCell rows class v
value-from rows class v h = go (In-flat_map (values_in (parts_on 0 rows)) v class h)
  where
    only : (w : Value) → In v (w ∷ []) → w ≡ v
    only w (inl e) = e
    only w (inr e) = absurd e

    go : (at : ClassCol) × In at class × In v (values_in (parts_on 0 rows) at) → IsCell rows class v
    go (at, there, k) = elim (cases_lt at.input (length rows)) [
      | inl lt ↦ record { at = at; there = there; within = lt; value = only (cell_in rows at) (subst (λ (vs : List Value). In v vs) (here rows at lt) k) }
      | inr ge ↦ absurd (subst (λ (vs : List Value). In v vs) (nowhere rows at ge) k)
    ]
