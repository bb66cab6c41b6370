-- Rows that match a punctuation, looked up by a constant of it.
use Rattle.std.proofs.Common.{ℕ, zero, suc, Bool, true, false, cond, ◌||◌, not, List, [], ◌∷◌, ◌≡◌, Some, filter, refl, sym, ap, ◌∙◌}
use Rattle.std.specs.List.{list_any, slice_get}
use Rattle.std.proofs.lemmas.Bool.{and_parts, false≢true}
use Rattle.pj_value.specs.declared.values.Value.{Value}
use Rattle.pj_value.specs.Values.{value_eq}
use Rattle.pj_value.proofs.Orders.{equal_itself, same_if_equal}
use Rattle.pj_value.specs.Options.{is_value}
use Rattle.pj_pattern.specs.declared.pattern.Form.TheVariants.{Constant}
use Rattle.pj_state.specs.declared.shared.Stored.{Stored}
use Rattle.pj_state.specs.States.{StateView, has_value, rows_with}
use Rattle.pj_events.specs.Patterns.{Pattern, matches_row, matches_value}
use Rattle.pj_events.specs.Join.{has}
use Rattle.pj_rows.specs.Finding.{IsLookup, stays, still_held}

-- a row that matches has the constant
pub constant-there : (ps : List Pattern) (column : ℕ) (p : Pattern) (v : Value) → slice_get ps column ≡ Some p → p ≡ Constant v → (row : List Value) → matches_row ps row ≡ true → is_value v (slice_get row column) ≡ true
constant-there [] column p v at is row t = absurd (cc)
constant-there (q ∷ ps) column p v at is [] t = absurd (false≢true t)
constant-there (q ∷ ps) zero p v at is (w ∷ row) t =
    ap (λ (u : Value). value_eq u v) (sym (same_if_equal v w (sym (ap (λ (r : Pattern). matches_value r w) (first at ∙ is)) ∙ (and_parts (matches_value q w) (matches_row ps row) t).0))) ∙ equal_itself v
  where
    first : Some q ≡ Some p → q ≡ p
    first e = cc
constant-there (q ∷ ps) (suc column) p v at is (w ∷ row) t = constant-there ps column p v at is row (and_parts (matches_value q w) (matches_row ps row) t).1

any-among : (p q : Stored → Bool) (rows : List Stored) → ((s : Stored) → q s ≡ true → p s ≡ true) → list_any q (filter p rows) ≡ list_any q rows
any-among p q [] f = refl
any-among p q (s ∷ rows) f = go (p s) refl (q s) refl (any-among p q rows f)
  where
    go : (a : Bool) → p s ≡ a → (b : Bool) → q s ≡ b → list_any q (filter p rows) ≡ list_any q rows → list_any q (cond a (s ∷ filter p rows) (filter p rows)) ≡ (b || list_any q rows)
    go true e b g ih = ap (λ c. c || list_any q (filter p rows)) g ∙ ap (λ c. b || c) ih
    go false e true g ih = absurd (false≢true (sym e ∙ f s g))
    go false e false g ih = ih

-- those that match are among the rows with the constant
pub held-among : (state : StateView) (gone : List ℕ) (patterns : List Pattern) (column : ℕ) (value : Value) → IsLookup state patterns column value → still_held (rows_with column value state.rows) gone patterns ≡ still_held state.rows gone patterns
held-among state gone patterns column value at =
    any-among (has_value column value) (stays gone patterns) state.rows (λ s t. at.1 s.row (and_parts (matches_row patterns s.row) (not (has gone s.ticket)) t).0)
