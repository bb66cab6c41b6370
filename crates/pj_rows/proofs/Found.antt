-- A row that is found stays and matches.
use Rattle.std.proofs.Common.{ℕ, arith, true, List, ◌≡◌, Option, Some, None, refl, sym, ◌∙◌, subst, ◌+◌, false, ◌||◌, [], ◌∷◌, ◌++◌, take, ap, ap₂}
use Rattle.std.specs.List.{slice_get}
use Rattle.std.proofs.lemmas.Option.{get_or_from_slice_get, slice_get_within}
use Rattle.pj_value.specs.declared.values.Value.{Value}
use Rattle.pj_value.proofs.Members.{In-filter, in-place}
use Rattle.pj_state.specs.declared.shared.Stored.{Stored}
use Rattle.pj_state.specs.States.{StateView, has_value, rows_with}
use Rattle.pj_events.specs.Patterns.{Pattern}
use Rattle.pj_events.specs.Join.{In}
use Rattle.pj_rows.specs.Finding.{IsFound, IsStaying, IsLookup, stays, still_held}
use Rattle.pj_rows.proofs.Looked.{held-among}
use Rattle.std.proofs.lemmas.List.{take_more}
use Rattle.std.proofs.lemmas.List.Folds.{list_any-append}

-- ---- a row that is found

pub found_here : (rows : List Stored) (gone : List ℕ) (patterns : List Pattern) (at : ℕ) (s : Stored) → slice_get rows at ≡ Some s → stays gone patterns s ≡ true → IsStaying rows gone patterns s.ticket
found_here rows gone patterns at s is t = (s, subst (λ (x : Stored). In x rows) (get_or_from_slice_get rows at s s is) (in-place rows s at (slice_get_within rows at s is)), refl, t)

pub found_with : (column : ℕ) (value : Value) (rows : List Stored) (gone : List ℕ) (patterns : List Pattern) (t : ℕ) → IsStaying (rows_with column value rows) gone patterns t → IsStaying rows gone patterns t
found_with column value rows gone patterns t (s, h, e, m) = (s, (In-filter (has_value column value) s rows h).0, e, m)

pub found_among : (state : StateView) (gone : List ℕ) (patterns : List Pattern) (column : ℕ) (value : Value) (found : Option ℕ) → IsLookup state patterns column value → IsFound (rows_with column value state.rows) gone patterns found → IsFound state.rows gone patterns found
found_among state gone patterns column value None at none = sym (held-among state gone patterns column value at) ∙ none
found_among state gone patterns column value (Some t) at some = found_with column value state.rows gone patterns t some

-- ---- rows that match

pub not_held_more : (rows : List Stored) (gone : List ℕ) (patterns : List Pattern) (i : ℕ) (s : Stored) → slice_get rows i ≡ Some s → still_held (take i rows) gone patterns ≡ false → stays gone patterns s ≡ false
    → still_held (take (i + 1) rows) gone patterns ≡ false
not_held_more rows gone patterns i s at before none =
    ap (λ (xs : List Stored). still_held xs gone patterns) (take_more rows i s (slice_get_within rows i s at) ∙ ap (λ (t : Stored). take i rows ++ t ∷ []) (get_or_from_slice_get rows i s s at))
    ∙ list_any-append (stays gone patterns) (take i rows) (s ∷ [])
    ∙ ap₂ (λ a b. a || (b || false)) before none
