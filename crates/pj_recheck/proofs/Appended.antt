-- The tickets of all rows with a value, put down once.
use Rattle.std.proofs.Common.{ℕ, ◌<◌, Bool, true, false, List, ◌++◌, ◌≡◌, ◌⊎◌, inl, inr, Some, length, refl, sym, ap, ◌∙◌, subst}
use Rattle.std.specs.BTreeMap.{is_at}
use Rattle.std.specs.BTreeSet.{BTreeSet, Updates, contains}
use Rattle.std.specs.Cmp.{Equal-is}
use Rattle.std.specs.List.{slice_get}
use Rattle.std.specs.Ordering.{nat_cmp}
use Rattle.std.proofs.lemmas.Map.Lookups.{exact_unsigned}
use Rattle.std.proofs.lemmas.Option.{same_Some, slice_get-get_or}
use Rattle.pj_value.specs.declared.values.Value.{Value}
use Rattle.pj_value.specs.Options.{is_value}
use Rattle.pj_value.specs.Values.{value_eq}
use Rattle.pj_value.proofs.Members.{In-append_cases, In-append_left, In-append_right, In-filter, In-filter_from, In-map, In-map_from}
use Rattle.pj_value.proofs.Orders.{equal_itself, same_if_equal}
use Rattle.pj_state.specs.declared.shared.Stored.{Stored}
use Rattle.pj_state.specs.Rising.{IsRising}
use Rattle.pj_state.specs.States.{StateView, has_value, row_under, rows_with, ticket_of, tickets_of}
use Rattle.pj_events.specs.Join.{In, no_value, value_at}
use Rattle.pj_rows.specs.Tuples.{IsWide}
use Rattle.pj_rows.proofs.Indexed.{all-in}
use Rattle.pj_rows.proofs.Under.{under-own}
use Rattle.pj_recheck.specs.Watching.{AreWhole}

-- a row has its value in an indexed column
has-own : (state : StateView) (column : ℕ) (s : Stored) → IsWide state → In column state.columns → In s state.rows → slice_get s.row column ≡ Some (value_at s.row column)
has-own state column s wide indexed hs = slice_get-get_or s.row column no_value (all-in (λ c. c < length s.row) state.columns (wide s hs) column indexed)

-- a row with this value has its ticket among those of the value
pub with_value : (state : StateView) (column : ℕ) (value : Value) (s : Stored) → IsWide state → In column state.columns → In s state.rows → value_at s.row column ≡ value
    → In s.ticket (tickets_of (rows_with column value state.rows))
with_value state column value s wide indexed hs e =
    let has : has_value column value s ≡ true = ap (is_value value) (has-own state column s wide indexed hs) ∙ ap (λ (v : Value). value_eq v value) e ∙ equal_itself value in
    In-map_from ticket_of s (rows_with column value state.rows) (In-filter_from (has_value column value) s state.rows hs has)

-- a ticket among those of a value is that of a row with it
with_ticket : (state : StateView) (column : ℕ) (value : Value) (ticket : ℕ) → IsWide state → In column state.columns → In ticket (tickets_of (rows_with column value state.rows))
    → (s : Stored) × In s state.rows × (value_at s.row column ≡ value) × (s.ticket ≡ ticket)
with_ticket state column value ticket wide indexed h =
    let m = In-map ticket_of ticket (rows_with column value state.rows) h in
    let f = In-filter (has_value column value) m.0 state.rows m.1 in
    (m.0, f.0, same_if_equal (value_at m.0.row column) value (sym (ap (is_value value) (has-own state column m.0 wide indexed f.0)) ∙ f.1), m.2)

-- those of a value stand there already, where the first of them was seen
pub once_there : (state : StateView) (column : ℕ) (value : Value) (seen : BTreeSet ℕ) (found : List ℕ) (first : ℕ) → IsWide state → In column state.columns → AreWhole state.rows column seen found
    → In first (tickets_of (rows_with column value state.rows)) → contains nat_cmp seen first ≡ true → (ticket : ℕ) → In ticket (found ++ tickets_of (rows_with column value state.rows)) → In ticket found
once_there state column value seen found first wide indexed whole hf was ticket h = go (In-append_cases ticket found (tickets_of (rows_with column value state.rows)) h)
  where
    go : In ticket found ⊎ In ticket (tickets_of (rows_with column value state.rows)) → In ticket found
    go (inl a) = a
    go (inr a) =
        let f = with_ticket state column value first wide indexed hf in
        let t = with_ticket state column value ticket wide indexed a in
        subst (λ n. In n found) t.3 (whole f.0 t.0 f.1 t.1 (ap (contains nat_cmp seen) f.3 ∙ was) (t.2 ∙ sym f.2))

-- those of a value are put down, and the first of them is seen
pub once_more : (state : StateView) (column : ℕ) (value : Value) (old new : BTreeSet ℕ) (found : List ℕ) (first : ℕ) → IsWide state → In column state.columns → IsRising ticket_of state.rows
    → AreWhole state.rows column old found → In first (tickets_of (rows_with column value state.rows)) → Updates nat_cmp old new first true
    → AreWhole state.rows column new (found ++ tickets_of (rows_with column value state.rows))
once_more state column value old new found first wide indexed rising whole hf put s t hs ht was same = go (is_at (nat_cmp first) s.ticket) refl
  where
    own : first ≡ s.ticket → value_at s.row column ≡ value
    own e =
        let f = with_ticket state column value first wide indexed hf in
        ap (λ (r : List Value). value_at r column) (same_Some s.row f.0.row (under-own state.rows s rising hs ∙ ap (λ n. row_under n state.rows) (sym (f.3 ∙ e)) ∙ sym (under-own state.rows f.0 rising f.1))) ∙ f.2

    go : (b : Bool) → is_at (nat_cmp first) s.ticket ≡ b → In t.ticket (found ++ tickets_of (rows_with column value state.rows))
    go true e =
        In-append_right t.ticket found (tickets_of (rows_with column value state.rows))
        (with_value state column value t wide indexed ht (same ∙ own (exact_unsigned first s.ticket ((Equal-is (nat_cmp first s.ticket)).0 e))))
    go false e = In-append_left t.ticket found (tickets_of (rows_with column value state.rows)) (whole s t hs ht (sym (put.2 s.ticket e) ∙ was) same)
