-- What is wanted of tuples that join with one.
use Rattle.std.proofs.Common.{◌≡◌, ℕ, ◌<◌, Bool, true, false, cond, not, ◌==◌, ◌&&◌, ◌||◌, Some, ltb, List, [], ◌∷◌, filter, map, length, inl, inr, refl, ap, ap₂, sym, ◌∙◌, arith}
use Rattle.std.proofs.lemmas.Option.{slice_get-get_or}
use Rattle.pj_value.specs.declared.values.Value.{Value}
use Rattle.pj_state.specs.declared.shared.Stored.{Stored}
use Rattle.pj_state.specs.States.{StateView, has_value, is_below, pairs, rows_below, rows_with}
use Rattle.pj_probe.specs.Walks.{tuple_at}
use Rattle.pj_rows.specs.Tuples.{IsWide, tuple_in}
use Rattle.std.specs.List.{list_all, slice_get}
use Rattle.std.proofs.lemmas.Bool.{and_parts, false≢true}
use Rattle.std.proofs.lemmas.Bool.Decides.{nat_tests}
use Rattle.pj_value.specs.Values.{value_eq}
use Rattle.pj_value.proofs.Members.{all_at}
use Rattle.pj_value.proofs.Orders.{equal_itself, same_if_equal}
use Rattle.pj_value.specs.Options.{is_value}
use Rattle.pj_events.specs.Join.{ClassCol, In, TupleAt, no_value, value_at}
use Rattle.pj_rows.specs.AgreesWith.{all_have, has_there, agrees_with, agrees_with_class}
use Rattle.pj_probe.specs.Choices.{older_joins}
use Rattle.pj_probe.specs.Lookups.{IsWanted}
use Rattle.pj_probe.specs.Routes.{InOneClass}
use Rattle.pj_probe.specs.declared.route.ProbeLink.{ProbeLink}
use Rattle.pj_shape.proofs.CellValues.{cell_there}
use Rattle.pj_rows.proofs.Indexed.{all-in}

same_number : (n : ℕ) → (n == n) ≡ true
same_number n = grind (arith, nat_tests)

past : (b c : Bool) → b ≡ true → (not b || c) ≡ true → c ≡ true
past true c e h = h
past false c e h = absurd (false≢true e)

-- a tuple of the input that joins with this one has its value in the columns of a class
pub wanted_by_link : (classes : List (List ClassCol)) (x : TupleAt) (input : ℕ) (link : ProbeLink) (value : Value) → link.from_input ≡ x.input → InOneClass classes input link → Some value ≡ slice_get x.row link.from_column → IsWanted classes (x ∷ []) input link.index_column value
wanted_by_link classes x input link value from share has = λ y of suited.
    let class : List ClassCol = share.0 in
    let at : ClassCol = record { input = input; column = link.index_column } in
    let there : ClassCol = record { input = link.from_input; column = link.from_column } in
    let v = value_at y.row link.index_column in
    let by_class : agrees_with_class (x ∷ []) y class ≡ true = all_at (agrees_with_class (x ∷ []) y) classes class suited share.1 in
    let own : (y.input == at.input) ≡ true = ap (λ (n : ℕ). n == input) of ∙ same_number input in
    let have : all_have class (x ∷ []) y v ≡ true = past (y.input == at.input) (all_have class (x ∷ []) y v) own
    (all_at (λ a. not (y.input == a.input) || all_have class (x ∷ []) y (value_at y.row a.column)) class at by_class share.2) in
    let both : (has_there v there y && list_all (has_there v there) (x ∷ [])) ≡ true = all_at (λ a. has_there v a y && list_all (has_there v a) (x ∷ [])) class there have share.3 in
    let it : has_there v there x ≡ true = all_at (has_there v there) (x ∷ []) x (and_parts (has_there v there y) (list_all (has_there v there) (x ∷ [])) both).1 (inl refl) in
    let equal : value_eq v (value_at x.row link.from_column) ≡ true = past (x.input == link.from_input) (value_eq v (value_at x.row link.from_column)) (ap (λ (n : ℕ). x.input == n) from ∙ same_number x.input) it in
    same_if_equal v (value_at x.row link.from_column) equal ∙ cell_there x.row link.from_column value has

-- a row that may join has the value that is wanted
has-wanted : (classes : List (List ClassCol)) (x : TupleAt) (input column : ℕ) (value : Value) (state : StateView) → IsWanted classes (x ∷ []) input column value → IsWide state → In column state.columns
    → (s : Stored) → In s state.rows → agrees_with classes (x ∷ []) (tuple_in input s) ≡ true → has_value column value s ≡ true
has-wanted classes x input column value state wants wide indexed s h t =
    ap (is_value value) (slice_get-get_or s.row column no_value (all-in (λ c. c < length s.row) state.columns (wide s h) column indexed))
    ∙ ap (λ (v : Value). value_eq v value) (wants (tuple_in input s) refl t)
    ∙ equal_itself value

-- what passes a test behind an image is left where what fails before does not pass
passing : {A B : Type 0} (f : A → B) (q : A → Bool) (p r : B → Bool) (xs : List A) → ((x : A) → In x xs → (q x && p (f x)) ≡ r (f x)) → filter p (map f (filter q xs)) ≡ filter r (map f xs)
passing f q p r [] same = refl
passing {A} {B} f q p r (x ∷ xs) same = go (q x) (p (f x)) refl refl (passing f q p r xs (λ y h. same y (inr h)))
  where
    rest : List B
    rest = filter r (map f xs)

    go : (a b : Bool) → q x ≡ a → p (f x) ≡ b → filter p (map f (filter q xs)) ≡ rest → filter p (map f (cond a (x ∷ filter q xs) (filter q xs))) ≡ cond (r (f x)) (f x ∷ rest) rest
    go true true e g ih = ap (λ c. cond c (f x ∷ filter p (map f (filter q xs))) (filter p (map f (filter q xs)))) g ∙ ap (λ (ys : List B). f x ∷ ys) ih ∙ ap (λ c. cond c (f x ∷ rest) rest) (sym (sym (same x (inl refl)) ∙ ap₂ (λ a b. a && b) e g))
    go true false e g ih = ap (λ c. cond c (f x ∷ filter p (map f (filter q xs))) (filter p (map f (filter q xs)))) g ∙ ih ∙ ap (λ c. cond c (f x ∷ rest) rest) (sym (sym (same x (inl refl)) ∙ ap₂ (λ a b. a && b) e g))
    go false b e g ih = ih ∙ ap (λ c. cond c (f x ∷ rest) rest) (sym (sym (same x (inl refl)) ∙ ap (λ a. a && p (f x)) e))

map-pairs : (input : ℕ) (rows : List Stored) → map (tuple_at input) (pairs rows) ≡ map (tuple_in input) rows
map-pairs input [] = refl
map-pairs input (s ∷ rows) = ap (λ (xs : List TupleAt). tuple_in input s ∷ xs) (map-pairs input rows)

below-pairs : (classes : List (List ClassCol)) (x : TupleAt) (input : ℕ) (rows : List Stored) → filter (agrees_with classes (x ∷ [])) (map (tuple_at input) (pairs (rows_below x.ticket rows))) ≡ filter (older_joins classes x) (map (tuple_in input) rows)
below-pairs classes x input rows =
    ap (filter (agrees_with classes (x ∷ []))) (map-pairs input (rows_below x.ticket rows))
    ∙ passing (tuple_in input) (is_below x.ticket) (agrees_with classes (x ∷ [])) (older_joins classes x) rows (λ s h. refl)

-- older tuples that join are found among the rows with the value that is wanted
pub candidates_hold : (classes : List (List ClassCol)) (x : TupleAt) (state : StateView) (found : List Stored) (input column : ℕ) (value : Value) → IsWide state → IsWanted classes (x ∷ []) input column value → In column state.columns
    → found ≡ rows_with column value state.rows → filter (older_joins classes x) (map (tuple_in input) found) ≡ filter (older_joins classes x) (map (tuple_in input) state.rows)
candidates_hold classes x state found input column value wide wants indexed is =
    ap (λ (rows : List Stored). filter (older_joins classes x) (map (tuple_in input) rows)) is
    ∙ passing (tuple_in input) (has_value column value) (older_joins classes x) (older_joins classes x) state.rows (λ s h. only s h (has_value column value s) refl (agrees_with classes (x ∷ []) (tuple_in input s)) refl (ltb s.ticket x.ticket))
  where
    only : (s : Stored) → In s state.rows → (a : Bool) → has_value column value s ≡ a → (b : Bool) → agrees_with classes (x ∷ []) (tuple_in input s) ≡ b → (c : Bool) → (a && (c && b)) ≡ (c && b)
    only s h true e b g c = refl
    only s h false e true g c = absurd (false≢true (sym e ∙ has-wanted classes x input column value state wants wide indexed s h g))
    only s h false e false g true = refl
    only s h false e false g false = refl

-- all with smaller tickets
pub all_hold : (classes : List (List ClassCol)) (x : TupleAt) (rows : List Stored) (found : List (ℕ × List Value)) (input : ℕ) → found ≡ pairs (rows_below x.ticket rows)
    → filter (agrees_with classes (x ∷ [])) (map (tuple_at input) found) ≡ filter (older_joins classes x) (map (tuple_in input) rows)
all_hold classes x rows found input is =
    ap (λ (rs : List (ℕ × List Value)). filter (agrees_with classes (x ∷ [])) (map (tuple_at input) rs)) is ∙ below-pairs classes x input rows
