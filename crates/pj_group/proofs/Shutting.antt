-- A table at a punctuation.
use Rattle.std.proofs.Common.{ℕ, ◌+◌, ◌<◌, Bool, true, false, cond, not, ◌&&◌, ◌||◌, List, [], ◌∷◌, ◌++◌, Option, Some, None, ◌≡◌, map, filter, length, take, get_or, refl, sym, ap, ap₂, ◌∙◌, arith, append_assoc}
use Rattle.std.specs.List.{list_any, slice_get}
use Rattle.std.proofs.lemmas.List.{map-append, take_more}
use Rattle.std.proofs.lemmas.List.Elements.{filter-append}
use Rattle.std.proofs.lemmas.Option.{get_or_from_slice_get, slice_get-get_or, slice_get_within}
use Rattle.pj_value.specs.declared.values.Value.{Value}
use Rattle.pj_value.specs.Values.{row_eq}
use Rattle.pj_value.proofs.Members.{In-filter, filter-agree, filter-filter, map-same}
use Rattle.pj_value.proofs.Orders.{row_same_if_equal}
use Rattle.pj_pattern.specs.declared.element.Element.{Element}
use Rattle.pj_pattern.specs.declared.element.Element.TheVariants.{Tuple, Punct}
use Rattle.pj_pattern.specs.Columns.{others_wild, picked_patterns}
use Rattle.pj_events.specs.Patterns.{Pattern, all_wild, matches_row}
use Rattle.pj_events.specs.Operators.{Agg, Count, Sum, Min, Max, GroupSpec, aggregate, group_after, group_hands, group_row, group_rows, keys_from}
use Rattle.pj_group.specs.Tables.{GroupView, StandsFor}
use Rattle.pj_events.specs.Tables.{GroupEntry, kept_for, rows_of_table, rows_with_key, table_of, tally, value_of, Tally}
use Rattle.pj_group.specs.Slots.{GroupSlot, open_groups, with_open}
use Rattle.pj_group.specs.Steps.{closed_at, closed_rows, row_tuple, table_after, table_hands}
use Rattle.pj_events.proofs.Keys.{key_of}

value_same : (rows : List (List Value)) (agg : Agg) → value_of (tally rows agg) ≡ aggregate rows agg
value_same rows Count = refl
value_same rows (Sum column) = refl
value_same rows (Min column) = refl
value_same rows (Max column) = refl

values_same : (rows : List (List Value)) (aggs : List Agg) → map value_of (map (tally rows) aggs) ≡ map (aggregate rows) aggs
values_same rows [] = refl
values_same rows (agg ∷ aggs) = ap₂ (λ (v : Value) (vs : List Value). v ∷ vs) (value_same rows agg) (values_same rows aggs)

rows_from : (spec : GroupSpec) (rows keys : List (List Value)) → rows_of_table (map (kept_for spec rows) keys) ≡ map (group_row spec rows) keys
rows_from spec rows [] = refl
rows_from spec rows (key ∷ keys) = ap₂ (λ (r : List Value) (rs : List (List Value)). r ∷ rs) (ap (λ (vs : List Value). key ++ vs) (values_same (rows_with_key spec rows key) spec.aggs)) (rows_from spec rows keys)

-- the rows of a table are those of its groups
pub rows_same : (spec : GroupSpec) (rows : List (List Value)) → rows_of_table (table_of spec rows) ≡ group_rows spec rows
rows_same spec rows = rows_from spec rows (keys_from [] spec rows)

-- ---- rows whose keys pass a test

any_filter : (p : List Value → Bool) (key : List Value) (seen : List (List Value)) → p key ≡ true → list_any (row_eq key) (filter p seen) ≡ list_any (row_eq key) seen
any_filter p key [] t = refl
any_filter p key (k ∷ seen) t = go (p k) refl (row_eq key k) refl (any_filter p key seen t)
  where
    has : List (List Value) → Bool
    has ks = list_any (row_eq key) ks

    go : (a : Bool) → p k ≡ a → (b : Bool) → row_eq key k ≡ b → has (filter p seen) ≡ has seen → has (cond a (k ∷ filter p seen) (filter p seen)) ≡ (b || has seen)
    go true q true r ih = ap (λ (c : Bool). c || has (filter p seen)) r
    go true q false r ih = ap (λ (c : Bool). c || has (filter p seen)) r ∙ ih
    go false q true r ih = let same : key ≡ k = row_same_if_equal key k r in let e : p key ≡ p k = ap p same in absurd (cc)
    go false q false r ih = ih

keys_filter : (p : List Value → Bool) (seen : List (List Value)) (spec : GroupSpec) (rows : List (List Value))
    → keys_from (filter p seen) spec (filter (λ row. p (key_of spec row)) rows) ≡ filter p (keys_from seen spec rows)
keys_filter p seen spec [] = refl
keys_filter p seen spec (x ∷ rows) =
    go (p key) refl (list_any (row_eq key) seen) refl (keys_filter p seen spec rows) (keys_filter p (key ∷ seen) spec rows)
  where
    key : List Value
    key = key_of spec x

    R : List (List Value)
    R = filter (λ row. p (key_of spec row)) rows

    here : List (List Value)
    here = keys_from seen spec rows

    behind : List (List Value)
    behind = keys_from (key ∷ seen) spec rows

    go : (a : Bool) → p key ≡ a → (b : Bool) → list_any (row_eq key) seen ≡ b → keys_from (filter p seen) spec R ≡ filter p here
        → keys_from (cond a (key ∷ filter p seen) (filter p seen)) spec R ≡ filter p behind
        → keys_from (filter p seen) spec (cond a (x ∷ R) R) ≡ filter p (cond b here (key ∷ behind))
    go true q true s e f = ap (λ (c : Bool). cond c (keys_from (filter p seen) spec R) (key ∷ keys_from (key ∷ filter p seen) spec R)) (any_filter p key seen q ∙ s) ∙ e
    go true q false s e f =
        ap (λ (c : Bool). cond c (keys_from (filter p seen) spec R) (key ∷ keys_from (key ∷ filter p seen) spec R)) (any_filter p key seen q ∙ s)
        ∙ (ap (λ (ks : List (List Value)). key ∷ ks) f ∙ ap (λ (c : Bool). cond c (key ∷ filter p behind) (filter p behind)) (sym q))
    go false q true s e f = e
    go false q false s e f = f ∙ ap (λ (c : Bool). cond c (key ∷ filter p behind) (filter p behind)) (sym q)

both : (a b : Bool) → (b ≡ true → a ≡ true) → (a && b) ≡ b
both true b f = refl
both false true f = f refl
both false false f = refl

-- the entry of a key that passes
kept_filter : (p : List Value → Bool) (spec : GroupSpec) (rows : List (List Value)) (key : List Value) → p key ≡ true → kept_for spec (filter (λ row. p (key_of spec row)) rows) key ≡ kept_for spec rows key
kept_filter p spec rows key t =
    ap (λ (rs : List (List Value)). (key, map (tally rs) spec.aggs))
    (filter-filter (λ row. p (key_of spec row)) (λ row. row_eq key (key_of spec row)) rows
    ∙ filter-agree (λ row. p (key_of spec row) && row_eq key (key_of spec row)) (λ row. row_eq key (key_of spec row)) rows
    (λ row m. both (p (key_of spec row)) (row_eq key (key_of spec row)) (λ e. ap p (sym (row_same_if_equal key (key_of spec row) e)) ∙ t)))

filter_kept : (p : List Value → Bool) (f : List Value → GroupEntry) (keys : List (List Value)) → ((k : List Value) → (f k).0 ≡ k) → filter (λ e. p e.0) (map f keys) ≡ map f (filter p keys)
filter_kept p f [] same = refl
filter_kept p f (k ∷ keys) same = go (p k) (p (f k).0) (ap p (same k)) (filter_kept p f keys same)
  where
    go : (a b : Bool) → b ≡ a → filter (λ (e : GroupEntry). p e.0) (map f keys) ≡ map f (filter p keys)
        → cond b (f k ∷ filter (λ (e : GroupEntry). p e.0) (map f keys)) (filter (λ (e : GroupEntry). p e.0) (map f keys)) ≡ map f (cond a (k ∷ filter p keys) (filter p keys))
    go true b q ih = ap (λ (c : Bool). cond c (f k ∷ filter (λ (e : GroupEntry). p e.0) (map f keys)) (filter (λ (e : GroupEntry). p e.0) (map f keys))) q ∙ ap (λ (es : List GroupEntry). f k ∷ es) ih
    go false b q ih = ap (λ (c : Bool). cond c (f k ∷ filter (λ (e : GroupEntry). p e.0) (map f keys)) (filter (λ (e : GroupEntry). p e.0) (map f keys))) q ∙ ih

pub table_filter : (p : List Value → Bool) (spec : GroupSpec) (rows : List (List Value)) → filter (λ e. p e.0) (table_of spec rows) ≡ table_of spec (filter (λ row. p (key_of spec row)) rows)
table_filter p spec rows =
    filter_kept p (kept_for spec rows) (keys_from [] spec rows) (λ k. refl)
    ∙ (sym (map-same (kept_for spec (filter (λ row. p (key_of spec row)) rows)) (kept_for spec rows) (filter p (keys_from [] spec rows)) (λ k h. kept_filter p spec rows k (In-filter p k (keys_from [] spec rows) h).1))
    ∙ ap (map (kept_for spec (filter (λ row. p (key_of spec row)) rows))) (sym (keys_filter p [] spec rows)))

-- ---- at a punctuation

tuples_same : (table : List GroupEntry) → map row_tuple table ≡ map Tuple (rows_of_table table)
tuples_same [] = refl
tuples_same (e ∷ table) = ap (λ (xs : List Element). row_tuple e ∷ xs) (tuples_same table)

pub after_is : (spec : GroupSpec) (patterns : List Pattern) (rows : List (List Value)) (table new : List GroupEntry) → new ≡ table_after spec table patterns → table ≡ table_of spec rows → new ≡ table_of spec (group_after spec rows (Punct patterns))
after_is spec patterns rows table new n e = n ∙ (ap (λ (es : List GroupEntry). table_after spec es patterns) e ∙ go (others_wild spec.keys 0 patterns))
  where
    p : List Value → Bool
    p key = not (matches_row (picked_patterns spec.keys patterns) key)

    go : (b : Bool) → cond b (filter (λ (e : GroupEntry). p e.0) (table_of spec rows)) (table_of spec rows) ≡ table_of spec (cond b (filter (λ (row : List Value). p (key_of spec row)) rows) rows)
    go true = table_filter p spec rows
    go false = refl

pub hands_is : (spec : GroupSpec) (patterns : List Pattern) (rows : List (List Value)) (table : List GroupEntry) (old new : List Element) → new ≡ old ++ table_hands spec table patterns → table ≡ table_of spec rows
    → new ≡ old ++ group_hands spec rows (Punct patterns)
hands_is spec patterns rows table old new n e = n ∙ ap (λ (es : List Element). old ++ es) (ap (λ (es : List GroupEntry). table_hands spec es patterns) e ∙ go (others_wild spec.keys 0 patterns))
  where
    kept : List Pattern
    kept = picked_patterns spec.keys patterns

    last : List Element
    last = Punct (kept ++ all_wild (length spec.aggs)) ∷ []

    go : (b : Bool) → cond b (closed_rows kept (table_of spec rows) ++ last) [] ≡ cond b (map Tuple (group_rows spec (filter (λ (row : List Value). matches_row kept (key_of spec row)) rows)) ++ last) []
    go true =
        ap (λ (xs : List Element). xs ++ last) (tuples_same (filter (λ (e : GroupEntry). matches_row kept e.0) (table_of spec rows)))
        ∙ ap (λ (rs : List (List Value)). map Tuple rs ++ last) (ap rows_of_table (table_filter (matches_row kept) spec rows) ∙ rows_same spec (filter (λ row. matches_row kept (key_of spec row)) rows))
    go false = refl

-- the same, where the group is seen from outside
pub punct_keeps : (g : GroupView) (spec : GroupSpec) (limit count : ℕ) (slots new : List GroupSlot) (patterns : List Pattern) → record { spec = spec; limit = limit; count = count; table = open_groups slots } ≡ g
    → open_groups new ≡ table_after spec (open_groups slots) patterns
    → (rows : List (List Value)) → StandsFor g rows → open_groups new ≡ table_of spec (group_after g.spec rows (Punct patterns))
punct_keeps g spec limit count slots new patterns view n rows e =
    after_is g.spec patterns rows g.table (open_groups new) (n ∙ ap (λ (v : GroupView). table_after v.spec v.table patterns) view) e
    ∙ ap (λ (v : GroupView). table_of v.spec (group_after g.spec rows (Punct patterns))) (sym view)

pub punct_hands : (g : GroupView) (spec : GroupSpec) (limit count : ℕ) (slots : List GroupSlot) (old new : List Element) (patterns : List Pattern) → record { spec = spec; limit = limit; count = count; table = open_groups slots } ≡ g
    → new ≡ old ++ table_hands spec (open_groups slots) patterns → (rows : List (List Value)) → StandsFor g rows → new ≡ old ++ group_hands g.spec rows (Punct patterns)
punct_hands g spec limit count slots old new patterns view n rows e = hands_is g.spec patterns rows g.table old new (n ∙ ap (λ (v : GroupView). old ++ table_hands v.spec v.table patterns) view) e

-- ---- the rows that are handed out

open_append : (xs ys : List GroupSlot) → open_groups (xs ++ ys) ≡ open_groups xs ++ open_groups ys
open_append [] ys = refl
open_append (x ∷ xs) ys = go x.1 (open_append xs ys)
  where
    go : (o : Option (List Tally)) → open_groups (xs ++ ys) ≡ open_groups xs ++ open_groups ys → with_open x.0 o (open_groups (xs ++ ys)) ≡ with_open x.0 o (open_groups xs) ++ open_groups ys
    go None ih = ih
    go (Some ts) ih = ap (λ (es : List GroupEntry). (x.0, ts) ∷ es) ih

pub closed_append : (patterns : List Pattern) (xs ys : List GroupSlot) → closed_rows patterns (open_groups (xs ++ ys)) ≡ closed_rows patterns (open_groups xs) ++ closed_rows patterns (open_groups ys)
closed_append patterns xs ys =
    ap (closed_rows patterns) (open_append xs ys)
    ∙ ap (map row_tuple) (filter-append (λ (k : GroupEntry). matches_row patterns k.0) (open_groups xs) (open_groups ys))
    ∙ map-append row_tuple (filter (λ (k : GroupEntry). matches_row patterns k.0) (open_groups xs)) (filter (λ (k : GroupEntry). matches_row patterns k.0) (open_groups ys))

closed_more : (patterns : List Pattern) (slots : List GroupSlot) (at : ℕ) → at < length slots → closed_rows patterns (open_groups (take (at + 1) slots)) ≡ closed_rows patterns (open_groups (take at slots)) ++ closed_at patterns (slice_get slots at)
closed_more patterns [] at lt = absurd (omega arith)
closed_more patterns (e ∷ slots) at lt =
    ap (λ (ss : List GroupSlot). closed_rows patterns (open_groups ss)) (take_more (e ∷ slots) at e lt)
    ∙ closed_append patterns (take at (e ∷ slots)) (get_or (e ∷ slots) at e ∷ [])
    ∙ ap (λ (o : Option GroupSlot). closed_rows patterns (open_groups (take at (e ∷ slots))) ++ closed_at patterns o) (sym (slice_get-get_or (e ∷ slots) at e lt))

pub rows_so_far : (patterns : List Pattern) (slots : List GroupSlot) (at : ℕ) (first old new : List Element) → at < length slots → old ≡ first ++ closed_rows patterns (open_groups (take at slots)) → new ≡ old ++ closed_at patterns (slice_get slots at)
    → new ≡ first ++ closed_rows patterns (open_groups (take (at + 1) slots))
rows_so_far patterns slots at first old new lt o n =
    n ∙ (ap (λ (es : List Element). es ++ closed_at patterns (slice_get slots at)) o
    ∙ (append_assoc first (closed_rows patterns (open_groups (take at slots))) (closed_at patterns (slice_get slots at)) ∙ ap (λ (es : List Element). first ++ es) (sym (closed_more patterns slots at lt))))

-- one cell more of a row
pub cells_so_far : (row : List Value) (at : ℕ) (v w : Value) (first old new : List Value) → slice_get row at ≡ Some v → w ≡ v → old ≡ first ++ take at row → new ≡ old ++ w ∷ [] → new ≡ first ++ take (at + 1) row
cells_so_far row at v w first old new e s o n =
    n ∙ (ap₂ (λ (vs : List Value) (u : Value). vs ++ u ∷ []) o (s ∙ sym (get_or_from_slice_get row at v v e))
    ∙ (append_assoc first (take at row) (get_or row at v ∷ []) ∙ ap (λ (vs : List Value). first ++ vs) (sym (take_more row at v (slice_get_within row at v e)))))
