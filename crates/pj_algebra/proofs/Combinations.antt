-- Combinations that begin with some rows, and the classes in which rows agree.
use Rattle.std.proofs.Common.{ℕ, zero, suc, ◌+◌, ◌<◌, ◌≤◌, Bool, true, false, cond, ◌&&◌, ◌==◌, List, [], ◌∷◌, ◌++◌, Option, Some, ◌≡◌, ◌⊎◌, inl, inr, map, filter, flat_map, length, take, get_or, refl, sym, ap, ap₂, ◌∙◌, subst, arith, append_assoc, append-nil, length-append}
use Rattle.std.specs.List.{list_all, slice_get}
use Rattle.std.proofs.lemmas.Bool.{eq-eqb, eqb-true, false≢true, false_from_ne_true}
use Rattle.std.proofs.lemmas.Grind.{flat_map-append}
use Rattle.std.proofs.Math.Seq.{take-append_seam}
use Rattle.std.proofs.lemmas.List.{flat_map_more, take_more}
use Rattle.std.proofs.lemmas.Option.{slice_get_read}
use Rattle.std.proofs.lemmas.List.Folds.{list_all-append}
use Rattle.pj_value.specs.declared.values.Value.{Value}
use Rattle.pj_value.specs.Lists.{In}
use Rattle.pj_value.specs.Values.{value_eq}
use Rattle.pj_value.proofs.Members.{In-append_left, In-flat_map, In-flat_map_from}
use Rattle.pj_shape.specs.declared.joins.ClassCol.{ClassCol}
use Rattle.pj_shape.specs.Lists.{product}
use Rattle.pj_shape.specs.Joining.{Part, all_equal, cell_value, join_answer, joined_row, joins, parts_from, parts_on, value_at, values, values_in}
use Rattle.pj_shape.proofs.CellValues.{cell_read}
use Rattle.pj_shape.proofs.Joining.{joins-at, joins-from}
use Rattle.pj_algebra.specs.Evaluating.{agrees_at, completions, equals_all, equals_at}

-- ---- classes

all_flat : {A B : Type 0} (p : B → Bool) (f : A → List B) (xs : List A) → list_all p (flat_map f xs) ≡ list_all (λ x. list_all p (f x)) xs
all_flat p f [] = refl
all_flat p f (x ∷ xs) = list_all-append p (f x) (flat_map f xs) ∙ ap (λ b. list_all p (f x) && b) (all_flat p f xs)

pub agree_each : (parts : List Part) (class : List ClassCol) → all_equal (values parts class) ≡ list_all (agrees_at parts class) class
agree_each parts class = all_flat (equals_all (values parts class)) (values_in parts) class

pub equals_each : (parts : List Part) (class : List ClassCol) (v : Value) → equals_all (values parts class) v ≡ list_all (equals_at parts v) class
equals_each parts class v = all_flat (value_eq v) (values_in parts) class

-- ---- the value that rows have in a column

-- rows of other inputs have no value in the column
others_none : (k : ℕ) (rows : List (List Value)) (at : ClassCol) → (at.input < k) ⊎ (k + length rows ≤ at.input) → values_in (parts_on k rows) at ≡ []
others_none k [] at h = refl
others_none k (row ∷ rows) at h = go (k == at.input) refl (others_none (k + 1) rows at (elim h [ inl lt ↦ inl (omega (arith, lt)) | inr le ↦ inr (omega (arith, le)) ]))
  where
    go : (b : Bool) → (k == at.input) ≡ b → values_in (parts_on (k + 1) rows) at ≡ [] → cond b (value_at row at.column ∷ []) [] ++ values_in (parts_on (k + 1) rows) at ≡ []
    go true e ih = let none : ⊥ = elim h [ inl lt ↦ omega (arith, eqb-true k at.input e, lt) | inr le ↦ omega (arith, eqb-true k at.input e, le) ] in absurd none
    go false e ih = ih

at_row : (k i : ℕ) (rows : List (List Value)) (at : ClassCol) (row : List Value) → at.input ≡ k + i → slice_get rows i ≡ Some row → values_in (parts_on k rows) at ≡ value_at row at.column ∷ []
at_row k i [] at row e s = absurd (cc)
at_row k zero (r ∷ rows) at row e s =
    let first : (k == at.input) ≡ true = eq-eqb k at.input (omega (arith, e)) in
    let same : r ≡ row = cc in
    ap (λ (b : Bool). cond b (value_at r at.column ∷ []) [] ++ values_in (parts_on (k + 1) rows) at) first
    ∙ (ap (λ (vs : List Value). value_at r at.column ∷ vs) (others_none (k + 1) rows at (inl (omega (arith, e)))) ∙ ap (λ (r' : List Value). value_at r' at.column ∷ []) same)
at_row k (suc i) (r ∷ rows) at row e s = go (k == at.input) refl (at_row (k + 1) i rows at row (omega (arith, e)) s)
  where
    go : (b : Bool) → (k == at.input) ≡ b → values_in (parts_on (k + 1) rows) at ≡ value_at row at.column ∷ [] → cond b (value_at r at.column ∷ []) [] ++ values_in (parts_on (k + 1) rows) at ≡ value_at row at.column ∷ []
    go true t ih = absurd (omega (arith, eqb-true k at.input t, e))
    go false t ih = ih

and_end : (b : Bool) → (b && true) ≡ b
and_end true = refl
and_end false = refl

-- a test of all values that rows have in a column is one of the cell, where there is a row for it
test_here : (p : Value → Bool) (rows : List (List Value)) (at : ClassCol) (row : List Value) (cell : Option Value)
    → at.input < length rows → row ≡ get_or rows at.input row → cell ≡ slice_get row at.column → list_all p (values_in (parts_on 0 rows) at) ≡ p (cell_value cell)
test_here p rows at row cell lt is c =
    ap (list_all p) (at_row 0 at.input rows at row (omega arith) (slice_get_read rows (length rows) at.input row refl lt is)) ∙ (and_end (p (value_at row at.column)) ∙ ap p (sym (cell_read row at.column cell c)))

test_none : (p : Value → Bool) (rows : List (List Value)) (at : ClassCol) → length rows ≤ at.input → list_all p (values_in (parts_on 0 rows) at) ≡ true
test_none p rows at s = ap (list_all p) (others_none 0 rows at (inr (omega (arith, s))))

pub no_row_agrees : (rows : List (List Value)) (class : List ClassCol) (at : ClassCol) → length rows ≤ at.input → agrees_at (parts_on 0 rows) class at ≡ true
no_row_agrees rows class at s = test_none (equals_all (values (parts_on 0 rows) class)) rows at s

pub row_agrees : (rows : List (List Value)) (class : List ClassCol) (at : ClassCol) (row : List Value) (cell : Option Value) → at.input < length rows → row ≡ get_or rows at.input row → cell ≡ slice_get row at.column
    → agrees_at (parts_on 0 rows) class at ≡ equals_all (values (parts_on 0 rows) class) (cell_value cell)
row_agrees rows class at row cell lt is c = test_here (equals_all (values (parts_on 0 rows) class)) rows at row cell lt is c

pub no_row_equals : (rows : List (List Value)) (v : Value) (at : ClassCol) → length rows ≤ at.input → equals_at (parts_on 0 rows) v at ≡ true
no_row_equals rows v at s = test_none (value_eq v) rows at s

pub row_equals : (rows : List (List Value)) (v : Value) (at : ClassCol) (row : List Value) (cell : Option Value) → at.input < length rows → row ≡ get_or rows at.input row → cell ≡ slice_get row at.column
    → equals_at (parts_on 0 rows) v at ≡ value_eq v (cell_value cell)
row_equals rows v at row cell lt is c = test_here (value_eq v) rows at row cell lt is c

-- ---- rows that do not join

abbrev part : ℕ → List Value → Part
part input row = record { input = input; row = row }

parts_more : (k : ℕ) (rows : List (List Value)) (row : List Value) → parts_on k (rows ++ row ∷ []) ≡ parts_on k rows ++ part (k + length rows) row ∷ []
parts_more k [] row = let n : k ≡ k + 0 = omega arith in ap (λ (i : ℕ). part i row ∷ []) n
parts_more k (r ∷ rows) row =
    let n : k + 1 + length rows ≡ k + suc (length rows) = omega arith in
    ap (λ (ps : List Part). part k r ∷ ps) (parts_more (k + 1) rows row ∙ ap (λ (i : ℕ). parts_on (k + 1) rows ++ part i row ∷ []) n)

values_more : (class : List ClassCol) (ps qs : List Part) (v : Value) → In v (values ps class) → In v (values (ps ++ qs) class)
values_more class ps qs v h =
    let found = In-flat_map (values_in ps) v class h in
    let both : values_in (ps ++ qs) found.0 ≡ values_in ps found.0 ++ values_in qs found.0 =
    flat_map-append (λ (p : Part). cond (p.input == found.0.input) (value_at p.row found.0.column ∷ []) []) ps qs in
    In-flat_map_from (values_in (ps ++ qs)) v found.0 class found.1 (subst (λ (vs : List Value). In v vs) (sym both) (In-append_left v (values_in ps found.0) (values_in qs found.0) found.2))

joins_less : (classes : List (List ClassCol)) (ps qs : List Part) → joins classes (ps ++ qs) ≡ true → joins classes ps ≡ true
joins_less classes ps qs t = joins-from classes ps (λ class h v w hv hw. joins-at classes (ps ++ qs) t class h v w (values_more class ps qs v hv) (values_more class ps qs w hw))

none_more : (classes : List (List ClassCol)) (rows : List (List Value)) (row : List Value) → joins classes (parts_on 0 rows) ≡ false → joins classes (parts_on 0 (rows ++ row ∷ [])) ≡ false
none_more classes rows row e =
    false_from_ne_true (joins classes (parts_on 0 (rows ++ row ∷ [])))
    (λ t. false≢true (sym e ∙ joins_less classes (parts_on 0 rows) (part (0 + length rows) row ∷ []) (subst (λ (ps : List Part). joins classes ps ≡ true) (parts_more 0 rows row) t)))

flat_none : {A B : Type 0} (f : A → List B) (xs : List A) → ((x : A) → f x ≡ []) → flat_map f xs ≡ []
flat_none f [] h = refl
flat_none {A} {B} f (x ∷ xs) h = ap₂ (λ (ys zs : List B). ys ++ zs) (h x) (flat_none f xs h)

pub none_completed : (classes : List (List ClassCol)) (rows : List (List Value)) (lists : List (List (List Value))) → joins classes (parts_on 0 rows) ≡ false → completions classes rows lists ≡ []
none_completed classes rows [] e = ap (λ (b : Bool). cond b (joined_row (parts_on 0 rows) ∷ []) []) e
none_completed classes rows (list ∷ lists) e = flat_none (λ row. completions classes (rows ++ row ∷ []) lists) list (λ row. none_completed classes (rows ++ row ∷ []) lists (none_more classes rows row e))

-- ---- all combinations

-- those of these that join behind a front, with the front, end to end
abbrev kept : List (List ClassCol) → List Part → List (List Part) → List (List Value)
kept classes front [] = []
kept classes front (c ∷ cs) = cond (joins classes (front ++ c)) (joined_row (front ++ c) ∷ kept classes front cs) (kept classes front cs)

kept_all : (classes : List (List ClassCol)) (cs : List (List Part)) → map joined_row (filter (joins classes) cs) ≡ kept classes [] cs
kept_all classes [] = refl
kept_all classes (c ∷ cs) = go (joins classes c) (kept_all classes cs)
  where
    go : (b : Bool) → map joined_row (filter (joins classes) cs) ≡ kept classes [] cs
        → map joined_row (cond b (c ∷ filter (joins classes) cs) (filter (joins classes) cs)) ≡ cond b (joined_row c ∷ kept classes [] cs) (kept classes [] cs)
    go true ih = ap (λ (rows : List (List Value)). joined_row c ∷ rows) ih
    go false ih = ih

kept_both : (classes : List (List ClassCol)) (front : List Part) (cs ds : List (List Part)) → kept classes front (cs ++ ds) ≡ kept classes front cs ++ kept classes front ds
kept_both classes front [] ds = refl
kept_both classes front (c ∷ cs) ds = go (joins classes (front ++ c)) (kept_both classes front cs ds)
  where
    row : List Value
    row = joined_row (front ++ c)

    go : (b : Bool) → kept classes front (cs ++ ds) ≡ kept classes front cs ++ kept classes front ds
        → cond b (row ∷ kept classes front (cs ++ ds)) (kept classes front (cs ++ ds)) ≡ cond b (row ∷ kept classes front cs) (kept classes front cs) ++ kept classes front ds
    go true ih = ap (λ (rows : List (List Value)). row ∷ rows) ih
    go false ih = ih

kept_behind : (classes : List (List ClassCol)) (front : List Part) (p : Part) (cs : List (List Part)) → kept classes front (map (λ c. p ∷ c) cs) ≡ kept classes (front ++ p ∷ []) cs
kept_behind classes front p [] = refl
kept_behind classes front p (c ∷ cs) =
    ap₂ (λ (ps : List Part) (rows : List (List Value)). cond (joins classes ps) (joined_row ps ∷ rows) rows) (sym (append_assoc front (p ∷ []) c)) (kept_behind classes front p cs)

completed : (classes : List (List ClassCol)) (rows : List (List Value)) (lists : List (List (List Value))) → completions classes rows lists ≡ kept classes (parts_on 0 rows) (product (parts_from (length rows) lists))
completed classes rows [] =
    ap (λ (ps : List Part). cond (joins classes ps) (joined_row ps ∷ []) []) (sym (append-nil (parts_on 0 rows)))
completed classes rows (list ∷ lists) = each list (λ row. completed classes (rows ++ row ∷ []) lists)
  where
    rest : List (List Part)
    rest = product (parts_from (length rows + 1) lists)

    one : (row : List Value) → completions classes (rows ++ row ∷ []) lists ≡ kept classes (parts_on 0 (rows ++ row ∷ [])) (product (parts_from (length (rows ++ row ∷ [])) lists))
        → completions classes (rows ++ row ∷ []) lists ≡ kept classes (parts_on 0 rows) (map (λ c. part (length rows) row ∷ c) rest)
    one row ih =
        let longer : length (rows ++ row ∷ []) ≡ length rows + 1 = length-append rows (row ∷ []) in
        let here : 0 + length rows ≡ length rows = omega arith in
        ih ∙ (ap₂ (λ (ps : List Part) (n : ℕ). kept classes ps (product (parts_from n lists))) (parts_more 0 rows row ∙ ap (λ (n : ℕ). parts_on 0 rows ++ part n row ∷ []) here) longer
        ∙ sym (kept_behind classes (parts_on 0 rows) (part (length rows) row) rest))

    each : (xs : List (List Value))
        → ((row : List Value) → completions classes (rows ++ row ∷ []) lists ≡ kept classes (parts_on 0 (rows ++ row ∷ [])) (product (parts_from (length (rows ++ row ∷ [])) lists)))
        → flat_map (λ row. completions classes (rows ++ row ∷ []) lists) xs ≡ kept classes (parts_on 0 rows) (flat_map (λ p. map (λ c. p ∷ c) rest) (map (part (length rows)) xs))
    each [] ih = refl
    each (x ∷ xs) ih =
        ap₂ (λ (rs ss : List (List Value)). rs ++ ss) (one x (ih x)) (each xs ih)
        ∙ sym (kept_both classes (parts_on 0 rows) (map (λ c. part (length rows) x ∷ c) rest) (flat_map (λ p. map (λ c. p ∷ c) rest) (map (part (length rows)) xs)))

pub all_completed : (classes : List (List ClassCol)) (lists : List (List (List Value))) → join_answer classes lists ≡ completions classes [] lists
all_completed classes lists = kept_all classes (product (parts_from 0 lists)) ∙ sym (completed classes [] lists)

-- ---- one row after another

-- the combinations that begin with these rows and one more
abbrev pub grown : List (List ClassCol) → List (List Value) → List (List (List Value)) → List Value → List (List Value)
grown classes rows lists row = completions classes (rows ++ row ∷ []) lists

up_to : {A : Type 0} (xs : List A) (i : ℕ) (x : A) → i < length xs → x ≡ get_or xs i x → take i xs ++ x ∷ [] ≡ take (i + 1) xs
up_to {A} xs i x lt at = ap (λ (y : A). take i xs ++ y ∷ []) at ∙ sym (take_more xs i x lt)

pub row_completed : (classes : List (List ClassCol)) (rows : List (List Value)) (lists : List (List (List Value))) (items out before now : List (List Value)) (i : ℕ) (row : List Value) → i < length items → row ≡ get_or items i row
    → before ≡ out ++ flat_map (grown classes rows lists) (take i items) → now ≡ before ++ grown classes rows lists row → now ≡ out ++ flat_map (grown classes rows lists) (take (i + 1) items)
row_completed classes rows lists items out before now i row lt at b n =
    n ∙ (ap (λ (bs : List (List Value)). bs ++ grown classes rows lists row) b
    ∙ (flat_map_more (grown classes rows lists) out (take i items) row ∙ ap (λ (xs : List (List Value)). out ++ flat_map (grown classes rows lists) xs) (up_to items i row lt at)))

pub rows_again : (rows pushed new : List (List Value)) (row : List Value) (count : ℕ) → count ≡ length rows → pushed ≡ rows ++ row ∷ [] → new ≡ take count pushed → new ≡ rows
rows_again rows pushed new row count c p n = n ∙ (ap₂ (λ (k : ℕ) (rs : List (List Value)). take k rs) c p ∙ take-append_seam rows (row ∷ []))

pub none_follow : (classes : List (List ClassCol)) (rows : List (List Value)) (lists : List (List (List Value))) (out : List (List Value)) → joins classes (parts_on 0 rows) ≡ false → out ≡ out ++ completions classes rows lists
none_follow classes rows lists out e = sym (ap (λ (rs : List (List Value)). out ++ rs) (none_completed classes rows lists e) ∙ append-nil out)

-- ---- rows end to end

joined_more : (rows : List (List Value)) (row : List Value) → joined_row (parts_on 0 (rows ++ row ∷ [])) ≡ joined_row (parts_on 0 rows) ++ row
joined_more rows row =
    ap joined_row (parts_more 0 rows row)
    ∙ (flat_map-append (λ (p : Part). p.row) (parts_on 0 rows) (part (0 + length rows) row ∷ []) ∙ ap (λ (vs : List Value). joined_row (parts_on 0 rows) ++ vs) (append-nil row))

pub row_joined : (rows : List (List Value)) (i : ℕ) (row parts new : List Value) → i < length rows → row ≡ get_or rows i row → parts ≡ joined_row (parts_on 0 (take i rows)) → new ≡ parts ++ row
    → new ≡ joined_row (parts_on 0 (take (i + 1) rows))
row_joined rows i row parts new lt at p n =
    n ∙ (ap (λ (vs : List Value). vs ++ row) p ∙ (sym (joined_more (take i rows) row) ∙ ap (λ (rs : List (List Value)). joined_row (parts_on 0 rs)) (up_to rows i row lt at)))
