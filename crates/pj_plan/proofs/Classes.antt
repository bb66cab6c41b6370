-- The classes of a join without fault are sound.
use Rattle.std.proofs.Common.{ℕ, suc, ◌+◌, ◌<◌, ◌≤◌, ◌≡◌, ◌⊎◌, length, get_or, arith, Bool, true, false, cond, List, [], ◌∷◌, ◌++◌, Some, map, filter, flat_map, slice_get, refl, sym, ap, ◌∙◌, subst, inl, inr, append_assoc, length-append}
use Rattle.std.specs.List.{list_any}
use Rattle.std.proofs.lemmas.Bool.{or_parts, and_cases, false≢true, false_from_ne_true, ltb-false}
use Rattle.std.proofs.lemmas.List.{length-map, map-append}
use Rattle.std.proofs.lemmas.List.Elements.{filter-append}
use Rattle.std.proofs.lemmas.Option.{get_or_from_slice_get}
use Rattle.pj_value.specs.Lists.{In}
use Rattle.pj_value.specs.declared.values.Kind.{Kind}
use Rattle.pj_value.specs.declared.values.Kind.TheVariants.{Int, Text}
use Rattle.pj_value.proofs.Members.{In-append_cases, In-map, In-filter, In-filter_from, In-flat_map_from, none_at, in_at}
use Rattle.pj_shape.specs.declared.columns.Column.{Column}
use Rattle.pj_shape.specs.declared.joins.ClassCol.{ClassCol}
use Rattle.pj_shape.specs.Sound.{IsOfKind, AreOfOtherInputs, IsSoundClass, AreApart}
use Rattle.pj_plan.specs.Words.{is_among}
use Rattle.pj_plan.specs.Made.{column_kind, class_in, class_from, class_of}
use Rattle.pj_plan.specs.Canonical.{no_column, column_name, class_word, class_words}
use Rattle.pj_plan.specs.Faults.{has_column, kind_eq, is_of, has_two_kinds, has_two_of, has_one_input_twice}
use Rattle.pj_plan.specs.Sound.{AreDistinct, name_of}
use Rattle.pj_plan.proofs.Lists.{among_in, in_among, distinct_left, distinct_right, distinct_between}
use Rattle.pj_plan.proofs.ByName.{has_among, kind_of_column}

-- the columns of these schemas, end to end
abbrev pub joined : List (List Column) → List Column
joined schemas = flat_map (λ schema. schema) schemas

-- ---- lists

pub distinct_filter : {A : Type 0} (p : A → Bool) (xs : List A) → AreDistinct xs → AreDistinct (filter p xs)
distinct_filter p [] d = tt
distinct_filter {A} p (x ∷ xs) d = go (p x) (distinct_filter p xs d.1)
  where
    go : (b : Bool) → AreDistinct (filter p xs) → AreDistinct (cond b (x ∷ filter p xs) (filter p xs))
    go true ih = ((λ h. d.0 (In-filter p x xs h).0), ih)
    go false ih = ih

one_at_most : {A : Type 0} (xs : List A) (x y : A) → length xs ≤ 1 → In x xs → In y xs → x ≡ y
one_at_most [] x y few h k = absurd h
one_at_most (z ∷ []) x y few (inl e) (inl f) = sym e ∙ f
one_at_most (z ∷ []) x y few (inl e) (inr k) = absurd k
one_at_most (z ∷ []) x y few (inr h) k = absurd h
one_at_most (z ∷ w ∷ xs) x y few h k = absurd (omega (arith, few))

pub two_at_least : {A : Type 0} (xs : List A) (x y : A) → In x xs → In y xs → (x ≡ y → ⊥) → 2 ≤ length xs
two_at_least [] x y h k n = absurd h
two_at_least (z ∷ []) x y h k n = absurd (n (one_at_most (z ∷ []) x y (omega arith) h k))
two_at_least (z ∷ w ∷ xs) x y h k n = omega arith

-- where at most one of the words is a name, at most one of the names is a word
pub few_among : (words names : List (List ℕ)) → AreDistinct names → length (filter (is_among names) words) ≤ 1 → length (filter (is_among words) names) ≤ 1
few_among words names d few = go (filter (is_among words) names) (distinct_filter (is_among words) names d) (λ x h. In-filter (is_among words) x names h)
  where
    both : (x : List ℕ) → In x names × (is_among words x ≡ true) → In x (filter (is_among names) words)
    both x h = In-filter_from (is_among names) x words (among_in words x h.1) (in_among names x h.0)

    go : (xs : List (List ℕ)) → AreDistinct xs → ((x : List ℕ) → In x xs → In x names × (is_among words x ≡ true)) → length xs ≤ 1
    go [] e f = omega arith
    go (x ∷ []) e f = omega arith
    go (x ∷ y ∷ xs) e f =
        absurd (e.0 (inl (one_at_most (filter (is_among names) words) y x few (both y (f y (inr (inl refl)))) (both x (f x (inl refl))))))

pub has_among_all : (columns : List Column) (words : List (List ℕ)) → filter (has_column columns) words ≡ filter (is_among (map name_of columns)) words
has_among_all columns [] = refl
has_among_all columns (w ∷ ws) =
    ap (λ (b : Bool). cond b (w ∷ filter (has_column columns) ws) (filter (has_column columns) ws)) (has_among columns w)
    ∙ ap (λ (xs : List (List ℕ)). cond (is_among (map name_of columns) w) (w ∷ xs) xs) (has_among_all columns ws)

-- ---- where a column of a class stands

-- it is a column of this input, at this number or behind it, whose name is one of the words
abbrev OfInput : ℕ → ℕ → List Column → List (List ℕ) → ClassCol → Type 0
OfInput input number columns words at =
    (i : ℕ) × (column : Column) × (at.input ≡ input) × (at.column ≡ number + i) × (slice_get columns i ≡ Some column) × In column.name words

pub in_input : (input number : ℕ) (columns : List Column) (words : List (List ℕ)) (at : ClassCol) → In at (class_in input number columns words) → OfInput input number columns words at
in_input input number [] words at h = absurd h
in_input input number (c ∷ cs) words at h = go (is_among words c.name) refl (in_input input (number + 1) cs words at) h
  where
    later : OfInput input (number + 1) cs words at → OfInput input number (c ∷ cs) words at
    later r = (suc r.0, r.1, r.2, omega (arith, r.3), r.4, r.5)

    go : (b : Bool) → is_among words c.name ≡ b → (In at (class_in input (number + 1) cs words) → OfInput input (number + 1) cs words at) → In at (cond b (record { input = input; column = number } ∷ class_in input (number + 1) cs words) (class_in input (number + 1) cs words)) → OfInput input number (c ∷ cs) words at
    go true e ih (inl q) = let k : number ≡ at.column = ap (λ (x : ClassCol). x.column) q in (0, c, sym (ap (λ (x : ClassCol). x.input) q), omega (arith, k), refl, among_in words c.name e)
    go true e ih (inr k) = later (ih k)
    go false e ih k = later (ih k)

-- it is a column of the input of this number or of one behind it, whose name is one of the words
abbrev pub StandsFrom : ℕ → List (List Column) → List (List ℕ) → ClassCol → Type 0
StandsFrom input schemas words at =
    (k : ℕ) × (schema : List Column) × (column : Column) × (at.input ≡ input + k) × (slice_get schemas k ≡ Some schema)
    × (slice_get schema at.column ≡ Some column) × In column.name words

stands_from : (input : ℕ) (schemas : List (List Column)) (words : List (List ℕ)) (at : ClassCol) → In at (class_from input schemas words) → StandsFrom input schemas words at
stands_from input [] words at h = absurd h
stands_from input (s ∷ ss) words at h = go (In-append_cases at (class_in input 0 s words) (class_from (input + 1) ss words) h) (stands_from (input + 1) ss words at)
  where
    go : In at (class_in input 0 s words) ⊎ In at (class_from (input + 1) ss words) → (In at (class_from (input + 1) ss words) → StandsFrom (input + 1) ss words at) → StandsFrom input (s ∷ ss) words at
    go (inl k) ih =
        let r = in_input input 0 s words at k in
        let same : r.0 ≡ at.column = omega (arith, r.3) in
        (0, s, r.1, omega (arith, r.2), refl, subst (λ (i : ℕ). slice_get s i ≡ Some r.1) same r.4, r.5)
    go (inr k) ih = let r = ih k in (suc r.0, r.1, r.2, omega (arith, r.3), r.4, r.5, r.6)

pub stands : (schemas : List (List Column)) (words : List (List ℕ)) (at : ClassCol) → In at (class_of schemas words) → StandsFrom 0 schemas words at
stands schemas words at h = stands_from 0 schemas words at h

-- what stands there, by the column's own place
pub stands_at : (schemas : List (List Column)) (words : List (List ℕ)) (at : ClassCol) → In at (class_of schemas words)
    → (schema : List Column) × (column : Column) × (slice_get schemas at.input ≡ Some schema) × (slice_get schema at.column ≡ Some column) × In column.name words
stands_at schemas words at h =
    let r = stands schemas words at h in
    let same : r.0 ≡ at.input = omega (arith, r.3) in
    (r.1, r.2, subst (λ (i : ℕ). slice_get schemas i ≡ Some r.1) same r.4, r.5, r.6)

-- ---- the names of a class

names_in : (schemas : List (List Column)) (input number : ℕ) (before columns : List Column) (words : List (List ℕ)) → number ≡ length before → get_or schemas input [] ≡ before ++ columns
    → map (class_word schemas) (class_in input number columns words) ≡ filter (is_among words) (map name_of columns)
names_in schemas input number before [] words n e = refl
names_in schemas input number before (c ∷ cs) words n e = go (is_among words c.name) (names_in schemas input (number + 1) (before ++ c ∷ []) cs words (omega (arith, n, length-append before (c ∷ []))) (e ∙ sym (append_assoc before (c ∷ []) cs)))
  where
    at_number : (xs : List Column) → column_name (xs ++ c ∷ cs) (length xs) ≡ c.name
    at_number [] = refl
    at_number (x ∷ xs) = at_number xs

    here : column_name (get_or schemas input []) number ≡ c.name
    here = rw (e, n) (at_number before)

    go : (b : Bool) → map (class_word schemas) (class_in input (number + 1) cs words) ≡ filter (is_among words) (map name_of cs)
        → map (class_word schemas) (cond b (record { input = input; column = number } ∷ class_in input (number + 1) cs words) (class_in input (number + 1) cs words)) ≡ cond b (c.name ∷ filter (is_among words) (map name_of cs)) (filter (is_among words) (map name_of cs))
    go true ih = ap (λ (x : List ℕ). x ∷ map (class_word schemas) (class_in input (number + 1) cs words)) here ∙ ap (λ (xs : List (List ℕ)). c.name ∷ xs) ih
    go false ih = ih

names_from : (all : List (List Column)) (input : ℕ) (before schemas : List (List Column)) (words : List (List ℕ)) → input ≡ length before → all ≡ before ++ schemas
    → map (class_word all) (class_from input schemas words) ≡ filter (is_among words) (map name_of (joined schemas))
names_from all input before [] words n e = refl
names_from all input before (s ∷ ss) words n e =
    map-append (class_word all) (class_in input 0 s words) (class_from (input + 1) ss words)
    ∙ ap (λ (xs : List (List ℕ)). xs ++ map (class_word all) (class_from (input + 1) ss words)) (names_in all input 0 [] s words refl here)
    ∙ ap (λ (xs : List (List ℕ)). filter (is_among words) (map name_of s) ++ xs) (names_from all (input + 1) (before ++ s ∷ []) ss words (omega (arith, n, length-append before (s ∷ []))) (e ∙ sym (append_assoc before (s ∷ []) ss)))
    ∙ sym (ap (filter (is_among words)) (map-append name_of s (joined ss)) ∙ filter-append (is_among words) (map name_of s) (map name_of (joined ss)))
  where
    at_input : (xs : List (List Column)) → get_or (xs ++ s ∷ ss) (length xs) [] ≡ s
    at_input [] = refl
    at_input (x ∷ xs) = at_input xs

    here : get_or all input [] ≡ s
    here = rw (e, n) (at_input before)

-- a class has the columns, in order, whose names are among the words
pub names_of_class : (schemas : List (List Column)) (words : List (List ℕ)) → class_words schemas (class_of schemas words) ≡ filter (is_among words) (map name_of (joined schemas))
names_of_class schemas words = names_from schemas 0 [] schemas words refl refl

pub class_length : (schemas : List (List Column)) (words : List (List ℕ)) → length (class_of schemas words) ≡ length (filter (is_among words) (map name_of (joined schemas)))
class_length schemas words = sym (length-map (class_of schemas words) (class_word schemas)) ∙ ap length (names_of_class schemas words)

-- ---- at least two columns

several : (schemas : List (List Column)) (words : List (List ℕ)) → 2 ≤ length words → AreDistinct words → ((w : List ℕ) → In w words → has_column (joined schemas) w ≡ true) → 2 ≤ length (class_of schemas words)
several schemas [] two d known = absurd (omega (arith, two))
several schemas (v ∷ []) two d known = absurd (omega (arith, two))
several schemas (v ∷ w ∷ ws) two d known =
    let names : List (List ℕ) = map name_of (joined schemas) in
    let words : List (List ℕ) = v ∷ w ∷ ws in
    let there : (x : List ℕ) → In x words → In x (filter (is_among words) names) = λ x h. In-filter_from (is_among words) x names (among_in names x (sym (has_among (joined schemas) x) ∙ known x h)) (in_among words x h) in
    rw (class_length schemas words) (two_at_least (filter (is_among words) names) v w (there v (inl refl)) (there w (inr (inl refl))) (λ e. d.0 (inl (sym e))))

-- ---- one of each input

others : (input : ℕ) (xs ys : List ClassCol) → length xs ≤ 1 → ((x : ClassCol) → In x xs → x.input ≡ input) → ((y : ClassCol) → In y ys → input < y.input) → AreOfOtherInputs ys → AreOfOtherInputs (xs ++ ys)
others input [] ys few same above o = o
others input (x ∷ []) ys few same above o = ((λ y h e. let i : x.input ≡ input = same x (inl refl) in let j : input < y.input = above y h in absurd (omega (arith, e, i, j))), o)
others input (x ∷ z ∷ xs) ys few same above o = absurd (omega (arith, few))

pub length_in : (input : ℕ) (columns : List Column) (words : List (List ℕ)) → (number : ℕ) → length (class_in input number columns words) ≡ length (filter (is_among words) (map name_of columns))
length_in input [] words number = refl
length_in input (c ∷ cs) words number = go (is_among words c.name) (length_in input cs words (number + 1))
  where
    go : (b : Bool) → length (class_in input (number + 1) cs words) ≡ length (filter (is_among words) (map name_of cs))
        → length (cond b (record { input = input; column = number } ∷ class_in input (number + 1) cs words) (class_in input (number + 1) cs words)) ≡ length (cond b (c.name ∷ filter (is_among words) (map name_of cs)) (filter (is_among words) (map name_of cs)))
    go true ih = ap suc ih
    go false ih = ih

one_each_from : (input : ℕ) (schemas : List (List Column)) (words : List (List ℕ)) → AreDistinct (map name_of (joined schemas)) → has_one_input_twice schemas words ≡ false → AreOfOtherInputs (class_from input schemas words)
one_each_from input [] words d e = tt
one_each_from input (s ∷ ss) words d e =
    let parts = or_parts (has_two_of words s) (has_one_input_twice ss words) e in
    let apart : AreDistinct (map name_of s ++ map name_of (joined ss)) = subst AreDistinct (map-append name_of s (joined ss)) d in
    let few : length (filter (is_among (map name_of s)) words) ≤ 1 = subst (λ (xs : List (List ℕ)). length xs ≤ 1) (has_among_all s words) (ltb-false 1 (length (filter (has_column s) words)) parts.0) in
    let one : length (filter (is_among words) (map name_of s)) ≤ 1 = few_among words (map name_of s) (distinct_left (map name_of s) (map name_of (joined ss)) apart) few in
    others input (class_in input 0 s words) (class_from (input + 1) ss words) (rw (length_in input s words 0) one)
    (λ x h. (in_input input 0 s words x h).2)
    (λ y h. let r = stands_from (input + 1) ss words y h in omega (arith, r.3))
    (one_each_from (input + 1) ss words (distinct_right (map name_of s) (map name_of (joined ss)) apart) parts.1)

-- ---- one kind

pub in_joined : (schemas : List (List Column)) (k : ℕ) (schema : List Column) (column : Column) → slice_get schemas k ≡ Some schema → In column schema → In column (joined schemas)
in_joined schemas k schema column e h = In-flat_map_from (λ s. s) column schema schemas (in_at schemas k schema e) h

not_int : (kind : Kind) → kind_eq Int kind ≡ false → kind ≡ Text
not_int Int e = absurd (false≢true (sym e))
not_int Text e = refl

not_text : (kind : Kind) → kind_eq Text kind ≡ false → kind ≡ Int
not_text Int e = refl
not_text Text e = absurd (false≢true (sym e))

of_kind : (schemas : List (List Column)) (words : List (List ℕ)) (kind : Kind) → AreDistinct (map name_of (joined schemas)) → ((w : List ℕ) → In w words → column_kind (joined schemas) w ≡ kind) → (at : ClassCol) → In at (class_of schemas words) → IsOfKind schemas at kind
of_kind schemas words kind d kinds at h =
    let r = stands_at schemas words at h in
    let there : In r.1 (joined schemas) = in_joined schemas at.input r.0 r.1 r.2 (in_at r.0 at.column r.1 r.3) in
    (r.0, r.1, r.2, r.3, sym (kind_of_column (joined schemas) r.1 d there) ∙ kinds r.1.name r.4)

one_kind : (schemas : List (List Column)) (words : List (List ℕ)) → AreDistinct (map name_of (joined schemas)) → has_two_kinds (joined schemas) words ≡ false → (kind : Kind) × ((at : ClassCol) → In at (class_of schemas words) → IsOfKind schemas at kind)
one_kind schemas words d e = go (and_cases (list_any (is_of Int columns) words) (list_any (is_of Text columns) words) e)
  where
    columns : List Column
    columns = joined schemas

    none : (kind : Kind) → list_any (is_of kind (joined schemas)) words ≡ false → (w : List ℕ) → In w words → kind_eq kind (column_kind (joined schemas) w) ≡ false
    none kind n w h = false_from_ne_true (kind_eq kind (column_kind (joined schemas) w)) (λ t. none_at (is_of kind (joined schemas)) words w n h t)

    go : (list_any (is_of Int (joined schemas)) words ≡ false) ⊎ (list_any (is_of Text (joined schemas)) words ≡ false) → (kind : Kind) × ((at : ClassCol) → In at (class_of schemas words) → IsOfKind schemas at kind)
    go (inl n) = (Text, of_kind schemas words Text d (λ w h. not_int (column_kind (joined schemas) w) (none Int n w h)))
    go (inr n) = (Int, of_kind schemas words Int d (λ w h. not_text (column_kind (joined schemas) w) (none Text n w h)))

-- ---- a class, and classes

-- the words of a class without fault
pub record IsGoodClass (schemas : List (List Column)) (words : List (List ℕ)) : Type 0 where
  pub two : 2 ≤ length words
  pub known : (w : List ℕ) → In w words → has_column (joined schemas) w ≡ true
  pub kinds : has_two_kinds (joined schemas) words ≡ false
  pub once : has_one_input_twice schemas words ≡ false
  pub distinct : AreDistinct words

pub sound_class : (schemas : List (List Column)) (words : List (List ℕ)) → AreDistinct (map name_of (joined schemas)) → IsGoodClass schemas words → IsSoundClass schemas (class_of schemas words)
sound_class schemas words d good = record {
  several = several schemas words good.two good.distinct good.known;
  one_each = one_each_from 0 schemas words d good.once;
  same_kind = one_kind schemas words d good.kinds;
}

-- a column of two classes has one name
one_name : (schemas : List (List Column)) (words others : List (List ℕ)) (at : ClassCol) → In at (class_of schemas words) → In at (class_of schemas others) → (name : List ℕ) × In name words × In name others
one_name schemas words others at h k =
    let r = stands_at schemas words at h in
    let q = stands_at schemas others at k in
    let schema : r.0 ≡ q.0 = sym (get_or_from_slice_get schemas at.input r.0 [] r.2) ∙ get_or_from_slice_get schemas at.input q.0 [] q.2 in
    let column : r.1 ≡ q.1 = sym (get_or_from_slice_get r.0 at.column r.1 no_column r.3) ∙ ap (λ (s : List Column). get_or s at.column no_column) schema ∙ get_or_from_slice_get q.0 at.column q.1 no_column q.3 in
    (r.1.name, r.4, subst (λ (c : Column). In c.name others) (sym column) q.4)

pub classes_apart : (schemas : List (List Column)) (classes : List (List (List ℕ))) → AreDistinct (flat_map (λ class. class) classes) → AreApart (map (class_of schemas) classes)
classes_apart schemas [] d = tt
classes_apart schemas (words ∷ classes) d = (
  (λ other h at k l. let r = In-map (class_of schemas) other classes h in let n = one_name schemas words r.0 at k (subst (λ (c : List ClassCol). In at c) (sym r.2) l) in distinct_between words (flat_map (λ class. class) classes) n.0 d n.1 (In-flat_map_from (λ class. class) n.0 r.0 classes r.1 n.2)),
  classes_apart schemas classes (distinct_right words (flat_map (λ class. class) classes) d),
)
