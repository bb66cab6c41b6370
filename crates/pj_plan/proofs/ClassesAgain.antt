-- The words of a class make the class again.
use Rattle.std.proofs.Common.{ℕ, zero, suc, ◌+◌, ◌≤◌, ◌≡◌, length, arith, Bool, true, false, cond, List, [], ◌∷◌, ◌++◌, Some, map, filter, flat_map, slice_get, refl, sym, ap, ◌∙◌, subst, inl, inr}
use Rattle.std.specs.List.{list_any}
use Rattle.std.proofs.lemmas.Bool.{or_from, and_left, and_right, false≢true, false_from_ne_true, le-ltb}
use Rattle.std.proofs.lemmas.Option.{get_or_from_slice_get}
use Rattle.pj_value.specs.Lists.{In}
use Rattle.pj_value.specs.declared.values.Kind.{Kind}
use Rattle.pj_value.specs.declared.values.Kind.TheVariants.{Int, Text}
use Rattle.pj_value.proofs.Members.{In-append_left, In-append_right, In-map, In-map_from, In-filter, In-filter_from, In-flat_map, none_from, in_at}
use Rattle.pj_shape.specs.declared.columns.Column.{Column}
use Rattle.pj_shape.specs.declared.joins.ClassCol.{ClassCol}
use Rattle.pj_shape.specs.Sound.{IsOfKind, AreOfOtherInputs, IsSoundClass, AreApart}
use Rattle.pj_plan.specs.Words.{is_among}
use Rattle.pj_plan.specs.Made.{column_kind, class_in, class_from, class_of}
use Rattle.pj_plan.specs.Canonical.{no_column, column_name, class_word, class_words}
use Rattle.pj_plan.specs.Faults.{has_column, kind_eq, is_of, has_two_kinds, has_two_of, has_one_input_twice}
use Rattle.pj_plan.specs.Sound.{AreDistinct, name_of}
use Rattle.pj_plan.proofs.Lists.{among_in, in_among, distinct_append}
use Rattle.pj_plan.proofs.ByName.{has_among, kind_of_column}
use Rattle.pj_plan.proofs.Classes.{joined, distinct_filter, few_among, has_among_all, stands_at, names_of_class, length_in, in_joined, in_input}

-- ---- words that name the same columns

in_same : (input number : ℕ) (columns : List Column) (words others : List (List ℕ)) → ((c : Column) → In c columns → is_among words c.name ≡ is_among others c.name) → class_in input number columns words ≡ class_in input number columns others
in_same input number [] words others same = refl
in_same input number (c ∷ cs) words others same =
    ap (λ (b : Bool). cond b (record { input = input; column = number } ∷ class_in input (number + 1) cs words) (class_in input (number + 1) cs words)) (same c (inl refl))
    ∙ ap (λ (xs : List ClassCol). cond (is_among others c.name) (record { input = input; column = number } ∷ xs) xs) (in_same input (number + 1) cs words others (λ x h. same x (inr h)))

from_same : (input : ℕ) (schemas : List (List Column)) (words others : List (List ℕ)) → ((c : Column) → In c (joined schemas) → is_among words c.name ≡ is_among others c.name) → class_from input schemas words ≡ class_from input schemas others
from_same input [] words others same = refl
from_same input (s ∷ ss) words others same =
    ap (λ (xs : List ClassCol). xs ++ class_from (input + 1) ss words) (in_same input 0 s words others (λ c h. same c (In-append_left c s (joined ss) h)))
    ∙ ap (λ (xs : List ClassCol). class_in input 0 s others ++ xs) (from_same (input + 1) ss words others (λ c h. same c (In-append_right c s (joined ss) h)))

among_filter : (words names : List (List ℕ)) (name : List ℕ) → In name names → is_among (filter (is_among words) names) name ≡ is_among words name
among_filter words names name h = go (is_among words name) refl
  where
    go : (b : Bool) → is_among words name ≡ b → is_among (filter (is_among words) names) name ≡ is_among words name
    go true e = in_among (filter (is_among words) names) name (In-filter_from (is_among words) name names h e) ∙ sym e
    go false e = false_from_ne_true (is_among (filter (is_among words) names) name) (λ t. false≢true (sym e ∙ (In-filter (is_among words) name names (among_in (filter (is_among words) names) name t)).1)) ∙ sym e

-- the class is what its words make
abbrev pub IsOrdered : List (List Column) → List ClassCol → Type 0
IsOrdered schemas class = class_of schemas (class_words schemas class) ≡ class

pub class_ordered : (schemas : List (List Column)) (words : List (List ℕ)) → IsOrdered schemas (class_of schemas words)
class_ordered schemas words =
    ap (class_of schemas) (names_of_class schemas words)
    ∙ from_same 0 schemas (filter (is_among words) (map name_of (joined schemas))) words (λ c h. among_filter words (map name_of (joined schemas)) c.name (In-map_from name_of c (joined schemas) h))

-- ---- the words of an ordered class

words_are : (schemas : List (List Column)) (class : List ClassCol) → IsOrdered schemas class → class_words schemas class ≡ filter (is_among (class_words schemas class)) (map name_of (joined schemas))
words_are schemas class ordered = ap (class_words schemas) (sym ordered) ∙ names_of_class schemas (class_words schemas class)

pub words_distinct : (schemas : List (List Column)) (class : List ClassCol) → AreDistinct (map name_of (joined schemas)) → IsOrdered schemas class → AreDistinct (class_words schemas class)
words_distinct schemas class d ordered = rw (words_are schemas class ordered) (distinct_filter (is_among (class_words schemas class)) (map name_of (joined schemas)) d)

pub words_there : (schemas : List (List Column)) (class : List ClassCol) (word : List ℕ) → IsOrdered schemas class → In word (class_words schemas class) → In word (map name_of (joined schemas))
words_there schemas class word ordered h =
    (In-filter (is_among (class_words schemas class)) word (map name_of (joined schemas)) (subst (λ (ws : List (List ℕ)). In word ws) (words_are schemas class ordered) h)).0

pub words_known : (schemas : List (List Column)) (class : List ClassCol) (word : List ℕ) → IsOrdered schemas class → In word (class_words schemas class) → has_column (joined schemas) word ≡ true
words_known schemas class word ordered h = has_among (joined schemas) word ∙ in_among (map name_of (joined schemas)) word (words_there schemas class word ordered h)

-- ---- one kind

word_kind : (schemas : List (List Column)) (class : List ClassCol) (kind : Kind) → AreDistinct (map name_of (joined schemas)) → ((at : ClassCol) → In at class → IsOfKind schemas at kind) → (word : List ℕ) → In word (class_words schemas class) → column_kind (joined schemas) word ≡ kind
word_kind schemas class kind d kinds word h =
    let r = In-map (class_word schemas) word class h in
    let k = kinds r.0 r.1 in
    let there : In k.1 (joined schemas) = in_joined schemas r.0.input k.0 k.1 k.2 (in_at k.0 r.0.column k.1 k.3) in
    let name : word ≡ k.1.name = sym r.2 ∙ ap (λ (s : List Column). column_name s r.0.column) (get_or_from_slice_get schemas r.0.input k.0 [] k.2) ∙ ap name_of (get_or_from_slice_get k.0 r.0.column k.1 no_column k.3) in
    ap (column_kind (joined schemas)) name ∙ kind_of_column (joined schemas) k.1 d there ∙ k.4

pub words_one_kind : (schemas : List (List Column)) (class : List ClassCol) → AreDistinct (map name_of (joined schemas)) → IsSoundClass schemas class → has_two_kinds (joined schemas) (class_words schemas class) ≡ false
words_one_kind schemas class d sound = go sound.same_kind.0 (word_kind schemas class sound.same_kind.0 d sound.same_kind.1)
  where
    go : (kind : Kind) → ((word : List ℕ) → In word (class_words schemas class) → column_kind (joined schemas) word ≡ kind) → has_two_kinds (joined schemas) (class_words schemas class) ≡ false
    go Int kinds =
        and_right (list_any (is_of Int (joined schemas)) (class_words schemas class)) (list_any (is_of Text (joined schemas)) (class_words schemas class))
        (none_from (is_of Text (joined schemas)) (class_words schemas class) (λ w h. ap (kind_eq Text) (kinds w h)))
    go Text kinds =
        and_left (list_any (is_of Int (joined schemas)) (class_words schemas class)) (list_any (is_of Text (joined schemas)) (class_words schemas class))
        (none_from (is_of Int (joined schemas)) (class_words schemas class) (λ w h. ap (kind_eq Int) (kinds w h)))

-- ---- one of each input

one_of : (input : ℕ) (xs ys : List ClassCol) → ((x : ClassCol) → In x xs → x.input ≡ input) → AreOfOtherInputs (xs ++ ys) → (length xs ≤ 1) × AreOfOtherInputs ys
one_of input [] ys same o = (omega arith, o)
one_of input (x ∷ []) ys same o = (omega arith, o.1)
one_of input (x ∷ y ∷ xs) ys same o = absurd (o.0 y (inl refl) (same y (inr (inl refl)) ∙ sym (same x (inl refl))))

one_of_each : (input : ℕ) (schemas : List (List Column)) (words : List (List ℕ)) → AreDistinct words → AreOfOtherInputs (class_from input schemas words) → has_one_input_twice schemas words ≡ false
one_of_each input [] words d o = refl
one_of_each input (s ∷ ss) words d o =
    let r = one_of input (class_in input 0 s words) (class_from (input + 1) ss words) (λ x h. (in_input input 0 s words x h).2) o in
    let few : length (filter (is_among words) (map name_of s)) ≤ 1 = subst (λ (n : ℕ). n ≤ 1) (length_in input s words 0) r.0 in
    let one : length (filter (has_column s) words) ≤ 1 = subst (λ (xs : List (List ℕ)). length xs ≤ 1) (sym (has_among_all s words)) (few_among (map name_of s) words d few) in
    or_from (has_two_of words s) (has_one_input_twice ss words) (le-ltb 1 (length (filter (has_column s) words)) one) (one_of_each (input + 1) ss words d r.1)

pub words_once : (schemas : List (List Column)) (class : List ClassCol) → AreDistinct (map name_of (joined schemas)) → IsOrdered schemas class → IsSoundClass schemas class → has_one_input_twice schemas (class_words schemas class) ≡ false
words_once schemas class d ordered sound = one_of_each 0 schemas (class_words schemas class) (words_distinct schemas class d ordered) (subst AreOfOtherInputs (sym ordered) sound.one_each)

-- ---- no column in two classes

to_input : (input number : ℕ) (columns : List Column) (words : List (List ℕ)) (i : ℕ) (column : Column) → slice_get columns i ≡ Some column → In column.name words → (at : ClassCol) → at.input ≡ input → at.column ≡ number + i → In at (class_in input number columns words)
to_input input number [] words i column e h at f g = absurd cc
to_input input number (c ∷ cs) words zero column e h at f g = go (is_among words c.name) (in_among words c.name (subst (λ (n : List ℕ). In n words) (sym name) h))
  where
    name : c.name ≡ column.name
    name = let same : c ≡ column = cc in ap name_of same

    same : record { input = input; column = number } ≡ at
    same =
        let k : number ≡ at.column = omega (arith, g) in
        sym (ap (λ (n : ℕ). record { input = n; column = at.column }) f ∙ ap (λ (n : ℕ). record { input = input; column = n }) (sym k))

    go : (b : Bool) → b ≡ true → In at (cond b (record { input = input; column = number } ∷ class_in input (number + 1) cs words) (class_in input (number + 1) cs words))
    go true t = inl same
    go false t = absurd (false≢true t)
to_input input number (c ∷ cs) words (suc i) column e h at f g = go (is_among words c.name) (to_input input (number + 1) cs words i column e h at f (omega (arith, g)))
  where
    go : (b : Bool) → In at (class_in input (number + 1) cs words) → In at (cond b (record { input = input; column = number } ∷ class_in input (number + 1) cs words) (class_in input (number + 1) cs words))
    go true k = inr k
    go false k = k

to_from : (input : ℕ) (schemas : List (List Column)) (words : List (List ℕ)) (k : ℕ) (schema : List Column) (column : Column) (at : ClassCol) → slice_get schemas k ≡ Some schema → slice_get schema at.column ≡ Some column → In column.name words → at.input ≡ input + k → In at (class_from input schemas words)
to_from input [] words k schema column at e f h g = absurd cc
to_from input (s ∷ ss) words zero schema column at e f h g =
    let same : schema ≡ s = cc in
    In-append_left at (class_in input 0 s words) (class_from (input + 1) ss words)
    (to_input input 0 s words at.column column (subst (λ (x : List Column). slice_get x at.column ≡ Some column) same f) h at (omega (arith, g)) (omega arith))
to_from input (s ∷ ss) words (suc k) schema column at e f h g =
    In-append_right at (class_in input 0 s words) (class_from (input + 1) ss words) (to_from (input + 1) ss words k schema column at e f h (omega (arith, g)))

-- a column of a class whose word another class has is a column of that class
in_both : (schemas : List (List Column)) (class other : List ClassCol) (word : List ℕ) → IsOrdered schemas class → IsOrdered schemas other → In word (class_words schemas class) → In word (class_words schemas other) → (at : ClassCol) × In at class × In at other
in_both schemas class other word o p h k =
    let r = In-map (class_word schemas) word class h in
    let at : ClassCol = r.0 in
    let q = stands_at schemas (class_words schemas class) at (subst (λ (c : List ClassCol). In at c) (sym o) r.1) in
    let name : q.1.name ≡ word = sym (ap (λ (s : List Column). column_name s at.column) (get_or_from_slice_get schemas at.input q.0 [] q.2) ∙ ap name_of (get_or_from_slice_get q.0 at.column q.1 no_column q.3)) ∙ r.2 in
    let there : In at (class_of schemas (class_words schemas other)) = to_from 0 schemas (class_words schemas other) at.input q.0 q.1 at q.2 q.3 (subst (λ (w : List ℕ). In w (class_words schemas other)) (sym name) k) (omega arith) in
    (at, r.1, subst (λ (c : List ClassCol). In at c) p there)

pub words_apart : (schemas : List (List Column)) (classes : List (List ClassCol)) → AreDistinct (map name_of (joined schemas)) → ((class : List ClassCol) → In class classes → IsOrdered schemas class) → AreApart classes
    → AreDistinct (flat_map (λ class. class) (map (class_words schemas) classes))
words_apart schemas [] d ordered apart = tt
words_apart schemas (class ∷ classes) d ordered apart =
    distinct_append (class_words schemas class) (flat_map (λ c. c) (map (class_words schemas) classes)) (words_distinct schemas class d (ordered class (inl refl)))
    (words_apart schemas classes d (λ c h. ordered c (inr h)) apart.1)
    (λ word h k. let r = In-flat_map (λ (c : List (List ℕ)). c) word (map (class_words schemas) classes) k in
    let q = In-map (class_words schemas) r.0 classes r.1 in
    let both = in_both schemas class q.0 word (ordered class (inl refl)) (ordered q.0 (inr q.1)) h (subst (λ (ws : List (List ℕ)). In word ws) (sym q.2) r.2) in
    apart.0 q.0 q.1 both.0 both.1 both.2)

-- ---- the classes again

pub classes_again : (schemas : List (List Column)) (classes : List (List ClassCol)) → ((class : List ClassCol) → In class classes → IsOrdered schemas class) → map (class_of schemas) (map (class_words schemas) classes) ≡ classes
classes_again schemas [] ordered = refl
classes_again schemas (class ∷ classes) ordered =
    ap (λ (c : List ClassCol). c ∷ map (class_of schemas) (map (class_words schemas) classes)) (ordered class (inl refl))
    ∙ ap (λ (cs : List (List ClassCol)). class ∷ cs) (classes_again schemas classes (λ c h. ordered c (inr h)))
