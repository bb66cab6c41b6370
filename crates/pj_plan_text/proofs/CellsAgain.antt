-- What the cells of canonical lines say.
use Rattle.std.proofs.Common.{◌≡◌, ℕ, Bool, true, false, cond, ◌&&◌, ◌==◌, List, [], ◌∷◌, ◌++◌, Option, Some, None, map, length, refl, ap, sym, ◌∙◌, append-nil}
use Rattle.std.specs.Prelude.{⊤, nat_le}
use Rattle.std.specs.List.{list_all}
use Rattle.std.specs.Str.{bytes_eq}
use Rattle.std.proofs.lemmas.Bool.{and_parts, false≢true, eqb-true}
use Rattle.std.proofs.lemmas.Slice.Eq.{bytes_eq-Decides}
use Rattle.pj_value.specs.declared.values.Kind.{Kind}
use Rattle.pj_value.specs.declared.values.Kind.TheVariants.{Int, Text}
use Rattle.pj_value.specs.Options.{both, with_first}
use Rattle.pj_element.specs.Forms.{pattern_of}
use Rattle.pj_element.proofs.LinesAgain.{pattern_again}
use Rattle.pj_plan.specs.declared.statement.ColumnWord.{ColumnWord}
use Rattle.pj_plan.specs.declared.statement.Renamed.{Renamed}
use Rattle.pj_plan.specs.declared.statement.TestWord.{TestWord}
use Rattle.pj_plan.specs.declared.statement.Test.{Test}
use Rattle.pj_plan.specs.declared.statement.Test.TheVariants.{One, Mixed}
use Rattle.pj_plan.specs.declared.statement.AggWord.{AggWord}
use Rattle.pj_plan.specs.declared.statement.AggWord.TheVariants.{Count, Sum, Min, Max}
use Rattle.pj_plan.specs.declared.statement.NamedAgg.{NamedAgg}
use Rattle.pj_plan.specs.Names.{is_name_byte, is_word, is_name, is_column_name, is_class, is_agg, has_some}
use Rattle.pj_plan_text.specs.Cuts.{all_of, cut_at, is_byte, parts_of, past}
use Rattle.pj_plan_text.specs.CellWords.{agg_of, class_in, class_of, column_in, column_name_of, column_of, kind_of, mark_of, name_of, named_agg_in, named_agg_of, of_kind, renamed, renamed_in, renamed_of, test_of, test_on, with_agg}
use Rattle.pj_plan_text.specs.Spelling.{agg_cell, class_cell, column_cell, kind_word, mark_cell, named_agg_cell, parted, renamed_cell, test_cell, test_cells}
use Rattle.pj_plan_text.specs.Statements.{pairs_of, some_of}
use Rattle.pj_plan_text.specs.Laws.{AreKeptTests, IsKeptTest}
use Rattle.pj_plan_text.proofs.Parting.{parts_are, parts_by}

-- ---- cuts

-- none passes the test
abbrev pub NonePass : {A : Type 0} → (A → Bool) → List A → Type 0
NonePass test [] = ⊤
NonePass test (x ∷ xs) = (test x ≡ false) × NonePass test xs

pub cut_found : {A : Type 0} (test : A → Bool) (front : List A) (x : A) (behind : List A) → NonePass test front → test x ≡ true → cut_at test (front ++ x ∷ behind) ≡ Some (front, behind)
cut_found test [] x behind none here = rw here refl
cut_found test (y ∷ ys) x behind none here = rw none.0 (ap (past y) (cut_found test ys x behind none.1 here))

cut_none : {A : Type 0} (test : A → Bool) (xs : List A) → NonePass test xs → cut_at test xs ≡ None
cut_none test [] none = refl
cut_none test (x ∷ xs) none = rw none.0 (ap (past x) (cut_none test xs none.1))

-- ---- names

byte_differs : (mark b : ℕ) → is_name_byte mark ≡ false → is_name_byte b ≡ true → (b == mark) ≡ false
byte_differs mark b other is = go (b == mark) refl
  where
    go : (t : Bool) → (b == mark) ≡ t → t ≡ false
    go true same = absurd (false≢true (sym other ∙ (ap is_name_byte (sym (eqb-true b mark same)) ∙ is)))
    go false same = refl

has_none : (mark : ℕ) (cell : List ℕ) → is_name_byte mark ≡ false → list_all is_name_byte cell ≡ true → NonePass (is_byte mark) cell
has_none mark [] other all = tt
has_none mark (b ∷ bs) other all =
    let parts = and_parts (is_name_byte b) (list_all is_name_byte bs) all in
    (byte_differs mark b other parts.0, has_none mark bs other parts.1)

pub column_bytes : (cell : List ℕ) → is_column_name cell ≡ true → list_all is_name_byte cell ≡ true
column_bytes cell good =
    let word = and_parts (is_word cell) _ good in
    let long = and_parts _ (nat_le (length cell) 32 && list_all is_name_byte cell) word.0 in
    (and_parts (nat_le (length cell) 32) (list_all is_name_byte cell) long.1).1

pub name_is_column : (cell : List ℕ) → is_name cell ≡ true → is_column_name cell ≡ true
name_is_column cell good = (and_parts (is_column_name cell) _ good).0

no_mark : (mark : ℕ) (cell : List ℕ) → is_name_byte mark ≡ false → is_column_name cell ≡ true → NonePass (is_byte mark) cell
no_mark mark cell other good = has_none mark cell other (column_bytes cell good)

-- ---- cells that each say something

all_again : {A : Type 0} {B : Type 0} (f : A → Option B) (cell : B → A) (good : B → Bool) → ((x : B) → good x ≡ true → f (cell x) ≡ Some x) → (xs : List B) → list_all good xs ≡ true → all_of f (map cell xs) ≡ Some xs
all_again f cell good each [] all = refl
all_again f cell good each (x ∷ xs) all =
    let parts = and_parts (good x) (list_all good xs) all in
    ap (λ (o : Option _). both o (all_of f (map cell xs))) (each x parts.0) ∙ ap (with_first x) (all_again f cell good each xs parts.1)

pub some_again : {B : Type 0} (f : List ℕ → Option B) (cell : B → List ℕ) (good : B → Bool) → ((x : B) → good x ≡ true → f (cell x) ≡ Some x) → (xs : List B) → has_some xs ≡ true → list_all good xs ≡ true → some_of f (map cell xs) ≡ Some xs
some_again f cell good each [] some all = absurd (false≢true some)
some_again f cell good each (x ∷ xs) some all = all_again f cell good each (x ∷ xs) all

pub all_same : (f : List ℕ → Option (List ℕ)) (good : List ℕ → Bool) → ((x : List ℕ) → good x ≡ true → f x ≡ Some x) → (xs : List (List ℕ)) → list_all good xs ≡ true → all_of f xs ≡ Some xs
all_same f good each [] all = refl
all_same f good each (x ∷ xs) all =
    let parts = and_parts (good x) (list_all good xs) all in
    ap (λ (o : Option (List ℕ)). both o (all_of f xs)) (each x parts.0) ∙ ap (with_first x) (all_same f good each xs parts.1)

pub some_same : (f : List ℕ → Option (List ℕ)) (good : List ℕ → Bool) → ((x : List ℕ) → good x ≡ true → f x ≡ Some x) → (xs : List (List ℕ)) → has_some xs ≡ true → list_all good xs ≡ true → some_of f xs ≡ Some xs
some_same f good each [] some all = absurd (false≢true some)
some_same f good each (x ∷ xs) some all = all_same f good each (x ∷ xs) all

pub name_again : (cell : List ℕ) → is_name cell ≡ true → name_of cell ≡ Some cell
name_again cell good = rw good refl

pub column_name_again : (cell : List ℕ) → is_column_name cell ≡ true → column_name_of cell ≡ Some cell
column_name_again cell good = rw good refl

kind_again : (kind : Kind) → kind_of (kind_word kind) ≡ Some kind
kind_again Int = refl
kind_again Text = refl

of_kind_again : (name : List ℕ) (kind : Kind) → is_column_name name ≡ true → of_kind name (Some kind) ≡ Some (record { name = name; kind = kind })
of_kind_again name kind good = rw good refl

pub column_again : (c : ColumnWord) → is_column_name c.name ≡ true → column_of (column_cell c) ≡ Some c
column_again c good =
    ap column_in (cut_found (is_byte 58) c.name 58 (kind_word c.kind) (no_mark 58 c.name refl good) refl)
    ∙ (ap (of_kind c.name) (kind_again c.kind) ∙ of_kind_again c.name c.kind good)

pub mark_again : (m : Bool) → true ≡ true → mark_of (mark_cell m) ≡ Some m
mark_again true good = refl
mark_again false good = refl

renamed_good : (new old : List ℕ) → (is_column_name new && is_column_name old) ≡ true → renamed new old ≡ Some (record { new = new; old = old })
renamed_good new old good = rw good refl

both_good : (b : Bool) → b ≡ true → (b && b) ≡ true
both_good b is = rw is refl

pub renamed_again : (w : Renamed) → (is_column_name w.new && is_column_name w.old) ≡ true → renamed_of (renamed_cell w) ≡ Some w
renamed_again w good = go (bytes_eq w.new w.old) refl
  where
    parts : (is_column_name w.new ≡ true) × (is_column_name w.old ≡ true)
    parts = and_parts (is_column_name w.new) (is_column_name w.old) good

    go : (b : Bool) → bytes_eq w.new w.old ≡ b → renamed_of (cond b w.old (w.new ++ 61 ∷ w.old)) ≡ Some w
    go true same =
        let is : w.new ≡ w.old = (bytes_eq-Decides w.new w.old).0 same in
        ap (renamed_in w.old) (cut_none (is_byte 61) w.old (no_mark 61 w.old refl parts.1))
        ∙ (renamed_good w.old w.old (both_good (is_column_name w.old) parts.1)
        ∙ ap (λ (n : List ℕ). Some (record { new = n; old = w.old })) (sym is))
    go false same =
        ap (renamed_in (w.new ++ 61 ∷ w.old)) (cut_found (is_byte 61) w.new 61 w.old (no_mark 61 w.new refl parts.0) refl) ∙ renamed_good w.new w.old good

parts_again : (name : List ℕ) (names : List (List ℕ)) → is_column_name name ≡ true → list_all is_column_name names ≡ true → parts_of 61 (parted 61 (name ∷ names)) ≡ name ∷ names
parts_again name [] good all =
    ap (parts_of 61) (append-nil name) ∙ (parts_are 61 name ∙ ap (parts_by 61 name) (cut_none (is_byte 61) name (no_mark 61 name refl good)))
parts_again name (other ∷ others) good all =
    let parts = and_parts (is_column_name other) (list_all is_column_name others) all in
    let rest = parted 61 (other ∷ others) in
    parts_are 61 (name ++ 61 ∷ rest)
    ∙ (ap (parts_by 61 (name ++ 61 ∷ rest)) (cut_found (is_byte 61) name 61 rest (no_mark 61 name refl good) refl)
    ∙ ap (λ (ps : List (List ℕ)). name ∷ ps) (parts_again other others parts.0 parts.1))

class_parts : (names : List (List ℕ)) → nat_le 2 (length names) ≡ true → list_all is_column_name names ≡ true → parts_of 61 (class_cell names) ≡ names
class_parts [] two all = absurd (false≢true two)
class_parts (name ∷ names) two all = let parts = and_parts (is_column_name name) (list_all is_column_name names) all in parts_again name names parts.0 parts.1

pub class_again : (names : List (List ℕ)) → is_class names ≡ true → class_of (class_cell names) ≡ Some names
class_again names good =
    let parts = and_parts (nat_le 2 (length names)) (list_all is_column_name names) good in
    ap class_in (class_parts names parts.0 parts.1) ∙ rw parts.0 (all_same column_name_of is_column_name column_name_again names parts.1)

agg_again : (agg : AggWord) → is_agg agg ≡ true → agg_of (agg_cell agg) ≡ Some agg
agg_again Count good = refl
agg_again (Sum column) good = rw good refl
agg_again (Min column) good = rw good refl
agg_again (Max column) good = rw good refl

with_agg_again : (name : List ℕ) (agg : AggWord) → is_column_name name ≡ true → with_agg name (Some agg) ≡ Some (record { name = name; agg = agg })
with_agg_again name agg good = rw good refl

pub named_agg_again : (w : NamedAgg) → (is_column_name w.name && is_agg w.agg) ≡ true → named_agg_of (named_agg_cell w) ≡ Some w
named_agg_again w good =
    let parts = and_parts (is_column_name w.name) (is_agg w.agg) good in
    ap named_agg_in (cut_found (is_byte 61) w.name 61 (agg_cell w.agg) (no_mark 61 w.name refl parts.0) refl)
    ∙ (ap (with_agg w.name) (agg_again w.agg parts.1) ∙ with_agg_again w.name w.agg parts.0)

test_cell_again : (column : List ℕ) (test : Test) → IsKeptTest test → test_on column (pattern_of (test_cell test)) ≡ Some (record { column = column; test = test })
test_cell_again column (One pattern) kept = ap (test_on column) (pattern_again pattern kept.0 kept.1)
test_cell_again column Mixed kept = refl

test_again : (column cell : List ℕ) → is_column_name column ≡ true → test_of column cell ≡ test_on column (pattern_of cell)
test_again column cell good = rw good refl

pub pairs_again : (tests : List TestWord) → list_all (λ test. is_column_name test.column) tests ≡ true → AreKeptTests tests → pairs_of (test_cells tests) ≡ Some tests
pairs_again [] all kept = refl
pairs_again (t ∷ ts) all kept =
    let parts = and_parts (is_column_name t.column) (list_all (λ test. is_column_name test.column) ts) all in
    ap (λ (o : Option TestWord). both o (pairs_of (test_cells ts))) (test_again t.column (test_cell t.test) parts.0 ∙ test_cell_again t.column t.test kept.0)
    ∙ ap (with_first t) (pairs_again ts parts.1 kept.1)
