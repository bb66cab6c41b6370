-- What a line of a plan states is a statement that a line can spell.
use Rattle.std.proofs.Common.{◌≡◌, ℕ, ◌+◌, ◌*◌, ◌≤◌, Bool, true, false, if◌then◌else◌, ◌&&◌, List, [], ◌∷◌, Option, Some, None, length, map, refl, ap, sym, subst, arith}
use Rattle.std.specs.Prelude.{nat_le, codes}
use Rattle.std.specs.List.{list_all}
use Rattle.std.specs.Str.{bytes_eq}
use Rattle.std.proofs.lemmas.Bool.{and_parts, and_from}
use Rattle.std.proofs.lemmas.Bool.Decides.{nat_tests}
use Rattle.std.proofs.lemmas.Option.{none-some}
use Rattle.pj_value.specs.declared.values.Kind.{Kind}
use Rattle.pj_value.specs.Options.{both}
use Rattle.pj_line.specs.Lines.{pieces, line_of}
use Rattle.pj_line.specs.Cells.{cells_of}
use Rattle.pj_element.specs.declared.forms.Spelled.{Spelled}
use Rattle.pj_element.specs.declared.forms.Spelled.TheVariants.{Good, Mixed as MixedCell, Not}
use Rattle.pj_element.specs.Forms.{pattern_of}
use Rattle.pj_plan.specs.declared.fault.PlanWhy.TheVariants.{Unreadable}
use Rattle.pj_plan.specs.declared.statement.Statement.{Statement}
use Rattle.pj_plan.specs.declared.statement.Statement.TheVariants.{Plan, Output, Bad}
use Rattle.pj_plan.specs.declared.statement.Stated.{Stated}
use Rattle.pj_plan.specs.declared.statement.ColumnWord.{ColumnWord}
use Rattle.pj_plan.specs.declared.statement.Renamed.{Renamed}
use Rattle.pj_plan.specs.declared.statement.TestWord.{TestWord}
use Rattle.pj_plan.specs.declared.statement.AggWord.{AggWord}
use Rattle.pj_plan.specs.declared.statement.AggWord.TheVariants.{Count, Sum, Min, Max}
use Rattle.pj_plan.specs.declared.statement.NamedAgg.{NamedAgg}
use Rattle.pj_plan.specs.Names.{is_name, is_column_name, is_class, is_agg, has_some, are_inputs, is_spelled, AreSpelled}
use Rattle.pj_plan_text.specs.Cuts.{all_of, cut_at, is_byte, parts_of}
use Rattle.pj_plan_text.specs.CellWords.{agg_named, agg_of, agg_over, class_in, class_of, column_in, column_name_of, column_of, kind_of, mark_of, name_of, named_agg_in, named_agg_of, of_kind, renamed, renamed_in, renamed_of, test_of, test_on, with_agg}
use Rattle.pj_plan_text.specs.Statements.{group_in, group_stated, inputs_of, is_word, join_in, join_stated, misshapen, output_stated, pairs_of, plan_stated, project_stated, scheme_stated, select_stated, some_of, some_pairs_of, stated_by, statement_of, stream_stated, union_stated, with_aggs, with_classes, with_columns, with_inputs, with_marks, with_renamed, with_tests}
use Rattle.pj_plan_text.specs.PlanRead.{is_passed, is_short, line_stated, stated_from, statement_in}

-- ---- tests

-- what is said under a test
if_said : {A : Type 0} (b : Bool) (y x : A) → (if b then Some y else None) ≡ Some x → (b ≡ true) × (y ≡ x)
if_said true y x is = (refl, cc is)
if_said false y x is = absurd (none-some x is)

-- ---- lists

both_parts : {A : Type 0} (o : Option A) (p : Option (List A)) (zs : List A) → both o p ≡ Some zs → (x : A) × (xs : List A) × (o ≡ Some x) × (p ≡ Some xs) × (zs ≡ x ∷ xs)
both_parts None p zs is = absurd (none-some zs is)
both_parts (Some x) None zs is = absurd (none-some zs is)
both_parts (Some x) (Some xs) zs is = (x, xs, refl, refl, cc is)

all_said : {A : Type 0} {B : Type 0} (f : A → Option B) (good : B → Bool) → ((cell : A) (x : B) → f cell ≡ Some x → good x ≡ true) → (cells : List A) (zs : List B) → all_of f cells ≡ Some zs → list_all good zs ≡ true
all_said f good each [] zs is = let none : [] ≡ zs = cc is in subst (λ (l : List _). list_all good l ≡ true) none refl
all_said f good each (c ∷ cs) zs is =
    let parts = both_parts (f c) (all_of f cs) zs is in
    subst (λ (l : List _). list_all good l ≡ true) (sym parts.4)
    (and_from (good parts.0) (list_all good parts.1) (each c parts.0 parts.2) (all_said f good each cs parts.1 parts.3))

as_many : {A : Type 0} {B : Type 0} (f : A → Option B) (cells : List A) (zs : List B) → all_of f cells ≡ Some zs → length zs ≡ length cells
as_many f [] zs is = let none : zs ≡ [] = cc is in ap length none
as_many f (c ∷ cs) zs is =
    let parts = both_parts (f c) (all_of f cs) zs is in
    omega (arith, ap length parts.4, as_many f cs parts.1 parts.3)

some_many : {B : Type 0} (f : List ℕ → Option B) (cells : List (List ℕ)) (zs : List B) → some_of f cells ≡ Some zs → (has_some zs ≡ true) × (all_of f cells ≡ Some zs)
some_many f [] zs is = absurd (none-some zs is)
some_many f (c ∷ cs) zs is =
    let parts = both_parts (f c) (all_of f cs) zs is in
    (subst (λ (l : List _). has_some l ≡ true) (sym parts.4) refl, is)

-- ---- cells

name_good : (cell x : List ℕ) → name_of cell ≡ Some x → is_name x ≡ true
name_good cell x is = let said = if_said (is_name cell) cell x is in subst (λ (n : List ℕ). is_name n ≡ true) said.1 said.0

column_name_good : (cell x : List ℕ) → column_name_of cell ≡ Some x → is_column_name x ≡ true
column_name_good cell x is = let said = if_said (is_column_name cell) cell x is in subst (λ (n : List ℕ). is_column_name n ≡ true) said.1 said.0

kind_good : (name : List ℕ) (k : Option Kind) (x : ColumnWord) → of_kind name k ≡ Some x → is_column_name x.name ≡ true
kind_good name None x is = absurd (none-some x is)
kind_good name (Some kind) x is =
    let said = if_said (is_column_name name) (record { name = name; kind = kind }) x is in subst (λ (c : ColumnWord). is_column_name c.name ≡ true) said.1 said.0

column_in_good : (o : Option (List ℕ × List ℕ)) (x : ColumnWord) → column_in o ≡ Some x → is_column_name x.name ≡ true
column_in_good None x is = absurd (none-some x is)
column_in_good (Some (name, word)) x is = kind_good name (kind_of word) x is

column_good : (cell : List ℕ) (x : ColumnWord) → column_of cell ≡ Some x → is_column_name x.name ≡ true
column_good cell x is = column_in_good (cut_at (is_byte 58) cell) x is

renamed_good : (new old : List ℕ) (x : Renamed) → renamed new old ≡ Some x → (is_column_name x.new && is_column_name x.old) ≡ true
renamed_good new old x is =
    let said = if_said (is_column_name new && is_column_name old) (record { new = new; old = old }) x is in
    subst (λ (c : Renamed). (is_column_name c.new && is_column_name c.old) ≡ true) said.1 said.0

renamed_in_good : (cell : List ℕ) (o : Option (List ℕ × List ℕ)) (x : Renamed) → renamed_in cell o ≡ Some x → (is_column_name x.new && is_column_name x.old) ≡ true
renamed_in_good cell None x is = renamed_good cell cell x is
renamed_in_good cell (Some (new, old)) x is = renamed_good new old x is

renamed_cell_good : (cell : List ℕ) (x : Renamed) → renamed_of cell ≡ Some x → (is_column_name x.new && is_column_name x.old) ≡ true
renamed_cell_good cell x is = renamed_in_good cell (cut_at (is_byte 61) cell) x is

class_in_good : (parts : List (List ℕ)) (x : List (List ℕ)) → class_in parts ≡ Some x → is_class x ≡ true
class_in_good parts x is = go (nat_le 2 (length parts)) refl is
  where
    go : (b : Bool) → nat_le 2 (length parts) ≡ b → (if b then all_of column_name_of parts else None) ≡ Some x → is_class x ≡ true
    go true two said =
        let same = as_many column_name_of parts x said in
        and_from (nat_le 2 (length x)) (list_all is_column_name x) (subst (λ (n : ℕ). nat_le 2 n ≡ true) (sym same) two) (all_said column_name_of is_column_name column_name_good parts x said)
    go false two said = absurd (none-some x said)

class_good : (cell : List ℕ) (x : List (List ℕ)) → class_of cell ≡ Some x → is_class x ≡ true
class_good cell x is = class_in_good (parts_of 61 cell) x is

agg_named_good : (word column : List ℕ) (x : AggWord) → is_column_name column ≡ true → agg_named word column ≡ Some x → is_agg x ≡ true
agg_named_good word column x good is = go (bytes_eq word (codes "sum")) (bytes_eq word (codes "min")) (bytes_eq word (codes "max")) is
  where
    go : (s m g : Bool) → (if s then Some (Sum column) else (if m then Some (Min column) else (if g then Some (Max column) else None))) ≡ Some x → is_agg x ≡ true
    go true m g said = let same : Sum column ≡ x = cc said in subst (λ (a : AggWord). is_agg a ≡ true) same good
    go false true g said = let same : Min column ≡ x = cc said in subst (λ (a : AggWord). is_agg a ≡ true) same good
    go false false true said = let same : Max column ≡ x = cc said in subst (λ (a : AggWord). is_agg a ≡ true) same good
    go false false false said = absurd (none-some x said)

agg_over_good : (o : Option (List ℕ × List ℕ)) (x : AggWord) → agg_over o ≡ Some x → is_agg x ≡ true
agg_over_good None x is = absurd (none-some x is)
agg_over_good (Some (word, column)) x is = go (is_column_name column) refl is
  where
    go : (b : Bool) → is_column_name column ≡ b → (if b then agg_named word column else None) ≡ Some x → is_agg x ≡ true
    go true good said = agg_named_good word column x good said
    go false good said = absurd (none-some x said)

agg_good : (word : List ℕ) (x : AggWord) → agg_of word ≡ Some x → is_agg x ≡ true
agg_good word x is = go (bytes_eq word (codes "count")) is
  where
    go : (b : Bool) → (if b then Some Count else agg_over (cut_at (is_byte 58) word)) ≡ Some x → is_agg x ≡ true
    go true said = let same : Count ≡ x = cc said in subst (λ (a : AggWord). is_agg a ≡ true) same refl
    go false said = agg_over_good (cut_at (is_byte 58) word) x said

abbrev good_agg : NamedAgg → Bool
good_agg word = is_column_name word.name && is_agg word.agg

with_agg_good : (name : List ℕ) (o : Option AggWord) (x : NamedAgg) → ((agg : AggWord) → o ≡ Some agg → is_agg agg ≡ true) → with_agg name o ≡ Some x → good_agg x ≡ true
with_agg_good name None x good is = absurd (none-some x is)
with_agg_good name (Some agg) x good is =
    let said = if_said (is_column_name name) (record { name = name; agg = agg }) x is in
    subst (λ (w : NamedAgg). good_agg w ≡ true) said.1 (and_from (is_column_name name) (is_agg agg) said.0 (good agg refl))

named_agg_in_good : (o : Option (List ℕ × List ℕ)) (x : NamedAgg) → named_agg_in o ≡ Some x → good_agg x ≡ true
named_agg_in_good None x is = absurd (none-some x is)
named_agg_in_good (Some (name, word)) x is = with_agg_good name (agg_of word) x (agg_good word) is

named_agg_good : (cell : List ℕ) (x : NamedAgg) → named_agg_of cell ≡ Some x → good_agg x ≡ true
named_agg_good cell x is = named_agg_in_good (cut_at (is_byte 61) cell) x is

test_on_good : (column : List ℕ) (s : Spelled) (x : TestWord) → test_on column s ≡ Some x → column ≡ x.column
test_on_good column (Good pattern) x is = cc is
test_on_good column MixedCell x is = cc is
test_on_good column Not x is = absurd (none-some x is)

test_good : (column cell : List ℕ) (x : TestWord) → test_of column cell ≡ Some x → is_column_name x.column ≡ true
test_good column cell x is = go (is_column_name column) refl is
  where
    go : (b : Bool) → is_column_name column ≡ b → (if b then test_on column (pattern_of cell) else None) ≡ Some x → is_column_name x.column ≡ true
    go true good said = subst (λ (n : List ℕ). is_column_name n ≡ true) (test_on_good column (pattern_of cell) x said) good
    go false good said = absurd (none-some x said)

-- the tests are half as many as the cells
pairs_good : (cells : List (List ℕ)) (zs : List TestWord) → pairs_of cells ≡ Some zs → (list_all (λ test. is_column_name test.column) zs ≡ true) × (2 * length zs ≤ length cells)
pairs_good [] zs is =
    let none : [] ≡ zs = cc is in
    subst (λ (l : List TestWord). (list_all (λ test. is_column_name test.column) l ≡ true) × (2 * length l ≤ 0)) none (refl, omega arith)
pairs_good (column ∷ []) zs is = absurd (none-some zs is)
pairs_good (column ∷ cell ∷ cells) zs is =
    let parts = both_parts (test_of column cell) (pairs_of cells) zs is in
    let others = pairs_good cells parts.1 parts.3 in (
      subst (λ (l : List TestWord). list_all (λ test. is_column_name test.column) l ≡ true) (sym parts.4)
          (and_from (is_column_name parts.0.column) (list_all (λ test. is_column_name test.column) parts.1) (test_good column cell parts.0 parts.2) others.0),
      omega (arith, ap length parts.4, others.1),
    )

some_pairs_many : (cells : List (List ℕ)) (zs : List TestWord) → some_pairs_of cells ≡ Some zs → (has_some zs ≡ true) × (pairs_of cells ≡ Some zs)
some_pairs_many [] zs is = absurd (none-some zs is)
some_pairs_many (column ∷ []) zs is = absurd (none-some zs is)
some_pairs_many (column ∷ cell ∷ cells) zs is =
    let parts = both_parts (test_of column cell) (pairs_of cells) zs is in
    (subst (λ (l : List TestWord). has_some l ≡ true) (sym parts.4) refl, is)

inputs_good : (cells zs : List (List ℕ)) → inputs_of cells ≡ Some zs → are_inputs zs ≡ true
inputs_good cells zs is = go (nat_le 2 (length cells)) refl is
  where
    go : (b : Bool) → nat_le 2 (length cells) ≡ b → (if b then all_of name_of cells else None) ≡ Some zs → are_inputs zs ≡ true
    go true two said =
        let same = as_many name_of cells zs said in
        and_from (nat_le 2 (length zs)) (list_all is_name zs) (subst (λ (n : ℕ). nat_le 2 n ≡ true) (sym same) two) (all_said name_of is_name name_good cells zs said)
    go false two said = absurd (none-some zs said)

-- ---- statements

abbrev IsGood : Statement → Type 0
IsGood statement = is_spelled statement ≡ true

-- under a test, the statement or a bad shape
under : (b : Bool) (statement : Statement) → (b ≡ true → IsGood statement) → IsGood (if b then statement else misshapen)
under true statement good = good refl
under false statement good = refl

stream_good : (name : List ℕ) (cells : List (List ℕ)) (o : Option (List ColumnWord)) → some_of column_of cells ≡ o → is_name name ≡ true → IsGood (with_columns name o)
stream_good name cells None is good = refl
stream_good name cells (Some zs) is good =
    let many = some_many column_of cells zs is in
    and_from (is_name name) _ good (and_from (has_some zs) _ many.0 (all_said column_of (λ column. is_column_name column.name) column_good cells zs many.1))

scheme_good : (name : List ℕ) (cells : List (List ℕ)) (o : Option (List Bool)) → some_of mark_of cells ≡ o → is_name name ≡ true → IsGood (with_marks name o)
scheme_good name cells None is good = refl
scheme_good name cells (Some zs) is good = and_from (is_name name) (has_some zs) good (some_many mark_of cells zs is).0

few_tests : (n m : ℕ) → 2 * n ≤ m → m ≤ 124 → nat_le n 62 ≡ true
few_tests n m half few = grind (arith, nat_tests)

select_good : (name input : List ℕ) (cells : List (List ℕ)) (o : Option (List TestWord)) → some_pairs_of cells ≡ o → length cells ≤ 124 → (is_name name && is_name input) ≡ true → IsGood (with_tests name input o)
select_good name input cells None is few good = refl
select_good name input cells (Some zs) is few good =
    let many = some_pairs_many cells zs is in
    let all = pairs_good cells zs many.1 in
    and_from (is_name name && is_name input) _ good
    (and_from (has_some zs && nat_le (length zs) 62) _ (and_from (has_some zs) (nat_le (length zs) 62) many.0 (few_tests (length zs) (length cells) all.1 few)) all.0)

project_good : (name input : List ℕ) (cells : List (List ℕ)) (o : Option (List Renamed)) → some_of renamed_of cells ≡ o → (is_name name && is_name input) ≡ true → IsGood (with_renamed name input o)
project_good name input cells None is good = refl
project_good name input cells (Some zs) is good =
    let many = some_many renamed_of cells zs is in
    and_from (is_name name && is_name input) _ good
    (and_from (has_some zs) _ many.0 (all_said renamed_of (λ column. is_column_name column.new && is_column_name column.old) renamed_cell_good cells zs many.1))

union_good : (name : List ℕ) (cells : List (List ℕ)) (o : Option (List (List ℕ))) → inputs_of cells ≡ o → is_name name ≡ true → IsGood (with_inputs name o)
union_good name cells None is good = refl
union_good name cells (Some zs) is good = and_from (is_name name) (are_inputs zs) good (inputs_good cells zs is)

classes_good : (name : List ℕ) (inputs classes : List (List ℕ)) (o : Option (List (List ℕ))) (p : Option (List (List (List ℕ)))) → inputs_of inputs ≡ o → some_of class_of classes ≡ p → is_name name ≡ true → IsGood (with_classes name o p)
classes_good name inputs classes None p is so good = refl
classes_good name inputs classes (Some zs) None is so good = refl
classes_good name inputs classes (Some zs) (Some cs) is so good =
    let many = some_many class_of classes cs so in
    and_from (is_name name && are_inputs zs) _ (and_from (is_name name) (are_inputs zs) good (inputs_good inputs zs is))
    (and_from (has_some cs) (list_all is_class cs) many.0 (all_said class_of is_class class_good classes cs many.1))

join_good : (name : List ℕ) (o : Option (List (List ℕ) × List (List ℕ))) → is_name name ≡ true → IsGood (join_in name o)
join_good name None good = refl
join_good name (Some (inputs, classes)) good = classes_good name inputs classes (inputs_of inputs) (some_of class_of classes) refl refl good

aggs_good : (name input : List ℕ) (keys aggs : List (List ℕ)) (o : Option (List (List ℕ))) (p : Option (List NamedAgg)) → some_of column_name_of keys ≡ o → some_of named_agg_of aggs ≡ p → (is_name name && is_name input) ≡ true → IsGood (with_aggs name input o p)
aggs_good name input keys aggs None p is so good = refl
aggs_good name input keys aggs (Some ks) None is so good = refl
aggs_good name input keys aggs (Some ks) (Some zs) is so good =
    let named = some_many column_name_of keys ks is in
    let many = some_many named_agg_of aggs zs so in
    and_from (is_name name && is_name input) _ good
    (and_from (has_some ks && list_all is_column_name ks) _ (and_from (has_some ks) _ named.0 (all_said column_name_of is_column_name column_name_good keys ks named.1))
    (and_from (has_some zs) _ many.0 (all_said named_agg_of good_agg named_agg_good aggs zs many.1)))

group_good : (name input : List ℕ) (o : Option (List (List ℕ) × List (List ℕ))) → (is_name name && is_name input) ≡ true → IsGood (group_in name input o)
group_good name input None good = refl
group_good name input (Some (keys, aggs)) good = aggs_good name input keys aggs (some_of column_name_of keys) (some_of named_agg_of aggs) refl refl good

-- ---- statements, behind their first word

-- the first of two where the test holds
either : (b : Bool) (s t : Statement) → IsGood s → IsGood t → IsGood (if b then s else t)
either true s t p q = p
either false s t p q = q

plan_spelled : (cells : List (List ℕ)) → IsGood (plan_stated cells)
plan_spelled [] = refl
plan_spelled (version ∷ []) = either (bytes_eq version (codes "1")) (Plan 1) _ refl refl
plan_spelled (version ∷ more ∷ cells) = refl

stream_spelled : (cells : List (List ℕ)) → IsGood (stream_stated cells)
stream_spelled [] = refl
stream_spelled (name ∷ cells) = under (is_name name) _ (stream_good name cells (some_of column_of cells) refl)

scheme_spelled : (cells : List (List ℕ)) → IsGood (scheme_stated cells)
scheme_spelled [] = refl
scheme_spelled (name ∷ cells) = under (is_name name) _ (scheme_good name cells (some_of mark_of cells) refl)

select_spelled : (cells : List (List ℕ)) → length cells ≤ 127 → IsGood (select_stated cells)
select_spelled [] few = refl
select_spelled (name ∷ []) few = refl
select_spelled (name ∷ input ∷ []) few = refl
select_spelled (name ∷ input ∷ word ∷ cells) few =
    under ((is_name name && is_name input) && is_word (codes "where") word) _ (λ good.
    select_good name input cells (some_pairs_of cells) refl (omega (arith, few)) (and_parts (is_name name && is_name input) (is_word (codes "where") word) good).0)

project_spelled : (cells : List (List ℕ)) → IsGood (project_stated cells)
project_spelled [] = refl
project_spelled (name ∷ []) = refl
project_spelled (name ∷ input ∷ cells) = under (is_name name && is_name input) _ (project_good name input cells (some_of renamed_of cells) refl)

union_spelled : (cells : List (List ℕ)) → IsGood (union_stated cells)
union_spelled [] = refl
union_spelled (name ∷ cells) = under (is_name name) _ (union_good name cells (inputs_of cells) refl)

join_spelled : (cells : List (List ℕ)) → IsGood (join_stated cells)
join_spelled [] = refl
join_spelled (name ∷ cells) = under (is_name name) _ (join_good name (cut_at (is_word (codes "on")) cells))

group_spelled : (cells : List (List ℕ)) → IsGood (group_stated cells)
group_spelled [] = refl
group_spelled (name ∷ []) = refl
group_spelled (name ∷ input ∷ []) = refl
group_spelled (name ∷ input ∷ word ∷ cells) =
    under ((is_name name && is_name input) && is_word (codes "by") word) _ (λ good.
    group_good name input (cut_at (is_word (codes "of")) cells) (and_parts (is_name name && is_name input) (is_word (codes "by") word) good).0)

output_spelled : (cells : List (List ℕ)) → IsGood (output_stated cells)
output_spelled [] = refl
output_spelled (name ∷ []) = under (is_name name) (Output name) (λ good. good)
output_spelled (name ∷ more ∷ cells) = refl

stated_spelled : (word : List ℕ) (cells : List (List ℕ)) → length cells ≤ 127 → IsGood (stated_by word cells)
stated_spelled word cells few =
    either (bytes_eq word (codes "plan")) _ _ (plan_spelled cells)
    (either (bytes_eq word (codes "stream")) _ _ (stream_spelled cells)
    (either (bytes_eq word (codes "scheme")) _ _ (scheme_spelled cells)
    (either (bytes_eq word (codes "select")) _ _ (select_spelled cells few)
    (either (bytes_eq word (codes "project")) _ _ (project_spelled cells)
    (either (bytes_eq word (codes "union")) _ _ (union_spelled cells)
    (either (bytes_eq word (codes "join")) _ _ (join_spelled cells)
    (either (bytes_eq word (codes "group")) _ _ (group_spelled cells)
    (either (bytes_eq word (codes "output")) _ _ (output_spelled cells) refl))))))))

-- ---- lines

pub statement_spelled : (cells : List (List ℕ)) → length cells ≤ 128 → IsGood (statement_of cells)
statement_spelled [] few = refl
statement_spelled (word ∷ cells) few = stated_spelled word cells (omega (arith, few))

statement_in_spelled : (o : Option (List (List ℕ))) → IsGood (statement_in o)
statement_in_spelled None = refl
statement_in_spelled (Some cells) = go (nat_le (length cells) 128) refl
  where
    go : (b : Bool) → nat_le (length cells) 128 ≡ b → IsGood (if b then statement_of cells else Bad Unreadable)
    go true few = statement_spelled cells (grind (arith, nat_tests))
    go false few = refl

line_spelled : (piece : List ℕ) → IsGood (line_stated piece)
line_spelled piece = either (is_short piece) _ _ (statement_in_spelled (cells_of (line_of piece))) refl

all_spelled : (line : ℕ) (ps : List (List ℕ)) → AreSpelled (map (λ stated. stated.what) (stated_from line ps))
all_spelled line [] = refl
all_spelled line (piece ∷ ps) = go (is_passed piece) (all_spelled (line + 1) ps)
  where
    go : (b : Bool) → AreSpelled (map (λ stated. stated.what) (stated_from (line + 1) ps))
        → AreSpelled (map (λ stated. stated.what) (if b then stated_from (line + 1) ps else record { line = line; what = line_stated piece } ∷ stated_from (line + 1) ps))
    go true others = others
    go false others = and_from (is_spelled (line_stated piece)) (list_all is_spelled (map (λ stated. stated.what) (stated_from (line + 1) ps))) (line_spelled piece) others

pub lines_spelled : (bytes : List ℕ) (statements : List Stated) → statements ≡ stated_from 1 (pieces bytes) → AreSpelled (map (λ stated. stated.what) statements)
lines_spelled bytes statements is = subst (λ (ss : List Stated). AreSpelled (map (λ stated. stated.what) ss)) (sym is) (all_spelled 1 (pieces bytes))
