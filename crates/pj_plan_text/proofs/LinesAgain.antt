-- Statements are read again from their canonical lines.
use Rattle.std.proofs.Common.{◌≡◌, ◌≢◌, ℕ, ◌-◌, ◌≤◌, ◌<◌, Bool, true, false, not, cond, ◌&&◌, ◌||◌, ◌==◌, List, [], ◌∷◌, ◌++◌, Option, Some, None, map, length, refl, ap, sym, ◌∙◌, subst, append-nil, arith}
use Rattle.std.specs.Prelude.{⊤, nat_le, nat_lt, codes, slice_index}
use Rattle.std.specs.List.{All, list_all}
use Rattle.std.specs.Str.{bytes_eq}
use Rattle.std.proofs.lemmas.Bool.{and_parts, false≢true, eqb-true}
use Rattle.std.proofs.lemmas.Bool.Decides.{nat_tests}
use Rattle.std.proofs.lemmas.Fmt.{decimal_digit}
use Rattle.std.proofs.lemmas.Option.{none-some}
use Rattle.std.proofs.lemmas.List.Elements.{All-append, All-cons}
use Rattle.std.proofs.lemmas.List.Folds.{list_all-append}
use Rattle.pj_value.specs.declared.values.Value.{Value}
use Rattle.pj_value.specs.declared.values.Kind.{Kind}
use Rattle.pj_value.specs.declared.values.Kind.TheVariants.{Int, Text}
use Rattle.pj_value.specs.Texts.{value_spelling}
use Rattle.pj_value.specs.Laws.{IsPrintable}
use Rattle.pj_value.proofs.Printable.{spelling_is}
use Rattle.pj_line.specs.Lines.{is_blank, line_of}
use Rattle.pj_line.specs.Cells.{cells_of}
use Rattle.pj_pattern.specs.declared.pattern.Form.{Form}
use Rattle.pj_pattern.specs.declared.pattern.Form.TheVariants.{Wild, Empty, Constant, Range, Members}
use Rattle.pj_element.specs.Elements.{end_spelling, members_spelling, more_members, pattern_spelling}
use Rattle.pj_element.specs.Reading.{AreParts, AreCells, IsCell, end_quote, first_cell, last_cell, no_part, plain_byte, quoted_part}
use Rattle.pj_element.proofs.LinesAgain.{pattern_cell}
use Rattle.pj_element.proofs.ReadCells.{cells_are}
use Rattle.pj_plan.specs.declared.statement.Statement.{Statement}
use Rattle.pj_plan.specs.declared.statement.Statement.TheVariants.{Plan, Stream, Scheme, Select, Project, Union, Join, Group, Output, Bad}
use Rattle.pj_plan.specs.declared.statement.ColumnWord.{ColumnWord}
use Rattle.pj_plan.specs.declared.statement.Renamed.{Renamed}
use Rattle.pj_plan.specs.declared.statement.TestWord.{TestWord}
use Rattle.pj_plan.specs.declared.statement.Test.{Test}
use Rattle.pj_plan.specs.declared.statement.Test.TheVariants.{One, Mixed}
use Rattle.pj_plan.specs.declared.statement.AggWord.{AggWord}
use Rattle.pj_plan.specs.declared.statement.AggWord.TheVariants.{Count, Sum, Min, Max}
use Rattle.pj_plan.specs.declared.statement.NamedAgg.{NamedAgg}
use Rattle.pj_plan.specs.Names.{are_inputs, has_some, is_agg, is_class, is_column_name, is_name, is_name_byte, is_word as is_name_word}
use Rattle.pj_plan_text.specs.CellWords.{class_of, column_name_of, column_of, mark_of, name_of, named_agg_of, renamed_of}
use Rattle.pj_plan_text.specs.Laws.{AreKeptTests, HasLine, IsKeptTest, StatementsAreReadAgain}
use Rattle.pj_plan_text.specs.PlanRead.{line_stated, statement_in}
use Rattle.pj_plan_text.specs.Spelling.{agg_cell, class_cell, column_cell, each_behind, kind_word, mark_cell, named_agg_cell, parted, renamed_cell, spell, test_cell, test_cells, cells_in}
use Rattle.pj_plan_text.specs.Statements.{group_in, inputs_of, is_word, join_in, pairs_of, some_of, some_pairs_of, statement_of, with_aggs, with_classes, with_columns, with_inputs, with_marks, with_renamed, with_tests}
use Rattle.pj_plan_text.proofs.CellsAgain.{NonePass, all_same, class_again, column_again, column_bytes, column_name_again, cut_found, mark_again, name_again, name_is_column, named_agg_again, pairs_again, renamed_again, some_again, some_same}

-- ---- bytes of cells

-- no control byte, blank or quote
abbrev is_plain : ℕ → Bool
is_plain b = (nat_lt 32 b && nat_lt b 127) && not (b == 34)

-- a cell without control bytes
abbrev IsNeat : List ℕ → Type 0
IsNeat cell = IsCell cell × All IsPrintable cell

abbrev AreNeat : List (List ℕ) → Type 0
AreNeat [] = ⊤
AreNeat (cell ∷ cells) = IsNeat cell × AreNeat cells

none : All IsPrintable []
none k d h = absurd (omega arith)

plain_printable : (b : ℕ) → is_plain b ≡ true → IsPrintable b
plain_printable b is = (grind (arith, nat_tests), grind (arith, nat_tests))

plain_no_blank : (b : ℕ) → is_plain b ≡ true → is_blank b ≡ false
plain_no_blank b is = grind (arith, nat_tests)

plain_no_quote : (b : ℕ) → is_plain b ≡ true → b ≢ 34
plain_no_quote b is = grind (arith, nat_tests)

plain_parts : (cell : List ℕ) → list_all is_plain cell ≡ true → AreParts cell
plain_parts [] all = no_part
plain_parts (b ∷ bs) all =
    let parts = and_parts (is_plain b) (list_all is_plain bs) all in
    plain_byte b (plain_no_blank b parts.0) (plain_no_quote b parts.0) (plain_parts bs parts.1)

plain_all : (cell : List ℕ) → list_all is_plain cell ≡ true → All IsPrintable cell
plain_all [] all = none
plain_all (b ∷ bs) all =
    let parts = and_parts (is_plain b) (list_all is_plain bs) all in
    All-cons IsPrintable b bs (plain_printable b parts.0) (plain_all bs parts.1)

neat : (cell : List ℕ) → list_all is_plain cell ≡ true → 0 < length cell → IsNeat cell
neat cell all some = ((some, plain_parts cell all), plain_all cell all)

plain_both : (front back : List ℕ) → list_all is_plain front ≡ true → list_all is_plain back ≡ true → list_all is_plain (front ++ back) ≡ true
plain_both front back p q = rw (list_all-append is_plain front back, p, q) refl

name_plain : (b : ℕ) → is_name_byte b ≡ true → is_plain b ≡ true
name_plain b is = grind (arith, nat_tests)

names_plain : (cell : List ℕ) → list_all is_name_byte cell ≡ true → list_all is_plain cell ≡ true
names_plain [] all = refl
names_plain (b ∷ bs) all =
    let parts = and_parts (is_name_byte b) (list_all is_name_byte bs) all in
    rw (name_plain b parts.0, names_plain bs parts.1) refl

column_plain : (cell : List ℕ) → is_column_name cell ≡ true → list_all is_plain cell ≡ true
column_plain cell good = names_plain cell (column_bytes cell good)

column_some : (cell : List ℕ) → is_column_name cell ≡ true → 0 < length cell
column_some [] good = absurd (false≢true good)
column_some (b ∷ bs) good = omega arith

column_neat : (cell : List ℕ) → is_column_name cell ≡ true → IsNeat cell
column_neat cell good = neat cell (column_plain cell good) (column_some cell good)

name_neat : (cell : List ℕ) → is_name cell ≡ true → IsNeat cell
name_neat cell good = column_neat cell (name_is_column cell good)

-- a name with plain bytes behind it
longer : (name back : List ℕ) → is_column_name name ≡ true → list_all is_plain back ≡ true → IsNeat (name ++ back)
longer name back good all = neat (name ++ back) (plain_both name back (column_plain name good) all) (some name (column_some name good))
  where
    some : (front : List ℕ) → 0 < length front → 0 < length (front ++ back)
    some [] h = absurd (omega (arith, h))
    some (b ∷ bs) h = omega arith

-- ---- cells

each_neat : {A : Type 0} (cell : A → List ℕ) (good : A → Bool) → ((x : A) → good x ≡ true → IsNeat (cell x)) → (xs : List A) → list_all good xs ≡ true → AreNeat (map cell xs)
each_neat cell good each [] all = tt
each_neat cell good each (x ∷ xs) all =
    let parts = and_parts (good x) (list_all good xs) all in (each x parts.0, each_neat cell good each xs parts.1)

same_neat : (good : List ℕ → Bool) → ((x : List ℕ) → good x ≡ true → IsNeat x) → (xs : List (List ℕ)) → list_all good xs ≡ true → AreNeat xs
same_neat good each [] all = tt
same_neat good each (x ∷ xs) all = let parts = and_parts (good x) (list_all good xs) all in (each x parts.0, same_neat good each xs parts.1)

both_neat : (cells others : List (List ℕ)) → AreNeat cells → AreNeat others → AreNeat (cells ++ others)
both_neat [] others p q = q
both_neat (c ∷ cs) others p q = (p.0, both_neat cs others p.1 q)

kind_plain : (kind : Kind) → list_all is_plain (58 ∷ kind_word kind) ≡ true
kind_plain Int = refl
kind_plain Text = refl

column_cell_neat : (c : ColumnWord) → is_column_name c.name ≡ true → IsNeat (column_cell c)
column_cell_neat c good = longer c.name (58 ∷ kind_word c.kind) good (kind_plain c.kind)

mark_neat : (m : Bool) → true ≡ true → IsNeat (mark_cell m)
mark_neat true good = neat (43 ∷ []) refl (omega arith)
mark_neat false good = neat (95 ∷ []) refl (omega arith)

renamed_neat : (w : Renamed) → (is_column_name w.new && is_column_name w.old) ≡ true → IsNeat (renamed_cell w)
renamed_neat w good = go (bytes_eq w.new w.old)
  where
    parts : (is_column_name w.new ≡ true) × (is_column_name w.old ≡ true)
    parts = and_parts (is_column_name w.new) (is_column_name w.old) good

    go : (b : Bool) → IsNeat (cond b w.old (w.new ++ 61 ∷ w.old))
    go true = column_neat w.old parts.1
    go false = longer w.new (61 ∷ w.old) parts.0 (column_plain w.old parts.1)

more_plain : (names : List (List ℕ)) → list_all is_column_name names ≡ true → list_all is_plain (each_behind 61 names) ≡ true
more_plain [] all = refl
more_plain (name ∷ names) all =
    let parts = and_parts (is_column_name name) (list_all is_column_name names) all in
    plain_both name (each_behind 61 names) (column_plain name parts.0) (more_plain names parts.1)

class_neat : (names : List (List ℕ)) → is_class names ≡ true → IsNeat (class_cell names)
class_neat [] good = absurd (false≢true good)
class_neat (name ∷ names) good =
    let all = (and_parts (nat_le 2 (length (name ∷ names))) (list_all is_column_name (name ∷ names)) good).1 in
    let parts = and_parts (is_column_name name) (list_all is_column_name names) all in
    longer name (each_behind 61 names) parts.0 (more_plain names parts.1)

agg_plain : (agg : AggWord) → is_agg agg ≡ true → list_all is_plain (61 ∷ agg_cell agg) ≡ true
agg_plain Count good = refl
agg_plain (Sum column) good = column_plain column good
agg_plain (Min column) good = column_plain column good
agg_plain (Max column) good = column_plain column good

named_agg_neat : (w : NamedAgg) → (is_column_name w.name && is_agg w.agg) ≡ true → IsNeat (named_agg_cell w)
named_agg_neat w good =
    let parts = and_parts (is_column_name w.name) (is_agg w.agg) good in longer w.name (61 ∷ agg_cell w.agg) parts.0 (agg_plain w.agg parts.1)

-- ---- patterns

end_printable : (end : Option Value) → All IsPrintable (end_spelling end)
end_printable None = none
end_printable (Some v) = spelling_is v

byte_printable : (b : ℕ) (bs : List ℕ) → is_plain b ≡ true → All IsPrintable bs → All IsPrintable (b ∷ bs)
byte_printable b bs is all = All-cons IsPrintable b bs (plain_printable b is) all

more_printable : (vs : List Value) → All IsPrintable (more_members vs)
more_printable [] = none
more_printable (v ∷ vs) = byte_printable 124 (value_spelling v ++ more_members vs) refl (All-append IsPrintable (value_spelling v) (more_members vs) (spelling_is v) (more_printable vs))

members_printable : (vs : List Value) → All IsPrintable (members_spelling vs)
members_printable [] = none
members_printable (v ∷ vs) = All-append IsPrintable (value_spelling v) (more_members vs) (spelling_is v) (more_printable vs)

pattern_printable : (p : Form) → All IsPrintable (pattern_spelling p)
pattern_printable Wild = plain_all (42 ∷ []) refl
pattern_printable Empty = plain_all (123 ∷ 125 ∷ []) refl
pattern_printable (Constant v) = spelling_is v
pattern_printable (Range low high) =
    byte_printable 91 _ refl (All-append IsPrintable (end_spelling low ++ 46 ∷ 46 ∷ end_spelling high) (93 ∷ [])
    (All-append IsPrintable (end_spelling low) (46 ∷ 46 ∷ end_spelling high) (end_printable low) (byte_printable 46 (46 ∷ end_spelling high) refl (byte_printable 46 (end_spelling high) refl (end_printable high))))
    (plain_all (93 ∷ []) refl))
pattern_printable (Members vs) =
    byte_printable 123 (members_spelling vs ++ 125 ∷ []) refl (All-append IsPrintable (members_spelling vs) (125 ∷ []) (members_printable vs) (plain_all (125 ∷ []) refl))

mixed_parts : AreParts (test_cell Mixed)
mixed_parts =
    plain_byte 123 refl (λ e. omega (arith, e)) (plain_byte 48 refl (λ e. omega (arith, e)) (plain_byte 124 refl (λ e. omega (arith, e))
    (quoted_part (34 ∷ []) end_quote (plain_byte 125 refl (λ e. omega (arith, e)) no_part))))

test_neat : (test : Test) → IsKeptTest test → IsNeat (test_cell test)
test_neat (One p) kept = (pattern_cell p kept.0, pattern_printable p)
test_neat Mixed kept = (
  (omega arith, mixed_parts),
  All-append IsPrintable (123 ∷ 48 ∷ 124 ∷ []) (34 ∷ 34 ∷ 125 ∷ []) (plain_all (123 ∷ 48 ∷ 124 ∷ []) refl)
      (All-cons IsPrintable 34 (34 ∷ 125 ∷ []) (omega arith, λ e. omega (arith, e)) (All-cons IsPrintable 34 (125 ∷ []) (omega arith, λ e. omega (arith, e)) (plain_all (125 ∷ []) refl))),
)

tests_neat : (tests : List TestWord) → list_all (λ test. is_column_name test.column) tests ≡ true → AreKeptTests tests → AreNeat (test_cells tests)
tests_neat [] all kept = tt
tests_neat (t ∷ ts) all kept =
    let parts = and_parts (is_column_name t.column) (list_all (λ test. is_column_name test.column) ts) all in
    (column_neat t.column parts.0, (test_neat t.test kept.0, tests_neat ts parts.1 kept.1))

-- ---- the cells of a line

cut_cells : (cell : List ℕ) (cells : List (List ℕ)) → IsNeat cell → AreNeat cells → AreCells (parted 32 (cell ∷ cells)) (cell ∷ cells)
cut_cells cell [] one others = subst (λ (line : List ℕ). AreCells line (cell ∷ [])) (sym (append-nil cell)) (last_cell cell one.0)
cut_cells cell (d ∷ ds) one others = first_cell cell 32 one.0 refl (cut_cells d ds others.0 others.1)

behind_printable : (cells : List (List ℕ)) → AreNeat cells → All IsPrintable (each_behind 32 cells)
behind_printable [] all = none
behind_printable (c ∷ cs) all =
    All-cons IsPrintable 32 (c ++ each_behind 32 cs) (omega arith, λ e. omega (arith, e)) (All-append IsPrintable c (each_behind 32 cs) all.0.1 (behind_printable cs all.1))

line_printable : (cell : List ℕ) (cells : List (List ℕ)) → IsNeat cell → AreNeat cells → All IsPrintable (parted 32 (cell ∷ cells))
line_printable cell cells one others = All-append IsPrintable cell (each_behind 32 cells) one.1 (behind_printable cells others)

no_return : (line : List ℕ) → All IsPrintable line → (slice_index line (length line - 1) == 13) ≡ false
no_return [] all = refl
no_return (b ∷ bs) all =
    let last = all (length (b ∷ bs) - 1) 0 (omega arith) in
    grind (arith, nat_tests, last.0)

whole_line : (line : List ℕ) → All IsPrintable line → line_of line ≡ line
whole_line line all = rw (no_return line all) refl

line_says : (cell : List ℕ) (cells : List (List ℕ)) → IsNeat cell → AreNeat cells → length (cell ∷ cells) ≤ 128 → length (parted 32 (cell ∷ cells)) ≤ 65536 → line_stated (parted 32 (cell ∷ cells)) ≡ statement_of (cell ∷ cells)
line_says cell cells one others few short =
    let line = parted 32 (cell ∷ cells) in
    let brief : nat_le (length line) 65536 ≡ true = grind (arith, nat_tests, short) in
    let under : nat_le (length (cell ∷ cells)) 128 ≡ true = grind (arith, nat_tests, few) in
    rw brief (ap (λ (l : List ℕ). statement_in (cells_of l)) (whole_line line (line_printable cell cells one others))
    ∙ (ap statement_in (cells_are line (cell ∷ cells) (cut_cells cell cells one others)) ∙ rw under refl))

-- ---- statements

not_first : (a b : Bool) → not (a || b) ≡ true → a ≡ false
not_first true b is = absurd (false≢true is)
not_first false b is = refl

not_true : (a : Bool) → not a ≡ true → a ≡ false
not_true true is = absurd (false≢true is)
not_true false is = refl

no_on : (names : List (List ℕ)) → list_all is_name names ≡ true → NonePass (is_word (codes "on")) names
no_on [] all = tt
no_on (name ∷ names) all =
    let parts = and_parts (is_name name) (list_all is_name names) all in
    let other = (and_parts (is_column_name name) _ parts.0).1 in
    (not_first (bytes_eq name (codes "on")) _ other, no_on names parts.1)

no_of : (names : List (List ℕ)) → list_all is_column_name names ≡ true → NonePass (is_word (codes "of")) names
no_of [] all = tt
no_of (name ∷ names) all =
    let parts = and_parts (is_column_name name) (list_all is_column_name names) all in
    let other = (and_parts (is_name_word name) _ parts.0).1 in
    (not_true (bytes_eq name (codes "of")) other, no_of names parts.1)

inputs_again : (names : List (List ℕ)) → are_inputs names ≡ true → inputs_of names ≡ Some names
inputs_again names good =
    let parts = and_parts (nat_le 2 (length names)) (list_all is_name names) good in rw parts.0 (all_same name_of is_name name_again names parts.1)

inputs_neat : (names : List (List ℕ)) → are_inputs names ≡ true → AreNeat names
inputs_neat names good = same_neat is_name name_neat names (and_parts (nat_le 2 (length names)) (list_all is_name names) good).1

plan_again : line_stated (spell (Plan 1)) ≡ Plan 1
plan_again =
    ap (λ (cell : List ℕ). line_stated (parted 32 (codes "plan" ∷ cell ∷ []))) (decimal_digit 1 (omega arith))
    ∙ line_says (codes "plan") (codes "1" ∷ []) (neat (codes "plan") refl (omega arith)) (neat (codes "1") refl (omega arith), tt) (omega arith) (omega arith)

marks_good : (marks : List Bool) → list_all (λ mark. true) marks ≡ true
marks_good [] = refl
marks_good (m ∷ ms) = marks_good ms

plan_neat : AreNeat (cells_in (Plan 1))
plan_neat = (neat (codes "plan") refl (omega arith), (subst IsNeat (sym (decimal_digit 1 (omega arith))) (neat (codes "1") refl (omega arith)), tt))

stream_neat : (name : List ℕ) (columns : List ColumnWord) → HasLine (Stream name columns) → AreNeat (cells_in (Stream name columns))
stream_neat name columns line =
    let good = and_parts (is_name name) _ line.spelled in
    let all = and_parts (has_some columns) (list_all (λ column. is_column_name column.name) columns) good.1 in
    ((neat (codes "stream") refl (omega arith)), (name_neat name good.0, each_neat column_cell (λ column. is_column_name column.name) column_cell_neat columns all.1))

scheme_neat : (stream : List ℕ) (marks : List Bool) → HasLine (Scheme stream marks) → AreNeat (cells_in (Scheme stream marks))
scheme_neat stream marks line =
    let good = and_parts (is_name stream) (has_some marks) line.spelled in
    ((neat (codes "scheme") refl (omega arith)), (name_neat stream good.0, each_neat mark_cell (λ mark. true) mark_neat marks (marks_good marks)))

select_neat : (name input : List ℕ) (tests : List TestWord) → HasLine (Select name input tests) → AreNeat (cells_in (Select name input tests))
select_neat name input tests line =
    let good = and_parts (is_name name && is_name input) _ line.spelled in
    let both = and_parts (is_name name) (is_name input) good.0 in
    let all = and_parts (has_some tests && nat_le (length tests) 62) (list_all (λ test. is_column_name test.column) tests) good.1 in
    let some = and_parts (has_some tests) (nat_le (length tests) 62) all.0 in
    ((neat (codes "select") refl (omega arith)), (name_neat name both.0, (name_neat input both.1, (neat (codes "where") refl (omega arith), tests_neat tests all.1 line.kept))))

project_neat : (name input : List ℕ) (columns : List Renamed) → HasLine (Project name input columns) → AreNeat (cells_in (Project name input columns))
project_neat name input columns line =
    let good = and_parts (is_name name && is_name input) _ line.spelled in
    let both = and_parts (is_name name) (is_name input) good.0 in
    let all = and_parts (has_some columns) (list_all (λ column. is_column_name column.new && is_column_name column.old) columns) good.1 in
    ((neat (codes "project") refl (omega arith)), (name_neat name both.0, (name_neat input both.1, each_neat renamed_cell (λ column. is_column_name column.new && is_column_name column.old) renamed_neat columns all.1)))

union_neat : (name : List ℕ) (inputs : List (List ℕ)) → HasLine (Union name inputs) → AreNeat (cells_in (Union name inputs))
union_neat name inputs line =
    let good = and_parts (is_name name) (are_inputs inputs) line.spelled in
    ((neat (codes "union") refl (omega arith)), (name_neat name good.0, inputs_neat inputs good.1))

join_neat : (name : List ℕ) (inputs : List (List ℕ)) (classes : List (List (List ℕ))) → HasLine (Join name inputs classes) → AreNeat (cells_in (Join name inputs classes))
join_neat name inputs classes line =
    let good = and_parts (is_name name && are_inputs inputs) _ line.spelled in
    let both = and_parts (is_name name) (are_inputs inputs) good.0 in
    let all = and_parts (has_some classes) (list_all is_class classes) good.1 in
    let cells = map class_cell classes in
    ((neat (codes "join") refl (omega arith)), (name_neat name both.0, both_neat inputs (codes "on" ∷ cells) (inputs_neat inputs both.1) (neat (codes "on") refl (omega arith), each_neat class_cell is_class class_neat classes all.1)))

group_neat : (name input : List ℕ) (keys : List (List ℕ)) (aggs : List NamedAgg) → HasLine (Group name input keys aggs) → AreNeat (cells_in (Group name input keys aggs))
group_neat name input keys aggs line =
    let good = and_parts (is_name name && is_name input) _ line.spelled in
    let both = and_parts (is_name name) (is_name input) good.0 in
    let parts = and_parts (has_some keys && list_all is_column_name keys) _ good.1 in
    let named = and_parts (has_some keys) (list_all is_column_name keys) parts.0 in
    let all = and_parts (has_some aggs) (list_all (λ agg. is_column_name agg.name && is_agg agg.agg) aggs) parts.1 in
    let cells = map named_agg_cell aggs in (
      (neat (codes "group") refl (omega arith)),
      (
        name_neat name both.0,
        (
          name_neat input both.1,
          (
            neat (codes "by") refl (omega arith),
            both_neat keys (codes "of" ∷ cells) (same_neat is_column_name column_neat keys named.1) (neat (codes "of") refl (omega arith), each_neat named_agg_cell (λ agg. is_column_name agg.name && is_agg agg.agg) named_agg_neat aggs all.1),
          ),
        ),
      ),
    )

output_neat : (name : List ℕ) → HasLine (Output name) → AreNeat (cells_in (Output name))
output_neat name line =
    ((neat (codes "output") refl (omega arith)), (name_neat name line.spelled, tt))

stream_again : (name : List ℕ) (columns : List ColumnWord) → HasLine (Stream name columns) → line_stated (spell (Stream name columns)) ≡ Stream name columns
stream_again name columns line =
    let good = and_parts (is_name name) _ line.spelled in
    let all = and_parts (has_some columns) (list_all (λ column. is_column_name column.name) columns) good.1 in
    let neat_cells = stream_neat name columns line in
    line_says (codes "stream") (name ∷ map column_cell columns) neat_cells.0 neat_cells.1 line.few line.short
    ∙ rw good.0 (ap (with_columns name) (some_again column_of column_cell (λ column. is_column_name column.name) column_again columns all.0 all.1))

scheme_again : (stream : List ℕ) (marks : List Bool) → HasLine (Scheme stream marks) → line_stated (spell (Scheme stream marks)) ≡ Scheme stream marks
scheme_again stream marks line =
    let good = and_parts (is_name stream) (has_some marks) line.spelled in
    let neat_cells = scheme_neat stream marks line in
    line_says (codes "scheme") (stream ∷ map mark_cell marks) neat_cells.0 neat_cells.1 line.few line.short
    ∙ rw good.0 (ap (with_marks stream) (some_again mark_of mark_cell (λ mark. true) mark_again marks good.1 (marks_good marks)))

tests_some : (tests : List TestWord) → has_some tests ≡ true → some_pairs_of (test_cells tests) ≡ pairs_of (test_cells tests)
tests_some [] some = absurd (false≢true some)
tests_some (t ∷ ts) some = refl

select_again : (name input : List ℕ) (tests : List TestWord) → HasLine (Select name input tests) → line_stated (spell (Select name input tests)) ≡ Select name input tests
select_again name input tests line =
    let good = and_parts (is_name name && is_name input) _ line.spelled in
    let both = and_parts (is_name name) (is_name input) good.0 in
    let all = and_parts (has_some tests && nat_le (length tests) 62) (list_all (λ test. is_column_name test.column) tests) good.1 in
    let some = and_parts (has_some tests) (nat_le (length tests) 62) all.0 in
    let neat_cells = select_neat name input tests line in
    line_says (codes "select") (name ∷ input ∷ codes "where" ∷ test_cells tests) neat_cells.0 neat_cells.1 line.few line.short
    ∙ rw (both.0, both.1) (ap (with_tests name input) (tests_some tests some.0 ∙ pairs_again tests all.1 line.kept))

project_again : (name input : List ℕ) (columns : List Renamed) → HasLine (Project name input columns) → line_stated (spell (Project name input columns)) ≡ Project name input columns
project_again name input columns line =
    let good = and_parts (is_name name && is_name input) _ line.spelled in
    let both = and_parts (is_name name) (is_name input) good.0 in
    let all = and_parts (has_some columns) (list_all (λ column. is_column_name column.new && is_column_name column.old) columns) good.1 in
    let neat_cells = project_neat name input columns line in
    line_says (codes "project") (name ∷ input ∷ map renamed_cell columns) neat_cells.0 neat_cells.1 line.few line.short
    ∙ rw (both.0, both.1) (ap (with_renamed name input) (some_again renamed_of renamed_cell (λ column. is_column_name column.new && is_column_name column.old) renamed_again columns all.0 all.1))

union_again : (name : List ℕ) (inputs : List (List ℕ)) → HasLine (Union name inputs) → line_stated (spell (Union name inputs)) ≡ Union name inputs
union_again name inputs line =
    let good = and_parts (is_name name) (are_inputs inputs) line.spelled in
    let neat_cells = union_neat name inputs line in
    line_says (codes "union") (name ∷ inputs) neat_cells.0 neat_cells.1 line.few line.short
    ∙ rw good.0 (ap (with_inputs name) (inputs_again inputs good.1))

join_again : (name : List ℕ) (inputs : List (List ℕ)) (classes : List (List (List ℕ))) → HasLine (Join name inputs classes) → line_stated (spell (Join name inputs classes)) ≡ Join name inputs classes
join_again name inputs classes line =
    let good = and_parts (is_name name && are_inputs inputs) _ line.spelled in
    let both = and_parts (is_name name) (are_inputs inputs) good.0 in
    let all = and_parts (has_some classes) (list_all is_class classes) good.1 in
    let cells = map class_cell classes in
    let neat_cells = join_neat name inputs classes line in
    line_says (codes "join") (name ∷ inputs ++ codes "on" ∷ cells) neat_cells.0 neat_cells.1 line.few line.short
    ∙ rw both.0 (ap (join_in name) (cut_found (is_word (codes "on")) inputs (codes "on") cells (no_on inputs (and_parts (nat_le 2 (length inputs)) (list_all is_name inputs) both.1).1) refl)
    ∙ (ap (λ (o : Option (List (List ℕ))). with_classes name o (some_of class_of cells)) (inputs_again inputs both.1)
    ∙ ap (with_classes name (Some inputs)) (some_again class_of class_cell is_class class_again classes all.0 all.1)))

group_again : (name input : List ℕ) (keys : List (List ℕ)) (aggs : List NamedAgg) → HasLine (Group name input keys aggs) → line_stated (spell (Group name input keys aggs)) ≡ Group name input keys aggs
group_again name input keys aggs line =
    let good = and_parts (is_name name && is_name input) _ line.spelled in
    let both = and_parts (is_name name) (is_name input) good.0 in
    let parts = and_parts (has_some keys && list_all is_column_name keys) _ good.1 in
    let named = and_parts (has_some keys) (list_all is_column_name keys) parts.0 in
    let all = and_parts (has_some aggs) (list_all (λ agg. is_column_name agg.name && is_agg agg.agg) aggs) parts.1 in
    let cells = map named_agg_cell aggs in
    let neat_cells = group_neat name input keys aggs line in
    line_says (codes "group") (name ∷ input ∷ codes "by" ∷ keys ++ codes "of" ∷ cells) neat_cells.0 neat_cells.1 line.few line.short
    ∙ rw (both.0, both.1) (ap (group_in name input) (cut_found (is_word (codes "of")) keys (codes "of") cells (no_of keys named.1) refl)
    ∙ (ap (λ (o : Option (List (List ℕ))). with_aggs name input o (some_of named_agg_of cells)) (some_same column_name_of is_column_name column_name_again keys named.0 named.1)
    ∙ ap (with_aggs name input (Some keys)) (some_again named_agg_of named_agg_cell (λ agg. is_column_name agg.name && is_agg agg.agg) named_agg_again aggs all.0 all.1)))

output_again : (name : List ℕ) → HasLine (Output name) → line_stated (spell (Output name)) ≡ Output name
output_again name line =
    let neat_cells = output_neat name line in
    line_says (codes "output") (name ∷ []) neat_cells.0 neat_cells.1 line.few line.short
    ∙ rw line.spelled refl

pub statement_again : StatementsAreReadAgain
statement_again (Plan version) line = subst (λ (v : ℕ). line_stated (spell (Plan v)) ≡ Plan v) (sym (eqb-true version 1 line.spelled)) plan_again
statement_again (Stream name columns) line = stream_again name columns line
statement_again (Scheme stream marks) line = scheme_again stream marks line
statement_again (Select name input tests) line = select_again name input tests line
statement_again (Project name input columns) line = project_again name input columns line
statement_again (Union name inputs) line = union_again name inputs line
statement_again (Join name inputs classes) line = join_again name inputs classes line
statement_again (Group name input keys aggs) line = group_again name input keys aggs line
statement_again (Output name) line = output_again name line
statement_again (Bad why) line = absurd (none-some why (sym line.good))

-- ---- lines without control bytes

pub statement_neat : (statement : Statement) → HasLine statement → AreNeat (cells_in statement)
statement_neat (Plan version) line = subst (λ (v : ℕ). AreNeat (cells_in (Plan v))) (sym (eqb-true version 1 line.spelled)) plan_neat
statement_neat (Stream name columns) line = stream_neat name columns line
statement_neat (Scheme stream marks) line = scheme_neat stream marks line
statement_neat (Select name input tests) line = select_neat name input tests line
statement_neat (Project name input columns) line = project_neat name input columns line
statement_neat (Union name inputs) line = union_neat name inputs line
statement_neat (Join name inputs classes) line = join_neat name inputs classes line
statement_neat (Group name input keys aggs) line = group_neat name input keys aggs line
statement_neat (Output name) line = output_neat name line
statement_neat (Bad why) line = absurd (none-some why (sym line.good))

cells_printable : (cells : List (List ℕ)) → AreNeat cells → All IsPrintable (parted 32 cells)
cells_printable [] all = none
cells_printable (c ∷ cs) all = line_printable c cs all.0 all.1

-- a canonical line has no control byte, and is whole without a carriage return
pub spelled_printable : (statement : Statement) → HasLine statement → All IsPrintable (spell statement)
spelled_printable statement line = cells_printable (cells_in statement) (statement_neat statement line)

pub spelled_whole : (statement : Statement) → HasLine statement → line_of (spell statement) ≡ spell statement
spelled_whole statement line = whole_line (spell statement) (spelled_printable statement line)
