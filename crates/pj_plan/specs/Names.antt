-- Names, and statements in words that a line of a plan can spell.
use Rattle.std.specs.Prelude.{ℕ, Bool, true, false, not, ◌||◌, ◌&&◌, ◌==◌, ◌≡◌, List, [], ◌∷◌, Some, length, nat_le, codes}
use Rattle.std.specs.List.{list_all}
use Rattle.std.specs.Str.{bytes_eq}
use Rattle.pj_plan.specs.declared.fault.PlanWhy.{PlanWhy}
use Rattle.pj_plan.specs.declared.statement.Statement.{Statement}
use Rattle.pj_plan.specs.declared.statement.Statement.TheVariants.{Plan, Stream, Scheme, Select, Project, Union, Join, Group, Output, Bad}
use Rattle.pj_plan.specs.declared.statement.AggWord.{AggWord}
use Rattle.pj_plan.specs.declared.statement.AggWord.TheVariants.{Count, Sum, Min, Max}
use Rattle.pj_plan.specs.Words.{is_among}
use Rattle.pj_plan.specs.Faults.{is_unknown_word, is_bad_shape, is_bad_line}

-- ---- names

-- a small letter
abbrev pub is_small : ℕ → Bool
is_small b = nat_le 97 b && nat_le b 122

-- a small letter, a digit or `_`
abbrev pub is_name_byte : ℕ → Bool
is_name_byte b = is_small b || (nat_le 48 b && nat_le b 57 || (b == 95))

-- the first byte is a small letter
abbrev pub begins_small : List ℕ → Bool
begins_small [] = false
begins_small (b ∷ bs) = is_small b

-- 1 to 32 bytes: a small letter, and then small letters, digits and `_`
abbrev pub is_word : List ℕ → Bool
is_word cell = begins_small cell && (nat_le (length cell) 32 && list_all is_name_byte cell)

-- the name of a column: `of` is none
abbrev pub is_column_name : List ℕ → Bool
is_column_name cell = is_word cell && not (bytes_eq cell (codes "of"))

-- the name of a node: nor are `on`, `where` and `by`
abbrev pub is_name : List ℕ → Bool
is_name cell = is_column_name cell && not (is_among (codes "on" ∷ codes "where" ∷ codes "by" ∷ []) cell)

-- ---- statements

abbrev pub is_agg : AggWord → Bool
is_agg Count = true
is_agg (Sum column) = is_column_name column
is_agg (Min column) = is_column_name column
is_agg (Max column) = is_column_name column

-- two or more column names
abbrev pub is_class : List (List ℕ) → Bool
is_class class = nat_le 2 (length class) && list_all is_column_name class

abbrev pub has_some : {A : Type 0} → List A → Bool
has_some [] = false
has_some (x ∷ xs) = true

-- two or more names of nodes
abbrev pub are_inputs : List (List ℕ) → Bool
are_inputs names = nat_le 2 (length names) && list_all is_name names

-- what a line may be found to be: no statement word, of a bad shape, or unreadable
abbrev pub is_line_fault : PlanWhy → Bool
is_line_fault why = is_unknown_word (Some why) || (is_bad_shape (Some why) || is_bad_line (Some why))

-- the statement is one that a line can spell, or a bad one: its words are names where they should be, none is missing, and a
-- select has no more pairs than a line of 128 cells
abbrev pub is_spelled : Statement → Bool
is_spelled (Plan version) = version == 1
is_spelled (Stream name columns) = is_name name && (has_some columns && list_all (λ column. is_column_name column.name) columns)
is_spelled (Scheme stream marks) = is_name stream && has_some marks
is_spelled (Select name input tests) =
    (is_name name && is_name input) && ((has_some tests && nat_le (length tests) 62) && list_all (λ test. is_column_name test.column) tests)
is_spelled (Project name input columns) =
    (is_name name && is_name input) && (has_some columns && list_all (λ column. is_column_name column.new && is_column_name column.old) columns)
is_spelled (Union name inputs) = is_name name && are_inputs inputs
is_spelled (Join name inputs classes) = (is_name name && are_inputs inputs) && (has_some classes && list_all is_class classes)
is_spelled (Group name input keys aggs) =
    (is_name name && is_name input)
    && ((has_some keys && list_all is_column_name keys) && (has_some aggs && list_all (λ agg. is_column_name agg.name && is_agg agg.agg) aggs))
is_spelled (Output name) = is_name name
is_spelled (Bad why) = is_line_fault why

-- each statement is
abbrev pub AreSpelled : List Statement → Type 0
AreSpelled statements = list_all is_spelled statements ≡ true
