-- What each operator does with rows and punctuations.
use Rattle.std.specs.Prelude.{ℕ, zero, suc, ◌+◌, Bool, true, not, ◌==◌, ◌&&◌, ◌||◌, if◌then◌else◌, List, [], ◌∷◌, ◌++◌, map, length, filter, ℤ, pos, negsuc, ◌-ℤ◌}
use Rattle.std.specs.List.{list_any}
use Rattle.std.specs.Int.{saturate_signed, w64}
use Rattle.std.specs.Ordering.{is_gt}
use Rattle.pj_value.specs.declared.values.Value.{Value}
use Rattle.pj_value.specs.declared.values.Value.TheVariants.{Int, Text}
use Rattle.pj_value.specs.Values.{value_cmp, row_eq}
pub use Rattle.pj_shape.specs.declared.groups.Agg.{Agg}
pub use Rattle.pj_shape.specs.declared.groups.Agg.TheVariants.{Count, Sum, Min, Max}
pub use Rattle.pj_shape.specs.declared.groups.GroupSpec.{GroupSpec}
use Rattle.pj_shape.specs.Joining.{value_at, no_value}
use Rattle.pj_pattern.specs.declared.element.Element.{Element}
use Rattle.pj_pattern.specs.declared.element.Element.TheVariants.{Tuple, Punct}
use Rattle.pj_value.specs.Bags.{weigh}
use Rattle.pj_pattern.specs.Columns.{others_wild, picked_patterns}
use Rattle.pj_events.specs.Patterns.{Pattern, all_wild, matches_row, covers_punct}

-- ---- columns that are kept

abbrev pub picked_cells : List ℕ → List Value → List Value
picked_cells columns row = map (value_at row) columns

-- ---- selects and projects

-- a tuple that matches, and every punctuation
abbrev pub select_hands : List Pattern → Element → List Element
select_hands test (Tuple row) = if matches_row test row then (Tuple row ∷ []) else []
select_hands test (Punct patterns) = Punct patterns ∷ []

-- the kept columns, of a punctuation where it is a wildcard in every other
abbrev pub project_hands : List ℕ → Element → List Element
project_hands columns (Tuple row) = Tuple (picked_cells columns row) ∷ []
project_hands columns (Punct patterns) = if others_wild columns 0 patterns then (Punct (picked_patterns columns patterns) ∷ []) else []

-- ---- unions

-- a punctuation of an input of a union
pub record Sent : Type 0 where
  pub input : ℕ
  pub patterns : List Pattern

-- all punctuations that came, and those that wait for the other inputs
pub record UnionState : Type 0 where
  pub came : List Sent
  pub waiting : List Sent

-- every other input of those from this one on has sent a punctuation that covers it
abbrev pub all_sent_from : ℕ → ℕ → List Sent → Sent → Bool
all_sent_from k zero came p = true
all_sent_from k (suc n) came p =
    ((k == p.input) || list_any (λ q. (q.input == k) && covers_punct q.patterns p.patterns) came) && all_sent_from (k + 1) n came p

abbrev pub union_after : ℕ → UnionState → ℕ → Element → UnionState
union_after n u input (Tuple row) = u
union_after n u input (Punct patterns) =
    let came = u.came ++ record { input = input; patterns = patterns } ∷ [] in
    record { came = came; waiting = filter (λ p. not (all_sent_from 0 n came p)) (u.waiting ++ record { input = input; patterns = patterns } ∷ []) }

-- every tuple, and the punctuations that no input holds back any more, in order of arrival
abbrev pub union_hands : ℕ → UnionState → ℕ → Element → List Element
union_hands n u input (Tuple row) = Tuple row ∷ []
union_hands n u input (Punct patterns) =
    let came = u.came ++ record { input = input; patterns = patterns } ∷ [] in
    map (λ p. Punct p.patterns) (filter (all_sent_from 0 n came) (u.waiting ++ record { input = input; patterns = patterns } ∷ []))

-- ---- groups

-- how far an integer is above 0, and how far below; a text is neither
abbrev pub above_zero : Value → ℕ
above_zero (Int (pos n)) = n
above_zero (Int (negsuc n)) = 0
above_zero (Text bytes) = 0

abbrev pub below_zero : Value → ℕ
below_zero (Int (pos n)) = 0
below_zero (Int (negsuc n)) = n + 1
below_zero (Text bytes) = 0

-- the exact sum of these values
abbrev pub sum_of : List Value → ℤ
sum_of vs = pos (weigh above_zero vs) -ℤ pos (weigh below_zero vs)

abbrev pub lesser : Value → Value → Value
lesser v w = if is_gt (value_cmp v w) then w else v

abbrev pub greater : Value → Value → Value
greater v w = if is_gt (value_cmp v w) then v else w

abbrev pub least_from : Value → List Value → Value
least_from v [] = v
least_from v (w ∷ ws) = least_from (lesser v w) ws

abbrev pub greatest_from : Value → List Value → Value
greatest_from v [] = v
greatest_from v (w ∷ ws) = greatest_from (greater v w) ws

abbrev pub least_of : List Value → Value
least_of [] = no_value
least_of (v ∷ vs) = least_from v vs

abbrev pub greatest_of : List Value → Value
greatest_of [] = no_value
greatest_of (v ∷ vs) = greatest_from v vs

-- the values of a column
abbrev pub column_of : ℕ → List (List Value) → List Value
column_of column rows = map (λ row. value_at row column) rows

-- the number of rows; the sum of a column, clamped to 64 bits; its least and its greatest value
abbrev pub aggregate : List (List Value) → Agg → Value
aggregate rows Count = Int (pos (length rows))
aggregate rows (Sum column) = Int (saturate_signed w64 (sum_of (column_of column rows)))
aggregate rows (Min column) = least_of (column_of column rows)
aggregate rows (Max column) = greatest_of (column_of column rows)

-- the distinct lists of key values that are not among those seen, in the order of their first row
abbrev pub keys_from : List (List Value) → GroupSpec → List (List Value) → List (List Value)
keys_from seen spec [] = []
keys_from seen spec (row ∷ rows) =
    if list_any (row_eq (picked_cells spec.keys row)) seen
    then keys_from seen spec rows
    else (picked_cells spec.keys row ∷ keys_from (picked_cells spec.keys row ∷ seen) spec rows)

-- a key, and the aggregates of its rows
abbrev pub group_row : GroupSpec → List (List Value) → List Value → List Value
group_row spec rows key = key ++ map (aggregate (filter (λ row. row_eq key (picked_cells spec.keys row)) rows)) spec.aggs

-- one row for each distinct key
abbrev pub group_rows : GroupSpec → List (List Value) → List (List Value)
group_rows spec rows = map (group_row spec rows) (keys_from [] spec rows)

-- the rows whose keys match a punctuation stay no longer
abbrev pub group_after : GroupSpec → List (List Value) → Element → List (List Value)
group_after spec rows (Tuple row) = rows ++ row ∷ []
group_after spec rows (Punct patterns) =
    if others_wild spec.keys 0 patterns
    then filter (λ row. not (matches_row (picked_patterns spec.keys patterns) (picked_cells spec.keys row))) rows
    else rows

-- at a punctuation of group columns alone, the groups whose keys match it, and then the punctuation
abbrev pub group_hands : GroupSpec → List (List Value) → Element → List Element
group_hands spec rows (Tuple row) = []
group_hands spec rows (Punct patterns) =
    if others_wild spec.keys 0 patterns
    then (map Tuple (group_rows spec (filter (λ row. matches_row (picked_patterns spec.keys patterns) (picked_cells spec.keys row)) rows))
    ++ Punct (picked_patterns spec.keys patterns ++ all_wild (length spec.aggs)) ∷ [])
    else []
