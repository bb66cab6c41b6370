-- The bytes of a made input.
use Rattle.std.specs.Prelude.{ℕ, zero, suc, ◌+◌, ◌-◌, List, [], ◌++◌, codes, nat_lt, if◌then◌else◌}
use Rattle.std.specs.Fmt.{decimal}
use Rattle.pj_make.specs.Draws.{drawn, next_state, state_after}

abbrev pub plan_text : List ℕ
plan_text = codes "plan 1\nstream items item:int seller:text\nscheme items + _\nstream bids bitem:int price:int\nscheme bids + _\njoin j items bids on item=bitem\ngroup g j by item of n=count top=max:price\noutput g\n"

-- ---- lines

-- the line of a tuple of this number and a cell
abbrev pub tuple_line : ℕ → List ℕ → List ℕ
tuple_line number cell = codes "t " ++ decimal number ++ codes " " ++ cell ++ codes "\n"

-- that of the punctuation which closes a number
abbrev pub closing_line : ℕ → List ℕ
closing_line number = codes "p " ++ decimal number ++ codes " *\n"

-- behind the tuples of a number the one that lies ten before it is closed
abbrev pub closed_at : ℕ → List ℕ
closed_at number = if nat_lt 10 number then closing_line (number - 10) else []

-- the lines that close the last ten of so many numbers, up to this one
abbrev pub closed_up_to : ℕ → ℕ → List ℕ
closed_up_to count zero = []
closed_up_to count (suc number) = closed_up_to count number ++ (if nat_lt count (suc number + 10) then closing_line (suc number) else [])

-- ---- the files

abbrev pub two_items : ℕ → List ℕ
two_items number = tuple_line number (codes "\"a\"") ++ tuple_line number (codes "\"b\"")

-- two bids on a number, at the next two prices that are drawn
abbrev pub two_bids : ℕ → ℕ → List ℕ
two_bids state number =
    tuple_line number (decimal (drawn (next_state state))) ++ tuple_line number (decimal (drawn (next_state (next_state state))))

-- the lines of so many numbers, the first ones
abbrev pub items_up_to : ℕ → List ℕ
items_up_to zero = []
items_up_to (suc count) = items_up_to count ++ (two_items (suc count) ++ closed_at (suc count))

abbrev pub bids_up_to : ℕ → ℕ → List ℕ
bids_up_to seed zero = []
bids_up_to seed (suc count) = bids_up_to seed count ++ (two_bids (state_after seed (count + count)) (suc count) ++ closed_at (suc count))

abbrev pub items_text : ℕ → List ℕ
items_text count = items_up_to count ++ closed_up_to count count

abbrev pub bids_text : ℕ → ℕ → List ℕ
bids_text seed count = bids_up_to seed count ++ closed_up_to count count
