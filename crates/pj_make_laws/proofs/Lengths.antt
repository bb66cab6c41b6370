-- How long the files of a made input are.
use Rattle.std.proofs.Common.{ℕ, zero, suc, ◌+◌, ◌-◌, ◌*◌, ◌≤◌, Bool, true, false, cond, nat_lt, List, [], ◌∷◌, ◌++◌, length, length-append, arith}
use Rattle.std.specs.Fmt.{decimal}
use Rattle.std.proofs.lemmas.Fmt.{length-decimal-le}
use Rattle.pj_make.specs.Draws.{drawn, next_state, state_after}
use Rattle.pj_make.specs.Inputs.{bids_text, bids_up_to, closed_at, closed_up_to, closing_line, items_text, items_up_to, tuple_line, two_bids, two_items}
use Rattle.pj_make_laws.specs.Made.{MadeFilesAreShort}

number_short : (number : ℕ) → number ≤ 1000000 → length (decimal number) ≤ 7
number_short number few = length-decimal-le 7 number (omega arith) (omega arith) (omega arith)

pub drawn_small : (state : ℕ) → drawn state ≤ 1000
drawn_small state = omega arith

-- ---- lines

tuple_length : (number : ℕ) (cell : List ℕ) → number ≤ 1000000 → length cell ≤ 7 → length (tuple_line number cell) ≤ 18
tuple_length number cell few short = simp length-append (omega (arith, number_short number few))

pub bid_length : (number state : ℕ) → number ≤ 1000000 → length (tuple_line number (decimal (drawn state))) ≤ 18
bid_length number state few = tuple_length number (decimal (drawn state)) few (number_short (drawn state) (omega (arith, drawn_small state)))

pub closing_length : (number : ℕ) → number ≤ 1000000 → length (closing_line number) ≤ 12
closing_length number few = simp length-append (omega (arith, number_short number few))

closed_length : (b : Bool) (number : ℕ) → number ≤ 1000000 → length (cond b (closing_line number) []) ≤ 12
closed_length true number few = closing_length number few
closed_length false number few = omega arith

-- ---- files

closings_length : (count upto : ℕ) → upto ≤ 1000000 → length (closed_up_to count upto) ≤ 12 * upto
closings_length count zero few = omega arith
closings_length count (suc number) few =
    let closed = closed_length (nat_lt count (suc number + 10)) (suc number) few in
    simp length-append (omega (arith, closings_length count number (omega (arith, few)), closed))

items_length : (count : ℕ) → count ≤ 1000000 → length (items_up_to count) ≤ 48 * count
items_length zero few = omega arith
items_length (suc count) few =
    let a = tuple_length (suc count) (34 ∷ 97 ∷ 34 ∷ []) few (omega arith) in
    let b = tuple_length (suc count) (34 ∷ 98 ∷ 34 ∷ []) few (omega arith) in
    let closed = closed_length (nat_lt 10 (suc count)) (suc count - 10) (omega (arith, few)) in
    let two = length-append (tuple_line (suc count) (34 ∷ 97 ∷ 34 ∷ [])) (tuple_line (suc count) (34 ∷ 98 ∷ 34 ∷ [])) in
    omega (arith, items_length count (omega (arith, few)), a, b, closed, two, length-append (items_up_to count) (two_items (suc count) ++ closed_at (suc count)), length-append (two_items (suc count)) (closed_at (suc count)))

bids_length : (seed count : ℕ) → count ≤ 1000000 → length (bids_up_to seed count) ≤ 48 * count
bids_length seed zero few = omega arith
bids_length seed (suc count) few =
    let state = state_after seed (count + count) in
    let a = bid_length (suc count) (next_state state) few in
    let b = bid_length (suc count) (next_state (next_state state)) few in
    let closed = closed_length (nat_lt 10 (suc count)) (suc count - 10) (omega (arith, few)) in
    let two = length-append (tuple_line (suc count) (decimal (drawn (next_state state)))) (tuple_line (suc count) (decimal (drawn (next_state (next_state state))))) in
    omega (arith, bids_length seed count (omega (arith, few)), a, b, closed, two, length-append (bids_up_to seed count) (two_bids state (suc count) ++ closed_at (suc count)), length-append (two_bids state (suc count)) (closed_at (suc count)))

pub items_short : (count : ℕ) → count ≤ 1000000 → length (items_text count) ≤ 60000000
items_short count few =
    omega (arith, items_length count few, closings_length count count few, length-append (items_up_to count) (closed_up_to count count))

pub bids_short : (seed count : ℕ) → count ≤ 1000000 → length (bids_text seed count) ≤ 60000000
bids_short seed count few =
    omega (arith, bids_length seed count few, closings_length count count few, length-append (bids_up_to seed count) (closed_up_to count count))

pub made_files_are_short : (seed count : ℕ) → count ≤ 1000000 → MadeFilesAreShort seed count
made_files_are_short seed count few = record { items = omega (arith, items_short count few); bids = omega (arith, bids_short seed count few) }
