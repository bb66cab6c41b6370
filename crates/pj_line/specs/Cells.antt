-- The cells of a line.
use Rattle.std.specs.Prelude.{◌≡◌, ◌<◌, ◌≤◌, ◌+◌, ℕ, ⊤, Bool, true, false, List, [], ◌∷◌, Option, Some, None, Result, Ok, Err, if◌then◌else◌, ◌==◌, ◌&&◌, length, take, drop}
use Rattle.pj_value.specs.Options.{with_first}
use Rattle.pj_line.specs.Lines.{is_blank, onto}
use Rattle.pj_line.specs.declared.quote.Quote.{Quote}
use Rattle.pj_line.specs.declared.quote.Quote.TheVariants.{Outside, Inside, Taken}
use Rattle.pj_line.specs.Spans.{Span}
use Rattle.pj_line.specs.declared.cell.CellFault.{CellFault}
use Rattle.pj_line.specs.declared.cell.CellFault.TheVariants.{Unclosed, TooMany}

-- where a byte of a cell leads: a quote begins and ends a quoted part, and in it a backslash takes the next byte with it
abbrev pub after : Quote → ℕ → Quote
after Outside b = if b == 34 then Inside else Outside
after Inside b = if b == 34 then Outside else (if b == 92 then Taken else Inside)
after Taken b = Inside

-- whether it is outside quotes
abbrev pub is_outside : Quote → Bool
is_outside Outside = true
is_outside Inside = false
is_outside Taken = false

-- the byte goes to the front of the first cell
abbrev pub onto_cell : ℕ → Option (List (List ℕ)) → Option (List (List ℕ))
onto_cell b None = None
onto_cell b (Some cs) = Some (onto b cs)

-- the cells of what is left of a line, from between two cells or inside one, whose rest is then the first; none where it is unclosed
abbrev pub cells_from : Option Quote → List ℕ → Option (List (List ℕ))
cells_from None [] = Some []
cells_from None (b ∷ bs) = if is_blank b then cells_from None bs else onto_cell b (cells_from (Some (after Outside b)) bs)
cells_from (Some q) [] = if is_outside q then Some ([] ∷ []) else None
cells_from (Some q) (b ∷ bs) =
    if is_outside q && is_blank b then with_first [] (cells_from None bs)
    else onto_cell b (cells_from (Some (after q b)) bs)

-- the cells of a line, or none where it is unclosed
abbrev pub cells_of : List ℕ → Option (List (List ℕ))
cells_of line = cells_from None line

-- ---- the cells of a line in their places

-- the place of the quote that opened the quoted part in which what is left of a line ends, if it ends in one: the place of
-- the next byte, and the quote that is open
abbrev pub open_from : ℕ → ℕ → Quote → List ℕ → Option ℕ
open_from at opened Outside [] = None
open_from at opened Inside [] = Some opened
open_from at opened Taken [] = Some opened
open_from at opened Outside (b ∷ bs) = open_from (at + 1) at (after Outside b) bs
open_from at opened Inside (b ∷ bs) = open_from (at + 1) opened (after Inside b) bs
open_from at opened Taken (b ∷ bs) = open_from (at + 1) opened (after Taken b) bs

-- the place of the opening quote of a quoted part that is unclosed
abbrev pub open_quote : List ℕ → Option ℕ
open_quote line = open_from 0 0 Outside line

-- the cells stand at their places in the line, one behind the other, none before this place
abbrev pub StandIn : List ℕ → ℕ → List Span → Type 0
StandIn line from [] = ⊤
StandIn line from (c ∷ cs) = (from ≤ c.start) × (take (length c.bytes) (drop c.start line) ≡ c.bytes) × StandIn line (c.start + length c.bytes) cs

abbrev pub bytes_in : List Span → List (List ℕ)
bytes_in [] = []
bytes_in (c ∷ cs) = c.bytes ∷ bytes_in cs

-- the line is cut into these cells, or it is unclosed, or else it has more than 128 cells
abbrev pub AreCut : List ℕ → Result (List Span) CellFault → Type 0
AreCut line (Ok cells) = (cells_of line ≡ Some (bytes_in cells)) × (length cells ≤ 128) × StandIn line 0 cells
AreCut line (Err (Unclosed at)) = (cells_of line ≡ None) × (open_quote line ≡ Some at)
AreCut line (Err TooMany) = (cells : List (List ℕ)) × (cells_of line ≡ Some cells) × (128 < length cells)
