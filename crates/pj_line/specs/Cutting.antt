-- How a line is cut, cell by cell.
use Rattle.std.specs.Prelude.{◌≡◌, ◌<◌, ◌≤◌, ◌||◌, ◌==◌, ℕ, Bool, true, List, [], Option, Some, None, length, take, drop, slice_index, slice_range}
use Rattle.pj_value.specs.Options.{with_first}
use Rattle.pj_line.specs.declared.quote.Quote.{Quote}
use Rattle.pj_line.specs.declared.quote.Quote.TheVariants.{Outside, Inside}
use Rattle.pj_line.specs.declared.cell.CellFault.{CellFault}
use Rattle.pj_line.specs.declared.cell.CellFault.TheVariants.{Unclosed, TooMany}
use Rattle.pj_line.specs.declared.cutting.CellAhead.{CellAhead}
use Rattle.pj_line.specs.declared.cutting.CellAhead.TheVariants.{ClosedCell, NoCell, OpenCell}
use Rattle.pj_line.specs.Lines.{is_blank}
use Rattle.pj_line.specs.Cells.{cells_from, cells_of, onto_cell, open_quote}
use Rattle.pj_line.specs.Folds.{folded}

-- the first n bytes of what is left of a cell are of that cell, and lead from one place in it to the other
abbrev pub Leads : Quote → Quote → List ℕ → ℕ → Type 0
Leads from to bytes n = cells_from (Some from) bytes ≡ folded onto_cell (take n bytes) (cells_from (Some to) (drop n bytes))

-- a blank or a quote
abbrev pub ends_plain : ℕ → Bool
ends_plain b = is_blank b || (b == 34)

-- so many bytes outside quotes stand before the next blank or quote, or before the end
pub record IsPlainLen (bytes : List ℕ) (n : ℕ) : Type 0 where
  pub within : n ≤ length bytes
  pub leads : Leads Outside Outside bytes n
  pub ends : n < length bytes → ends_plain (slice_index bytes n) ≡ true

-- so many bytes are the rest of a quoted part, with its closing quote, or it is unclosed
abbrev pub IsQuotedLen : List ℕ → Option ℕ → Type 0
IsQuotedLen bytes None = cells_from (Some Inside) bytes ≡ None
IsQuotedLen bytes (Some n) = (n ≤ length bytes) × (0 < n) × Leads Inside Outside bytes n

-- so many bytes at the front are the rest of a cell, or it is unclosed
abbrev pub IsCellLen : List ℕ → Option ℕ → Type 0
IsCellLen line None = cells_from (Some Outside) line ≡ None
IsCellLen line (Some n) = (n ≤ length line) × (cells_from (Some Outside) line ≡ with_first (take n line) (cells_of (drop n line)))

-- what comes next on the line from this place on
abbrev pub IsAhead : List ℕ → ℕ → CellAhead → Type 0
IsAhead line from NoCell = cells_of (drop from line) ≡ Some []
IsAhead line from OpenCell = cells_of (drop from line) ≡ None
IsAhead line from (ClosedCell cell) =
    (cells_of (drop from line) ≡ with_first (slice_range line cell.start cell.end) (cells_of (drop cell.end line)))
    × (from ≤ cell.start) × (cell.start < cell.end) × (cell.end ≤ length line)

-- the line is unclosed, or it is not
abbrev pub IsFault : List ℕ → CellFault → Type 0
IsFault line (Unclosed at) = (cells_of line ≡ None) × (open_quote line ≡ Some at)
IsFault line TooMany = (cells : List (List ℕ)) × (cells_of line ≡ Some cells)
