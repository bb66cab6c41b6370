-- The places of cells in their line.
use Rattle.std.specs.Prelude.{◌≤◌, ℕ, ⊤, List, [], ◌∷◌, length, slice_range}
use Rattle.pj_line.specs.declared.cell.Place.{Place}
use Rattle.pj_line.specs.Spans.{Span}

-- the cell at this place of the line
abbrev pub cell_at : List ℕ → Place → Span
cell_at line place = record { bytes = slice_range line place.start place.end; start = place.start }

-- the cells at these places of the line
abbrev pub cells_at : List ℕ → List Place → List Span
cells_at line [] = []
cells_at line (place ∷ places) = cell_at line place ∷ cells_at line places

-- the place lies in the line
abbrev pub IsWithin : List ℕ → Place → Type 0
IsWithin line place = (place.start ≤ place.end) × (place.end ≤ length line)

-- all these places lie in the line
abbrev pub AreWithin : List ℕ → List Place → Type 0
AreWithin line [] = ⊤
AreWithin line (place ∷ places) = IsWithin line place × AreWithin line places
