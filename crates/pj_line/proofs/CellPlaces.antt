-- The cells at places of a line.
use Rattle.std.proofs.Common.{◌≡◌, ℕ, zero, suc, ◌<◌, List, [], ◌∷◌, ◌++◌, length, get_or, refl, ap, arith}
use Rattle.pj_line.specs.declared.cell.Place.{Place}
use Rattle.pj_line.specs.Places.{cell_at, cells_at, AreWithin, IsWithin}
use Rattle.pj_line.specs.Spans.{Span}

pub cells_count : (line : List ℕ) (places : List Place) → length places ≡ length (cells_at line places)
cells_count line [] = refl
cells_count line (p ∷ ps) = rw (cells_count line ps) refl

pub cells_more : (line : List ℕ) (places : List Place) (place : Place) → cells_at line (places ++ place ∷ []) ≡ cells_at line places ++ cell_at line place ∷ []
cells_more line [] place = refl
cells_more line (p ∷ ps) place = ap (λ (cs : List Span). cell_at line p ∷ cs) (cells_more line ps place)

pub within_more : (line : List ℕ) (places : List Place) (place : Place) → AreWithin line places → IsWithin line place → AreWithin line (places ++ place ∷ [])
within_more line [] place are is = (is, tt)
within_more line (p ∷ ps) place are is = (are.0, within_more line ps place are.1 is)

pub place_within : (line : List ℕ) (places : List Place) (at : ℕ) (d : Place) → AreWithin line places → at < length places → IsWithin line (get_or places at d)
place_within line [] at d are lt = absurd (omega arith)
place_within line (p ∷ ps) zero d are lt = are.0
place_within line (p ∷ ps) (suc at) d are lt = place_within line ps at d are.1 (omega arith)

pub cell_of_place : (line : List ℕ) (places : List Place) (at : ℕ) (d : Place) (cell : Span) → at < length places → cell ≡ cell_at line (get_or places at d) → cell ≡ get_or (cells_at line places) at cell
cell_of_place line [] at d cell lt cut = absurd (omega arith)
cell_of_place line (p ∷ ps) zero d cell lt cut = cut
cell_of_place line (p ∷ ps) (suc at) d cell lt cut = cell_of_place line ps at d cell (omega arith) cut
