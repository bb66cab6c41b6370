-- How the parts of a pattern's cell stand in its bytes.
use Rattle.std.specs.Prelude.{◌≡◌, ◌≤◌, ◌+◌, ℕ, Bool, false, ◌==◌, ◌&&◌, List, [], ◌∷◌, Option, Some, None, length, take, drop}
use Rattle.pj_line.specs.declared.quote.Quote.{Quote}
use Rattle.pj_line.specs.declared.quote.Quote.TheVariants.{Outside}
use Rattle.pj_line.specs.Cells.{is_outside}
use Rattle.pj_element.specs.Spelled.{first_is}
use Rattle.pj_element.specs.Forms.{ends_from, parts_from}

-- the parts behind the bar that ends a part, where there is one
abbrev pub parts_behind : List ℕ → List (List ℕ)
parts_behind [] = []
parts_behind (bar ∷ bs) = parts_from Outside bs

-- the first part has so many bytes
abbrev pub IsPartLen : List ℕ → ℕ → Type 0
IsPartLen bytes n = (n ≤ length bytes) × (parts_from Outside bytes ≡ take n bytes ∷ parts_behind (drop n bytes))

-- two dots outside quotes stand at the front
abbrev pub are_dots : Quote → List ℕ → Bool
are_dots q [] = false
are_dots q (b ∷ bs) = is_outside q && ((b == 46) && first_is 46 bs)

-- the first two dots outside quotes stand here
abbrev pub AreDots : List ℕ → Option ℕ → Type 0
AreDots bytes None = ends_from Outside bytes ≡ None
AreDots bytes (Some n) = (n + 2 ≤ length bytes) × (ends_from Outside bytes ≡ Some (take n bytes, drop (n + 2) bytes))
