-- The lines that show with which rows an input is stuck.
use Rattle.std.specs.Prelude.{ℕ, ◌+◌, ◌==◌, if◌then◌else◌, List, [], ◌∷◌, ◌++◌, codes}
use Rattle.pj_value.specs.declared.values.Value.{Value}
use Rattle.pj_element.specs.Elements.{row_line}
use Rattle.pj_cert.specs.Verdicts.{name_of}

-- the line of a partner: the name of its input, and its row as an element line
abbrev pub partner_line : List ℕ → List Value → List ℕ
partner_line name row = codes "# partner " ++ name ++ codes " " ++ row_line row ++ codes "\n"

-- the line of an input, where it is another than this one
abbrev pub partner_of : List (List ℕ) → ℕ → ℕ → List Value → List (List ℕ)
partner_of names input other row = if other == input then [] else partner_line (name_of names other) row ∷ []

-- a line for each of these rows, of which the first is of the other input
abbrev pub partners_from : List (List ℕ) → ℕ → ℕ → List (List Value) → List (List ℕ)
partners_from names input other [] = []
partners_from names input other (row ∷ rows) = partner_of names input other row ++ partners_from names input (other + 1) rows

-- a line for each input but this one
abbrev pub partners_of : List (List ℕ) → ℕ → List (List Value) → List (List ℕ)
partners_of names input rows = partners_from names input 0 rows
