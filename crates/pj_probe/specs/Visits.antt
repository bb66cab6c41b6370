-- How the list of a visitor grows.
use Rattle.std.specs.Prelude.{◌≡◌, Bool, IsTrue, List, ◌++◌}
use Rattle.pj_events.specs.Join.{Value}

-- where it is told, the list grew by these rows
abbrev pub Grows : Bool → List (List Value) → List (List Value) → List (List Value) → Type 0
Grows told old new rows = IsTrue told → new ≡ old ++ rows

-- where it is told, the list grew by a front of these rows
abbrev pub GrowsByFront : Bool → List (List Value) → List (List Value) → List (List Value) → Type 0
GrowsByFront told old new rows = IsTrue told → (front : List (List Value)) × (rest : List (List Value)) × (rows ≡ front ++ rest) × (new ≡ old ++ front)
