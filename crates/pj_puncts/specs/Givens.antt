-- Values that are lent, and the instances that they make.
use Rattle.std.specs.Prelude.{ℕ, zero, suc, ◌+◌, not, ◌&&◌, replicate, Bool, true, false, List, [], ◌∷◌, Option, Some, None, if◌then◌else◌}
use Rattle.pj_events.specs.Patterns.{Pattern, is_wild, matches_value}
use Rattle.pj_value.specs.declared.values.Value.{Value}

-- the values in those of these places that hold one
abbrev pub lent : List (Option Value) → List Value
lent [] = []
lent (None ∷ places) = lent places
lent (Some v ∷ places) = v ∷ lent places

-- each place holds a value
abbrev pub AreLent : List (Option Value) → Type 0
AreLent [] = Unit {0}
AreLent (None ∷ places) = ⊥
AreLent (Some v ∷ places) = AreLent places

-- the cell of a column in an instance: the next constant where it is marked
abbrev pub cell_of : Bool → Option Value → Option Value
cell_of false constant = None
cell_of true constant = constant

-- a wildcard where the cell has no constant, else a match of it
abbrev pub covers_cell : Pattern → Option Value → Bool
covers_cell p None = is_wild p
covers_cell p (Some v) = matches_value p v

-- how many of these columns are marked
abbrev pub marked : List Bool → ℕ
marked [] = 0
marked (mark ∷ marks) = (if mark then 1 else 0) + marked marks

-- ---- instances with one constant

-- no column is marked
abbrev pub none_marked : List Bool → Bool
none_marked [] = true
none_marked (mark ∷ marks) = not mark && none_marked marks

-- this column is marked, and no other is
abbrev pub only_marked : ℕ → List Bool → Bool
only_marked column [] = false
only_marked zero (mark ∷ marks) = mark && none_marked marks
only_marked (suc column) (mark ∷ marks) = not mark && only_marked column marks

-- the first marked column
abbrev pub first_marked : List Bool → ℕ
first_marked [] = 0
first_marked (mark ∷ marks) = if mark then 0 else suc (first_marked marks)

-- so many cells, of which one has a value
abbrev pub one_cell : ℕ → ℕ → Value → List (Option Value)
one_cell zero column value = []
one_cell (suc count) zero value = Some value ∷ replicate count None
one_cell (suc count) (suc column) value = None ∷ one_cell count column value
