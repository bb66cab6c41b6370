-- Instances of schemes, and which rows match them.
use Rattle.std.specs.Prelude.{◌≡◌, Bool, true, false, List, [], ◌∷◌, Option, Some, None}
use Rattle.pj_value.specs.declared.values.Value.{Value}

-- the instance of the scheme with these marks whose constants are these values, in order: its constant in each marked column,
-- and None in every other
abbrev pub instance_of : List Bool → List Value → List (Option Value)
instance_of [] vs = []
instance_of (false ∷ marks) vs = None ∷ instance_of marks vs
instance_of (true ∷ marks) [] = None ∷ instance_of marks []
instance_of (true ∷ marks) (v ∷ vs) = Some v ∷ instance_of marks vs

-- the row matches the instance: its values in the marked columns are the constants
abbrev pub MatchesInstance : List Value → List (Option Value) → Type 0
MatchesInstance [] [] = Unit {0}
MatchesInstance [] (cell ∷ cells) = ⊥
MatchesInstance (v ∷ vs) [] = ⊥
MatchesInstance (v ∷ vs) (None ∷ cells) = MatchesInstance vs cells
MatchesInstance (v ∷ vs) (Some w ∷ cells) = (v ≡ w) × MatchesInstance vs cells
