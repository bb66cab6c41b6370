-- Files by their names, and what a folder holds of them.
-- Files by their names.
use Rattle.std.specs.Prelude.{◌≢◌, ◌<◌, ℕ, ⊤, List, [], ◌∷◌, length, map, IsTrue, slice_index_or}
use Rattle.pj_io.specs.States.{FolderState}

abbrev pub files_named : List (List ℕ) → FolderState → List (List ℕ)
files_named names folder = map folder.contents names

-- the contents of all these names are told
abbrev pub AreTold : List (List ℕ) → FolderState → Type 0
AreTold [] folder = ⊤
AreTold (name ∷ names) folder = IsTrue (folder.told name) × AreTold names folder

-- no other place has the name of this one
abbrev pub IsAlone : ℕ → List (List ℕ) → Type 0
IsAlone place names = (other : ℕ) → other < length names → other ≢ place → slice_index_or names other [] ≢ slice_index_or names place []
