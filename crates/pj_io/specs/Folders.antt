-- What opening and closing a file leave of a folder.
use Rattle.std.specs.Prelude.{◌≡◌, ◌≢◌, ◌≤◌, ℕ, List, [], Bool, IsTrue}
use Rattle.pj_io.specs.Causes.{Rose}
use Rattle.pj_io.specs.States.{SourceState}

-- a file that was opened under this name, and that nothing was done with
pub record IsNew (name : List ℕ) (file : SourceState) : Type 0 where
  pub named : file.name ≡ name
  pub faultless : file.faults ≡ 0
  pub untaken : IsTrue file.told → file.taken ≡ []

-- a file from which nothing was taken, with these contents left
pub record IsFresh (contents : List ℕ) (file : SourceState) : Type 0 where
  pub tells : IsTrue file.told
  pub taken : file.taken ≡ []
  pub left : file.left ≡ contents

-- no name is lost
abbrev pub KeepsNames : (List ℕ → Bool) → (List ℕ → Bool) → Type 0
KeepsNames before now = (name : List ℕ) → IsTrue (before name) → IsTrue (now name)

-- something for each name, all as before
abbrev pub SameEverywhere : {A : Type 0} → (List ℕ → A) → (List ℕ → A) → Type 0
SameEverywhere before now = (name : List ℕ) → now name ≡ before name

-- something for each name, which only this name's may have changed
abbrev pub SameElsewhere : {A : Type 0} → List ℕ → (List ℕ → A) → (List ℕ → A) → Type 0
SameElsewhere name before now = (other : List ℕ) → other ≢ name → now other ≡ before other

-- a number for each name, of which none fell
abbrev pub NoneFalls : (List ℕ → ℕ) → (List ℕ → ℕ) → Type 0
NoneFalls before now = (name : List ℕ) → before name ≤ now name

-- a count for each name, which rose at this one
abbrev pub RoseAt : List ℕ → (List ℕ → ℕ) → (List ℕ → ℕ) → Type 0
RoseAt name before now = Rose (before name) (now name)
