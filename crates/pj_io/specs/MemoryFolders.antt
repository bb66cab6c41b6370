-- The folder in memory: its files, and what it shows.
use Rattle.std.specs.Prelude.{ℕ, List, [], ◌∷◌, Option, Some, None, is_some, if◌then◌else◌}
use Rattle.std.specs.Str.{bytes_eq}
use Rattle.pj_io.specs.Books.{faults_of, last_of, opened_in}
use Rattle.pj_io.specs.Plans.{FaultPlan, fresh_plan}
use Rattle.pj_io.specs.States.{FolderState}
use Rattle.pj_io.specs.declared.book.Note.{Note}
use Rattle.pj_io.specs.declared.memory_file.MemFile.{MemFile}

-- a file that was added: its bytes, and how reads of it go
pub record Added : Type 0 where
  pub bytes : List ℕ
  pub plan : FaultPlan

-- what was added under a name
abbrev pub added_of : List MemFile → List ℕ → Option Added
added_of [] name = None
added_of (f ∷ fs) name = if bytes_eq name f.name then Some (record { bytes = f.bytes; plan = fresh_plan f.fails f.cut }) else added_of fs name

-- the bytes of a file, none where there is none
abbrev pub bytes_of : Option Added → List ℕ
bytes_of None = []
bytes_of (Some file) = file.bytes

-- A folder: its files, what is noted of names, the numbers of the openings that fail, and how many openings there were
pub record MemFolderState : Type 0 where
  pub files : List MemFile
  pub notes : List Note
  pub open_fails : List ℕ
  pub opens : ℕ

-- it tells the contents of each name that was added
abbrev pub folder_of : MemFolderState → FolderState
folder_of f = record {
  told = λ name. is_some (added_of f.files name);
  contents = λ name. bytes_of (added_of f.files name);
  opened = opened_in f.notes;
  last = last_of f.notes;
  faults = faults_of f.notes;
}
