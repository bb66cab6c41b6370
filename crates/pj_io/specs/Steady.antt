-- What the forms that never fail show.
use Rattle.std.specs.Prelude.{ℕ, Bool, true, List, [], Option, Some, None}
use Rattle.pj_io.specs.Books.{last_of, opened_in}
use Rattle.pj_io.specs.MemoryFolders.{Added, added_of, bytes_of}
use Rattle.pj_io.specs.States.{FolderState, SinkState, SourceState}
use Rattle.pj_io.specs.declared.book.Note.{Note}
use Rattle.pj_io.specs.declared.memory_file.MemFile.{MemFile}

-- A source, and how many bytes a read gives at most
pub record SteadySourceState : Type 0 where
  pub source : SourceState
  pub cut : ℕ

-- a source that counts no faults
abbrev pub steady : SourceState → SourceState
steady source = record source { faults = 0 }

-- A sink: whether it kept all that was written; what it kept; how many bytes a write takes at most; and for how many more bytes
-- there is room
pub record SteadySinkState : Type 0 where
  pub told : Bool
  pub kept : List ℕ
  pub cut : ℕ
  pub room : ℕ

-- it tells what was written while it kept all of it, counts no faults and holds nothing back
abbrev pub steady_sink : SteadySinkState → SinkState
steady_sink s = record { told = s.told; written = s.kept; faults = 0; held = [] }

-- A folder: its files, and what is noted of names
pub record SteadyFolderState : Type 0 where
  pub files : List MemFile
  pub notes : List Note

-- the most that a read gives of a file, 1 where there is none
abbrev pub cut_of : Option Added → ℕ
cut_of None = 1
cut_of (Some file) = file.plan.cut

-- it tells the contents of each name, none where nothing was added, and counts no faults
abbrev pub steady_folder_of : SteadyFolderState → FolderState
steady_folder_of f = record {
  told = λ name. true;
  contents = λ name. bytes_of (added_of f.files name);
  opened = opened_in f.notes;
  last = last_of f.notes;
  faults = λ name. 0;
}
