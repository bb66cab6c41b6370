-- What a source, a sink and a folder tell of themselves.
use Rattle.std.specs.Prelude.{ℕ, Bool, List}

-- A source: whether it tells its bytes; the bytes taken so far and those still to come, where it tells them; how many faults
-- there were; and the name under which a folder opened it
pub record SourceState : Type 0 where
  pub told : Bool
  pub taken : List ℕ
  pub left : List ℕ
  pub faults : ℕ
  pub name : List ℕ

-- A sink: whether it tells its bytes; those that were written, where it tells them; how many faults there were; and the bytes that
-- it holds back
pub record SinkState : Type 0 where
  pub told : Bool
  pub written : List ℕ
  pub faults : ℕ
  pub held : List ℕ

-- A folder, by name: whether the contents are told; the contents, where they are told; whether a file was opened; how many
-- bytes were taken from the file that was closed last, where it tells them; how many faults there were
pub record FolderState : Type 0 where
  pub told : List ℕ → Bool
  pub contents : List ℕ → List ℕ
  pub opened : List ℕ → Bool
  pub last : List ℕ → ℕ
  pub faults : List ℕ → ℕ
