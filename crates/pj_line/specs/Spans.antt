-- Bytes and their place.
use Rattle.std.specs.Prelude.{ℕ, List}

-- bytes of a line, and the place in it from which on they stand
pub record Span : Type 0 where
  pub bytes : List ℕ
  pub start : ℕ
