-- What the window of a buffer holds.
use Rattle.std.specs.Prelude.{ℕ, List, slice_range}
use Rattle.pj_line.specs.declared.window.Window.{Window}

-- the bytes in use
abbrev pub held : Window → List ℕ
held window = slice_range window.bytes.items window.start window.end
