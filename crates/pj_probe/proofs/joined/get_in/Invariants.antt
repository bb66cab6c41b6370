use Rattle.std.proofs.Common.{◌≡◌, drop}
use Rattle.std.specs.Prelude.{slice_get}
use Rattle.pj_probe.specs.Walks.{end_to_end}
use Rattle.pj_probe.proofs.joined.get_in.Given as goal

abbrev pub invariant-loop-part : goal.invariant-loop-part
invariant-loop-part l = slice_get (end_to_end l.rows) l.column ≡ slice_get (end_to_end (drop l.part l.rows)) l.left
