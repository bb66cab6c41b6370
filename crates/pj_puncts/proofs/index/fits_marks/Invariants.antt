use Rattle.std.proofs.Common.{◌≡◌, drop}
use Rattle.pj_puncts.specs.Indexed.{fits_marks}
use Rattle.pj_puncts.proofs.index.fits_marks.Given as goal

abbrev pub invariant-loop-column : goal.invariant-loop-column
invariant-loop-column l = fits_marks l.marks l.patterns ≡ fits_marks (drop l.column l.marks) (drop l.column l.patterns)
