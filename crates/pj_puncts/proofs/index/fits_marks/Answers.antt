use Rattle.std.proofs.Common.{sym}
use Rattle.pj_puncts.proofs.Cellwise.{fits_other}
use Rattle.pj_puncts.proofs.index.fits_marks.Goals as goal

pub returns-then-marks-patterns : goal.returns-then-marks-patterns
returns-then-marks-patterns c = sym (fits_other c.args.marks.now c.args.patterns.now c.if-marks-patterns.true)
