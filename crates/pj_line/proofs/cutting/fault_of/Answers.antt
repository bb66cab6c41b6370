use Rattle.std.proofs.Common.{sym}
use Rattle.pj_line.proofs.Opens.{open_line, closed_line}
use Rattle.pj_line.proofs.cutting.fault_of.Goals as goal

pub returns-in-Some : goal.returns-in-Some
returns-in-Some c = let place = sym c.in-Some.ensures.place in (open_line c.args.line.now _ place, place)

pub returns-in-None : goal.returns-in-None
returns-in-None c = closed_line c.args.line.now (sym c.in-None.ensures.place)
