use Rattle.std.proofs.Common.{sym}
use Rattle.pj_algebra.proofs.DistinctKeys.{tested}
use Rattle.pj_algebra.proofs.grouping.same_row.Goals as goal

pub returns : goal.returns
returns c = sym (tested c.same.result c.args.row.now c.args.other.now c.same.ensures)
