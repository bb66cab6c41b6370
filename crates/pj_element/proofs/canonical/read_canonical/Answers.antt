use Rattle.std.proofs.Common.{arith, rules}
use Rattle.pj_element.proofs.CanonicalCells.{line_is_tuple}
use Rattle.pj_element.proofs.canonical.read_canonical.Goals as goal

pub returns-in-Some-2 : goal.returns-in-Some-2
returns-in-Some-2 c =
    line_is_tuple c.args.columns.now c.args.line.now c.in-Some.cells.now c.in-Some.tag.now c.in-Some-2.row (omega arith) (search rules) (search rules) (search rules) (search rules)
