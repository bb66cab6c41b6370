use Rattle.std.proofs.Common.{rules}
use Rattle.pj_element.proofs.CanonicalCells.{same_cell}
use Rattle.pj_element.proofs.canonical.read_same.Goals as goal

pub returns-then-branch-clause-cell : goal.returns-then-branch-clause-cell
returns-then-branch-clause-cell c = same_cell c.args.bytes.now c.args.from c.args.end c.in-Some.value c.requires.ordered c.requires.within (search rules)
