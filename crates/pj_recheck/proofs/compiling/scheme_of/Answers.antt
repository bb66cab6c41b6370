use Rattle.std.proofs.Common.{◌∙◌, sym}
use Rattle.pj_recheck.proofs.Compiled.{marks_none, marks_there}
use Rattle.pj_recheck.proofs.compiling.scheme_of.Goals as goal

pub returns-in-None : goal.returns-in-None
returns-in-None c = rw (c.of-in-None.ensures, c.new-in-None.ensures) (marks_none c.args.schemes.now c.args.step c.at.result.now c.at.ensures (sym c.in-None.ensures))

pub returns-in_ok-copy-in-Some : goal.returns-in_ok-copy-in-Some
returns-in_ok-copy-in-Some c = c.in_ok-copy-in-Some.ensures ∙ marks_there c.args.schemes.now c.args.step c.at.result.now c.in-Some.scheme.now c.at.ensures (sym c.in-Some.ensures)
