use Rattle.std.proofs.Common.{◌∙◌}
use Rattle.pj_state.proofs.Passed.{remove-first}
use Rattle.pj_state.proofs.remaining.Remaining.pop_first.Goals as goal

pub returns-then-len-gt0 : goal.returns-then-len-gt0
returns-then-len-gt0 g c = c.pass.ensures.left ∙ remove-first c.args.self.now
