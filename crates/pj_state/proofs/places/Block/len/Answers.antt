use Rattle.std.proofs.Common.{length, ap, sym, ◌∙◌}
use Rattle.pj_state.proofs.Near.{near-length}
use Rattle.pj_state.proofs.places.Block.len.Goals as goal

pub returns : goal.returns
returns c = c.len.ensures ∙ (sym (near-length c.self.inside.base c.self.inside.nears) ∙ ap length c.self.view_is)
