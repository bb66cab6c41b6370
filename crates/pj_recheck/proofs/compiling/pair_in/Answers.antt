use Rattle.std.proofs.Common.{◌∙◌, sym}
use Rattle.pj_rows.proofs.Indexed.{within}
use Rattle.pj_recheck.proofs.compiling.pair_in.Goals as goal

pub returns-then-is_indexed-clause-indexed : goal.returns-then-is_indexed-clause-indexed
returns-then-is_indexed-clause-indexed c = rw (← c.side.view_is) (within c.in-Some.mine c.side.inside.state.now.columns (sym c.is_indexed.ensures ∙ c.if-is_indexed.true))
