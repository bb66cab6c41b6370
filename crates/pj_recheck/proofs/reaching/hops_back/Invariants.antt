use Rattle.std.proofs.Common.{drop}
use Rattle.pj_recheck.proofs.Backward.{HopsGoOn}
use Rattle.pj_recheck.proofs.reaching.hops_back.Given as goal

abbrev pub invariant-loop-hop : goal.invariant-loop-hop
invariant-loop-hop l = HopsGoOn l.row_states l.hops l.fn.found (drop l.hop-index l.hops) l.found
