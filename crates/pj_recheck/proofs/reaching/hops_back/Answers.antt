use Rattle.pj_recheck.specs.declared.routes.Hop.{Hop}
use Rattle.std.proofs.Common.{get_or}
use Rattle.pj_value.proofs.Members.{in-place}
use Rattle.pj_recheck.proofs.Backward.{hops_end, hops_next}
use Rattle.pj_recheck.proofs.reaching.hops_back.Goals as goal

abbrev none : Hop
none = record { input = 0; other = 0; pair = record { mine = 0; theirs = 0 } }

pub hop_back-requires-clause-fits : goal.hop_back-requires-clause-fits
hop_back-requires-clause-fits c = c.requires.fit (get_or c.args.hops.now c.loop-hop.hop-index none) (in-place c.args.hops.now none c.loop-hop.hop-index c.loop-hop-test.true)

pub loop-hop-preserved : goal.loop-hop-preserved
loop-hop-preserved c =
    hops_next c.args.row_states.now c.args.hops.now c.args.found c.loop-hop.hop-index none c.loop-hop.found c.as_slice.result.now c.in-Some.next c.in_ok-hop_back.field-0 c.loop-hop-test.true c.as_slice.ensures c.in-Some.is c.in_ok-hop_back.ensures c.loop-hop.invariant

pub returns : goal.returns
returns c = hops_end c.args.row_states.now c.args.hops.now c.args.found c.loop-hop.hop-index c.loop-hop.found c.loop-hop-test.false c.loop-hop.invariant
