use Rattle.pj_recheck.specs.declared.routes.Hop.{Hop}
use Rattle.pj_recheck.specs.Recheck.{HopFits}
use Rattle.pj_recheck.specs.Watching.{asker}
use Rattle.pj_recheck.proofs.Compiled.{all_more, hops_more, hops_whole}
use Rattle.pj_recheck.proofs.compiling.Path.hops.Goals as goal

pub loop-at-preserved : goal.loop-at-preserved
loop-at-preserved c = (
  hops_more (asker c.args.self.now) c.args.at c.loop-at.at c.in-Some.link.before c.loop-at.hops c.push.new.self c.in-Some.link.hop c.loop-at.invariant.0 c.in-Some.ensures.hop c.in_ok-push-in-Some.ensures.ok,
  all_more (λ (h : Hop). HopFits c.args.self.now.row_states h) c.loop-at.hops c.push.new.self c.in-Some.link.hop c.in_ok-push-in-Some.ensures.ok c.loop-at.invariant.1 c.in-Some.ensures.fits,
)

pub returns-clause-hops : goal.returns-clause-hops
returns-clause-hops c = hops_whole (asker c.args.self.now) c.args.at c.loop-at.at c.loop-at.hops c.loop-at.invariant.0 c.loop-at-test.false
