use Rattle.pj_recheck.specs.declared.routes.Stop.{Stop}
use Rattle.pj_recheck.specs.Recheck.{StopFits, entry_with, IsStop}
use Rattle.pj_recheck.specs.Watching.{asker}
use Rattle.std.proofs.Common.{Option, IfSome, subst}
use Rattle.pj_recheck.proofs.Compiled.{all_more, stop_more}
use Rattle.pj_recheck.proofs.compiling.Path.add_stop.Goals as goal

pub returns-in_ok-push-in-Some-clause-stops : goal.returns-in_ok-push-in-Some-clause-stops
returns-in_ok-push-in-Some-clause-stops c =
    stop_more (asker c.args.self.now) c.args.at (entry_with c.args.input c.args.scheme.now) c.args.stops.now c.push.new.self c.in-Some.stop c.in_ok-push-in-Some.ensures.ok
    (subst (λ (o : Option Stop). IfSome o (IsStop (asker c.args.self.now) c.args.at (entry_with c.args.input c.args.scheme.now))) c.in-Some.is c.in_ok-stop.ensures.stop)

pub returns-in_ok-push-in-Some-clause-fit : goal.returns-in_ok-push-in-Some-clause-fit
returns-in_ok-push-in-Some-clause-fit c =
    λ all. all_more (λ (s : Stop). StopFits c.args.self.now.row_states s) c.args.stops.now c.push.new.self c.in-Some.stop c.in_ok-push-in-Some.ensures.ok all
    (subst (λ (o : Option Stop). IfSome o (StopFits c.args.self.now.row_states)) c.in-Some.is c.in_ok-stop.ensures.fits)
