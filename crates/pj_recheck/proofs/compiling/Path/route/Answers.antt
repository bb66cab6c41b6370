use Rattle.std.proofs.Common.{subst, sym}
use Rattle.pj_recheck.specs.Watching.{PathView}
use Rattle.pj_recheck.specs.Recheck.{LeadsFit}
use Rattle.pj_recheck.proofs.compiling.Path.route.Goals as goal

pub returns-clause-fits : goal.returns-clause-fits
returns-clause-fits c = record {
  own = subst (λ (p : PathView). LeadsFit c.args.self.now.row_states p.input c.in_ok-own.own) (sym c.self.view_is) c.in_ok-own.ensures.fits;
  behind = c.in_ok-behind.ensures.fit;
}
