use Rattle.std.proofs.Common.{ap, refl, subst, sym}
use Rattle.pj_recheck.specs.Recheck.{LeadsFit}
use Rattle.pj_recheck.specs.Watching.{SideView}
use Rattle.pj_recheck.proofs.Compiled.{own_fit}
use Rattle.pj_recheck.proofs.compiling.Path.stop.Goals as goal

pub returns-in_ok-way-in-Some-clause-fits : goal.returns-in_ok-way-in-Some-clause-fits
returns-in_ok-way-in-Some-clause-fits c = record {
  leads =
      subst (λ k. LeadsFit c.args.self.now.row_states k c.in_ok-leads-in-Some.leads) (sym (ap (λ (s : SideView). s.input) c.side-in-Some.view_is))
      (own_fit c.args.self.now.row_states c.in-Some.side.input c.in-Some.side c.in_ok-leads-in-Some.leads refl c.in-Some.ensures.rows c.in_ok-leads-in-Some.ensures.indexed);
  way = c.in_ok-way-in-Some.ensures.fits;
}
