use Rattle.pj_recheck.specs.Recheck.{entry_with}
use Rattle.pj_recheck.proofs.Compiled.{own_are, own_fit}
use Rattle.pj_recheck.proofs.compiling.Path.own_leads.Goals as goal

pub returns-in_ok-leads-in-Some-clause-leads : goal.returns-in_ok-leads-in-Some-clause-leads
returns-in_ok-leads-in-Some-clause-leads c =
    own_are c.args.self.now.classes (entry_with c.args.input c.args.scheme.now) c.args.self.now.input c.in-Some.side c.in_ok-leads-in-Some.leads c.in-Some.ensures.input (rw (← c.self.view_is) c.in_ok-leads-in-Some.ensures.leads)

pub returns-in_ok-leads-in-Some-clause-fits : goal.returns-in_ok-leads-in-Some-clause-fits
returns-in_ok-leads-in-Some-clause-fits c = own_fit c.args.self.now.row_states c.args.self.now.input c.in-Some.side c.in_ok-leads-in-Some.leads c.in-Some.ensures.input c.in-Some.ensures.rows c.in_ok-leads-in-Some.ensures.indexed
