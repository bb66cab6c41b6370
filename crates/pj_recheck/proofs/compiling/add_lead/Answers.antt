use Rattle.pj_recheck.specs.declared.routes.Lead.{Lead}
use Rattle.pj_value.specs.Lists.{In}
use Rattle.pj_recheck.specs.Recheck.{IsLead, entry_with}
use Rattle.pj_recheck.proofs.Compiled.{all_more}
use Rattle.pj_recheck.proofs.compiling.add_lead.Goals as goal

pub returns-in_ok-push-in-Some-clause-leads : goal.returns-in_ok-push-in-Some-clause-leads
returns-in_ok-push-in-Some-clause-leads c = λ all. all_more (λ (l : Lead). IsLead c.args.classes.now (entry_with c.args.input c.args.scheme.now) c.args.side.now.input l) c.args.leads.now c.push.new.self c.in-Some.lead c.in_ok-push-in-Some.ensures.ok all c.in-Some.ensures.leads

pub returns-in_ok-push-in-Some-clause-indexed : goal.returns-in_ok-push-in-Some-clause-indexed
returns-in_ok-push-in-Some-clause-indexed c = λ all. all_more (λ (l : Lead). In l.column c.args.side.now.state.columns) c.args.leads.now c.push.new.self c.in-Some.lead c.in_ok-push-in-Some.ensures.ok all c.in-Some.ensures.indexed
