use Rattle.pj_recheck.proofs.compiling.leads_of.Goals as goal

pub loop-column-preserved : goal.loop-column-preserved
loop-column-preserved c = (c.in_ok-add_lead.ensures.leads c.loop-column.invariant.0, c.in_ok-add_lead.ensures.indexed c.loop-column.invariant.1)
