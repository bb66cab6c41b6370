use Rattle.std.proofs.Common.{get_or}
use Rattle.pj_value.proofs.Members.{in-place}
use Rattle.pj_recheck.specs.declared.routes.Lead.{Lead}
use Rattle.pj_recheck.proofs.Rechecked.{keyed_more}
use Rattle.pj_recheck.proofs.waking.fewest_keyed.Goals as goal

abbrev none : Lead
none = record { asked = 0; column = 0 }

pub keyed_by-requires : goal.keyed_by-requires
keyed_by-requires c = c.requires (get_or c.args.leads.now c.loop-at.at none) (in-place c.args.leads.now none c.loop-at.at c.loop-at-test.true)

pub loop-at-preserved : goal.loop-at-preserved
loop-at-preserved c =
    keyed_more (λ tickets. tickets.now) c.args.state.now c.args.leads.now c.args.punct.now (get_or c.args.leads.now c.loop-at.at none) c.loop-at.found c.keyed_by.result c.shorter-found.result (in-place c.args.leads.now none c.loop-at.at c.loop-at-test.true) c.loop-at.invariant c.keyed_by.ensures c.shorter-found.ensures
