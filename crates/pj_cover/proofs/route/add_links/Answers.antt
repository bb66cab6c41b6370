use Rattle.pj_cover.proofs.Making.{more_links}
use Rattle.pj_cover.proofs.route.add_links.Goals as goal

pub loop-column-preserved : goal.loop-column-preserved
loop-column-preserved c =
    more_links c.args.classes.now c.args.known.now c.args.input c.args.scheme.now c.loop-column.column c.at.result.now c.args.links.now.items c.loop-column.links.items c.add_link.new.links.items c.at.ensures c.requires.bound c.loop-column.invariant c.add_link.ensures
