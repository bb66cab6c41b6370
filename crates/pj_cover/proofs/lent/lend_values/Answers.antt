use Rattle.std.proofs.Common.{false, get_or}
use Rattle.pj_value.proofs.Members.{in-place}
use Rattle.pj_cover.specs.declared.route.PurgeLink.{PurgeLink}
use Rattle.pj_cover.proofs.lent.lend_values.Goals as goal

abbrev none : PurgeLink
none = record { column = 0; is_marked = false; from = record { place = 0; column = 0 } }

pub lend_value-requires-clause-there : goal.lend_value-requires-clause-there
lend_value-requires-clause-there c = c.requires.there (get_or c.args.links.now c.loop-link.link-index none) (in-place c.args.links.now none c.loop-link.link-index c.loop-link-test.true)
