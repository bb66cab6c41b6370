use Rattle.pj_value.proofs.Members.{in-place}
use Rattle.pj_cover.specs.declared.route.PurgeLink.{PurgeLink}
use Rattle.std.proofs.Common.{false}
use Rattle.pj_cover.proofs.route.link_of.Goals as goal

abbrev none : PurgeLink
none = record { column = 0; is_marked = false; from = record { place = 0; column = 0 } }

pub returns-then-link-column : goal.returns-then-link-column
returns-then-link-column c = (in-place c.args.links.now none c.loop-link.link-index c.loop-link-test.true, c.if-link-column.true)
