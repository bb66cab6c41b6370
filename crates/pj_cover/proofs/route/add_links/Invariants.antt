use Rattle.pj_cover.specs.Routes.{AddsLinks}
use Rattle.pj_cover.specs.Making.{entry_with}
use Rattle.pj_cover.proofs.route.add_links.Given as goal

abbrev pub invariant-loop-column : goal.invariant-loop-column
invariant-loop-column l = AddsLinks l.classes l.known (entry_with l.input l.scheme) l.column l.initial.links.items l.links.items
