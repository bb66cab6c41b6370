use Rattle.std.proofs.Common.{List, subst}
use Rattle.pj_events.specs.Join.{entry_of}
use Rattle.pj_cover.specs.declared.route.PurgeLink.{PurgeLink}
use Rattle.pj_cover.specs.Routes.{HasKey}
use Rattle.pj_cover.proofs.Linked.{key_told}
use Rattle.pj_cover.proofs.Partners.{partners_told}
use Rattle.pj_cover.proofs.ripeness.Judge.partners.Goals as goal

pub links_of-requires : goal.links_of-requires
links_of-requires g c = c.requires.links.within

pub returns-in-Some-clause-all : goal.returns-in-Some-clause-all
returns-in-Some-clause-all g c =
    partners_told c.args.self.now.spec.now c.args.parts.now (g.R.StoredRows.rows c.args.self.now.rows.now c.args.step.step.input) c.args.step.step.input c.in-Some.key.column c.in-Some.key.value.now c.tickets_with.result c.requires.sound c.requires.fit
    (key_told c.args.self.now.spec.now.classes (entry_of c.args.self.now.schemes.now c.args.step.step) c.args.self.now.route.now.links c.args.step c.args.parts.now c.in-Some.key.column c.in-Some.key.value.now c.requires.links
    (subst (λ (links : List PurgeLink). HasKey links c.args.parts.now c.in-Some.key.column c.in-Some.key.value.now) c.links_of.ensures.is c.in-Some.ensures)) c.tickets_with.ensures.tickets
