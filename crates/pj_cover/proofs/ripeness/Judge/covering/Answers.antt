use Rattle.pj_events.specs.Join.{entry_of}
use Rattle.pj_cover.proofs.Instances.{all_told, count_told, one_told}
use Rattle.pj_cover.proofs.ripeness.Judge.covering.Goals as goal

pub covering_all-requires-clause-count : goal.covering_all-requires-clause-count
covering_all-requires-clause-count g c =
    count_told c.args.self.now.spec.now.classes (entry_of c.args.self.now.schemes.now c.args.step.step) c.args.self.now.route.now.links c.args.step c.args.parts.now c.requires.ready c.scheme_of-scheme.result.now c.scheme_of-scheme.ensures c.links_of.result.now c.links_of.ensures.is

pub returns-in-None : goal.returns-in-None
returns-in-None g c d =
    all_told c.args.self.now.spec.now.classes (entry_of c.args.self.now.schemes.now c.args.step.step) c.args.self.now.route.now.links c.args.step c.args.parts.now c.requires.ready c.scheme_of-scheme.result.now c.scheme_of-scheme.ensures
    c.links_of.result.now c.args.self.now.punct_stores.now c.args.self.now.low c.covering_all.result d c.index-self-step.result c.links_of.ensures.is c.requires.step.store c.covering_all.ensures

pub returns-in-Some : goal.returns-in-Some
returns-in-Some g c d =
    one_told c.args.self.now.spec.now.classes (entry_of c.args.self.now.schemes.now c.args.step.step) c.args.self.now.route.now.links c.args.step c.args.parts.now c.requires.ready c.scheme_of-scheme.result.now c.scheme_of-scheme.ensures
    c.in-Some.link c.len.result c.args.self.now.punct_stores.now c.args.self.now.low c.covering_one.result d c.index-self-step.result c.in-Some.is c.len.ensures c.requires.step.store c.covering_one.ensures
