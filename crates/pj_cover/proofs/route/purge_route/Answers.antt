use Rattle.std.proofs.Common.{List, ℕ, ◌∷◌, [], ◌++◌, ◌∙◌, ap}
use Rattle.pj_cover.proofs.Making.{begun_more, begun_none, next_bound, next_few, next_room, next_scheme}
use Rattle.pj_cover.proofs.route.purge_route.Goals as goal

pub loop-at-init : goal.loop-at-init
loop-at-init c =
    begun_none c.args.spec.now c.args.schemes.now c.args.cert.now c.args.own c.push.new.self.items _ c.requires.sound c.requires.own c.requires.schemes c.requires.certified
    (c.push.ensures.items ∙ ap (λ (ns : List ℕ). ns ++ c.args.own ∷ []) c.new-known.ensures) c.new.ensures c.new-2.ensures

pub scheme_of-scheme-requires : goal.scheme_of-scheme-requires
scheme_of-scheme-requires c =
    next_scheme c.args.spec.now c.args.schemes.now c.args.cert.now c.args.own c.loop-at.at c.loop-at.known.items c.loop-at.route c.at-step.result.now c.requires.sound c.loop-at.invariant c.at-step.ensures

pub add_step-requires-clause-few : goal.add_step-requires-clause-few
add_step-requires-clause-few c =
    next_few c.args.spec.now c.args.schemes.now c.args.cert.now c.args.own c.loop-at.at c.loop-at.known.items c.loop-at.route c.at-step.result.now c.requires.sound c.loop-at.invariant c.at-step.ensures

pub add_step-requires-clause-room : goal.add_step-requires-clause-room
add_step-requires-clause-room c =
    next_room c.args.spec.now c.args.schemes.now c.args.cert.now c.args.own c.loop-at.at c.loop-at.known.items c.loop-at.route c.at-step.result.now c.requires.sound c.loop-at.invariant c.at-step.ensures c.scheme_of-scheme.result.now c.scheme_of-scheme.ensures

pub add_step-requires-clause-bound : goal.add_step-requires-clause-bound
add_step-requires-clause-bound c =
    next_bound c.args.spec.now c.args.schemes.now c.args.cert.now c.args.own c.loop-at.at c.loop-at.known.items c.loop-at.route c.at-step.result.now c.requires.sound c.loop-at.invariant c.at-step.ensures
    c.as_slice.result.now c.scheme_of-scheme.result.now c.as_slice-in-loop-at.result.now c.as_slice.ensures c.scheme_of-scheme.ensures c.as_slice-in-loop-at.ensures.value

pub loop-at-preserved : goal.loop-at-preserved
loop-at-preserved c =
    begun_more c.args.spec.now c.args.schemes.now c.args.cert.now c.args.own c.loop-at.at c.loop-at.known.items c.loop-at.route c.at-step.result.now c.requires.sound c.loop-at.invariant c.at-step.ensures
    c.as_slice.result.now c.scheme_of-scheme.result.now c.as_slice-in-loop-at.result.now c.insert.new.self.items c.add_step.new.self c.as_slice.ensures c.scheme_of-scheme.ensures c.as_slice-in-loop-at.ensures.value c.insert.ensures.items c.add_step.ensures
