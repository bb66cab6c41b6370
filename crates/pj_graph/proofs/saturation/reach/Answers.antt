use Rattle.std.proofs.Common.{ℕ, subst}
use Rattle.pj_graph.specs.Search.{IsAnswer}
use Rattle.pj_graph.proofs.Reached.{reaches_are_told}
use Rattle.pj_graph.proofs.Steps.{lists_length}
use Rattle.pj_graph.proofs.Told.{told}
use Rattle.pj_graph.proofs.saturation.reach.Goals as goal

pub returns-clause-reached : goal.returns-clause-reached
returns-clause-reached c =
    told c.args.spec.now c.args.schemes.now c.args.input c.in_ok-found.found.steps c.in_ok-found.found.known c.in_ok-told.told
    (lists_length c.args.spec.now.inputs c.args.schemes.now c.requires.fitting) c.requires.input c.in_ok-found.ensures.known c.in_ok-found.ensures.saturated
    (subst (λ (n : ℕ). IsAnswer c.in_ok-found.found.steps c.in_ok-found.found.known n c.in_ok-told.told) c.len.ensures c.in_ok-told.ensures)

pub returns-clause-told : goal.returns-clause-told
returns-clause-told c =
    (reaches_are_told c.args.spec.now c.args.schemes.now c.args.input c.requires.fitting c.requires.input c.in_ok-told.told).0
    (told c.args.spec.now c.args.schemes.now c.args.input c.in_ok-found.found.steps c.in_ok-found.found.known c.in_ok-told.told
    (lists_length c.args.spec.now.inputs c.args.schemes.now c.requires.fitting) c.requires.input c.in_ok-found.ensures.known c.in_ok-found.ensures.saturated
    (subst (λ (n : ℕ). IsAnswer c.in_ok-found.found.steps c.in_ok-found.found.known n c.in_ok-told.told) c.len.ensures c.in_ok-told.ensures))
