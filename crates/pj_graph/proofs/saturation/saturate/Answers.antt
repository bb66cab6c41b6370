use Rattle.std.proofs.Common.{ℕ, ◌<◌, List, [], ◌∷◌, length, Option, Some, None, sym, subst, append-nil}
use Rattle.pj_shape.specs.declared.joins.CertStep.{CertStep}
use Rattle.pj_graph.specs.Certificates.{IsSaturation}
use Rattle.pj_graph.specs.Search.{IsNext}
use Rattle.pj_graph.proofs.Saturations.{search_ends, unknown}
use Rattle.pj_graph.proofs.saturation.saturate.Goals as goal

pub adding-smaller : goal.adding-smaller
adding-smaller c =
    let at_known : IsNext c.args.spec.now c.args.schemes.now c.adding.known c.in_ok-next_step.field-0 =
    subst (λ (known : List ℕ). IsNext c.args.spec.now c.args.schemes.now known c.in_ok-next_step.field-0) c.as_slice-in-adding.ensures c.in_ok-next_step.ensures in
    let next : IsNext c.args.spec.now c.args.schemes.now c.adding.known (Some c.in-Some.step) =
    subst (λ (o : Option CertStep). IsNext c.args.spec.now c.args.schemes.now c.adding.known o) c.in-Some.is at_known in
    subst (λ (known : List ℕ). unknown known (length c.args.schemes.now) < unknown c.adding.known (length c.args.schemes.now))
    (sym c.in_ok-push-in-Some-2.ensures.ok)
    (search_ends c.args.spec.now c.args.schemes.now c.adding.known c.in-Some.step next)

pub returns-in-None-clause-saturated : goal.returns-in-None-clause-saturated
returns-in-None-clause-saturated c =
    let at_known : IsNext c.args.spec.now c.args.schemes.now c.adding.known c.in_ok-next_step.field-0 =
    subst (λ (known : List ℕ). IsNext c.args.spec.now c.args.schemes.now known c.in_ok-next_step.field-0) c.as_slice-in-adding.ensures c.in_ok-next_step.ensures in
    let next : IsNext c.args.spec.now c.args.schemes.now c.adding.known None =
    subst (λ (o : Option CertStep). IsNext c.args.spec.now c.args.schemes.now c.adding.known o) c.in-None.is at_known in
    subst (λ (steps : List CertStep). IsSaturation c.args.spec.now c.args.schemes.now (c.args.input ∷ []) steps)
    (append-nil c.adding.steps) (c.adding.invariant.1 [] next)
