use Rattle.std.proofs.Common.{◌≡◌, List, Bool, sym, subst}
use Rattle.pj_shape.specs.declared.joins.CertStep.{CertStep}
use Rattle.pj_shape.specs.declared.joins.JoinSpec.{JoinSpec}
use Rattle.pj_shape.specs.Sound.{FitSchemes}
use Rattle.pj_shape.specs.Certificates.{IsCertificate}
use Rattle.pj_test_states.specs.Chain.{chain, chain_schemes, chain_cert}
use Rattle.pj_test_states.proofs.ChainIs.{chain_certified, chain_fits}
use Rattle.pj_test_states.proofs.covers.judged_by.Goals as goal

certified : (spec : JoinSpec) (schemes : List (List (List Bool))) (cert : List CertStep) → spec ≡ chain → schemes ≡ chain_schemes → cert ≡ chain_cert → IsCertificate spec schemes 0 cert
certified spec schemes cert a b c =
    subst (λ (s : JoinSpec). IsCertificate s schemes 0 cert) (sym a)
    (subst (λ (l : List (List (List Bool))). IsCertificate chain l 0 cert) (sym b)
    (subst (λ (steps : List CertStep). IsCertificate chain chain_schemes 0 steps) (sym c) chain_certified))

fitting : (spec : JoinSpec) (schemes : List (List (List Bool))) → spec ≡ chain → schemes ≡ chain_schemes → FitSchemes spec.inputs schemes
fitting spec schemes a b = subst (λ (s : JoinSpec). FitSchemes s.inputs schemes) (sym a) (subst (λ (l : List (List (List Bool))). FitSchemes chain.inputs l) (sym b) chain_fits)

pub judge_row-said-requires-clause-schemes : goal.judge_row-said-requires-clause-schemes
judge_row-said-requires-clause-schemes c = fitting c.args.spec.now c.args.schemes.now c.requires.spec c.requires.schemes

pub ripe-is_ripe-requires-clause-schemes : goal.ripe-is_ripe-requires-clause-schemes
ripe-is_ripe-requires-clause-schemes c = fitting c.args.spec.now c.args.schemes.now c.requires.spec c.requires.schemes

pub judge_row-said-requires-clause-certified : goal.judge_row-said-requires-clause-certified
judge_row-said-requires-clause-certified c =
    subst (IsCertificate c.args.spec.now c.args.schemes.now 0) (sym c.purge_route-route.ensures.follows)
    (certified c.args.spec.now c.args.schemes.now c.args.cert.now c.requires.spec c.requires.schemes c.requires.cert)

pub ripe-is_ripe-requires-clause-certified : goal.ripe-is_ripe-requires-clause-certified
ripe-is_ripe-requires-clause-certified c = certified c.args.spec.now c.args.schemes.now c.args.cert.now c.requires.spec c.requires.schemes c.requires.cert
