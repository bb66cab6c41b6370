use Rattle.std.proofs.Common.{List, subst, sym}
use Rattle.pj_shape.specs.declared.joins.CertStep.{CertStep}
use Rattle.pj_laws.specs.HistoryLaws.{AllAreCertified}
use Rattle.pj_core.specs.Plans.{nodes_of, run_plan}
use Rattle.pj_safe_core.proofs.Certified.{run_certified}
use Rattle.pj_safe_core.proofs.opening.safe_core.Goals as goal

pub new-requires-clause-certified : goal.new-requires-clause-certified
new-requires-clause-certified c =
    subst (λ (certs : List (List (List CertStep))). AllAreCertified (nodes_of (run_plan c.args.plan.nodes certs c.args.trace))) (sym c.requires.certs)
    (run_certified c.args.plan.nodes c.args.trace c.nodes-sound.ensures.sound c.requires.certified)
