use Rattle.std.proofs.Common.{List, subst, sym}
use Rattle.pj_shape.specs.declared.joins.CertStep.{CertStep}
use Rattle.pj_laws.specs.HistoryLaws.{AllAreCertified}
use Rattle.pj_core.specs.Plans.{nodes_of, run_plan}
use Rattle.pj_safe_core.proofs.Certified.{run_certified}
use Rattle.pj_prepare.proofs.Refusing.{new_core}
use Rattle.pj_prepare.proofs.calls.run_core.Goals as goal

pub new-requires-clause-certified : goal.new-requires-clause-certified
new-requires-clause-certified c =
    let nodes = c.args.plan.nodes in
    subst (λ (certs : List (List (List CertStep))). AllAreCertified (nodes_of (run_plan nodes certs c.args.options.trace))) (sym c.requires.certs) (run_certified nodes c.args.options.trace c.nodes-nodes.ensures.sound c.requires.certified)

pub returns-clause-fresh : goal.returns-clause-fresh
returns-clause-fresh c = new_core c.in_ok-new.field-0 c.args.plan c.args.certs c.args.options.trace c.args.options.limit c.in_ok-new.ensures c.nodes-nodes.ensures.sound c.nodes-nodes.ensures.made c.requires.certs c.requires.certified
