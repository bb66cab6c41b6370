-- What the checker's certificates are to a core.
use Rattle.std.specs.Prelude.{Bool, List}
use Rattle.pj_plan.specs.Sound.{IsSoundPlan}
use Rattle.pj_plan.specs.declared.node.PlanNode.{PlanNode}
use Rattle.pj_safety.specs.Certificates.{AreCertificates, certificates_of}
use Rattle.pj_laws.specs.HistoryLaws.{AllAreCertified}
use Rattle.pj_core.specs.Plans.{nodes_of, run_plan}

-- in a sound plan the certificates that the checker finds, where it finds all, are those that histories ask of its joins
abbrev pub FoundCertify : Type 0
FoundCertify = (nodes : List PlanNode) (trace : Bool) → IsSoundPlan nodes → AreCertificates nodes → AllAreCertified (nodes_of (run_plan nodes (certificates_of nodes) trace))
