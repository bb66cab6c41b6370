-- The streams of a run are those of its plan.
use Rattle.std.proofs.Common.{ℕ, ◌+◌, Bool, cond, List, [], ◌∷◌, ◌≡◌, get_or, refl, ap, ◌∙◌}
use Rattle.pj_shape.specs.declared.columns.Column.{Column}
use Rattle.pj_shape.specs.declared.joins.CertStep.{CertStep}
use Rattle.pj_scheme.specs.Derived.{schemes_of}
use Rattle.pj_plan.specs.declared.node.Node.{Node as Operation}
use Rattle.pj_plan.specs.declared.node.Node.TheVariants.{Stream as StreamNode, Select as SelectNode, Project as ProjectNode, Union as UnionNode, Join as JoinNode, Group as GroupNode}
use Rattle.pj_plan.specs.declared.node.PlanNode.{PlanNode}
use Rattle.pj_run.specs.Jobs.{Job}
use Rattle.pj_plan.specs.Nodes.{is_stream, numbers_from, streams_of}
use Rattle.pj_events.specs.History.{is_stream as is_fed, streams_from, streams_of as streams_among}
use Rattle.pj_core.specs.Plans.{certs_behind, nodes_with, operator_of}
use Rattle.pj_safety.specs.Certificates.{certificates_of}
use Rattle.pj_run.specs.Runs.{run_nodes}

same_sort : (schemes : List (List (List Bool))) (certs : List (List CertStep)) (schema : List Column) (operation : Operation) → is_fed (operator_of schemes certs schema operation) ≡ is_stream operation
same_sort schemes certs schema (StreamNode stated) = refl
same_sort schemes certs schema (SelectNode input test) = refl
same_sort schemes certs schema (ProjectNode input columns) = refl
same_sort schemes certs schema (UnionNode inputs) = refl
same_sort schemes certs schema (JoinNode inputs spec) = refl
same_sort schemes certs schema (GroupNode input spec) = refl

same-from : (schemes : List (List (List Bool))) (certs : List (List (List CertStep))) (n : ℕ) (nodes : List PlanNode) → streams_from n (nodes_with schemes certs nodes) ≡ numbers_from is_stream n nodes
same-from schemes certs n [] = refl
same-from schemes certs n (node ∷ nodes) =
    ap (λ (ns : List ℕ). cond (is_fed (operator_of schemes (get_or certs 0 []) node.schema node.node)) (n ∷ ns) ns) (same-from schemes (certs_behind node certs) (n + 1) nodes)
    ∙ ap (λ (b : Bool). cond b (n ∷ numbers_from is_stream (n + 1) nodes) (numbers_from is_stream (n + 1) nodes)) (same_sort schemes (get_or certs 0 []) node.schema node.node)

-- the laws number the streams as the plan does
pub same-numbers : (job : Job) → streams_among (run_nodes job) ≡ streams_of job.nodes
same-numbers job = same-from (schemes_of job.nodes) (certificates_of job.nodes) 0 job.nodes
