-- The accepted elements of the streams of a plan.
use Rattle.std.proofs.Common.{◌≡◌, ℕ, zero, suc, ◌<◌, Bool, true, List, [], ◌∷◌, length, get_or, refl, ap, sym, ◌∙◌, subst, arith, zero-add}
use Rattle.std.proofs.lemmas.Bool.{false≢true}
use Rattle.std.proofs.lemmas.List.{get_or-map}
use Rattle.pj_shape.specs.declared.columns.Column.{Column}
use Rattle.pj_shape.specs.declared.joins.CertStep.{CertStep}
use Rattle.pj_scheme.specs.Derived.{schemes_of}
use Rattle.pj_plan.specs.declared.node.Node.{Node as Operation}
use Rattle.pj_plan.specs.declared.node.Node.TheVariants.{Stream as StreamNode, Select as SelectNode, Project as ProjectNode, Union as UnionNode, Join as JoinNode, Group as GroupNode}
use Rattle.pj_run.specs.Jobs.{Job}
use Rattle.pj_plan.specs.declared.node.PlanNode.{PlanNode}
use Rattle.pj_plan.specs.Nodes.{is_stream, streams_of as numbers_of, schema_in, stream_columns, streams_in}
use Rattle.pj_plan.specs.Canonical.{no_node}
use Rattle.pj_events.specs.Plan.{operator_at}
use Rattle.pj_events.specs.History.{streams_of}
use Rattle.pj_events.specs.OneThread.{schema_of}
use Rattle.pj_laws.specs.HistoryLaws.{AreAccepted, AreAcceptedLists}
use Rattle.pj_core.specs.Plans.{operator_of}
use Rattle.pj_run.specs.Runs.{run_nodes}
use Rattle.pj_feed.specs.Feeds.{accepted_of}
use Rattle.pj_safety.specs.Certificates.{certificates_of}
use Rattle.pj_run.proofs.AcceptedLaws.{accepted_file}
use Rattle.pj_core.proofs.Frames.{certs_at, operator-is}
use Rattle.pj_feed.proofs.StreamNodes.{IsStreamAt, count_numbers, stream-at}
use Rattle.pj_run.proofs.StreamNodes.{same-numbers}

-- ---- the streams of a plan

pub count-streams : (job : Job) → length (streams_of (run_nodes job)) ≡ length (streams_in job.nodes)
count-streams job = ap length (same-numbers job) ∙ count_numbers job.nodes

stream-columns : (schemes : List (List (List Bool))) (certs : List (List CertStep)) (schema : List Column) (operation : Operation) → is_stream operation ≡ true → schema_of (operator_of schemes certs schema operation) ≡ schema
stream-columns schemes certs schema (StreamNode stated) t = refl
stream-columns schemes certs schema (SelectNode input test) t = absurd (false≢true t)
stream-columns schemes certs schema (ProjectNode input columns) t = absurd (false≢true t)
stream-columns schemes certs schema (UnionNode inputs) t = absurd (false≢true t)
stream-columns schemes certs schema (JoinNode inputs spec) t = absurd (false≢true t)
stream-columns schemes certs schema (GroupNode input spec) t = absurd (false≢true t)

-- the columns of a stream of the plan
pub schema-is : (job : Job) (k d : ℕ) → k < length (streams_in job.nodes) → schema_of (operator_at (run_nodes job) (get_or (streams_of (run_nodes job)) k d)) ≡ stream_columns (streams_in job.nodes) k
schema-is job k d lt =
    ap (λ (ns : List ℕ). schema_of (operator_at (run_nodes job) (get_or ns k d))) (same-numbers job)
    ∙ (ap (λ (n : ℕ). schema_of (operator_at (run_nodes job) n)) (here.at ∙ zero-add here.place)
    ∙ (ap schema_of (operator-is (schemes_of job.nodes) (certificates_of job.nodes) job.nodes here.place here.there)
    ∙ (ap (λ (x : PlanNode). schema_of (operator_of (schemes_of job.nodes) (certs_at job.nodes (certificates_of job.nodes) here.place) x.schema x.node)) here.is
    ∙ (stream-columns (schemes_of job.nodes) (certs_at job.nodes (certificates_of job.nodes) here.place) stream.schema stream.node here.stream
    ∙ sym (get_or-map schema_in (streams_in job.nodes) k no_node [] lt)))))
  where
    stream : PlanNode
    stream = get_or (streams_in job.nodes) k no_node

    here : IsStreamAt 0 job.nodes (get_or (numbers_of job.nodes) k d) stream
    here = stream-at job.nodes k d lt

-- ---- their accepted elements

pub count-accepted : (streams : List PlanNode) (files : List (List ℕ)) → length (accepted_of streams files) ≡ length streams
count-accepted [] files = refl
count-accepted (s ∷ streams) [] = ap suc (count-accepted streams [])
count-accepted (s ∷ streams) (bytes ∷ files) = ap suc (count-accepted streams files)

none-accepted : (ks : List Column) → AreAccepted ks []
none-accepted ks = (λ e h. absurd h, tt)

accepted-from : (k : ℕ) (streams : List PlanNode) (files : List (List ℕ)) → k < length streams → AreAccepted (stream_columns streams k) (get_or (accepted_of streams files) k [])
accepted-from k [] files lt = absurd (omega arith)
accepted-from zero (s ∷ streams) [] lt = none-accepted s.schema
accepted-from zero (s ∷ streams) (bytes ∷ files) lt = accepted_file s.schema bytes
accepted-from (suc k) (s ∷ streams) [] lt = accepted-from k streams [] (omega arith)
accepted-from (suc k) (s ∷ streams) (bytes ∷ files) lt = accepted-from k streams files (omega arith)

-- the lists of accepted elements are accepted by the plan's streams
pub accepted_lists : (job : Job) (files : List (List ℕ)) → AreAcceptedLists (run_nodes job) (accepted_of (streams_in job.nodes) files)
accepted_lists job files = (
  count-accepted (streams_in job.nodes) files ∙ sym (count-streams job),
  λ k lt. let there : k < length (streams_in job.nodes) = omega (arith, lt, count-streams job) in
      subst (λ (ks : List Column). AreAccepted ks (get_or (accepted_of (streams_in job.nodes) files) k [])) (sym (schema-is job k (length (run_nodes job)) there)) (accepted-from k (streams_in job.nodes) files there),
)
