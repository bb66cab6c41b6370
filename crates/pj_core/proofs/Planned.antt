-- What the laws of histories ask of the nodes of a sound plan.
use Rattle.std.proofs.Common.{ℕ, zero, suc, ◌+◌, ◌<◌, ◌≡◌, Bool, true, false, cond, ◌==◌, List, [], ◌∷◌, ◌++◌, Option, Some, None, map, flat_map, length, sum, get_or, refl, sym, ap, ap₂, ◌∙◌, subst, inl, inr, append_assoc, arith}
use Rattle.std.specs.Prelude.{slice_index}
use Rattle.std.proofs.Math.Seq.{get_or-append_seam}
use Rattle.std.proofs.lemmas.List.{length-append, length-map, map-append}
use Rattle.std.proofs.lemmas.List.Sums.{sum-map, sum_by-cons}
use Rattle.std.proofs.lemmas.Bool.{false_from_ne_true}
use Rattle.pj_value.specs.Lists.{In}
use Rattle.pj_value.proofs.Members.{In-map}
use Rattle.pj_value.proofs.Numbers.{has-in}
use Rattle.pj_shape.specs.declared.columns.Column.{Column}
use Rattle.pj_shape.specs.declared.joins.CertStep.{CertStep}
use Rattle.pj_shape.specs.Columns.{domains_of}
use Rattle.pj_shape.proofs.DomainsOf.{domains_length}
use Rattle.pj_pattern.proofs.Fitting.{punct_length}
use Rattle.pj_plan.specs.declared.node.Node.{Node as Operation}
use Rattle.pj_plan.specs.declared.node.Node.TheVariants.{Stream as StreamNode, Select as SelectNode, Project as ProjectNode, Union as UnionNode, Join as JoinNode, Group as GroupNode}
use Rattle.pj_plan.specs.declared.node.PlanNode.{PlanNode}
use Rattle.pj_plan.specs.Nodes.{inputs_of, input_from, or_else, parent_from}
use Rattle.pj_plan.specs.Canonical.{no_node, node_schema}
use Rattle.pj_plan.specs.Sound.{AreDistinct as AreApart, IsSoundOperator, IsSoundPlan, agg_domain_at, all_inputs as inputs_in, domain_at}
use Rattle.pj_scheme.specs.Derived.{schemes_of}
use Rattle.pj_events.specs.Join.{AreDistinct, has}
use Rattle.pj_events.specs.Plan.{ArePlanned, IsWellMade, operator_width}
use Rattle.pj_events.specs.Outcomes.{place_in}
use Rattle.pj_laws.specs.Climb.{Above, HasOneTop, IsTree, above_from, all_inputs, first_above}
use Rattle.pj_laws.proofs.Trees.{planned-tree}
use Rattle.pj_core.specs.Plans.{RunPlan, certs_behind, nodes_of, nodes_with, operator_of}

-- ---- numbers of columns

abbrev wide : PlanNode → ℕ
wide node = length node.schema

-- of the nodes that stand in front
front_width : (front rest : List PlanNode) (m : ℕ) → m < length front → slice_index (map wide front) m ≡ length (node_schema (front ++ rest) m)
front_width [] rest m lt = absurd (omega (arith, lt))
front_width (node ∷ front) rest zero lt = refl
front_width (node ∷ front) rest (suc m) lt = front_width front rest m (omega (arith, lt))

-- of inputs
widths_same : (of_front : ℕ → ℕ) (schema : ℕ → List Column) (ms : List ℕ) → ((m : ℕ) → In m ms → of_front m ≡ length (schema m)) → map of_front ms ≡ map length (map schema ms)
widths_same of_front schema [] same = refl
widths_same of_front schema (m ∷ ms) same = ap₂ (λ (n : ℕ) (ns : List ℕ). n ∷ ns) (same m (inl refl)) (widths_same of_front schema ms (λ k h. same k (inr h)))

sum_long : (schema : ℕ → List Column) (ms : List ℕ) → sum (map length (map schema ms)) ≡ length (flat_map schema ms)
sum_long schema [] = refl
sum_long schema (m ∷ ms) =
    sum-map length (schema m ∷ map schema ms)
    ∙ (sum_by-cons length (schema m) (map schema ms)
    ∙ (ap (λ (n : ℕ). length (schema m) + n) (sym (sum-map length (map schema ms)) ∙ sum_long schema ms) ∙ sym (length-append (schema m) (flat_map schema ms))))

-- ---- one node

-- an operator at its start is well made for the widths of its inputs, and has the width of its columns
pub record IsMade (schemes : List (List (List Bool))) (certs : List (List CertStep)) (schema : List Column) (widths : ℕ → ℕ) (operation : Operation) : Type 0 where
  pub made : IsWellMade (operator_of schemes certs schema operation) (map widths (inputs_of operation))
  pub width : operator_width (operator_of schemes certs schema operation) (map widths (inputs_of operation)) ≡ length schema

union_made : (schemes : List (List (List Bool))) (certs : List (List CertStep)) (schema : List Column) (widths : ℕ → ℕ) (nodes : List PlanNode) (inputs : List ℕ) → IsSoundOperator nodes schema (UnionNode inputs)
    → ((m : ℕ) → In m inputs → widths m ≡ length (node_schema nodes m)) → IsMade schemes certs schema widths (UnionNode inputs)
union_made schemes certs schema widths nodes [] s same = absurd (let two = s.0 in omega (arith, two))
union_made schemes certs schema widths nodes (m ∷ ms) s same =
    let all : (k : ℕ) → In k (m ∷ ms) → widths k ≡ length schema = λ k h. same k h ∙ (sym (domains_length (node_schema nodes k)) ∙ (ap length (s.3 k h) ∙ domains_length schema)) in
    record {
      made = (
        ap suc (length-map ms widths),
        (λ w h. let f = In-map widths w (m ∷ ms) h in sym f.2 ∙ (all f.0 f.1 ∙ sym (all m (inl refl)))),
        refl,
        refl,
        omega arith,
      );
      width = all m (inl refl);
    }

pub node_made : (schemes : List (List (List Bool))) (certs : List (List CertStep)) (schema : List Column) (widths : ℕ → ℕ) (nodes : List PlanNode) (operation : Operation) → IsSoundOperator nodes schema operation
    → ((m : ℕ) → In m (inputs_of operation) → widths m ≡ length (node_schema nodes m)) → IsMade schemes certs schema widths operation
node_made schemes certs schema widths nodes (StreamNode stated) s same = record { made = (refl, refl); width = refl }
node_made schemes certs schema widths nodes (SelectNode input test) s same =
    let one : widths input ≡ length schema = same input (inl refl) ∙ ap length (sym s.0) in
    record { made = (refl, punct_length (domains_of schema) test s.1 ∙ (domains_length schema ∙ sym one)); width = one }
node_made schemes certs schema widths nodes (ProjectNode input columns) s same =
    let one = same input (inl refl) in
    record { made = (refl, λ c h. let lt = s.0 c h in omega (arith, lt, one)); width = sym (length-map columns (domain_at (node_schema nodes input))) ∙ (ap length (sym s.1) ∙ domains_length schema) }
node_made schemes certs schema widths nodes (UnionNode inputs) s same = union_made schemes certs schema widths nodes inputs s same
node_made schemes certs schema widths nodes (JoinNode inputs spec) s same =
    let arities : map widths inputs ≡ map length spec.inputs = widths_same widths (node_schema nodes) inputs same ∙ ap (map length) (sym s.1) in
    let few = s.0.few_inputs.0 in
    let long = length-map spec.inputs length in
    record {
      made = (arities, omega (arith, few, long), refl);
      width = ap (λ (schemas : List (List Column)). sum (map length schemas)) s.1 ∙ (sum_long (node_schema nodes) inputs ∙ ap length (sym s.2));
    }
node_made schemes certs schema widths nodes (GroupNode input spec) s same =
    let one = same input (inl refl) in
    let columns : List Column = node_schema nodes input in
    let keys = length-map spec.keys (domain_at columns) in
    let aggs = length-map spec.aggs (agg_domain_at columns) in
    let all = length-append (map (domain_at columns) spec.keys) (map (agg_domain_at columns) spec.aggs) in
    let kinds = sym (domains_length schema) ∙ ap length s.2 in
    record { made = (refl, (λ c h. let lt = s.0.keys_there c h in omega (arith, lt, one)), refl); width = omega (arith, keys, aggs, all, kinds) }

-- ---- all nodes

planned_from : (nodes front rest : List PlanNode) (schemes : List (List (List Bool))) (certs : List (List (List CertStep))) → IsSoundPlan nodes → front ++ rest ≡ nodes → ArePlanned (map wide front) (nodes_with schemes certs rest)
planned_from nodes front [] schemes certs sound e = tt
planned_from nodes front (node ∷ rest) schemes certs sound e = (
  (λ m h. let lt = before m h in let long = length-map front wide in omega (arith, lt, long)),
  here.made,
  subst (λ (ws : List ℕ). ArePlanned ws (nodes_with schemes (certs_behind node certs) rest)) (map-append wide front (node ∷ []) ∙ ap (λ (w : ℕ). map wide front ++ w ∷ []) (sym here.width))
      (planned_from nodes (front ++ node ∷ []) rest schemes (certs_behind node certs) sound (append_assoc front (node ∷ []) rest ∙ e)),
)
  where
    n : ℕ
    n = length front

    there : n < length nodes
    there = let all = length-append front (node ∷ rest) in let long = ap length e in omega (arith, all, long)

    is : get_or nodes n no_node ≡ node
    is = ap (λ (ns : List PlanNode). get_or ns n no_node) (sym e) ∙ get_or-append_seam front node rest no_node

    before : (m : ℕ) → In m (inputs_of node.node) → m < n
    before m h = (sound.each n there).before m (subst (λ (x : PlanNode). In m (inputs_of x.node)) (sym is) h)

    here : IsMade schemes (get_or certs 0 []) node.schema (slice_index (map wide front)) node.node
    here = node_made schemes (get_or certs 0 []) node.schema (slice_index (map wide front)) nodes node.node
        (subst (λ (x : PlanNode). IsSoundOperator nodes x.schema x.node) is (sound.each n there).operator)
        (λ m h. front_width front (node ∷ rest) m (before m h) ∙ ap (λ (ns : List PlanNode). length (node_schema ns m)) e)

-- the nodes of a sound plan are well made
pub planned : (plan : RunPlan) → IsSoundPlan plan.nodes → ArePlanned [] (nodes_of plan)
planned plan sound = planned_from plan.nodes [] plan.nodes (schemes_of plan.nodes) plan.certs sound refl

pub with-long : (schemes : List (List (List Bool))) (certs : List (List (List CertStep))) (nodes : List PlanNode) → length (nodes_with schemes certs nodes) ≡ length nodes
with-long schemes certs [] = refl
with-long schemes certs (node ∷ nodes) = ap suc (with-long schemes (certs_behind node certs) nodes)

-- as many nodes as the plan has
pub nodes-long : (plan : RunPlan) → length (nodes_of plan) ≡ length plan.nodes
nodes-long plan = with-long (schemes_of plan.nodes) plan.certs plan.nodes

pub not-empty : (plan : RunPlan) → IsSoundPlan plan.nodes → 0 < length (nodes_of plan)
not-empty plan sound = let some = sound.some in let long = nodes-long plan in omega (arith, some, long)

-- ---- a tree

-- the same inputs
inputs-same : (schemes : List (List (List Bool))) (certs : List (List (List CertStep))) (nodes : List PlanNode) → all_inputs (nodes_with schemes certs nodes) ≡ inputs_in nodes
inputs-same schemes certs [] = refl
inputs-same schemes certs (node ∷ nodes) = ap (λ (ms : List ℕ). inputs_of node.node ++ ms) (inputs-same schemes (certs_behind node certs) nodes)

apart : (ns : List ℕ) → AreApart ns → AreDistinct ns
apart [] d = tt
apart (n ∷ ns) d = (false_from_ne_true (has ns n) (λ t. d.0 (has-in ns n t)), apart ns d.1)

pub tree : (plan : RunPlan) → IsSoundPlan plan.nodes → IsTree (nodes_of plan)
tree plan sound = planned-tree (nodes_of plan) (planned plan sound) (subst AreDistinct (sym (inputs-same (schemes_of plan.nodes) plan.certs plan.nodes)) (apart (inputs_in plan.nodes) sound.once))

-- ---- one top

-- the place of a node's input, told with its node and alone
abbrev with_node : ℕ → Option ℕ → Option (ℕ × ℕ)
with_node k None = None
with_node k (Some input) = Some (k, input)

abbrev told : Option Above → Option (ℕ × ℕ)
told None = None
told (Some a) = Some (a.place, a.input)

input-told : (k from : ℕ) (inputs : List ℕ) (n : ℕ) → input_from k from inputs n ≡ with_node k (place_in from inputs n)
input-told k from [] n = refl
input-told k from (m ∷ ms) n = go (m == n) (input-told k (from + 1) ms n)
  where
    go : (b : Bool) → input_from k (from + 1) ms n ≡ with_node k (place_in (from + 1) ms n)
        → cond b (Some (k, from)) (input_from k (from + 1) ms n) ≡ with_node k (cond b (Some from) (place_in (from + 1) ms n))
    go true e = refl
    go false e = e

above-told : (schemes : List (List (List Bool))) (certs : List (List (List CertStep))) (k : ℕ) (nodes : List PlanNode) (n : ℕ) → parent_from k nodes n ≡ told (above_from k (nodes_with schemes certs nodes) n)
above-told schemes certs k [] n = refl
above-told schemes certs k (node ∷ nodes) n =
    ap₂ or_else (input-told k 0 (inputs_of node.node) n) (above-told schemes (certs_behind node certs) (k + 1) nodes n)
    ∙ first (place_in 0 (inputs_of node.node) n) (above_from (k + 1) (nodes_with schemes (certs_behind node certs) nodes) n)
  where
    first : (o : Option ℕ) (later : Option Above) → or_else (with_node k o) (told later) ≡ told (first_above k o later)
    first None later = refl
    first (Some input) later = refl

-- the parent of a node is the node above it
pub above-is : (plan : RunPlan) (n : ℕ) → parent_from 0 plan.nodes n ≡ told (above_from 0 (nodes_of plan) n)
above-is plan n = above-told (schemes_of plan.nodes) plan.certs 0 plan.nodes n

pub one-top : (plan : RunPlan) → IsSoundPlan plan.nodes → HasOneTop (nodes_of plan)
one-top plan sound n lt =
    let p = sound.led n (let long = nodes-long plan in omega (arith, lt, long)) in
    go (above_from 0 (nodes_of plan) n) refl p.0 p.1 (sym (above-is plan n) ∙ p.2)
  where
    go : (o : Option Above) → above_from 0 (nodes_of plan) n ≡ o → (m position : ℕ) → told o ≡ Some (m, position) → (a : Above) × (above_from 0 (nodes_of plan) n ≡ Some a)
    go None e m position t = absurd cc
    go (Some a) e m position t = (a, e)
