-- In a sound plan each scheme is as long as its node's schema.
use Rattle.std.proofs.Common.{ℕ, zero, suc, ◌+◌, ◌<◌, ◌≡◌, ◌⊎◌, length, get_or, arith, Bool, List, [], ◌∷◌, ◌++◌, map, filter, flat_map, sum, drop, refl, sym, ap, ◌∙◌, subst, inl, inr}
use Rattle.std.proofs.lemmas.List.{drop_more, length-map, length-append, length-replicate, length_push}
use Rattle.std.proofs.lemmas.List.Sums.{sum_by-cons}
use Rattle.pj_value.specs.Lists.{In}
use Rattle.pj_value.proofs.Members.{In-append_cases, In-filter, In-flat_map, In-map}
use Rattle.pj_shape.specs.declared.columns.Column.{Column}
use Rattle.pj_shape.specs.Sound.{arities_of, FitSchemes}
use Rattle.pj_shape.proofs.DomainsOf.{domains_length}
use Rattle.pj_plan.specs.declared.node.Node.{Node}
use Rattle.pj_plan.specs.declared.node.Node.TheVariants.{Stream, Select, Project, Union, Join, Group}
use Rattle.pj_plan.specs.declared.node.PlanNode.{PlanNode}
use Rattle.pj_plan.specs.Nodes.{inputs_of}
use Rattle.pj_plan.specs.Canonical.{no_node, node_at, node_schema}
use Rattle.pj_plan.specs.Sound.{IsSoundPlan, IsSoundOperator, domain_at, agg_domain_at}
use Rattle.pj_scheme.specs.Derived.{mark_at, cut, are_kept, widened, schemes_at, inputs_schemes, projected, others_have, joined, node_schemes, derived_from, schemes_of}
use Rattle.pj_scheme.specs.Fitting.{AreAsWide}
use Rattle.pj_scheme.specs.Laws.{NodesFit, JoinsFit}

-- each scheme so far is as long as its node's schema
abbrev pub AreWide : List PlanNode → List (List (List Bool)) → Type 0
AreWide nodes done = (m : ℕ) (marks : List Bool) → In marks (schemes_at done m) → length marks ≡ length (node_schema nodes m)

-- ---- one node

widened_length : (before after : ℕ) (scheme : List Bool) → length (widened before after scheme) ≡ before + length scheme + after
widened_length before after scheme = simp (length-append, length-replicate) (omega arith)

projected_length : (columns : List ℕ) (schemes : List (List Bool)) (marks : List Bool) → In marks (projected columns schemes) → length marks ≡ length columns
projected_length columns schemes marks h =
    let r = In-map (cut columns) marks (filter (are_kept columns) schemes) h in
    sym (ap length r.2) ∙ length-map columns (mark_at r.0)

joined_length : (nodes : List PlanNode) (done : List (List (List Bool))) (before : ℕ) (inputs : List ℕ) (marks : List Bool) → AreWide nodes done
    → In marks (joined before (map (node_schema nodes) inputs) (inputs_schemes done inputs)) → length marks ≡ before + sum (arities_of (map (node_schema nodes) inputs))
joined_length nodes done before [] marks wide h = absurd h
joined_length nodes done before (input ∷ inputs) marks wide h =
    let width : ℕ = length (node_schema nodes input) in
    let behind : ℕ = sum (arities_of (map (node_schema nodes) inputs)) in
    let all : sum (width ∷ arities_of (map (node_schema nodes) inputs)) ≡ width + behind = sum_by-cons (λ (x : ℕ). x) width (arities_of (map (node_schema nodes) inputs)) in
    elim (In-append_cases marks (map (widened before behind) (schemes_at done input)) (joined (before + width) (map (node_schema nodes) inputs) (inputs_schemes done inputs)) h) [
      | inl k ↦ (let r = In-map (widened before behind) marks (schemes_at done input) k in
          omega (arith, all, ap length r.2, widened_length before behind r.0, wide input r.0 r.1))
      | inr k ↦ (let ih = joined_length nodes done (before + width) inputs marks wide k in omega (arith, all, ih))
    ]

columns_length : (nodes : List PlanNode) (inputs : List ℕ) → length (flat_map (node_schema nodes) inputs) ≡ sum (arities_of (map (node_schema nodes) inputs))
columns_length nodes [] = refl
columns_length nodes (input ∷ inputs) =
    omega (
      arith,
      length-append (node_schema nodes input) (flat_map (node_schema nodes) inputs),
      columns_length nodes inputs,
      sum_by-cons (λ (x : ℕ). x) (length (node_schema nodes input)) (arities_of (map (node_schema nodes) inputs)),
    )

node_wide : (nodes : List PlanNode) (done : List (List (List Bool))) (schema : List Column) (node : Node) → AreWide nodes done → IsSoundOperator nodes schema node
    → (marks : List Bool) → In marks (node_schemes done node) → length marks ≡ length schema
node_wide nodes done schema (Stream schemes) wide sound marks h = (sound.1 marks h).0
node_wide nodes done schema (Select input test) wide sound marks h = wide input marks h ∙ sym (ap length sound.0)
node_wide nodes done schema (Project input columns) wide sound marks h =
    projected_length columns (schemes_at done input) marks h
    ∙ sym (length-map columns (domain_at (node_schema nodes input))) ∙ sym (ap length sound.1) ∙ domains_length schema
node_wide nodes done schema (Union inputs) wide sound marks h =
    let r = In-flat_map (λ input. filter (others_have done inputs input) (schemes_at done input)) marks inputs h in
    let k = In-filter (others_have done inputs r.0) marks (schemes_at done r.0) r.2 in
    wide r.0 marks k.0 ∙ sym (domains_length (node_schema nodes r.0)) ∙ ap length (sound.3 r.0 r.1) ∙ domains_length schema
node_wide nodes done schema (Join inputs spec) wide sound marks h =
    let k = subst (λ (schemas : List (List Column)). In marks (joined 0 schemas (inputs_schemes done inputs))) sound.1 h in
    omega (arith, joined_length nodes done 0 inputs marks wide k, columns_length nodes inputs, ap length sound.2)
node_wide nodes done schema (Group input spec) wide sound marks h =
    let r = In-map (widened 0 (length spec.aggs)) marks (projected spec.keys (schemes_at done input)) h in
    omega (
      arith,
      ap length r.2,
      widened_length 0 (length spec.aggs) r.0,
      projected_length spec.keys (schemes_at done input) r.0 r.1,
      ap length sound.2,
      domains_length schema,
      length-append (map (domain_at (node_schema nodes input)) spec.keys) (map (agg_domain_at (node_schema nodes input)) spec.aggs),
      length-map spec.keys (domain_at (node_schema nodes input)),
      length-map spec.aggs (agg_domain_at (node_schema nodes input)),
    )

-- ---- all nodes

push_cases : (done : List (List (List Bool))) (list : List (List Bool)) (m : ℕ) (marks : List Bool) → In marks (schemes_at (done ++ list ∷ []) m)
    → In marks (schemes_at done m) ⊎ ((m ≡ length done) × In marks list)
push_cases [] list zero marks h = inr (refl, h)
push_cases [] list (suc m) marks h = absurd h
push_cases (d ∷ done) list zero marks h = inl h
push_cases (d ∷ done) list (suc m) marks h = elim (push_cases done list m marks h) [ inl k ↦ inl k | inr k ↦ inr (ap suc k.0, k.1) ]

push_wide : (nodes : List PlanNode) (done : List (List (List Bool))) (list : List (List Bool)) → AreWide nodes done
    → ((marks : List Bool) → In marks list → length marks ≡ length (node_schema nodes (length done))) → AreWide nodes (done ++ list ∷ [])
push_wide nodes done list wide fits m marks h =
    elim (push_cases done list m marks h) [
      | inl k ↦ wide m marks k
      | inr k ↦ subst (λ (n : ℕ). length marks ≡ length (node_schema nodes n)) (sym k.0) (fits marks k.1)
    ]

-- each scheme of all nodes is, and there is a list for each node
derived_wide : (nodes rest : List PlanNode) (done : List (List (List Bool))) → IsSoundPlan nodes → drop (length done) nodes ≡ rest → AreWide nodes done
    → length done + length rest ≡ length nodes → AreWide nodes (derived_from done rest) × (length (derived_from done rest) ≡ length nodes)
derived_wide nodes [] done sound from wide count = (wide, omega arith)
derived_wide nodes (node ∷ rest) done sound from wide count =
    let n : ℕ = length done in
    let lt : n < length nodes = omega arith in
    let more : drop n nodes ≡ get_or nodes n no_node ∷ drop (n + 1) nodes = drop_more nodes n no_node lt in
    let here : get_or nodes n no_node ≡ node = cc in
    let behind : drop (n + 1) nodes ≡ rest = cc in
    let list : List (List Bool) = node_schemes done node.node in
    let pushed : length (done ++ list ∷ []) ≡ n + 1 = length_push done list in
    derived_wide nodes rest (done ++ list ∷ []) sound (ap (λ (k : ℕ). drop k nodes) pushed ∙ behind)
    (push_wide nodes done list wide
    (subst (λ (p : PlanNode). (marks : List Bool) → In marks (node_schemes done p.node) → length marks ≡ length (node_schema nodes n)) here
    (node_wide nodes done (node_schema nodes n) (node_at nodes n) wide (sound.each n lt).operator)))
    (omega (arith, pushed))

schemes_wide : (nodes : List PlanNode) → IsSoundPlan nodes → AreWide nodes (schemes_of nodes)
schemes_wide nodes sound = (derived_wide nodes nodes [] sound refl (λ m marks h. absurd h) (omega arith)).0

-- there is a list for each node
pub schemes_length : (nodes : List PlanNode) → IsSoundPlan nodes → length (schemes_of nodes) ≡ length nodes
schemes_length nodes sound = (derived_wide nodes nodes [] sound refl (λ m marks h. absurd h) (omega arith)).1

as_wide : (nodes : List PlanNode) (lists : List (List (List Bool))) → length lists ≡ length nodes
    → ((m : ℕ) (marks : List Bool) → In marks (schemes_at lists m) → length marks ≡ length (node_schema nodes m)) → AreAsWide nodes lists
as_wide [] [] e wide = tt
as_wide [] (list ∷ lists) e wide = absurd (omega arith)
as_wide (node ∷ nodes) [] e wide = absurd (omega arith)
as_wide (node ∷ nodes) (list ∷ lists) e wide = ((λ marks h. wide 0 marks h), as_wide nodes lists (omega arith) (λ m marks h. wide (suc m) marks h))

inputs_fit : (nodes : List PlanNode) (all : List (List (List Bool))) (inputs : List ℕ) → AreWide nodes all → FitSchemes (map (node_schema nodes) inputs) (inputs_schemes all inputs)
inputs_fit nodes all [] wide = tt
inputs_fit nodes all (input ∷ inputs) wide = ((λ marks h. wide input marks h), inputs_fit nodes all inputs wide)

pub nodes_fit : NodesFit
nodes_fit nodes sound = as_wide nodes (schemes_of nodes) (schemes_length nodes sound) (schemes_wide nodes sound)

pub joins_fit : JoinsFit
joins_fit nodes sound join lt joins = inputs_fit nodes (schemes_of nodes) (inputs_of (node_at nodes join)) (schemes_wide nodes sound)
