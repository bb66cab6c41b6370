-- The canonical lines of a sound plan have few cells, and their patterns are in normal form and of one kind.
use Rattle.std.proofs.Common.{◌≡◌, ℕ, suc, ◌+◌, ◌*◌, ◌<◌, ◌≤◌, Bool, true, false, cond, List, [], ◌∷◌, ◌++◌, map, length, drop, refl, ap, sym, subst, inl, inr, arith, length-append}
use Rattle.std.specs.Prelude.{⊤, nat_le, slice_index_or, codes}
use Rattle.std.specs.List.{flat_map}
use Rattle.std.proofs.lemmas.Bool.{and_parts, leb-true}
use Rattle.std.proofs.lemmas.List.{length-map}
use Rattle.std.proofs.lemmas.List.Concat.{flat_map-cons}
use Rattle.pj_value.specs.Lists.{In}
use Rattle.pj_shape.specs.declared.columns.Column.{Column}
use Rattle.pj_shape.specs.declared.groups.Agg.{Agg}
use Rattle.pj_shape.specs.declared.groups.GroupSpec.{GroupSpec}
use Rattle.pj_shape.specs.declared.joins.JoinSpec.{JoinSpec}
use Rattle.pj_shape.specs.Columns.{domains_of}
use Rattle.pj_shape.specs.Sound.{IsSoundSpec}
use Rattle.pj_shape.proofs.DomainsOf.{domains_length}
use Rattle.pj_pattern.specs.declared.pattern.Form.{Form}
use Rattle.pj_pattern.specs.Patterns.{is_of_kind, is_wild}
use Rattle.pj_pattern.specs.Fitting.{punct_fits}
use Rattle.pj_pattern.proofs.NormalMeets.{one_of_kind}
use Rattle.pj_element.specs.Laws.{AreKeptPatterns}
use Rattle.pj_plan.specs.declared.node.Node.{Node}
use Rattle.pj_plan.specs.declared.node.Node.TheVariants.{Stream as StreamNode, Select as SelectNode, Project as ProjectNode, Union as UnionNode, Join as JoinNode, Group as GroupNode}
use Rattle.pj_plan.specs.declared.node.PlanNode.{PlanNode}
use Rattle.pj_plan.specs.declared.node.Outline.{Outline}
use Rattle.pj_plan.specs.declared.statement.Statement.{Statement}
use Rattle.pj_plan.specs.declared.statement.Statement.TheVariants.{Scheme, Select, Join, Output}
use Rattle.pj_plan.specs.declared.statement.TestWord.{TestWord}
use Rattle.pj_plan.specs.declared.statement.Test.TheVariants.{One}
use Rattle.pj_plan.specs.Canonical.{aggs_of, class_words, column_name, column_word, declaration, first_test, last_name, no_node, node_name, node_schema, node_statements, or_first, renamed_of, scheme_statements, statements_of, tests_from, tests_of}
use Rattle.pj_plan.specs.Names.{is_spelled}
use Rattle.pj_plan.specs.Sound.{IsSoundNode, IsSoundOperator, IsSoundPlan, IsSoundScheme, agg_domain_at, group_domains, domain_at}
use Rattle.pj_plan_text.specs.Kept.{AreKeptNodes, IsKeptNode}
use Rattle.pj_plan_text.specs.Laws.{AreKeptTests, HasKeptTests}
use Rattle.pj_plan_text.specs.Spelling.{cells_in, class_cell, column_cell, mark_cell, named_agg_cell, renamed_cell, test_cells}

-- where a line can spell the statement, it has few cells; and its patterns are kept
pub record FitsLine (statement : Statement) : Type 0 where
  pub kept : HasKeptTests statement
  pub few : is_spelled statement ≡ true → length (cells_in statement) ≤ 128

abbrev pub AllFit : List Statement → Type 0
AllFit [] = ⊤
AllFit (statement ∷ statements) = FitsLine statement × AllFit statements

both_fit : (statements others : List Statement) → AllFit statements → AllFit others → AllFit (statements ++ others)
both_fit [] others p q = q
both_fit (s ∷ ss) others p q = (p.0, both_fit ss others p.1 q)

-- ---- schemes

schemes_fit : (name : List ℕ) (schema : List Column) (schemes : List (List Bool)) → length schema ≤ 120 → ((scheme : List Bool) → In scheme schemes → IsSoundScheme schema scheme) → AllFit (map (Scheme name) schemes)
schemes_fit name schema [] few sound = tt
schemes_fit name schema (s ∷ ss) few sound =
    let long : length s ≡ length schema = (sound s (inl refl)).0 in
    (record { kept = tt; few = λ spelled. omega (arith, few, long, length-map s mark_cell) }, schemes_fit name schema ss few (λ t h. sound t (inr h)))

-- ---- the tests of a select

two_each : (tests : List TestWord) → length (test_cells tests) ≡ 2 * length tests
two_each [] = refl
two_each (t ∷ ts) = omega (arith, two_each ts)

few_tests : (name input : List ℕ) (tests : List TestWord) → is_spelled (Select name input tests) ≡ true → length tests ≤ 62
few_tests name input tests spelled =
    let names = and_parts _ _ spelled in
    let many = and_parts _ _ names.1 in
    leb-true (length tests) 62 (and_parts _ (nat_le (length tests) 62) many.0).1

from_kept : (columns : List Column) (patterns : List Form) → punct_fits (domains_of columns) patterns ≡ true → AreKeptPatterns patterns → AreKeptTests (tests_from columns patterns)
from_kept [] patterns fit kept = tt
from_kept (c ∷ cs) [] fit kept = tt
from_kept (c ∷ cs) (p ∷ ps) fit kept = go (is_wild p) (from_kept cs ps both.1 kept.1)
  where
    both : (is_of_kind c.kind p ≡ true) × (punct_fits (domains_of cs) ps ≡ true)
    both = and_parts (is_of_kind c.kind p) (punct_fits (domains_of cs) ps) fit

    go : (b : Bool) → AreKeptTests (tests_from cs ps) → AreKeptTests (cond b (tests_from cs ps) (record { column = c.name; test = One p } ∷ tests_from cs ps))
    go true others = others
    go false others = ((kept.0, one_of_kind c.kind p both.0), others)

first_kept : (columns : List Column) (patterns : List Form) → punct_fits (domains_of columns) patterns ≡ true → AreKeptPatterns patterns → AreKeptTests (first_test columns patterns)
first_kept [] patterns fit kept = tt
first_kept (c ∷ cs) [] fit kept = tt
first_kept (c ∷ cs) (p ∷ ps) fit kept = ((kept.0, one_of_kind c.kind p (and_parts (is_of_kind c.kind p) (punct_fits (domains_of cs) ps) fit).0), tt)

or_kept : (tests first : List TestWord) → AreKeptTests tests → AreKeptTests first → AreKeptTests (or_first tests first)
or_kept [] first p q = q
or_kept (t ∷ ts) first p q = p

tests_kept : (columns : List Column) (patterns : List Form) → punct_fits (domains_of columns) patterns ≡ true → AreKeptPatterns patterns → AreKeptTests (tests_of columns patterns)
tests_kept columns patterns fit kept = or_kept (tests_from columns patterns) (first_test columns patterns) (from_kept columns patterns fit kept) (first_kept columns patterns fit kept)

-- ---- projects and groups

few_renamed : (news columns : List Column) (numbers : List ℕ) → length (renamed_of news columns numbers) ≤ length news
few_renamed [] columns numbers = omega arith
few_renamed (n ∷ ns) columns [] = omega arith
few_renamed (n ∷ ns) columns (number ∷ numbers) = omega (arith, few_renamed ns columns numbers)

few_aggs : (news columns : List Column) (aggs : List Agg) → length (aggs_of news columns aggs) ≤ length aggs
few_aggs [] columns aggs = omega arith
few_aggs (n ∷ ns) columns [] = omega arith
few_aggs (n ∷ ns) columns (agg ∷ aggs) = omega (arith, few_aggs ns columns aggs)

few_in_group : (columns schema : List Column) (spec : GroupSpec) → domains_of schema ≡ group_domains columns spec → length spec.keys + length spec.aggs ≡ length schema
few_in_group columns schema spec kinds =
    let keys = map (domain_at columns) spec.keys in
    let aggs = map (agg_domain_at columns) spec.aggs in
    omega (arith, ap length kinds, domains_length schema, length-append keys aggs, length-map spec.keys (domain_at columns), length-map spec.aggs (agg_domain_at columns))

group_cells : (nodes : List PlanNode) (name : List ℕ) (input : ℕ) (schema : List Column) (spec : GroupSpec) → length schema ≤ 120 → domains_of schema ≡ group_domains (node_schema nodes input) spec
    → length (cells_in (declaration nodes (record { name = name; schema = schema; node = GroupNode input spec }) (GroupNode input spec))) ≤ 128
group_cells nodes name input schema spec few kinds =
    let columns = node_schema nodes input in
    let keys = map (column_name columns) spec.keys in
    let aggs = aggs_of (drop (length spec.keys) schema) columns spec.aggs in
    omega (
      arith,
      few,
      few_in_group columns schema spec kinds,
      few_aggs (drop (length spec.keys) schema) columns spec.aggs,
      length-map spec.keys (column_name columns),
      length-map aggs named_agg_cell,
      length-append keys (codes "of" ∷ map named_agg_cell aggs),
    )

-- ---- joins

join_cells : (nodes : List PlanNode) (name : List ℕ) (inputs : List ℕ) (spec : JoinSpec) → IsSoundSpec spec → spec.inputs ≡ map (node_schema nodes) inputs
    → length (cells_in (Join name (map (node_name nodes) inputs) (map (class_words spec.inputs) spec.classes))) ≤ 128
join_cells nodes name inputs spec sound same =
    let names = map (node_name nodes) inputs in
    let classes = map (class_words spec.inputs) spec.classes in
    omega (
      arith,
      sound.few_inputs.1,
      sound.few_classes.1,
      ap length same,
      length-map inputs (node_schema nodes),
      length-map inputs (node_name nodes),
      length-map spec.classes (class_words spec.inputs),
      length-map classes class_cell,
      length-append names (codes "on" ∷ map class_cell classes),
    )

-- ---- nodes

operator_fits : (nodes : List PlanNode) (node : PlanNode) (operator : Node) → length node.schema ≤ 120 → IsSoundOperator nodes node.schema operator → IsKeptNode operator → AllFit (declaration nodes node operator ∷ scheme_statements node.name operator)
operator_fits nodes node (StreamNode schemes) few sound kept = (
  record { kept = tt; few = λ spelled. omega (arith, few, length-map node.schema column_word, length-map (map column_word node.schema) column_cell) },
  schemes_fit node.name node.schema schemes few sound.1,
)
operator_fits nodes node (SelectNode input test) few sound kept =
    let tests = tests_of node.schema test in
    (record { kept = tests_kept node.schema test sound.1 kept; few = λ spelled. omega (arith, few_tests node.name (node_name nodes input) tests spelled, two_each tests) }, tt)
operator_fits nodes node (ProjectNode input columns) few sound kept =
    let renamed = renamed_of node.schema (node_schema nodes input) columns in
    (record { kept = tt; few = λ spelled. omega (arith, few, few_renamed node.schema (node_schema nodes input) columns, length-map renamed renamed_cell) }, tt)
operator_fits nodes node (UnionNode inputs) few sound kept = (record { kept = tt; few = λ spelled. omega (arith, sound.1, length-map inputs (node_name nodes)) }, tt)
operator_fits nodes node (JoinNode inputs spec) few sound kept = (record { kept = tt; few = λ spelled. join_cells nodes node.name inputs spec sound.0 sound.1 }, tt)
operator_fits nodes node (GroupNode input spec) few sound kept = (record { kept = tt; few = λ spelled. group_cells nodes node.name input node.schema spec few sound.2 }, tt)

nodes_fit : (nodes some : List PlanNode) → ((n : ℕ) → n < length some → AllFit (node_statements nodes (slice_index_or some n no_node))) → AllFit (flat_map (node_statements nodes) some)
nodes_fit nodes [] each = tt
nodes_fit nodes (node ∷ some) each =
    subst AllFit (sym (flat_map-cons (node_statements nodes) node some))
    (both_fit (node_statements nodes node) (flat_map (node_statements nodes) some) (each 0 (omega arith)) (nodes_fit nodes some (λ n lt. each (suc n) (omega (arith, lt)))))

node_fits : (nodes : List PlanNode) (n : ℕ) → IsSoundNode nodes n → IsKeptNode (slice_index_or nodes n no_node).node → AllFit (node_statements nodes (slice_index_or nodes n no_node))
node_fits nodes n sound kept = let node = slice_index_or nodes n no_node in operator_fits nodes node node.node sound.schema.few sound.operator kept

-- ---- plans

pub plan_fits : (plan : Outline) → IsSoundPlan plan.nodes → AreKeptNodes plan.nodes → AllFit (statements_of plan)
plan_fits plan sound kept =
    let nodes = plan.nodes in (
      record { kept = tt; few = λ spelled. omega arith },
      both_fit (flat_map (node_statements nodes) nodes) (Output (last_name nodes) ∷ []) (nodes_fit nodes nodes (λ n lt. node_fits nodes n (sound.each n lt) (kept n lt)))
          (record { kept = tt; few = λ spelled. omega arith }, tt),
    )
