-- The nodes of a sound plan that are joins, and what is asked of them.
use Rattle.std.proofs.Common.{ℕ, zero, suc, ◌+◌, ◌<◌, ◌≡◌, length, get_or, arith, Bool, true, false, ◌&&◌, List, [], ◌∷◌, Option, Some, None, map, flat_map, refl, sym, ap, ◌∙◌, subst, inl, inr}
use Rattle.std.specs.List.{list_all}
use Rattle.std.specs.Option.{unwrap_or}
use Rattle.std.proofs.lemmas.Bool.{and_parts, and_from, false≢true}
use Rattle.pj_value.specs.Lists.{In}
use Rattle.pj_value.proofs.Members.{In-append_left, In-flat_map_from, all_at, in-place}
use Rattle.pj_shape.specs.declared.columns.Column.{Column}
use Rattle.pj_shape.specs.declared.joins.JoinSpec.{JoinSpec}
use Rattle.pj_shape.specs.Sound.{IsSoundSpec, FitSchemes}
use Rattle.pj_plan.specs.declared.node.Node.{Node}
use Rattle.pj_plan.specs.declared.node.Node.TheVariants.{Stream, Select, Project, Union, Join, Group}
use Rattle.pj_plan.specs.declared.node.Outline.{Outline}
use Rattle.pj_plan.specs.declared.node.PlanNode.{PlanNode}
use Rattle.pj_plan.specs.Canonical.{declaration, node_at, node_name, node_schema, node_statements, no_node, statements_of}
use Rattle.pj_plan.specs.Kept.{IsMadeAgain}
use Rattle.pj_plan.specs.Names.{AreSpelled, begins_small, is_column_name, is_name, is_spelled, is_word}
use Rattle.pj_plan.specs.Nodes.{inputs_of, is_join, join_in}
use Rattle.pj_plan.specs.Sound.{IsSoundOperator, IsSoundPlan}
use Rattle.pj_scheme.specs.Derived.{inputs_schemes, schemes_of}
use Rattle.pj_scheme.specs.Fitting.{AreAsWide}
use Rattle.pj_scheme.specs.Laws.{JoinsFit, NodesFit, SchemesAreFew}
use Rattle.pj_scheme.proofs.Plans.{input_there}
use Rattle.pj_graph.specs.Reaching.{AreFewSchemes}
use Rattle.pj_safety.specs.Safety.{no_spec, schemes_at, spec_at, spec_in}
use Rattle.pj_safety.proofs.Nodes.{is_some_join}
use Rattle.pj_judge.specs.Asked.{Asked, IsAskable, asked_of, has_plain_names, is_plain}

-- ---- their shapes and schemes

as_long : (nodes : List PlanNode) (lists : List (List (List Bool))) → AreAsWide nodes lists → length lists ≡ length nodes
as_long [] [] fit = refl
as_long [] (list ∷ lists) fit = absurd fit
as_long (node ∷ nodes) [] fit = absurd fit
as_long (node ∷ nodes) (list ∷ lists) fit = ap suc (as_long nodes lists fit.1)

-- there is a list of schemes for each node
pub all_there : (nodes : List PlanNode) (all : List (List (List Bool))) → IsSoundPlan nodes → NodesFit → all ≡ schemes_of nodes → length all ≡ length nodes
all_there nodes all sound fit e = ap length e ∙ as_long nodes (schemes_of nodes) (fit nodes sound)

sound_join : (nodes : List PlanNode) (schema : List Column) (node : Node) → is_join node ≡ true → IsSoundOperator nodes schema node
    → IsSoundSpec (spec_in node) × ((spec_in node).inputs ≡ map (node_schema nodes) (inputs_of node))
sound_join nodes schema (Stream schemes) t sound = absurd (false≢true t)
sound_join nodes schema (Select input test) t sound = absurd (false≢true t)
sound_join nodes schema (Project input columns) t sound = absurd (false≢true t)
sound_join nodes schema (Union inputs) t sound = absurd (false≢true t)
sound_join nodes schema (Join inputs spec) t sound = (sound.0, sound.1)
sound_join nodes schema (Group input spec) t sound = absurd (false≢true t)

spec_sound : (nodes : List PlanNode) (n : ℕ) → IsSoundPlan nodes → n < length nodes → is_join (node_at nodes n) ≡ true
    → IsSoundSpec (spec_at nodes n) × ((spec_at nodes n).inputs ≡ map (node_schema nodes) (inputs_of (node_at nodes n)))
spec_sound nodes n sound lt is = sound_join nodes (node_schema nodes n) (node_at nodes n) is (sound.each n lt).operator

join_fitting : (nodes : List PlanNode) (n : ℕ) → IsSoundPlan nodes → JoinsFit → n < length nodes → is_join (node_at nodes n) ≡ true
    → FitSchemes (spec_at nodes n).inputs (schemes_at nodes n)
join_fitting nodes n sound fit lt is =
    subst (λ (schemas : List (List Column)). FitSchemes schemas (schemes_at nodes n)) (sym (spec_sound nodes n sound lt is).1) (fit nodes sound n lt is)

picked_few : (nodes : List PlanNode) (inputs : List ℕ) → IsSoundPlan nodes → SchemesAreFew → ((k : ℕ) → k < length inputs → get_or inputs k 0 < length nodes)
    → AreFewSchemes (inputs_schemes (schemes_of nodes) inputs)
picked_few nodes [] sound few there i = omega arith
picked_few nodes (input ∷ inputs) sound few there zero = few nodes sound input (there 0 (omega arith))
picked_few nodes (input ∷ inputs) sound few there (suc i) = picked_few nodes inputs sound few (λ k lt. there (suc k) (omega (arith, lt))) i

join_few : (nodes : List PlanNode) (n : ℕ) → IsSoundPlan nodes → SchemesAreFew → n < length nodes → AreFewSchemes (schemes_at nodes n)
join_few nodes n sound few there = picked_few nodes (inputs_of (node_at nodes n)) sound few (λ k lt. input_there nodes n k sound there lt)

-- ---- their names

plain : (name : List ℕ) → is_name name ≡ true → is_plain name ≡ true
plain name e =
    (and_parts _ (is_plain name) (and_parts (begins_small name) _ (and_parts (is_word name) _ (and_parts (is_column_name name) _ e).0).0).1).1

all_plain : (names : List (List ℕ)) → list_all is_name names ≡ true → list_all is_plain names ≡ true
all_plain [] e = refl
all_plain (name ∷ names) e =
    let both = and_parts (is_name name) (list_all is_name names) e in
    and_from (is_plain name) (list_all is_plain names) (plain name both.0) (all_plain names both.1)

plain_join : (nodes : List PlanNode) (x : PlanNode) (node : Node) → is_join node ≡ true → is_spelled (declaration nodes x node) ≡ true
    → (is_plain x.name && list_all is_plain (map (node_name nodes) (inputs_of node))) ≡ true
plain_join nodes x (Stream schemes) t e = absurd (false≢true t)
plain_join nodes x (Select input test) t e = absurd (false≢true t)
plain_join nodes x (Project input columns) t e = absurd (false≢true t)
plain_join nodes x (Union inputs) t e = absurd (false≢true t)
plain_join nodes x (Join inputs spec) t e =
    let names : List (List ℕ) = map (node_name nodes) inputs in
    let both = and_parts (is_name x.name) _ (and_parts _ _ e).0 in
    and_from (is_plain x.name) (list_all is_plain names) (plain x.name both.0) (all_plain names (and_parts _ (list_all is_name names) both.1).1)
plain_join nodes x (Group input spec) t e = absurd (false≢true t)

declared : (plan : Outline) (node : PlanNode) → AreSpelled (statements_of plan) → In node plan.nodes → is_spelled (declaration plan.nodes node node.node) ≡ true
declared plan node all there =
    all_at is_spelled (statements_of plan) (declaration plan.nodes node node.node) all
    (inr (In-append_left (declaration plan.nodes node node.node) (flat_map (node_statements plan.nodes) plan.nodes) _
    (In-flat_map_from (node_statements plan.nodes) (declaration plan.nodes node node.node) node plan.nodes there (inl refl))))

plain_names : (plan : Outline) (n : ℕ) → IsMadeAgain plan → n < length plan.nodes → is_join (node_at plan.nodes n) ≡ true → has_plain_names (asked_of plan.nodes n) ≡ true
plain_names plan n made lt is =
    let node : PlanNode = get_or plan.nodes n no_node in
    plain_join plan.nodes node node.node is (declared plan node made.spelled (in-place plan.nodes no_node n lt))

-- ---- what is asked of them

askable : (plan : Outline) (n : ℕ) → IsSoundPlan plan.nodes → IsMadeAgain plan → JoinsFit → SchemesAreFew → n < length plan.nodes
    → is_join (node_at plan.nodes n) ≡ true → IsAskable (asked_of plan.nodes n)
askable plan n sound made fit few lt is = record {
  sound = (spec_sound plan.nodes n sound lt is).0;
  fitting = join_fitting plan.nodes n sound fit lt is;
  few = join_few plan.nodes n sound few lt;
  plain = plain_names plan n made lt is;
}

-- these parts are those of the join of this number and shape
pub record AreParts (nodes : List PlanNode) (n : ℕ) (asked : Asked) : Type 0 where
  pub spec : Some asked.spec ≡ join_in (node_at nodes n)
  pub schemes : asked.schemes ≡ inputs_schemes (schemes_of nodes) (inputs_of (node_at nodes n))
  pub name : asked.name ≡ node_name nodes n
  pub names : asked.names ≡ map (node_name nodes) (inputs_of (node_at nodes n))

pub parts_asked : (nodes : List PlanNode) (n : ℕ) (asked : Asked) → AreParts nodes n asked → asked ≡ asked_of nodes n
parts_asked nodes n asked parts =
    go asked.spec asked.schemes asked.name asked.names (ap (λ (o : Option JoinSpec). unwrap_or o no_spec) parts.spec) parts.schemes parts.name parts.names
  where
    go : (spec : JoinSpec) (schemes : List (List (List Bool))) (name : List ℕ) (names : List (List ℕ)) → spec ≡ spec_at nodes n → schemes ≡ schemes_at nodes n
        → name ≡ node_name nodes n → names ≡ map (node_name nodes) (inputs_of (node_at nodes n))
        → record { spec = spec; schemes = schemes; name = name; names = names } ≡ asked_of nodes n
    go spec schemes name names e f g h = cc

pub parts_askable : (plan : Outline) (n : ℕ) (asked : Asked) → AreParts plan.nodes n asked → IsSoundPlan plan.nodes → IsMadeAgain plan → JoinsFit
    → SchemesAreFew → n < length plan.nodes → IsAskable asked
parts_askable plan n asked parts sound made fit few lt =
    subst IsAskable (sym (parts_asked plan.nodes n asked parts)) (askable plan n sound made fit few lt (is_some_join (node_at plan.nodes n) asked.spec parts.spec))
