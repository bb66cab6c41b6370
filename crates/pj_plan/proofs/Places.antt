-- Nodes keep their place, and their soundness, when others come behind them or a stream has one scheme more.
use Rattle.std.proofs.Common.{ℕ, zero, suc, ◌<◌, ◌≤◌, ◌≡◌, ◌⊎◌, length, arith, Bool, true, false, cond, List, [], ◌∷◌, ◌++◌, map, filter, flat_map, refl, sym, ap, ◌∙◌, subst, inl, inr, length-append, take}
use Rattle.std.specs.Str.{bytes_eq}
use Rattle.pj_value.specs.Lists.{In}
use Rattle.pj_value.proofs.Members.{In-append_cases, map-same}
use Rattle.pj_shape.specs.declared.columns.Column.{Column}
use Rattle.pj_shape.specs.Columns.{domains_of}
use Rattle.pj_plan.specs.declared.node.Node.{Node}
use Rattle.pj_plan.specs.declared.node.Node.TheVariants.{Stream, Select, Project, Union, Join, Group}
use Rattle.pj_plan.specs.declared.node.PlanNode.{PlanNode}
use Rattle.pj_plan.specs.Nodes.{inputs_of, is_stream}
use Rattle.pj_plan.specs.Made.{schema_of, more_schemes, with_scheme}
use Rattle.pj_plan.specs.Canonical.{node_at, node_schema}
use Rattle.pj_plan.specs.Faults.{schemes_of, scheme_count, stream_count}
use Rattle.pj_plan.specs.Sound.{domain_at, name_of_node, all_inputs, columns_of_first, IsSoundScheme, IsSoundSchema, IsSoundGroup, group_domains, column_at, IsSoundOperator, IsSoundNode}
use Rattle.pj_plan.proofs.ByName.{at_append, at_end}

-- ---- the columns of the inputs decide

first_same : (nodes others : List PlanNode) (inputs : List ℕ) → ((m : ℕ) → In m inputs → node_schema nodes m ≡ node_schema others m) → columns_of_first nodes inputs ≡ columns_of_first others inputs
first_same nodes others [] same = refl
first_same nodes others (m ∷ ms) same = same m (inl refl)

flat_same : (nodes others : List PlanNode) (inputs : List ℕ) → ((m : ℕ) → In m inputs → node_schema nodes m ≡ node_schema others m) → flat_map (node_schema nodes) inputs ≡ flat_map (node_schema others) inputs
flat_same nodes others [] same = refl
flat_same nodes others (m ∷ ms) same =
    ap (λ (cs : List Column). cs ++ flat_map (node_schema nodes) ms) (same m (inl refl)) ∙ ap (λ (cs : List Column). node_schema others m ++ cs) (flat_same nodes others ms (λ k h. same k (inr h)))

pub operator_same : (nodes others : List PlanNode) (schema : List Column) (node : Node) → ((m : ℕ) → In m (inputs_of node) → node_schema nodes m ≡ node_schema others m) → IsSoundOperator nodes schema node → IsSoundOperator others schema node
operator_same nodes others schema (Stream schemes) same k = k
operator_same nodes others schema (Select input test) same k = (k.0 ∙ same input (inl refl), k.1)
operator_same nodes others schema (Project input columns) same k =
    subst (λ (cs : List Column). ((column : ℕ) → In column columns → column < length cs) × (domains_of schema ≡ map (domain_at cs) columns)) (same input (inl refl)) k
operator_same nodes others schema (Union inputs) same k =
    (k.0, k.1, k.2 ∙ first_same nodes others inputs same, (λ m h. ap domains_of (sym (same m h)) ∙ k.3 m h))
operator_same nodes others schema (Join inputs spec) same k = (k.0, k.1 ∙ map-same (node_schema nodes) (node_schema others) inputs same, k.2 ∙ flat_same nodes others inputs same)
operator_same nodes others schema (Group input spec) same k =
    subst (λ (cs : List Column). IsSoundGroup cs spec × (take (length spec.keys) schema ≡ map (column_at cs) spec.keys) × (domains_of schema ≡ group_domains cs spec)) (same input (inl refl)) k

-- ---- nodes behind others

pub old_node : (nodes more : List PlanNode) (n : ℕ) → n < length nodes → IsSoundNode nodes n → IsSoundNode (nodes ++ more) n
old_node nodes more n lt old = record {
  schema = subst (λ (x : PlanNode). IsSoundSchema x.schema) (sym (at_append nodes more n lt)) old.schema;
  before = λ m h. old.before m (subst (λ (x : PlanNode). In m (inputs_of x.node)) (at_append nodes more n lt) h);
  operator = subst (λ (x : PlanNode). IsSoundOperator (nodes ++ more) x.schema x.node) (sym (at_append nodes more n lt))
      (operator_same nodes (nodes ++ more) (node_schema nodes n) (node_at nodes n)
      (λ m h. let b : m < n = old.before m h in sym (ap (λ (x : PlanNode). x.schema) (at_append nodes more m (omega (arith, b, lt))))) old.operator);
}

pub new_node : (nodes : List PlanNode) (node : PlanNode) → IsSoundSchema node.schema → ((m : ℕ) → In m (inputs_of node.node) → m < length nodes) → IsSoundOperator nodes node.schema node.node → IsSoundNode (nodes ++ node ∷ []) (length nodes)
new_node nodes node schema before operator = record {
  schema = subst (λ (x : PlanNode). IsSoundSchema x.schema) (sym (at_end nodes node)) schema;
  before = λ m h. before m (subst (λ (x : PlanNode). In m (inputs_of x.node)) (at_end nodes node) h);
  operator = subst (λ (x : PlanNode). IsSoundOperator (nodes ++ node ∷ []) x.schema x.node) (sym (at_end nodes node))
      (operator_same nodes (nodes ++ node ∷ []) node.schema node.node (λ m h. sym (ap (λ (x : PlanNode). x.schema) (at_append nodes (node ∷ []) m (before m h)))) operator);
}

-- ---- one scheme more

pub scheme_schema : (name : List ℕ) (marks : List Bool) (nodes : List PlanNode) (m : ℕ) → node_schema (with_scheme name marks nodes) m ≡ node_schema nodes m
scheme_schema name marks [] m = refl
scheme_schema name marks (n ∷ ns) m = go (bytes_eq name n.name) m (scheme_schema name marks ns)
  where
    go : (b : Bool) (k : ℕ) → ((j : ℕ) → node_schema (with_scheme name marks ns) j ≡ node_schema ns j) → node_schema (cond b (record { name = n.name; schema = n.schema; node = more_schemes n.node marks } ∷ ns) (n ∷ with_scheme name marks ns)) k ≡ node_schema (n ∷ ns) k
    go true zero ih = refl
    go true (suc k) ih = refl
    go false zero ih = refl
    go false (suc k) ih = ih k

pub more_inputs : (node : Node) (marks : List Bool) → inputs_of (more_schemes node marks) ≡ inputs_of node
more_inputs (Stream schemes) marks = refl
more_inputs (Select input test) marks = refl
more_inputs (Project input columns) marks = refl
more_inputs (Union inputs) marks = refl
more_inputs (Join inputs spec) marks = refl
more_inputs (Group input spec) marks = refl

more_stream : (node : Node) (marks : List Bool) → is_stream (more_schemes node marks) ≡ is_stream node
more_stream (Stream schemes) marks = refl
more_stream (Select input test) marks = refl
more_stream (Project input columns) marks = refl
more_stream (Union inputs) marks = refl
more_stream (Join inputs spec) marks = refl
more_stream (Group input spec) marks = refl

pub scheme_length : (name : List ℕ) (marks : List Bool) (nodes : List PlanNode) → length (with_scheme name marks nodes) ≡ length nodes
scheme_length name marks [] = refl
scheme_length name marks (n ∷ ns) = go (bytes_eq name n.name) (scheme_length name marks ns)
  where
    go : (b : Bool) → length (with_scheme name marks ns) ≡ length ns → length (cond b (record { name = n.name; schema = n.schema; node = more_schemes n.node marks } ∷ ns) (n ∷ with_scheme name marks ns)) ≡ suc (length ns)
    go true ih = refl
    go false ih = ap suc ih

pub scheme_names : (name : List ℕ) (marks : List Bool) (nodes : List PlanNode) → map name_of_node (with_scheme name marks nodes) ≡ map name_of_node nodes
scheme_names name marks [] = refl
scheme_names name marks (n ∷ ns) = go (bytes_eq name n.name) (scheme_names name marks ns)
  where
    go : (b : Bool) → map name_of_node (with_scheme name marks ns) ≡ map name_of_node ns → map name_of_node (cond b (record { name = n.name; schema = n.schema; node = more_schemes n.node marks } ∷ ns) (n ∷ with_scheme name marks ns)) ≡ n.name ∷ map name_of_node ns
    go true ih = refl
    go false ih = ap (λ (xs : List (List ℕ)). n.name ∷ xs) ih

pub scheme_inputs : (name : List ℕ) (marks : List Bool) (nodes : List PlanNode) → all_inputs (with_scheme name marks nodes) ≡ all_inputs nodes
scheme_inputs name marks [] = refl
scheme_inputs name marks (n ∷ ns) = go (bytes_eq name n.name) (scheme_inputs name marks ns)
  where
    go : (b : Bool) → all_inputs (with_scheme name marks ns) ≡ all_inputs ns → all_inputs (cond b (record { name = n.name; schema = n.schema; node = more_schemes n.node marks } ∷ ns) (n ∷ with_scheme name marks ns)) ≡ inputs_of n.node ++ all_inputs ns
    go true ih = ap (λ (xs : List ℕ). xs ++ all_inputs ns) (more_inputs n.node marks)
    go false ih = ap (λ (xs : List ℕ). inputs_of n.node ++ xs) ih

pub scheme_streams : (name : List ℕ) (marks : List Bool) (nodes : List PlanNode) → stream_count (with_scheme name marks nodes) ≡ stream_count nodes
scheme_streams name marks [] = refl
scheme_streams name marks (n ∷ ns) = go (bytes_eq name n.name) (scheme_streams name marks ns)
  where
    counted : (b : Bool) (xs ys : List PlanNode) (x y : PlanNode) → length xs ≡ length ys → length (cond b (x ∷ xs) xs) ≡ length (cond b (y ∷ ys) ys)
    counted true xs ys x y e = ap suc e
    counted false xs ys x y e = e

    more : PlanNode
    more = record { name = n.name; schema = n.schema; node = more_schemes n.node marks }

    go : (b : Bool) → stream_count (with_scheme name marks ns) ≡ stream_count ns → stream_count (cond b (record { name = n.name; schema = n.schema; node = more_schemes n.node marks } ∷ ns) (n ∷ with_scheme name marks ns)) ≡ stream_count (n ∷ ns)
    go true ih =
        ap (λ (b : Bool). length (cond b (more ∷ filter (λ node. is_stream node.node) ns) (filter (λ node. is_stream node.node) ns))) (more_stream n.node marks)
        ∙ counted (is_stream n.node) (filter (λ node. is_stream node.node) ns) (filter (λ node. is_stream node.node) ns) more n refl
    go false ih = counted (is_stream n.node) (filter (λ node. is_stream node.node) (with_scheme name marks ns)) (filter (λ node. is_stream node.node) ns) n n ih

-- a node is as before, or it is the stream of this name, and has one scheme more
abbrev pub HasOneMore : List ℕ → List Bool → List PlanNode → ℕ → Type 0
HasOneMore name marks nodes m =
    (node_at (with_scheme name marks nodes) m ≡ node_at nodes m)
    ⊎ ((schemes : List (List Bool)) × (node_at nodes m ≡ Stream schemes) × (node_at (with_scheme name marks nodes) m ≡ Stream (schemes ++ marks ∷ []))
    × (node_schema nodes m ≡ schema_of nodes name) × (length schemes ≡ scheme_count nodes name))

pub one_more : (name : List ℕ) (marks : List Bool) (nodes : List PlanNode) (m : ℕ) → HasOneMore name marks nodes m
one_more name marks [] m = inl refl
one_more name marks (n ∷ ns) m = go (bytes_eq name n.name) m (one_more name marks ns)
  where
    here : (node : Node) → (more_schemes node marks ≡ node)
        ⊎ ((schemes : List (List Bool)) × (node ≡ Stream schemes) × (more_schemes node marks ≡ Stream (schemes ++ marks ∷ [])) × (n.schema ≡ n.schema) × (length schemes ≡ schemes_of node))
    here (Stream schemes) = inr (schemes, refl, refl, refl, refl)
    here (Select input test) = inl refl
    here (Project input columns) = inl refl
    here (Union inputs) = inl refl
    here (Join inputs spec) = inl refl
    here (Group input spec) = inl refl

    go : (b : Bool) (k : ℕ) → ((j : ℕ) → HasOneMore name marks ns j)
        → (node_at (cond b (record { name = n.name; schema = n.schema; node = more_schemes n.node marks } ∷ ns) (n ∷ with_scheme name marks ns)) k ≡ node_at (n ∷ ns) k)
        ⊎ ((schemes : List (List Bool)) × (node_at (n ∷ ns) k ≡ Stream schemes) × (node_at (cond b (record { name = n.name; schema = n.schema; node = more_schemes n.node marks } ∷ ns) (n ∷ with_scheme name marks ns)) k ≡ Stream (schemes ++ marks ∷ []))
        × (node_schema (n ∷ ns) k ≡ cond b n.schema (schema_of ns name)) × (length schemes ≡ cond b (schemes_of n.node) (scheme_count ns name)))
    go true zero ih = here n.node
    go true (suc k) ih = inl refl
    go false zero ih = inl refl
    go false (suc k) ih = ih k

more_sound : (schema : List Column) (schemes : List (List Bool)) (marks : List Bool) → length schemes < 16 → IsSoundScheme schema marks → ((scheme : List Bool) → In scheme schemes → IsSoundScheme schema scheme)
    → (length (schemes ++ marks ∷ []) ≤ 16) × ((scheme : List Bool) → In scheme (schemes ++ marks ∷ []) → IsSoundScheme schema scheme)
more_sound schema schemes marks few good all =
    (omega (arith, few, length-append schemes (marks ∷ [])), (λ scheme h. go scheme (In-append_cases scheme schemes (marks ∷ []) h)))
  where
    go : (scheme : List Bool) → In scheme schemes ⊎ In scheme (marks ∷ []) → IsSoundScheme schema scheme
    go scheme (inl h) = all scheme h
    go scheme (inr (inl e)) = subst (IsSoundScheme schema) e good
    go scheme (inr (inr h)) = absurd h

-- the nodes stay sound where the scheme is
pub scheme_sound : (name : List ℕ) (marks : List Bool) (nodes : List PlanNode) (n : ℕ) → scheme_count nodes name < 16 → IsSoundScheme (schema_of nodes name) marks → IsSoundNode nodes n → IsSoundNode (with_scheme name marks nodes) n
scheme_sound name marks nodes n few good old = go (one_more name marks nodes n)
  where
    others : List PlanNode
    others = with_scheme name marks nodes

    schema : IsSoundSchema (node_schema others n)
    schema = subst IsSoundSchema (sym (scheme_schema name marks nodes n)) old.schema

    kept : (node : Node) → IsSoundOperator nodes (node_schema nodes n) node → IsSoundOperator others (node_schema others n) node
    kept node k = subst (λ (cs : List Column). IsSoundOperator others cs node) (sym (scheme_schema name marks nodes n)) (operator_same nodes others (node_schema nodes n) node (λ m h. sym (scheme_schema name marks nodes m)) k)

    go : HasOneMore name marks nodes n → IsSoundNode (with_scheme name marks nodes) n
    go (inl e) = record {
      schema = schema;
      before = λ m h. old.before m (subst (λ (x : Node). In m (inputs_of x)) e h);
      operator = subst (IsSoundOperator others (node_schema others n)) (sym e) (kept (node_at nodes n) old.operator);
    }
    go (inr r) =
        let was : IsSoundOperator nodes (node_schema nodes n) (Stream r.0) = subst (IsSoundOperator nodes (node_schema nodes n)) r.1 old.operator in
        let count : length r.0 < 16 = omega (arith, r.4, few) in
        let suits : IsSoundScheme (node_schema nodes n) marks = subst (λ (cs : List Column). IsSoundScheme cs marks) (sym r.3) good in
        record {
          schema = schema;
          before = λ m h. absurd (subst (λ (x : Node). In m (inputs_of x)) r.2 h);
          operator = subst (IsSoundOperator others (node_schema others n)) (sym r.2) (kept (Stream (r.0 ++ marks ∷ [])) (more_sound (node_schema nodes n) r.0 marks count suits was.1));
        }
