-- The canonical statements of a plan make it again.
use Rattle.std.proofs.Common.{ℕ, zero, suc, ◌+◌, ◌<◌, ◌≤◌, ◌≡◌, ◌⊎◌, length, get_or, arith, Bool, true, false, cond, not, ◌&&◌, ◌||◌, ◌==◌, List, [], ◌∷◌, ◌++◌, Some, None, Option, Ok, MatchOption, map, filter, flat_map, refl, sym, ap, ◌∙◌, subst, inl, inr, nat_le, append-nil, append_assoc, length-append, drop}
use Rattle.std.specs.Str.{bytes_eq}
use Rattle.std.specs.List.{list_any}
use Rattle.std.proofs.lemmas.Bool.{or_parts, or_from, or_right, not_from_true, lt-leb, eq-eqb, cases_eq, false_from_ne_true}
use Rattle.std.proofs.lemmas.List.{map-append}
use Rattle.std.proofs.lemmas.List.Concat.{flat_map-append}
use Rattle.std.proofs.lemmas.List.Elements.{filter-append}
use Rattle.pj_value.specs.Lists.{In, has}
use Rattle.pj_value.proofs.Members.{In-append_left, In-append_right, In-map_from, In-flat_map_from, any_at, any_from, map-same, in-place, in_at}
use Rattle.pj_value.proofs.Bytes.{bytes_same}
use Rattle.pj_value.proofs.Numbers.{has-in, in-has}
use Rattle.pj_shape.specs.declared.columns.Column.{Column}
use Rattle.pj_plan.specs.declared.node.Node.{Node}
use Rattle.pj_plan.specs.declared.node.Node.TheVariants.{Stream as StreamNode, Select as SelectNode, Project as ProjectNode, Union as UnionNode, Join as JoinNode, Group as GroupNode}
use Rattle.pj_plan.specs.declared.node.PlanNode.{PlanNode}
use Rattle.pj_plan.specs.declared.node.Draft.{Draft}
use Rattle.pj_plan.specs.declared.node.Outline.{Outline}
use Rattle.pj_plan.specs.declared.statement.Statement.{Statement}
use Rattle.pj_plan.specs.declared.statement.Statement.TheVariants.{Plan, Scheme, Select, Project, Union, Join, Group, Output}
use Rattle.pj_plan.specs.declared.statement.Stated.{Stated}
use Rattle.pj_plan.specs.Names.{is_spelled, AreSpelled}
use Rattle.pj_plan.specs.Nodes.{inputs_of, is_stream}
use Rattle.pj_plan.specs.Made.{number_of, schema_of, more_schemes, with_scheme, after}
use Rattle.pj_plan.specs.Canonical.{no_node, node_at, node_name, node_schema, column_name, renamed_of, aggs_of, declaration, scheme_statements, node_statements, last_name, statements_of, lines_from, tests_of, class_words}
use Rattle.pj_plan.specs.Faults.{is_known, is_unknown_name, is_stream_name, is_marked, schemes_of, scheme_count, stream_count, uses, was_used, has_unused, fault_of}
use Rattle.pj_plan.specs.Built.{no_draft, built}
use Rattle.pj_plan.specs.Sound.{AreDistinct, name_of_node, all_inputs, IsSoundScheme, IsSoundNode, IsSoundPlan, IsSoundSchema, IsSoundOperator}
use Rattle.pj_plan.specs.Laws.{what_of, CanonicalIsReadAgain}
use Rattle.pj_plan.proofs.Lists.{same_bytes, distinct_left, distinct_right, distinct_between}
use Rattle.pj_plan.proofs.ByName.{at_append}
use Rattle.pj_plan.proofs.ByNumber.{node_number, name_known_at}
use Rattle.pj_plan.proofs.Places.{operator_same}
use Rattle.pj_plan.proofs.Drafts.{IsSoundDraft, after_sound, in_uses, IsDone, built_keeps}
use Rattle.pj_plan.proofs.SoundPlans.{led_from, draft_sound, nothing_sound}
use Rattle.pj_plan.proofs.Reaches.{without_fault, Reaches, reaches_append, reaches_built}
use Rattle.pj_plan.proofs.Written.{AreWritten, IsWrittenDraft, after_written}
use Rattle.pj_plan.proofs.Redeclared.{plan_node, draft_of, IsNext, stream_again, select_again, project_again, union_again}
use Rattle.pj_plan.proofs.JoinsAgain.{join_again, group_again}

-- ---- the schemes of a stream

schema_last : (front : List PlanNode) (name : List ℕ) (schema : List Column) (node : Node) → is_known front name ≡ false → schema_of (front ++ plan_node name schema node ∷ []) name ≡ schema
schema_last [] name schema node fresh = ap (λ (b : Bool). cond b schema []) (same_bytes name name refl)
schema_last (f ∷ fs) name schema node fresh =
    let both = or_parts (bytes_eq name f.name) (is_known fs name) fresh in
    ap (λ (b : Bool). cond b f.schema (schema_of (fs ++ plan_node name schema node ∷ []) name)) both.0 ∙ schema_last fs name schema node both.1

count_last : (front : List PlanNode) (name : List ℕ) (schema : List Column) (node : Node) → is_known front name ≡ false → scheme_count (front ++ plan_node name schema node ∷ []) name ≡ schemes_of node
count_last [] name schema node fresh = ap (λ (b : Bool). cond b (schemes_of node) 0) (same_bytes name name refl)
count_last (f ∷ fs) name schema node fresh =
    let both = or_parts (bytes_eq name f.name) (is_known fs name) fresh in
    ap (λ (b : Bool). cond b (schemes_of f.node) (scheme_count (fs ++ plan_node name schema node ∷ []) name)) both.0 ∙ count_last fs name schema node both.1

scheme_last : (front : List PlanNode) (name : List ℕ) (schema : List Column) (node : Node) (marks : List Bool) → is_known front name ≡ false
    → with_scheme name marks (front ++ plan_node name schema node ∷ []) ≡ front ++ plan_node name schema (more_schemes node marks) ∷ []
scheme_last [] name schema node marks fresh = ap (λ (b : Bool). cond b (plan_node name schema (more_schemes node marks) ∷ []) (plan_node name schema node ∷ [])) (same_bytes name name refl)
scheme_last (f ∷ fs) name schema node marks fresh =
    let both = or_parts (bytes_eq name f.name) (is_known fs name) fresh in
    let rest : List PlanNode = fs ++ plan_node name schema node ∷ [] in
    ap (λ (b : Bool). cond b (plan_node f.name f.schema (more_schemes f.node marks) ∷ rest) (f ∷ with_scheme name marks rest)) both.0
    ∙ ap (λ (ns : List PlanNode). f ∷ ns) (scheme_last fs name schema node marks both.1)

stream_last : (front : List PlanNode) (name : List ℕ) (schema : List Column) (schemes : List (List Bool)) → is_stream_name (front ++ plan_node name schema (StreamNode schemes) ∷ []) name ≡ true
stream_last [] name schema schemes = ap (λ (b : Bool). b || false) (same_bytes name name refl)
stream_last (f ∷ fs) name schema schemes = or_right (is_stream f.node && bytes_eq name f.name) (is_stream_name (fs ++ plan_node name schema (StreamNode schemes) ∷ []) name) (stream_last fs name schema schemes)

scheme_again : (front : List PlanNode) (name : List ℕ) (schema : List Column) (done : List (List Bool)) (marks : List Bool) → is_known front name ≡ false → length done < 16 → IsSoundScheme schema marks
    → (fault_of (draft_of (front ++ plan_node name schema (StreamNode done) ∷ [])) (Scheme name marks) ≡ None)
    × (after (draft_of (front ++ plan_node name schema (StreamNode done) ∷ [])) (Scheme name marks) ≡ draft_of (front ++ plan_node name schema (StreamNode (done ++ marks ∷ [])) ∷ []))
scheme_again front name schema done marks fresh few sound =
    let nodes : List PlanNode = front ++ plan_node name schema (StreamNode done) ∷ [] in
    let count : scheme_count nodes name < 16 = rw (count_last front name schema (StreamNode done) fresh) few in
    let long : length marks ≡ length (schema_of nodes name) = sound.0 ∙ ap length (sym (schema_last front name schema (StreamNode done) fresh)) in (
      without_fault (draft_of nodes) (Scheme name marks) (record { known = refl; shaped = refl; readable = refl }) (record {
        plan = refl;
        name = refl;
        names = refl;
        stream = not_from_true (is_stream_name nodes name) (stream_last front name schema done);
        columns = refl;
        different = refl;
        kinds = refl;
        classes = refl;
        scheme = or_from (not (length marks == length (schema_of nodes name))) (not (list_any is_marked marks)) (not_from_true (length marks == length (schema_of nodes name)) (eq-eqb (length marks) (length (schema_of nodes name)) long))
            (not_from_true (list_any is_marked marks) (any_from is_marked marks true sound.1 refl));
        unused = refl;
        once = refl;
        all_used = refl;
        few = or_from (nat_le 16 (scheme_count nodes name)) false (lt-leb 16 (scheme_count nodes name) count) refl;
        last = refl;
      }),
      ap draft_of (scheme_last front name schema (StreamNode done) marks fresh),
    )

schemes_reach : (front : List PlanNode) (name : List ℕ) (schema : List Column) (done todo : List (List Bool)) → is_known front name ≡ false → length (done ++ todo) ≤ 16 → ((marks : List Bool) → In marks todo → IsSoundScheme schema marks)
    → Reaches (draft_of (front ++ plan_node name schema (StreamNode done) ∷ [])) (map (Scheme name) todo) (draft_of (front ++ plan_node name schema (StreamNode (done ++ todo)) ∷ []))
schemes_reach front name schema done [] fresh few sound = ap (λ (s : List (List Bool)). draft_of (front ++ plan_node name schema (StreamNode s) ∷ [])) (sym (append-nil done))
schemes_reach front name schema done (m ∷ ms) fresh few sound =
    let same : (done ++ m ∷ []) ++ ms ≡ done ++ m ∷ ms = append_assoc done (m ∷ []) ms in
    let step = scheme_again front name schema done m fresh (omega (arith, few, length-append done (m ∷ ms))) (sound m (inl refl)) in
    let rest = schemes_reach front name schema (done ++ m ∷ []) ms fresh (subst (λ (s : List (List Bool)). length s ≤ 16) (sym same) few) (λ x h. sound x (inr h)) in (
      step.0,
      subst (λ (d : Draft). Reaches d (map (Scheme name) ms) (draft_of (front ++ plan_node name schema (StreamNode (done ++ m ∷ ms)) ∷ []))) (sym step.1)
          (subst (λ (s : List (List Bool)). Reaches (draft_of (front ++ plan_node name schema (StreamNode (done ++ m ∷ [])) ∷ [])) (map (Scheme name) ms) (draft_of (front ++ plan_node name schema (StreamNode s) ∷ []))) same rest),
    )

-- ---- a node

node_reach : (front : List PlanNode) (name : List ℕ) (schema : List Column) (node : Node) → IsNext front (plan_node name schema node)
    → Reaches (draft_of front) (declaration front (plan_node name schema node) node ∷ scheme_statements name node) (draft_of (front ++ plan_node name schema node ∷ []))
node_reach front name schema (StreamNode schemes) next =
    let step = stream_again front name schema schemes next in (
      step.0,
      subst (λ (d : Draft). Reaches d (map (Scheme name) schemes) (draft_of (front ++ plan_node name schema (StreamNode schemes) ∷ []))) (sym step.1)
          (schemes_reach front name schema [] schemes next.good.fresh next.good.operator.0 next.good.operator.1),
    )
node_reach front name schema (SelectNode input test) next = select_again front name schema input test next
node_reach front name schema (ProjectNode input columns) next = project_again front name schema input columns next
node_reach front name schema (UnionNode inputs) next = union_again front name schema inputs next
node_reach front name schema (JoinNode inputs spec) next = join_again front name schema inputs spec next
node_reach front name schema (GroupNode input spec) next = group_again front name schema input spec next

-- ---- over all nodes as over those before

names_same : (nodes front : List PlanNode) (inputs : List ℕ) → ((m : ℕ) → In m inputs → get_or nodes m no_node ≡ get_or front m no_node) → map (node_name nodes) inputs ≡ map (node_name front) inputs
names_same nodes front inputs same = map-same (node_name nodes) (node_name front) inputs (λ m h. ap name_of_node (same m h))

declaration_same : (nodes front : List PlanNode) (node : PlanNode) (op : Node) → ((m : ℕ) → In m (inputs_of op) → get_or nodes m no_node ≡ get_or front m no_node) → declaration nodes node op ≡ declaration front node op
declaration_same nodes front node (StreamNode schemes) same = refl
declaration_same nodes front node (SelectNode input test) same = ap (λ (x : PlanNode). Select node.name x.name (tests_of node.schema test)) (same input (inl refl))
declaration_same nodes front node (ProjectNode input columns) same = ap (λ (x : PlanNode). Project node.name x.name (renamed_of node.schema x.schema columns)) (same input (inl refl))
declaration_same nodes front node (UnionNode inputs) same = ap (Union node.name) (names_same nodes front inputs same)
declaration_same nodes front node (JoinNode inputs spec) same = ap (λ (ns : List (List ℕ)). Join node.name ns (map (class_words spec.inputs) spec.classes)) (names_same nodes front inputs same)
declaration_same nodes front node (GroupNode input spec) same =
    ap (λ (x : PlanNode). Group node.name x.name (map (column_name x.schema) spec.keys) (aggs_of (drop (length spec.keys) node.schema) x.schema spec.aggs)) (same input (inl refl))

-- ---- the nodes of a sound plan suit those before them

known_in_names : (nodes : List PlanNode) (name : List ℕ) → is_known nodes name ≡ true → In name (map name_of_node nodes)
known_in_names nodes name t =
    let r = any_at (λ (node : PlanNode). bytes_eq name node.name) nodes t in
    subst (λ (n : List ℕ). In n (map name_of_node nodes)) (sym (bytes_same name r.0.name r.2)) (In-map_from name_of_node r.0 nodes r.1)

sound_front : (front rest : List PlanNode) (n : ℕ) → n < length front → IsSoundNode (front ++ rest) n → IsSoundNode front n
sound_front front rest n lt old = record {
  schema = subst (λ (x : PlanNode). IsSoundSchema x.schema) (at_append front rest n lt) old.schema;
  before = λ m h. old.before m (subst (λ (x : PlanNode). In m (inputs_of x.node)) (sym (at_append front rest n lt)) h);
  operator = subst (λ (x : PlanNode). IsSoundOperator front x.schema x.node) (at_append front rest n lt)
      (operator_same (front ++ rest) front (node_schema (front ++ rest) n) (node_at (front ++ rest) n)
      (λ m h. let b : m < n = old.before m h in ap (λ (x : PlanNode). x.schema) (at_append front rest m (omega (arith, b, lt)))) old.operator);
}

at_length : (front : List PlanNode) (node : PlanNode) (rest : List PlanNode) → get_or (front ++ node ∷ rest) (length front) no_node ≡ node
at_length [] node rest = refl
at_length (f ∷ fs) node rest = at_length fs node rest

room_for_stream : (front : List PlanNode) (node : PlanNode) (rest : List PlanNode) → stream_count (front ++ node ∷ rest) ≤ 16 → is_stream node.node ≡ true → stream_count front < 16
room_for_stream front node rest few is =
    let both : stream_count (front ++ node ∷ rest) ≡ stream_count front + stream_count (node ∷ rest) =
    ap length (filter-append (λ (n : PlanNode). is_stream n.node) front (node ∷ rest)) ∙ length-append (filter (λ (n : PlanNode). is_stream n.node) front) (filter (λ (n : PlanNode). is_stream n.node) (node ∷ rest)) in
    let one : stream_count (node ∷ rest) ≡ suc (stream_count rest) = ap (λ (b : Bool). length (cond b (node ∷ filter (λ (n : PlanNode). is_stream n.node) rest) (filter (λ (n : PlanNode). is_stream n.node) rest))) is in
    omega (arith, few, both, one)

next_of : (front : List PlanNode) (node : PlanNode) (rest : List PlanNode) → IsSoundPlan (front ++ node ∷ rest) → AreWritten (front ++ node ∷ rest) → IsNext front node
next_of front node rest plan written = record {
  good = record {
    room = omega (arith, most, long);
    streams = room_for_stream front node rest plan.few_streams;
    fresh = false_from_ne_true (is_known front node.name) (λ t. distinct_between (map name_of_node front) (map name_of_node (node ∷ rest)) node.name apart (known_in_names front node.name t) (inl refl));
    schema = subst (λ (x : PlanNode). IsSoundSchema x.schema) here own.schema;
    inputs = record {
      before = before;
      distinct = distinct_left (inputs_of node.node) (all_inputs rest) (distinct_right (all_inputs front) (inputs_of node.node ++ all_inputs rest) inputs);
      free = λ m h l. distinct_between (all_inputs front) (inputs_of node.node ++ all_inputs rest) m inputs l (In-append_left m (inputs_of node.node) (all_inputs rest) h);
    };
    operator = operator_same nodes front node.schema node.node (λ m h. ap (λ (x : PlanNode). x.schema) (at_append front (node ∷ rest) m (before m h))) (subst (λ (x : PlanNode). IsSoundOperator nodes x.schema x.node) here own.operator);
  };
  names = distinct_left (map name_of_node front) (map name_of_node (node ∷ rest)) apart;
  each = λ n lt. sound_front front (node ∷ rest) n lt (plan.each n (omega (arith, lt, long)));
  words = (written node (In-append_right node front (node ∷ rest) (inl refl))).words;
}
  where
    nodes : List PlanNode
    nodes = front ++ node ∷ rest

    long : length (front ++ node ∷ rest) ≡ length front + suc (length rest)
    long = length-append front (node ∷ rest)

    most : length (front ++ node ∷ rest) ≤ 64
    most = plan.few

    here : get_or (front ++ node ∷ rest) (length front) no_node ≡ node
    here = at_length front node rest

    own : IsSoundNode (front ++ node ∷ rest) (length front)
    own = plan.each (length front) (omega (arith, long))

    before : (m : ℕ) → In m (inputs_of node.node) → m < length front
    before m h = own.before m (subst (λ (x : PlanNode). In m (inputs_of x.node)) (sym here) h)

    apart : AreDistinct (map name_of_node front ++ map name_of_node (node ∷ rest))
    apart = subst AreDistinct (map-append name_of_node front (node ∷ rest)) plan.names

    inputs : AreDistinct (all_inputs front ++ (inputs_of node.node ++ all_inputs rest))
    inputs = subst AreDistinct (flat_map-append (λ (n : PlanNode). inputs_of n.node) front (node ∷ rest)) plan.once

-- ---- all nodes

all_reach : (nodes front rest : List PlanNode) → nodes ≡ front ++ rest → IsSoundPlan nodes → AreWritten nodes → Reaches (draft_of front) (flat_map (node_statements nodes) rest) (draft_of nodes)
all_reach nodes front [] e plan written = ap draft_of (sym (e ∙ append-nil front))
all_reach nodes front (node ∷ rest) e plan written =
    let next : IsNext front node = next_of front node rest (subst IsSoundPlan e plan) (subst AreWritten e written) in
    let same : declaration nodes node node.node ≡ declaration front node node.node = declaration_same nodes front node node.node
    (λ m h. ap (λ (ns : List PlanNode). get_or ns m no_node) e ∙ at_append front (node ∷ rest) m (next.good.inputs.before m h)) in
    let first : Reaches (draft_of front) (node_statements nodes node) (draft_of (front ++ node ∷ [])) =
    subst (λ (s : Statement). Reaches (draft_of front) (s ∷ scheme_statements node.name node.node) (draft_of (front ++ node ∷ []))) (sym same) (node_reach front node.name node.schema node.node next) in
    reaches_append (draft_of front) (draft_of (front ++ node ∷ [])) (draft_of nodes) (node_statements nodes node) (flat_map (node_statements nodes) rest) first
    (all_reach nodes (front ++ node ∷ []) rest (e ∙ sym (append_assoc front (node ∷ []) rest)) plan written)

-- ---- the output

pub last_at : (nodes : List PlanNode) (k : ℕ) → length nodes ≡ suc k → last_name nodes ≡ node_name nodes k
last_at [] k e = absurd (omega (arith, e))
last_at (n ∷ []) zero e = refl
last_at (n ∷ []) (suc k) e = absurd (omega (arith, e))
last_at (n ∷ m ∷ ns) zero e = absurd (omega (arith, e))
last_at (n ∷ m ∷ ns) (suc k) e = last_at (m ∷ ns) k (omega (arith, e))

none_unused : (used : List ℕ) (from : ℕ) (nodes : List PlanNode) → ((n : ℕ) → n < length nodes → has used (from + n) ≡ true) → has_unused used from nodes ≡ false
none_unused used from [] all = refl
none_unused used from (node ∷ nodes) all =
    let same : from + 0 ≡ from = omega arith in
    or_from (not (has used from)) (has_unused used (from + 1) nodes)
    (not_from_true (has used from) (subst (λ (k : ℕ). has used k ≡ true) same (all 0 (omega arith))))
    (none_unused used (from + 1) nodes (λ n lt. let next : from + suc n ≡ from + 1 + n = omega arith in subst (λ (k : ℕ). has used k ≡ true) next (all (suc n) (omega (arith, lt)))))

feeds_one : (nodes : List PlanNode) (n : ℕ) → IsSoundPlan nodes → n + 1 < length nodes → In n (all_inputs nodes)
feeds_one nodes n plan lt =
    let r = plan.led n lt in
    In-flat_map_from (λ (node : PlanNode). inputs_of node.node) n (node_at_place r.0) nodes (in-place nodes no_node r.0 r.4) (in_at (inputs_of (node_at nodes r.0)) r.1 n r.5)
  where
    node_at_place : ℕ → PlanNode
    node_at_place m = get_or nodes m no_node

output_free : (nodes : List PlanNode) (k : ℕ) → IsSoundPlan nodes → length nodes ≡ suc k → has (uses (draft_of nodes)) k ≡ false
output_free nodes k plan e =
    false_from_ne_true (has (uses (draft_of nodes)) k)
    (λ t. let r = led_from nodes plan.each k (in_uses (draft_of nodes) k refl (has-in (uses (draft_of nodes)) k t)) in absurd (omega (arith, e, r.3, r.4)))

all_feed : (nodes : List PlanNode) (k : ℕ) → IsSoundPlan nodes → length nodes ≡ suc k → has_unused (k ∷ uses (draft_of nodes)) 0 nodes ≡ false
all_feed nodes k plan e = none_unused (k ∷ uses (draft_of nodes)) 0 nodes (λ n lt. let same : n ≡ 0 + n = omega arith in subst (λ (m : ℕ). has (k ∷ uses (draft_of nodes)) m ≡ true) same (in-has (k ∷ uses (draft_of nodes)) n (go n lt (cases_eq k n))))
  where
    go : (n : ℕ) → n < length nodes → (k ≡ n) ⊎ (k ≡ n → ⊥) → In n (k ∷ uses (draft_of nodes))
    go n lt (inl f) = inl f
    go n lt (inr f) =
        let below : n + 1 < length nodes = elim (cases_eq (n + 1) (length nodes)) [
          | inl same ↦ let g : k ≡ n = omega (arith, e, same) in absurd (f g)
          | inr other ↦ below_end n lt other
        ] in
        inr (In-append_left n (all_inputs nodes) [] (feeds_one nodes n plan below))
      where
        below_end : (m : ℕ) → m < length nodes → (m + 1 ≡ length nodes → ⊥) → m + 1 < length nodes
        below_end m l other = omega (arith, l, other)

ends : (nodes : List PlanNode) (k : ℕ) → IsSoundPlan nodes → length nodes ≡ suc k
    → (fault_of (draft_of nodes) (Output (last_name nodes)) ≡ None) × (after (draft_of nodes) (Output (last_name nodes)) ≡ record { version = Some 1; nodes = nodes; output = Some k })
ends nodes k plan e =
    let number : number_of nodes (last_name nodes) ≡ k = ap (number_of nodes) (last_at nodes k e) ∙ node_number nodes k plan.names (omega (arith, e)) in
    let known : is_known nodes (last_name nodes) ≡ true = subst (λ (n : List ℕ). is_known nodes n ≡ true) (sym (last_at nodes k e)) (name_known_at nodes k (omega (arith, e))) in
    let free : was_used (draft_of nodes) (last_name nodes) ≡ false = ap (has (uses (draft_of nodes))) number ∙ output_free nodes k plan e in (
      without_fault (draft_of nodes) (Output (last_name nodes)) (record { known = refl; shaped = refl; readable = refl }) (record {
        plan = refl;
        name = refl;
        names = or_from (is_unknown_name nodes (last_name nodes)) false (not_from_true (is_known nodes (last_name nodes)) known) refl;
        stream = refl;
        columns = refl;
        different = refl;
        kinds = refl;
        classes = refl;
        scheme = refl;
        unused = or_from (was_used (draft_of nodes) (last_name nodes)) false free refl;
        once = refl;
        all_used = ap (λ (m : ℕ). has_unused (m ∷ uses (draft_of nodes)) 0 nodes) number ∙ all_feed nodes k plan e;
        few = refl;
        last = refl;
      }),
      ap (λ (m : ℕ). record { version = Some 1; nodes = nodes; output = Some m }) number,
    )

-- ---- the whole plan

plan_one : fault_of no_draft (Plan 1) ≡ None
plan_one = refl

reaches_end : (nodes : List PlanNode) (k : ℕ) → IsSoundPlan nodes → AreWritten nodes → length nodes ≡ suc k → Reaches no_draft (statements_of (record { version = 1; nodes = nodes })) (record { version = Some 1; nodes = nodes; output = Some k })
reaches_end nodes k plan written e =
    let last = ends nodes k plan e in
    (plan_one, reaches_append (draft_of []) (draft_of nodes) (record { version = Some 1; nodes = nodes; output = Some k }) (flat_map (node_statements nodes) nodes) (Output (last_name nodes) ∷ []) (all_reach nodes [] nodes refl plan written) (last.0, last.1))

-- what holds of a plan that statements make
pub record IsMade (plan : Outline) : Type 0 where
  pub sound : IsSoundPlan plan.nodes
  pub written : AreWritten plan.nodes
  pub version : plan.version ≡ 1

pub is_made : (statements : List Stated) (end : ℕ) (plan : Outline) → AreSpelled (map what_of statements) → built statements end ≡ Ok plan → IsMade plan
is_made statements end plan spelled is =
    let done : IsDone Both plan = built_keeps Both step statements no_draft end plan spelled (nothing_sound, record { nodes = λ node h. absurd h; version = tt }) is in
    record {
      sound = subst IsSoundPlan done.nodes (draft_sound done.final done.output done.holds.0 done.ended);
      written = subst AreWritten done.nodes done.holds.1.nodes;
      version = subst (λ (v : Option ℕ). MatchOption v (Unit {0}) (λ version. version ≡ 1)) done.version done.holds.1.version;
    }
  where
    Both : Draft → Type 0
    Both draft = IsSoundDraft draft × IsWrittenDraft draft

    step : (draft : Draft) (statement : Statement) → is_spelled statement ≡ true → Both draft → fault_of draft statement ≡ None → Both (after draft statement)
    step draft statement p both e = (after_sound draft statement p both.0 e, after_written draft statement p both.0 both.1 e)

again : (plan : Outline) (k : ℕ) → IsMade plan → length plan.nodes ≡ suc k → (end : ℕ) → built (lines_from 1 (statements_of plan)) end ≡ Ok plan
again plan k made e end =
    let same : plan ≡ record { version = 1; nodes = plan.nodes } = ap (λ (v : ℕ). record { version = v; nodes = plan.nodes }) made.version in
    let one : built (lines_from 1 (statements_of (record { version = 1; nodes = plan.nodes }))) end ≡ Ok (record { version = 1; nodes = plan.nodes }) =
    reaches_built no_draft (record { version = Some 1; nodes = plan.nodes; output = Some k }) (statements_of (record { version = 1; nodes = plan.nodes })) 1 end (reaches_end plan.nodes k made.sound made.written e) in
    subst (λ (p : Outline). built (lines_from 1 (statements_of p)) end ≡ Ok p) (sym same) one

pub canonical_is_read_again : CanonicalIsReadAgain
canonical_is_read_again statements end plan spelled is last =
    let made : IsMade plan = is_made statements end plan spelled is in
    go (length plan.nodes) refl made.sound.some made
  where
    go : (n : ℕ) → length plan.nodes ≡ n → 1 ≤ length plan.nodes → IsMade plan → built (lines_from 1 (statements_of plan)) last ≡ Ok plan
    go zero e some made = absurd (omega (arith, e, some))
    go (suc k) e some made = again plan k made e last
