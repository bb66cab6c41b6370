-- The canonical statement of a join or a group, behind the nodes before it, has no fault and makes the node again.
use Rattle.std.proofs.Common.{ℕ, ◌<◌, ◌≤◌, ◌≡◌, ◌⊎◌, length, arith, true, false, ◌||◌, List, [], ◌∷◌, ◌++◌, map, flat_map, take, drop, nat_lt, refl, sym, ap, ◌∙◌, subst, inl, inr, take-append-drop}
use Rattle.std.specs.List.{list_any}
use Rattle.std.proofs.lemmas.Bool.{or_from, le-ltb}
use Rattle.std.proofs.lemmas.List.{length-map}
use Rattle.pj_value.specs.Lists.{In}
use Rattle.pj_value.proofs.Members.{In-append_cases, In-map, In-flat_map, none_from}
use Rattle.pj_shape.specs.declared.columns.Column.{Column}
use Rattle.pj_shape.specs.declared.joins.ClassCol.{ClassCol}
use Rattle.pj_shape.specs.declared.joins.JoinSpec.{JoinSpec}
use Rattle.pj_shape.specs.declared.groups.Agg.{Agg}
use Rattle.pj_shape.specs.declared.groups.GroupSpec.{GroupSpec}
use Rattle.pj_shape.specs.Columns.{domains_of}
use Rattle.pj_plan.specs.declared.node.Node.TheVariants.{Join as JoinNode, Group as GroupNode}
use Rattle.pj_plan.specs.declared.node.PlanNode.{PlanNode}
use Rattle.pj_plan.specs.declared.statement.Statement.{Statement}
use Rattle.pj_plan.specs.declared.statement.Statement.TheVariants.{Join, Group}
use Rattle.pj_plan.specs.declared.statement.NamedAgg.{NamedAgg}
use Rattle.pj_plan.specs.Words.{agg_columns}
use Rattle.pj_plan.specs.Made.{number_of, schema_of, columns_of, agg_column, group_schema, named_agg, result_schema}
use Rattle.pj_plan.specs.Canonical.{node_name, node_schema, column_name, class_words, aggs_of}
use Rattle.pj_plan.specs.Faults.{has_column, has_no_column, has_two_kinds, has_one_input_twice, share_a_column, names_text_sum, is_too_wide}
use Rattle.pj_plan.specs.Sound.{AreDistinct, name_of, agg_domain_at, IsSoundAgg}
use Rattle.pj_plan.proofs.Lists.{distinct_classes}
use Rattle.pj_plan.proofs.ByNumber.{named_there, node_number, name_schema, numbers_again, schemas_again, columns_again}
use Rattle.pj_plan.proofs.Classes.{joined}
use Rattle.pj_plan.proofs.NoFaults.{columns_of_one}
use Rattle.pj_plan.proofs.Declared.{columns_joined}
use Rattle.pj_plan.proofs.Operators.{spec_of, group_of}
use Rattle.pj_plan.proofs.Reaches.{without_fault}
use Rattle.pj_plan.proofs.ClassesAgain.{words_known, words_one_kind, words_once, words_apart, classes_again}
use Rattle.pj_plan.proofs.ColumnsAgain.{keys_again, key_columns_again, aggs_again, agg_columns_again, agg_is, agg_known, sums_no_text, domains_behind}
use Rattle.pj_plan.proofs.Redeclared.{plan_node, draft_of, IsNext, Makes, node_same, inputs_by_name, no_unknown, none_more, fits_width, all_differ}

-- ---- a join

pub join_again : (front : List PlanNode) (name : List ℕ) (schema : List Column) (inputs : List ℕ) (spec : JoinSpec) → IsNext front (plan_node name schema (JoinNode inputs spec))
    → Makes front (Join name (map (node_name front) inputs) (map (class_words spec.inputs) spec.classes)) (plan_node name schema (JoinNode inputs spec))
join_again front name schema inputs spec next =
    let names : List (List ℕ) = map (node_name front) inputs in
    let schemas : List (List Column) = spec.inputs in
    let classes : List (List (List ℕ)) = map (class_words schemas) spec.classes in
    let statement : Statement = Join name names classes in
    let good = next.good in
    let sound = good.operator.0 in
    let named = inputs_by_name front inputs next.names good.inputs in
    let all : map (schema_of front) names ≡ schemas = schemas_again front inputs next.names good.inputs.before ∙ sym good.operator.1 in
    let same : columns_of front names ≡ schema = columns_again front inputs next.names good.inputs.before ∙ sym good.operator.2 in
    let whole : columns_of front names ≡ joined schemas = sym (columns_joined front names) ∙ ap joined all in
    let differ : AreDistinct (map name_of (joined schemas)) = subst (λ (cs : List Column). AreDistinct (map name_of cs)) (sym same ∙ whole) good.schema.names in
    let known : list_any (has_no_column (joined schemas)) (flat_map (λ class. class) classes) ≡ false = no_unknown (joined schemas) (flat_map (λ class. class) classes) (λ n h. let r = In-flat_map (λ (class : List (List ℕ)). class) n classes h in
    let q = In-map (class_words schemas) r.0 spec.classes r.1 in
    words_known schemas q.0 n (next.words q.0 q.1) (subst (λ (ws : List (List ℕ)). In n ws) (sym q.2) r.2)) in
    let kinds : list_any (has_two_kinds (joined schemas)) classes ≡ false = none_from (has_two_kinds (joined schemas)) classes (λ ws h. let r = In-map (class_words schemas) ws spec.classes h in
    subst (λ (x : List (List ℕ)). has_two_kinds (joined schemas) x ≡ false) r.2 (words_one_kind schemas r.0 differ (sound.sound_classes r.0 r.1))) in
    let once : list_any (has_one_input_twice schemas) classes ≡ false = none_from (has_one_input_twice schemas) classes (λ ws h. let r = In-map (class_words schemas) ws spec.classes h in
    subst (λ (x : List (List ℕ)). has_one_input_twice schemas x ≡ false) r.2 (words_once schemas r.0 differ (next.words r.0 r.1) (sound.sound_classes r.0 r.1))) in
    let apart : share_a_column classes ≡ false = distinct_classes classes (words_apart schemas spec.classes differ next.words sound.apart) in
    let few_inputs : length names ≤ 16 = let k : length spec.inputs ≤ 16 = sound.few_inputs.1 in omega (arith, k, ap length all, length-map names (schema_of front)) in
    let few_classes : length classes ≤ 32 = rw (length-map spec.classes (class_words schemas)) sound.few_classes.1 in
    let operator : JoinNode (map (number_of front) names) (spec_of (map (schema_of front) names) classes) ≡ JoinNode inputs spec =
    ap (λ (ms : List ℕ). JoinNode ms (spec_of (map (schema_of front) names) classes)) (numbers_again front inputs next.names good.inputs.before)
    ∙ ap (λ (ss : List (List Column)). JoinNode inputs (spec_of ss classes)) all
    ∙ ap (λ (cs : List (List ClassCol)). JoinNode inputs (record { inputs = spec.inputs; classes = cs })) (classes_again schemas spec.classes next.words) in (
      without_fault (draft_of front) statement (record { known = refl; shaped = refl; readable = refl }) (record {
        plan = refl;
        name = good.fresh;
        names = named.known;
        stream = refl;
        columns = none_more (columns_of front names) (flat_map (λ class. class) classes) (subst (λ (cs : List Column). list_any (has_no_column cs) (flat_map (λ class. class) classes) ≡ false) (sym whole) known);
        different = all_differ (result_schema (draft_of front) statement) schema same good.schema;
        kinds = or_from (list_any (has_two_kinds (columns_of front names)) classes) false (subst (λ (cs : List Column). list_any (has_two_kinds cs) classes ≡ false) (sym whole) kinds) refl;
        classes = or_from (list_any (has_one_input_twice (map (schema_of front) names)) classes) (share_a_column classes) (subst (λ (ss : List (List Column)). list_any (has_one_input_twice ss) classes ≡ false) (sym all) once) apart;
        scheme = refl;
        unused = named.unused;
        once = named.once;
        all_used = refl;
        few = or_from (nat_lt 16 (length names)) (nat_lt 32 (length classes) || is_too_wide (draft_of front) statement) (le-ltb 16 (length names) few_inputs)
            (or_from (nat_lt 32 (length classes)) (is_too_wide (draft_of front) statement) (le-ltb 32 (length classes) few_classes) (fits_width front statement schema good.room good.schema same));
        last = refl;
      }),
      ap (λ (n : PlanNode). draft_of (front ++ n ∷ [])) (node_same name (columns_of front names) schema (JoinNode (map (number_of front) names) (spec_of (map (schema_of front) names) classes)) (JoinNode inputs spec) same operator),
    )

-- ---- a group

group_words_known : (columns news : List Column) (spec : GroupSpec) → ((key : ℕ) → In key spec.keys → key < length columns) → ((agg : Agg) → In agg spec.aggs → IsSoundAgg columns agg)
    → (name : List ℕ) → In name (map (column_name columns) spec.keys ++ flat_map (λ agg. agg_columns agg.agg) (aggs_of news columns spec.aggs)) → has_column columns name ≡ true
group_words_known columns news spec keys aggs name h = go (In-append_cases name (map (column_name columns) spec.keys) (flat_map (λ agg. agg_columns agg.agg) (aggs_of news columns spec.aggs)) h)
  where
    go : In name (map (column_name columns) spec.keys) ⊎ In name (flat_map (λ agg. agg_columns agg.agg) (aggs_of news columns spec.aggs)) → has_column columns name ≡ true
    go (inl k) = let r = In-map (column_name columns) name spec.keys k in subst (λ (n : List ℕ). has_column columns n ≡ true) r.2 (named_there columns r.0 (keys r.0 r.1))
    go (inr k) =
        let r = In-flat_map (λ (agg : NamedAgg). agg_columns agg.agg) name (aggs_of news columns spec.aggs) k in
        let q = agg_is columns news spec.aggs r.0 r.1 in
        let i = agg_known columns q.2 name (aggs q.2 q.3) (subst (λ (w : NamedAgg). In name (agg_columns w.agg)) q.4 r.2) in
        subst (λ (n : List ℕ). has_column columns n ≡ true) (sym i.2) (named_there columns i.0 i.1)

pub group_again : (front : List PlanNode) (name : List ℕ) (schema : List Column) (input : ℕ) (spec : GroupSpec) → IsNext front (plan_node name schema (GroupNode input spec))
    → Makes front (Group name (node_name front input) (map (column_name (node_schema front input)) spec.keys) (aggs_of (drop (length spec.keys) schema) (node_schema front input) spec.aggs)) (plan_node name schema (GroupNode input spec))
group_again front name schema input spec next =
    let columns : List Column = node_schema front input in
    let news : List Column = drop (length spec.keys) schema in
    let keys : List (List ℕ) = map (column_name columns) spec.keys in
    let aggs : List NamedAgg = aggs_of news columns spec.aggs in
    let statement : Statement = Group name (node_name front input) keys aggs in
    let good = next.good in
    let sound = good.operator.0 in
    let below : input < length front = good.inputs.before input (inl refl) in
    let named = inputs_by_name front (input ∷ []) next.names good.inputs in
    let same : schema_of front (node_name front input) ≡ columns = name_schema front input next.names below in
    let whole : columns_of front (node_name front input ∷ []) ≡ columns = columns_of_one front (node_name front input) ∙ same in
    let differ : AreDistinct (map name_of columns) = (next.each input below).schema.names in
    let behind : domains_of news ≡ map (agg_domain_at columns) spec.aggs = domains_behind columns schema spec.keys (map (agg_domain_at columns) spec.aggs) good.operator.2 in
    let known : list_any (has_no_column columns) (keys ++ flat_map (λ agg. agg_columns agg.agg) aggs) ≡ false =
    no_unknown columns (keys ++ flat_map (λ agg. agg_columns agg.agg) aggs) (group_words_known columns news spec sound.keys_there sound.sound_aggs) in
    let sums : list_any (names_text_sum columns) aggs ≡ false = none_from (names_text_sum columns) aggs (λ w h. let q = agg_is columns news spec.aggs w h in
    subst (λ (x : NamedAgg). names_text_sum columns x ≡ false) (sym q.4) (sums_no_text columns q.2 differ (sound.sound_aggs q.2 q.3))) in
    let made : group_schema columns keys aggs ≡ schema =
    ap (λ (cs : List Column). cs ++ map (agg_column columns) aggs) (key_columns_again columns spec.keys differ sound.keys_there ∙ sym good.operator.1)
    ∙ ap (λ (cs : List Column). take (length spec.keys) schema ++ cs) (agg_columns_again columns news spec.aggs differ sound.sound_aggs behind)
    ∙ take-append-drop (length spec.keys) schema in
    let result : group_schema (schema_of front (node_name front input)) keys aggs ≡ schema = ap (λ (cs : List Column). group_schema cs keys aggs) same ∙ made in
    let operator : GroupNode (number_of front (node_name front input)) (group_of (schema_of front (node_name front input)) keys aggs) ≡ GroupNode input spec =
    ap (λ (m : ℕ). GroupNode m (group_of (schema_of front (node_name front input)) keys aggs)) (node_number front input next.names below)
    ∙ ap (λ (cs : List Column). GroupNode input (group_of cs keys aggs)) same
    ∙ ap (λ (ks : List ℕ). GroupNode input (record { keys = ks; aggs = map (named_agg columns) aggs })) (keys_again columns spec.keys differ sound.keys_there)
    ∙ ap (λ (xs : List Agg). GroupNode input (record { keys = spec.keys; aggs = xs })) (aggs_again columns news spec.aggs differ sound.sound_aggs behind) in (
      without_fault (draft_of front) statement (record { known = refl; shaped = refl; readable = refl }) (record {
        plan = refl;
        name = good.fresh;
        names = named.known;
        stream = refl;
        columns = subst (λ (cs : List Column). list_any (has_no_column cs) (keys ++ flat_map (λ agg. agg_columns agg.agg) aggs) ≡ false) (sym whole) known;
        different = all_differ (result_schema (draft_of front) statement) schema result good.schema;
        kinds = subst (λ (cs : List Column). list_any (names_text_sum cs) aggs ≡ false) (sym whole) sums;
        classes = refl;
        scheme = refl;
        unused = named.unused;
        once = named.once;
        all_used = refl;
        few = fits_width front statement schema good.room good.schema result;
        last = refl;
      }),
      ap (λ (n : PlanNode). draft_of (front ++ n ∷ [])) (node_same name (group_schema (schema_of front (node_name front input)) keys aggs) schema (GroupNode (number_of front (node_name front input)) (group_of (schema_of front (node_name front input)) keys aggs)) (GroupNode input spec) result operator),
    )
