-- The node that a statement without fault declares is sound over the nodes before it.
use Rattle.std.proofs.Common.{ℕ, ◌<◌, ◌≤◌, ◌≡◌, length, arith, true, false, ◌&&◌, ◌||◌, List, [], ◌∷◌, ◌++◌, map, flat_map, take, nat_le, nat_lt, refl, sym, ap, ◌∙◌, subst, inl, inr, length-append}
use Rattle.std.specs.List.{list_all, list_any}
use Rattle.std.proofs.lemmas.Bool.{and_parts, or_parts, not-false, leb-true, leb-false, ltb-false, false≢true, false_from_ne_true}
use Rattle.std.proofs.lemmas.List.{length-map}
use Rattle.std.proofs.lemmas.List.Folds.{flat_map-map}
use Rattle.pj_value.specs.Lists.{In}
use Rattle.pj_value.proofs.Members.{In-append_left, In-append_right, In-map, In-map_from, In-flat_map_from, all_at, none_at}
use Rattle.pj_shape.specs.declared.columns.Column.{Column}
use Rattle.pj_shape.specs.declared.groups.GroupSpec.{GroupSpec}
use Rattle.pj_shape.specs.Columns.{domains_of}
use Rattle.pj_plan.specs.declared.node.Node.TheVariants.{Project as ProjectNode, Group as GroupNode}
use Rattle.pj_plan.specs.declared.node.PlanNode.{PlanNode}
use Rattle.pj_plan.specs.declared.node.Draft.{Draft}
use Rattle.pj_plan.specs.declared.statement.Statement.{Statement}
use Rattle.pj_plan.specs.declared.statement.Statement.TheVariants.{Stream, Select, Project, Union, Join, Group}
use Rattle.pj_plan.specs.declared.statement.ColumnWord.{ColumnWord}
use Rattle.pj_plan.specs.declared.statement.TestWord.{TestWord}
use Rattle.pj_plan.specs.declared.statement.Renamed.{Renamed}
use Rattle.pj_plan.specs.declared.statement.NamedAgg.{NamedAgg}
use Rattle.pj_plan.specs.Names.{is_name, is_column_name, is_agg, is_class, has_some, are_inputs, is_spelled}
use Rattle.pj_plan.specs.Words.{agg_columns}
use Rattle.pj_plan.specs.Nodes.{inputs_of, is_stream}
use Rattle.pj_plan.specs.Made.{number_of, schema_of, first_schema, columns_of, result_schema, node_of, old_number, renamed_column, group_schema, key_column, agg_column, column_number, stream_column}
use Rattle.pj_plan.specs.Canonical.{node_schema}
use Rattle.pj_plan.specs.Faults.{is_known, has_column, are_alike, is_unlike, are_unlike, names_text_sum, has_two_kinds, has_one_input_twice, share_a_column, is_too_wide, stream_count}
use Rattle.pj_plan.specs.Sound.{AreDistinct, name_of, domain_at, column_at, columns_of_first, group_domains, IsSoundSchema, IsSoundGroup, IsSoundOperator, IsSoundNode}
use Rattle.pj_plan.proofs.Lists.{classes_distinct, distinct_left, distinct_right}
use Rattle.pj_plan.proofs.ByName.{names_differ, number_schema}
use Rattle.pj_plan.proofs.Classes.{joined, IsGoodClass}
use Rattle.pj_plan.proofs.Operators.{test_fits, project_domains, project_there, alike_domains, IsGoodJoin, sound_spec, IsGoodGroup, group_of, sound_group, domains_of_group, keys_first}
use Rattle.pj_plan.proofs.NoFaults.{HasNone, AreFree, name_known, inputs_free, known_schema, columns_of_one, column_known, tests_suit, has_room}

-- the node suits those before it
pub record IsGoodNode (nodes : List PlanNode) (node : PlanNode) : Type 0 where
  pub room : length nodes < 64
  pub streams : is_stream node.node ≡ true → stream_count nodes < 16
  pub fresh : is_known nodes node.name ≡ false
  pub schema : IsSoundSchema node.schema
  pub inputs : AreFree nodes (inputs_of node.node)
  pub operator : IsSoundOperator nodes node.schema node.node

-- each of these nodes is sound
abbrev pub AreSound : List PlanNode → Type 0
AreSound nodes = (n : ℕ) → n < length nodes → IsSoundNode nodes n

some_length : {A : Type 0} (xs : List A) → has_some xs ≡ true → 1 ≤ length xs
some_length [] t = absurd (false≢true t)
some_length (x ∷ xs) t = omega arith

-- ---- a stream

pub stream_good : (draft : Draft) (name : List ℕ) (columns : List ColumnWord) → is_spelled (Stream name columns) ≡ true → HasNone draft (Stream name columns) → IsGoodNode draft.nodes (node_of draft name (Stream name columns))
stream_good draft name columns spelled none =
    let nodes : List PlanNode = draft.nodes in
    let statement : Statement = Stream name columns in
    let limits = or_parts (nat_le 16 (stream_count nodes)) (is_too_wide draft statement) none.few in
    let room = has_room draft statement limits.1 in
    let words = and_parts (is_name name) (has_some columns && list_all (λ column. is_column_name column.name) columns) spelled in
    let some = some_length columns (and_parts (has_some columns) (list_all (λ column. is_column_name column.name) columns) words.1).0 in
    record {
      room = room.0;
      streams = λ t. leb-false 16 (stream_count nodes) limits.0;
      fresh = none.name;
      schema = record { some = rw (length-map columns stream_column) some; few = room.1; names = names_differ (result_schema draft statement) none.different };
      inputs = inputs_free draft statement none;
      operator = (omega arith, (λ scheme h. absurd h));
    }

-- ---- a select

pub select_good : (draft : Draft) (name input : List ℕ) (tests : List TestWord) → AreSound draft.nodes → HasNone draft (Select name input tests) → IsGoodNode draft.nodes (node_of draft name (Select name input tests))
select_good draft name input tests each none =
    let nodes : List PlanNode = draft.nodes in
    let statement : Statement = Select name input tests in
    let schema : IsSoundSchema (schema_of nodes input) = known_schema nodes input each (name_known nodes (input ∷ []) input none.names (inl refl)) in
    record {
      room = (has_room draft statement none.few).0;
      streams = λ t. absurd (false≢true t);
      fresh = none.name;
      schema = schema;
      inputs = inputs_free draft statement none;
      operator = (sym (number_schema nodes input), test_fits (schema_of nodes input) tests schema.names (tests_suit nodes input tests none.kinds));
    }

-- ---- a project

project_suits : (nodes : List PlanNode) (input : List ℕ) (columns : List Renamed) → ((w : Renamed) → In w columns → has_column (schema_of nodes input) w.old ≡ true)
    → IsSoundOperator nodes (map (renamed_column (schema_of nodes input)) columns) (ProjectNode (number_of nodes input) (map (old_number (schema_of nodes input)) columns))
project_suits nodes input columns known =
    subst (λ (cs : List Column). ((column : ℕ) → In column (map (old_number (schema_of nodes input)) columns) → column < length cs) × (domains_of (map (renamed_column (schema_of nodes input)) columns) ≡ map (domain_at cs) (map (old_number (schema_of nodes input)) columns)))
    (sym (number_schema nodes input))
    (project_there (schema_of nodes input) columns known, project_domains (schema_of nodes input) columns)

pub project_good : (draft : Draft) (name input : List ℕ) (columns : List Renamed) → is_spelled (Project name input columns) ≡ true → HasNone draft (Project name input columns) → IsGoodNode draft.nodes (node_of draft name (Project name input columns))
project_good draft name input columns spelled none =
    let nodes : List PlanNode = draft.nodes in
    let statement : Statement = Project name input columns in
    let room = has_room draft statement none.few in
    let words = and_parts (is_name name && is_name input) (has_some columns && list_all (λ column. is_column_name column.new && is_column_name column.old) columns) spelled in
    let some = some_length columns (and_parts (has_some columns) (list_all (λ column. is_column_name column.new && is_column_name column.old) columns) words.1).0 in
    let known : (w : Renamed) → In w columns → has_column (schema_of nodes input) w.old ≡ true = λ w h. subst (λ (cs : List Column). has_column cs w.old ≡ true) (columns_of_one nodes input) (column_known draft statement w.old none (In-append_left w.old (map (λ column. column.old) columns) [] (In-map_from (λ (column : Renamed). column.old) w columns h))) in
    record {
      room = room.0;
      streams = λ t. absurd (false≢true t);
      fresh = none.name;
      schema = record { some = rw (length-map columns (renamed_column (schema_of nodes input))) some; few = room.1; names = names_differ (result_schema draft statement) none.different };
      inputs = inputs_free draft statement none;
      operator = project_suits nodes input columns known;
    }

-- ---- a union

first_input : (nodes : List PlanNode) (inputs : List (List ℕ)) → first_schema nodes inputs ≡ columns_of_first nodes (map (number_of nodes) inputs)
first_input nodes [] = refl
first_input nodes (n ∷ ns) = sym (number_schema nodes n)

first_sound : (nodes : List PlanNode) (inputs : List (List ℕ)) → AreSound nodes → 2 ≤ length inputs → ((name : List ℕ) → In name inputs → is_known nodes name ≡ true) → IsSoundSchema (first_schema nodes inputs)
first_sound nodes [] each two known = absurd (omega (arith, two))
first_sound nodes (n ∷ ns) each two known = known_schema nodes n each (known n (inl refl))

pub union_good : (draft : Draft) (name : List ℕ) (inputs : List (List ℕ)) → is_spelled (Union name inputs) ≡ true → AreSound draft.nodes → HasNone draft (Union name inputs) → IsGoodNode draft.nodes (node_of draft name (Union name inputs))
union_good draft name inputs spelled each none =
    let nodes : List PlanNode = draft.nodes in
    let statement : Statement = Union name inputs in
    let limits = or_parts (nat_lt 16 (length inputs)) (is_too_wide draft statement) none.few in
    let two : 2 ≤ length inputs = leb-true 2 (length inputs) (and_parts (nat_le 2 (length inputs)) (list_all is_name inputs) (and_parts (is_name name) (are_inputs inputs) spelled).1).0 in
    let few : length inputs ≤ 16 = ltb-false 16 (length inputs) limits.0 in
    let alike : (n : List ℕ) → In n inputs → are_alike (first_schema nodes inputs) (schema_of nodes n) ≡ true = λ n h. not-false (are_alike (first_schema nodes inputs) (schema_of nodes n)) (false_from_ne_true (is_unlike (first_schema nodes inputs) (schema_of nodes n))
    (λ t. none_at (is_unlike (first_schema nodes inputs)) (map (schema_of nodes) inputs) (schema_of nodes n) (or_parts (are_unlike nodes inputs) false none.kinds).0 (In-map_from (schema_of nodes) n inputs h) t)) in
    record {
      room = (has_room draft statement limits.1).0;
      streams = λ t. absurd (false≢true t);
      fresh = none.name;
      schema = first_sound nodes inputs each two (λ n h. name_known nodes inputs n none.names h);
      inputs = inputs_free draft statement none;
      operator = (
        rw (length-map inputs (number_of nodes)) two,
        rw (length-map inputs (number_of nodes)) few,
        first_input nodes inputs,
        (λ m h. let r = In-map (number_of nodes) m inputs h in
            ap (λ (k : ℕ). domains_of (node_schema nodes k)) (sym r.2) ∙ ap domains_of (number_schema nodes r.0) ∙ sym (alike_domains (first_schema nodes inputs) (schema_of nodes r.0) (alike r.0 r.1))),
      );
    }

-- ---- a join

schemas_by_number : (nodes : List PlanNode) (inputs : List (List ℕ)) → map (schema_of nodes) inputs ≡ map (node_schema nodes) (map (number_of nodes) inputs)
schemas_by_number nodes [] = refl
schemas_by_number nodes (n ∷ ns) =
    ap (λ (s : List Column). s ∷ map (schema_of nodes) ns) (sym (number_schema nodes n)) ∙ ap (λ (ss : List (List Column)). node_schema nodes (number_of nodes n) ∷ ss) (schemas_by_number nodes ns)

columns_by_number : (nodes : List PlanNode) (inputs : List (List ℕ)) → columns_of nodes inputs ≡ flat_map (node_schema nodes) (map (number_of nodes) inputs)
columns_by_number nodes [] = refl
columns_by_number nodes (n ∷ ns) =
    ap (λ (s : List Column). s ++ columns_of nodes ns) (sym (number_schema nodes n)) ∙ ap (λ (cs : List Column). node_schema nodes (number_of nodes n) ++ cs) (columns_by_number nodes ns)

pub columns_joined : (nodes : List PlanNode) (inputs : List (List ℕ)) → joined (map (schema_of nodes) inputs) ≡ columns_of nodes inputs
columns_joined nodes inputs = flat_map-map (λ schema. schema) (schema_of nodes) inputs

distinct_member : {A B : Type 0} (f : A → List B) (x : A) (xs : List A) → AreDistinct (flat_map f xs) → In x xs → AreDistinct (f x)
distinct_member f x [] d h = absurd h
distinct_member {A} f x (y ∷ xs) d (inl e) = subst (λ (z : A). AreDistinct (f z)) e (distinct_left (f y) (flat_map f xs) d)
distinct_member f x (y ∷ xs) d (inr h) = distinct_member f x xs (distinct_right (f y) (flat_map f xs) d) h

some_columns : (nodes : List PlanNode) (inputs : List (List ℕ)) → AreSound nodes → 2 ≤ length inputs → ((name : List ℕ) → In name inputs → is_known nodes name ≡ true) → 1 ≤ length (columns_of nodes inputs)
some_columns nodes [] each two known = absurd (omega (arith, two))
some_columns nodes (n ∷ ns) each two known = let h : 1 ≤ length (schema_of nodes n) = (known_schema nodes n each (known n (inl refl))).some in omega (arith, h, length-append (schema_of nodes n) (columns_of nodes ns))

join_words : (draft : Draft) (name : List ℕ) (inputs : List (List ℕ)) (classes : List (List (List ℕ))) → list_all is_class classes ≡ true → HasNone draft (Join name inputs classes)
    → (words : List (List ℕ)) → In words classes → IsGoodClass (map (schema_of draft.nodes) inputs) words
join_words draft name inputs classes spelled none words h =
    let nodes : List PlanNode = draft.nodes in
    let bad = or_parts (list_any (has_one_input_twice (map (schema_of nodes) inputs)) classes) (share_a_column classes) none.classes in
    record {
      two = leb-true 2 (length words) (and_parts (nat_le 2 (length words)) (list_all is_column_name words) (all_at is_class classes words spelled h)).0;
      known = λ w l. subst (λ (cs : List Column). has_column cs w ≡ true) (sym (columns_joined nodes inputs)) (column_known draft (Join name inputs classes) w none (In-append_left w (flat_map (λ class. class) classes) [] (In-flat_map_from (λ class. class) w words classes h l)));
      kinds = subst (λ (cs : List Column). has_two_kinds cs words ≡ false) (sym (columns_joined nodes inputs)) (false_from_ne_true (has_two_kinds (columns_of nodes inputs) words) (λ t. none_at (has_two_kinds (columns_of nodes inputs)) classes words (or_parts (list_any (has_two_kinds (columns_of nodes inputs)) classes) false none.kinds).0 h t));
      once = false_from_ne_true (has_one_input_twice (map (schema_of nodes) inputs) words) (λ t. none_at (has_one_input_twice (map (schema_of nodes) inputs)) classes words bad.0 h t);
      distinct = distinct_member (λ class. class) words classes (classes_distinct classes bad.1) h;
    }

pub join_good : (draft : Draft) (name : List ℕ) (inputs : List (List ℕ)) (classes : List (List (List ℕ))) → is_spelled (Join name inputs classes) ≡ true → AreSound draft.nodes → HasNone draft (Join name inputs classes)
    → IsGoodNode draft.nodes (node_of draft name (Join name inputs classes))
join_good draft name inputs classes spelled each none =
    let nodes : List PlanNode = draft.nodes in
    let statement : Statement = Join name inputs classes in
    let schemas : List (List Column) = map (schema_of nodes) inputs in
    let bad = or_parts (list_any (has_one_input_twice schemas) classes) (share_a_column classes) none.classes in
    let fews = or_parts (nat_lt 16 (length inputs)) (nat_lt 32 (length classes) || is_too_wide draft statement) none.few in
    let limits = or_parts (nat_lt 32 (length classes)) (is_too_wide draft statement) fews.1 in
    let room = has_room draft statement limits.1 in
    let parts = and_parts (is_name name && are_inputs inputs) (has_some classes && list_all is_class classes) spelled in
    let two : 2 ≤ length inputs = leb-true 2 (length inputs) (and_parts (nat_le 2 (length inputs)) (list_all is_name inputs) (and_parts (is_name name) (are_inputs inputs) parts.0).1).0 in
    let words = and_parts (has_some classes) (list_all is_class classes) parts.1 in
    let names : AreDistinct (map name_of (columns_of nodes inputs)) = names_differ (columns_of nodes inputs) none.different in
    let good : IsGoodJoin schemas classes = record {
      two = rw (length-map inputs (schema_of nodes)) two;
      few_inputs = rw (length-map inputs (schema_of nodes)) (ltb-false 16 (length inputs) fews.0);
      one = some_length classes words.0;
      few_classes = ltb-false 32 (length classes) limits.0;
      few_columns = subst (λ (cs : List Column). length cs ≤ 120) (sym (columns_joined nodes inputs)) room.1;
      names = subst (λ (cs : List Column). AreDistinct (map name_of cs)) (sym (columns_joined nodes inputs)) names;
      good = join_words draft name inputs classes words.1 none;
      once = classes_distinct classes bad.1;
    } in
    record {
      room = room.0;
      streams = λ t. absurd (false≢true t);
      fresh = none.name;
      schema = record { some = some_columns nodes inputs each two (λ n h. name_known nodes inputs n none.names h); few = room.1; names = names };
      inputs = inputs_free draft statement none;
      operator = (sound_spec schemas classes good, schemas_by_number nodes inputs, columns_by_number nodes inputs);
    }

-- ---- a group

group_words : (draft : Draft) (name input : List ℕ) (keys : List (List ℕ)) (aggs : List NamedAgg) → is_spelled (Group name input keys aggs) ≡ true → HasNone draft (Group name input keys aggs) → IsGoodGroup (schema_of draft.nodes input) keys aggs
group_words draft name input keys aggs spelled none =
    let nodes : List PlanNode = draft.nodes in
    let columns : List Column = schema_of nodes input in
    let named : List (List ℕ) = flat_map (λ agg. agg_columns agg.agg) aggs in
    let parts = and_parts (is_name name && is_name input) ((has_some keys && list_all is_column_name keys) && (has_some aggs && list_all (λ agg. is_column_name agg.name && is_agg agg.agg) aggs)) spelled in
    let both = and_parts (has_some keys && list_all is_column_name keys) (has_some aggs && list_all (λ agg. is_column_name agg.name && is_agg agg.agg) aggs) parts.1 in
    let known : (n : List ℕ) → In n (keys ++ named) → has_column columns n ≡ true = λ n h. subst (λ (cs : List Column). has_column cs n ≡ true) (columns_of_one nodes input) (column_known draft (Group name input keys aggs) n none h) in
    record {
      some_keys = some_length keys (and_parts (has_some keys) (list_all is_column_name keys) both.0).0;
      some_aggs = some_length aggs (and_parts (has_some aggs) (list_all (λ agg. is_column_name agg.name && is_agg agg.agg) aggs) both.1).0;
      known_keys = λ k h. known k (In-append_left k keys named h);
      known_aggs = λ agg h n l. known n (In-append_right n keys named (In-flat_map_from (λ (a : NamedAgg). agg_columns a.agg) n agg aggs h l));
      names = names_differ (group_schema columns keys aggs) none.different;
      sums = subst (λ (cs : List Column). list_any (names_text_sum cs) aggs ≡ false) (columns_of_one nodes input) none.kinds;
    }

group_suits : (nodes : List PlanNode) (input : List ℕ) (keys : List (List ℕ)) (aggs : List NamedAgg) → IsGoodGroup (schema_of nodes input) keys aggs
    → IsSoundOperator nodes (group_schema (schema_of nodes input) keys aggs) (GroupNode (number_of nodes input) (group_of (schema_of nodes input) keys aggs))
group_suits nodes input keys aggs good =
    let columns : List Column = schema_of nodes input in
    let spec : GroupSpec = group_of columns keys aggs in
    let first : take (length spec.keys) (group_schema columns keys aggs) ≡ map (column_at columns) spec.keys =
    rw (length-map keys (column_number columns)) (keys_first columns keys (map (agg_column columns) aggs) good.known_keys) in
    subst (λ (cs : List Column). IsSoundGroup cs spec × (take (length spec.keys) (group_schema columns keys aggs) ≡ map (column_at cs) spec.keys) × (domains_of (group_schema columns keys aggs) ≡ group_domains cs spec))
    (sym (number_schema nodes input))
    (sound_group columns keys aggs good, first, domains_of_group columns keys aggs)

pub group_good : (draft : Draft) (name input : List ℕ) (keys : List (List ℕ)) (aggs : List NamedAgg) → is_spelled (Group name input keys aggs) ≡ true → HasNone draft (Group name input keys aggs) → IsGoodNode draft.nodes (node_of draft name (Group name input keys aggs))
group_good draft name input keys aggs spelled none =
    let nodes : List PlanNode = draft.nodes in
    let statement : Statement = Group name input keys aggs in
    let columns : List Column = schema_of nodes input in
    let room = has_room draft statement none.few in
    let good : IsGoodGroup columns keys aggs = group_words draft name input keys aggs spelled none in
    let some : 1 ≤ length keys = good.some_keys in
    record {
      room = room.0;
      streams = λ t. absurd (false≢true t);
      fresh = none.name;
      schema = record {
        some = omega (arith, some, length-append (map (key_column columns) keys) (map (agg_column columns) aggs), length-map keys (key_column columns));
        few = room.1;
        names = good.names;
      };
      inputs = inputs_free draft statement none;
      operator = group_suits nodes input keys aggs good;
    }
