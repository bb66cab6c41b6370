-- The canonical statement of a node, behind the nodes before it, has no fault and makes the node again.
use Rattle.std.proofs.Common.{ℕ, ◌<◌, ◌≤◌, ◌≡◌, length, Bool, true, false, List, [], ◌∷◌, ◌++◌, Some, None, map, nat_le, nat_lt, refl, sym, ap, ◌∙◌, subst, inl, append-nil}
use Rattle.std.specs.List.{list_any}
use Rattle.std.proofs.lemmas.Bool.{and_from, or_from, not_from_true, lt-leb, le-ltb, false_from_ne_true}
use Rattle.std.proofs.lemmas.List.{length-map}
use Rattle.pj_value.specs.Lists.{In}
use Rattle.pj_value.specs.declared.values.Kind.{Kind}
use Rattle.pj_value.specs.declared.values.Kind.TheVariants.{Int, Text}
use Rattle.pj_value.proofs.Members.{In-map, none_from}
use Rattle.pj_value.proofs.Numbers.{has-in}
use Rattle.pj_shape.specs.declared.columns.Column.{Column}
use Rattle.pj_shape.specs.Columns.{domains_of}
use Rattle.pj_pattern.specs.declared.pattern.Form.{Form}
use Rattle.pj_plan.specs.declared.node.Node.{Node}
use Rattle.pj_plan.specs.declared.node.Node.TheVariants.{Stream as StreamNode, Select as SelectNode, Project as ProjectNode, Union as UnionNode}
use Rattle.pj_plan.specs.declared.node.PlanNode.{PlanNode}
use Rattle.pj_plan.specs.declared.node.Draft.{Draft}
use Rattle.pj_plan.specs.declared.statement.Statement.{Statement}
use Rattle.pj_plan.specs.declared.statement.Statement.TheVariants.{Stream, Select, Project, Union}
use Rattle.pj_plan.specs.declared.statement.TestWord.{TestWord}
use Rattle.pj_plan.specs.declared.statement.Renamed.{Renamed}
use Rattle.pj_plan.specs.Words.{repeats}
use Rattle.pj_plan.specs.Made.{number_of, schema_of, first_schema, columns_of, stream_column, renamed_column, column_test, old_number, result_schema, after}
use Rattle.pj_plan.specs.Canonical.{node_name, node_schema, column_name, column_word, tests_of, renamed_of}
use Rattle.pj_plan.specs.Faults.{has_column, has_no_column, is_unknown_name, is_known, share_a_name, kind_eq, are_alike, is_unlike, misses_its_kind, was_used, uses, stream_count, is_too_wide, fault_of}
use Rattle.pj_plan.specs.Sound.{AreDistinct, name_of, name_of_node, all_inputs, IsSoundSchema}
use Rattle.pj_plan.proofs.Lists.{distinct_repeats}
use Rattle.pj_plan.proofs.ByName.{none_shared}
use Rattle.pj_plan.proofs.ByNumber.{named_there, node_number, name_schema, name_known_at, numbers_again as nodes_again, schemas_again, first_again, names_distinct}
use Rattle.pj_plan.proofs.NoFaults.{AreFree, columns_of_one}
use Rattle.pj_plan.proofs.Declared.{IsGoodNode, AreSound}
use Rattle.pj_plan.proofs.Drafts.{in_uses}
use Rattle.pj_plan.proofs.Reaches.{without_fault}
use Rattle.pj_plan.proofs.TestsAgain.{in_tests, test_known, test_kind, tests_again}
use Rattle.pj_plan.proofs.ColumnsAgain.{renamed_again, numbers_again, renamed_is}
use Rattle.pj_plan.proofs.Written.{HasWords}

-- the version and these nodes are declared
abbrev pub draft_of : List PlanNode → Draft
draft_of nodes = record { version = Some 1; nodes = nodes; output = None }

-- the node suits those before it, whose names differ and which are sound, and has words
pub record IsNext (front : List PlanNode) (node : PlanNode) : Type 0 where
  pub good : IsGoodNode front node
  pub names : AreDistinct (map name_of_node front)
  pub each : AreSound front
  pub words : HasWords node.schema node.node

-- behind these nodes the statement has no fault, and makes the node
abbrev pub Makes : List PlanNode → Statement → PlanNode → Type 0
Makes front statement node = (fault_of (draft_of front) statement ≡ None) × (after (draft_of front) statement ≡ draft_of (front ++ node ∷ []))

abbrev pub plan_node : List ℕ → List Column → Node → PlanNode
plan_node name schema node = record { name = name; schema = schema; node = node }

pub node_same : (name : List ℕ) (schema schema' : List Column) (node node' : Node) → schema ≡ schema' → node ≡ node' → plan_node name schema node ≡ plan_node name schema' node'
node_same name schema schema' node node' e f = ap (λ (s : List Column). plan_node name s node) e ∙ ap (plan_node name schema') f

-- ---- what all have in common

-- the inputs by their names
pub record HasInputs (front : List PlanNode) (names : List (List ℕ)) : Type 0 where
  pub known : list_any (is_unknown_name front) names ≡ false
  pub unused : list_any (was_used (draft_of front)) names ≡ false
  pub once : repeats names ≡ false

pub inputs_by_name : (front : List PlanNode) (numbers : List ℕ) → AreDistinct (map name_of_node front) → AreFree front numbers → HasInputs front (map (node_name front) numbers)
inputs_by_name front numbers d free = record {
  known = none_from (is_unknown_name front) (map (node_name front) numbers) (λ name h. let r = In-map (node_name front) name numbers h in
      subst (λ (n : List ℕ). is_unknown_name front n ≡ false) r.2 (not_from_true (is_known front (node_name front r.0)) (name_known_at front r.0 (free.before r.0 r.1))));
  unused = none_from (was_used (draft_of front)) (map (node_name front) numbers) (λ name h. let r = In-map (node_name front) name numbers h in
      subst (λ (n : List ℕ). was_used (draft_of front) n ≡ false) r.2 (not_used r.0 r.1));
  once = distinct_repeats (map (node_name front) numbers) (names_distinct front numbers d free.before free.distinct);
}
  where
    not_used : (m : ℕ) → In m numbers → was_used (draft_of front) (node_name front m) ≡ false
    not_used m h =
        false_from_ne_true (was_used (draft_of front) (node_name front m))
        (λ t. free.free m h (subst (λ (k : ℕ). In k (all_inputs front)) (node_number front m d (free.before m h)) (in_uses (draft_of front) (number_of front (node_name front m)) refl (has-in (uses (draft_of front)) (number_of front (node_name front m)) t))))

pub no_unknown : (columns : List Column) (names : List (List ℕ)) → ((name : List ℕ) → In name names → has_column columns name ≡ true) → list_any (has_no_column columns) names ≡ false
no_unknown columns names known = none_from (has_no_column columns) names (λ name h. not_from_true (has_column columns name) (known name h))

pub fits_width : (front : List PlanNode) (statement : Statement) (schema : List Column) → length front < 64 → IsSoundSchema schema → result_schema (draft_of front) statement ≡ schema → is_too_wide (draft_of front) statement ≡ false
fits_width front statement schema room sound e =
    or_from (nat_le 64 (length front)) (nat_lt 120 (length (result_schema (draft_of front) statement))) (lt-leb 64 (length front) room)
    (le-ltb 120 (length (result_schema (draft_of front) statement)) (subst (λ (cs : List Column). length cs ≤ 120) (sym e) sound.few))

pub all_differ : (columns schema : List Column) → columns ≡ schema → IsSoundSchema schema → share_a_name columns ≡ false
all_differ columns schema e sound = subst (λ (cs : List Column). share_a_name cs ≡ false) (sym e) (none_shared schema sound.names)

-- among these names and none more no column is unknown
pub none_more : (columns : List Column) (names : List (List ℕ)) → list_any (has_no_column columns) names ≡ false → list_any (has_no_column columns) (names ++ []) ≡ false
none_more columns names e = subst (λ (ns : List (List ℕ)). list_any (has_no_column columns) ns ≡ false) (sym (append-nil names)) e

-- ---- a stream

column_words_again : (schema : List Column) → map stream_column (map column_word schema) ≡ schema
column_words_again [] = refl
column_words_again (c ∷ cs) = ap (λ (xs : List Column). c ∷ xs) (column_words_again cs)

pub stream_again : (front : List PlanNode) (name : List ℕ) (schema : List Column) (schemes : List (List Bool)) → IsNext front (plan_node name schema (StreamNode schemes))
    → Makes front (Stream name (map column_word schema)) (plan_node name schema (StreamNode []))
stream_again front name schema schemes next =
    let statement : Statement = Stream name (map column_word schema) in
    let good = next.good in (
      without_fault (draft_of front) statement (record { known = refl; shaped = refl; readable = refl }) (record {
        plan = refl;
        name = good.fresh;
        names = refl;
        stream = refl;
        columns = refl;
        different = all_differ (result_schema (draft_of front) statement) schema (column_words_again schema) good.schema;
        kinds = refl;
        classes = refl;
        scheme = refl;
        unused = refl;
        once = refl;
        all_used = refl;
        few = or_from (nat_le 16 (stream_count front)) (is_too_wide (draft_of front) statement) (lt-leb 16 (stream_count front) (good.streams refl)) (fits_width front statement schema good.room good.schema (column_words_again schema));
        last = refl;
      }),
      ap (λ (s : List Column). draft_of (front ++ record { name = name; schema = s; node = StreamNode [] } ∷ [])) (column_words_again schema),
    )

-- ---- a select

pub select_again : (front : List PlanNode) (name : List ℕ) (schema : List Column) (input : ℕ) (test : List Form) → IsNext front (plan_node name schema (SelectNode input test))
    → Makes front (Select name (node_name front input) (tests_of schema test)) (plan_node name schema (SelectNode input test))
select_again front name schema input test next =
    let statement : Statement = Select name (node_name front input) (tests_of schema test) in
    let good = next.good in
    let below : input < length front = good.inputs.before input (inl refl) in
    let named = inputs_by_name front (input ∷ []) next.names good.inputs in
    let same : schema_of front (node_name front input) ≡ schema = name_schema front input next.names below ∙ sym good.operator.0 in
    let whole : columns_of front (node_name front input ∷ []) ≡ schema = columns_of_one front (node_name front input) ∙ same in
    let known : list_any (has_no_column schema) (map (λ test. test.column) (tests_of schema test)) ≡ false = no_unknown schema (map (λ test. test.column) (tests_of schema test)) (λ n h. let r = In-map (λ (w : TestWord). w.column) n (tests_of schema test) h in
    subst (λ (x : List ℕ). has_column schema x ≡ true) r.2 (test_known schema r.0 (in_tests schema test r.0 good.operator.1 r.1))) in
    let kinds : list_any (misses_its_kind schema) (tests_of schema test) ≡ false = none_from (misses_its_kind schema) (tests_of schema test) (λ w h. test_kind schema w good.schema.names (in_tests schema test w good.operator.1 h)) in
    let operator : SelectNode (number_of front (node_name front input)) (map (column_test (tests_of schema test)) (schema_of front (node_name front input))) ≡ SelectNode input test =
    ap (λ (m : ℕ). SelectNode m (map (column_test (tests_of schema test)) (schema_of front (node_name front input)))) (node_number front input next.names below)
    ∙ ap (λ (cs : List Column). SelectNode input (map (column_test (tests_of schema test)) cs)) same
    ∙ ap (SelectNode input) (tests_again schema test good.schema.names good.operator.1) in (
      without_fault (draft_of front) statement (record { known = refl; shaped = refl; readable = refl }) (record {
        plan = refl;
        name = good.fresh;
        names = named.known;
        stream = refl;
        columns = none_more (columns_of front (node_name front input ∷ [])) (map (λ test. test.column) (tests_of schema test))
            (subst (λ (cs : List Column). list_any (has_no_column cs) (map (λ test. test.column) (tests_of schema test)) ≡ false) (sym whole) known);
        different = all_differ (result_schema (draft_of front) statement) schema same good.schema;
        kinds = or_from (list_any (misses_its_kind (columns_of front (node_name front input ∷ []))) (tests_of schema test)) false
            (subst (λ (cs : List Column). list_any (misses_its_kind cs) (tests_of schema test) ≡ false) (sym whole) kinds) refl;
        classes = refl;
        scheme = refl;
        unused = named.unused;
        once = named.once;
        all_used = refl;
        few = fits_width front statement schema good.room good.schema same;
        last = refl;
      }),
      ap (λ (n : PlanNode). draft_of (front ++ n ∷ [])) (node_same name (schema_of front (node_name front input)) schema (SelectNode (number_of front (node_name front input)) (map (column_test (tests_of schema test)) (schema_of front (node_name front input)))) (SelectNode input test) same operator),
    )

-- ---- a project

pub project_again : (front : List PlanNode) (name : List ℕ) (schema : List Column) (input : ℕ) (numbers : List ℕ) → IsNext front (plan_node name schema (ProjectNode input numbers))
    → Makes front (Project name (node_name front input) (renamed_of schema (node_schema front input) numbers)) (plan_node name schema (ProjectNode input numbers))
project_again front name schema input numbers next =
    let columns : List Column = node_schema front input in
    let words : List Renamed = renamed_of schema columns numbers in
    let statement : Statement = Project name (node_name front input) words in
    let good = next.good in
    let below : input < length front = good.inputs.before input (inl refl) in
    let named = inputs_by_name front (input ∷ []) next.names good.inputs in
    let same : schema_of front (node_name front input) ≡ columns = name_schema front input next.names below in
    let whole : columns_of front (node_name front input ∷ []) ≡ columns = columns_of_one front (node_name front input) ∙ same in
    let differ : AreDistinct (map name_of columns) = (next.each input below).schema.names in
    let known : list_any (has_no_column columns) (map (λ column. column.old) words) ≡ false = no_unknown columns (map (λ column. column.old) words) (λ n h. let r = In-map (λ (w : Renamed). w.old) n words h in
    let q = renamed_is columns schema numbers r.0 r.1 in
    let is : column_name columns q.2 ≡ n = sym (ap (λ (w : Renamed). w.old) q.4) ∙ r.2 in
    subst (λ (x : List ℕ). has_column columns x ≡ true) is (named_there columns q.2 (good.operator.0 q.2 q.3))) in
    let result : map (renamed_column (schema_of front (node_name front input))) words ≡ schema =
    ap (λ (cs : List Column). map (renamed_column cs) words) same ∙ renamed_again columns schema numbers differ good.operator.0 good.operator.1 in
    let operator : ProjectNode (number_of front (node_name front input)) (map (old_number (schema_of front (node_name front input))) words) ≡ ProjectNode input numbers =
    ap (λ (m : ℕ). ProjectNode m (map (old_number (schema_of front (node_name front input))) words)) (node_number front input next.names below)
    ∙ ap (λ (cs : List Column). ProjectNode input (map (old_number cs) words)) same
    ∙ ap (ProjectNode input) (numbers_again columns schema numbers differ good.operator.0 good.operator.1) in (
      without_fault (draft_of front) statement (record { known = refl; shaped = refl; readable = refl }) (record {
        plan = refl;
        name = good.fresh;
        names = named.known;
        stream = refl;
        columns = none_more (columns_of front (node_name front input ∷ [])) (map (λ column. column.old) words)
            (subst (λ (cs : List Column). list_any (has_no_column cs) (map (λ column. column.old) words) ≡ false) (sym whole) known);
        different = all_differ (result_schema (draft_of front) statement) schema result good.schema;
        kinds = refl;
        classes = refl;
        scheme = refl;
        unused = named.unused;
        once = named.once;
        all_used = refl;
        few = fits_width front statement schema good.room good.schema result;
        last = refl;
      }),
      ap (λ (n : PlanNode). draft_of (front ++ n ∷ [])) (node_same name (map (renamed_column (schema_of front (node_name front input))) words) schema (ProjectNode (number_of front (node_name front input)) (map (old_number (schema_of front (node_name front input))) words)) (ProjectNode input numbers) result operator),
    )

-- ---- a union

kind_itself : (kind : Kind) → kind_eq kind kind ≡ true
kind_itself Int = refl
kind_itself Text = refl

alike_from : (columns others : List Column) → domains_of columns ≡ domains_of others → are_alike columns others ≡ true
alike_from [] [] e = refl
alike_from [] (d ∷ ds) e = absurd cc
alike_from (c ∷ cs) [] e = absurd cc
alike_from (c ∷ cs) (d ∷ ds) e =
    let kind : c.kind ≡ d.kind = cc in
    let rest : domains_of cs ≡ domains_of ds = cc in
    and_from (kind_eq c.kind d.kind) (are_alike cs ds) (ap (kind_eq c.kind) (sym kind) ∙ kind_itself c.kind) (alike_from cs ds rest)

pub union_again : (front : List PlanNode) (name : List ℕ) (schema : List Column) (inputs : List ℕ) → IsNext front (plan_node name schema (UnionNode inputs))
    → Makes front (Union name (map (node_name front) inputs)) (plan_node name schema (UnionNode inputs))
union_again front name schema inputs next =
    let names : List (List ℕ) = map (node_name front) inputs in
    let statement : Statement = Union name names in
    let good = next.good in
    let named = inputs_by_name front inputs next.names good.inputs in
    let same : first_schema front names ≡ schema = first_again front inputs next.names good.inputs.before ∙ sym good.operator.2 in
    let all : map (schema_of front) names ≡ map (node_schema front) inputs = schemas_again front inputs next.names good.inputs.before in
    let kinds : list_any (is_unlike schema) (map (node_schema front) inputs) ≡ false = none_from (is_unlike schema) (map (node_schema front) inputs) (λ s h. let r = In-map (node_schema front) s inputs h in
    not_from_true (are_alike schema s) (alike_from schema s (sym (good.operator.3 r.0 r.1) ∙ ap domains_of r.2))) in
    let unlike : list_any (is_unlike (first_schema front names)) (map (schema_of front) names) ≡ false = rw (same, all) kinds in
    let few : length names ≤ 16 = rw (length-map inputs (node_name front)) good.operator.1 in (
      without_fault (draft_of front) statement (record { known = refl; shaped = refl; readable = refl }) (record {
        plan = refl;
        name = good.fresh;
        names = named.known;
        stream = refl;
        columns = refl;
        different = all_differ (result_schema (draft_of front) statement) schema same good.schema;
        kinds = or_from (list_any (is_unlike (first_schema front names)) (map (schema_of front) names)) false unlike refl;
        classes = refl;
        scheme = refl;
        unused = named.unused;
        once = named.once;
        all_used = refl;
        few = or_from (nat_lt 16 (length names)) (is_too_wide (draft_of front) statement) (le-ltb 16 (length names) few) (fits_width front statement schema good.room good.schema same);
        last = refl;
      }),
      ap (λ (n : PlanNode). draft_of (front ++ n ∷ [])) (node_same name (first_schema front names) schema (UnionNode (map (number_of front) names)) (UnionNode inputs) same (ap UnionNode (nodes_again front inputs next.names good.inputs.before))),
    )
