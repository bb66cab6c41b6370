-- A line can spell each canonical statement of a plan that statements make.
use Rattle.std.proofs.Common.{ℕ, zero, suc, ◌<◌, ◌≤◌, ◌≡◌, ◌⊎◌, length, get_or, arith, Bool, true, ◌&&◌, List, [], ◌∷◌, Some, map, flat_map, drop, slice_get, nat_le, refl, sym, ap, ◌∙◌, subst, inl, inr}
use Rattle.std.specs.List.{list_all}
use Rattle.std.proofs.lemmas.Bool.{and_from, le-leb, eq-eqb}
use Rattle.std.proofs.lemmas.List.{length-map}
use Rattle.std.proofs.lemmas.List.Folds.{flat_map-map}
use Rattle.std.proofs.lemmas.Option.{slice_get_within, get_or_from_slice_get}
use Rattle.pj_value.specs.Lists.{In}
use Rattle.pj_value.proofs.Members.{In-append_cases, In-map, In-flat_map, all_from, in-place}
use Rattle.pj_shape.specs.declared.columns.Column.{Column}
use Rattle.pj_shape.specs.declared.joins.ClassCol.{ClassCol}
use Rattle.pj_shape.specs.declared.groups.Agg.{Agg}
use Rattle.pj_shape.specs.declared.groups.Agg.TheVariants.{Count as CountAgg, Sum as SumAgg, Min as MinAgg, Max as MaxAgg}
use Rattle.pj_shape.specs.Columns.{domains_of}
use Rattle.pj_shape.proofs.DomainsOf.{domains_length}
use Rattle.pj_pattern.specs.declared.pattern.Form.{Form}
use Rattle.pj_pattern.proofs.Fitting.{punct_length}
use Rattle.pj_plan.specs.declared.node.Node.{Node}
use Rattle.pj_plan.specs.declared.node.Node.TheVariants.{Stream as StreamNode, Select as SelectNode, Project as ProjectNode, Union as UnionNode, Join as JoinNode, Group as GroupNode}
use Rattle.pj_plan.specs.declared.node.PlanNode.{PlanNode}
use Rattle.pj_plan.specs.declared.statement.Statement.{Statement}
use Rattle.pj_plan.specs.declared.statement.Statement.TheVariants.{Scheme, Output}
use Rattle.pj_plan.specs.declared.statement.ColumnWord.{ColumnWord}
use Rattle.pj_plan.specs.declared.statement.TestWord.{TestWord}
use Rattle.pj_plan.specs.declared.statement.Renamed.{Renamed}
use Rattle.pj_plan.specs.declared.statement.NamedAgg.{NamedAgg}
use Rattle.pj_plan.specs.Names.{is_name, is_column_name, is_agg, is_class, has_some, are_inputs, is_spelled}
use Rattle.pj_plan.specs.Nodes.{inputs_of}
use Rattle.pj_plan.specs.Canonical.{no_column, no_node, node_name, node_schema, column_name, column_word, tests_from, first_test, or_first, tests_of, renamed_of, class_words, agg_word, aggs_of, declaration, scheme_statements, node_statements, last_name, statements_of, class_word}
use Rattle.pj_plan.specs.Sound.{name_of, domain_at, agg_domain_at, IsSoundScheme, IsSoundAgg, IsSoundOperator, IsSoundNode, IsSoundPlan}
use Rattle.pj_plan.specs.Laws.{CanonicalIsSpelled}
use Rattle.pj_plan.proofs.Lists.{place_of}
use Rattle.pj_plan.proofs.Classes.{joined}
use Rattle.pj_plan.proofs.TestsAgain.{IsTestOf, in_tests}
use Rattle.pj_plan.proofs.ClassesAgain.{words_there}
use Rattle.pj_plan.proofs.ColumnsAgain.{renamed_is, agg_is, domains_behind}
use Rattle.pj_plan.proofs.Written.{AreNamed, IsWrittenNode, AreWritten}
use Rattle.pj_plan.proofs.ReadAgain.{last_at, IsMade, is_made}

has_some_from : {A : Type 0} (xs : List A) → 1 ≤ length xs → has_some xs ≡ true
has_some_from [] n = absurd (omega (arith, n))
has_some_from (x ∷ xs) n = refl

-- an input of a node: its name and its columns can be spelled, and it has columns
record IsInput (nodes : List PlanNode) (m : ℕ) : Type 0 where
  name : is_name (node_name nodes m) ≡ true
  columns : AreNamed (node_schema nodes m)

named_at : (columns : List Column) (n : ℕ) → AreNamed columns → n < length columns → is_column_name (column_name columns n) ≡ true
named_at columns n named lt = named (get_or columns n no_column) (in-place columns no_column n lt)

inputs_spelled : (nodes : List PlanNode) (inputs : List ℕ) → ((m : ℕ) → In m inputs → IsInput nodes m) → 2 ≤ length inputs → are_inputs (map (node_name nodes) inputs) ≡ true
inputs_spelled nodes inputs spelled two =
    and_from (nat_le 2 (length (map (node_name nodes) inputs))) (list_all is_name (map (node_name nodes) inputs)) (le-leb 2 (length (map (node_name nodes) inputs)) (rw (length-map inputs (node_name nodes)) two))
    (all_from is_name (map (node_name nodes) inputs) (λ n h. let r = In-map (node_name nodes) n inputs h in subst (λ (x : List ℕ). is_name x ≡ true) r.2 (spelled r.0 r.1).name))

-- ---- streams and schemes

stream_spelled : (name : List ℕ) (schema : List Column) → is_name name ≡ true → AreNamed schema → 1 ≤ length schema → (is_name name && (has_some (map column_word schema) && list_all (λ column. is_column_name column.name) (map column_word schema))) ≡ true
stream_spelled name schema named columns some =
    and_from (is_name name) (has_some (map column_word schema) && list_all (λ column. is_column_name column.name) (map column_word schema)) named
    (and_from (has_some (map column_word schema)) (list_all (λ column. is_column_name column.name) (map column_word schema)) (has_some_from (map column_word schema) (rw (length-map schema column_word) some))
    (all_from (λ (w : ColumnWord). is_column_name w.name) (map column_word schema) (λ w h. let r = In-map column_word w schema h in subst (λ (x : ColumnWord). is_column_name x.name ≡ true) r.2 (columns r.0 r.1))))

scheme_spelled : (name : List ℕ) (schema : List Column) (marks : List Bool) → is_name name ≡ true → 1 ≤ length schema → IsSoundScheme schema marks → is_spelled (Scheme name marks) ≡ true
scheme_spelled name schema marks named some sound = let long : length marks ≡ length schema = sound.0 in and_from (is_name name) (has_some marks) named (has_some_from marks (omega (arith, some, long)))

-- ---- a select

one_or_more : (columns : List Column) (patterns : List Form) → 1 ≤ length columns → 1 ≤ length patterns → has_some (tests_of columns patterns) ≡ true
one_or_more columns patterns some all = go (tests_from columns patterns) (first columns patterns some all)
  where
    first : (cs : List Column) (ps : List Form) → 1 ≤ length cs → 1 ≤ length ps → has_some (first_test cs ps) ≡ true
    first [] ps n m = absurd (omega (arith, n))
    first (c ∷ cs) [] n m = absurd (omega (arith, m))
    first (c ∷ cs) (p ∷ ps) n m = refl

    go : (xs : List TestWord) → has_some (first_test columns patterns) ≡ true → has_some (or_first xs (first_test columns patterns)) ≡ true
    go [] t = t
    go (x ∷ xs) t = refl

at_most : (columns : List Column) (patterns : List Form) → length (tests_from columns patterns) ≤ 62 → length (tests_of columns patterns) ≤ 62
at_most columns patterns few = go (tests_from columns patterns) few (first columns patterns)
  where
    first : (cs : List Column) (ps : List Form) → length (first_test cs ps) ≤ 1
    first [] ps = omega arith
    first (c ∷ cs) [] = omega arith
    first (c ∷ cs) (p ∷ ps) = omega arith

    go : (xs : List TestWord) → length xs ≤ 62 → length (first_test columns patterns) ≤ 1 → length (or_first xs (first_test columns patterns)) ≤ 62
    go [] n one = omega (arith, one)
    go (x ∷ xs) n one = n

test_named : (columns : List Column) (word : TestWord) → AreNamed columns → IsTestOf columns word → is_column_name word.column ≡ true
test_named columns word named t = subst (λ (w : TestWord). is_column_name w.column ≡ true) (sym t.is) (named t.column t.there)

-- ---- a node

declared_spelled : (nodes : List PlanNode) (name : List ℕ) (schema : List Column) (node : Node) → IsWrittenNode (record { name = name; schema = schema; node = node }) → 1 ≤ length schema → IsSoundOperator nodes schema node → ((m : ℕ) → In m (inputs_of node) → IsInput nodes m)
    → is_spelled (declaration nodes (record { name = name; schema = schema; node = node }) node) ≡ true
declared_spelled nodes name schema (StreamNode schemes) written some sound input = stream_spelled name schema written.name written.columns some
declared_spelled nodes name schema (SelectNode m test) written some sound input =
    let tests : List TestWord = tests_of schema test in
    let long : 1 ≤ length test = omega (arith, some, punct_length (domains_of schema) test sound.1, domains_length schema) in
    and_from (is_name name && is_name (node_name nodes m)) ((has_some tests && nat_le (length tests) 62) && list_all (λ test. is_column_name test.column) tests)
    (and_from (is_name name) (is_name (node_name nodes m)) written.name (input m (inl refl)).name)
    (and_from (has_some tests && nat_le (length tests) 62) (list_all (λ test. is_column_name test.column) tests)
    (and_from (has_some tests) (nat_le (length tests) 62) (one_or_more schema test some long) (le-leb (length tests) 62 (at_most schema test written.words)))
    (all_from (λ (w : TestWord). is_column_name w.column) tests (λ w h. test_named schema w written.columns (in_tests schema test w sound.1 h))))
declared_spelled nodes name schema (ProjectNode m numbers) written some sound input =
    let columns : List Column = node_schema nodes m in
    let words : List Renamed = renamed_of schema columns numbers in
    and_from (is_name name && is_name (node_name nodes m)) (has_some words && list_all (λ column. is_column_name column.new && is_column_name column.old) words)
    (and_from (is_name name) (is_name (node_name nodes m)) written.name (input m (inl refl)).name)
    (and_from (has_some words) (list_all (λ column. is_column_name column.new && is_column_name column.old) words) (more schema numbers some sound.1)
    (all_from (λ (w : Renamed). is_column_name w.new && is_column_name w.old) words (λ w h. let r = renamed_is columns schema numbers w h in
    subst (λ (x : Renamed). (is_column_name x.new && is_column_name x.old) ≡ true) (sym r.4)
    (and_from (is_column_name r.0.name) (is_column_name (column_name columns r.2)) (written.columns r.0 r.1) (named_at columns r.2 (input m (inl refl)).columns (sound.0 r.2 r.3))))))
  where
    more : (cs : List Column) (ns : List ℕ) → 1 ≤ length cs → domains_of cs ≡ map (domain_at (node_schema nodes m)) ns → has_some (renamed_of cs (node_schema nodes m) ns) ≡ true
    more [] ns n e = absurd (omega (arith, n))
    more (c ∷ cs) [] n e = absurd cc
    more (c ∷ cs) (k ∷ ks) n e = refl
declared_spelled nodes name schema (UnionNode inputs) written some sound input =
    and_from (is_name name) (are_inputs (map (node_name nodes) inputs)) written.name (inputs_spelled nodes inputs input sound.0)
declared_spelled nodes name schema (JoinNode inputs spec) written some sound input =
    let classes : List (List (List ℕ)) = map (class_words spec.inputs) spec.classes in
    let two : 2 ≤ length spec.inputs = sound.0.few_inputs.0 in
    and_from (is_name name && are_inputs (map (node_name nodes) inputs)) (has_some classes && list_all is_class classes)
    (and_from (is_name name) (are_inputs (map (node_name nodes) inputs)) written.name (inputs_spelled nodes inputs input (omega (arith, two, ap length sound.1, length-map inputs (node_schema nodes)))))
    (and_from (has_some classes) (list_all is_class classes) (has_some_from classes (rw (length-map spec.classes (class_words spec.inputs)) sound.0.few_classes.0))
    (all_from is_class classes (λ ws h. let r = In-map (class_words spec.inputs) ws spec.classes h in subst (λ (x : List (List ℕ)). is_class x ≡ true) r.2 (class_spelled r.0 r.1))))
  where
    all : joined spec.inputs ≡ schema
    all = ap joined sound.1 ∙ flat_map-map (λ s. s) (node_schema nodes) inputs ∙ sym sound.2

    word_named : (class : List ClassCol) → In class spec.classes → (w : List ℕ) → In w (class_words spec.inputs class) → is_column_name w ≡ true
    word_named class h w k =
        let r = In-map name_of w (joined spec.inputs) (words_there spec.inputs class w (written.words class h) k) in
        subst (λ (x : List ℕ). is_column_name x ≡ true) r.2 (written.columns r.0 (subst (λ (cs : List Column). In r.0 cs) all r.1))

    class_spelled : (class : List ClassCol) → In class spec.classes → is_class (class_words spec.inputs class) ≡ true
    class_spelled class h =
        and_from (nat_le 2 (length (class_words spec.inputs class))) (list_all is_column_name (class_words spec.inputs class))
        (le-leb 2 (length (class_words spec.inputs class)) (rw (length-map class (class_word spec.inputs)) (sound.0.sound_classes class h).several))
        (all_from is_column_name (class_words spec.inputs class) (word_named class h))
declared_spelled nodes name schema (GroupNode m spec) written some sound input =
    and_from (is_name name && is_name (node_name nodes m)) ((has_some keys && list_all is_column_name keys) && (has_some aggs && list_all (λ agg. is_column_name agg.name && is_agg agg.agg) aggs))
    (and_from (is_name name) (is_name (node_name nodes m)) written.name (input m (inl refl)).name)
    (and_from (has_some keys && list_all is_column_name keys) (has_some aggs && list_all (λ agg. is_column_name agg.name && is_agg agg.agg) aggs)
    (and_from (has_some keys) (list_all is_column_name keys) (has_some_from keys (rw (length-map spec.keys (column_name columns)) sound.0.some_keys))
    (all_from is_column_name keys (λ n h. let r = In-map (column_name columns) n spec.keys h in subst (λ (x : List ℕ). is_column_name x ≡ true) r.2 (named_at columns r.0 named (sound.0.keys_there r.0 r.1)))))
    (and_from (has_some aggs) (list_all (λ agg. is_column_name agg.name && is_agg agg.agg) aggs) (more news spec.aggs sound.0.some_aggs (domains_behind columns schema spec.keys (map (agg_domain_at columns) spec.aggs) sound.2))
    (all_from (λ (w : NamedAgg). is_column_name w.name && is_agg w.agg) aggs (λ w h. let r = agg_is columns news spec.aggs w h in
    subst (λ (x : NamedAgg). (is_column_name x.name && is_agg x.agg) ≡ true) (sym r.4)
    (and_from (is_column_name r.0.name) (is_agg (agg_word columns r.2)) (written.columns r.0 (behind (length spec.keys) schema r.0 r.1)) (agg_spelled r.2 (sound.0.sound_aggs r.2 r.3)))))))
  where
    columns : List Column
    columns = node_schema nodes m

    news : List Column
    news = drop (length spec.keys) schema

    keys : List (List ℕ)
    keys = map (column_name (node_schema nodes m)) spec.keys

    aggs : List NamedAgg
    aggs = aggs_of (drop (length spec.keys) schema) (node_schema nodes m) spec.aggs

    named : AreNamed (node_schema nodes m)
    named = (input m (inl refl)).columns

    more : (ns : List Column) (found : List Agg) → 1 ≤ length found → domains_of ns ≡ map (agg_domain_at (node_schema nodes m)) found → has_some (aggs_of ns (node_schema nodes m) found) ≡ true
    more [] [] n e = absurd (omega (arith, n))
    more [] (a ∷ rest) n e = absurd cc
    more (c ∷ cs) [] n e = absurd cc
    more (c ∷ cs) (a ∷ rest) n e = refl

    behind : (k : ℕ) (cs : List Column) (c : Column) → In c (drop k cs) → In c cs
    behind zero cs c h = h
    behind (suc k) [] c h = h
    behind (suc k) (x ∷ cs) c h = inr (behind k cs c h)

    agg_spelled : (agg : Agg) → IsSoundAgg (node_schema nodes m) agg → is_agg (agg_word (node_schema nodes m) agg) ≡ true
    agg_spelled CountAgg s = refl
    agg_spelled (SumAgg column) s = named_at (node_schema nodes m) column (input m (inl refl)).columns s.0
    agg_spelled (MinAgg column) s = named_at (node_schema nodes m) column (input m (inl refl)).columns s
    agg_spelled (MaxAgg column) s = named_at (node_schema nodes m) column (input m (inl refl)).columns s

schemes_spelled : (nodes : List PlanNode) (name : List ℕ) (schema : List Column) (node : Node) (statement : Statement) → is_name name ≡ true → 1 ≤ length schema → IsSoundOperator nodes schema node → In statement (scheme_statements name node) → is_spelled statement ≡ true
schemes_spelled nodes name schema (StreamNode schemes) statement named some sound h =
    let r = In-map (Scheme name) statement schemes h in
    subst (λ (s : Statement). is_spelled s ≡ true) r.2 (scheme_spelled name schema r.0 named some (sound.1 r.0 r.1))
schemes_spelled nodes name schema (SelectNode input test) statement named some sound h = absurd h
schemes_spelled nodes name schema (ProjectNode input columns) statement named some sound h = absurd h
schemes_spelled nodes name schema (UnionNode inputs) statement named some sound h = absurd h
schemes_spelled nodes name schema (JoinNode inputs spec) statement named some sound h = absurd h
schemes_spelled nodes name schema (GroupNode input spec) statement named some sound h = absurd h

-- ---- the whole plan

node_spelled : (nodes : List PlanNode) (node : PlanNode) (statement : Statement) → IsSoundPlan nodes → AreWritten nodes → In node nodes → In statement (node_statements nodes node) → is_spelled statement ≡ true
node_spelled nodes node statement plan written h k = go k
  where
    place : (n : ℕ) × (slice_get nodes n ≡ Some node)
    place = place_of node nodes h

    here : get_or nodes place.0 no_node ≡ node
    here = get_or_from_slice_get nodes place.0 node no_node place.1

    below : place.0 < length nodes
    below = slice_get_within nodes place.0 node place.1

    own : IsSoundNode nodes place.0
    own = plan.each place.0 below

    some : 1 ≤ length node.schema
    some = subst (λ (x : PlanNode). 1 ≤ length x.schema) here own.schema.some

    sound : IsSoundOperator nodes node.schema node.node
    sound = subst (λ (x : PlanNode). IsSoundOperator nodes x.schema x.node) here own.operator

    input : (m : ℕ) → In m (inputs_of node.node) → IsInput nodes m
    input m l =
        let lt : m < place.0 = own.before m (subst (λ (x : PlanNode). In m (inputs_of x.node)) (sym here) l) in
        let w = written (get_or nodes m no_node) (in-place nodes no_node m (omega (arith, lt, below))) in
        record { name = w.name; columns = w.columns }

    go : In statement (node_statements nodes node) → is_spelled statement ≡ true
    go (inl e) = subst (λ (s : Statement). is_spelled s ≡ true) e (declared_spelled nodes node.name node.schema node.node (written node h) some sound input)
    go (inr l) = schemes_spelled nodes node.name node.schema node.node statement (written node h).name some sound l

last_spelled : (nodes : List PlanNode) → 1 ≤ length nodes → AreWritten nodes → is_name (last_name nodes) ≡ true
last_spelled nodes some written = go (length nodes) refl
  where
    go : (n : ℕ) → length nodes ≡ n → is_name (last_name nodes) ≡ true
    go zero e = absurd (omega (arith, e, some))
    go (suc k) e = subst (λ (n : List ℕ). is_name n ≡ true) (sym (last_at nodes k e)) (written (get_or nodes k no_node) (in-place nodes no_node k (omega (arith, e)))).name

pub canonical_is_spelled : CanonicalIsSpelled
canonical_is_spelled statements end plan spelled is = all_from is_spelled (statements_of plan) each
  where
    made : IsMade plan
    made = is_made statements end plan spelled is

    nodes : List PlanNode
    nodes = plan.nodes

    inner : (s : Statement) → In s (flat_map (node_statements plan.nodes) plan.nodes) ⊎ In s (Output (last_name plan.nodes) ∷ []) → is_spelled s ≡ true
    inner s (inl h) = let r = In-flat_map (node_statements plan.nodes) s plan.nodes h in node_spelled plan.nodes r.0 s made.sound made.written r.1 r.2
    inner s (inr (inl e)) = subst (λ (x : Statement). is_spelled x ≡ true) e (last_spelled plan.nodes made.sound.some made.written)
    inner s (inr (inr h)) = absurd h

    each : (s : Statement) → In s (statements_of plan) → is_spelled s ≡ true
    each s (inl e) = subst (λ (x : Statement). is_spelled x ≡ true) e (eq-eqb plan.version 1 made.version)
    each s (inr h) = inner s (In-append_cases s (flat_map (node_statements plan.nodes) plan.nodes) (Output (last_name plan.nodes) ∷ []) h)
