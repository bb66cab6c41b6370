-- The names of what is declared can be spelled, a select has few tests, and the columns of a class stand in order.
use Rattle.std.proofs.Common.{ℕ, suc, ◌≤◌, ◌≡◌, ◌⊎◌, length, arith, Bool, true, false, cond, ◌&&◌, ◌||◌, List, [], ◌∷◌, ◌++◌, None, MatchOption, map, nat_le, refl, sym, ap, ◌∙◌, subst, inl, inr}
use Rattle.std.specs.Str.{bytes_eq}
use Rattle.std.specs.List.{list_all}
use Rattle.std.proofs.lemmas.Bool.{and_parts, eqb-true, leb-true, false≢true}
use Rattle.std.proofs.lemmas.List.{length-map}
use Rattle.pj_value.specs.Lists.{In}
use Rattle.pj_value.proofs.Members.{In-append_cases, In-map, In-map_from, In-flat_map, all_at}
use Rattle.pj_shape.specs.declared.columns.Column.{Column}
use Rattle.pj_shape.specs.declared.joins.ClassCol.{ClassCol}
use Rattle.pj_pattern.specs.declared.pattern.Form.TheVariants.{Wild}
use Rattle.pj_pattern.specs.Patterns.{is_wild}
use Rattle.pj_plan.specs.declared.node.Node.{Node}
use Rattle.pj_plan.specs.declared.node.Node.TheVariants.{Stream as StreamNode, Select as SelectNode, Project as ProjectNode, Union as UnionNode, Join as JoinNode, Group as GroupNode}
use Rattle.pj_plan.specs.declared.node.PlanNode.{PlanNode}
use Rattle.pj_plan.specs.declared.node.Draft.{Draft}
use Rattle.pj_plan.specs.declared.statement.Statement.{Statement}
use Rattle.pj_plan.specs.declared.statement.Statement.TheVariants.{Plan, Stream, Scheme, Select, Project, Union, Join, Group, Output, Bad}
use Rattle.pj_plan.specs.declared.statement.ColumnWord.{ColumnWord}
use Rattle.pj_plan.specs.declared.statement.TestWord.{TestWord}
use Rattle.pj_plan.specs.declared.statement.Test.TheVariants.{One}
use Rattle.pj_plan.specs.declared.statement.Renamed.{Renamed}
use Rattle.pj_plan.specs.declared.statement.NamedAgg.{NamedAgg}
use Rattle.pj_plan.specs.Names.{is_name, is_column_name, is_agg, is_class, has_some, are_inputs, is_spelled}
use Rattle.pj_plan.specs.Words.{is_among}
use Rattle.pj_plan.specs.Made.{schema_of, first_schema, stream_column, renamed_column, key_column, agg_column, column_test, class_of, more_schemes, with_scheme, node_of, after}
use Rattle.pj_plan.specs.Canonical.{tests_from}
use Rattle.pj_plan.specs.Faults.{is_known, fault_of}
use Rattle.pj_plan.specs.Sound.{AreDistinct, name_of}
use Rattle.pj_plan.proofs.Lists.{among_in, in_among}
use Rattle.pj_plan.proofs.NoFaults.{HasNone, has_none, name_known, known_schema}
use Rattle.pj_plan.proofs.Drafts.{IsSoundDraft}
use Rattle.pj_plan.proofs.TestsAgain.{met_past}
use Rattle.pj_plan.proofs.ClassesAgain.{IsOrdered, class_ordered}

-- a select has at most 62 tests, and the classes of a join are in order
abbrev pub HasWords : List Column → Node → Type 0
HasWords schema (StreamNode schemes) = Unit {0}
HasWords schema (SelectNode input test) = length (tests_from schema test) ≤ 62
HasWords schema (ProjectNode input columns) = Unit {0}
HasWords schema (UnionNode inputs) = Unit {0}
HasWords schema (JoinNode inputs spec) = (class : List ClassCol) → In class spec.classes → IsOrdered spec.inputs class
HasWords schema (GroupNode input spec) = Unit {0}

-- each column has a column's name
abbrev pub AreNamed : List Column → Type 0
AreNamed columns = (column : Column) → In column columns → is_column_name column.name ≡ true

-- the node can be written down
pub record IsWrittenNode (node : PlanNode) : Type 0 where
  pub name : is_name node.name ≡ true
  pub columns : AreNamed node.schema
  pub words : HasWords node.schema node.node

abbrev pub AreWritten : List PlanNode → Type 0
AreWritten nodes = (node : PlanNode) → In node nodes → IsWrittenNode node

-- what is declared can be written down
pub record IsWrittenDraft (draft : Draft) : Type 0 where
  pub nodes : AreWritten draft.nodes
  pub version : MatchOption draft.version (Unit {0}) (λ version. version ≡ 1)

-- ---- few tests

-- what is left without one item
abbrev Without : {A : Type 0} → A → List A → List A → Type 0
Without {A} x ys zs = (length ys ≡ suc (length zs)) × ((z : A) → In z ys → (z ≡ x → ⊥) → In z zs)

without : {A : Type 0} (x : A) (ys : List A) → In x ys → (zs : List A) × Without x ys zs
without x [] h = absurd h
without {A} x (y ∷ ys) (inl e) = (ys, (refl, (λ z h n. elim h [ inl f ↦ absurd (n (sym f ∙ e)) | inr k ↦ k ])))
without {A} x (y ∷ ys) (inr h) =
    let r = without x ys h in
    (y ∷ r.0, (ap suc r.1.0, (λ z k n. elim k [ inl f ↦ inl f | inr l ↦ inr (r.1.1 z l n) ])))

no_more : {A : Type 0} (xs ys : List A) → AreDistinct xs → ((x : A) → In x xs → In x ys) → length xs ≤ length ys
no_more [] ys d within = omega arith
no_more {A} (x ∷ xs) ys d within =
    let r = without x ys (within x (inl refl)) in
    let few : length xs ≤ length r.0 = no_more xs r.0 d.1 (λ z h. r.1.1 z (within z (inr h)) (λ e. d.0 (subst (λ (w : A). In w xs) e h))) in
    let count : length ys ≡ suc (length r.0) = r.1.0 in
    omega (arith, few, count)

abbrev word_column : TestWord → List ℕ
word_column word = word.column

tested : (words : List TestWord) (column : Column) → is_wild (column_test words column) ≡ false → In column.name (map word_column words)
tested words column e = go (is_among (map word_column words) column.name) refl
  where
    go : (b : Bool) → is_among (map word_column words) column.name ≡ b → In column.name (map word_column words)
    go true t = among_in (map word_column words) column.name t
    go false t =
        let past : column_test words column ≡ Wild = met_past words Wild column.name (λ w h f. false≢true (sym t ∙ in_among (map word_column words) column.name (subst (λ (n : List ℕ). In n (map word_column words)) (sym f) (In-map_from word_column w words h)))) in
        absurd (false≢true (sym e ∙ ap is_wild past))

abbrev tests_made : List TestWord → List Column → List TestWord
tests_made words columns = tests_from columns (map (column_test words) columns)

-- the columns of the tests differ, and each was named
abbrev AreAsked : List TestWord → List Column → Type 0
AreAsked words columns =
    AreDistinct (map word_column (tests_made words columns))
    × ((name : List ℕ) → In name (map word_column (tests_made words columns)) → In name (map name_of columns) × In name (map word_column words))

asked : (words : List TestWord) (columns : List Column) → AreDistinct (map name_of columns) → AreAsked words columns
asked words [] d = (tt, (λ name h. absurd h))
asked words (c ∷ cs) d = go (is_wild (column_test words c)) refl (asked words cs d.1)
  where
    go : (b : Bool) → is_wild (column_test words c) ≡ b → AreAsked words cs
        → AreDistinct (map word_column (cond b (tests_made words cs) (record { column = c.name; test = One (column_test words c) } ∷ tests_made words cs)))
        × ((name : List ℕ) → In name (map word_column (cond b (tests_made words cs) (record { column = c.name; test = One (column_test words c) } ∷ tests_made words cs))) → In name (c.name ∷ map name_of cs) × In name (map word_column words))
    go true e ih = (ih.0, (λ name h. (inr (ih.1 name h).0, (ih.1 name h).1)))
    go false e ih = (
      ((λ h. d.0 (ih.1 c.name h).0), ih.0),
      (λ name h. elim h [
        | inl f ↦ (inl f, subst (λ (n : List ℕ). In n (map word_column words)) f (tested words c e))
        | inr k ↦ (inr (ih.1 name k).0, (ih.1 name k).1)
      ]),
    )

few_tests : (words : List TestWord) (columns : List Column) → AreDistinct (map name_of columns) → length (tests_made words columns) ≤ length words
few_tests words columns d =
    let r = asked words columns d in
    let few : length (map word_column (tests_made words columns)) ≤ length (map word_column words) = no_more (map word_column (tests_made words columns)) (map word_column words) r.0 (λ n h. (r.1 n h).1) in
    omega (arith, few, length-map (tests_made words columns) word_column, length-map words word_column)

-- ---- the node that is declared

known_in : (nodes : List PlanNode) (name : List ℕ) → is_known nodes name ≡ true → (node : PlanNode) × In node nodes × (node.schema ≡ schema_of nodes name)
known_in [] name t = absurd (false≢true t)
known_in (n ∷ ns) name t = go (bytes_eq name n.name) t (known_in ns name)
  where
    go : (b : Bool) → (b || is_known ns name) ≡ true → (is_known ns name ≡ true → (node : PlanNode) × In node ns × (node.schema ≡ schema_of ns name)) → (node : PlanNode) × In node (n ∷ ns) × (node.schema ≡ cond b n.schema (schema_of ns name))
    go true t ih = (n, inl refl, refl)
    go false t ih = let r = ih t in (r.0, inr r.1, r.2)

known_named : (nodes : List PlanNode) (name : List ℕ) → AreWritten nodes → is_known nodes name ≡ true → AreNamed (schema_of nodes name)
known_named nodes name written known = let r = known_in nodes name known in subst AreNamed r.2 (written r.0 r.1).columns

stream_written : (draft : Draft) (name : List ℕ) (columns : List ColumnWord) → is_spelled (Stream name columns) ≡ true → IsWrittenNode (node_of draft name (Stream name columns))
stream_written draft name columns spelled =
    let parts = and_parts (is_name name) (has_some columns && list_all (λ column. is_column_name column.name) columns) spelled in
    let all = (and_parts (has_some columns) (list_all (λ column. is_column_name column.name) columns) parts.1).1 in
    record {
      name = parts.0;
      columns = λ c h. let r = In-map stream_column c columns h in subst (λ (x : Column). is_column_name x.name ≡ true) r.2 (all_at (λ (w : ColumnWord). is_column_name w.name) columns r.0 all r.1);
      words = tt;
    }

select_written : (draft : Draft) (name input : List ℕ) (tests : List TestWord) → is_spelled (Select name input tests) ≡ true → IsSoundDraft draft → AreWritten draft.nodes → HasNone draft (Select name input tests)
    → IsWrittenNode (node_of draft name (Select name input tests))
select_written draft name input tests spelled sound written none =
    let parts = and_parts (is_name name && is_name input) ((has_some tests && nat_le (length tests) 62) && list_all (λ test. is_column_name test.column) tests) spelled in
    let few = and_parts (has_some tests) (nat_le (length tests) 62) (and_parts (has_some tests && nat_le (length tests) 62) (list_all (λ test. is_column_name test.column) tests) parts.1).0 in
    let most : length tests ≤ 62 = leb-true (length tests) 62 few.1 in
    let known : is_known draft.nodes input ≡ true = name_known draft.nodes (input ∷ []) input none.names (inl refl) in
    let made : length (tests_made tests (schema_of draft.nodes input)) ≤ length tests = few_tests tests (schema_of draft.nodes input) (known_schema draft.nodes input sound.each known).names in
    record { name = (and_parts (is_name name) (is_name input) parts.0).0; columns = known_named draft.nodes input written known; words = omega (arith, most, made) }

project_written : (draft : Draft) (name input : List ℕ) (columns : List Renamed) → is_spelled (Project name input columns) ≡ true → IsWrittenNode (node_of draft name (Project name input columns))
project_written draft name input columns spelled =
    let parts = and_parts (is_name name && is_name input) (has_some columns && list_all (λ column. is_column_name column.new && is_column_name column.old) columns) spelled in
    let all = (and_parts (has_some columns) (list_all (λ column. is_column_name column.new && is_column_name column.old) columns) parts.1).1 in
    record {
      name = (and_parts (is_name name) (is_name input) parts.0).0;
      columns = λ c h. let r = In-map (renamed_column (schema_of draft.nodes input)) c columns h in
          subst (λ (x : Column). is_column_name x.name ≡ true) r.2 (and_parts (is_column_name r.0.new) (is_column_name r.0.old) (all_at (λ (w : Renamed). is_column_name w.new && is_column_name w.old) columns r.0 all r.1)).0;
      words = tt;
    }

first_named : (nodes : List PlanNode) (inputs : List (List ℕ)) → AreWritten nodes → ((name : List ℕ) → In name inputs → is_known nodes name ≡ true) → AreNamed (first_schema nodes inputs)
first_named nodes [] written known c h = absurd h
first_named nodes (n ∷ ns) written known c h = known_named nodes n written (known n (inl refl)) c h

union_written : (draft : Draft) (name : List ℕ) (inputs : List (List ℕ)) → is_spelled (Union name inputs) ≡ true → AreWritten draft.nodes → HasNone draft (Union name inputs) → IsWrittenNode (node_of draft name (Union name inputs))
union_written draft name inputs spelled written none = record {
  name = (and_parts (is_name name) (are_inputs inputs) spelled).0;
  columns = first_named draft.nodes inputs written (λ n h. name_known draft.nodes inputs n none.names h);
  words = tt;
}

join_written : (draft : Draft) (name : List ℕ) (inputs : List (List ℕ)) (classes : List (List (List ℕ))) → is_spelled (Join name inputs classes) ≡ true → AreWritten draft.nodes → HasNone draft (Join name inputs classes)
    → IsWrittenNode (node_of draft name (Join name inputs classes))
join_written draft name inputs classes spelled written none =
    let schemas : List (List Column) = map (schema_of draft.nodes) inputs in
    let parts = and_parts (is_name name && are_inputs inputs) (has_some classes && list_all is_class classes) spelled in
    record {
      name = (and_parts (is_name name) (are_inputs inputs) parts.0).0;
      columns = λ c h. let r = In-flat_map (schema_of draft.nodes) c inputs h in known_named draft.nodes r.0 written (name_known draft.nodes inputs r.0 none.names r.1) c r.2;
      words = λ class h. let r = In-map (class_of schemas) class classes h in subst (IsOrdered schemas) r.2 (class_ordered schemas r.0);
    }

group_written : (draft : Draft) (name input : List ℕ) (keys : List (List ℕ)) (aggs : List NamedAgg) → is_spelled (Group name input keys aggs) ≡ true → IsWrittenNode (node_of draft name (Group name input keys aggs))
group_written draft name input keys aggs spelled = record {
  name = (and_parts (is_name name) (is_name input) parts.0).0;
  columns = λ c h. either c (In-append_cases c (map (key_column columns) keys) (map (agg_column columns) aggs) h);
  words = tt;
}
  where
    columns : List Column
    columns = schema_of draft.nodes input

    parts : ((is_name name && is_name input) ≡ true) × (((has_some keys && list_all is_column_name keys) && (has_some aggs && list_all (λ agg. is_column_name agg.name && is_agg agg.agg) aggs)) ≡ true)
    parts = and_parts (is_name name && is_name input) ((has_some keys && list_all is_column_name keys) && (has_some aggs && list_all (λ agg. is_column_name agg.name && is_agg agg.agg) aggs)) spelled

    both : ((has_some keys && list_all is_column_name keys) ≡ true) × ((has_some aggs && list_all (λ agg. is_column_name agg.name && is_agg agg.agg) aggs) ≡ true)
    both = and_parts (has_some keys && list_all is_column_name keys) (has_some aggs && list_all (λ agg. is_column_name agg.name && is_agg agg.agg) aggs) parts.1

    either : (c : Column) → In c (map (key_column (schema_of draft.nodes input)) keys) ⊎ In c (map (agg_column (schema_of draft.nodes input)) aggs) → is_column_name c.name ≡ true
    either c (inl h) =
        let r = In-map (key_column columns) c keys h in
        subst (λ (x : Column). is_column_name x.name ≡ true) r.2 (all_at is_column_name keys r.0 (and_parts (has_some keys) (list_all is_column_name keys) both.0).1 r.1)
    either c (inr h) =
        let r = In-map (agg_column columns) c aggs h in
        let all = (and_parts (has_some aggs) (list_all (λ agg. is_column_name agg.name && is_agg agg.agg) aggs) both.1).1 in
        subst (λ (x : Column). is_column_name x.name ≡ true) r.2 (and_parts (is_column_name r.0.name) (is_agg r.0.agg) (all_at (λ (a : NamedAgg). is_column_name a.name && is_agg a.agg) aggs r.0 all r.1)).0

-- ---- one scheme more

more_words : (schema : List Column) (node : Node) (marks : List Bool) → HasWords schema node → HasWords schema (more_schemes node marks)
more_words schema (StreamNode schemes) marks k = tt
more_words schema (SelectNode input test) marks k = k
more_words schema (ProjectNode input columns) marks k = k
more_words schema (UnionNode inputs) marks k = k
more_words schema (JoinNode inputs spec) marks k = k
more_words schema (GroupNode input spec) marks k = k

marks_written : (name : List ℕ) (marks : List Bool) (nodes : List PlanNode) → AreWritten nodes → AreWritten (with_scheme name marks nodes)
marks_written name marks [] written = written
marks_written name marks (n ∷ ns) written = go (bytes_eq name n.name) (marks_written name marks ns (λ x h. written x (inr h)))
  where
    changed : IsWrittenNode (record { name = n.name; schema = n.schema; node = more_schemes n.node marks })
    changed = let w = written n (inl refl) in record { name = w.name; columns = w.columns; words = more_words n.schema n.node marks w.words }

    go : (b : Bool) → AreWritten (with_scheme name marks ns) → AreWritten (cond b (record { name = n.name; schema = n.schema; node = more_schemes n.node marks } ∷ ns) (n ∷ with_scheme name marks ns))
    go true ih x (inl e) = subst IsWrittenNode e changed
    go true ih x (inr h) = written x (inr h)
    go false ih x (inl e) = written x (inl e)
    go false ih x (inr h) = ih x h

-- ---- statement after statement

with_written : (draft : Draft) (node : PlanNode) → IsWrittenDraft draft → IsWrittenNode node → IsWrittenDraft (record { version = draft.version; nodes = draft.nodes ++ node ∷ []; output = draft.output })
with_written draft node written new = record { nodes = λ x h. go x (In-append_cases x draft.nodes (node ∷ []) h); version = written.version }
  where
    go : (x : PlanNode) → In x draft.nodes ⊎ In x (node ∷ []) → IsWrittenNode x
    go x (inl h) = written.nodes x h
    go x (inr (inl e)) = subst IsWrittenNode e new
    go x (inr (inr h)) = absurd h

pub after_written : (draft : Draft) (statement : Statement) → is_spelled statement ≡ true → IsSoundDraft draft → IsWrittenDraft draft → fault_of draft statement ≡ None → IsWrittenDraft (after draft statement)
after_written draft statement spelled sound written e = go statement spelled (has_none draft statement e)
  where
    go : (s : Statement) → is_spelled s ≡ true → HasNone draft s → IsWrittenDraft (after draft s)
    go (Plan version) p none = record { nodes = written.nodes; version = eqb-true version 1 p }
    go (Stream name columns) p none = with_written draft (node_of draft name (Stream name columns)) written (stream_written draft name columns p)
    go (Scheme stream marks) p none = record { nodes = marks_written stream marks draft.nodes written.nodes; version = written.version }
    go (Select name input tests) p none = with_written draft (node_of draft name (Select name input tests)) written (select_written draft name input tests p sound written.nodes none)
    go (Project name input columns) p none = with_written draft (node_of draft name (Project name input columns)) written (project_written draft name input columns p)
    go (Union name inputs) p none = with_written draft (node_of draft name (Union name inputs)) written (union_written draft name inputs p written.nodes none)
    go (Join name inputs classes) p none = with_written draft (node_of draft name (Join name inputs classes)) written (join_written draft name inputs classes p written.nodes none)
    go (Group name input keys aggs) p none = with_written draft (node_of draft name (Group name input keys aggs)) written (group_written draft name input keys aggs p)
    go (Output name) p none = record { nodes = written.nodes; version = written.version }
    go (Bad why) p none = written
