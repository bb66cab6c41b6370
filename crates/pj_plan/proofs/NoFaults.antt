-- What holds of a statement without fault, and of the nodes that it uses.
use Rattle.std.proofs.Common.{ℕ, ◌<◌, ◌≤◌, ◌≡◌, length, Bool, true, false, cond, ◌||◌, List, [], ◌∷◌, Some, None, map, nat_le, nat_lt, refl, sym, ap, ◌∙◌, subst, inl, inr, append-nil, ◌==◌}
use Rattle.std.specs.List.{list_any}
use Rattle.std.proofs.lemmas.Bool.{or_parts, not-false, eq-eqb, leb-false, ltb-false, false_from_ne_true}
use Rattle.pj_value.specs.Lists.{In, has}
use Rattle.pj_value.proofs.Members.{In-append_left, In-map, any_from, none_at}
use Rattle.pj_shape.specs.declared.columns.Column.{Column}
use Rattle.pj_plan.specs.declared.fault.PlanWhy.{PlanWhy}
use Rattle.pj_plan.specs.declared.fault.PlanWhy.TheVariants.{NotAPlan, NameTwice, UnknownName, UnknownColumn, ColumnTwice, KindsDiffer, BadClass, BadScheme, UsedTwiceOrNever, TooMany, Output as BehindOutput}
use Rattle.pj_plan.specs.declared.node.PlanNode.{PlanNode}
use Rattle.pj_plan.specs.declared.node.Draft.{Draft}
use Rattle.pj_plan.specs.declared.statement.Statement.{Statement}
use Rattle.pj_plan.specs.declared.statement.TestWord.{TestWord}
use Rattle.pj_plan.specs.Words.{repeats, used_names, scope_of, named_columns}
use Rattle.pj_plan.specs.Made.{number_of, schema_of, columns_of, result_schema}
use Rattle.pj_plan.specs.Canonical.{node_name}
use Rattle.pj_plan.specs.Faults.{is_known, is_unknown_name, has_no_stream, has_no_column, has_column, has_unknown_column, has_column_twice, misses_its_kind, has_kinds_that_differ, has_bad_class, is_bad_scheme, is_too_many, is_too_wide, is_behind_output, is_not_a_plan, takes_a_name, uses, output_use, was_used, leaves_unused, has_fault, all_whys, first_fault, fault_of}
use Rattle.pj_plan.specs.Sound.{AreDistinct, all_inputs, IsSoundSchema, IsSoundNode}
use Rattle.pj_plan.proofs.Lists.{repeats_distinct}
use Rattle.pj_plan.proofs.ByName.{number_schema, known_number, known_name}

none_of : (draft : Draft) (statement : Statement) (whys : List PlanWhy) (why : PlanWhy) → first_fault draft statement whys ≡ None → In why whys → has_fault draft statement why ≡ false
none_of draft statement [] why e h = absurd h
none_of draft statement (w ∷ ws) why e h = go (has_fault draft statement w) refl e h (none_of draft statement ws why)
  where
    go : (b : Bool) → has_fault draft statement w ≡ b → cond b (Some w) (first_fault draft statement ws) ≡ None → In why (w ∷ ws) → (first_fault draft statement ws ≡ None → In why ws → has_fault draft statement why ≡ false) → has_fault draft statement why ≡ false
    go true t e h ih = cc
    go false t e (inl q) ih = subst (λ (x : PlanWhy). has_fault draft statement x ≡ false) q t
    go false t e (inr k) ih = ih e k

-- it has none of the faults
pub record HasNone (draft : Draft) (statement : Statement) : Type 0 where
  pub plan : is_not_a_plan draft statement ≡ false
  pub name : takes_a_name draft statement ≡ false
  pub names : list_any (is_unknown_name draft.nodes) (used_names statement) ≡ false
  pub stream : has_no_stream draft.nodes statement ≡ false
  pub columns : has_unknown_column draft statement ≡ false
  pub different : has_column_twice draft statement ≡ false
  pub kinds : has_kinds_that_differ draft statement ≡ false
  pub classes : has_bad_class draft statement ≡ false
  pub scheme : is_bad_scheme draft statement ≡ false
  pub unused : list_any (was_used draft) (used_names statement) ≡ false
  pub once : repeats (used_names statement) ≡ false
  pub all_used : leaves_unused draft statement ≡ false
  pub few : is_too_many draft statement ≡ false
  pub last : is_behind_output draft statement ≡ false

pub has_none : (draft : Draft) (statement : Statement) → fault_of draft statement ≡ None → HasNone draft statement
has_none draft statement e =
    let fault : (why : PlanWhy) → In why all_whys → has_fault draft statement why ≡ false = λ why h. none_of draft statement all_whys why e h in
    let naming = or_parts (list_any (is_unknown_name draft.nodes) (used_names statement)) (has_no_stream draft.nodes statement) (fault UnknownName (inr (inr (inr (inr (inl refl)))))) in
    let using = or_parts (list_any (was_used draft) (used_names statement) || repeats (used_names statement)) (leaves_unused draft statement) (fault UsedTwiceOrNever (inr (inr (inr (inr (inr (inr (inr (inr (inr (inr (inl refl)))))))))))) in
    let both = or_parts (list_any (was_used draft) (used_names statement)) (repeats (used_names statement)) using.0 in
    record {
      plan = fault NotAPlan (inl refl);
      name = fault NameTwice (inr (inr (inr (inl refl))));
      names = naming.0;
      stream = naming.1;
      columns = fault UnknownColumn (inr (inr (inr (inr (inr (inl refl))))));
      different = fault ColumnTwice (inr (inr (inr (inr (inr (inr (inl refl)))))));
      kinds = fault KindsDiffer (inr (inr (inr (inr (inr (inr (inr (inl refl))))))));
      classes = fault BadClass (inr (inr (inr (inr (inr (inr (inr (inr (inl refl)))))))));
      scheme = fault BadScheme (inr (inr (inr (inr (inr (inr (inr (inr (inr (inl refl))))))))));
      unused = both.0;
      once = both.1;
      all_used = using.1;
      few = fault TooMany (inr (inr (inr (inr (inr (inr (inr (inr (inr (inr (inr (inl refl))))))))))));
      last = fault BehindOutput (inr (inr (inr (inr (inr (inr (inr (inr (inr (inr (inr (inr (inl refl)))))))))))));
    }

-- ---- the nodes that it uses

pub name_known : (nodes : List PlanNode) (names : List (List ℕ)) (name : List ℕ) → list_any (is_unknown_name nodes) names ≡ false → In name names → is_known nodes name ≡ true
name_known nodes names name e h = not-false (is_known nodes name) (false_from_ne_true (is_unknown_name nodes name) (λ t. none_at (is_unknown_name nodes) names name e h t))

-- the numbers of the names are below that of the new node, differ, and were not used
pub record AreFree (nodes : List PlanNode) (numbers : List ℕ) : Type 0 where
  pub before : (m : ℕ) → In m numbers → m < length nodes
  pub distinct : AreDistinct numbers
  pub free : (m : ℕ) → In m numbers → ¬ In m (all_inputs nodes)

numbers_distinct : (nodes : List PlanNode) (names : List (List ℕ)) → ((name : List ℕ) → In name names → is_known nodes name ≡ true) → AreDistinct names → AreDistinct (map (number_of nodes) names)
numbers_distinct nodes [] known d = tt
numbers_distinct nodes (n ∷ ns) known d = (
  (λ h. let r = In-map (number_of nodes) (number_of nodes n) ns h in
      let same : r.0 ≡ n = sym (known_name nodes r.0 (known r.0 (inr r.1))) ∙ ap (node_name nodes) r.2 ∙ known_name nodes n (known n (inl refl)) in
      d.0 (subst (λ (x : List ℕ). In x ns) same r.1)),
  numbers_distinct nodes ns (λ x h. known x (inr h)) d.1,
)

used_in : (draft : Draft) (m : ℕ) → In m (all_inputs draft.nodes) → has (uses draft) m ≡ true
used_in draft m h = any_from (λ (k : ℕ). k == m) (uses draft) m (In-append_left m (all_inputs draft.nodes) (output_use draft.output) h) (eq-eqb m m refl)

pub inputs_free : (draft : Draft) (statement : Statement) → HasNone draft statement → AreFree draft.nodes (map (number_of draft.nodes) (used_names statement))
inputs_free draft statement none =
    let nodes : List PlanNode = draft.nodes in
    let names : List (List ℕ) = used_names statement in
    let known : (name : List ℕ) → In name names → is_known nodes name ≡ true = λ name h. name_known nodes names name none.names h in
    record {
      before = λ m h. let r = In-map (number_of nodes) m names h in subst (λ (k : ℕ). k < length nodes) r.2 (known_number nodes r.0 (known r.0 r.1));
      distinct = numbers_distinct nodes names known (repeats_distinct names none.once);
      free = λ m h l. let r = In-map (number_of nodes) m names h in
          none_at (was_used draft) names r.0 none.unused r.1 (used_in draft (number_of nodes r.0) (subst (λ (k : ℕ). In k (all_inputs nodes)) (sym r.2) l));
    }

-- the columns of a node that is known are sound where each node is
pub known_schema : (nodes : List PlanNode) (name : List ℕ) → ((n : ℕ) → n < length nodes → IsSoundNode nodes n) → is_known nodes name ≡ true → IsSoundSchema (schema_of nodes name)
known_schema nodes name each known = subst IsSoundSchema (number_schema nodes name) (each (number_of nodes name) (known_number nodes name known)).schema

pub column_known : (draft : Draft) (statement : Statement) (name : List ℕ) → HasNone draft statement → In name (named_columns statement) → has_column (columns_of draft.nodes (scope_of statement)) name ≡ true
column_known draft statement name none h =
    let columns : List Column = columns_of draft.nodes (scope_of statement) in
    not-false (has_column columns name) (false_from_ne_true (has_no_column columns name) (λ t. none_at (has_no_column columns) (named_columns statement) name none.columns h t))

-- the columns of a single input
pub columns_of_one : (nodes : List PlanNode) (input : List ℕ) → columns_of nodes (input ∷ []) ≡ schema_of nodes input
columns_of_one nodes input = append-nil (schema_of nodes input)

-- the tests of a select are of the kinds of its input's columns
pub tests_suit : (nodes : List PlanNode) (input : List ℕ) (tests : List TestWord) → (list_any (misses_its_kind (columns_of nodes (input ∷ []))) tests || false) ≡ false
    → list_any (misses_its_kind (schema_of nodes input)) tests ≡ false
tests_suit nodes input tests e =
    subst (λ (cs : List Column). list_any (misses_its_kind cs) tests ≡ false) (columns_of_one nodes input)
    (or_parts (list_any (misses_its_kind (columns_of nodes (input ∷ []))) tests) false e).0

-- there is room for the node and its columns
pub has_room : (draft : Draft) (statement : Statement) → is_too_wide draft statement ≡ false → (length draft.nodes < 64) × (length (result_schema draft statement) ≤ 120)
has_room draft statement e =
    let both = or_parts (nat_le 64 (length draft.nodes)) (nat_lt 120 (length (result_schema draft statement))) e in
    (leb-false 64 (length draft.nodes) both.0, ltb-false 120 (length (result_schema draft statement)) both.1)
