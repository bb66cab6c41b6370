-- Names of nodes and columns lead back to their numbers, where all names differ.
use Rattle.std.proofs.Common.{ℕ, zero, suc, ◌<◌, ◌≡◌, length, get_or, arith, Bool, true, cond, List, [], ◌∷◌, ◌++◌, map, flat_map, refl, sym, ap, ◌∙◌, subst, inl, inr}
use Rattle.std.specs.Str.{bytes_eq}
use Rattle.pj_value.specs.Lists.{In}
use Rattle.pj_value.proofs.Members.{In-map, In-map_from, any_from, in-place}
use Rattle.pj_value.proofs.Bytes.{other_bytes}
use Rattle.pj_shape.specs.declared.columns.Column.{Column}
use Rattle.pj_plan.specs.declared.node.PlanNode.{PlanNode}
use Rattle.pj_plan.specs.Made.{number_of, schema_of, columns_of, first_schema, column_number, column_kind}
use Rattle.pj_plan.specs.Canonical.{no_column, no_node, node_name, node_schema, column_name}
use Rattle.pj_plan.specs.Faults.{has_column, is_known}
use Rattle.pj_plan.specs.Sound.{AreDistinct, name_of, name_of_node, domain_at, columns_of_first}
use Rattle.pj_plan.proofs.Lists.{same_bytes}
use Rattle.pj_plan.proofs.ByName.{there_column, number_kind, number_schema}

-- ---- columns

pub named_there : (columns : List Column) (i : ℕ) → i < length columns → has_column columns (column_name columns i) ≡ true
named_there columns i lt = there_column columns (get_or columns i no_column) (in-place columns no_column i lt)

pub name_number : (columns : List Column) (i : ℕ) → AreDistinct (map name_of columns) → i < length columns → column_number columns (column_name columns i) ≡ i
name_number [] i d lt = absurd (omega (arith, lt))
name_number (c ∷ cs) zero d lt = ap (λ (b : Bool). cond b 0 (suc (column_number cs c.name))) (same_bytes c.name c.name refl)
name_number (c ∷ cs) (suc i) d lt =
    let below : i < length cs = omega (arith, lt) in
    ap (λ (b : Bool). cond b 0 (suc (column_number cs (column_name cs i)))) (other_bytes (column_name cs i) c.name (λ e. d.0 (subst (λ (n : List ℕ). In n (map name_of cs)) e (In-map_from name_of (get_or cs i no_column) cs (in-place cs no_column i below)))))
    ∙ ap suc (name_number cs i d.1 below)

pub name_kind : (columns : List Column) (i : ℕ) → AreDistinct (map name_of columns) → i < length columns → column_kind columns (column_name columns i) ≡ domain_at columns i
name_kind columns i d lt = sym (number_kind columns (column_name columns i)) ∙ ap (domain_at columns) (name_number columns i d lt)

-- ---- nodes

pub node_number : (nodes : List PlanNode) (m : ℕ) → AreDistinct (map name_of_node nodes) → m < length nodes → number_of nodes (node_name nodes m) ≡ m
node_number [] m d lt = absurd (omega (arith, lt))
node_number (n ∷ ns) zero d lt = ap (λ (b : Bool). cond b 0 (suc (number_of ns n.name))) (same_bytes n.name n.name refl)
node_number (n ∷ ns) (suc m) d lt =
    let below : m < length ns = omega (arith, lt) in
    ap (λ (b : Bool). cond b 0 (suc (number_of ns (node_name ns m)))) (other_bytes (node_name ns m) n.name (λ e. d.0 (subst (λ (x : List ℕ). In x (map name_of_node ns)) e (In-map_from name_of_node (get_or ns m no_node) ns (in-place ns no_node m below)))))
    ∙ ap suc (node_number ns m d.1 below)

pub name_schema : (nodes : List PlanNode) (m : ℕ) → AreDistinct (map name_of_node nodes) → m < length nodes → schema_of nodes (node_name nodes m) ≡ node_schema nodes m
name_schema nodes m d lt = sym (number_schema nodes (node_name nodes m)) ∙ ap (node_schema nodes) (node_number nodes m d lt)

pub name_known_at : (nodes : List PlanNode) (m : ℕ) → m < length nodes → is_known nodes (node_name nodes m) ≡ true
name_known_at nodes m lt = any_from (λ (node : PlanNode). bytes_eq (node_name nodes m) node.name) nodes (get_or nodes m no_node) (in-place nodes no_node m lt) (same_bytes (node_name nodes m) (node_name nodes m) refl)

-- ---- lists of nodes

pub numbers_again : (nodes : List PlanNode) (ms : List ℕ) → AreDistinct (map name_of_node nodes) → ((m : ℕ) → In m ms → m < length nodes) → map (number_of nodes) (map (node_name nodes) ms) ≡ ms
numbers_again nodes [] d before = refl
numbers_again nodes (m ∷ ms) d before =
    ap (λ (k : ℕ). k ∷ map (number_of nodes) (map (node_name nodes) ms)) (node_number nodes m d (before m (inl refl)))
    ∙ ap (λ (ks : List ℕ). m ∷ ks) (numbers_again nodes ms d (λ k h. before k (inr h)))

pub schemas_again : (nodes : List PlanNode) (ms : List ℕ) → AreDistinct (map name_of_node nodes) → ((m : ℕ) → In m ms → m < length nodes) → map (schema_of nodes) (map (node_name nodes) ms) ≡ map (node_schema nodes) ms
schemas_again nodes [] d before = refl
schemas_again nodes (m ∷ ms) d before =
    ap (λ (s : List Column). s ∷ map (schema_of nodes) (map (node_name nodes) ms)) (name_schema nodes m d (before m (inl refl)))
    ∙ ap (λ (ss : List (List Column)). node_schema nodes m ∷ ss) (schemas_again nodes ms d (λ k h. before k (inr h)))

pub columns_again : (nodes : List PlanNode) (ms : List ℕ) → AreDistinct (map name_of_node nodes) → ((m : ℕ) → In m ms → m < length nodes) → columns_of nodes (map (node_name nodes) ms) ≡ flat_map (node_schema nodes) ms
columns_again nodes [] d before = refl
columns_again nodes (m ∷ ms) d before =
    ap (λ (s : List Column). s ++ columns_of nodes (map (node_name nodes) ms)) (name_schema nodes m d (before m (inl refl)))
    ∙ ap (λ (cs : List Column). node_schema nodes m ++ cs) (columns_again nodes ms d (λ k h. before k (inr h)))

pub first_again : (nodes : List PlanNode) (ms : List ℕ) → AreDistinct (map name_of_node nodes) → ((m : ℕ) → In m ms → m < length nodes) → first_schema nodes (map (node_name nodes) ms) ≡ columns_of_first nodes ms
first_again nodes [] d before = refl
first_again nodes (m ∷ ms) d before = name_schema nodes m d (before m (inl refl))

pub names_distinct : (nodes : List PlanNode) (ms : List ℕ) → AreDistinct (map name_of_node nodes) → ((m : ℕ) → In m ms → m < length nodes) → AreDistinct ms → AreDistinct (map (node_name nodes) ms)
names_distinct nodes [] d before apart = tt
names_distinct nodes (m ∷ ms) d before apart = (
  (λ h. let r = In-map (node_name nodes) (node_name nodes m) ms h in
      let same : r.0 ≡ m = sym (node_number nodes r.0 d (before r.0 (inr r.1))) ∙ ap (number_of nodes) r.2 ∙ node_number nodes m d (before m (inl refl)) in
      apart.0 (subst (λ (k : ℕ). In k ms) same r.1)),
  names_distinct nodes ms d (λ k h. before k (inr h)) apart.1,
)
