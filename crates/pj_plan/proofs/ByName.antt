-- Columns and nodes by their names and by their numbers.
use Rattle.std.proofs.Common.{ℕ, zero, suc, ◌<◌, ◌≡◌, length, get_or, arith, Bool, true, false, cond, ◌||◌, List, [], ◌∷◌, ◌++◌, map, refl, sym, ap, ◌∙◌, subst, inl, inr}
use Rattle.std.specs.Str.{bytes_eq}
use Rattle.std.proofs.lemmas.Bool.{false≢true}
use Rattle.pj_value.specs.Lists.{In}
use Rattle.pj_value.proofs.Members.{In-map_from, any_from}
use Rattle.pj_value.proofs.Bytes.{bytes_same, other_bytes}
use Rattle.pj_shape.specs.declared.columns.Column.{Column}
use Rattle.pj_plan.specs.declared.node.PlanNode.{PlanNode}
use Rattle.pj_plan.specs.Words.{is_among, repeats}
use Rattle.pj_plan.specs.Made.{number_of, schema_of, column_number, column_kind}
use Rattle.pj_plan.specs.Canonical.{no_node, node_name, node_schema, column_name}
use Rattle.pj_plan.specs.Faults.{has_column, share_a_name, is_known}
use Rattle.pj_plan.specs.Sound.{AreDistinct, name_of, domain_at}
use Rattle.pj_plan.proofs.Lists.{same_bytes, repeats_distinct, distinct_repeats}

-- ---- columns

pub there_column : (columns : List Column) (column : Column) → In column columns → has_column columns column.name ≡ true
there_column columns column h = any_from (λ (c : Column). bytes_eq column.name c.name) columns column h (same_bytes column.name column.name refl)

pub has_among : (columns : List Column) (name : List ℕ) → has_column columns name ≡ is_among (map name_of columns) name
has_among [] name = refl
has_among (c ∷ cs) name = ap (λ (b : Bool). bytes_eq name c.name || b) (has_among cs name)

share_repeats : (columns : List Column) → share_a_name columns ≡ repeats (map name_of columns)
share_repeats [] = refl
share_repeats (c ∷ cs) = ap (λ (b : Bool). b || share_a_name cs) (has_among cs c.name) ∙ ap (λ (b : Bool). is_among (map name_of cs) c.name || b) (share_repeats cs)

pub names_differ : (columns : List Column) → share_a_name columns ≡ false → AreDistinct (map name_of columns)
names_differ columns e = repeats_distinct (map name_of columns) (sym (share_repeats columns) ∙ e)

pub none_shared : (columns : List Column) → AreDistinct (map name_of columns) → share_a_name columns ≡ false
none_shared columns d = share_repeats columns ∙ distinct_repeats (map name_of columns) d

-- the number of a name is that of a column where there is one
pub number_there : (columns : List Column) (name : List ℕ) → has_column columns name ≡ true → column_number columns name < length columns
number_there [] name t = absurd (false≢true t)
number_there (c ∷ cs) name t = go (bytes_eq name c.name) t (number_there cs name)
  where
    go : (b : Bool) → (b || has_column cs name) ≡ true → (has_column cs name ≡ true → column_number cs name < length cs) → cond b 0 (suc (column_number cs name)) < suc (length cs)
    go true t ih = omega arith
    go false t ih = let h : column_number cs name < length cs = ih t in omega (arith, h)

-- and the column of that number has the name
pub number_name : (columns : List Column) (name : List ℕ) → has_column columns name ≡ true → column_name columns (column_number columns name) ≡ name
number_name [] name t = absurd (false≢true t)
number_name (c ∷ cs) name t = go (bytes_eq name c.name) refl t (number_name cs name)
  where
    go : (b : Bool) → bytes_eq name c.name ≡ b → (b || has_column cs name) ≡ true → (has_column cs name ≡ true → column_name cs (column_number cs name) ≡ name) → column_name (c ∷ cs) (cond b 0 (suc (column_number cs name))) ≡ name
    go true e t ih = sym (bytes_same name c.name e)
    go false e t ih = ih t

-- the kind by the name is that by the number
pub number_kind : (columns : List Column) (name : List ℕ) → domain_at columns (column_number columns name) ≡ column_kind columns name
number_kind [] name = refl
number_kind (c ∷ cs) name = go (bytes_eq name c.name) (number_kind cs name)
  where
    go : (b : Bool) → domain_at cs (column_number cs name) ≡ column_kind cs name → domain_at (c ∷ cs) (cond b 0 (suc (column_number cs name))) ≡ cond b c.kind (column_kind cs name)
    go true ih = refl
    go false ih = ih

-- where all names differ, the kind of a column's name is its kind
pub kind_of_column : (columns : List Column) (column : Column) → AreDistinct (map name_of columns) → In column columns → column_kind columns column.name ≡ column.kind
kind_of_column [] column d h = absurd h
kind_of_column (c ∷ cs) column d (inl e) =
    ap (λ (b : Bool). cond b c.kind (column_kind cs column.name)) (same_bytes column.name c.name (sym (ap name_of e))) ∙ ap (λ (x : Column). x.kind) e
kind_of_column (c ∷ cs) column d (inr h) =
    ap (λ (b : Bool). cond b c.kind (column_kind cs column.name)) (other_bytes column.name c.name (λ e. d.0 (subst (λ (n : List ℕ). In n (map name_of cs)) e (In-map_from name_of column cs h))))
    ∙ kind_of_column cs column d.1 h

-- ---- nodes

-- the columns by the name are those by the number
pub number_schema : (nodes : List PlanNode) (name : List ℕ) → node_schema nodes (number_of nodes name) ≡ schema_of nodes name
number_schema [] name = refl
number_schema (n ∷ ns) name = go (bytes_eq name n.name) (number_schema ns name)
  where
    go : (b : Bool) → node_schema ns (number_of ns name) ≡ schema_of ns name → node_schema (n ∷ ns) (cond b 0 (suc (number_of ns name))) ≡ cond b n.schema (schema_of ns name)
    go true ih = refl
    go false ih = ih

pub known_number : (nodes : List PlanNode) (name : List ℕ) → is_known nodes name ≡ true → number_of nodes name < length nodes
known_number [] name t = absurd (false≢true t)
known_number (n ∷ ns) name t = go (bytes_eq name n.name) t (known_number ns name)
  where
    go : (b : Bool) → (b || is_known ns name) ≡ true → (is_known ns name ≡ true → number_of ns name < length ns) → cond b 0 (suc (number_of ns name)) < suc (length ns)
    go true t ih = omega arith
    go false t ih = let h : number_of ns name < length ns = ih t in omega (arith, h)

pub known_name : (nodes : List PlanNode) (name : List ℕ) → is_known nodes name ≡ true → node_name nodes (number_of nodes name) ≡ name
known_name [] name t = absurd (false≢true t)
known_name (n ∷ ns) name t = go (bytes_eq name n.name) refl t (known_name ns name)
  where
    go : (b : Bool) → bytes_eq name n.name ≡ b → (b || is_known ns name) ≡ true → (is_known ns name ≡ true → node_name ns (number_of ns name) ≡ name) → node_name (n ∷ ns) (cond b 0 (suc (number_of ns name))) ≡ name
    go true e t ih = sym (bytes_same name n.name e)
    go false e t ih = ih t

-- ---- nodes behind others

pub at_append : (nodes more : List PlanNode) (m : ℕ) → m < length nodes → get_or (nodes ++ more) m no_node ≡ get_or nodes m no_node
at_append [] more m lt = absurd (omega (arith, lt))
at_append (n ∷ ns) more zero lt = refl
at_append (n ∷ ns) more (suc m) lt = at_append ns more m (omega (arith, lt))

pub at_end : (nodes : List PlanNode) (node : PlanNode) → get_or (nodes ++ node ∷ []) (length nodes) no_node ≡ node
at_end [] node = refl
at_end (n ∷ ns) node = at_end ns node
