-- Columns of classes, and the rows that have them.
use Rattle.std.proofs.Common.{ℕ, zero, suc, ◌+◌, ◌<◌, Bool, true, false, cond, List, [], ◌∷◌, ◌≡◌, Option, Some, None, length, get_or, refl, ap, ◌∙◌, subst, inl, inr, arith}
use Rattle.std.specs.List.{slice_get}
use Rattle.std.proofs.lemmas.Option.{get_or_from_slice_get, slice_get_within}
use Rattle.pj_shape.specs.declared.columns.Column.{Column}
use Rattle.pj_shape.specs.declared.joins.JoinSpec.{JoinSpec}
use Rattle.pj_shape.specs.Joining.{has_column}
use Rattle.pj_shape.specs.Sound.{IsSoundSpec, arities_of}
use Rattle.pj_events.specs.Join.{In, TupleAt, ClassCol, class_with}
use Rattle.pj_cover.specs.Asking.{first_class}
use Rattle.pj_join_laws.specs.Walks.{AreBound}

-- those of these rows that are of the column's input have the column
abbrev pub HasCells : List TupleAt → ClassCol → Type 0
HasCells xs at = (x : TupleAt) → In x xs → x.input ≡ at.input → at.column < length x.row

none-not-some : {A : Type 0} (o : Option A) (v : A) → o ≡ None → o ≡ Some v → ⊥
none-not-some o v p q = cc

pub bound-at : (classes : List (List ClassCol)) (input column : ℕ) (marks : List Bool) (known : List ℕ) (k : ℕ) → AreBound classes input column marks known → slice_get marks k ≡ Some true
    → (c : ClassCol) × In c (class_with classes input (column + k)) × In c.input known
bound-at classes input column [] known k b e = absurd (none-not-some None true refl e)
bound-at classes input column (true ∷ marks) known zero b e = let n : column ≡ column + 0 = omega arith in (b.0.0, subst (λ (i : ℕ). In b.0.0 (class_with classes input i)) n b.0.1, b.0.2)
bound-at classes input column (false ∷ marks) known zero b e = absurd (cc)
bound-at classes input column (true ∷ marks) known (suc k) b e =
    let n : column + 1 + k ≡ column + suc k = omega arith in
    subst (λ (i : ℕ). (c : ClassCol) × In c (class_with classes input i) × In c.input known) n (bound-at classes input (column + 1) marks known k b.1 e)
bound-at classes input column (false ∷ marks) known (suc k) b e =
    let n : column + 1 + k ≡ column + suc k = omega arith in
    subst (λ (i : ℕ). (c : ClassCol) × In c (class_with classes input i) × In c.input known) n (bound-at classes input (column + 1) marks known k b e)

pub class-is : (classes : List (List ClassCol)) (at c : ClassCol) → In c (first_class classes at) → In (first_class classes at) classes
class-is [] at c h = absurd h
class-is (class ∷ classes) at c h = go (has_column class at) h (class-is classes at c)
  where
    go : (b : Bool) → In c (cond b class (first_class classes at)) → (In c (first_class classes at) → In (first_class classes at) classes) → In (cond b class (first_class classes at)) (class ∷ classes)
    go true k ih = inl refl
    go false k ih = inr (ih k)

pub arity-at : (schemas : List (List Column)) (i : ℕ) (schema : List Column) → slice_get schemas i ≡ Some schema → get_or (arities_of schemas) i 0 ≡ length schema
arity-at [] i schema e = absurd (none-not-some None schema refl e)
arity-at (s ∷ schemas) zero schema e = ap length (get_or_from_slice_get (s ∷ schemas) 0 schema schema e)
arity-at (s ∷ schemas) (suc i) schema e = arity-at schemas i schema e

-- rows that fit have the columns of a class
pub class-cells : (spec : JoinSpec) (class : List ClassCol) (xs : List TupleAt) → IsSoundSpec spec → In class spec.classes → ((x : TupleAt) → In x xs → length x.row ≡ get_or (arities_of spec.inputs) x.input 0)
    → (at : ClassCol) → In at class → HasCells xs at
class-cells spec class xs sound h fit at ha x hx i =
    let k = (sound.sound_classes class h).same_kind in
    let is = k.1 at ha in
    let len : length x.row ≡ length is.0 = fit x hx ∙ ap (λ n. get_or (arities_of spec.inputs) n 0) i ∙ arity-at spec.inputs at.input is.0 is.2 in
    let lt : at.column < length is.0 = slice_get_within is.0 at.column is.1 is.3 in
    omega (arith, lt, len)
