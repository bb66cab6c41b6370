-- The table of class numbers tells which columns are bound.
use Rattle.std.proofs.Common.{ℕ, zero, suc, ◌+◌, ◌-◌, ◌<◌, ◌≤◌, ◌≡◌, length, get_or, arith, Bool, true, false, cond, not, ◌&&◌, ◌||◌, List, [], ◌∷◌, Option, Some, None, map, refl, sym, ap, ◌∙◌}
use Rattle.std.proofs.Math.Nat.{sub_self}
use Rattle.std.proofs.Math.Nat.{add-zero}
use Rattle.std.proofs.lemmas.Bool.{and_left, false_from_ne_true}
use Rattle.pj_value.proofs.Members.{none_from, in-place}
use Rattle.pj_shape.specs.declared.columns.Column.{Column}
use Rattle.pj_shape.specs.declared.joins.ClassCol.{ClassCol}
use Rattle.pj_shape.specs.declared.joins.JoinSpec.{JoinSpec}
use Rattle.pj_shape.specs.Sound.{AreApart, FitSchemes}
use Rattle.pj_shape.specs.Joining.{has_column, class_from, class_of}
use Rattle.pj_shape.proofs.Classes.{has_in}
use Rattle.pj_shape.specs.Sets.{are_bound, is_bound, is_usable, touches}
use Rattle.pj_graph.specs.Search.{all_marked, class_numbers, column_numbers, is_marked}

pub numbers_length : (classes : List (List ClassCol)) (k : ℕ) (schemas : List (List Column)) → length (class_numbers classes k schemas) ≡ length schemas
numbers_length classes k [] = refl
numbers_length classes k (s ∷ schemas) = ap suc (numbers_length classes (k + 1) schemas)

-- ---- one column

-- the mark of a class, where the first of the marks is that of this number
abbrev by_number : ℕ → List Bool → Option ℕ → Bool
by_number n bound None = false
by_number n bound (Some c) = get_or bound (c - n) false

-- the number is there only from this number on
abbrev IsFrom : ℕ → Option ℕ → Type 0
IsFrom n None = Unit {0}
IsFrom n (Some c) = n ≤ c

later : (n : ℕ) (o : Option ℕ) → IsFrom (n + 1) o → IsFrom n o
later n None h = tt
later n (Some c) h = omega (arith, h)

from_number : (n : ℕ) (classes : List (List ClassCol)) (at : ClassCol) → IsFrom n (class_from n classes at)
from_number n [] at = tt
from_number n (class ∷ classes) at = go (has_column class at) (from_number (n + 1) classes at)
  where
    go : (b : Bool) → IsFrom (n + 1) (class_from (n + 1) classes at) → IsFrom n (cond b (Some n) (class_from (n + 1) classes at))
    go true ih = let h : n ≤ n = omega arith in h
    go false ih = later n (class_from (n + 1) classes at) ih

shifted : (n : ℕ) (b : Bool) (bound : List Bool) (o : Option ℕ) → IsFrom (n + 1) o → by_number (n + 1) bound o ≡ by_number n (b ∷ bound) o
shifted n b bound None h = refl
shifted n b bound (Some c) h =
    let e : c - n ≡ suc (c - (n + 1)) = omega (arith, h) in
    sym (ap (λ (k : ℕ). get_or (b ∷ bound) k false) e)

first_is : (n : ℕ) (b : Bool) (bound : List Bool) → by_number n (b ∷ bound) (Some n) ≡ b
first_is n b bound = ap (λ (k : ℕ). get_or (b ∷ bound) k false) (sub_self n)

or_nothing : (b c : Bool) → c ≡ false → (b || c) ≡ b
or_nothing true c e = refl
or_nothing false c e = e

bound_from : (inside : ℕ → Bool) (n : ℕ) (classes : List (List ClassCol)) (input column : ℕ) → AreApart classes
    → is_bound inside classes input column ≡ by_number n (map (touches inside) classes) (class_from n classes (record { input = input; column = column }))
bound_from inside n [] input column apart = refl
bound_from inside n (class ∷ classes) input column apart = go (has_column class at) refl (bound_from inside (n + 1) classes input column apart.1)
  where
    at : ClassCol
    at = record { input = input; column = column }

    bound : List Bool
    bound = map (touches inside) classes

    elsewhere : has_column class at ≡ true → is_bound inside classes input column ≡ false
    elsewhere t = none_from (λ c. has_column c at && touches inside c) classes (λ other h.
        and_left (has_column other at) (touches inside other) (false_from_ne_true (has_column other at) (λ u. apart.0 other h at (has_in class at t) (has_in other at u))))

    go : (b : Bool) → has_column class at ≡ b → is_bound inside classes input column ≡ by_number (n + 1) bound (class_from (n + 1) classes at)
        → ((b && touches inside class) || is_bound inside classes input column) ≡ by_number n (touches inside class ∷ bound) (cond b (Some n) (class_from (n + 1) classes at))
    go true e ih = or_nothing (touches inside class) (is_bound inside classes input column) (elsewhere e) ∙ sym (first_is n (touches inside class) bound)
    go false e ih = ih ∙ shifted n (touches inside class) bound (class_from (n + 1) classes at) (from_number (n + 1) classes at)

at_zero : (bound : List Bool) (o : Option ℕ) → by_number 0 bound o ≡ is_marked bound o
at_zero bound None = refl
at_zero bound (Some c) = let e : c - 0 ≡ c = omega arith in ap (λ (k : ℕ). get_or bound k false) e

-- the column is bound where the class with its number is marked
bound_by_number : (inside : ℕ → Bool) (classes : List (List ClassCol)) (input column : ℕ) → AreApart classes
    → is_bound inside classes input column ≡ is_marked (map (touches inside) classes) (class_of classes (record { input = input; column = column }))
bound_by_number inside classes input column apart =
    bound_from inside 0 classes input column apart ∙ at_zero (map (touches inside) classes) (class_from 0 classes (record { input = input; column = column }))

-- ---- the marks of a scheme

bound_marks : (inside : ℕ → Bool) (classes : List (List ClassCol)) (input column : ℕ) (columns : List Column) (marks : List Bool) → AreApart classes → length marks ≡ length columns
    → are_bound inside classes input column marks ≡ all_marked (map (touches inside) classes) (column_numbers classes input column columns) marks
bound_marks inside classes input column [] [] apart l = refl
bound_marks inside classes input column [] (m ∷ ms) apart l = absurd (omega (arith, l))
bound_marks inside classes input column (c ∷ cs) [] apart l = absurd (omega (arith, l))
bound_marks inside classes input column (c ∷ cs) (m ∷ ms) apart l =
    ap (λ (b : Bool). (not m || b) && are_bound inside classes input (column + 1) ms) (bound_by_number inside classes input column apart)
    ∙ ap (λ (b : Bool). (not m || is_marked (map (touches inside) classes) (class_of classes (record { input = input; column = column }))) && b)
    (bound_marks inside classes input (column + 1) cs ms apart (omega (arith, l)))

-- ---- a scheme of an input

usable_from : (inside : ℕ → Bool) (classes : List (List ClassCol)) (k : ℕ) (schemas : List (List Column)) (lists : List (List (List Bool))) (j s : ℕ)
    → AreApart classes → FitSchemes schemas lists → s < length (get_or lists j [])
    → are_bound inside classes (k + j) 0 (get_or (get_or lists j []) s [])
    ≡ all_marked (map (touches inside) classes) (get_or (class_numbers classes k schemas) j []) (get_or (get_or lists j []) s [])
usable_from inside classes k [] [] j s apart fit lt = absurd (omega (arith, lt))
usable_from inside classes k [] (l ∷ lists) j s apart fit lt = absurd fit
usable_from inside classes k (schema ∷ schemas) [] j s apart fit lt = absurd fit
usable_from inside classes k (schema ∷ schemas) (l ∷ lists) zero s apart fit lt =
    rw add-zero (bound_marks inside classes k 0 schema (get_or l s []) apart (fit.0 (get_or l s []) (in-place l [] s lt)))
usable_from inside classes k (schema ∷ schemas) (l ∷ lists) (suc j) s apart fit lt =
    let e : k + suc j ≡ k + 1 + j = omega arith in
    ap (λ (n : ℕ). are_bound inside classes n 0 (get_or (get_or lists j []) s [])) e ∙ usable_from inside classes (k + 1) schemas lists j s apart fit.1 lt

-- a scheme can be used where the table of numbers says so
pub usable_by_number : (inside : ℕ → Bool) (spec : JoinSpec) (lists : List (List (List Bool))) (j s : ℕ)
    → AreApart spec.classes → FitSchemes spec.inputs lists → s < length (get_or lists j [])
    → is_usable inside spec lists j s
    ≡ all_marked (map (touches inside) spec.classes) (get_or (class_numbers spec.classes 0 spec.inputs) j []) (get_or (get_or lists j []) s [])
usable_by_number inside spec lists j s apart fit lt =
    let e : j ≡ 0 + j = omega arith in
    ap (λ (n : ℕ). are_bound inside spec.classes n 0 (get_or (get_or lists j []) s [])) e ∙ usable_from inside spec.classes 0 spec.inputs lists j s apart fit lt
