-- Whether patterns cover an instance, column by column.
use Rattle.std.proofs.Common.{◌≡◌, ◌+◌, ◌<◌, ℕ, suc, zero, Bool, true, false, cond, ◌&&◌, List, [], ◌∷◌, length, get_or, drop, arith, Option, Some, None, refl, sym, ap, ◌∙◌}
use Rattle.std.specs.List.{slice_get}
use Rattle.pj_value.specs.declared.values.Value.{Value}
use Rattle.std.proofs.Math.Bool.{and-false}
use Rattle.std.proofs.lemmas.Option.{get_or_from_slice_get}
use Rattle.pj_events.specs.Patterns.{Pattern, covers, is_wild, matches_value}
use Rattle.pj_puncts.specs.Givens.{cell_of, covers_cell}
use Rattle.pj_shape.specs.Instances.{instance_of}

pub instance_length : (marks : List Bool) (vs : List Value) → length (instance_of marks vs) ≡ length marks
instance_length [] vs = refl
instance_length (false ∷ marks) vs = ap suc (instance_length marks vs)
instance_length (true ∷ marks) [] = ap suc (instance_length marks [])
instance_length (true ∷ marks) (v ∷ vs) = ap suc (instance_length marks vs)

pub covers_length : (ps : List Pattern) (cells : List (Option Value)) → (length ps ≡ length cells → ⊥) → covers ps cells ≡ false
covers_length [] [] f = absurd (f refl)
covers_length [] (c ∷ cells) f = refl
covers_length (p ∷ ps) [] f = refl
covers_length (p ∷ ps) (None ∷ cells) f = rw (covers_length ps cells (λ e. f (ap suc e))) (and-false (is_wild p))
covers_length (p ∷ ps) (Some v ∷ cells) f = rw (covers_length ps cells (λ e. f (ap suc e))) (and-false (matches_value p v))

marked-first : (ps : List Pattern) (marks : List Bool) (vs : List Value) (taken : ℕ) (p : Pattern)
    → covers (p ∷ ps) (instance_of (true ∷ marks) (drop taken vs)) ≡ (covers_cell p (slice_get vs taken) && covers ps (instance_of marks (drop (taken + 1) vs)))
marked-first ps marks [] zero p = refl
marked-first ps marks [] (suc taken) p = let e : suc taken + 1 ≡ suc (taken + 1) = omega arith in rw e refl
marked-first ps marks (v ∷ vs) zero p = refl
marked-first ps marks (v ∷ vs) (suc taken) p = let e : suc taken + 1 ≡ suc (taken + 1) = omega arith in rw e (marked-first ps marks vs taken p)

covers-first : (ps : List Pattern) (marks : List Bool) (vs : List Value) (taken : ℕ) (p : Pattern) (mark : Bool)
    → covers (p ∷ ps) (instance_of (mark ∷ marks) (drop taken vs)) ≡ (covers_cell p (cell_of mark (slice_get vs taken)) && covers ps (instance_of marks (drop (taken + cond mark 1 0) vs)))
covers-first ps marks vs taken p true = marked-first ps marks vs taken p
covers-first ps marks vs taken p false = let e : taken + 0 ≡ taken = omega arith in rw e refl

pub slice_get_here : {A : Type 0} (xs : List A) (at : ℕ) (x : A) → at < length xs → x ≡ get_or xs at x → slice_get xs at ≡ Some x
slice_get_here [] at x lt e = absurd (omega (arith, lt))
slice_get_here (y ∷ xs) zero x lt e = ap Some (sym e)
slice_get_here (y ∷ xs) (suc at) x lt e = slice_get_here xs at x (omega (arith, lt)) e

-- one column more
pub covers_more : (ps : List Pattern) (marks : List Bool) (vs : List Value) (column taken : ℕ) (p : Pattern) (mark : Bool)
    → slice_get ps column ≡ Some p → slice_get marks column ≡ Some mark
    → covers (drop column ps) (instance_of (drop column marks) (drop taken vs)) ≡ (covers_cell p (cell_of mark (slice_get vs taken)) && covers (drop (column + 1) ps) (instance_of (drop (column + 1) marks) (drop (taken + cond mark 1 0) vs)))
covers_more [] marks vs column taken p mark e f = cc
covers_more (q ∷ ps) [] vs column taken p mark e f = cc
covers_more (q ∷ ps) (m ∷ marks) vs zero taken p mark e f =
    let a : q ≡ p = get_or_from_slice_get (q ∷ ps) 0 p p e in
    let b : m ≡ mark = get_or_from_slice_get (m ∷ marks) 0 mark mark f in
    covers-first ps marks vs taken q m
    ∙ ap (λ x. covers_cell x (cell_of m (slice_get vs taken)) && covers ps (instance_of marks (drop (taken + cond m 1 0) vs))) a
    ∙ ap (λ x. covers_cell p (cell_of x (slice_get vs taken)) && covers ps (instance_of marks (drop (taken + cond x 1 0) vs))) b
covers_more (q ∷ ps) (m ∷ marks) vs (suc column) taken p mark e f = let n : suc column + 1 ≡ suc (column + 1) = omega arith in rw n (covers_more ps marks vs column taken p mark e f)

-- a column that is read, and whether it is covered
pub record IsRead (ps : List Pattern) (marks : List Bool) (vs : List Value) (column taken : ℕ) (p : Pattern) (mark : Bool) (covered : Bool) : Type 0 where
  pub constant : Option Value
  pub within : column < length ps
  pub pattern : p ≡ get_or ps column p
  pub mark_is : slice_get marks column ≡ Some mark
  pub constant_is : constant ≡ slice_get vs taken
  pub tested : covered ≡ covers_cell p (cell_of mark constant)

read-more : (ps : List Pattern) (marks : List Bool) (vs : List Value) (column taken : ℕ) (p : Pattern) (mark : Bool) (b : Bool) → IsRead ps marks vs column taken p mark b
    → covers (drop column ps) (instance_of (drop column marks) (drop taken vs)) ≡ (b && covers (drop (column + 1) ps) (instance_of (drop (column + 1) marks) (drop (taken + cond mark 1 0) vs)))
read-more ps marks vs column taken p mark b r =
    covers_more ps marks vs column taken p mark (slice_get_here ps column p r.within r.pattern) r.mark_is
    ∙ ap (λ c. c && covers (drop (column + 1) ps) (instance_of (drop (column + 1) marks) (drop (taken + cond mark 1 0) vs))) (ap (λ o. covers_cell p (cell_of mark o)) (sym r.constant_is) ∙ sym r.tested)

-- one that is not covered
pub not_covered : (ps : List Pattern) (marks : List Bool) (vs : List Value) (column taken : ℕ) (p : Pattern) (mark : Bool) (b : Bool) → IsRead ps marks vs column taken p mark b → b ≡ false
    → covers (drop column ps) (instance_of (drop column marks) (drop taken vs)) ≡ false
not_covered ps marks vs column taken p mark b r e = read-more ps marks vs column taken p mark b r ∙ ap (λ c. c && covers (drop (column + 1) ps) (instance_of (drop (column + 1) marks) (drop (taken + cond mark 1 0) vs))) e

-- one that is
pub covered_so_far : (ps : List Pattern) (marks : List Bool) (vs : List Value) (column taken : ℕ) (p : Pattern) (mark : Bool) (b : Bool) → IsRead ps marks vs column taken p mark b → b ≡ true
    → covers (drop column ps) (instance_of (drop column marks) (drop taken vs)) ≡ covers (drop (column + 1) ps) (instance_of (drop (column + 1) marks) (drop (taken + cond mark 1 0) vs))
covered_so_far ps marks vs column taken p mark b r e = read-more ps marks vs column taken p mark b r ∙ ap (λ c. c && covers (drop (column + 1) ps) (instance_of (drop (column + 1) marks) (drop (taken + cond mark 1 0) vs))) e
