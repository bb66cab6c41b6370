-- Checks that are made of the classes of a join decide which rows join.
use Rattle.std.proofs.Common.{◌≡◌, ℕ, zero, suc, ◌+◌, ◌<◌, ◌≤◌, ◌==◌, ◌&&◌, Bool, not, true, false, List, [], ◌∷◌, ◌++◌, Option, Some, None, filter, map, length, get_or, take, refl, sym, ap, ap₂, ◌∙◌, subst, inl, inr, cond, arith, append_assoc, append-nil}
use Rattle.std.proofs.lemmas.Bool.{and_from, and_parts, cases_lt, eqb-true, eq-eqb, false_from_ne_true, false≢true}
use Rattle.std.proofs.lemmas.List.{get_or_append_left, length-append, map-append, take_all, take_more}
use Rattle.std.proofs.lemmas.List.Elements.{filter-append}
use Rattle.std.proofs.lemmas.List.Folds.{list_all-append}
use Rattle.std.proofs.Math.Bool.{and-true}
use Rattle.pj_value.specs.Values.{value_eq}
use Rattle.pj_value.proofs.Members.{In-append_cases, In-filter, In-filter_from, In-map, In-map_from, all_at, all_from, in-place}
use Rattle.pj_value.proofs.Orders.{equal_if_same, same_if_equal}
use Rattle.pj_shape.specs.Joining.{Part, all_equal, parts_on, values}
use Rattle.pj_shape.proofs.Joining.{all_equal-at, all_equal-from}
use Rattle.pj_events.specs.Join.{ClassCol, In, TupleAt, Value, joins, value_at}
use Rattle.pj_join_laws.proofs.Matching.{agree-mono}
use Rattle.pj_probe.specs.Walks.{tuple_at}
use Rattle.pj_rows.proofs.States.{same-at}
use Rattle.pj_probe.specs.Checks.{AreChecks, Decide, GrewByClass, IsBelow, IsSource, IsSourceOf, all_hold, check_from, checks_from, holds, is_checked, with_one}
use Rattle.pj_probe.specs.declared.checks.Check.{Check}
use Rattle.pj_probe.proofs.Classes.{cell_in, value-from, value-there}

-- ---- rows, and one more

before-at : (rows : List (List Value)) (row d : List Value) (k : ℕ) → k < length rows → get_or rows k d ≡ get_or (rows ++ row ∷ []) k []
before-at rows row d k lt = same-at rows k d [] lt ∙ sym (get_or_append_left rows (row ∷ []) [] k lt)

more-at : (rows : List (List Value)) (row : List Value) (k : ℕ) → k ≡ length rows → get_or (rows ++ row ∷ []) k [] ≡ row
more-at [] row k e = ap (λ n. get_or (row ∷ []) n []) e
more-at (r ∷ rs) row zero e = absurd (omega (arith, e))
more-at (r ∷ rs) row (suc k) e = more-at rs row k (omega (arith, e))

beyond : (rows : List (List Value)) (row : List Value) (k : ℕ) → length rows ≤ k → get_or rows k row ≡ row
beyond [] row k le = refl
beyond (r ∷ rs) row zero le = absurd (omega (arith, le))
beyond (r ∷ rs) row (suc k) le = beyond rs row k (omega (arith, le))

-- the row that a check takes its value from stands at its place
from-at : (rows : List (List Value)) (row : List Value) (k : ℕ) → k ≤ length rows → get_or rows k row ≡ get_or (rows ++ row ∷ []) k []
from-at rows row k le = elim (cases_lt k (length rows)) [
  | inl lt ↦ before-at rows row row k lt
  | inr ge ↦ beyond rows row k ge ∙ sym (more-at rows row k (omega (arith, le, ge)))
]

pub same-ways : (a b : Bool) → (a ≡ true → b ≡ true) → (b ≡ true → a ≡ true) → a ≡ b
same-ways true b f g = sym (f refl)
same-ways false true f g = g refl
same-ways false false f g = refl

-- ---- one class

module _ (class : List ClassCol) (input : ℕ) (rows : List (List Value)) (row : List Value) (count : length rows ≡ input) where
  abbrev all : List (List Value)
  all = rows ++ row ∷ []

  longer : length all ≡ suc input
  longer = let e : length all ≡ length rows + 1 = length-append rows (row ∷ []) in omega (arith, e, count)

  -- what a check says of a column of the input
  check-says : (from at : ClassCol) → from.input ≤ input → at.input ≡ input → holds rows row (check_from from at) ≡ value_eq (cell_in all at) (cell_in all from)
  check-says from at le e =
      ap₂ (λ (r s : List Value). value_eq (value_at r at.column) (value_at s from.column)) (sym (more-at rows row at.input (e ∙ sym count))) (from-at rows row from.input (omega (arith, le, count)))

  old-cell : (at : ClassCol) → at.input < input → cell_in rows at ≡ cell_in all at
  old-cell at lt = ap (λ (r : List Value). value_at r at.column) (before-at rows row [] at.input (omega (arith, lt, count)))

  -- a column of an input before has the value of the source, since the rows before join
  old-source : (from : ClassCol) → IsSource class input from → all_equal (values (parts_on 0 rows) class) ≡ true → (at : ClassCol) → In at class → at.input < input → cell_in all at ≡ cell_in all from
  old-source from is joined at there lt = elim is.before [
    | inl before ↦ sym (old-cell at lt) ∙ all_equal-at (values (parts_on 0 rows) class) (cell_in rows at) (cell_in rows from) joined (value-there rows class at there (omega (arith, lt, count))) (value-there rows class from is.there (omega (arith, before, count))) ∙ old-cell from before
    | inr none ↦ absurd (none at there lt)
  ]

  same-cell : (from at : ClassCol) → ((at.input == from.input) && (at.column == from.column)) ≡ true → cell_in all at ≡ cell_in all from
  same-cell from at t =
      let two = and_parts (at.input == from.input) (at.column == from.column) t in
      ap₂ (λ (i c : ℕ). value_at (get_or all i []) c) (eqb-true at.input from.input two.0) (eqb-true at.column from.column two.1)

  -- so has one of the input, where all checks hold
  new-source : (from : ClassCol) → from.input ≤ input → all_hold rows row (checks_from input from class) ≡ true → (at : ClassCol) → In at class → at.input ≡ input → cell_in all at ≡ cell_in all from
  new-source from le held at there e = go ((at.input == from.input) && (at.column == from.column)) refl
    where
      go : (b : Bool) → ((at.input == from.input) && (at.column == from.column)) ≡ b → cell_in all at ≡ cell_in all from
      go true t = same-cell from at t
      go false t =
          let tested : is_checked input from at ≡ true = and_from (at.input == input) (not ((at.input == from.input) && (at.column == from.column))) (eq-eqb at.input input e) (ap not t) in
          same_if_equal (cell_in all at) (cell_in all from)
          (sym (check-says from at le e)
          ∙ all_at (holds rows row) (checks_from input from class) (check_from from at) held (In-map_from (check_from from) at (filter (is_checked input from) class) (In-filter_from (is_checked input from) at class there tested)))

  one-value : (from : ClassCol) → IsSource class input from → all_equal (values (parts_on 0 rows) class) ≡ true → all_hold rows row (checks_from input from class) ≡ true → all_equal (values (parts_on 0 all) class) ≡ true
  one-value from is joined held = all_equal-from (values (parts_on 0 all) class) (λ v w hv hw. source v hv ∙ sym (source w hw))
    where
      source : (v : Value) → In v (values (parts_on 0 all) class) → v ≡ cell_in all from
      source v h =
          let c = value-from all class v h in
          sym c.value ∙ elim (cases_lt c.at.input input) [
            | inl lt ↦ old-source from is joined c.at c.there lt
            | inr ge ↦ new-source from is.upto held c.at c.there (omega (arith, ge, c.within, longer))
          ]

  checks-hold : (from : ClassCol) → IsSource class input from → all_equal (values (parts_on 0 all) class) ≡ true → all_hold rows row (checks_from input from class) ≡ true
  checks-hold from is joined = all_from (holds rows row) (checks_from input from class) (λ check h. one check (In-map (check_from from) check (filter (is_checked input from) class) h))
    where
      one : (check : Check) → (at : ClassCol) × In at (filter (is_checked input from) class) × (check_from from at ≡ check) → holds rows row check ≡ true
      one check (at, h, e) =
          let two = In-filter (is_checked input from) at class h in
          let same : at.input ≡ input = eqb-true at.input input (and_parts (at.input == input) (not ((at.input == from.input) && (at.column == from.column))) two.1).0 in
          subst (λ (c : Check). holds rows row c ≡ true) e
          (check-says from at is.upto same
          ∙ equal_if_same (cell_in all at) (cell_in all from)
          (all_equal-at (values (parts_on 0 all) class) (cell_in all at) (cell_in all from) joined (value-there all class at two.0 (omega (arith, same, longer))) (value-there all class from is.there (omega (arith, is.upto, longer)))))

  no-value : IsBelow class (input + 1) None → all_equal (values (parts_on 0 all) class) ≡ true
  no-value none = all_equal-from (values (parts_on 0 all) class) (λ v w hv hw. let c = value-from all class v hv in absurd (none c.at c.there (omega (arith, c.within, longer))))

-- one class is all of these
one-class : (class : List ClassCol) (parts : List Part) → joins (class ∷ []) parts ≡ all_equal (values parts class)
one-class class parts = and-true (all_equal (values parts class))

-- the checks against a source decide
decide-class : (class : List ClassCol) (input : ℕ) (from : ClassCol) → IsSource class input from → Decide (class ∷ []) input (checks_from input from class)
decide-class class input from is rows row count joined =
    same-ways (all_hold rows row (checks_from input from class)) (all_equal (values (with_one rows row) class)) (one-value class input rows row count from is (sym (one-class class (parts_on 0 rows)) ∙ joined)) (checks-hold class input rows row count from is)
    ∙ sym (one-class class (with_one rows row))

pub class_by_source : (class : List ClassCol) (input : ℕ) (from : ClassCol) (old new : List Check) → IsSource class input from → new ≡ old ++ checks_from input from class → GrewByClass class input old new
class_by_source class input from old new is e = (checks_from input from class, e, decide-class class input from is)

-- a class with no column up to the input wants no check
pub class_without : (class : List ClassCol) (input : ℕ) (old : List Check) → IsBelow class (input + 1) None → GrewByClass class input old old
class_without class input old none = ([], sym (append-nil old), (λ rows row count joined. sym (one-class class (with_one rows row) ∙ no-value class input rows row count none)))

-- ---- the source

pub source_before : (class : List ClassCol) (input : ℕ) (from : ClassCol) → IsBelow class input (Some from) → IsSourceOf class input (Some from)
source_before class input from is = record { there = is.0; upto = omega (arith, is.1); before = inl is.1 }

pub source_itself : (class : List ClassCol) (input : ℕ) (found : Option ClassCol) → IsBelow class input None → IsBelow class (input + 1) found → IsSourceOf class input found
source_itself class input None none is = is
source_itself class input (Some from) none is = record { there = is.0; upto = omega (arith, is.1); before = inr none }

-- one column more is of no input below
pub below_more : (class : List ClassCol) (i limit : ℕ) (d : ClassCol) → i < length class → limit ≤ (get_or class i d).input → IsBelow (take i class) limit None → IsBelow (take (i + 1) class) limit None
below_more class i limit d lt ge none at h k = elim (In-append_cases at (take i class) (get_or class i d ∷ []) (subst (λ (cs : List ClassCol). In at cs) (take_more class i d lt) h)) [
  | inl a ↦ none at a k
  | inr b ↦ elim b [ inl e ↦ (let same : (get_or class i d).input ≡ at.input = ap (λ (c : ClassCol). c.input) e in omega (arith, ge, same, k)) | inr n ↦ absurd n ]
]

pub below_end : (class : List ClassCol) (i limit : ℕ) → length class ≤ i → IsBelow (take i class) limit None → IsBelow class limit None
below_end class i limit le none = subst (λ (cs : List ClassCol). IsBelow cs limit None) (take_all i class le) none

pub below_found : (class : List ClassCol) (i limit : ℕ) (d : ClassCol) → i < length class → (get_or class i d).input < limit → IsBelow class limit (Some (get_or class i d))
below_found class i limit d lt below = (in-place class d i lt, below)

-- ---- the columns of the input

pub check_made : (input : ℕ) (from at : ClassCol) (old new : List Check) → is_checked input from at ≡ true → new ≡ old ++ check_from from at ∷ [] → new ≡ old ++ checks_from input from (at ∷ [])
check_made input from at old new t e = e ∙ ap (λ b. old ++ map (check_from from) (cond b (at ∷ []) [])) (sym t)

pub check_left : (input : ℕ) (from at : ClassCol) (old : List Check) → is_checked input from at ≡ false → old ≡ old ++ checks_from input from (at ∷ [])
check_left input from at old f = sym (append-nil old) ∙ ap (λ b. old ++ map (check_from from) (cond b (at ∷ []) [])) (sym f)

pub checks_begin : (input : ℕ) (from : ClassCol) (class : List ClassCol) (old : List Check) → old ≡ old ++ checks_from input from (take 0 class)
checks_begin input from class old = sym (append-nil old)

pub checks_more : (class : List ClassCol) (i input : ℕ) (from d : ClassCol) (old mid new : List Check) → i < length class → mid ≡ old ++ checks_from input from (take i class) → new ≡ mid ++ checks_from input from (get_or class i d ∷ []) → new ≡ old ++ checks_from input from (take (i + 1) class)
checks_more class i input from d old mid new lt e n =
    n ∙ ap (λ (cs : List Check). cs ++ more) e
    ∙ append_assoc old (checks_from input from (take i class)) more
    ∙ ap (λ (cs : List Check). old ++ cs)
    (sym (map-append (check_from from) (filter (is_checked input from) (take i class)) (filter (is_checked input from) (get_or class i d ∷ [])))
    ∙ ap (map (check_from from)) (sym (filter-append (is_checked input from) (take i class) (get_or class i d ∷ [])))
    ∙ ap (checks_from input from) (sym (take_more class i d lt)))
  where
    more : List Check
    more = checks_from input from (get_or class i d ∷ [])

pub checks_end : (class : List ClassCol) (i input : ℕ) (from : ClassCol) (old new : List Check) → length class ≤ i → new ≡ old ++ checks_from input from (take i class) → new ≡ old ++ checks_from input from class
checks_end class i input from old new le e = e ∙ ap (λ (cs : List ClassCol). old ++ checks_from input from cs) (take_all i class le)

-- ---- all classes

pub decide_none : (classes : List (List ClassCol)) (input : ℕ) (checks : List Check) → checks ≡ [] → Decide (take 0 classes) input checks
decide_none classes input checks e rows row count joined = ap (λ (cs : List Check). all_hold rows row cs) e

pub decide_more : (classes : List (List ClassCol)) (i input : ℕ) (class : List ClassCol) (old new : List Check) → i < length classes → class ≡ get_or classes i class → Decide (take i classes) input old → GrewByClass class input old new → Decide (take (i + 1) classes) input new
decide_more classes i input class old new lt is decide (more, e, one) rows row count joined =
    let split : (parts : List Part) → joins (take (i + 1) classes) parts ≡ (joins (take i classes) parts && joins (class ∷ []) parts) = λ parts.
    ap (λ (cs : List (List ClassCol)). joins cs parts) (take_more classes i class lt ∙ ap (λ (c : List ClassCol). take i classes ++ c ∷ []) (sym is))
    ∙ list_all-append (λ (c : List ClassCol). all_equal (values parts c)) (take i classes) (class ∷ []) in
    let two = and_parts (joins (take i classes) (parts_on 0 rows)) (joins (class ∷ []) (parts_on 0 rows)) (sym (split (parts_on 0 rows)) ∙ joined) in
    ap (λ (cs : List Check). all_hold rows row cs) e
    ∙ list_all-append (holds rows row) old more
    ∙ ap₂ (λ (a b : Bool). a && b) (decide rows row count two.0) (one rows row count two.1)
    ∙ sym (split (with_one rows row))

pub decide_all : (classes : List (List ClassCol)) (i input : ℕ) (checks : List Check) → length classes ≤ i → Decide (take i classes) input checks → Decide classes input checks
decide_all classes i input checks le decide = subst (λ (cs : List (List ClassCol)). Decide cs input checks) (take_all i classes le) decide

-- ---- the checks of each input

pub lists_none : (classes : List (List ClassCol)) (lists : List (List Check)) → lists ≡ [] → AreChecks classes 0 lists
lists_none classes lists e = record { count = ap (λ (ls : List (List Check)). length ls) e; each = λ k lt. absurd (omega (arith, lt)) }

pub lists_more : (classes : List (List ClassCol)) (input : ℕ) (lists new : List (List Check)) (checks : List Check) → AreChecks classes input lists → Decide classes input checks → new ≡ lists ++ checks ∷ [] → AreChecks classes (input + 1) new
lists_more classes input lists new checks are decide e = subst (λ (ls : List (List Check)). AreChecks classes (input + 1) ls) (sym e) record {
  count = omega (arith, length-append lists (checks ∷ []), are.count);
  each = λ k lt. elim (cases_lt k input) [
    | inl l ↦ subst (λ (cs : List Check). Decide classes k cs) (sym (get_or_append_left lists (checks ∷ []) [] k (omega (arith, l, are.count)))) (are.each k l)
    | inr ge ↦ let here : k ≡ input = omega (arith, lt, ge) in subst (λ n. Decide classes n (get_or (lists ++ checks ∷ []) n [])) (sym here) (subst (λ (cs : List Check). Decide classes input cs) (sym (last lists input are.count)) decide)
  ];
}
  where
    last : (ls : List (List Check)) (n : ℕ) → length ls ≡ n → get_or (ls ++ checks ∷ []) n [] ≡ checks
    last [] zero c = refl
    last [] (suc n) c = absurd (omega (arith, c))
    last (l ∷ ls) zero c = absurd (omega (arith, c))
    last (l ∷ ls) (suc n) c = last ls n (omega (arith, c))

-- ---- what they are asked

-- the checks of the next input tell whether its row joins
pub fit_is : (classes : List (List ClassCol)) (lists : List (List Check)) (checks : List Check) (rows : List (List Value)) (row : List Value) (d : List Check) → AreChecks classes 16 lists → length rows < 16 → checks ≡ get_or lists (length rows) d → joins classes (parts_on 0 rows) ≡ true
    → all_hold rows row checks ≡ joins classes (parts_on 0 (rows ++ row ∷ []))
fit_is classes lists checks rows row d are few is joined =
    ap (λ (cs : List Check). all_hold rows row cs) (is ∙ same-at lists (length rows) d [] (omega (arith, few, are.count)))
    ∙ are.each (length rows) few rows row refl joined

-- where a row of the first input does not join none of the second one joins with it
pub pair_fails : (classes : List (List ClassCol)) (first second : List Value) → joins classes (parts_on 0 (first ∷ [])) ≡ false → false ≡ joins classes (parts_on 0 (first ∷ second ∷ []))
pair_fails classes first second f = sym (false_from_ne_true (joins classes (parts_on 0 (first ∷ second ∷ []))) (λ t. false≢true (sym f ∙ agree-mono classes (tuple_at 0 (0, first) ∷ []) (tuple_at 0 (0, first) ∷ tuple_at 1 (0, second) ∷ []) front t)))
  where
    front : (z : TupleAt) → In z (tuple_at 0 (0, first) ∷ []) → In z (tuple_at 0 (0, first) ∷ tuple_at 1 (0, second) ∷ [])
    front z (inl e) = inl e
    front z (inr k) = absurd k
