-- Which rows a punctuation marks.
use Rattle.std.proofs.Common.{ℕ, zero, suc, ◌+◌, ◌<◌, Bool, true, false, cond, not, ◌&&◌, ◌||◌, List, [], ◌∷◌, ◌++◌, ◌≡◌, Some, length, get_or, set, refl, sym, ap, ap₂, ◌∙◌, subst, eqb, ltb, arith}
use Rattle.std.specs.List.{slice_get}
use Rattle.std.proofs.lemmas.Bool.{and_parts, eq-eqb, eqb-true, false_from_ne_true, false≢true}
use Rattle.std.proofs.lemmas.Option.{slice_get-get_or, get_or_from_slice_get}
use Rattle.std.proofs.lemmas.List.Folds.{list_any-append}
use Rattle.pj_value.specs.declared.values.Value.{Value}
use Rattle.pj_value.specs.Values.{value_eq}
use Rattle.pj_value.proofs.Orders.{same_if_equal, equal_itself}
use Rattle.pj_value.specs.Options.{is_value}
use Rattle.pj_pattern.specs.declared.pattern.Form.TheVariants.{Constant}
use Rattle.pj_cover.specs.Asking.{first_class}
use Rattle.pj_cover.proofs.Classes.{first_class_is}
use Rattle.pj_events.specs.Patterns.{Pattern, covers, matches_value}
use Rattle.pj_events.specs.Join.{ClassCol, In, TupleAt, class_with, constant, has, instance_from, no_value, part_of, value_at, values}
use Rattle.pj_recheck.specs.Watching.{CoverageView, IsFewer, IsKey, Limits, SideView, Tells, first_column, is_met, is_passed, watches_at}
use Rattle.pj_recheck.specs.declared.marks.DueRechecks.{DueRechecks}
use Rattle.pj_rows.specs.Finding.{is_match}

-- ---- what is asked for

turned : (m n : ℕ) (b : Bool) → eqb m n ≡ b → eqb n m ≡ b
turned m n true e = eq-eqb n m (sym (eqb-true m n e))
turned m n false e = false_from_ne_true (eqb n m) (λ t. false≢true (sym e ∙ eq-eqb m n (sym (eqb-true n m t))))

-- a punctuation covers only what its pattern in a marked column matches there
needs : (classes : List (List ClassCol)) (other c : ℕ) (marks : List Bool) (ps : List Pattern) (xs : List TupleAt) (k : ℕ) (r : Pattern) → slice_get marks k ≡ Some true → slice_get ps k ≡ Some r
    → covers ps (instance_from classes other c marks xs) ≡ true → matches_value r (constant (class_with classes other (c + k)) xs) ≡ true
needs classes other c [] ps xs k r m p t = absurd (cc)
needs classes other c (b ∷ marks) [] xs k r m p t = absurd (cc)
needs classes other c (true ∷ marks) (q ∷ ps) xs zero r m p t =
    let n : c + 0 ≡ c = omega arith in
    let same : q ≡ r = get_or_from_slice_get (q ∷ ps) 0 r r p in
    ap (λ i. matches_value r (constant (class_with classes other i) xs)) n
    ∙ ap (λ (s : Pattern). matches_value s (constant (class_with classes other c) xs)) (sym same)
    ∙ (and_parts (matches_value q (constant (class_with classes other c) xs)) (covers ps (instance_from classes other (c + 1) marks xs)) t).0
needs classes other c (false ∷ marks) (q ∷ ps) xs zero r m p t = absurd (cc)
needs classes other c (true ∷ marks) (q ∷ ps) xs (suc k) r m p t =
    let n : c + suc k ≡ c + 1 + k = omega arith in
    ap (λ i. matches_value r (constant (class_with classes other i) xs)) n
    ∙ needs classes other (c + 1) marks ps xs k r m p (and_parts (matches_value q (constant (class_with classes other c) xs)) (covers ps (instance_from classes other (c + 1) marks xs)) t).1
needs classes other c (false ∷ marks) (q ∷ ps) xs (suc k) r m p t =
    let n : c + suc k ≡ c + 1 + k = omega arith in
    ap (λ i. matches_value r (constant (class_with classes other i) xs)) n
    ∙ needs classes other (c + 1) marks ps xs k r m p (and_parts _ (covers ps (instance_from classes other (c + 1) marks xs)) t).1

-- what a tuple has in a class is its value in the first column of its input
first-value : (class : List ClassCol) (x : TupleAt) (own : ℕ) → first_column class x.input ≡ Some own → constant class (x ∷ []) ≡ value_at x.row own
first-value [] x own e = absurd (cc)
first-value (at ∷ class) x own e = go (eqb at.input x.input) refl e (first-value class x own)
  where
    go : (b : Bool) → eqb at.input x.input ≡ b → cond b (Some at.column) (first_column class x.input) ≡ Some own → (first_column class x.input ≡ Some own → constant class (x ∷ []) ≡ value_at x.row own)
        → constant (at ∷ class) (x ∷ []) ≡ value_at x.row own
    go true f k ih =
        ap (λ b. get_or ((cond b (value_at x.row at.column ∷ []) [] ++ []) ++ values (part_of x ∷ []) class) 0 no_value) (turned at.input x.input true f)
        ∙ ap (λ i. value_at x.row i) (same k)
      where
        same : Some at.column ≡ Some own → at.column ≡ own
        same q = cc
    go false f k ih = ap (λ b. get_or ((cond b (value_at x.row at.column ∷ []) [] ++ []) ++ values (part_of x ∷ []) class) 0 no_value) (turned at.input x.input false f) ∙ ih k

-- one tuple alone tells its own values
pub tells-own : (classes : List (List ClassCol)) (x : TupleAt) → Tells classes (x ∷ []) x
tells-own classes x at own e = first-value (first_class classes at) x own e

-- what the pattern in a marked column matches, where the class has a column of the rows' own
asked : (classes : List (List ClassCol)) (input other : ℕ) (marks : List Bool) (ps : List Pattern) (at : ClassCol) (own : ℕ) (r : Pattern) (z : TupleAt) (xs : List TupleAt)
    → at.input ≡ other → slice_get marks at.column ≡ Some true → first_column (first_class classes at) input ≡ Some own → slice_get ps at.column ≡ Some r → Tells classes xs z → z.input ≡ input
    → covers ps (instance_from classes other 0 marks xs) ≡ true → matches_value r (value_at z.row own) ≡ true
asked classes input other marks ps at own r z xs of marked first there tells same t =
    let n : 0 + at.column ≡ at.column = omega arith in
    ap (matches_value r)
    (sym (ap (λ (cls : List ClassCol). constant cls xs) (ap₂ (λ i j. class_with classes i j) (sym of) n ∙ sym (first_class_is classes at))
    ∙ tells at own (ap (first_column (first_class classes at)) same ∙ first)))
    ∙ needs classes other 0 marks ps xs at.column r marked there t

pub limits_are : (side : SideView) (c : CoverageView) (at : ClassCol) (own : ℕ) (r : Pattern)
    → at.input ≡ c.input → slice_get c.marks at.column ≡ Some true → first_column (first_class c.classes at) side.input ≡ Some own → slice_get c.patterns at.column ≡ Some r → Limits side c own r
limits_are side c at own r of marked first there z xs tells same lt differs =
    false_from_ne_true (is_met c xs)
    (λ t. false≢true (sym differs ∙ ap (is_match r) (slice_get-get_or z.row own no_value lt) ∙ asked c.classes side.input c.input c.marks c.patterns at own r z xs of marked first there tells same t))

pub key_is : (side : SideView) (c : CoverageView) (at : ClassCol) (own : ℕ) (v : Value)
    → at.input ≡ c.input → slice_get c.marks at.column ≡ Some true → first_column (first_class c.classes at) side.input ≡ Some own → In own side.state.columns → slice_get c.patterns at.column ≡ Some (Constant v)
    → IsKey side c own v
key_is side c at own v of marked first indexed const = (indexed, uncovered)
  where
    uncovered : (z : TupleAt) (xs : List TupleAt) → Tells c.classes xs z → z.input ≡ side.input → own < length z.row → is_value v (slice_get z.row own) ≡ false → is_met c xs ≡ false
    uncovered z xs tells same lt differs = false_from_ne_true (is_met c xs) (λ t. false≢true (sym differs ∙ yes t))
      where
        yes : is_met c xs ≡ true → is_value v (slice_get z.row own) ≡ true
        yes t =
            ap (is_value v) (slice_get-get_or z.row own no_value lt)
            ∙ ap (λ w. value_eq w v) (sym (same_if_equal v (value_at z.row own) (asked c.classes side.input c.input c.marks c.patterns at own (Constant v) z xs of marked first const tells same t)))
            ∙ equal_itself v

-- ---- what is passed over

-- a ticket that is passed over is among none of those that were marked, and was passed over before
pub passed_more : (old new : DueRechecks) (ts : List ℕ) → new.from ≡ old.from → new.marked ≡ old.marked ++ ts → (ticket : ℕ) → is_passed new ticket ≡ true → (is_passed old ticket ≡ true) × (has ts ticket ≡ false)
passed_more old new ts from marked ticket t =
    go (has old.marked ticket) refl (has ts ticket) refl (ap₂ (λ n (ms : List ℕ). ltb ticket n && not (has ms ticket)) (sym from) (sym marked) ∙ t)
  where
    go : (a : Bool) → has old.marked ticket ≡ a → (b : Bool) → has ts ticket ≡ b → (ltb ticket old.from && not (has (old.marked ++ ts) ticket)) ≡ true → (is_passed old ticket ≡ true) × (has ts ticket ≡ false)
    go a e b f u =
        let both = and_parts (ltb ticket old.from) (not (has (old.marked ++ ts) ticket)) u in
        let none : not (a || b) ≡ true = ap₂ (λ c d. not (c || d)) (sym e) (sym f) ∙ ap not (sym (list_any-append (λ m. eqb m ticket) old.marked ts)) ∙ both.1 in
        split a b e f both.0 none
      where
        split : (a b : Bool) → has old.marked ticket ≡ a → has ts ticket ≡ b → ltb ticket old.from ≡ true → not (a || b) ≡ true → (is_passed old ticket ≡ true) × (has ts ticket ≡ false)
        split true b e f l n = absurd (false≢true n)
        split false true e f l n = absurd (false≢true n)
        split false false e f l n = (ap₂ (λ c d. c && not d) l e, f)

-- ---- all inputs

pub at-set : (ws : List DueRechecks) (i k : ℕ) (w : DueRechecks) → i < length ws → (k ≡ i → ⊥) → watches_at (set ws i w) k ≡ watches_at ws k
at-set [] i k w lt ne = absurd (omega (arith, lt))
at-set (v ∷ ws) zero zero w lt ne = absurd (ne refl)
at-set (v ∷ ws) zero (suc k) w lt ne = refl
at-set (v ∷ ws) (suc i) zero w lt ne = refl
at-set (v ∷ ws) (suc i) (suc k) w lt ne = at-set ws i k w (omega (arith, lt)) (λ e. ne (ap suc e))

pub at-place : (ws : List DueRechecks) (i : ℕ) (w : DueRechecks) → i < length ws → watches_at (set ws i w) i ≡ w
at-place [] i w lt = absurd (omega (arith, lt))
at-place (v ∷ ws) zero w lt = refl
at-place (v ∷ ws) (suc i) w lt = at-place ws i w (omega (arith, lt))

pub set-count : (ws : List DueRechecks) (i : ℕ) (w : DueRechecks) → length (set ws i w) ≡ length ws
set-count [] i w = refl
set-count (v ∷ ws) zero w = refl
set-count (v ∷ ws) (suc i) w = ap suc (set-count ws i w)

pub fewer-then : (a b c : DueRechecks) → IsFewer a b → IsFewer b c → IsFewer a c
fewer-then a b c f g = let l = f.from in let m = g.from in record { from = omega (arith, l, m); passed = λ ticket t. f.passed ticket (g.passed ticket t) }

pub by-place : (P : ℕ → Type 0) (i k : ℕ) → P i → ((k ≡ i → ⊥) → P k) → P k
by-place P i k here there = go (eqb k i) refl
  where
    go : (b : Bool) → eqb k i ≡ b → P k
    go true e = subst P (sym (eqb-true k i e)) here
    go false e = there (λ q. false≢true (sym e ∙ eq-eqb k i q))
