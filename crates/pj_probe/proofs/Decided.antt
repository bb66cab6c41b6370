-- Joins in which two columns decide.
use Rattle.std.proofs.Common.{◌≡◌, ℕ, Bool, true, false, not, ◌==◌, ◌&&◌, ◌||◌, ◌<◌, ◌≤◌, List, [], ◌∷◌, length, get_or, Option, Some, None, refl, sym, ap₂, ◌∙◌, subst, arith}
use Rattle.std.specs.List.{slice_get}
use Rattle.std.proofs.lemmas.Option.{get_or_from_slice_get}
use Rattle.pj_value.specs.declared.values.Value.{Value}
use Rattle.pj_rows.specs.Tuples.{tuple_in}
use Rattle.std.proofs.lemmas.Bool.{eq-eqb, eqb-true, false_from_ne_true, false≢true}
use Rattle.pj_value.specs.Values.{value_eq}
use Rattle.std.proofs.Math.Bool.{and-true}
use Rattle.pj_value.proofs.Orders.{equal_itself, same_if_equal}
use Rattle.pj_value.specs.Options.{is_value}
use Rattle.pj_events.specs.Join.{ClassCol, In, TupleAt, no_value, value_at}
use Rattle.pj_rows.specs.AgreesWith.{all_have, agrees_with, agrees_with_class}
use Rattle.pj_value.proofs.Members.{In-filter}
use Rattle.pj_state.specs.declared.shared.Stored.{Stored}
use Rattle.pj_state.specs.States.{has_value}
use Rattle.pj_probe.specs.Partners.{AllAgree, AreLinkedTo}
use Rattle.pj_probe.proofs.Pairs.{own-pair}
use Rattle.pj_probe.specs.Routes.{TwoDecide}
use Rattle.pj_probe.specs.declared.route.ProbeLink.{ProbeLink}

both_first : (p q r s t rest u v w : Bool) → p ≡ false → q ≡ true → r ≡ true → s ≡ false → t ≡ true
    → ((not p || rest) && ((not q || (((not p || u) && ((not r || v) && true)) && (((not q || t) && ((not s || w) && true)) && true))) && true)) ≡ v
both_first p q r s t rest u v w ep eq er es et = rw (ep, eq, er, es, et) (last v)
  where
    last : (b : Bool) → (((b && true) && true) && true) ≡ b
    last true = refl
    last false = refl

both_second : (p q r s t rest u v w : Bool) → p ≡ true → q ≡ false → r ≡ false → s ≡ true → t ≡ true
    → ((not p || (((not p || t) && ((not r || u) && true)) && (((not q || w) && ((not s || v) && true)) && true))) && ((not q || rest) && true)) ≡ v
both_second p q r s t rest u v w ep eq er es et = rw (ep, eq, er, es, et) (last v)
  where
    last : (b : Bool) → (((b && true) && true) && true) ≡ b
    last true = refl
    last false = refl

apart : (m n : ℕ) → (m ≡ n → ⊥) → (m == n) ≡ false
apart m n differ = false_from_ne_true (m == n) (λ e. differ (eqb-true m n e))

first_decides : (a b : ClassCol) (own input : ℕ) → a.input ≡ own → b.input ≡ input → (own ≡ input → ⊥) → (x y : TupleAt) → x.input ≡ own → y.input ≡ input
    → agrees_with_class (x ∷ []) y (a ∷ b ∷ []) ≡ value_eq (value_at y.row b.column) (value_at x.row a.column)
first_decides a b own input ea eb differ = λ x y ex ey.
    let v = value_at y.row b.column in
    both_first (y.input == a.input) (y.input == b.input) (x.input == a.input) (x.input == b.input) (value_eq v v) (all_have (a ∷ b ∷ []) (x ∷ []) y (value_at y.row a.column)) (value_eq v (value_at y.row a.column)) (value_eq v (value_at x.row a.column)) (value_eq v (value_at x.row b.column))
    (apart y.input a.input (λ e. differ (sym ea ∙ (sym e ∙ ey)))) (eq-eqb y.input b.input (ey ∙ sym eb)) (eq-eqb x.input a.input (ex ∙ sym ea)) (apart x.input b.input (λ e. differ (sym ex ∙ (e ∙ eb)))) (equal_itself v)

second_decides : (a b : ClassCol) (own input : ℕ) → b.input ≡ own → a.input ≡ input → (own ≡ input → ⊥) → (x y : TupleAt) → x.input ≡ own → y.input ≡ input
    → agrees_with_class (x ∷ []) y (a ∷ b ∷ []) ≡ value_eq (value_at y.row a.column) (value_at x.row b.column)
second_decides a b own input eb ea differ = λ x y ex ey.
    let v = value_at y.row a.column in
    both_second (y.input == a.input) (y.input == b.input) (x.input == a.input) (x.input == b.input) (value_eq v v) (all_have (a ∷ b ∷ []) (x ∷ []) y (value_at y.row b.column)) (value_eq v (value_at x.row a.column)) (value_eq v (value_at x.row b.column)) (value_eq v (value_at y.row b.column))
    (eq-eqb y.input a.input (ey ∙ sym ea)) (apart y.input b.input (λ e. differ (sym eb ∙ (sym e ∙ ey)))) (apart x.input a.input (λ e. differ (sym ex ∙ (e ∙ ea)))) (eq-eqb x.input b.input (ex ∙ sym eb)) (equal_itself v)

two_columns : (class : List ClassCol) (d e : ClassCol) → 2 ≤ length class → length class < 3 → class ≡ get_or class 0 d ∷ get_or class 1 e ∷ []
two_columns [] d e least below = absurd (omega (arith, least))
two_columns (a ∷ []) d e least below = absurd (omega (arith, least))
two_columns (a ∷ b ∷ []) d e least below = refl
two_columns (a ∷ b ∷ c ∷ cs) d e least below = absurd (omega (arith, below))

-- rows that have the tuple's own value in the column that decides join with it
pub decided_agree : (classes : List (List ClassCol)) (own : TupleAt) (input : ℕ) (link : ProbeLink) (rows found : List Stored) → TwoDecide classes own.input input link.from_column link.index_column → AreLinkedTo own link rows found → AllAgree classes own input found
decided_agree classes own input link rows found two (value, has, is) s h =
    own-pair classes own (tuple_in input s) (two.alone own refl) (go (slice_get s.row link.index_column) refl (In-filter (has_value link.index_column value) s rows (subst (λ (ss : List Stored). In s ss) is h)).1)
  where
    go : (o : Option Value) → slice_get s.row link.index_column ≡ o → is_value value o ≡ true → agrees_with classes (own ∷ []) (tuple_in input s) ≡ true
    go None e u = absurd (false≢true u)
    go (Some w) e u =
        let there : value_at s.row link.index_column ≡ w = get_or_from_slice_get s.row link.index_column w no_value e in
        let equal : w ≡ value_at own.row link.from_column = same_if_equal w value u ∙ sym (get_or_from_slice_get own.row link.from_column value no_value has) in
        two.both own (tuple_in input s) refl refl ∙ ap₂ (λ (a b : Value). value_eq a b) there (sym equal) ∙ equal_itself w

-- ---- a class with one column of an input

one_second : (p q rest u v : Bool) → p ≡ false → v ≡ true → ((not p || rest) && ((not q || (((not p || u) && true) && (((not q || v) && true) && true))) && true)) ≡ true
one_second p q rest u v ep ev = rw (ep, ev) (last q)
  where
    last : (b : Bool) → ((not b || (((not b || true) && true) && true)) && true) ≡ true
    last true = refl
    last false = refl

one_first : (p q rest u v : Bool) → q ≡ false → v ≡ true → ((not p || (((not p || v) && true) && (((not q || u) && true) && true))) && ((not q || rest) && true)) ≡ true
one_first p q rest u v eq ev = rw (eq, ev) (last p)
  where
    last : (b : Bool) → ((not b || (((not b || true) && true) && true)) && true) ≡ true
    last true = refl
    last false = refl

first_apart : (a b : ClassCol) (input : ℕ) → (a.input ≡ input → ⊥) → (x : TupleAt) → x.input ≡ input → agrees_with_class [] x (a ∷ b ∷ []) ≡ true
first_apart a b input differ = λ x own.
    one_second (x.input == a.input) (x.input == b.input) (all_have (a ∷ b ∷ []) [] x (value_at x.row a.column)) (value_eq (value_at x.row b.column) (value_at x.row a.column)) (value_eq (value_at x.row b.column) (value_at x.row b.column))
    (apart x.input a.input (λ e. differ (sym e ∙ own))) (equal_itself (value_at x.row b.column))

second_apart : (a b : ClassCol) (input : ℕ) → (b.input ≡ input → ⊥) → (x : TupleAt) → x.input ≡ input → agrees_with_class [] x (a ∷ b ∷ []) ≡ true
second_apart a b input differ = λ x own.
    one_first (x.input == a.input) (x.input == b.input) (all_have (a ∷ b ∷ []) [] x (value_at x.row b.column)) (value_eq (value_at x.row a.column) (value_at x.row b.column)) (value_eq (value_at x.row a.column) (value_at x.row a.column))
    (apart x.input b.input (λ e. differ (sym e ∙ own))) (equal_itself (value_at x.row a.column))

-- ---- a link whose columns are a class

pub own_first : (class : List ClassCol) (own input : ℕ) (link : ProbeLink) (d e : ClassCol) → 2 ≤ length class → length class < 3 → (own ≡ input → ⊥) → get_or class 0 d ≡ record { input = own; column = link.from_column } → get_or class 1 e ≡ record { input = input; column = link.index_column }
    → TwoDecide (class ∷ []) own input link.from_column link.index_column
own_first class own input link d e least below differ first second = subst (λ (cs : List ClassCol). TwoDecide (cs ∷ []) own input link.from_column link.index_column) (sym (two_columns class d e least below ∙ ap₂ (λ (a b : ClassCol). a ∷ b ∷ []) first second)) record {
  alone = λ x at. and-true (agrees_with_class [] x (mine ∷ theirs ∷ [])) ∙ second_apart mine theirs own (λ q. differ (sym q)) x at;
  both = λ x y ex ey. and-true (agrees_with_class (x ∷ []) y (mine ∷ theirs ∷ [])) ∙ first_decides mine theirs own input refl refl differ x y ex ey;
}
  where
    mine : ClassCol
    mine = record { input = own; column = link.from_column }

    theirs : ClassCol
    theirs = record { input = input; column = link.index_column }

pub own_second : (class : List ClassCol) (own input : ℕ) (link : ProbeLink) (d e : ClassCol) → 2 ≤ length class → length class < 3 → (own ≡ input → ⊥) → get_or class 1 e ≡ record { input = own; column = link.from_column } → get_or class 0 d ≡ record { input = input; column = link.index_column }
    → TwoDecide (class ∷ []) own input link.from_column link.index_column
own_second class own input link d e least below differ first second = subst (λ (cs : List ClassCol). TwoDecide (cs ∷ []) own input link.from_column link.index_column) (sym (two_columns class d e least below ∙ ap₂ (λ (a b : ClassCol). a ∷ b ∷ []) second first)) record {
  alone = λ x at. and-true (agrees_with_class [] x (theirs ∷ mine ∷ [])) ∙ first_apart theirs mine own (λ q. differ (sym q)) x at;
  both = λ x y ex ey. and-true (agrees_with_class (x ∷ []) y (theirs ∷ mine ∷ [])) ∙ second_decides theirs mine own input refl refl differ x y ex ey;
}
  where
    mine : ClassCol
    mine = record { input = own; column = link.from_column }

    theirs : ClassCol
    theirs = record { input = input; column = link.index_column }
