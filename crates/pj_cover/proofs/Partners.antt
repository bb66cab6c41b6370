-- Stored rows that join with others are found by an index.
use Rattle.std.proofs.Common.{ℕ, ◌+◌, ◌<◌, Bool, true, false, cond, List, [], ◌∷◌, ◌++◌, ◌≡◌, ◌⊎◌, Bor, Option, Some, None, map, filter, length, take, drop, get_or, refl, sym, ap, ap₂, ◌∙◌, subst, inl, inr, eqb, arith}
use Rattle.std.specs.List.{slice_get}
use Rattle.std.specs.Prelude.{IfSome}
use Rattle.std.proofs.lemmas.Bool.{false≢true, eqb-true, eq-eqb}
use Rattle.std.proofs.lemmas.List.{take_more}
use Rattle.std.proofs.lemmas.Option.{get_or_from_slice_get, slice_get_within, slice_get-get_or}
use Rattle.pj_value.specs.declared.values.Value.{Value}
use Rattle.pj_value.specs.Values.{value_eq}
use Rattle.pj_value.proofs.Members.{In-append_cases, In-filter_from, In-map, In-map_from}
use Rattle.pj_value.proofs.Orders.{equal_itself}
use Rattle.pj_value.specs.Options.{is_value}
use Rattle.pj_shape.specs.declared.joins.JoinSpec.{JoinSpec}
use Rattle.pj_shape.specs.Sound.{IsSoundSpec, arities_of}
use Rattle.pj_events.specs.Join.{In, TupleAt, ClassCol, CertEntry, CertStep, agree, no_value, part_of, value_at, values}
use Rattle.pj_join_laws.proofs.Matching.{agree-at, value-in, values-mono}
use Rattle.pj_cover.specs.declared.ripeness.Verdict.{Verdict}
use Rattle.pj_puncts.specs.Stores.{Store}
use Rattle.pj_cover.specs.Rising.{AreAbove, AreRisingRows, has_there_value, row_with, tickets_with}
use Rattle.pj_rows.specs.Tuples.{ticket_in}
use Rattle.pj_cover.specs.Asking.{Known, AreDone, AreDoneUnder, AreParts, Decides, IsOnWalk, HaveLength, HavePartners, IsDone, IsJudgedThrough, IsJudgedUnder, IsPartnerKey, tuple_of}
use Rattle.pj_cover.proofs.Bound.{class-cells}
use Rattle.pj_cover.proofs.Judged.{says_more}
use Rattle.pj_puncts.proofs.Lent.{drop_here}
use Rattle.pj_cover.proofs.Steps.{length-map}

-- the rows of a step's input fit
pub step_fits : (spec : JoinSpec) (schemes : List (List (List Bool))) (rows : ℕ → List (ℕ × List Value)) (punct_stores : List Store) (cert : List CertStep) (at : ℕ) (step : CertStep) (xs : List TupleAt)
    → AreParts spec rows punct_stores → IsOnWalk spec schemes (drop at cert) xs → slice_get cert at ≡ Some step → HaveLength (get_or (arities_of spec.inputs) step.input 0) (rows step.input)
step_fits spec schemes rows punct_stores cert at step xs parts walk here =
    let w = subst (λ (steps : List CertStep). IsOnWalk spec schemes steps xs) (drop_here cert at step here) walk in
    let n : length (arities_of spec.inputs) ≡ length spec.inputs = length-map length spec.inputs in
    let below : step.input < length (arities_of spec.inputs) = w.walk.0 in
    parts.fit step.input (omega (arith, n, below))

-- a row that joins with these has the value that the class tells
partner-value : (classes : List (List ClassCol)) (xs : List TupleAt) (y : TupleAt) (input column : ℕ) (value : Value) → IsPartnerKey classes xs input column value → y.input ≡ input → agree classes (y ∷ xs) ≡ true
    → value_at y.row column ≡ value
partner-value classes xs y input column value key of joins =
    let own : ClassCol = record { input = input; column = column } in
    let theirs : In value (values (map part_of (y ∷ xs)) key.0) = values-mono xs (y ∷ xs) key.0 (λ x h. inr h) value key.3 in
    agree-at classes (y ∷ xs) key.0 (get_or y.row column no_value) value joins key.1 (value-in (y ∷ xs) key.0 y own (inl refl) key.2 of) theirs

pub have_partners : (spec : JoinSpec) (xs : List TupleAt) (rows : List (ℕ × List Value)) (input column : ℕ) (value : Value) → IsSoundSpec spec → HaveLength (get_or (arities_of spec.inputs) input 0) rows
    → IsPartnerKey spec.classes xs input column value → HavePartners spec.classes xs (map (tuple_of input) rows) (tickets_with column value rows)
have_partners spec xs rows input column value sound fit key y h joins =
    let r = In-map (tuple_of input) y rows h in
    let of : y.input ≡ input = ap (λ (z : TupleAt). z.input) (sym r.2) in
    let fits : (z : TupleAt) → In z (y ∷ []) → length z.row ≡ get_or (arities_of spec.inputs) z.input 0 = λ z k. elim k [
      | inl q ↦ subst (λ (w : TupleAt). length w.row ≡ get_or (arities_of spec.inputs) w.input 0) (r.2 ∙ q) (fit r.0 r.1)
      | inr n ↦ absurd n
    ] in
    let lt : column < length y.row = class-cells spec key.0 (y ∷ []) sound key.1 fits (record { input = input; column = column }) key.2 y (inl refl) of in
    let have : is_value value (slice_get y.row column) ≡ true =
    ap (is_value value) (slice_get-get_or y.row column no_value lt) ∙ ap (λ (v : Value). value_eq v value) (partner-value spec.classes xs y input column value key of joins) ∙ equal_itself value in
    let its : has_there_value column value r.0 ≡ true = ap (λ (z : TupleAt). is_value value (slice_get z.row column)) r.2 ∙ have in
    subst (λ (n : ℕ). In n (tickets_with column value rows)) (ap (λ (z : TupleAt). z.ticket) r.2) (In-map_from ticket_in r.0 (filter (has_there_value column value) rows) (In-filter_from (has_there_value column value) r.0 rows r.1 its))

pub partners_told : (spec : JoinSpec) (xs : List TupleAt) (rows : List (ℕ × List Value)) (input column : ℕ) (value : Value) (tickets : Option (Bor (List ℕ))) → IsSoundSpec spec → HaveLength (get_or (arities_of spec.inputs) input 0) rows
    → IsPartnerKey spec.classes xs input column value → IfSome tickets (λ t. t.now ≡ tickets_with column value rows) → IfSome tickets (λ t. HavePartners spec.classes xs (map (tuple_of input) rows) t.now)
partners_told spec xs rows input column value None sound fit key is = tt
partners_told spec xs rows input column value (Some t) sound fit key is =
    subst (λ (ts : List ℕ). HavePartners spec.classes xs (map (tuple_of input) rows) ts) (sym is) (have_partners spec xs rows input column value sound fit key)

-- ---- the row under a ticket

no-such : (ticket : ℕ) (rows : List (ℕ × List Value)) → row_with ticket rows ≡ None → (r : ℕ × List Value) → In r rows → r.0 ≡ ticket → ⊥
no-such ticket [] e r h same = h
no-such ticket (q ∷ rows) e r h same = go (eqb q.0 ticket) refl e h (λ n k. no-such ticket rows n r k same)
  where
    go : (b : Bool) → eqb q.0 ticket ≡ b → cond b (Some q.1) (row_with ticket rows) ≡ None → (q ≡ r) ⊎ In r rows → (row_with ticket rows ≡ None → In r rows → ⊥) → ⊥
    go true f n k ih = absurd (cc)
    go false f n (inl is) ih = false≢true (sym f ∙ eq-eqb q.0 ticket (ap (λ (z : ℕ × List Value). z.0) is ∙ same))
    go false f n (inr k) ih = ih n k

above-in : (n : ℕ) (rows : List (ℕ × List Value)) → AreAbove n rows → (r : ℕ × List Value) → In r rows → n < r.0
above-in n [] a r h = absurd h
above-in n (q ∷ rows) a r (inl is) = subst (λ (z : ℕ × List Value). n < z.0) is a.0
above-in n (q ∷ rows) a r (inr k) = above-in n rows a.1 r k

the-one : (ticket : ℕ) (row : List Value) (rows : List (ℕ × List Value)) → AreRisingRows rows → row_with ticket rows ≡ Some row → (r : ℕ × List Value) → In r rows → r.0 ≡ ticket → r ≡ (ticket, row)
the-one ticket row [] rises e r h same = absurd h
the-one ticket row (q ∷ rows) rises e r h same = go (eqb q.0 ticket) refl e h (λ n k. the-one ticket row rows rises.1 n r k same)
  where
    pair : (z : ℕ × List Value) → z.0 ≡ ticket → z.1 ≡ row → z ≡ (ticket, row)
    pair z a b = ap₂ (λ n w. (n, w)) a b

    go : (b : Bool) → eqb q.0 ticket ≡ b → cond b (Some q.1) (row_with ticket rows) ≡ Some row → (q ≡ r) ⊎ In r rows → (row_with ticket rows ≡ Some row → In r rows → r ≡ (ticket, row)) → r ≡ (ticket, row)
    go true f n (inl is) ih = let own : q.1 ≡ row = cc in sym is ∙ pair q (eqb-true q.0 ticket f) own
    go true f n (inr k) ih =
        let lt : q.0 < r.0 = above-in q.0 rows rises.0 r k in
        let at : q.0 ≡ ticket = eqb-true q.0 ticket f in
        absurd (omega (arith, lt, at, same))
    go false f n (inl is) ih = absurd (false≢true (sym f ∙ eq-eqb q.0 ticket (ap (λ (z : ℕ × List Value). z.0) is ∙ same)))
    go false f n (inr k) ih = ih n k

pub found_in : (ticket : ℕ) (row : List Value) (rows : List (ℕ × List Value)) → row_with ticket rows ≡ Some row → In (ticket, row) rows
found_in ticket row [] e = absurd (cc)
found_in ticket row (q ∷ rows) e = go (eqb q.0 ticket) refl e (found_in ticket row rows)
  where
    go : (b : Bool) → eqb q.0 ticket ≡ b → cond b (Some q.1) (row_with ticket rows) ≡ Some row → (row_with ticket rows ≡ Some row → In (ticket, row) rows) → In (ticket, row) (q ∷ rows)
    go true f n ih = let own : q.1 ≡ row = cc in inl (ap₂ (λ m w. (m, w)) (eqb-true q.0 ticket f) own)
    go false f n ih = inr (ih n)

-- ---- what was judged through rows under tickets

pub no_row_under : (k : Known) (cert : List CertEntry) (xs : List TupleAt) (input ticket : ℕ) (rows : List (ℕ × List Value)) → row_with ticket rows ≡ None → AreDoneUnder k cert xs (map (tuple_of input) rows) (ticket ∷ [])
no_row_under k cert xs input ticket rows none = λ y h n. elim n [
  | inl is ↦ let r = In-map (tuple_of input) y rows h in absurd (no-such ticket rows none r.0 r.1 (ap (λ (z : TupleAt). z.ticket) r.2 ∙ sym is))
  | inr n' ↦ absurd n'
]

one-done : (k : Known) (cert : List CertEntry) (xs : List TupleAt) (input ticket : ℕ) (row : List Value) (rows : List (ℕ × List Value)) → AreRisingRows rows → row_with ticket rows ≡ Some row
    → IsDone k cert xs (tuple_of input (ticket, row)) → AreDoneUnder k cert xs (map (tuple_of input) rows) (ticket ∷ [])
one-done k cert xs input ticket row rows rises is done y h n = elim n [
  | inl same ↦
      let r = In-map (tuple_of input) y rows h in
      let one : r.0 ≡ (ticket, row) = the-one ticket row rows rises is r.0 r.1 (ap (λ (z : TupleAt). z.ticket) r.2 ∙ sym same) in
      let it : tuple_of input (ticket, row) ≡ y = ap (tuple_of input) (sym one) ∙ r.2 in
      subst (λ (z : TupleAt). IsDone k cert xs z) it done
  | inr n' ↦ absurd n'
]

-- the one row with the ticket decides as it is
pub row_under_decides : (k : Known) (cert : List CertEntry) (xs : List TupleAt) (input ticket : ℕ) (row : List Value) (rows : List (ℕ × List Value)) (told : Option Verdict) → AreRisingRows rows → row_with ticket rows ≡ Some row
    → Decides (IsDone k cert xs (tuple_of input (ticket, row))) k cert xs (map (tuple_of input) rows) told → Decides (AreDoneUnder k cert xs (map (tuple_of input) rows) (ticket ∷ [])) k cert xs (map (tuple_of input) rows) told
row_under_decides k cert xs input ticket row rows None rises is d = one-done k cert xs input ticket row rows rises is d
row_under_decides k cert xs input ticket row rows (Some v) rises is d = d

under-more : (k : Known) (cert : List CertEntry) (xs ys : List TupleAt) (before : List ℕ) (ticket : ℕ) → AreDoneUnder k cert xs ys before → AreDoneUnder k cert xs ys (ticket ∷ []) → AreDoneUnder k cert xs ys (before ++ ticket ∷ [])
under-more k cert xs ys before ticket a b = λ y h n. elim (In-append_cases y.ticket before (ticket ∷ []) n) [ inl q ↦ a y h q | inr q ↦ b y h q ]

-- one ticket more
pub one_more_under : (k : Known) (cert : List CertEntry) (xs zs ys : List TupleAt) (tickets : List ℕ) (n ticket : ℕ) → slice_get tickets n ≡ Some ticket → zs ≡ xs → AreDoneUnder k cert xs ys (take n tickets)
    → AreDoneUnder k cert zs ys (ticket ∷ []) → AreDoneUnder k cert xs ys (take (n + 1) tickets)
one_more_under k cert xs zs ys tickets n ticket here same done more =
    let now : AreDoneUnder k cert xs ys (ticket ∷ []) = subst (λ (ws : List TupleAt). AreDoneUnder k cert ws ys (ticket ∷ [])) same more in
    subst (λ (ts : List ℕ). AreDoneUnder k cert xs ys ts) (sym (take_more tickets n ticket (slice_get_within tickets n ticket here) ∙ ap (λ t. take n tickets ++ t ∷ []) (get_or_from_slice_get tickets n ticket ticket here)))
    (under-more k cert xs ys (take n tickets) ticket done now)

-- what is said of all is said of those
pub said_under : (k : Known) (cert : List CertEntry) (xs zs ys : List TupleAt) (tickets : List ℕ) (v : Verdict) → zs ≡ xs → IsJudgedThrough k cert zs ys v → IsJudgedUnder k cert xs ys tickets v
said_under k cert xs zs ys tickets v same j =
    says_more (AreDone k cert xs ys) (AreDoneUnder k cert xs ys tickets) k cert xs v (λ done y h n. done y h) (subst (λ (ws : List TupleAt). IsJudgedThrough k cert ws ys v) same j)

under-whole : (k : Known) (cert : List CertEntry) (xs ys : List TupleAt) (tickets : List ℕ) → HavePartners k.classes xs ys tickets → AreDoneUnder k cert xs ys tickets → AreDone k cert xs ys
under-whole k [] xs ys tickets have done = λ y h. tt
under-whole k (e ∷ cert) xs ys tickets have done = λ y h m. done y h (have y h m.joins) m

-- those with these tickets are all that join
pub whole_under : (k : Known) (cert : List CertEntry) (xs zs ys : List TupleAt) (tickets : List ℕ) (v : Verdict) → zs ≡ xs → HavePartners k.classes zs ys tickets → IsJudgedUnder k cert xs ys tickets v → IsJudgedThrough k cert xs ys v
whole_under k cert xs zs ys tickets v same have j =
    says_more (AreDoneUnder k cert xs ys tickets) (AreDone k cert xs ys) k cert xs v (under-whole k cert xs ys tickets (subst (λ (ws : List TupleAt). HavePartners k.classes ws ys tickets) same have)) j
