-- What a tuple of two inputs is joined with is found by one look-up.
use Rattle.std.proofs.Common.{◌≡◌, ℕ, ◌<◌, ◌-◌, Bool, true, false, ◌&&◌, List, [], ◌∷◌, filter, map, length, get_or, refl, sym, ap, ap₂, ◌∙◌, subst, inl, inr, ltb, cond, arith}
use Rattle.std.specs.Arc.{arc_value}
use Rattle.std.proofs.lemmas.Bool.{and_from, and_parts, eq-eqb, false_from_ne_true, false≢true}
use Rattle.pj_value.specs.declared.values.Value.{Value}
use Rattle.pj_value.proofs.Members.{filter-agree}
use Rattle.pj_state.specs.declared.shared.Stored.{Stored}
use Rattle.pj_state.specs.States.{StateView}
use Rattle.pj_shape.specs.Joining.{parts_on}
use Rattle.pj_events.specs.declared.events.Out.TheVariants.{Tuple}
use Rattle.pj_events.specs.Join.{ClassCol, In, TupleAt, agree, joined, joins, product}
use Rattle.pj_join_laws.proofs.Matching.{agree-mono}
use Rattle.pj_rows.specs.AgreesWith.{agrees_with}
use Rattle.pj_rows.specs.Tuples.{AreWide, no_state, state_at, tuple_in, tuples_in}
use Rattle.pj_rows.proofs.Agreeing.{agrees_with-from}
use Rattle.pj_rows.proofs.States.{same-at, side_at, tuples-length}
use Rattle.pj_probe.specs.Choices.{choice, choices, older_joins}
use Rattle.pj_probe.specs.Partners.{AllAgree, AreLinkedTo, ArePartners}
use Rattle.pj_probe.specs.Results.{found_out, older_agrees, pair_of, pairs_out}
use Rattle.pj_probe.specs.Routes.{InOneClass, IsOwnLink, IsProbeRoute, TwoDecide, columns_of}
use Rattle.pj_probe.specs.declared.route.ProbeLink.{ProbeLink}
use Rattle.pj_probe.specs.declared.route.ProbeRoute.{ProbeRoute}
use Rattle.pj_probe.proofs.Checked.{same-ways}
use Rattle.pj_probe.proofs.Decided.{decided_agree}
use Rattle.pj_probe.proofs.Filtering.{filter-none}
use Rattle.pj_probe.proofs.Finding.{product-has}
use Rattle.pj_probe.proofs.HandedOut.{both-found}
use Rattle.pj_probe.proofs.Pairs.{own-pair, two_states}
use Rattle.pj_probe.proofs.Routed.{columns_at}
use Rattle.pj_probe.proofs.Wanted.{candidates_hold, wanted_by_link}

-- ---- two tuples

-- two tuples join where the first agrees with itself and the second suits it
agree-agrees_with : (classes : List (List ClassCol)) (own y : TupleAt) → agree classes (own ∷ y ∷ []) ≡ (agrees_with classes [] own && agrees_with classes (own ∷ []) y)
agree-agrees_with classes own y = same-ways (agree classes (own ∷ y ∷ [])) (agrees_with classes [] own && agrees_with classes (own ∷ []) y) parts (λ t. let two = and_parts (agrees_with classes [] own) (agrees_with classes (own ∷ []) y) t in own-pair classes own y two.0 two.1)
  where
    parts : agree classes (own ∷ y ∷ []) ≡ true → (agrees_with classes [] own && agrees_with classes (own ∷ []) y) ≡ true
    parts t = and_from (agrees_with classes [] own) (agrees_with classes (own ∷ []) y) (agrees_with-from classes [] own (agree-mono classes (own ∷ []) (own ∷ y ∷ []) first t)) (agrees_with-from classes (own ∷ []) y t)
      where
        first : (z : TupleAt) → In z (own ∷ []) → In z (own ∷ y ∷ [])
        first z (inl e) = inl e
        first z (inr k) = absurd k

-- the tuple is of the first input
pub first_before : (classes : List (List ClassCol)) (own other : TupleAt) (first second : List Value) (b : Bool) → own.input ≡ 0 → other.input ≡ 1 - own.input → first ≡ own.row → second ≡ other.row → b ≡ joins classes (parts_on 0 (first ∷ second ∷ []))
    → b ≡ agree classes (own ∷ other ∷ [])
first_before classes own other first second b zero one p q is =
    is
    ∙ ap₂ (λ (r s : List Value). joins classes (parts_on 0 (r ∷ s ∷ []))) p q
    ∙ ap₂ (λ (i j : ℕ). joins classes (record { input = i; row = own.row } ∷ record { input = j; row = other.row } ∷ [])) (sym zero) (sym (one ∙ ap (λ i. 1 - i) zero))

-- it is of the second one
pub second_before : (classes : List (List ClassCol)) (own other : TupleAt) (first second : List Value) (b : Bool) → own.input ≡ 1 → other.input ≡ 1 - own.input → first ≡ other.row → second ≡ own.row → b ≡ joins classes (parts_on 0 (first ∷ second ∷ []))
    → b ≡ agree classes (own ∷ other ∷ [])
second_before classes own other first second b one zero p q is =
    first_before classes other own first second b (zero ∙ ap (λ i. 1 - i) one) (one ∙ ap (λ i. 1 - i) (sym (zero ∙ ap (λ i. 1 - i) one))) p q is
    ∙ same-ways (agree classes (other ∷ own ∷ [])) (agree classes (own ∷ other ∷ [])) (agree-mono classes (own ∷ other ∷ []) (other ∷ own ∷ []) (turned own other)) (agree-mono classes (other ∷ own ∷ []) (own ∷ other ∷ []) (turned other own))
  where
    turned : (x y z : TupleAt) → In z (x ∷ y ∷ []) → In z (y ∷ x ∷ [])
    turned x y z (inl e) = inr (inl e)
    turned x y z (inr (inl e)) = inl e
    turned x y z (inr (inr k)) = absurd k

-- ---- the rows of the other input

-- where the tuple does not agree with itself nothing is found
none-found : (classes : List (List ClassCol)) (own : TupleAt) (sides : List (List TupleAt)) → own.input < length sides → agrees_with classes [] own ≡ false → found_out classes own sides ≡ []
none-found classes own sides lt not = ap (λ (cs : List (List TupleAt)). map Tuple (map joined cs)) (nothing (product (choices classes own sides)) (λ c h. false_from_ne_true (agree classes c) (λ t. false≢true (sym not ∙ agrees_with-from classes [] own (agree-mono classes (own ∷ []) c (inside c h) t)))))
  where
    nothing : (cs : List (List TupleAt)) → ((c : List TupleAt) → In c cs → agree classes c ≡ false) → filter (agree classes) cs ≡ []
    nothing [] f = refl
    nothing (c ∷ cs) f = ap (λ b. cond b (c ∷ filter (agree classes) cs) (filter (agree classes) cs)) (f c (inl refl)) ∙ nothing cs (λ d h. f d (inr h))

    itself : choice classes own sides own.input ≡ own ∷ []
    itself = ap (λ b. cond b (own ∷ []) (filter (older_joins classes own) (get_or sides own.input []))) (eq-eqb own.input own.input refl)

    inside : (c : List TupleAt) → In c (product (choices classes own sides)) → (z : TupleAt) → In z (own ∷ []) → In z c
    inside c h z (inl e) = subst (λ (y : TupleAt). In y c) e (product-has own (choice classes own sides) own.input 0 (length sides) itself (omega arith) (omega (arith, lt)) c h)
    inside c h z (inr k) = absurd k

-- among rows that hold all which may join are all that the results are joined of
pairs-found : (classes : List (List ClassCol)) (own : TupleAt) (row_states : List StateView) (input : ℕ) (among : List TupleAt) → own.input < 2 → length row_states ≡ 2 → input ≡ 1 - own.input
    → filter (older_joins classes own) among ≡ filter (older_joins classes own) (map (tuple_in input) (state_at row_states input).rows) → pairs_out classes own among ≡ found_out classes own (tuples_in 0 row_states)
pairs-found classes own row_states input among lt two is same = go (agrees_with classes [] own) refl
  where
    there : input < length row_states
    there = omega (arith, is, two)

    side : map (tuple_in input) (state_at row_states input).rows ≡ get_or (tuples_in 0 row_states) input []
    side = sym (side_at row_states input (state_at row_states input) there (same-at row_states input no_state (state_at row_states input) there))

    go : (b : Bool) → agrees_with classes [] own ≡ b → pairs_out classes own among ≡ found_out classes own (tuples_in 0 row_states)
    go true alone =
        ap (λ (ys : List TupleAt). map Tuple (map (pair_of own) ys))
        (filter-agree (older_agrees classes own) (older_joins classes own) among (λ y h. ap (λ b. ltb y.ticket own.ticket && b) (agree-agrees_with classes own y ∙ ap (λ b. b && agrees_with classes (own ∷ []) y) alone))
        ∙ same
        ∙ ap (filter (older_joins classes own)) side)
        ∙ ap (map Tuple) (both-found classes own (tuples_in 0 row_states) input lt (tuples-length 0 row_states ∙ two) (two_states classes own row_states lt two alone) is)
    go false not =
        ap (λ (ys : List TupleAt). map Tuple (map (pair_of own) ys)) (filter-none (older_agrees classes own) among (λ y. false_from_ne_true (older_agrees classes own y) (λ t. false≢true (sym not ∙ (and_parts (agrees_with classes [] own) (agrees_with classes (own ∷ []) y) (sym (agree-agrees_with classes own y) ∙ (and_parts (ltb y.ticket own.ticket) (agree classes (own ∷ y ∷ [])) t).1)).0))))
        ∙ sym (none-found classes own (tuples_in 0 row_states) (omega (arith, lt, two, tuples-length 0 row_states)) not)

-- an index is kept for a link of the route
pub link_indexed : (own : TupleAt) (row_states : List StateView) (route : ProbeRoute) (input : ℕ) (link : ProbeLink) → length row_states ≡ 2 → IsProbeRoute (arc_value route.checks) (columns_of row_states) own.input route
    → input ≡ 1 - own.input → In link route.links → In link.index_column (state_at row_states input).columns
link_indexed own row_states route input link two right other has =
    subst (λ (cs : List ℕ). In link.index_column cs) (columns_at row_states input no_state (omega (arith, other, two))) (subst (λ n. In link.index_column (get_or (columns_of row_states) n [])) (sym other) (right.links_lead link has).indexed)

-- rows that a link of the route leads to are such
pub partners_found : (own : TupleAt) (row_states : List StateView) (route : ProbeRoute) (input : ℕ) (link : ProbeLink) (found : List Stored) → own.input < length row_states → length row_states ≡ 2 → AreWide row_states → IsProbeRoute (arc_value route.checks) (columns_of row_states) own.input route
    → input ≡ 1 - own.input → In link route.links → AreLinkedTo own link (state_at row_states input).rows found → ArePartners route own row_states found
partners_found own row_states route input link found lt two wide right other has linked = record {
  two = omega (arith, lt, two);
  all = ap (λ n. pairs_out classes own (map (tuple_in n) found)) (sym other) ∙ pairs-found classes own row_states input (map (tuple_in input) found) (omega (arith, lt, two)) two other
      (candidates_hold classes own (state_at row_states input) found input link.index_column linked.0 (wide input there) (wanted_by_link classes own input link linked.0 is.from (subst (λ n. InOneClass classes n link) (sym other) is.class_has) (sym linked.1)) (link_indexed own row_states route input link two right other has) linked.2);
  decided = λ t. subst (λ n. AllAgree classes own n found) other (decided_agree classes own input link (state_at row_states input).rows found (subst (λ n. TwoDecide classes own.input n link.from_column link.index_column) (sym other) (right.decides t link has)) linked);
}
  where
    classes : List (List ClassCol)
    classes = arc_value route.checks

    is : IsOwnLink classes (columns_of row_states) own.input link
    is = right.links_lead link has

    there : input < length row_states
    there = omega (arith, other, two)
