-- Where an input has no row that can stand beside a tuple nothing joins.
use Rattle.std.proofs.Common.{ℕ, zero, suc, ◌+◌, ◌<◌, true, false, cond, List, [], ◌∷◌, ◌≡◌, Option, None, Some, map, filter, set, take, length, get_or, refl, sym, ap, ◌∙◌, subst, inl, inr, arith}
use Rattle.std.specs.List.{slice_get}
use Rattle.std.specs.Prelude.{IfSome}
use Rattle.std.proofs.lemmas.Bool.{false≢true, false_from_ne_true}
use Rattle.std.proofs.lemmas.List.{get_or-set_same}
use Rattle.std.proofs.lemmas.Option.{get_or_from_slice_get, slice_get_within}
use Rattle.pj_value.proofs.Members.{In-filter, in-place}
use Rattle.pj_state.specs.declared.shared.Stored.{Stored}
use Rattle.pj_state.specs.States.{StateView, is_below, pair_of, tickets_of}
use Rattle.pj_probe.specs.Walking.{LacksOne}
use Rattle.pj_probe.specs.Walks.{sides_at, tuple_at}
use Rattle.pj_events.specs.Join.{ClassCol, In, TupleAt, agree, joined, product, value_at}
use Rattle.pj_join_laws.proofs.Matching.{agree-at, value-in}
use Rattle.pj_probe.specs.Hops.{AreFound, AreMore, BeginsWith, FindAll, LacksAny, LacksPartner, all_older, is_among, older_at}
use Rattle.pj_probe.specs.Partners.{AreLinkedTo}
use Rattle.pj_probe.specs.Routes.{AreInClasses, InOneClass, IsRoute, IsStep, LeadsTo, columns_of, is_reached}
use Rattle.pj_probe.specs.declared.route.ProbeLink.{ProbeLink}
use Rattle.pj_probe.specs.declared.route.ProbeStep.{ProbeStep}
use Rattle.pj_rows.specs.Tuples.{AreWide, no_state, state_at}
use Rattle.pj_probe.proofs.Combining.{combined-lacking}
use Rattle.pj_probe.proofs.Hopped.{Pairs, more_with, older-finds, older-input, older-own, older-row, product-some, set-length}
use Rattle.pj_probe.proofs.Routed.{columns_at, own_reached, reached_now, step_there, steps_with}

-- no combination of older tuples joins, by whatever classes the links of these steps stand in
abbrev NothingJoins : TupleAt → List StateView → List ProbeStep → Type 0
NothingJoins own row_states steps = (classes : List (List ClassCol)) → AreInClasses classes steps → (c : List TupleAt) → In c (product (all_older own row_states)) → agree classes c ≡ true → ⊥

-- so lists that lack a row are as good as all
nothing-found : (own : TupleAt) (row_states : List StateView) (steps : List ProbeStep) (lists : List Pairs) → own.input < length row_states → LacksOne lists → NothingJoins own row_states steps → FindAll own row_states steps lists
nothing-found own row_states steps lists own-there lacks apart classes links =
    map-nil joined (filter (agree classes) (product (sides_at 0 lists))) (combined-lacking classes lists lacks)
    ∙ sym (filter-none (product (all_older own row_states)) (λ c h. false_from_ne_true (agree classes c) (apart classes links c h)))
    ∙ older-finds classes own row_states own-there
  where
    map-nil : {A B : Type 0} (g : A → B) (xs : List A) → map g xs ≡ [] → xs ≡ []
    map-nil g [] e = refl
    map-nil {A} {B} g (x ∷ xs) e = absurd (omega (arith, ap (λ (ys : List B). length ys) e))

    filter-none : (cs : List (List TupleAt)) → ((c : List TupleAt) → In c cs → agree classes c ≡ false) → filter (agree classes) cs ≡ []
    filter-none [] all = refl
    filter-none (c ∷ cs) all = ap (λ b. cond b (c ∷ filter (agree classes) cs) (filter (agree classes) cs)) (all c (inl refl)) ∙ filter-none cs (λ d h. all d (inr h))

-- where a step found no row nothing joins
pub none_found : (own : TupleAt) (row_states : List StateView) (steps : List ProbeStep) (i : ℕ) (step : ProbeStep) (lists lists' : List Pairs) (rows : Pairs) → IsRoute (columns_of row_states) own.input steps → slice_get steps i ≡ Some step → own.input < length row_states
    → AreFound own row_states (take (i + 1) steps) lists' → length lists ≡ length row_states → lists' ≡ set lists step.input rows → length rows ≡ 0 → FindAll own row_states steps lists'
none_found own row_states steps i step lists lists' rows route at own-there are count f none = nothing-found own row_states steps lists' own-there (step.input, within, lacks) apart
  where
    empty : (ps : Pairs) → length ps ≡ 0 → ps ≡ []
    empty [] e = refl
    empty (p ∷ ps) e = absurd (omega (arith, e))

    there : step.input < length row_states
    there = step_there own.input row_states steps i step route at

    in-lists : step.input < length lists
    in-lists = omega (arith, there, count)

    lacks : get_or lists' step.input [] ≡ []
    lacks = ap (λ (ls : List Pairs). get_or ls step.input []) f ∙ get_or-set_same lists step.input rows [] in-lists ∙ empty rows none

    within : step.input < length lists'
    within = omega (arith, in-lists, ap (λ (ls : List Pairs). length ls) f, set-length lists step.input rows)

    in-take : (n : ℕ) (ss : List ProbeStep) (s : ProbeStep) → In s (take n ss) → In s ss
    in-take zero ss s h = absurd h
    in-take (suc n) [] s h = absurd h
    in-take (suc n) (t ∷ ss) s (inl e) = inl e
    in-take (suc n) (t ∷ ss) s (inr h) = inr (in-take n ss s h)

    reached : is_reached own.input (take (i + 1) steps) step.input ≡ true
    reached = subst (λ (ss : List ProbeStep). is_reached own.input ss step.input ≡ true) (sym (steps_with steps i step at)) (reached_now own.input (take i steps) step)

    apart : NothingJoins own row_states steps
    apart classes links c h a =
        let x = product-some (older_at own row_states) 0 (length row_states) step.input (omega arith) (omega (arith, there)) c h in
        let choice = are.each classes (λ s m. links s (in-take (i + 1) steps s m)) step.input reached in
        let among : is_among (get_or lists' step.input []) x.0 ≡ true = choice.passes c h a x.0 x.1 (older-input own row_states step.input x.0 x.2) in
        false≢true (subst (λ (ps : Pairs). is_among ps x.0 ≡ true) lacks among)

-- ---- what is seen before a step is gone

-- a step's link leads to a column of which an index is kept
pub step_indexed : (own : ℕ) (row_states : List StateView) (steps : List ProbeStep) (i : ℕ) (step : ProbeStep) → IsRoute (columns_of row_states) own steps → slice_get steps i ≡ Some step → IfSome step.link (λ link. In link.index_column (state_at row_states step.input).columns)
step_indexed own row_states steps i step route at = go step.link (route.ordered i step at).link
  where
    go : (l : Option ProbeLink) → IfSome l (LeadsTo (get_or (columns_of row_states) step.input []) own (take i steps)) → IfSome l (λ link. In link.index_column (state_at row_states step.input).columns)
    go None lead = tt
    go (Some link) lead = subst (λ (cs : List ℕ). In link.index_column cs) (columns_at row_states step.input no_state (step_there own row_states steps i step route at)) lead.indexed

-- the tuple is joined with no row of an input of which none has its value
linked-apart : (classes : List (List ClassCol)) (own : TupleAt) (row_states : List StateView) (input : ℕ) (link : ProbeLink) (c : List TupleAt) (x : TupleAt) (s : Stored) → AreWide row_states → input < length row_states → In link.index_column (state_at row_states input).columns
    → InOneClass classes input link → link.from_input ≡ own.input → AreLinkedTo own link (state_at row_states input).rows [] → agree classes c ≡ true → In own c → In x c → x.input ≡ input → In s (state_at row_states input).rows → tuple_at input (pair_of s) ≡ x → ⊥
linked-apart classes own row_states input link c x s wide lt indexed class from linked a own-in x-in xi h is = more.more s h (ap (λ (z : TupleAt). value_at z.row link.index_column) is ∙ same)
  where
    more : AreMore (state_at row_states input).rows link.index_column (value_at own.row link.from_column) [] []
    more =
        more_with (state_at row_states input) link.index_column link.from_column own.row linked.0 [] [] [] (wide input lt) indexed linked.1 (ap tickets_of linked.2) refl

    same : value_at x.row link.index_column ≡ value_at own.row link.from_column
    same =
        agree-at classes c class.0 (value_at x.row link.index_column) (value_at own.row link.from_column) a class.1
        (value-in c class.0 x (record { input = input; column = link.index_column }) x-in class.2 xi) (value-in c class.0 own (record { input = link.from_input; column = link.from_column }) own-in class.3 (sym from))

-- where a step lacks partners of the tuple nothing joins, and what was begun with is as good as all
pub lacking_found : (own : TupleAt) (row_states : List StateView) (steps : List ProbeStep) (lists found : List Pairs) (count : ℕ) → IsRoute (columns_of row_states) own.input steps → AreWide row_states → own.input < length row_states → count ≡ length row_states
    → BeginsWith own count lists → LacksAny own row_states steps → found ≡ lists → FindAll own row_states steps found
lacking_found own row_states steps lists found count route wide own-there e begun (i, step, at, lacks) same =
    nothing-found own row_states steps found own-there (subst (λ (ls : List Pairs). LacksOne ls) (sym same) (step.input, omega (arith, there, e, begun.lists_are), begun.others step.input (omega (arith, there, e)) ne)) apart
  where
    is : IsStep (columns_of row_states) own.input (take i steps) step
    is = route.ordered i step at

    there : step.input < length row_states
    there = step_there own.input row_states steps i step route at

    ne : step.input ≡ own.input → ⊥
    ne q = false≢true (sym is.other ∙ ap (is_reached own.input (take i steps)) q ∙ own_reached own.input (take i steps))

    in-steps : In step steps
    in-steps = subst (λ (s : ProbeStep). In s steps) (get_or_from_slice_get steps i step step at) (in-place steps step i (slice_get_within steps i step at))

    itself : (x : TupleAt) → In x (older_at own row_states own.input) → x ≡ own
    itself x h = only (subst (λ (ys : List TupleAt). In x ys) (older-own own row_states) h)
      where
        only : In x (own ∷ []) → x ≡ own
        only (inl q) = sym q
        only (inr q) = absurd q

    apart : NothingJoins own row_states steps
    apart classes links c h a =
        let x = product-some (older_at own row_states) 0 (length row_states) step.input (omega arith) (omega (arith, there)) c h in
        let w = product-some (older_at own row_states) 0 (length row_states) own.input (omega arith) (omega (arith, own-there)) c h in
        let s = older-row own row_states step.input x.0 ne x.2 in
        let stored : In s.0 (state_at row_states step.input).rows = (In-filter (is_below own.ticket) s.0 (state_at row_states step.input).rows s.1).0 in
        go x.0 x.1 (older-input own row_states step.input x.0 x.2) (subst (λ (z : TupleAt). In z c) (itself w.0 w.2) w.1) s.0 stored s.2 lacks
      where
        go : (x : TupleAt) → In x c → x.input ≡ step.input → In own c → (s : Stored) → In s (state_at row_states step.input).rows → tuple_at step.input (pair_of s) ≡ x → LacksPartner own row_states step → ⊥
        go x x-in xi own-in s stored sx (inl none) = subst (λ (rs : List Stored). In s rs) none stored
        go x x-in xi own-in s stored sx (inr (link, has, from, linked)) =
            let indexed = subst (λ (l : Option ProbeLink). IfSome l (λ link. In link.index_column (state_at row_states step.input).columns)) has (step_indexed own.input row_states steps i step route at) in
            let class = subst (λ (l : Option ProbeLink). IfSome l (InOneClass classes step.input)) has (links step in-steps) in
            linked-apart classes own row_states step.input link c x s wide there indexed class from linked a own-in x-in xi stored sx
