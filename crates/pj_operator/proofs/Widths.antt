-- What a node hands up has as many columns as the node, and an orderly node stays so.
use Rattle.std.proofs.Common.{ℕ, ◌+◌, Bool, true, false, cond, not, ◌&&◌, List, [], ◌∷◌, ◌++◌, ◌≡◌, map, filter, length, sum, get_or, eqb, refl, sym, ap, subst, inl, inr, arith}
use Rattle.pj_value.specs.declared.values.Value.{Value}
use Rattle.pj_value.proofs.Members.{In-append_cases, In-filter, In-flat_map, In-map}
use Rattle.pj_pattern.specs.Patterns.{Pattern}
use Rattle.pj_pattern.specs.declared.element.Element.{Element}
use Rattle.pj_pattern.specs.declared.element.Element.TheVariants.{Tuple, Punct}
use Rattle.pj_events.specs.declared.events.Out.TheVariants.{Tuple as RowOut}
use Rattle.pj_events.specs.Join.{In, JoinData, PunctAt, Sweep, TupleAt, agree, arities, arity, candidates, combinations, inputs, is_held, joined, product, results, upto_from, widened}
use Rattle.pj_events.specs.KeptState.{swept}
use Rattle.pj_events.specs.Operators.{Sent, all_sent_from, group_after, group_hands, project_hands, select_hands, union_after, union_hands}
use Rattle.pj_events.specs.Outcomes.{elements_out}
use Rattle.pj_events.specs.Plan.{Fits, join_step}
use Rattle.pj_flow.specs.Unions.{UnionView}
use Rattle.pj_group.specs.Tables.{GroupView, StandsFor as HoldsGroup}
use Rattle.pj_join_laws.proofs.Results.{IsPicked, candidates-own, is-combination, picked}
use Rattle.pj_join_laws.proofs.Widen.{joined-length, lengths-from}
use Rattle.pj_laws.proofs.Operators.{widened-length}
use Rattle.pj_laws.proofs.Whole.{group-hands-fit, project-fit, select-fit}
use Rattle.pj_join.specs.Joins.{JoinView, found_of}
use Rattle.pj_join.specs.Sweeping.{next_punct, puncts_up}
use Rattle.pj_operator.specs.declared.operator.Emitted.{Emitted}
use Rattle.pj_operator.specs.declared.operator.OperatorState.TheVariants.{Union as RunningUnion, Group as RunningGroup}
use Rattle.pj_operator.specs.Operators.{AreWide, FitsInput, IsOrderly, IsOrderlyJoin, KeepsOpen, emitted_list, width_of}

-- ---- one element

fits-own : (e : Element) → Fits (width_of e) e
fits-own (Tuple row) = refl
fits-own (Punct patterns) = refl

width-fits : (e : Element) (width : ℕ) → Fits width e → width_of e ≡ width
width-fits (Tuple row) width f = f
width-fits (Punct patterns) width f = f

fits-wide : (es : List Element) (width : ℕ) → ((x : Element) → In x es → Fits width x) → AreWide width es
fits-wide es width f x h = width-fits x width (f x h)

pub one-wide : (e : Element) (width : ℕ) → Fits width e → AreWide width (e ∷ [])
one-wide e width f x (inl q) = subst (λ (y : Element). width_of y ≡ width) q (width-fits e width f)
one-wide e width f x (inr k) = absurd k

pub rows-wide : (rows : List (List Value)) (width : ℕ) → ((row : List Value) → In row rows → length row ≡ width) → AreWide width (map Tuple rows)
rows-wide rows width f x h = let r = In-map Tuple x rows h in subst (λ (e : Element). width_of e ≡ width) r.2 (f r.0 r.1)

puncts-wide : (ps : List (List Pattern)) (width : ℕ) → ((p : List Pattern) → In p ps → length p ≡ width) → AreWide width (map Punct ps)
puncts-wide ps width f x h = let r = In-map Punct x ps h in subst (λ (e : Element). width_of e ≡ width) r.2 (f r.0 r.1)

pub outs-rows : (rows : List (List Value)) → elements_out (map RowOut rows) ≡ map Tuple rows
outs-rows [] = refl
outs-rows (row ∷ rows) = ap (λ (es : List Element). Tuple row ∷ es) (outs-rows rows)

-- ---- streams, selects, projects and groups

pub none_wide : (up : Emitted) (width : ℕ) → emitted_list up ≡ [] → AreWide width (emitted_list up)
none_wide up width is = subst (AreWide width) (sym is) (λ x h. absurd h)

pub select_wide : (test : List Pattern) (up : Emitted) (e : Element) → emitted_list up ≡ select_hands test e → AreWide (width_of e) (emitted_list up)
select_wide test up e is = subst (AreWide (width_of e)) (sym is) (fits-wide (select_hands test e) (width_of e) (λ x h. select-fit (width_of e) test e x (fits-own e) h))

pub project_wide : (columns : List ℕ) (up : Emitted) (e : Element) → emitted_list up ≡ project_hands columns e → AreWide (length columns) (emitted_list up)
project_wide columns up e is = subst (AreWide (length columns)) (sym is) (fits-wide (project_hands columns e) (length columns) (λ x h. project-fit columns e x h))

pub group_wide : (group : GroupView) (up : Emitted) (e : Element) → ((rows : List (List Value)) → HoldsGroup group rows → emitted_list up ≡ group_hands group.spec rows e) → IsOrderly (RunningGroup group)
    → AreWide (length group.spec.keys + length group.spec.aggs) (emitted_list up)
group_wide group up e is o =
    subst (AreWide (length group.spec.keys + length group.spec.aggs)) (sym (is o.0 o.1))
    (fits-wide (group_hands group.spec o.0 e) (length group.spec.keys + length group.spec.aggs) (λ x h. group-hands-fit group.spec o.0 e x h))

pub group_keeps : (old new : GroupView) (e : Element) → ((rows : List (List Value)) → HoldsGroup old rows → HoldsGroup new (group_after old.spec rows e)) → KeepsOpen (RunningGroup old) (RunningGroup new)
group_keeps old new e keeps o = ((group_after old.spec o.0 e, keeps o.0 o.1), λ t h. absurd h)

-- ---- unions

-- what waits with one more
waiting-wide : (union : UnionView) (input : ℕ) (patterns : List Pattern) → length patterns ≡ union.arity → IsOrderly (RunningUnion union)
    → (q : Sent) → In q (union.state.waiting ++ record { input = input; patterns = patterns } ∷ []) → length q.patterns ≡ union.arity
waiting-wide union input patterns l o q h = elim (In-append_cases q union.state.waiting (record { input = input; patterns = patterns } ∷ []) h) [
  | inl k ↦ o q k
  | inr k ↦ last k
]
  where
    last : In q (record { input = input; patterns = patterns } ∷ []) → length q.patterns ≡ union.arity
    last (inl e) = subst (λ (s : Sent). length s.patterns ≡ union.arity) e l
    last (inr e) = absurd e

pub union_wide : (union : UnionView) (up : Emitted) (input : ℕ) (e : Element) → emitted_list up ≡ union_hands union.inputs union.state input e → width_of e ≡ union.arity → IsOrderly (RunningUnion union)
    → AreWide union.arity (emitted_list up)
union_wide union up input e is l o = subst (AreWide union.arity) (sym is) (go e l)
  where
    go : (e : Element) → width_of e ≡ union.arity → AreWide union.arity (union_hands union.inputs union.state input e)
    go (Tuple row) l x (inl q) = subst (λ (y : Element). width_of y ≡ union.arity) q l
    go (Tuple row) l x (inr k) = absurd k
    go (Punct patterns) l x h =
        let came = union.state.came ++ record { input = input; patterns = patterns } ∷ [] in
        let all = union.state.waiting ++ record { input = input; patterns = patterns } ∷ [] in
        let r = In-map (λ (p : Sent). Punct p.patterns) x (filter (all_sent_from 0 union.inputs came) all) h in
        subst (λ (y : Element). width_of y ≡ union.arity) r.2 (waiting-wide union input patterns l o r.0 (In-filter (all_sent_from 0 union.inputs came) r.0 all r.1).0)

pub union_keeps : (old new : UnionView) (input : ℕ) (e : Element) → new ≡ record old { state = union_after old.inputs old.state input e } → width_of e ≡ old.arity → KeepsOpen (RunningUnion old) (RunningUnion new)
union_keeps old new input e is l o = (subst (λ (u : UnionView). IsOrderly (RunningUnion u)) (sym is) (go e l), λ t h. absurd h)
  where
    go : (e : Element) → width_of e ≡ old.arity → (p : Sent) → In p (union_after old.inputs old.state input e).waiting → length p.patterns ≡ old.arity
    go (Tuple row) l p h = o p h
    go (Punct patterns) l p h =
        let came = old.state.came ++ record { input = input; patterns = patterns } ∷ [] in
        let all = old.state.waiting ++ record { input = input; patterns = patterns } ∷ [] in
        waiting-wide old input patterns l o p (In-filter (λ (q : Sent). not (all_sent_from 0 old.inputs came q)) p all h).0

-- ---- joins

-- a punctuation of an input, widened
widened-wide : (spec : JoinData) (p : PunctAt) → FitsInput spec p.input (length p.patterns) → length (widened spec p) ≡ sum (arities spec)
widened-wide spec p f = widened-length spec p f.0 f.1

pub join_wide : (join : JoinView) (up : Emitted) (input : ℕ) (e : Element) → emitted_list up ≡ map Punct (puncts_up join (join_step input e)) → FitsInput join.spec input (width_of e) → AreWide (sum (arities join.spec)) (emitted_list up)
join_wide join up input e is f = subst (AreWide (sum (arities join.spec))) (sym is) (puncts-wide (puncts_up join (join_step input e)) (sum (arities join.spec)) (go e f))
  where
    go : (e : Element) → FitsInput join.spec input (width_of e) → (p : List Pattern) → In p (puncts_up join (join_step input e)) → length p ≡ sum (arities join.spec)
    go (Tuple row) f p h = absurd h
    go (Punct patterns) f p h = at_once (not (is_held join.kept.stored (next_punct join input patterns))) h
      where
        at_once : (b : Bool) → In p (cond b (widened join.spec (next_punct join input patterns) ∷ []) []) → length p ≡ sum (arities join.spec)
        at_once true (inl q) = subst (λ (ps : List Pattern). length ps ≡ sum (arities join.spec)) q (widened-wide join.spec (next_punct join input patterns) f)
        at_once true (inr k) = absurd k
        at_once false k = absurd k

pub swept-wide : (join : JoinView) (input : ℕ) → IsOrderlyJoin join → AreWide (sum (arities join.spec)) (map Punct (puncts_up join (Sweep input)))
swept-wide join input o = puncts-wide (puncts_up join (Sweep input)) (sum (arities join.spec)) (λ p h.
    let goes = λ (q : PunctAt). eqb q.input input && not (is_held (swept join.spec join.kept input) q) in
    let r = In-map (widened join.spec) p (filter goes join.kept.waiting) h in
    subst (λ (ps : List Pattern). length ps ≡ sum (arities join.spec)) r.2 (widened-wide join.spec r.0 (o.puncts_fit r.0 (In-filter goes r.0 join.kept.waiting r.1).0)))

-- a result over rows that have as many columns as their inputs
result-wide : (spec : JoinData) (xs : List TupleAt) → ((x : TupleAt) → In x xs → FitsInput spec x.input (length x.row)) → (u : ℕ) (c : List TupleAt) → In c (results spec xs xs u) → length (joined c) ≡ sum (arities spec)
result-wide spec xs fit u c h = joined-length (arities spec) c (lengths-from 0 (arities spec) c picks.0 picks.1 (arity spec) (λ j. let q : j ≡ 0 + j = omega arith in ap (λ n. get_or (arities spec) n 0) q) wide)
  where
    from : (x : TupleAt) × In x (filter (λ (y : TupleAt). eqb y.ticket u) xs) × In c (combinations spec xs x)
    from = In-flat_map (combinations spec xs) c (filter (λ (y : TupleAt). eqb y.ticket u) xs) h

    there : In from.0 xs
    there = (In-filter (λ (y : TupleAt). eqb y.ticket u) from.0 xs from.1).0

    chosen : In c (product (map (candidates from.0 xs) (upto_from 0 (inputs spec)))) × (agree spec.shape.classes c ≡ true)
    chosen = In-filter (agree spec.shape.classes) c (product (map (candidates from.0 xs) (upto_from 0 (inputs spec)))) from.2

    picks : IsPicked (candidates from.0 xs) 0 (inputs spec) c
    picks = picked (candidates from.0 xs) (λ j y k. (candidates-own from.0 xs j y k).0) 0 (inputs spec) c chosen.0

    wide : (y : TupleAt) → In y c → length y.row ≡ arity spec y.input
    wide y k = elim ((is-combination spec xs from.0 c (fit from.0 there).0 chosen.0 chosen.1).2 y k) [
      | inl m ↦ (fit y m).1
      | inr q ↦ subst (λ (z : TupleAt). length z.row ≡ arity spec z.input) q (fit from.0 there).1
    ]

-- what the work of a ticket finds at an orderly join
pub found-fits : (join : JoinView) (u : ℕ) → IsOrderlyJoin join → (row : List Value) → In row (found_of join u).rows → length row ≡ sum (arities join.spec)
found-fits join u o row h =
    let r = In-map joined row (results join.spec join.kept.stored join.kept.stored u) h in
    subst (λ (vs : List Value). length vs ≡ sum (arities join.spec)) r.2 (result-wide join.spec join.kept.stored o.rows_fit u r.0 r.1)

pub found-wide : (join : JoinView) (u : ℕ) → IsOrderlyJoin join → AreWide (sum (arities join.spec)) (elements_out (map RowOut (found_of join u).rows))
found-wide join u o =
    subst (AreWide (sum (arities join.spec))) (sym (outs-rows (found_of join u).rows)) (rows-wide (found_of join u).rows (sum (arities join.spec)) (found-fits join u o))
