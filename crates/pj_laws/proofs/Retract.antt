-- The rows that a plan has handed up are among those of its answer, however its streams go on.
use Rattle.std.proofs.Common.{ℕ, suc, ◌+◌, ◌<◌, ◌≤◌, true, List, [], ◌∷◌, ◌++◌, ◌≡◌, map, filter, flat_map, length, get_or, refl, sym, ap, ◌∙◌, subst, inl, inr, arith, append_assoc, append-nil, length-append}
use Rattle.pj_value.proofs.Members.{in-place, map-at}
use Rattle.std.proofs.lemmas.Bool.{cases_eq}
use Rattle.std.proofs.lemmas.List.{length-map, length_push, get_or_append_left, get_or_at}
use Rattle.pj_value.specs.declared.values.Value.{Value}
use Rattle.pj_shape.specs.Joining.{Part, parts_from, join_answer}
use Rattle.pj_shape.specs.Lists.{product}
use Rattle.pj_events.specs.Patterns.{matches_row}
use Rattle.pj_value.specs.Bags.{weigh, SubBag}
use Rattle.pj_events.specs.Join.{In, Element, TupleAt, JoinData, JoinState, start, run, arity, inputs, of_input, part_of, upto_from, AreLegalSteps, rows_of}
use Rattle.pj_events.specs.Operators.{picked_cells}
use Rattle.pj_events.specs.Plan.{Operator, Stream, Select, Project, Union, Join, Group, Node, Local, Own, PlanStep, nowhere, hands_all, IsOwn, handed, fed_to, inputs_of, operator_answer, answers_from, IsWellMade, node_width, ArePlanned, AreStepsLegal, operator_at}
use Rattle.pj_events.specs.History.{is_stream, streams_of, stream_node, root_of, begun, steps_from}
use Rattle.pj_events.specs.Outcomes.{elements_of, place_in, list_at}
use Rattle.pj_laws.specs.HistoryLaws.{IsNoGroup, HasNoGroup, NeverRetracts}
use Rattle.pj_join_laws.proofs.Bags.{weigh-product}
use Rattle.pj_join_laws.proofs.Complete.{some-rows-given}
use Rattle.pj_laws.proofs.Glue.{from_input, locals_all, handed-is, handed-front, from-is}
use Rattle.pj_laws.proofs.Operators.{AreWithin, AreOwnAllowed, join_steps, join-hands, join-legal}
use Rattle.pj_laws.proofs.Whole.{IsGood, AreLocalsAllowed, AreGood, locals-allowed, within-all, select-hands, project-hands, fed-join, node-good, front-good}
use Rattle.pj_laws.proofs.Answers.{inputs_weigh, select-rows, project-rows, union-weigh, part_weight, answer-weigh, tuples-weigh, product-map, map-twice, part, part-rows, arrived-rows, at-parts, length-parts}
use Rattle.pj_laws.proofs.WholeAnswers.{fed_in, stream-hands, own-of, one-list, fed-is}
use Rattle.pj_laws.proofs.HistoryAnswers.{root-there, stream-member}
use Rattle.pj_laws.proofs.Steps.{legal-steps, outputs-handed, all-rise, rising-place, member-place, fed-elements}
use Rattle.pj_value.proofs.Bags.{weigh-append, weigh-le, sub-filter, sub-map, sub-front}
use Rattle.pj_join_laws.proofs.Upto.{length-upto, get_or-upto}

-- ---- products and unions of fewer

product-sub : {A : Type 0} (F : List A → ℕ) (xss yss : List (List A)) → length xss ≡ length yss
    → ((j : ℕ) → j < length xss → SubBag (get_or xss j []) (get_or yss j [])) → weigh F (product xss) ≤ weigh F (product yss)
product-sub F [] [] l sub = omega arith
product-sub F [] (ys ∷ yss) l sub = absurd (omega arith)
product-sub F (xs ∷ xss) [] l sub = absurd (omega arith)
product-sub {A} F (xs ∷ xss) (ys ∷ yss) l sub =
    let a = weigh-product F xs xss in
    let b = weigh-le (λ (x : A). weigh (λ c. F (x ∷ c)) (product xss)) (λ x. weigh (λ c. F (x ∷ c)) (product yss)) xs (λ x h. product-sub (λ c. F (x ∷ c)) xss yss (omega arith) (λ j lt. sub (suc j) (omega arith))) in
    let c = sub 0 (omega arith) (λ x. weigh (λ c. F (x ∷ c)) (product yss)) in
    omega (arith, a, b, c, weigh-product F ys yss)

lists-sub : (f : List Value → ℕ) (k : ℕ) (lists : List (List (List Value))) (ls : List Local) → ((j : ℕ) → j < length lists → SubBag (rows_of (from_input (k + j) ls)) (get_or lists j []))
    → inputs_weigh f k (length lists) ls ≤ weigh f (flat_map (λ l. l) lists)
lists-sub f k [] ls sub = omega arith
lists-sub f k (l ∷ lists) ls sub =
    let z : k + 0 ≡ k = omega arith in
    let a = ap (λ j. weigh f (rows_of (from_input j ls))) z in
    let b = sub 0 (omega arith) f in
    let c = lists-sub f (k + 1) lists ls (λ j lt. let q : k + suc j ≡ k + 1 + j = omega arith in subst (λ (i : ℕ). SubBag (rows_of (from_input i ls)) (get_or lists j [])) q (sub (suc j) (omega arith))) in
    omega (arith, weigh-append f l (flat_map (λ l. l) lists), a, b, c)

join-within : (spec : JoinData) (ls : List Local) (lists : List (List (List Value))) → 0 < inputs spec → length lists ≡ inputs spec
    → AreLegalSteps spec start (join_steps ls) → ((st : _) → In (Own st) ls → IsOwn st)
    → ((k : ℕ) → k < inputs spec → SubBag (rows_of (from_input k ls)) (get_or lists k []))
    → SubBag (rows_of (hands_all (Join spec start) ls)) (join_answer spec.shape.classes lists)
join-within spec ls lists lt long legal o sub f =
    let a = ap (λ es. weigh f (rows_of es)) (join-hands spec start ls) in
    let b = some-rows-given spec lt (join_steps ls) legal f in
    let c = tuples-weigh spec.shape.classes f (product (map (λ k. of_input k T) ks))
    ∙ sym (product-map part_of (part_weight spec.shape.classes f) (map (λ k. of_input k T) ks))
    ∙ ap (λ xss. weigh (part_weight spec.shape.classes f) (product xss)) (map-twice (map part_of) (λ k. of_input k T) ks) in
    let d = product-sub (part_weight spec.shape.classes f) (map mine ks) (parts_from 0 lists)
    (length-map ks mine ∙ length-upto 0 n ∙ sym long ∙ sym (length-parts 0 lists))
    (λ j l. each j (omega (arith, l, length-map ks mine, length-upto 0 n))) in
    let e = answer-weigh spec.shape.classes f (product (parts_from 0 lists)) in
    omega (arith, a, b, c, d, e)
  where
    n : ℕ
    n = inputs spec

    ks : List ℕ
    ks = upto_from 0 n

    T : List TupleAt
    T = (run spec start (join_steps ls)).tuples

    mine : ℕ → List Part
    mine k = map part_of (of_input k T)

    each : (j : ℕ) → j < n → SubBag (get_or (map mine ks) j []) (get_or (parts_from 0 lists) j [])
    each j l g =
        let zj : 0 + j ≡ j = omega arith in
        let a = ap (weigh g) (get_or-upto mine 0 n j [] l) ∙ ap (weigh g) (part-rows (0 + j) T)
        ∙ ap (λ rows. weigh g (map (part (0 + j)) rows)) (arrived-rows spec start ls (0 + j) o)
        ∙ ap (λ i. weigh g (map (part (0 + j)) (rows_of (from_input i ls)))) zj in
        let b = sub-map (part (0 + j)) (rows_of (from_input j ls)) (get_or lists j []) (sub j l) g in
        let c = ap (weigh g) (at-parts 0 lists j (omega (arith, l, long))) in
        omega (arith, a, b, c)

-- ---- one operator

operator-within : (m : Operator) (ws : List ℕ) (ls : List Local) (lists : List (List (List Value))) (rows : List (List Value)) → IsNoGroup m → IsWellMade m ws → AreWithin (length ws) ls → AreLocalsAllowed m ls
    → ((k : ℕ) → k < length ws → IsGood (get_or ws k 0) (from_input k ls)) → length lists ≡ length ws → (is_stream m ≡ true → SubBag (rows_of (fed_in ls)) rows)
    → ((k : ℕ) → k < length ws → SubBag (rows_of (from_input k ls)) (get_or lists k []))
    → SubBag (rows_of (hands_all m ls)) (operator_answer m rows lists)
operator-within (Stream schema sent) ws ls lists rows ng made w a f long fed sub g = omega (arith, ap (λ es. weigh g (rows_of es)) (stream-hands schema sent ls), fed refl g)
operator-within (Select test) ws ls lists rows ng made w a f long fed sub g =
    let p = ap (λ es. weigh g (rows_of es)) (select-hands test ls (subst (λ n. AreWithin n ls) made.0 w)) ∙ ap (weigh g) (select-rows test (from_input 0 ls)) in
    let q = sub-filter (matches_row test) (rows_of (from_input 0 ls)) (get_or lists 0 []) (sub 0 (omega (arith, made.0))) g in
    let r = ap (λ l. weigh g (filter (matches_row test) l)) (one-list lists (long ∙ made.0)) in
    omega (arith, p, q, r)
operator-within (Project columns) ws ls lists rows ng made w a f long fed sub g =
    let p = ap (λ es. weigh g (rows_of es)) (project-hands columns ls (subst (λ n. AreWithin n ls) made.0 w)) ∙ ap (weigh g) (project-rows columns (from_input 0 ls)) in
    let q = sub-map (picked_cells columns) (rows_of (from_input 0 ls)) (get_or lists 0 []) (sub 0 (omega (arith, made.0))) g in
    let r = ap (λ l. weigh g (map (picked_cells columns) l)) (one-list lists (long ∙ made.0)) in
    omega (arith, p, q, r)
operator-within (Union n u) ws ls lists rows ng made w a f long fed sub g =
    let p = union-weigh g n u ls (subst (λ n'. AreWithin n' ls) made.0 w) in
    let q = lists-sub g 0 lists ls (λ j lt. let z : j ≡ 0 + j = omega arith in subst (λ (i : ℕ). SubBag (rows_of (from_input i ls)) (get_or lists j [])) z (sub j (omega (arith, lt, long)))) in
    let r = ap (λ (k : ℕ). inputs_weigh g 0 k ls) (long ∙ made.0) in
    omega (arith, p, q, r)
operator-within (Join spec s) ws ls lists rows ng made w a f long fed sub h =
    subst (λ (z : JoinState). SubBag (rows_of (hands_all (Join spec z) ls)) (join_answer spec.shape.classes lists)) (sym made.2)
    (join-within spec ls lists made.1 (long ∙ ap length made.0) legal (own-of spec start ls mine)
    (λ k lt. sub k (subst (λ (xs : List ℕ). k < length xs) (sym made.0) lt))) h
  where
    mine : AreOwnAllowed spec start ls
    mine = fed-join spec start ls (subst (λ (z : JoinState). AreLocalsAllowed (Join spec z) ls) made.2 a)

    legal : AreLegalSteps spec start (join_steps ls)
    legal = join-legal spec start ls (subst (λ (xs : List ℕ). AreWithin (length xs) ls) made.0 w) mine
        (λ k lt. let g : IsGood (arity spec k) (from_input k ls) = subst (λ (xs : List ℕ). IsGood (get_or xs k 0) (from_input k ls)) made.0 (f k (subst (λ (xs : List ℕ). k < length xs) (sym made.0) lt)) in
        record { clear = λ p hp q. absurd hp; lawful = g.0; fit = g.1 })
operator-within (Group spec held) ws ls lists rows ng made w a f long fed sub g = absurd ng

-- ---- node after node

abbrev AreInside : List Node → List (List (List Value)) → List PlanStep → Type 0
AreInside front evs es = (n : ℕ) → n < length front → SubBag (rows_of (handed n front es)) (get_or evs n [])

node-within : (front : List Node) (ws : List ℕ) (evs : List (List (List Value))) (node : Node) (back : List Node) (es : List PlanStep) (rows : List (List Value)) → IsNoGroup node.operator → length ws ≡ length front → length evs ≡ length front
    → ((m : ℕ) → In m node.inputs → m < length ws) → IsWellMade node.operator (map (λ m. get_or ws m 0) node.inputs) → AreStepsLegal (front ++ node ∷ back) es
    → AreGood front ws es → AreInside front evs es → (is_stream node.operator ≡ true → SubBag (rows_of (fed_to (length front) es)) rows)
    → SubBag (rows_of (handed (length front) (front ++ node ∷ back) es)) (operator_answer node.operator rows (inputs_of node evs))
node-within front ws evs node back es rows ng long longe before made legal good sub fed g =
    let a = ap (λ xs. weigh g (rows_of xs)) (handed-is front node back es) in
    let b = operator-within node.operator (map (λ m. get_or ws m 0) node.inputs) L (inputs_of node evs) rows ng made
    (subst (λ (n : ℕ). AreWithin n L) (sym (length-map node.inputs (λ m. get_or ws m 0))) (within-all front node es))
    (locals-allowed front node back es legal) flow
    (length-map node.inputs (λ m. get_or evs m []) ∙ sym (length-map node.inputs (λ m. get_or ws m 0)))
    (λ e h. omega (arith, ap (λ xs. weigh h (rows_of xs)) (fed-is front node es), fed e h))
    inner g in
    omega (arith, a, b)
  where
    L : List Local
    L = locals_all front node es

    inner : (k : ℕ) → k < length (map (λ m. get_or ws m 0) node.inputs) → SubBag (rows_of (from_input k L)) (get_or (inputs_of node evs) k [])
    inner k lt h =
        let lt' : k < length node.inputs = omega (arith, lt, length-map node.inputs (λ m. get_or ws m 0)) in
        let a = ap (λ xs. weigh h (rows_of xs)) (from-is front node es k lt') in
        let b = sub (get_or node.inputs k 0) (let b = before (get_or node.inputs k 0) (in-place node.inputs 0 k lt') in omega (arith, b, long)) h in
        let c = ap (weigh h) (map-at evs [] node.inputs k lt') in
        omega (arith, a, b, c)

    flow : (k : ℕ) → k < length (map (λ m. get_or ws m 0) node.inputs) → IsGood (get_or (map (λ m. get_or ws m 0) node.inputs) k 0) (from_input k L)
    flow k lt =
        let lt' : k < length node.inputs = omega (arith, lt, length-map node.inputs (λ m. get_or ws m 0)) in
        subst (IsGood (get_or (map (λ m. get_or ws m 0) node.inputs) k 0)) (sym (from-is front node es k lt'))
        (subst (λ (w : ℕ). IsGood w (handed (get_or node.inputs k 0) front es)) (sym (map-at ws 0 node.inputs k lt')) (good (get_or node.inputs k 0) (let b = before (get_or node.inputs k 0) (in-place node.inputs 0 k lt') in omega (arith, b, long))))

front-within : (front : List Node) (evs : List (List (List Value))) (ev : List (List Value)) (node : Node) (back : List Node) (es : List PlanStep) → length evs ≡ length front → AreInside front evs es
    → SubBag (rows_of (handed (length front) (front ++ node ∷ back) es)) ev → AreInside (front ++ node ∷ []) (evs ++ ev ∷ []) es
front-within front evs ev node back es long sub here n lt = elim (cases_eq n (length front)) [
  | inl q ↦ subst (λ (k : ℕ). SubBag (rows_of (handed k (front ++ node ∷ []) es)) (get_or (evs ++ ev ∷ []) k [])) (sym q)
      (λ g. let a = ap (λ xs. weigh g (rows_of xs)) (handed-is front node [] es ∙ sym (handed-is front node back es)) in
      let b = ap (weigh g) (get_or_at evs ev [] [] (length front) long) in
      omega (arith, a, here g, b))
  | inr ne ↦ let lt' : n < length front = omega (arith, ne, lt, length_push front node) in
      λ g. let a = ap (λ xs. weigh g (rows_of xs)) (handed-front front (node ∷ []) es n lt') in
      let b = ap (weigh g) (get_or_append_left evs (ev ∷ []) [] n (omega (arith, lt', long))) in
      omega (arith, a, sub n lt' g, b)
]

all-within : (streams : ℕ → List (List Value)) (front : List Node) (ws : List ℕ) (evs : List (List (List Value))) (back : List Node) (es : List PlanStep) → length ws ≡ length front → length evs ≡ length front
    → ((n : ℕ) → n < length (front ++ back) → IsNoGroup (operator_at (front ++ back) n)) → ArePlanned ws back → AreStepsLegal (front ++ back) es
    → ((n : ℕ) → n < length (front ++ back) → is_stream (operator_at (front ++ back) n) ≡ true → SubBag (rows_of (fed_to n es)) (streams n)) → AreGood front ws es → AreInside front evs es
    → AreInside (front ++ back) (answers_from streams evs back) es
all-within streams front ws evs [] es long longe ng planned legal fed good sub = subst (λ (nodes : List Node). AreInside nodes evs es) (sym (append-nil front)) sub
all-within streams front ws evs (node ∷ back) es long longe ng planned legal fed good sub =
    subst (λ (nodes : List Node). AreInside nodes (answers_from streams (evs ++ ev ∷ []) back) es) (append_assoc front (node ∷ []) back)
    (all-within streams (front ++ node ∷ []) (ws ++ node_width ws node ∷ []) (evs ++ ev ∷ []) back es
    (omega (arith, long, length_push ws (node_width ws node), length_push front node)) (omega (arith, longe, length_push evs ev, length_push front node))
    (subst (λ (nodes : List Node). (n : ℕ) → n < length nodes → IsNoGroup (operator_at nodes n)) again ng) planned.2
    (subst (λ (nodes : List Node). AreStepsLegal nodes es) again legal)
    (subst (λ (nodes : List Node). (n : ℕ) → n < length nodes → is_stream (operator_at nodes n) ≡ true → SubBag (rows_of (fed_to n es)) (streams n)) again fed)
    (front-good front ws node back es long good (node-good front ws node back es long planned.0 planned.1 legal good))
    (front-within front evs ev node back es longe sub (node-within front ws evs node back es (streams (length evs)) here long longe planned.0 planned.1 legal good sub mine)))
  where
    ev : List (List Value)
    ev = operator_answer node.operator (streams (length evs)) (inputs_of node evs)

    again : front ++ node ∷ back ≡ (front ++ node ∷ []) ++ back
    again = sym (append_assoc front (node ∷ []) back)

    at-middle : operator_at (front ++ node ∷ back) (length front) ≡ node.operator
    at-middle = ap (λ (n : Node). n.operator) (get_or_at front node back nowhere (length front) refl)

    mine : is_stream node.operator ≡ true → SubBag (rows_of (fed_to (length front) es)) (streams (length evs))
    mine e = subst (λ (n : ℕ). SubBag (rows_of (fed_to (length front) es)) (streams n)) (sym longe) (fed (length front) (omega (arith, length-append front (node ∷ back))) (ap is_stream at-middle ∙ e))

    here : IsNoGroup node.operator
    here = subst IsNoGroup at-middle (ng (length front) (omega (arith, length-append front (node ∷ back))))

-- ---- histories

pub never-retracts : (plan : List Node) → ArePlanned [] plan → 0 < length plan → HasNoGroup plan → NeverRetracts plan
never-retracts plan planned lt groups trace h l lists on =
    (λ f.
    omega (
      arith,
      ap (λ es. weigh f (rows_of es)) (outputs-handed trace plan h),
      all-within streams [] [] [] plan es refl refl groups planned (legal-steps (begun plan) h l) fed (λ n k. absurd (omega arith)) (λ n k. absurd (omega arith)) (root_of plan) (root-there plan lt) f,
    ))
  where
    es : List PlanStep
    es = steps_from plan h

    streams : ℕ → List (List Value)
    streams n = list_at lists (place_in 0 (streams_of plan) n)

    fed : (n : ℕ) → n < length plan → is_stream (operator_at plan n) ≡ true → SubBag (rows_of (fed_to n (steps_from plan h))) (list_at lists (place_in 0 (streams_of plan) n))
    fed n k e =
        let z : 0 + n ≡ n = omega arith in
        let p = member-place (streams_of plan) (length plan) n (subst (λ (j : ℕ). In j (streams_of plan)) z (stream-member 0 n plan k e)) in
        let y : 0 + p.0 ≡ p.0 = omega arith in
        let q = on p.0 p.1 in
        subst (λ (j : ℕ). SubBag (rows_of (fed_to j (steps_from plan h))) (list_at lists (place_in 0 (streams_of plan) j))) p.2
        (subst (SubBag (rows_of (fed_to (stream_node plan p.0) (steps_from plan h)))) (sym (ap (list_at lists) (rising-place 0 0 (streams_of plan) (length plan) p.0 (all-rise plan) p.1) ∙ ap (λ (j : ℕ). get_or lists j []) y ∙ q.1))
        (subst (λ (xs : List Element). SubBag (rows_of xs) (rows_of (elements_of p.0 h) ++ q.0)) (sym (fed-elements (begun plan) h p.0 p.1 l)) (sub-front (rows_of (elements_of p.0 h)) q.0)))
