-- In a plan without a group each place hands up its answer's rows.
use Rattle.std.proofs.Common.{ℕ, ◌+◌, ◌<◌, Bool, true, false, cond, List, [], ◌∷◌, ◌++◌, ◌≡◌, map, filter, flat_map, length, get_or, refl, sym, ap, ap₂, ◌∙◌, subst, inl, inr, eqb, arith, append_assoc, append-nil, length-append}
use Rattle.std.proofs.lemmas.Bool.{cases_eq}
use Rattle.std.proofs.lemmas.List.{length-map, length_push, get_or_append_left, get_or_at}
use Rattle.std.proofs.lemmas.Bool.{eq-eqb}
use Rattle.pj_shape.specs.declared.columns.Column.{Column}
use Rattle.pj_shape.specs.Joining.{join_answer}
use Rattle.pj_events.specs.Patterns.{matches_row}
use Rattle.pj_value.specs.Bags.{weigh, SameBag}
use Rattle.pj_events.specs.Join.{In, Value, JoinData, JoinState, Step, start, step, arity, AreLegalSteps, Element, rows_of}
use Rattle.pj_events.specs.Operators.{picked_cells, GroupSpec, group_rows, group_after}
use Rattle.pj_events.specs.Plan.{Operator, Stream, Select, Project, Union, Join, Group, Node, Local, Comes, Fed, Own, join_step, after_all, hands_all, IsOwn, PlanStep, Feed, Act, Pass, own, brought_from, locals, batches, moved, plan_run, handed, inputs_of, operator_answer, answers_from, fed_to, HasGiven, RowsAreAnswers, IsWellMade, node_width, ArePlanned, AreStepsLegal, nowhere}
use Rattle.pj_laws.proofs.Glue.{from_input, locals_all, handed-is, handed-front, from-is, operator-is, length-batches, length-moved}
use Rattle.pj_laws.proofs.Operators.{AreWithin, AreOwnAllowed, join_steps, join-legal, join-after}
use Rattle.pj_laws.proofs.Whole.{IsGood, AreLocalsAllowed, AreGood, locals-allowed, within-all, select-hands, project-hands, fed-join, node-good, front-good}
use Rattle.pj_laws.proofs.UnionsAndGroups.{group-hands}
use Rattle.pj_laws.proofs.Groups.{group_end, group-once, group-same}
use Rattle.pj_laws.proofs.Answers.{inputs_weigh, select-rows, project-rows, bag-filter, bag-map, union-weigh, lists-weigh, join-rows}
use Rattle.pj_value.proofs.Members.{in-place, map-at}

abbrev pub fed_in : List Local → List Element
fed_in [] = []
fed_in (Comes k e ∷ ls) = fed_in ls
fed_in (Fed e ∷ ls) = e ∷ fed_in ls
fed_in (Own s ∷ ls) = fed_in ls

pub stream-hands : (schema : List Column) (sent : List Element) (ls : List Local) → hands_all (Stream schema sent) ls ≡ fed_in ls
stream-hands schema sent [] = refl
stream-hands schema sent (Comes k e ∷ ls) = stream-hands schema sent ls
stream-hands schema sent (Own s ∷ ls) = stream-hands schema sent ls
stream-hands schema sent (Fed e ∷ ls) = ap (λ es. e ∷ es) (stream-hands schema (sent ++ e ∷ []) ls)

pub own-of : (spec : JoinData) (s : JoinState) (ls : List Local) → AreOwnAllowed spec s ls → (st : Step) → In (Own st) ls → IsOwn st
own-of spec s [] a st h = absurd h
own-of spec s (Comes k e ∷ ls) a st (inl q) = cc
own-of spec s (Comes k e ∷ ls) a st (inr h) = own-of spec (step spec s (join_step k e)) ls a st h
own-of spec s (Fed e ∷ ls) a st (inl q) = cc
own-of spec s (Fed e ∷ ls) a st (inr h) = own-of spec s ls a st h
own-of spec s (Own t ∷ ls) a st (inl q) = subst IsOwn (let p : t ≡ st = cc q in p) a.0
own-of spec s (Own t ∷ ls) a st (inr h) = own-of spec (step spec s t) ls a.2 st h

-- one list of lists, joined, is that list
pub one-list : {A : Type 0} (lists : List (List A)) → length lists ≡ 1 → flat_map (λ l. l) lists ≡ get_or lists 0 []
one-list [] l = absurd (omega arith)
one-list (x ∷ []) l = append-nil x
one-list (x ∷ y ∷ lists) l = absurd (omega arith)

pub group-after : (spec : GroupSpec) (rows : List (List Value)) (ls : List Local) → AreWithin 1 ls → after_all (Group spec rows) ls ≡ Group spec (group_end spec rows (from_input 0 ls))
group-after spec rows [] w = refl
group-after spec rows (Fed e ∷ ls) w = group-after spec rows ls w
group-after spec rows (Own s ∷ ls) w = group-after spec rows ls w
group-after spec rows (Comes i e ∷ ls) w =
    let z : i ≡ 0 = omega (arith, w.0) in
    group-after spec (group_after spec rows e) ls w.1 ∙ sym (ap (λ b. Group spec (group_end spec rows (cond b (e ∷ from_input 0 ls) (from_input 0 ls)))) (eq-eqb i 0 z))

pub operator-rows : (m : Operator) (ws : List ℕ) (ls : List Local) (lists : List (List (List Value))) → IsWellMade m ws → AreWithin (length ws) ls → AreLocalsAllowed m ls
    → ((k : ℕ) → k < length ws → IsGood (get_or ws k 0) (from_input k ls)) → HasGiven (after_all m ls) → length lists ≡ length ws
    → ((k : ℕ) → k < length ws → SameBag (rows_of (from_input k ls)) (get_or lists k []))
    → SameBag (rows_of (hands_all m ls)) (operator_answer m (rows_of (fed_in ls)) lists)
operator-rows (Stream schema sent) ws ls lists made w a f done long same g = ap (λ es. weigh g (rows_of es)) (stream-hands schema sent ls)
operator-rows (Select test) ws ls lists made w a f done long same g =
    ap (λ es. weigh g (rows_of es)) (select-hands test ls (subst (λ n. AreWithin n ls) made.0 w)) ∙ ap (weigh g) (select-rows test (from_input 0 ls))
    ∙ bag-filter (matches_row test) (rows_of (from_input 0 ls)) (get_or lists 0 []) (same 0 (omega (arith, made.0))) g
    ∙ ap (λ l. weigh g (filter (matches_row test) l)) (sym (one-list lists (long ∙ made.0)))
operator-rows (Project columns) ws ls lists made w a f done long same g =
    ap (λ es. weigh g (rows_of es)) (project-hands columns ls (subst (λ n. AreWithin n ls) made.0 w)) ∙ ap (weigh g) (project-rows columns (from_input 0 ls))
    ∙ bag-map (picked_cells columns) (rows_of (from_input 0 ls)) (get_or lists 0 []) (same 0 (omega (arith, made.0))) g
    ∙ ap (λ l. weigh g (map (picked_cells columns) l)) (sym (one-list lists (long ∙ made.0)))
operator-rows (Union n u) ws ls lists made w a f done long same g =
    union-weigh g n u ls (subst (λ n'. AreWithin n' ls) made.0 w)
    ∙ subst (λ (n' : ℕ). inputs_weight n' ≡ weigh g (flat_map (λ l. l) lists)) (long ∙ made.0) (lists-weigh g 0 lists ls (λ j lt. let z : j ≡ 0 + j = omega arith in subst (λ (i : ℕ). SameBag (rows_of (from_input i ls)) (get_or lists j [])) z (same j (omega (arith, lt, long)))))
  where
    inputs_weight : ℕ → ℕ
    inputs_weight n' = inputs_weigh g 0 n' ls
operator-rows (Join spec s) ws ls lists made w a f done long same h =
    subst (λ (z : JoinState). SameBag (rows_of (hands_all (Join spec z) ls)) (join_answer spec.shape.classes lists)) (sym made.2)
    (join-rows spec ls lists made.1 (long ∙ ap length made.0) legal (own-of spec start ls mine)
    (subst HasGiven (join-after spec start ls) (subst (λ (z : JoinState). HasGiven (after_all (Join spec z) ls)) made.2 done))
    (λ k lt. same k (subst (λ (xs : List ℕ). k < length xs) (sym made.0) lt))) h
  where
    mine : AreOwnAllowed spec start ls
    mine = fed-join spec start ls (subst (λ (z : JoinState). AreLocalsAllowed (Join spec z) ls) made.2 a)

    legal : AreLegalSteps spec start (join_steps ls)
    legal = join-legal spec start ls (subst (λ (xs : List ℕ). AreWithin (length xs) ls) made.0 w) mine
        (λ k lt. let g : IsGood (arity spec k) (from_input k ls) = subst (λ (xs : List ℕ). IsGood (get_or xs k 0) (from_input k ls)) made.0 (f k (subst (λ (xs : List ℕ). k < length xs) (sym made.0) lt)) in
        record { clear = λ p hp q. absurd hp; lawful = g.0; fit = g.1 })
operator-rows (Group spec rows) ws ls lists made w a f done long same g =
    ap (λ es. weigh g (rows_of es)) (group-hands spec rows ls within)
    ∙ group-once (get_or ws 0 0) spec rows (from_input 0 ls) flow.1 flow.0 (subst HasGiven (group-after spec rows ls within) done) g
    ∙ ap (λ (xs : List (List Value)). weigh g (group_rows spec (xs ++ rows_of (from_input 0 ls)))) made.2
    ∙ group-same spec (rows_of (from_input 0 ls)) (get_or lists 0 []) (same 0 (omega (arith, made.0))) g
    ∙ ap (λ l. weigh g (group_rows spec l)) (sym (one-list lists (long ∙ made.0)))
  where
    within : AreWithin 1 ls
    within = subst (λ n. AreWithin n ls) made.0 w

    flow : IsGood (get_or ws 0 0) (from_input 0 ls)
    flow = f 0 (omega (arith, made.0))

-- ---- what is fed to a place

fed-append : (ls ks : List Local) → fed_in (ls ++ ks) ≡ fed_in ls ++ fed_in ks
fed-append [] ks = refl
fed-append (Comes k e ∷ ls) ks = fed-append ls ks
fed-append (Fed e ∷ ls) ks = ap (λ es. e ∷ es) (fed-append ls ks)
fed-append (Own s ∷ ls) ks = fed-append ls ks

fed-brought : (k : ℕ) (ms : List ℕ) (done : List (List Element)) → fed_in (brought_from k ms done) ≡ []
fed-brought k [] done = refl
fed-brought k (m ∷ ms) done = fed-append (map (Comes k) (get_or done m [])) (brought_from (k + 1) ms done) ∙ ap₂ (λ (xs ys : List Element). xs ++ ys) (come (get_or done m [])) (fed-brought (k + 1) ms done)
  where
    come : (xs : List Element) → fed_in (map (Comes k) xs) ≡ []
    come [] = refl
    come (x ∷ xs) = come xs

pub fed-is : (front : List Node) (node : Node) (es : List PlanStep) → fed_in (locals_all front node es) ≡ fed_to (length front) es
fed-is front node [] = refl
fed-is front node (e ∷ es) =
    fed-append (locals e (batches e [] front) node) (locals_all (moved e [] front) node es)
    ∙ ap₂ (λ (xs ys : List Element). xs ++ ys)
    (fed-append (own e (length (batches e [] front))) (brought_from 0 node.inputs (batches e [] front)) ∙ ap (λ ys. fed_in (own e (length (batches e [] front))) ++ ys) (fed-brought 0 node.inputs (batches e [] front)) ∙ append-nil (fed_in (own e (length (batches e [] front)))))
    (fed-is (moved e [] front) node es ∙ ap (λ n. fed_to n es) (length-moved e [] front))
    ∙ ap (λ n. fed_in (own e n) ++ fed_to (length front) es) (length-batches e [] front ∙ zero-plus (length front))
    ∙ now e
  where
    zero-plus : (n : ℕ) → 0 + n ≡ n
    zero-plus n = omega arith

    now : (e : PlanStep) → fed_in (own e (length front)) ++ fed_to (length front) es ≡ fed_to (length front) (e ∷ es)
    now (Feed s x) = go (eqb s (length front))
      where
        go : (b : Bool) → fed_in (cond b (Fed x ∷ []) []) ++ fed_to (length front) es ≡ cond b (x ∷ fed_to (length front) es) (fed_to (length front) es)
        go true = refl
        go false = refl
    now (Act j st) = go (eqb j (length front))
      where
        go : (b : Bool) → fed_in (cond b (Own st ∷ []) []) ++ fed_to (length front) es ≡ fed_to (length front) es
        go true = refl
        go false = refl
    now Pass = refl

-- ---- the answers, place after place

-- each of these nodes hands up its answer
abbrev pub AreAnswers : List Node → List (List (List Value)) → List PlanStep → Type 0
AreAnswers front evs es = (n : ℕ) → n < length front → SameBag (rows_of (handed n front es)) (get_or evs n [])

pub node-rows : (front : List Node) (ws : List ℕ) (evs : List (List (List Value))) (node : Node) (back : List Node) (es : List PlanStep) → length ws ≡ length front → length evs ≡ length front
    → ((m : ℕ) → In m node.inputs → m < length ws) → IsWellMade node.operator (map (λ m. get_or ws m 0) node.inputs) → AreStepsLegal (front ++ node ∷ back) es
    → HasGiven (get_or (plan_run (front ++ node ∷ back) es) (length front) nowhere).operator → AreGood front ws es → AreAnswers front evs es
    → SameBag (rows_of (handed (length front) (front ++ node ∷ back) es)) (operator_answer node.operator (rows_of (fed_to (length evs) es)) (inputs_of node evs))
node-rows front ws evs node back es long longe before made legal given good same g =
    ap (λ xs. weigh g (rows_of xs)) (handed-is front node back es)
    ∙ operator-rows node.operator (map (λ m. get_or ws m 0) node.inputs) L (inputs_of node evs) made
    (subst (λ (n : ℕ). AreWithin n L) (sym (length-map node.inputs (λ m. get_or ws m 0))) (within-all front node es))
    (locals-allowed front node back es legal) flow
    (subst HasGiven (operator-is front node back es nowhere) given)
    (length-map node.inputs (λ m. get_or evs m []) ∙ sym (length-map node.inputs (λ m. get_or ws m 0)))
    (λ k lt. let lt' : k < length node.inputs = omega (arith, lt, length-map node.inputs (λ m. get_or ws m 0)) in λ h.
    ap (λ xs. weigh h (rows_of xs)) (from-is front node es k lt') ∙ same (get_or node.inputs k 0) (let b = before (get_or node.inputs k 0) (in-place node.inputs 0 k lt') in omega (arith, b, long)) h
    ∙ ap (weigh h) (sym (map-at evs [] node.inputs k lt'))) g
    ∙ ap (λ (rows : List (List Value)). weigh g (operator_answer node.operator rows (inputs_of node evs))) (ap rows_of (fed-is front node es ∙ ap (λ n. fed_to n es) (sym longe)))
  where
    L : List Local
    L = locals_all front node es

    flow : (k : ℕ) → k < length (map (λ m. get_or ws m 0) node.inputs) → IsGood (get_or (map (λ m. get_or ws m 0) node.inputs) k 0) (from_input k L)
    flow k lt =
        let lt' : k < length node.inputs = omega (arith, lt, length-map node.inputs (λ m. get_or ws m 0)) in
        subst (IsGood (get_or (map (λ m. get_or ws m 0) node.inputs) k 0)) (sym (from-is front node es k lt'))
        (subst (λ (w : ℕ). IsGood w (handed (get_or node.inputs k 0) front es)) (sym (map-at ws 0 node.inputs k lt')) (good (get_or node.inputs k 0) (let b = before (get_or node.inputs k 0) (in-place node.inputs 0 k lt') in omega (arith, b, long))))

pub front-rows : (front : List Node) (evs : List (List (List Value))) (ev : List (List Value)) (node : Node) (back : List Node) (es : List PlanStep) → length evs ≡ length front → AreAnswers front evs es
    → SameBag (rows_of (handed (length front) (front ++ node ∷ back) es)) ev → AreAnswers (front ++ node ∷ []) (evs ++ ev ∷ []) es
front-rows front evs ev node back es long same here n lt = elim (cases_eq n (length front)) [
  | inl q ↦ subst (λ (k : ℕ). SameBag (rows_of (handed k (front ++ node ∷ []) es)) (get_or (evs ++ ev ∷ []) k [])) (sym q)
      (λ g. ap (λ xs. weigh g (rows_of xs)) (handed-is front node [] es ∙ sym (handed-is front node back es)) ∙ here g ∙ ap (weigh g) (sym (get_or_at evs ev [] [] (length front) long)))
  | inr ne ↦ let lt' : n < length front = omega (arith, ne, lt, length_push front node) in
      λ g. ap (λ xs. weigh g (rows_of xs)) (handed-front front (node ∷ []) es n lt') ∙ same n lt' g ∙ ap (weigh g) (sym (get_or_append_left evs (ev ∷ []) [] n (omega (arith, lt', long))))
]

pub all-rows : (front : List Node) (ws : List ℕ) (evs : List (List (List Value))) (back : List Node) (es : List PlanStep) → length ws ≡ length front → length evs ≡ length front
    → ArePlanned ws back → AreStepsLegal (front ++ back) es → ((n : ℕ) → n < length (front ++ back) → HasGiven (get_or (plan_run (front ++ back) es) n nowhere).operator)
    → AreGood front ws es → AreAnswers front evs es
    → AreAnswers (front ++ back) (answers_from (λ n. rows_of (fed_to n es)) evs back) es
all-rows front ws evs [] es long longe planned legal given good same = subst (λ (nodes : List Node). AreAnswers nodes evs es) (sym (append-nil front)) same
all-rows front ws evs (node ∷ back) es long longe planned legal given good same =
    subst (λ (nodes : List Node). AreAnswers nodes (answers_from (λ n. rows_of (fed_to n es)) (evs ++ ev ∷ []) back) es) (append_assoc front (node ∷ []) back)
    (all-rows (front ++ node ∷ []) (ws ++ node_width ws node ∷ []) (evs ++ ev ∷ []) back es
    (omega (arith, long, length_push ws (node_width ws node), length_push front node)) (omega (arith, longe, length_push evs ev, length_push front node)) planned.2
    (subst (λ (nodes : List Node). AreStepsLegal nodes es) again legal)
    (subst (λ (nodes : List Node). (n : ℕ) → n < length nodes → HasGiven (get_or (plan_run nodes es) n nowhere).operator) again given)
    (front-good front ws node back es long good (node-good front ws node back es long planned.0 planned.1 legal good))
    (front-rows front evs ev node back es longe same (node-rows front ws evs node back es long longe planned.0 planned.1 legal (given (length front) (omega (arith, length-append front (node ∷ back)))) good same)))
  where
    ev : List (List Value)
    ev = operator_answer node.operator (rows_of (fed_to (length evs) es)) (inputs_of node evs)

    again : front ++ node ∷ back ≡ (front ++ node ∷ []) ++ back
    again = sym (append_assoc front (node ∷ []) back)

pub rows-are-answers : (nodes : List Node) → ArePlanned [] nodes → RowsAreAnswers nodes
rows-are-answers nodes planned es legal given = all-rows [] [] [] nodes es refl refl planned legal given (λ k l. absurd (omega arith)) (λ k l. absurd (omega arith))
