-- After a complete run each place has handed up its answer's rows.
use Rattle.std.proofs.Common.{ℕ, ◌+◌, ◌<◌, Bool, cond, List, [], ◌∷◌, ◌++◌, ◌≡◌, map, length, get_or, sum, refl, sym, ap, ◌∙◌, subst, inl, inr, arith, append_assoc, append-nil, length-append}
use Rattle.std.proofs.lemmas.Bool.{cases_eq}
use Rattle.std.proofs.lemmas.List.{length-map, length_push, get_or_append_left, get_or_at}
use Rattle.pj_events.specs.Patterns.{all_wild}
use Rattle.pj_events.specs.Join.{In, Value, run, arities, JoinState, start, Element, Punct, rows_of}
use Rattle.pj_events.specs.Operators.{Sent, UnionState, union_after, select_hands, project_hands}
use Rattle.pj_events.specs.Plan.{Operator, Stream, Select, Project, Union, Join, Group, Node, Local, Comes, Fed, Own, after_all, hands_all, PlanStep, plan_run, handed, inputs_of, operator_answer, answers_from, fed_to, HasGiven, IsDone, IsClosedBy, IsCompleteRun, CompleteAnswers, operator_width, IsWellMade, node_width, ArePlanned, AreStepsLegal, nowhere}
use Rattle.pj_value.proofs.Members.{In-flat_map_from, in-place, map-at}
use Rattle.pj_laws.proofs.Glue.{from_input, locals_all, handed-is, handed-front, from-is, operator-is}
use Rattle.pj_laws.proofs.Operators.{AreWithin, join_steps, join-after}
use Rattle.pj_laws.proofs.UnionsAndGroups.{group-hands}
use Rattle.pj_laws.proofs.Whole.{IsGood, AreGood, within-all, select-hands, project-hands, node-good, front-good}
use Rattle.pj_laws.proofs.WholeAnswers.{fed_in, fed-is, stream-hands, group-after, AreAnswers, node-rows, front-rows}
use Rattle.pj_laws.proofs.Closing.{HasWild, wild-picked, wild-drops, group-empty, group-wild, join-wild, union-wild}
use Rattle.pj_pattern.specs.Columns.{picked_patterns}

-- a closed place hands up a punctuation of wildcards alone
operator-wild : (m : Operator) (ws : List ℕ) (ls : List Local) → IsWellMade m ws → AreWithin (length ws) ls → IsDone (after_all m ls) → IsClosedBy m (fed_in ls)
    → ((k : ℕ) → k < length ws → HasWild (get_or ws k 0) (from_input k ls)) → HasWild (operator_width m ws) (hands_all m ls)
operator-wild (Stream schema sent) ws ls made w done c f = subst (HasWild (length schema)) (sym (stream-hands schema sent ls)) c
operator-wild (Select test) ws ls made w done c f =
    subst (HasWild (get_or ws 0 0)) (sym (select-hands test ls (subst (λ n. AreWithin n ls) made.0 w)))
    (In-flat_map_from (select_hands test) (Punct (all_wild (get_or ws 0 0))) (Punct (all_wild (get_or ws 0 0))) (from_input 0 ls) (f 0 (omega (arith, made.0))) (inl refl))
operator-wild (Project columns) ws ls made w done c f =
    subst (HasWild (length columns)) (sym (project-hands columns ls (subst (λ n. AreWithin n ls) made.0 w)))
    (In-flat_map_from (project_hands columns) (Punct (all_wild (length columns))) (Punct (all_wild (get_or ws 0 0))) (from_input 0 ls) (f 0 (omega (arith, made.0)))
    (subst (λ (b : Bool). In (Punct (all_wild (length columns))) (cond b (Punct (picked_patterns columns (all_wild (get_or ws 0 0))) ∷ []) [])) (sym (wild-drops columns 0 (get_or ws 0 0))) (inl (ap Punct (wild-picked columns (get_or ws 0 0))))))
operator-wild (Union n u) ws ls made w done c f =
    union-wild (get_or ws 0 0) n u ls (λ k lt. inr (flow k lt)) (λ q h. absurd (subst (λ (xs : List Sent). In q xs) made.3 h)) (inr (0, flow 0 made.4))
  where
    flow : (k : ℕ) → k < n → HasWild (get_or ws 0 0) (from_input k ls)
    flow k lt = let lt' : k < length ws = omega (arith, lt, made.0) in subst (λ (width : ℕ). HasWild width (from_input k ls)) (made.1 (get_or ws k 0) (in-place ws 0 k lt')) (f k lt')
operator-wild (Join spec s) ws ls made w done c f =
    subst (λ (z : JoinState). HasWild (sum (arities spec)) (hands_all (Join spec z) ls)) (sym made.2)
    (join-wild spec ls made.1 (subst (λ (xs : List ℕ). HasWild (get_or xs 0 0) (from_input 0 ls)) made.0 (f 0 (subst (λ (xs : List ℕ). 0 < length xs) (sym made.0) made.1)))
    joined.1)
  where
    joined : IsDone (Join spec (run spec start (join_steps ls)))
    joined = subst IsDone (join-after spec start ls) (subst (λ (z : JoinState). IsDone (after_all (Join spec z) ls)) made.2 done)
operator-wild (Group spec rows) ws ls made w done c f =
    subst (HasWild (length spec.keys + length spec.aggs)) (sym (group-hands spec rows ls (subst (λ n. AreWithin n ls) made.0 w)))
    (group-wild (get_or ws 0 0) spec rows (from_input 0 ls) (f 0 (omega (arith, made.0))))

operator-given : (m : Operator) (ws : List ℕ) (ls : List Local) → IsWellMade m ws → AreWithin (length ws) ls → IsDone (after_all m ls)
    → ((k : ℕ) → k < length ws → IsGood (get_or ws k 0) (from_input k ls)) → ((k : ℕ) → k < length ws → HasWild (get_or ws k 0) (from_input k ls)) → HasGiven (after_all m ls)
operator-given (Stream schema sent) ws ls made w done g f = go sent ls
  where
    go : (xs : List Element) (ls : List Local) → HasGiven (after_all (Stream schema xs) ls)
    go xs [] = tt
    go xs (Comes k e ∷ ls) = go xs ls
    go xs (Fed e ∷ ls) = go (xs ++ e ∷ []) ls
    go xs (Own s ∷ ls) = go xs ls
operator-given (Select test) ws ls made w done g f = go ls
  where
    go : (ls : List Local) → HasGiven (after_all (Select test) ls)
    go [] = tt
    go (l ∷ ls) = go ls
operator-given (Project columns) ws ls made w done g f = go ls
  where
    go : (ls : List Local) → HasGiven (after_all (Project columns) ls)
    go [] = tt
    go (l ∷ ls) = go ls
operator-given (Union n u) ws ls made w done g f = go u ls
  where
    go : (v : UnionState) (ls : List Local) → HasGiven (after_all (Union n v) ls)
    go v [] = tt
    go v (Comes k e ∷ ls) = go (union_after n v k e) ls
    go v (Fed e ∷ ls) = go v ls
    go v (Own s ∷ ls) = go v ls
operator-given (Join spec s) ws ls made w done g f = subst HasGiven (sym (join-after spec s ls)) (subst IsDone (join-after spec s ls) done).0
operator-given (Group spec rows) ws ls made w done g f =
    subst HasGiven (sym (group-after spec rows ls (subst (λ n. AreWithin n ls) made.0 w)))
    (group-empty (get_or ws 0 0) spec rows (from_input 0 ls) (λ row h. absurd (subst (λ (xs : List (List Value)). In row xs) made.2 h)) (g 0 (omega (arith, made.0))).1 (g 0 (omega (arith, made.0))).0 (f 0 (omega (arith, made.0))))

-- ---- the plan

abbrev pub AreWild : List Node → List ℕ → List PlanStep → Type 0
AreWild front ws es = (n : ℕ) → n < length front → HasWild (get_or ws n 0) (handed n front es)

module _ (front : List Node) (ws : List ℕ) (node : Node) (back : List Node) (es : List PlanStep) (long : length ws ≡ length front)
    (before : (m : ℕ) → In m node.inputs → m < length ws) (made : IsWellMade node.operator (map (λ m. get_or ws m 0) node.inputs))
    (mine : IsClosedBy (get_or (front ++ node ∷ back) (length front) nowhere).operator (fed_to (length front) es) × IsDone (get_or (plan_run (front ++ node ∷ back) es) (length front) nowhere).operator)
    (good : AreGood front ws es) (wilds : AreWild front ws es) where
  L : List Local
  L = locals_all front node es

  W : List ℕ
  W = map (λ m. get_or ws m 0) node.inputs

  -- what holds of what each input handed up holds of what comes from it
  carried : (P : ℕ → List Element → Type 0) → ((n : ℕ) → n < length front → P (get_or ws n 0) (handed n front es)) → (k : ℕ) → k < length W → P (get_or W k 0) (from_input k L)
  unfolding L W
  carried P h k lt =
      let lt' : k < length node.inputs = omega (arith, lt, length-map node.inputs (λ m. get_or ws m 0)) in
      subst (P (get_or (map (λ m. get_or ws m 0) node.inputs) k 0)) (sym (from-is front node es k lt'))
      (subst (λ (w : ℕ). P w (handed (get_or node.inputs k 0) front es)) (sym (map-at ws 0 node.inputs k lt')) (h (get_or node.inputs k 0) (let b = before (get_or node.inputs k 0) (in-place node.inputs 0 k lt') in omega (arith, b, long))))

  done : IsDone (after_all node.operator L)
  unfolding L
  done = subst IsDone (operator-is front node back es nowhere) mine.1

  closed : IsClosedBy node.operator (fed_in L)
  unfolding L
  closed =
      subst (IsClosedBy node.operator) (sym (fed-is front node es))
      (subst (λ (z : Node). IsClosedBy z.operator (fed_to (length front) es)) (get_or_at front node back nowhere (length front) refl) mine.0)

  within : AreWithin (length W) L
  unfolding L W
  within = subst (λ (n : ℕ). AreWithin n (locals_all front node es)) (sym (length-map node.inputs (λ m. get_or ws m 0))) (within-all front node es)

  pub node-wild : HasWild (node_width ws node) (handed (length front) (front ++ node ∷ back) es)
  unfolding L W
  node-wild = subst (HasWild (node_width ws node)) (sym (handed-is front node back es)) (operator-wild node.operator W L made within done closed (carried HasWild wilds))

  pub node-given : HasGiven (get_or (plan_run (front ++ node ∷ back) es) (length front) nowhere).operator
  unfolding L W
  node-given = subst HasGiven (sym (operator-is front node back es nowhere)) (operator-given node.operator W L made within done (carried IsGood good) (carried HasWild wilds))

pub front-wild : (front : List Node) (ws : List ℕ) (node : Node) (back : List Node) (es : List PlanStep) → length ws ≡ length front → AreWild front ws es
    → HasWild (node_width ws node) (handed (length front) (front ++ node ∷ back) es) → AreWild (front ++ node ∷ []) (ws ++ node_width ws node ∷ []) es
front-wild front ws node back es long wilds here n lt = elim (cases_eq n (length front)) [
  | inl q ↦ subst (λ (k : ℕ). HasWild (get_or (ws ++ node_width ws node ∷ []) k 0) (handed k (front ++ node ∷ []) es)) (sym q)
      (subst (λ (w : ℕ). HasWild w (handed (length front) (front ++ node ∷ []) es)) (sym (get_or_at ws (node_width ws node) [] 0 (length front) long))
      (subst (HasWild (node_width ws node)) (handed-is front node back es ∙ sym (handed-is front node [] es)) here))
  | inr ne ↦ let lt' : n < length front = omega (arith, ne, lt, length_push front node) in
      subst (λ (w : ℕ). HasWild w (handed n (front ++ node ∷ []) es)) (sym (get_or_append_left ws (node_width ws node ∷ []) 0 n (omega (arith, lt', long))))
      (subst (HasWild (get_or ws n 0)) (sym (handed-front front (node ∷ []) es n lt')) (wilds n lt'))
]

all-settled : (front : List Node) (ws : List ℕ) (evs : List (List (List Value))) (back : List Node) (es : List PlanStep) → length ws ≡ length front → length evs ≡ length front
    → ArePlanned ws back → AreStepsLegal (front ++ back) es → IsCompleteRun (front ++ back) es → AreGood front ws es → AreWild front ws es → AreAnswers front evs es
    → AreAnswers (front ++ back) (answers_from (λ k. rows_of (fed_to k es)) evs back) es
all-settled front ws evs [] es long longe planned legal complete good wilds same = subst (λ (nodes : List Node). AreAnswers nodes evs es) (sym (append-nil front)) same
all-settled front ws evs (node ∷ back) es long longe planned legal complete good wilds same =
    subst (λ (nodes : List Node). AreAnswers nodes (answers_from (λ k. rows_of (fed_to k es)) (evs ++ ev ∷ []) back) es) (append_assoc front (node ∷ []) back)
    (all-settled (front ++ node ∷ []) (ws ++ node_width ws node ∷ []) (evs ++ ev ∷ []) back es
    (omega (arith, long, length_push ws (node_width ws node), length_push front node)) (omega (arith, longe, length_push evs ev, length_push front node)) planned.2
    (subst (λ (nodes : List Node). AreStepsLegal nodes es) again legal) (subst (λ (nodes : List Node). IsCompleteRun nodes es) again complete)
    (front-good front ws node back es long good (node-good front ws node back es long planned.0 planned.1 legal good))
    (front-wild front ws node back es long wilds (node-wild front ws node back es long planned.0 planned.1 (complete (length front) (omega (arith, length-append front (node ∷ back)))) good wilds))
    (front-rows front evs ev node back es longe same (node-rows front ws evs node back es long longe planned.0 planned.1 legal (node-given front ws node back es long planned.0 planned.1 (complete (length front) (omega (arith, length-append front (node ∷ back)))) good wilds) good same)))
  where
    ev : List (List Value)
    ev = operator_answer node.operator (rows_of (fed_to (length evs) es)) (inputs_of node evs)

    again : front ++ node ∷ back ≡ (front ++ node ∷ []) ++ back
    again = sym (append_assoc front (node ∷ []) back)

pub complete-answers : (nodes : List Node) → ArePlanned [] nodes → CompleteAnswers nodes
complete-answers nodes planned es legal complete = all-settled [] [] [] nodes es refl refl planned legal complete (λ k l. absurd (omega arith)) (λ k l. absurd (omega arith)) (λ k l. absurd (omega arith))
