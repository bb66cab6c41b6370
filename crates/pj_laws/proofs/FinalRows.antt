-- What a plan has handed up goes on lawfully to its answer, however its streams go on.
use Rattle.std.proofs.Common.{ℕ, zero, suc, ◌+◌, ◌<◌, true, List, [], ◌∷◌, ◌++◌, ◌≡◌, map, length, get_or, refl, sym, ap, ◌∙◌, subst, inl, inr, arith, append_assoc, append-nil, length-append}
use Rattle.std.proofs.lemmas.Bool.{cases_eq}
use Rattle.std.proofs.lemmas.List.{length-map, length_push, get_or_append_left, get_or_at}
use Rattle.pj_value.specs.declared.values.Value.{Value}
use Rattle.pj_value.specs.Bags.{weigh}
use Rattle.pj_value.proofs.Bags.{weigh-append}
use Rattle.pj_value.proofs.Members.{In-append_right, In-map_from, in-place, map-at}
use Rattle.pj_pattern.specs.Elements.{IsLawful}
use Rattle.pj_pattern.proofs.Elements.{rows_of-append}
use Rattle.pj_pattern.proofs.Lawful.{none_at}
use Rattle.pj_events.specs.Join.{In, Element, Tuple, Punct, rows_of}
use Rattle.pj_events.specs.Plan.{Node, Local, PlanStep, hands_all, nowhere, handed, fed_to, inputs_of, operator_answer, answers_from, IsWellMade, node_width, ArePlanned, AreStepsLegal, operator_at}
use Rattle.pj_events.specs.History.{is_stream, streams_of, stream_node, root_of, begun, steps_from}
use Rattle.pj_events.specs.Outcomes.{answer_of, elements_of, elements_out, outputs_of, place_in, list_at, lists_of}
use Rattle.pj_events.specs.OneThread.{schema_of}
use Rattle.pj_laws.specs.HistoryLaws.{AreAccepted, schema_at}
use Rattle.pj_laws.specs.Finality.{AnswerGoesOn, GoesOnLawfully, GoOnLawfully, IsAmongArrived, IsFinal, IsFinalWhereAccepted}
use Rattle.pj_laws.proofs.Glue.{from_input, locals_all, handed-is, handed-front, from-is}
use Rattle.pj_laws.proofs.Operators.{AreWithin}
use Rattle.pj_laws.proofs.Whole.{fits-length, locals-allowed, within-all}
use Rattle.pj_laws.proofs.WholeAnswers.{fed-is}
use Rattle.pj_laws.proofs.Groups.{row-in}
use Rattle.pj_laws.proofs.HistoryAnswers.{root-there, stream-member}
use Rattle.pj_laws.proofs.Steps.{legal-steps, outputs-handed, all-rise, rising-place, member-place, fed-elements}
use Rattle.pj_laws.proofs.Extensions.{GoesOnBy, none-behind, operator-goes-on}
use Rattle.pj_join_laws.proofs.Upto.{get_or-upto}

-- ---- node after node

-- each of these nodes goes on by its rest to its answer
abbrev AllGoOn : List Node → List ℕ → List (List (List Value)) → List (List (List Value)) → List PlanStep → Type 0
AllGoOn front ws rests evs es = (n : ℕ) → n < length front → GoesOnBy (get_or ws n 0) (handed n front es) (get_or rests n []) (get_or evs n [])

same-go-on : (w v : ℕ) (xs ys : List Element) (rest more answer other : List (List Value)) → w ≡ v → xs ≡ ys → rest ≡ more → answer ≡ other → GoesOnBy w xs rest answer → GoesOnBy v ys more other
same-go-on w v xs ys rest more answer other a b c d g =
    subst (λ (z : List (List Value)). GoesOnBy v ys more z) d (subst (λ (z : List (List Value)). GoesOnBy v ys z answer) c (subst (λ (z : List Element). GoesOnBy v z rest answer) b (subst (λ (z : ℕ). GoesOnBy z xs rest answer) a g)))

node-on : (front : List Node) (ws : List ℕ) (rests evs : List (List (List Value))) (node : Node) (back : List Node) (es : List PlanStep) (rows : List (List Value)) → length ws ≡ length front
    → ((m : ℕ) → In m node.inputs → m < length ws) → IsWellMade node.operator (map (λ m. get_or ws m 0) node.inputs) → AreStepsLegal (front ++ node ∷ back) es
    → AllGoOn front ws rests evs es → (is_stream node.operator ≡ true → GoesOnLawfully (schema_of node.operator) (fed_to (length front) es) rows)
    → (rest : List (List Value)) × GoesOnBy (node_width ws node) (handed (length front) (front ++ node ∷ back) es) rest (operator_answer node.operator rows (inputs_of node evs))
node-on front ws rests evs node back es rows long before made legal on fed =
    (r.0, subst (λ (xs : List Element). GoesOnBy (node_width ws node) xs r.0 (operator_answer node.operator rows (inputs_of node evs))) (sym (handed-is front node back es)) r.1)
  where
    L : List Local
    L = locals_all front node es

    W : List ℕ
    W = map (λ m. get_or ws m 0) node.inputs

    R : List (List (List Value))
    R = map (λ m. get_or rests m []) node.inputs

    wide : length W ≡ length node.inputs
    wide = length-map node.inputs (λ m. get_or ws m 0)

    inner : (k : ℕ) → k < length W → GoesOnBy (get_or W k 0) (from_input k L) (get_or R k []) (get_or (inputs_of node evs) k [])
    inner k lt =
        let lt' : k < length node.inputs = omega (arith, lt, wide) in
        let m = get_or node.inputs k 0 in
        same-go-on (get_or ws m 0) (get_or W k 0) (handed m front es) (from_input k L) (get_or rests m []) (get_or R k []) (get_or evs m []) (get_or (inputs_of node evs) k [])
        (sym (map-at ws 0 node.inputs k lt')) (sym (from-is front node es k lt')) (sym (map-at rests [] node.inputs k lt')) (sym (map-at evs [] node.inputs k lt'))
        (on m (let b = before m (in-place node.inputs 0 k lt') in omega (arith, b, long)))

    r : (rest : List (List Value)) × GoesOnBy (node_width ws node) (hands_all node.operator L) rest (operator_answer node.operator rows (inputs_of node evs))
    r = operator-goes-on node.operator W L R (inputs_of node evs) rows made
        (subst (λ (n : ℕ). AreWithin n L) (sym wide) (within-all front node es))
        (locals-allowed front node back es legal)
        (length-map node.inputs (λ m. get_or rests m []) ∙ sym wide)
        (length-map node.inputs (λ m. get_or evs m []) ∙ sym wide)
        inner (λ e. subst (λ (xs : List Element). GoesOnLawfully (schema_of node.operator) xs rows) (sym (fed-is front node es)) (fed e))

front-on : (front : List Node) (ws : List ℕ) (w : ℕ) (rests evs : List (List (List Value))) (rest ev : List (List Value)) (node : Node) (back : List Node) (es : List PlanStep) → length ws ≡ length front → length rests ≡ length front → length evs ≡ length front
    → AllGoOn front ws rests evs es → GoesOnBy w (handed (length front) (front ++ node ∷ back) es) rest ev → AllGoOn (front ++ node ∷ []) (ws ++ w ∷ []) (rests ++ rest ∷ []) (evs ++ ev ∷ []) es
front-on front ws w rests evs rest ev node back es long longr longe on here n lt = elim (cases_eq n (length front)) [
  | inl q ↦ subst (λ (k : ℕ). GoesOnBy (get_or (ws ++ w ∷ []) k 0) (handed k (front ++ node ∷ []) es) (get_or (rests ++ rest ∷ []) k []) (get_or (evs ++ ev ∷ []) k [])) (sym q)
      (same-go-on w (get_or (ws ++ w ∷ []) (length front) 0) (handed (length front) (front ++ node ∷ back) es) (handed (length front) (front ++ node ∷ []) es) rest (get_or (rests ++ rest ∷ []) (length front) []) ev (get_or (evs ++ ev ∷ []) (length front) [])
      (sym (get_or_at ws w [] 0 (length front) long)) (handed-is front node back es ∙ sym (handed-is front node [] es)) (sym (get_or_at rests rest [] [] (length front) longr)) (sym (get_or_at evs ev [] [] (length front) longe)) here)
  | inr ne ↦ let lt' : n < length front = omega (arith, ne, lt, length_push front node) in
      same-go-on (get_or ws n 0) (get_or (ws ++ w ∷ []) n 0) (handed n front es) (handed n (front ++ node ∷ []) es) (get_or rests n []) (get_or (rests ++ rest ∷ []) n []) (get_or evs n []) (get_or (evs ++ ev ∷ []) n [])
      (sym (get_or_append_left ws (w ∷ []) 0 n (omega (arith, lt', long)))) (sym (handed-front front (node ∷ []) es n lt')) (sym (get_or_append_left rests (rest ∷ []) [] n (omega (arith, lt', longr))))
      (sym (get_or_append_left evs (ev ∷ []) [] n (omega (arith, lt', longe)))) (on n lt')
]

-- a node that goes on by some rows to its answer
abbrev Goes : List Node → List (List (List Value)) → List PlanStep → Type 0
Goes nodes evs es = (n : ℕ) → n < length nodes → (width : ℕ) × (rest : List (List Value)) × GoesOnBy width (handed n nodes es) rest (get_or evs n [])

all-on : (streams : ℕ → List (List Value)) (front : List Node) (ws : List ℕ) (rests evs : List (List (List Value))) (back : List Node) (es : List PlanStep) → length ws ≡ length front → length rests ≡ length front → length evs ≡ length front
    → ArePlanned ws back → AreStepsLegal (front ++ back) es
    → ((n : ℕ) → n < length (front ++ back) → is_stream (operator_at (front ++ back) n) ≡ true → GoesOnLawfully (schema_of (operator_at (front ++ back) n)) (fed_to n es) (streams n))
    → AllGoOn front ws rests evs es → Goes (front ++ back) (answers_from streams evs back) es
all-on streams front ws rests evs [] es long longr longe planned legal fed on =
    subst (λ (nodes : List Node). Goes nodes evs es) (sym (append-nil front)) (λ n lt. (get_or ws n 0, get_or rests n [], on n lt))
all-on streams front ws rests evs (node ∷ back) es long longr longe planned legal fed on =
    subst (λ (nodes : List Node). Goes nodes (answers_from streams (evs ++ ev ∷ []) back) es) (append_assoc front (node ∷ []) back)
    (all-on streams (front ++ node ∷ []) (ws ++ node_width ws node ∷ []) (rests ++ here.0 ∷ []) (evs ++ ev ∷ []) back es
    (omega (arith, long, length_push ws (node_width ws node), length_push front node)) (omega (arith, longr, length_push rests here.0, length_push front node)) (omega (arith, longe, length_push evs ev, length_push front node))
    planned.2 (subst (λ (nodes : List Node). AreStepsLegal nodes es) again legal)
    (subst (λ (nodes : List Node). (n : ℕ) → n < length nodes → is_stream (operator_at nodes n) ≡ true → GoesOnLawfully (schema_of (operator_at nodes n)) (fed_to n es) (streams n)) again fed)
    (front-on front ws (node_width ws node) rests evs here.0 ev node back es long longr longe on here.1))
  where
    ev : List (List Value)
    ev = operator_answer node.operator (streams (length evs)) (inputs_of node evs)

    again : front ++ node ∷ back ≡ (front ++ node ∷ []) ++ back
    again = sym (append_assoc front (node ∷ []) back)

    at-middle : operator_at (front ++ node ∷ back) (length front) ≡ node.operator
    at-middle = ap (λ (n : Node). n.operator) (get_or_at front node back nowhere (length front) refl)

    mine : is_stream node.operator ≡ true → GoesOnLawfully (schema_of node.operator) (fed_to (length front) es) (streams (length evs))
    mine e = subst (λ (n : ℕ). GoesOnLawfully (schema_of node.operator) (fed_to (length front) es) (streams n)) (sym longe)
        (subst (λ m. GoesOnLawfully (schema_of m) (fed_to (length front) es) (streams (length front))) at-middle
        (fed (length front) (omega (arith, length-append front (node ∷ back))) (ap is_stream at-middle ∙ e)))

    here : (rest : List (List Value)) × GoesOnBy (node_width ws node) (handed (length front) (front ++ node ∷ back) es) rest ev
    here = node-on front ws rests evs node back es (streams (length evs)) long planned.0 planned.1 legal on mine

-- ---- histories

pub answer-goes-on : (plan : List Node) → ArePlanned [] plan → 0 < length plan → AnswerGoesOn plan
answer-goes-on plan planned lt trace h l lists on = record {
  later = r.1;
  whole = λ f. ap (λ es. weigh f (rows_of es ++ r.1)) out ∙ r.2.whole f;
  clear = λ row k ps m. none_at ps (map Tuple r.1) (none-behind root (map Tuple r.1) r.2.good.0 ps (subst (λ (es : List Element). In (Punct ps) es) out m)) row (In-map_from Tuple row r.1 k);
}
  where
    root : List Element
    root = handed (root_of plan) plan (steps_from plan h)

    out : elements_out (outputs_of trace plan h) ≡ root
    out = outputs-handed trace plan h

    streams : ℕ → List (List Value)
    streams n = list_at lists (place_in 0 (streams_of plan) n)

    fed : (n : ℕ) → n < length plan → is_stream (operator_at plan n) ≡ true → GoesOnLawfully (schema_of (operator_at plan n)) (fed_to n (steps_from plan h)) (list_at lists (place_in 0 (streams_of plan) n))
    fed n k e =
        let z : 0 + n ≡ n = omega arith in
        let p = member-place (streams_of plan) (length plan) n (subst (λ (j : ℕ). In j (streams_of plan)) z (stream-member 0 n plan k e)) in
        let y : 0 + p.0 ≡ p.0 = omega arith in
        subst (λ (j : ℕ). GoesOnLawfully (schema_of (operator_at plan j)) (fed_to j (steps_from plan h)) (list_at lists (place_in 0 (streams_of plan) j))) p.2
        (subst (GoesOnLawfully (schema_at plan p.0) (fed_to (stream_node plan p.0) (steps_from plan h)))
        (sym (ap (list_at lists) (rising-place 0 0 (streams_of plan) (length plan) p.0 (all-rise plan) p.1) ∙ ap (λ (j : ℕ). get_or lists j []) y))
        (subst (λ (xs : List Element). GoesOnLawfully (schema_at plan p.0) xs (get_or lists p.0 [])) (sym (fed-elements (begun plan) h p.0 p.1 l)) (on p.0 p.1)))

    r : (width : ℕ) × (rest : List (List Value)) × GoesOnBy width root rest (answer_of plan lists)
    r = all-on streams [] [] [] [] plan (steps_from plan h) refl refl refl planned (legal-steps (begun plan) h l) fed (λ n k. absurd (omega arith)) (root_of plan) (root-there plan lt)

pub is-final : (plan : List Node) → ArePlanned [] plan → 0 < length plan → IsFinal plan
is-final plan planned lt trace h l lists on f =
    let b = answer-goes-on plan planned lt trace h l lists on in
    omega (arith, b.whole f, weigh-append f (rows_of (elements_out (outputs_of trace plan h))) b.later)

rows-at : (lists : List (List Element)) (k : ℕ) → get_or (map rows_of lists) k [] ≡ rows_of (get_or lists k [])
rows-at [] k = refl
rows-at (list ∷ lists) zero = refl
rows-at (list ∷ lists) (suc k) = rows-at lists k

pub accepted-final : (plan : List Node) → ArePlanned [] plan → 0 < length plan → IsFinalWhereAccepted plan
accepted-final plan planned lt trace h l lists accepted begin = is-final plan planned lt trace h l (map rows_of lists) on
  where
    on : GoOnLawfully plan h (map rows_of lists)
    on s k = record {
      later = rows_of q.0;
      whole = rows-at lists s ∙ ap rows_of q.1 ∙ rows_of-append (elements_of s h) q.0;
      fit = λ row m. fits-length (schema_at plan s) (Tuple row) (a.0 (Tuple row) (subst (λ (es : List Element). In (Tuple row) es) (sym q.1) (In-append_right (Tuple row) (elements_of s h) q.0 (row-in row q.0 m))));
      clear = λ row m ps p. none_at ps q.0 (none-behind (elements_of s h) q.0 (subst IsLawful q.1 a.1) ps p) row (row-in row q.0 m);
    }
      where
        q : (later : List Element) × (get_or lists s [] ≡ elements_of s h ++ later)
        q = begin s k

        a : AreAccepted (schema_at plan s) (get_or lists s [])
        a = accepted.1 s k

pub among-arrived : (plan : List Node) → ArePlanned [] plan → 0 < length plan → IsAmongArrived plan
among-arrived plan planned lt trace h l = is-final plan planned lt trace h l (lists_of plan h) on
  where
    on : GoOnLawfully plan h (lists_of plan h)
    on s k = record {
      later = [];
      whole = (let z : 0 + s ≡ s = omega arith in get_or-upto (λ j. rows_of (elements_of j h)) 0 (length (streams_of plan)) s [] k ∙ ap (λ j. rows_of (elements_of j h)) z ∙ sym (append-nil (rows_of (elements_of s h))));
      fit = λ row m. absurd m;
      clear = λ row m. absurd m;
    }
