-- What a legal history makes of each join of a plan.
use Rattle.std.proofs.Common.{ℕ, zero, suc, ◌+◌, ◌<◌, List, [], ◌∷◌, ◌++◌, ◌≡◌, map, length, get_or, refl, sym, ap, ap₂, ◌∙◌, subst, arith, append_assoc, append-nil}
use Rattle.std.proofs.lemmas.List.{length-map, length_push, get_or_at}
use Rattle.pj_events.specs.Join.{In, Element, Step, JoinData, JoinState, inputs, arities, arity, start, run, AreLegalSteps}
use Rattle.pj_events.specs.Plan.{Operator, Join, Node, Local, PlanStep, after_all, own, brought_from, locals, handed_at, batches, moved, operator_at, nowhere, IsWellMade, node_width, ArePlanned, AreStepsLegal}
use Rattle.pj_events.specs.declared.events.Entry.{Entry}
use Rattle.pj_events.specs.History.{step_of, nodes_by, begun, nodes_from, steps_from}
use Rattle.pj_events.specs.Outcomes.{arrivals_in, step_at, join_steps_by, join_steps_of}
use Rattle.pj_laws.specs.Climb.{StandBehind}
use Rattle.pj_laws.specs.HistoryLaws.{JoinRuns}
use Rattle.pj_laws.proofs.Glue.{from_input, locals_all, locals-inputs, from-is, moved-append, batches-append, batches-keep, length-batches, length-moved}
use Rattle.pj_laws.proofs.Operators.{AreWithin, AreOwnAllowed, IsFlow, join_steps, join-legal}
use Rattle.pj_laws.proofs.Whole.{IsGood, AreLocalsAllowed, AreGood, locals-allowed, within-all, fed-join, node-good, front-good}
use Rattle.pj_laws.proofs.Steps.{legal-steps}
use Rattle.pj_laws.proofs.Follow.{planned-behind, behind-moved, steps-append, brought-steps, own-steps, follows-behind}
use Rattle.pj_join_laws.proofs.Sound.{run-append}
use Rattle.pj_value.proofs.Members.{in-place, map-at}

-- ---- the steps of a node

step-more : (front : List Node) (node : Node) (back : List Node) (entry : Entry) (h : List Entry) → ((m : ℕ) → In m node.inputs → m < length front)
    → ((front' : List Node) (node' : Node) (back' : List Node) → ((m : ℕ) → In m node'.inputs → m < length front') → join_steps (locals_all front' node' (steps_from (front' ++ node' ∷ back') h)) ≡ join_steps_of (front' ++ node' ∷ back') h (length front'))
    → join_steps (locals_all front node (steps_from (front ++ node ∷ back) (entry ∷ h))) ≡ join_steps_of (front ++ node ∷ back) (entry ∷ h) (length front)
step-more front node back entry h before go-on =
    steps-append (locals e D node) (locals_all (moved e [] front) node (steps_from (moved e [] nodes) h))
    ∙ ap₂ (λ (xs ys : List Step). xs ++ ys) now later
  where
    nodes : List Node
    nodes = front ++ node ∷ back

    e : PlanStep
    e = step_of nodes entry.event

    D : List (List Element)
    D = batches e [] front

    long : length D ≡ length front
    long = let l = length-batches e [] front in omega arith

    next' : Node
    next' = record { inputs = node.inputs; operator = after_all node.operator (locals e D node) }

    rest : List Node
    rest = moved e (D ++ handed_at e D node ∷ []) back

    shape : moved e [] nodes ≡ moved e [] front ++ next' ∷ rest
    shape = moved-append e [] front (node ∷ back)

    seen : (m : ℕ) → In m node.inputs → get_or D m [] ≡ get_or (batches e [] nodes) m []
    seen m h =
        sym (ap (λ (bs : List (List Element)). get_or bs m []) (batches-append e [] front (node ∷ back))
        ∙ batches-keep e D (node ∷ back) m (omega (arith, long, before m h)))

    place : get_or nodes (length front) nowhere ≡ node
    place = get_or_at front node back nowhere (length front) refl

    now : join_steps (locals e D node) ≡ join_steps_by nodes entry.event (length front)
    now =
        steps-append (own e (length D)) (brought_from 0 node.inputs D)
        ∙ ap₂ (λ (xs ys : List Step). xs ++ ys)
        (ap (λ (k : ℕ). join_steps (own e k)) long ∙ own-steps nodes entry.event (length front))
        (brought-steps 0 node.inputs D (batches e [] nodes) seen ∙ ap (λ (x : Node). map step_at (arrivals_in 0 x.inputs (batches e [] nodes))) (sym place))

    ih : join_steps (locals_all (moved e [] front) next' (steps_from (moved e [] front ++ next' ∷ rest) h)) ≡ join_steps_of (moved e [] front ++ next' ∷ rest) h (length (moved e [] front))
    ih = go-on (moved e [] front) next' rest (λ m k. omega (arith, before m k, length-moved e [] front))

    later : join_steps (locals_all (moved e [] front) node (steps_from (moved e [] nodes) h)) ≡ join_steps_of (moved e [] nodes) h (length front)
    later =
        ap join_steps (locals-inputs (moved e [] front) node next' (steps_from (moved e [] nodes) h) refl)
        ∙ ap (λ (xs : List Node). join_steps (locals_all (moved e [] front) next' (steps_from xs h))) shape
        ∙ ih
        ∙ ap₂ (λ (xs : List Node) (n : ℕ). join_steps_of xs h n) (sym shape) (length-moved e [] front)

steps-are : (front : List Node) (node : Node) (back : List Node) (h : List Entry) → ((m : ℕ) → In m node.inputs → m < length front)
    → join_steps (locals_all front node (steps_from (front ++ node ∷ back) h)) ≡ join_steps_of (front ++ node ∷ back) h (length front)
steps-are front node back [] before = refl
steps-are front node back (entry ∷ h) before = step-more front node back entry h before (λ front' node' back' before'. steps-are front' node' back' h before')

-- ---- they are legal

pub node-runs : (front : List Node) (ws : List ℕ) (node : Node) (back : List Node) (es : List PlanStep) (spec : JoinData) → node.operator ≡ Join spec start → length ws ≡ length front → ((m : ℕ) → In m node.inputs → m < length ws)
    → IsWellMade node.operator (map (λ m. get_or ws m 0) node.inputs) → AreStepsLegal (front ++ node ∷ back) es → AreGood front ws es → AreLegalSteps spec start (join_steps (locals_all front node es))
node-runs front ws node back es spec q long before made legal good = join-legal spec start L within mine flow
  where
    L : List Local
    L = locals_all front node es

    W : List ℕ
    W = map (λ m. get_or ws m 0) node.inputs

    wide : W ≡ arities spec
    wide = (subst (λ (m : Operator). IsWellMade m (map (λ m. get_or ws m 0) node.inputs)) q made).0

    within : AreWithin (inputs spec) (locals_all front node es)
    within = subst (λ (n : ℕ). AreWithin n (locals_all front node es)) (sym (length-map node.inputs (λ m. get_or ws m 0)) ∙ ap length wide) (within-all front node es)

    mine : AreOwnAllowed spec start (locals_all front node es)
    mine = fed-join spec start (locals_all front node es) (subst (λ (m : Operator). AreLocalsAllowed m (locals_all front node es)) q (locals-allowed front node back es legal))

    flow : (k : ℕ) → k < inputs spec → IsFlow spec start (locals_all front node es) k
    flow k lt =
        let lt' : k < length node.inputs = omega (arith, lt, ap length wide, length-map node.inputs (λ m. get_or ws m 0)) in
        let g : IsGood (get_or ws (get_or node.inputs k 0) 0) (from_input k (locals_all front node es)) =
        subst (IsGood (get_or ws (get_or node.inputs k 0) 0)) (sym (from-is front node es k lt')) (good (get_or node.inputs k 0) (let b = before (get_or node.inputs k 0) (in-place node.inputs 0 k lt') in omega (arith, b, long))) in
        let f : IsGood (arity spec k) (from_input k (locals_all front node es)) =
        subst (λ (w : ℕ). IsGood w (from_input k (locals_all front node es))) (sym (map-at ws 0 node.inputs k lt') ∙ ap (λ (xs : List ℕ). get_or xs k 0) wide) g in
        record { clear = λ p hp e. absurd hp; lawful = f.0; fit = f.1 }

-- at each place behind these nodes
runs-at : (front : List Node) (ws : List ℕ) (back : List Node) (h : List Entry) (n : ℕ) (spec : JoinData) → length ws ≡ length front → ArePlanned ws back
    → AreStepsLegal (front ++ back) (steps_from (front ++ back) h) → AreGood front ws (steps_from (front ++ back) h) → n < length back → operator_at back n ≡ Join spec start
    → AreLegalSteps spec start (join_steps_of (front ++ back) h (length front + n))
runs-at front ws [] h n spec long planned legal good lt q = absurd (omega arith)
runs-at front ws (node ∷ back) h zero spec long planned legal good lt q =
    let z : length front ≡ length front + 0 = omega arith in
    subst (λ (k : ℕ). AreLegalSteps spec start (join_steps_of (front ++ node ∷ back) h k)) z
    (subst (AreLegalSteps spec start) (steps-are front node back h (λ m k. omega (arith, planned.0 m k, long)))
    (node-runs front ws node back (steps_from (front ++ node ∷ back) h) spec q long planned.0 planned.1 legal good))
runs-at front ws (node ∷ back) h (suc n) spec long planned legal good lt q =
    let z : length (front ++ node ∷ []) + n ≡ length front + suc n = omega (arith, length_push front node) in
    let again : (front ++ node ∷ []) ++ back ≡ front ++ node ∷ back = append_assoc front (node ∷ []) back in
    subst (λ (k : ℕ). AreLegalSteps spec start (join_steps_of (front ++ node ∷ back) h k)) z
    (subst (λ (nodes : List Node). AreLegalSteps spec start (join_steps_of nodes h (length (front ++ node ∷ []) + n))) again
    (runs-at (front ++ node ∷ []) (ws ++ node_width ws node ∷ []) back h n spec (omega (arith, long, length_push ws (node_width ws node), length_push front node)) planned.2
    (subst (λ (nodes : List Node). AreStepsLegal nodes (steps_from nodes h)) (sym again) legal)
    (subst (λ (nodes : List Node). AreGood (front ++ node ∷ []) (ws ++ node_width ws node ∷ []) (steps_from nodes h)) (sym again)
    (front-good front ws node back (steps_from (front ++ node ∷ back) h) long good (node-good front ws node back (steps_from (front ++ node ∷ back) h) long planned.0 planned.1 legal good)))
    (omega arith) q))

-- ---- what they make of it

state-from : (nodes : List Node) (h : List Entry) (n : ℕ) (spec : JoinData) (s : JoinState) → StandBehind 0 nodes → n < length nodes → operator_at nodes n ≡ Join spec s
    → operator_at (nodes_from nodes h) n ≡ Join spec (run spec s (join_steps_of nodes h n))
state-from nodes [] n spec s b lt q = q
state-from nodes (entry ∷ h) n spec s b lt q =
    state-from (nodes_by nodes entry.event) h n spec (run spec s (join_steps_by nodes entry.event n)) (behind-moved (step_of nodes entry.event) [] 0 nodes b) (omega (arith, lt, length-moved (step_of nodes entry.event) [] nodes)) (follows-behind nodes b entry.event n spec s lt q).0
    ∙ ap (Join spec) (sym (run-append spec s (join_steps_by nodes entry.event n) (join_steps_of (nodes_by nodes entry.event) h n)))

steps-more : (nodes : List Node) (h : List Entry) (entry : Entry) (n : ℕ) → join_steps_of nodes (h ++ entry ∷ []) n ≡ join_steps_of nodes h n ++ join_steps_by (nodes_from nodes h) entry.event n
steps-more nodes [] entry n = append-nil (join_steps_by nodes entry.event n)
steps-more nodes (e ∷ h) entry n =
    ap (λ (sts : List Step). join_steps_by nodes e.event n ++ sts) (steps-more (nodes_by nodes e.event) h entry n)
    ∙ sym (append_assoc (join_steps_by nodes e.event n) (join_steps_of (nodes_by nodes e.event) h n) (join_steps_by (nodes_from (nodes_by nodes e.event) h) entry.event n))

pub join-runs : (plan : List Node) → ArePlanned [] plan → JoinRuns plan
join-runs plan planned = record {
  legal = λ h n spec l lt q. let z : 0 + n ≡ n = omega arith in
      subst (λ (k : ℕ). AreLegalSteps spec start (join_steps_of plan h k)) z (runs-at [] [] plan h n spec refl planned (legal-steps (begun plan) h l) (λ k lt. absurd (omega arith)) lt q);
  state = λ h n spec lt q. state-from plan h n spec start (planned-behind [] 0 plan refl planned) lt q;
  more = steps-more plan;
}
