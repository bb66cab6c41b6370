-- The run on one thread with sweeps ends complete.
use Rattle.std.proofs.Common.{ℕ, ◌+◌, ◌<◌, Bool, true, false, cond, List, [], ◌∷◌, ◌++◌, ◌≡◌, map, length, get_or, refl, sym, ap, ◌∙◌, subst, inl, inr, eqb, arith, append_assoc, append-nil, length-append}
use Rattle.pj_laws.proofs.Histories.{reached-nodes, nodes-append, legal-append, reached-append}
use Rattle.std.proofs.lemmas.Bool.{cases_eq}
use Rattle.std.proofs.lemmas.List.{length-map, length_push, get_or_at}
use Rattle.pj_events.specs.Patterns.{all_wild}
use Rattle.pj_events.specs.Join.{In, Element, Punct, PunctAt, JoinData, JoinState, AllGiven, IsSettled, AreCertified, AreLegalSteps, inputs, arities, arity, start, run, upto_from}
use Rattle.pj_join_laws.specs.Laws.{sweeps_from}
use Rattle.pj_events.specs.Plan.{Operator, Stream, Select, Project, Union, Join, Group, Node, Local, Comes, Fed, Own, PlanStep, Feed, Act, Pass, after, after_all, batches, moved, plan_run, handed, fed_to, operator_at, nowhere, IsWellMade, node_width, ArePlanned, AreStepsLegal, IsClosedBy, IsDone}
use Rattle.pj_events.specs.declared.events.Entry.{Entry}
use Rattle.pj_events.specs.declared.events.Event.TheVariants.{Sweep as Swept}
use Rattle.pj_events.specs.History.{Reached, is_stream, state_in, step_of, nodes_by, begun, reached_of, nodes_from, steps_from, IsOn, IsLegal}
use Rattle.pj_events.specs.OneThread.{Place, plain, probes, sweeps_at, places_in, places_from, schema_of}
use Rattle.pj_laws.specs.HistoryLaws.{Certified, AllAreCertified}
use Rattle.pj_value.proofs.Members.{In-append_left, in-place, map-at}
use Rattle.pj_join_laws.proofs.Sound.{sound-start, sound-run}
use Rattle.pj_join_laws.proofs.Late.{settled-from}
use Rattle.pj_laws.proofs.Glue.{from_input, locals_all, from-is, operator-is}
use Rattle.pj_laws.proofs.Operators.{join_steps, join-after}
use Rattle.pj_laws.proofs.Whole.{AreGood, node-good, front-good}
use Rattle.pj_laws.proofs.Closing.{HasWild, came-in}
use Rattle.pj_laws.proofs.Settled.{AreWild, node-wild, front-wild}
use Rattle.pj_laws.proofs.Steps.{legal-steps, nodes-run}
use Rattle.pj_laws.proofs.Nodes.{operator-from}
use Rattle.pj_laws.proofs.HistoryAnswers.{closed-by, is-done}
use Rattle.pj_laws.proofs.Probes.{Rested, AllOperators, AreActsLegal, all-at, all-from, length-from}
use Rattle.pj_laws.proofs.OneRun.{acts-still, IsStill, sweeps-rest, all-places, places-on, certified-from}
use Rattle.pj_laws.proofs.OneThreadAnswer.{rested-given}
use Rattle.pj_laws.proofs.JoinRuns.{node-runs}
use Rattle.pj_laws.proofs.Passes.{place_of, sweeps-over}

-- ---- histories that go on

pub sweeps-append : (nodes : List Node) (xs ys : List Place) → sweeps_at nodes (xs ++ ys) ≡ sweeps_at nodes xs ++ sweeps_at (nodes_from nodes (sweeps_at nodes xs)) ys
sweeps-append nodes [] ys = refl
sweeps-append nodes (p ∷ xs) ys =
    let here : List Entry = plain (Swept p.join p.input) ∷ probes (nodes_by nodes (Swept p.join p.input)) in
    ap (λ (es : List Entry). here ++ es) (sweeps-append (nodes_from nodes here) xs ys)
    ∙ sym (append_assoc here (sweeps_at (nodes_from nodes here) xs) (sweeps_at (nodes_from (nodes_from nodes here) (sweeps_at (nodes_from nodes here) xs)) ys))
    ∙ ap (λ (last : List Node). (here ++ sweeps_at (nodes_from nodes here) xs) ++ sweeps_at last ys) (sym (nodes-append nodes here (sweeps_at (nodes_from nodes here) xs)))

pub steps-both : (nodes : List Node) (xs ys : List Entry) → steps_from nodes (xs ++ ys) ≡ steps_from nodes xs ++ steps_from (nodes_from nodes xs) ys
steps-both nodes [] ys = refl
steps-both nodes (x ∷ xs) ys = ap (λ (es : List PlanStep). step_of nodes x.event ∷ es) (steps-both (nodes_by nodes x.event) xs ys)

handed-both : (n : ℕ) (nodes : List Node) (xs ys : List PlanStep) → handed n nodes (xs ++ ys) ≡ handed n nodes xs ++ handed n (plan_run nodes xs) ys
handed-both n nodes [] ys = refl
handed-both n nodes (x ∷ xs) ys =
    ap (λ (es : List Element). get_or (batches x [] nodes) n [] ++ es) (handed-both n (moved x [] nodes) xs ys)
    ∙ sym (append_assoc (get_or (batches x [] nodes) n []) (handed n (moved x [] nodes) xs) (handed n (plan_run (moved x [] nodes) xs) ys))

pub fed-both : (n : ℕ) (xs ys : List PlanStep) → fed_to n (xs ++ ys) ≡ fed_to n xs ++ fed_to n ys
fed-both n [] ys = refl
fed-both n (Feed s e ∷ xs) ys = go (eqb s n) (fed-both n xs ys)
  where
    go : (b : Bool) → fed_to n (xs ++ ys) ≡ fed_to n xs ++ fed_to n ys → cond b (e ∷ fed_to n (xs ++ ys)) (fed_to n (xs ++ ys)) ≡ cond b (e ∷ fed_to n xs) (fed_to n xs) ++ fed_to n ys
    go true q = ap (λ (es : List Element). e ∷ es) q
    go false q = q
fed-both n (Act j s ∷ xs) ys = fed-both n xs ys
fed-both n (Pass ∷ xs) ys = fed-both n xs ys

abbrev pub Closings : List Node → List Entry → Type 0
Closings plan h = (n : ℕ) → n < length plan → is_stream (operator_at plan n) ≡ true → In (Punct (all_wild (length (schema_of (operator_at plan n))))) (fed_to n (steps_from plan h))

-- all rest, and every stream is closed
pub record IsLate (plan : List Node) (h : List Entry) : Type 0 where
  pub legal : IsLegal plan h
  pub on : IsOn (reached_of false plan h)
  pub rested : AllOperators Rested (nodes_from plan h)
  pub closed : Closings plan h

late-on : (plan : List Node) (h es : List Entry) → IsLate plan h → AreActsLegal (nodes_from plan h) es → AllOperators Rested (nodes_from (nodes_from plan h) es) → IsLate plan (h ++ es)
late-on plan h es i a r = record {
  legal = legal-append (begun plan) h es i.legal still.legal;
  on = ap (λ (q : Reached). q.stop) (reached-append false (begun plan) h es) ∙ still.on;
  rested = subst (AllOperators Rested) (sym (nodes-append plan h es)) r;
  closed = λ n lt t. subst (λ (xs : List Element). In (Punct (all_wild (length (schema_of (operator_at plan n))))) xs) (sym (ap (fed_to n) (steps-both plan h es) ∙ fed-both n (steps_from plan h) (steps_from (nodes_from plan h) es)))
      (In-append_left (Punct (all_wild (length (schema_of (operator_at plan n))))) (fed_to n (steps_from plan h)) (fed_to n (steps_from (nodes_from plan h) es)) (i.closed n lt t));
}
  where
    still : IsStill (reached_of false plan h) es
    still = acts-still (reached_of false plan h) es i.on (subst (λ (nodes : List Node). AreActsLegal nodes es) (sym (reached-nodes false (begun plan) h)) a)

pub wild-on : (front : List Node) (ws : List ℕ) (plan : List Node) (h es : List Entry) → AreWild front ws (steps_from plan h) → AreWild front ws (steps_from plan (h ++ es))
wild-on front ws plan h es w n lt =
    subst (HasWild (get_or ws n 0)) (sym (ap (handed n front) (steps-both plan h es) ∙ handed-both n front (steps_from plan h) (steps_from (nodes_from plan h) es)))
    (In-append_left (Punct (all_wild (get_or ws n 0))) (handed n front (steps_from plan h)) (handed n (plan_run front (steps_from plan h)) (steps_from (nodes_from plan h) es)) (w n lt))

-- ---- one node

-- no punctuation waits at an operator
abbrev pub NoneWaits : Operator → Type 0
NoneWaits m = (state_in m).waiting ≡ []

-- it is no join
abbrev pub IsNoJoin : Operator → Type 0
IsNoJoin (Join spec s) = ⊥
IsNoJoin _ = Unit {0}

no_join-after : (m : Operator) (l : Local) → IsNoJoin m → IsNoJoin (after m l)
no_join-after (Stream schema sent) (Comes k e) g = tt
no_join-after (Stream schema sent) (Fed e) g = tt
no_join-after (Stream schema sent) (Own s) g = tt
no_join-after (Select test) l g = tt
no_join-after (Project columns) l g = tt
no_join-after (Union n u) (Comes k e) g = tt
no_join-after (Union n u) (Fed e) g = tt
no_join-after (Union n u) (Own s) g = tt
no_join-after (Join spec s) l g = absurd g
no_join-after (Group spec rows) (Comes k e) g = tt
no_join-after (Group spec rows) (Fed e) g = tt
no_join-after (Group spec rows) (Own s) g = tt

pub no_join-all : (m : Operator) (ls : List Local) → IsNoJoin m → IsNoJoin (after_all m ls)
no_join-all m [] g = g
no_join-all m (l ∷ ls) g = no_join-all (after m l) ls (no_join-after m l g)

pub no_join-waits : (m : Operator) → IsNoJoin m → NoneWaits m
no_join-waits (Stream schema sent) g = refl
no_join-waits (Select test) g = refl
no_join-waits (Project columns) g = refl
no_join-waits (Union n u) g = refl
no_join-waits (Join spec s) g = absurd g
no_join-waits (Group spec rows) g = refl

-- the join of a node whose inputs have sent wildcards alone settles by the sweeps of its inputs, and the nodes before it stay
join-settles : (front : List Node) (ws : List ℕ) (node : Node) (back : List Node) (h : List Entry) (spec : JoinData) → node.operator ≡ Join spec start → length ws ≡ length front → ((m : ℕ) → In m node.inputs → m < length ws)
    → IsWellMade node.operator (map (λ m. get_or ws m 0) node.inputs) → IsLate (front ++ node ∷ back) h → AreGood front ws (steps_from (front ++ node ∷ back) h) → AreWild front ws (steps_from (front ++ node ∷ back) h) → AreCertified spec
    → NoneWaits (operator_at (nodes_from (nodes_from (front ++ node ∷ back) h) (sweeps_at (nodes_from (front ++ node ∷ back) h) (map (place_of (length front)) (upto_from 0 (inputs spec))))) (length front))
    × ((m : ℕ) → m < length front → operator_at (nodes_from (nodes_from (front ++ node ∷ back) h) (sweeps_at (nodes_from (front ++ node ∷ back) h) (map (place_of (length front)) (upto_from 0 (inputs spec))))) m ≡ operator_at (nodes_from (front ++ node ∷ back) h) m)
join-settles front ws node back h spec q long before made late good wilds certs =
    (subst NoneWaits (sym over.0) settled, over.1)
  where
    plan : List Node
    plan = front ++ node ∷ back

    es : List PlanStep
    es = steps_from plan h

    L : List Local
    L = locals_all front node es

    N : List Node
    N = nodes_from plan h

    s : JoinState
    s = run spec start (join_steps L)

    there : length front < length N
    there = omega (arith, length-from plan h, length-append front (node ∷ back))

    at : operator_at N (length front) ≡ Join spec s
    at =
        ap (λ (xs : List Node). operator_at xs (length front)) (nodes-run plan h)
        ∙ operator-is front node back es nowhere ∙ ap (λ (m : Operator). after_all m L) q ∙ join-after spec start L

    wide : map (λ m. get_or ws m 0) node.inputs ≡ arities spec
    wide = (subst (λ (m : Operator). IsWellMade m (map (λ m. get_or ws m 0) node.inputs)) q made).0

    legal : AreLegalSteps spec start (join_steps L)
    legal = node-runs front ws node back es spec q long before made (legal-steps (begun plan) h late.legal) good

    given : AllGiven s
    given = (subst Rested at (all-at Rested N (length front) there late.rested)).1

    ended : (k : ℕ) → k < inputs spec → (p : PunctAt) × In p s.puncts × (p.input ≡ k) × (p.patterns ≡ all_wild (arity spec k))
    ended k lt =
        let lt' : k < length node.inputs = omega (arith, lt, ap length wide, length-map node.inputs (λ m. get_or ws m 0)) in
        let w : HasWild (get_or ws (get_or node.inputs k 0) 0) (handed (get_or node.inputs k 0) front es) = wilds (get_or node.inputs k 0) (let b = before (get_or node.inputs k 0) (in-place node.inputs 0 k lt') in omega (arith, b, long)) in
        let v : HasWild (arity spec k) (from_input k L) =
        subst (HasWild (arity spec k)) (sym (from-is front node es k lt'))
        (subst (λ (n : ℕ). HasWild n (handed (get_or node.inputs k 0) front es)) (sym (map-at ws 0 node.inputs k lt') ∙ ap (λ (xs : List ℕ). get_or xs k 0) wide) w) in
        came-in spec start L k (all_wild (arity spec k)) v

    over : (operator_at (nodes_from N (sweeps_at N (map (place_of (length front)) (upto_from 0 (inputs spec))))) (length front) ≡ Join spec (run spec s (sweeps_from 0 (inputs spec))))
        × ((m : ℕ) → m < length front → operator_at (nodes_from N (sweeps_at N (map (place_of (length front)) (upto_from 0 (inputs spec))))) m ≡ operator_at N m)
    over = sweeps-over (inputs spec) 0 N (length front) spec s late.rested there at

    settled : (run spec s (sweeps_from 0 (inputs spec))).waiting ≡ []
    settled = (settled-from spec s certs (sound-run spec start (join_steps L) (sound-start spec) legal) given ended).1.1

-- ---- all nodes

abbrev pub AllRest : List Node → Type 0
AllRest nodes = (m : ℕ) → m < length nodes → NoneWaits (operator_at nodes m)

settled-of : (m : Operator) → Rested m → NoneWaits m → IsSettled (state_in m)
settled-of m r w = (rested-given m r, w)

abbrev pub SettlesFrom : List Node → List ℕ → List Node → List Entry → List Node → Type 0
SettlesFrom front ws back h plan =
    AllAreCertified plan → IsLate plan h → ((es : List PlanStep) → AreStepsLegal plan es → AreGood front ws es) → AreWild front ws (steps_from plan h)
    → ((m : ℕ) → m < length front → NoneWaits (operator_at (nodes_from plan h) m))
    → (m : ℕ) → m < length plan → NoneWaits (operator_at (nodes_from (nodes_from plan h) (sweeps_at (nodes_from plan h) (places_from (length front) back))) m)

settles-node : (front : List Node) (ws : List ℕ) (node : Node) (back : List Node) (h : List Entry) → length ws ≡ length front → ArePlanned ws (node ∷ back)
    → ((h' : List Entry) → SettlesFrom (front ++ node ∷ []) (ws ++ node_width ws node ∷ []) back h' (front ++ node ∷ back)) → SettlesFrom front ws (node ∷ back) h (front ++ node ∷ back)
settles-node front ws node back h long planned go-on certs late good wilds before m lt =
    subst (λ (nodes : List Node). NoneWaits (operator_at nodes m)) (sym end)
    (subst (λ (k : ℕ). NoneWaits (operator_at (nodes_from N' (sweeps_at N' (places_from k back))) m)) (length_push front node)
    (go-on h' certs late' good' wild' before' m lt))
  where
    plan : List Node
    plan = front ++ node ∷ back

    N : List Node
    N = nodes_from plan h

    P : List Place
    P = places_in (length front) node.operator

    es : List Entry
    es = sweeps_at N P

    h' : List Entry
    h' = h ++ es

    N' : List Node
    N' = nodes_from plan h'

    cut : N' ≡ nodes_from N es
    cut = nodes-append plan h es

    end : nodes_from N (sweeps_at N (P ++ places_from (length front + 1) back)) ≡ nodes_from N' (sweeps_at N' (places_from (length front + 1) back))
    end =
        ap (nodes_from N) (sweeps-append N P (places_from (length front + 1) back))
        ∙ nodes-append N es (sweeps_at (nodes_from N es) (places_from (length front + 1) back))
        ∙ ap (λ (nodes : List Node). nodes_from nodes (sweeps_at nodes (places_from (length front + 1) back))) (sym cut)

    there : length front < length plan
    there = omega (arith, length-append front (node ∷ back))

    its : operator_at plan (length front) ≡ node.operator
    its = ap (λ (x : Node). x.operator) (get_or_at front node back nowhere (length front) refl)

    swept : AreActsLegal N es × AllOperators Rested (nodes_from N es)
    swept = sweeps-rest N P late.rested (certified-from plan h (all-from Certified plan certs))
        (places-on plan h P (λ p k. all-places front (node ∷ back) p (In-append_left p P (places_from (length front + 1) back) k)))

    late' : IsLate plan h'
    late' = late-on plan h es late swept.0 swept.1

    steps' : AreStepsLegal plan (steps_from plan h')
    steps' = legal-steps (begun plan) h' late'.legal

    wilds' : AreWild front ws (steps_from plan h')
    wilds' = wild-on front ws plan h es wilds

    no_join : IsNoJoin (operator_at plan (length front)) → NoneWaits (operator_at N (length front))
    no_join g = let o = operator-from plan h (length front) there in no_join-waits (operator_at N (length front)) (subst IsNoJoin (sym o.1) (no_join-all (operator_at plan (length front)) o.0 g))

    here : (o : Operator) → node.operator ≡ o
        → NoneWaits (operator_at (nodes_from N (sweeps_at N (places_in (length front) o))) (length front)) × ((m : ℕ) → m < length front → operator_at (nodes_from N (sweeps_at N (places_in (length front) o))) m ≡ operator_at N m)
    here (Join spec s) q =
        let fresh : s ≡ start = (subst (λ (o : Operator). IsWellMade o (map (λ m. get_or ws m 0) node.inputs)) q planned.1).2 in
        join-settles front ws node back h spec (q ∙ ap (Join spec) fresh) long planned.0 planned.1 late (good (steps_from plan h) (legal-steps (begun plan) h late.legal)) wilds
        (subst Certified (its ∙ q) (certs (length front) there))
    here (Stream schema sent) q = (no_join (subst IsNoJoin (sym (its ∙ q)) tt), λ m l. refl)
    here (Select test) q = (no_join (subst IsNoJoin (sym (its ∙ q)) tt), λ m l. refl)
    here (Project columns) q = (no_join (subst IsNoJoin (sym (its ∙ q)) tt), λ m l. refl)
    here (Union n u) q = (no_join (subst IsNoJoin (sym (its ∙ q)) tt), λ m l. refl)
    here (Group spec rows) q = (no_join (subst IsNoJoin (sym (its ∙ q)) tt), λ m l. refl)

    before' : (k : ℕ) → k < length (front ++ node ∷ []) → NoneWaits (operator_at N' k)
    before' k l = subst (λ (nodes : List Node). NoneWaits (operator_at nodes k)) (sym cut) (elim (cases_eq k (length front)) [
      | inl q ↦ subst (λ (i : ℕ). NoneWaits (operator_at (nodes_from N es) i)) (sym q) (here node.operator refl).0
      | inr ne ↦ let lt' : k < length front = omega (arith, ne, l, length_push front node) in subst NoneWaits (sym ((here node.operator refl).1 k lt')) (before k lt')
    ])

    mine : IsClosedBy (operator_at plan (length front)) (fed_to (length front) (steps_from plan h')) × IsDone (operator_at (plan_run plan (steps_from plan h')) (length front))
    mine =
        let o = operator-from plan h' (length front) there in
        let l' : length front < length N' = omega (arith, there, length-from plan h') in (
          closed-by (operator_at plan (length front)) (fed_to (length front) (steps_from plan h')) (late'.closed (length front) there),
          subst (λ (nodes : List Node). IsDone (operator_at nodes (length front))) (nodes-run plan h')
              (is-done (operator_at N' (length front))
              (settled-of (operator_at N' (length front)) (all-at Rested N' (length front) l' late'.rested) (before' (length front) (omega (arith, length_push front node))))),
        )

    good' : (xs : List PlanStep) → AreStepsLegal plan xs → AreGood (front ++ node ∷ []) (ws ++ node_width ws node ∷ []) xs
    good' xs l = front-good front ws node back xs long (good xs l) (node-good front ws node back xs long planned.0 planned.1 l (good xs l))

    wild' : AreWild (front ++ node ∷ []) (ws ++ node_width ws node ∷ []) (steps_from plan h')
    wild' = front-wild front ws node back (steps_from plan h') long wilds' (node-wild front ws node back (steps_from plan h') long planned.0 planned.1 mine (good (steps_from plan h') steps') wilds')

pub settles-all : (front : List Node) (ws : List ℕ) (back : List Node) (h : List Entry) → length ws ≡ length front → ArePlanned ws back → SettlesFrom front ws back h (front ++ back)
settles-all front ws [] h long planned = λ certs late good wilds before m lt. before m (omega (arith, lt, ap length (append-nil front)))
settles-all front ws (node ∷ back) h long planned =
    settles-node front ws node back h long planned (λ h'.
    subst (SettlesFrom (front ++ node ∷ []) (ws ++ node_width ws node ∷ []) back h') (append_assoc front (node ∷ []) back)
    (settles-all (front ++ node ∷ []) (ws ++ node_width ws node ∷ []) back h' (omega (arith, long, length_push ws (node_width ws node), length_push front node)) planned.2))
