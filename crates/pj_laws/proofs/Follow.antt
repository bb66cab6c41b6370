-- What events make of the joins of a plan.
use Rattle.std.proofs.Common.{ℕ, zero, suc, ◌+◌, ◌<◌, inl, inr, Bool, true, false, cond, List, [], ◌∷◌, ◌++◌, ◌≡◌, map, length, get_or, refl, sym, ap, ap₂, ◌∙◌, subst, eqb, arith, length-append}
use Rattle.std.proofs.lemmas.List.{map-append, length_push, get_or_append_left, get_or_at}
use Rattle.pj_events.specs.Join.{In, Element, Tuple, Punct, Step, Take, Give, Sweep, JoinData, JoinState, start, step, run, outputs}
use Rattle.pj_events.specs.Plan.{Operator, Stream, Select, Project, Union, Join, Group, Node, Local, Comes, Fed, Own, PlanStep, join_step, after_all, hands_all, own, brought_from, locals, handed_at, batches, moved, operator_at, nowhere, IsWellMade, node_width, ArePlanned}
use Rattle.pj_events.specs.declared.events.Entry.{Entry}
use Rattle.pj_events.specs.declared.events.Event.{Event}
use Rattle.pj_events.specs.declared.events.Event.TheVariants.{Arrive, Take as Taken, Give as Given, Sweep as Swept, Drain, Halt, Look, Stopped, Idle}
use Rattle.pj_events.specs.History.{state_in, stream_node, step_of, nodes_by, nodes_from}
use Rattle.pj_events.specs.Outcomes.{Arrival, arriving, arrivals_in, arrivals_by, arrivals_at, step_at, own_step, join_steps_by}
use Rattle.pj_laws.specs.Climb.{StandBehind}
use Rattle.pj_laws.specs.HistoryLaws.{JoinFollows, Joined, TicketsCount}
use Rattle.pj_laws.proofs.Glue.{batches-keep, length-moved}
use Rattle.pj_laws.proofs.Operators.{join_steps, join-hands, join-after}
use Rattle.pj_laws.proofs.Probes.{AllOperators, all-at}
use Rattle.pj_join_laws.proofs.Sound.{run-append}

pub planned-behind : (ws : List ℕ) (n : ℕ) (nodes : List Node) → length ws ≡ n → ArePlanned ws nodes → StandBehind n nodes
planned-behind ws n [] l p = tt
planned-behind ws n (node ∷ nodes) l p = (λ m h. omega (arith, p.0 m h, l), planned-behind (ws ++ node_width ws node ∷ []) (n + 1) nodes (omega (arith, length_push ws (node_width ws node), l)) p.2)

pub behind-moved : (e : PlanStep) (done : List (List Element)) (n : ℕ) (nodes : List Node) → StandBehind n nodes → StandBehind n (moved e done nodes)
behind-moved e done n [] b = tt
behind-moved e done n (node ∷ nodes) b = (b.0, behind-moved e (done ++ handed_at e done node ∷ []) (n + 1) nodes b.1)

pub steps-append : (xs ys : List Local) → join_steps (xs ++ ys) ≡ join_steps xs ++ join_steps ys
steps-append [] ys = refl
steps-append (Comes k e ∷ xs) ys = ap (λ (sts : List Step). join_step k e ∷ sts) (steps-append xs ys)
steps-append (Fed e ∷ xs) ys = steps-append xs ys
steps-append (Own s ∷ xs) ys = ap (λ (sts : List Step). s ∷ sts) (steps-append xs ys)

come-steps : (k : ℕ) (es : List Element) → join_steps (map (Comes k) es) ≡ map step_at (map (arriving k) es)
come-steps k [] = refl
come-steps k (e ∷ es) = ap (λ (sts : List Step). join_step k e ∷ sts) (come-steps k es)

pub brought-steps : (k : ℕ) (ms : List ℕ) (done full : List (List Element)) → ((m : ℕ) → In m ms → get_or done m [] ≡ get_or full m []) → join_steps (brought_from k ms done) ≡ map step_at (arrivals_in k ms full)
brought-steps k [] done full same = refl
brought-steps k (m ∷ ms) done full same =
    steps-append (map (Comes k) (get_or done m [])) (brought_from (k + 1) ms done)
    ∙ ap₂ (λ (xs ys : List Step). xs ++ ys) (ap (λ (es : List Element). join_steps (map (Comes k) es)) (same m (inl refl)) ∙ come-steps k (get_or full m [])) (brought-steps (k + 1) ms done full (λ j h. same j (inr h)))
    ∙ sym (map-append step_at (map (arriving k) (get_or full m [])) (arrivals_in (k + 1) ms full))

pub own-steps : (nodes : List Node) (event : Event) (n : ℕ) → join_steps (own (step_of nodes event) n) ≡ own_step n event
own-steps nodes (Arrive stream e) n = go (eqb (stream_node nodes stream) n)
  where
    go : (b : Bool) → join_steps (cond b (Fed e ∷ []) []) ≡ []
    go true = refl
    go false = refl
own-steps nodes (Taken join ticket) n = go (eqb join n)
  where
    go : (b : Bool) → join_steps (cond b (Own (Take ticket) ∷ []) []) ≡ cond b (Take ticket ∷ []) []
    go true = refl
    go false = refl
own-steps nodes (Given join ticket) n = go (eqb join n)
  where
    go : (b : Bool) → join_steps (cond b (Own (Give ticket) ∷ []) []) ≡ cond b (Give ticket ∷ []) []
    go true = refl
    go false = refl
own-steps nodes (Swept join input) n = go (eqb join n)
  where
    go : (b : Bool) → join_steps (cond b (Own (Sweep input) ∷ []) []) ≡ cond b (Sweep input ∷ []) []
    go true = refl
    go false = refl
own-steps nodes Drain n = refl
own-steps nodes Halt n = refl
own-steps nodes (Look pending) n = refl
own-steps nodes (Stopped stop) n = refl
own-steps nodes Idle n = refl

-- what a step does to the join at a place of these nodes, behind what those before handed up
follow-at : (e : PlanStep) (done : List (List Element)) (nodes : List Node) (n : ℕ) (spec : JoinData) (s : JoinState) → n < length nodes → StandBehind (length done) nodes → operator_at nodes n ≡ Join spec s
    → (operator_at (moved e done nodes) n ≡ Join spec (run spec s (join_steps (own e (length done + n)) ++ map step_at (arrivals_in 0 (get_or nodes n nowhere).inputs (batches e done nodes)))))
    × (get_or (batches e done nodes) (length done + n) [] ≡ outputs spec s (join_steps (own e (length done + n)) ++ map step_at (arrivals_in 0 (get_or nodes n nowhere).inputs (batches e done nodes))))
follow-at e done [] n spec s lt b q = absurd (omega arith)
follow-at e done (node ∷ nodes) zero spec s lt b q = (
  ap (λ (m : Operator). after_all m (locals e done node)) q ∙ join-after spec s (locals e done node) ∙ ap (λ (sts : List Step). Join spec (run spec s sts)) steps,
  ap (λ (k : ℕ). get_or (batches e (done ++ handed_at e done node ∷ []) nodes) k []) zeroth
      ∙ batches-keep e (done ++ handed_at e done node ∷ []) nodes (length done) (omega (arith, length_push done (handed_at e done node)))
      ∙ get_or_at done (handed_at e done node) [] [] (length done) refl
      ∙ ap (λ (m : Operator). hands_all m (locals e done node)) q ∙ join-hands spec s (locals e done node) ∙ ap (outputs spec s) steps,
)
  where
    zeroth : length done + 0 ≡ length done
    zeroth = omega arith

    full : List (List Element)
    full = batches e (done ++ handed_at e done node ∷ []) nodes

    seen : (m : ℕ) → In m node.inputs → get_or done m [] ≡ get_or full m []
    seen m h =
        let lt' = b.0 m h in
        sym (batches-keep e (done ++ handed_at e done node ∷ []) nodes m (omega (arith, lt', length_push done (handed_at e done node)))
        ∙ get_or_append_left done (handed_at e done node ∷ []) [] m lt')

    steps : join_steps (locals e done node) ≡ join_steps (own e (length done + 0)) ++ map step_at (arrivals_in 0 node.inputs full)
    steps =
        steps-append (own e (length done)) (brought_from 0 node.inputs done)
        ∙ ap₂ (λ (xs ys : List Step). xs ++ ys) (ap (λ (k : ℕ). join_steps (own e k)) (sym zeroth)) (brought-steps 0 node.inputs done full seen)
follow-at e done (node ∷ nodes) (suc n) spec s lt b q =
    let z : length (done ++ handed_at e done node ∷ []) + n ≡ length done + suc n = omega (arith, length_push done (handed_at e done node)) in
    let r = follow-at e (done ++ handed_at e done node ∷ []) nodes n spec s (omega arith) (subst (λ (k : ℕ). StandBehind k nodes) (sym (length_push done (handed_at e done node))) b.1) q in
    subst (λ (k : ℕ). (operator_at (moved e (done ++ handed_at e done node ∷ []) nodes) n ≡ Join spec (run spec s (join_steps (own e k) ++ map step_at (arrivals_in 0 (get_or nodes n nowhere).inputs (batches e (done ++ handed_at e done node ∷ []) nodes)))))
    × (get_or (batches e (done ++ handed_at e done node ∷ []) nodes) k [] ≡ outputs spec s (join_steps (own e k) ++ map step_at (arrivals_in 0 (get_or nodes n nowhere).inputs (batches e (done ++ handed_at e done node ∷ []) nodes))))) z r

pub follows-behind : (nodes : List Node) → StandBehind 0 nodes → JoinFollows nodes
follows-behind nodes b event n spec s lt q =
    let z : 0 + n ≡ n = omega arith in
    let r = follow-at (step_of nodes event) [] nodes n spec s lt b q in
    let w = ap (λ (k : ℕ). join_steps (own (step_of nodes event) k) ++ map step_at (arrivals_by nodes event n)) z ∙ ap (λ (sts : List Step). sts ++ map step_at (arrivals_by nodes event n)) (own-steps nodes event n) in (
      r.0 ∙ ap (λ (sts : List Step). Join spec (run spec s sts)) w,
      ap (λ (k : ℕ). get_or (batches (step_of nodes event) [] nodes) k []) (sym z) ∙ r.1 ∙ ap (outputs spec s) w,
    )

pub behind-from : (nodes : List Node) (h : List Entry) → StandBehind 0 nodes → StandBehind 0 (nodes_from nodes h)
behind-from nodes [] b = b
behind-from nodes (entry ∷ h) b = behind-from (nodes_by nodes entry.event) h (behind-moved (step_of nodes entry.event) [] 0 nodes b)

-- at any moment of a history of a well-made plan
pub join-follows : (plan : List Node) → ArePlanned [] plan → (history : List Entry) → JoinFollows (nodes_from plan history)
join-follows plan planned history = follows-behind (nodes_from plan history) (behind-from plan history (planned-behind [] 0 plan refl planned))

-- ---- tickets

next-own : (spec : JoinData) (s : JoinState) (event : Event) (n : ℕ) → (run spec s (own_step n event)).next ≡ s.next
next-own spec s (Arrive stream e) n = refl
next-own spec s (Taken join ticket) n = go (eqb join n)
  where
    go : (b : Bool) → (run spec s (cond b (Take ticket ∷ []) [])).next ≡ s.next
    go true = refl
    go false = refl
next-own spec s (Given join ticket) n = go (eqb join n)
  where
    go : (b : Bool) → (run spec s (cond b (Give ticket ∷ []) [])).next ≡ s.next
    go true = refl
    go false = refl
next-own spec s (Swept join input) n = go (eqb join n)
  where
    go : (b : Bool) → (run spec s (cond b (Sweep input ∷ []) [])).next ≡ s.next
    go true = refl
    go false = refl
next-own spec s Drain n = refl
next-own spec s Halt n = refl
next-own spec s (Look pending) n = refl
next-own spec s (Stopped stop) n = refl
next-own spec s Idle n = refl

next-arrivals : (spec : JoinData) (s : JoinState) (xs : List Arrival) → (run spec s (map step_at xs)).next ≡ s.next + length xs
next-arrivals spec s [] = omega arith
next-arrivals spec s (a ∷ xs) = next-arrivals spec (step spec s (step_at a)) xs ∙ ap (λ (k : ℕ). k + length xs) (one a.element) ∙ omega arith
  where
    one : (e : Element) → (step spec s (join_step a.input e)).next ≡ s.next + 1
    one (Tuple row) = refl
    one (Punct patterns) = refl

count-from : (nodes : List Node) (h : List Entry) (n : ℕ) (spec : JoinData) (s : JoinState) → n < length nodes → StandBehind 0 nodes → operator_at nodes n ≡ Join spec s
    → (s' : JoinState) × (operator_at (nodes_from nodes h) n ≡ Join spec s') × (s'.next ≡ s.next + length (arrivals_at nodes h n))
count-from nodes [] n spec s lt b q = (s, q, omega arith)
count-from nodes (entry ∷ h) n spec s lt b q =
    let f = (follows-behind nodes b entry.event n spec s lt q).0 in
    let r = count-from (nodes_by nodes entry.event) h n spec (run spec s (join_steps_by nodes entry.event n)) (omega (arith, lt, length-moved (step_of nodes entry.event) [] nodes)) (behind-moved (step_of nodes entry.event) [] 0 nodes b) f in
    (r.0, r.1, omega (arith, r.2, more, length-append (arrivals_by nodes entry.event n) (arrivals_at (nodes_by nodes entry.event) h n)))
  where
    more : (run spec s (join_steps_by nodes entry.event n)).next ≡ s.next + length (arrivals_by nodes entry.event n)
    more =
        ap (λ (z : JoinState). z.next) (run-append spec s (own_step n entry.event) (map step_at (arrivals_by nodes entry.event n)))
        ∙ next-arrivals spec (run spec s (own_step n entry.event)) (arrivals_by nodes entry.event n)
        ∙ ap (λ (k : ℕ). k + length (arrivals_by nodes entry.event n)) (next-own spec s entry.event n)

abbrev Started : Operator → Type 0
Started (Join spec s) = s ≡ start
Started _ = Unit {0}

made-started : (m : Operator) (ws : List ℕ) → IsWellMade m ws → Started m
made-started (Stream schema sent) ws made = tt
made-started (Select test) ws made = tt
made-started (Project columns) ws made = tt
made-started (Union n u) ws made = tt
made-started (Join spec s) ws made = made.2
made-started (Group spec rows) ws made = tt

planned-started : (ws : List ℕ) (nodes : List Node) → ArePlanned ws nodes → AllOperators Started nodes
planned-started ws [] p = tt
planned-started ws (node ∷ nodes) p = (made-started node.operator (map (λ m. get_or ws m 0) node.inputs) p.1, planned-started (ws ++ node_width ws node ∷ []) nodes p.2)

joined-form : (m : Operator) → Joined m → Started m → (spec : JoinData) × (m ≡ Join spec start)
joined-form (Stream schema sent) j s = absurd j
joined-form (Select test) j s = absurd j
joined-form (Project columns) j s = absurd j
joined-form (Union n u) j s = absurd j
joined-form (Join spec state) j s = (spec, ap (Join spec) s)
joined-form (Group spec rows) j s = absurd j

pub tickets-count : (plan : List Node) → ArePlanned [] plan → TicketsCount plan
tickets-count plan planned h n lt joined =
    let form = joined-form (operator_at plan n) joined (all-at Started plan n lt (planned-started [] plan planned)) in
    let r = count-from plan h n form.0 start lt (planned-behind [] 0 plan refl planned) form.1 in
    omega (arith, r.2, ap (λ (m : Operator). (state_in m).next) r.1)
