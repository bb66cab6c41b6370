-- One more entry behind a history of a tree.
use Rattle.std.proofs.Common.{ℕ, subst, ◌≤◌, zero, suc, ◌+◌, ◌<◌, max, Bool, true, false, List, [], ◌∷◌, ◌++◌, ◌≡◌, cond, map, length, get_or, refl, sym, ap, ap₂, ◌∙◌, arith, length-append}
use Rattle.std.proofs.lemmas.List.{length_push}
use Rattle.pj_events.specs.Join.{start, AreLegalSteps, Tuple, Punct, new_tuple, Element, upto_from}
use Rattle.pj_events.specs.Plan.{ArePlanned, Operator, Stream, Select, Project, Union, Join, Group, Comes, after, after_all, Node, operator_at}
use Rattle.pj_events.specs.declared.events.Entry.{Entry}
use Rattle.pj_events.specs.declared.events.Event.{Event}
use Rattle.pj_events.specs.declared.events.Out.{Out}
use Rattle.pj_events.specs.declared.events.Event.TheVariants.{Arrive, Take as Taken, Give as Given, Sweep as Swept, Drain, Halt, Look, Stopped, Idle}
use Rattle.pj_events.specs.History.{state_in, out_of, notes_of, gained, Reached, next, reached_of, undrained_after, nodes_from}
use Rattle.pj_events.specs.Outcomes.{counted, counts, step_at, own_step, join_steps_of, place_in, Arrival, arrivals_at, peak_of, stored_at, outputs_of}
use Rattle.pj_events.specs.CoreKept.{core_kept, count_of, kept_in}
use Rattle.pj_laws.specs.Climb.{local_at, Load, coming, going_on, climbed_from, IsTree, HasOneTop, Climbed, climb_of, EventClimbs}
use Rattle.pj_laws.specs.ClimbKept.{handed_by, counted_with, raised, undrained_with, kept_with, StoresGrow, JoinsClimb, AddsClimb}
use Rattle.pj_laws.specs.HistoryLaws.{AddsEntry}
use Rattle.pj_laws.proofs.HistoryAnswers.{adds-entry, trace-adds-notes}
use Rattle.pj_laws.proofs.JoinRuns.{join-runs}
use Rattle.pj_laws.proofs.Trees.{tree-from, above-from}
use Rattle.pj_laws.proofs.ClimbingEvents.{events-climb}
use Rattle.pj_laws.proofs.Nodes.{counts-from}
use Rattle.pj_laws.proofs.Probes.{length-from}

pub top-from : (plan : List Node) (h : List Entry) → HasOneTop plan → HasOneTop (nodes_from plan h)
top-from plan h top n lt = let a = top n (omega (arith, lt, length-from plan h)) in (a.0, above-from plan h n ∙ a.1)

-- ---- one place after the other

pub counted-none : (ns : List ℕ) (nodes : List Node) → counted_with ns nodes [] ≡ ns
counted-none [] nodes = refl
counted-none (n ∷ ns) [] = refl
counted-none (n ∷ ns) (node ∷ nodes) = refl

-- nothing is counted of nothing
pub counted-zero : (operator : Operator) → counted operator 0 ≡ 0
counted-zero operator = go (counts operator) 0
  where
    go : (b : Bool) (z : ℕ) → cond b z z ≡ z
    go true z = refl
    go false z = refl

pub counted-plus : (operator : Operator) (n m : ℕ) → counted operator (n + m) ≡ counted operator n + counted operator m
counted-plus operator n m = go (counts operator)
  where
    go : (b : Bool) → cond b (n + m) zero ≡ cond b n zero + cond b m zero
    go true = refl
    go false = refl

raised-none : (ns : List ℕ) → raised ns [] ≡ ns
raised-none [] = refl
raised-none (n ∷ ns) = refl

-- where as many were counted at each place as came there
counted-upto : (f g : ℕ → ℕ) (k n : ℕ) (nodes : List Node) (brought : List (List Arrival)) → n ≤ length nodes
    → ((i : ℕ) → i < n → g (k + i) ≡ f (k + i) + counted (operator_at nodes i) (length (get_or brought i []))) → map g (upto_from k n) ≡ counted_with (map f (upto_from k n)) nodes brought
counted-upto f g k zero nodes brought few s = refl
counted-upto f g k (suc n) [] brought few s = absurd (omega (arith, few))
counted-upto f g k (suc n) (node ∷ nodes) [] few s =
    let z : k + 0 ≡ k = omega arith in
    ap₂ (λ (m : ℕ) (ms : List ℕ). m ∷ ms) (ap g (sym z) ∙ s 0 (omega arith) ∙ plus-none (f (k + 0)) (counted node.operator 0) (counted-zero node.operator) ∙ ap f z)
    (counted-upto f g (k + 1) n nodes [] (omega (arith, few)) (λ i lt. let y : k + suc i ≡ k + 1 + i = omega arith in ap g (sym y) ∙ s (suc i) (omega (arith, lt)) ∙ ap (λ (m : ℕ). f m + counted (operator_at nodes i) 0) y)
    ∙ counted-none (map f (upto_from (k + 1) n)) nodes)
  where
    plus-none : (m z : ℕ) → z ≡ 0 → m + z ≡ m
    plus-none m z e = omega (arith, e)
counted-upto f g k (suc n) (node ∷ nodes) (came ∷ brought) few s =
    let z : k + 0 ≡ k = omega arith in
    ap₂ (λ (m : ℕ) (ms : List ℕ). m ∷ ms) (ap g (sym z) ∙ s 0 (omega arith) ∙ ap (λ (m : ℕ). f m + counted node.operator (length came)) z)
    (counted-upto f g (k + 1) n nodes brought (omega (arith, few))
    (λ i lt. let y : k + suc i ≡ k + 1 + i = omega arith in ap g (sym y) ∙ s (suc i) (omega (arith, lt)) ∙ ap (λ (m : ℕ). f m + counted (operator_at nodes i) (length (get_or brought i []))) y))

raised-upto : (f g : ℕ → ℕ) (k n : ℕ) (nodes : List Node) → ((i : ℕ) → i < n → g (k + i) ≡ max (f (k + i)) (stored_at nodes i)) → map g (upto_from k n) ≡ raised (map f (upto_from k n)) nodes
raised-upto f g k zero nodes s = refl
raised-upto f g k (suc n) [] s =
    let z : k + 0 ≡ k = omega arith in
    ap₂ (λ (m : ℕ) (ms : List ℕ). m ∷ ms) (ap g (sym z) ∙ s 0 (omega arith) ∙ max-none (f (k + 0)) ∙ ap f z)
    (raised-upto f g (k + 1) n [] (λ i lt. let y : k + suc i ≡ k + 1 + i = omega arith in ap g (sym y) ∙ s (suc i) (omega (arith, lt)) ∙ ap (λ (m : ℕ). max (f m) 0) y) ∙ raised-none (map f (upto_from (k + 1) n)))
  where
    max-none : (m : ℕ) → max m 0 ≡ m
    max-none m = omega arith
raised-upto f g k (suc n) (node ∷ nodes) s =
    let z : k + 0 ≡ k = omega arith in
    ap₂ (λ (m : ℕ) (ms : List ℕ). m ∷ ms) (ap g (sym z) ∙ s 0 (omega arith) ∙ ap (λ (m : ℕ). max (f m) (stored_at (node ∷ nodes) 0)) z)
    (raised-upto f g (k + 1) n nodes (λ i lt. let y : k + suc i ≡ k + 1 + i = omega arith in ap g (sym y) ∙ s (suc i) (omega (arith, lt)) ∙ ap (λ (m : ℕ). max (f m) (stored_at nodes i)) y))

-- ---- what is handed out

handed-gained : (trace : Bool) (nodes : List Node) (event : Event) → IsTree nodes → HasOneTop nodes → gained trace nodes event ≡ handed_by trace nodes event
handed-gained trace nodes event tree top =
    ap (λ (es : List Element). cond trace (notes_of nodes event) [] ++ map out_of es) ((events-climb nodes tree event).root top)

undrained-with : (trace : Bool) (r : Reached) (event : Event) → undrained_after trace r event ≡ undrained_with r.undrained (gained trace r.nodes event) event
undrained-with trace r (Arrive stream e) = refl
undrained-with trace r (Taken join ticket) = refl
undrained-with trace r (Given join ticket) = refl
undrained-with trace r (Swept join input) = refl
undrained-with trace r Drain = refl
undrained-with trace r Halt = refl
undrained-with trace r (Look pending) = refl
undrained-with trace r (Stopped stop) = refl
undrained-with trace r Idle = refl

-- ---- one more entry

pub adds-climb : (plan : List Node) → IsTree plan → (history : List Entry) (entry : Entry) → AddsClimb plan history entry
adds-climb plan tree history entry = record {
  nodes = moves;
  arrivals = came;
  peak = higher;
  outputs = λ trace top. A.outputs trace ∙ ap (λ (outs : List Out). outputs_of trace plan history ++ outs) (out trace top);
  kept = kept;
}
  where
    A : AddsEntry plan history entry
    A = adds-entry plan history entry

    nodes : List Node
    nodes = nodes_from plan history

    c : Climbed
    c = climb_of nodes entry.event

    E : EventClimbs nodes entry.event
    E = events-climb nodes (tree-from plan history tree) entry.event

    moves : nodes_from plan (history ++ entry ∷ []) ≡ c.nodes
    moves = A.nodes ∙ E.moves

    came : (n : ℕ) → arrivals_at plan (history ++ entry ∷ []) n ≡ arrivals_at plan history n ++ get_or c.brought n []
    came n = A.arrivals n ∙ ap (λ (xs : List Arrival). arrivals_at plan history n ++ xs) (E.comes n)

    higher : (n : ℕ) → peak_of plan (history ++ entry ∷ []) n ≡ max (peak_of plan history n) (stored_at c.nodes n)
    higher n = A.peak n ∙ ap (λ (ns : List Node). max (peak_of plan history n) (stored_at ns n)) E.moves

    out : (trace : Bool) → HasOneTop plan → gained trace nodes entry.event ≡ handed_by trace nodes entry.event
    out trace top = handed-gained trace nodes entry.event (tree-from plan history tree) (top-from plan history top)

    kept : (trace : Bool) → HasOneTop plan → core_kept trace plan (history ++ entry ∷ []) ≡ kept_with trace (core_kept trace plan history) nodes entry
    kept trace top =
        let r : reached_of trace plan (history ++ entry ∷ []) ≡ next trace (reached_of trace plan history) entry = A.reached trace in
        let ns : map (λ node. kept_in node.operator) (nodes_from plan (history ++ entry ∷ [])) ≡ map (λ node. kept_in node.operator) c.nodes =
        ap (map (λ node. kept_in node.operator)) moves in
        let cs : map (count_of plan (history ++ entry ∷ [])) (upto_from 0 (length plan)) ≡ counted_with (map (count_of plan history) (upto_from 0 (length plan))) c.nodes c.brought =
        counted-upto (count_of plan history) (count_of plan (history ++ entry ∷ [])) 0 (length plan) c.nodes c.brought
        (omega (arith, sym (ap length moves) ∙ length-from plan (history ++ entry ∷ []))) counts-with in
        let ps : map (peak_of plan (history ++ entry ∷ [])) (upto_from 0 (length plan)) ≡ raised (map (peak_of plan history) (upto_from 0 (length plan))) c.nodes =
        raised-upto (peak_of plan history) (peak_of plan (history ++ entry ∷ [])) 0 (length plan) c.nodes (λ i lt. peaks i) in
        let us : (reached_of trace plan (history ++ entry ∷ [])).undrained ≡ undrained_with (reached_of trace plan history).undrained (handed_by trace nodes entry.event) entry.event =
        ap (λ (z : Reached). z.undrained) r ∙ undrained-with trace (reached_of trace plan history) entry.event
        ∙ ap (λ (outs : List Out). undrained_with (reached_of trace plan history).undrained outs entry.event)
        (ap (λ (ms : List Node). gained trace ms entry.event) ((trace-adds-notes plan history).nodes trace) ∙ out trace top) in
        λ i. record {
          nodes = ns i;
          counts = cs i;
          peaks = ps i;
          closed = (ap (λ (z : Reached). z.closed) r) i;
          undrained = us i;
          halted = (ap (λ (z : Reached). z.halted) r) i;
          stop = (ap (λ (z : Reached). z.stop) r) i;
        }
      where
        plus : (n : ℕ) → 0 + n ≡ n
        plus n = omega arith

        counts-with : (n : ℕ) → n < length plan → count_of plan (history ++ entry ∷ []) (0 + n) ≡ count_of plan history (0 + n) + counted (operator_at c.nodes n) (length (get_or c.brought n []))
        counts-with n lt =
            ap (λ (xs : List Arrival). counted (operator_at plan (0 + n)) (length xs)) (came (0 + n))
            ∙ ap (counted (operator_at plan (0 + n))) (length-append (arrivals_at plan history (0 + n)) (get_or c.brought (0 + n) []))
            ∙ counted-plus (operator_at plan (0 + n)) (length (arrivals_at plan history (0 + n))) (length (get_or c.brought (0 + n) []))
            ∙ ap (λ (m : ℕ). count_of plan history (0 + n) + counted (operator_at plan m) (length (get_or c.brought m []))) (plus n)
            ∙ ap (λ (b : Bool). count_of plan history (0 + n) + cond b (length (get_or c.brought n [])) 0)
            (sym (counts-from plan (history ++ entry ∷ []) n lt) ∙ ap (λ (ns : List Node). counts (operator_at ns n)) moves)

        peaks : (n : ℕ) → peak_of plan (history ++ entry ∷ []) (0 + n) ≡ max (peak_of plan history (0 + n)) (stored_at c.nodes n)
        peaks n = higher (0 + n) ∙ ap (λ (m : ℕ). max (peak_of plan history (0 + n)) (stored_at c.nodes m)) (plus n)

-- ---- what is stored grows in a climb

abbrev pub stored_of : Operator → ℕ
stored_of o = length (state_in o).stored

stores-one : (o : Operator) (input : ℕ) (e : Element) → stored_of o ≤ stored_of (after o (Comes input e))
stores-one (Stream schema sent) input e = omega arith
stores-one (Select test) input e = omega arith
stores-one (Project columns) input e = omega arith
stores-one (Union n u) input e = omega arith
stores-one (Join spec s) input (Tuple row) = omega (arith, length_push s.stored (new_tuple s input row))
stores-one (Join spec s) input (Punct patterns) = omega arith
stores-one (Group spec rows) input e = omega arith

stores-all : (o : Operator) (came : List Arrival) → stored_of o ≤ stored_of (after_all o (map local_at came))
stores-all o [] = omega arith
stores-all o (a ∷ came) = omega (arith, stores-one o a.input a.element, stores-all (after o (local_at a)) came)

stores-from : (k : ℕ) (load : Load) (nodes : List Node) (m : ℕ) → stored_at nodes m ≤ stored_at (climbed_from k load nodes).nodes m
stores-from k load [] m = omega arith
stores-from k load (node ∷ nodes) zero = stores-all node.operator (coming (place_in 0 node.inputs load.from) load.elements)
stores-from k load (node ∷ nodes) (suc m) = stores-from (k + 1) (going_on (place_in 0 node.inputs load.from) k node load) nodes m

pub stores-grow : (nodes : List Node) → StoresGrow nodes
stores-grow nodes n es m = stores-from 0 (record { from = n; elements = es }) nodes m

-- ---- what a climb brings to a join is allowed there

pub joins-climb : (plan : List Node) → ArePlanned [] plan → IsTree plan → JoinsClimb plan
joins-climb plan planned tree history entry n spec legal lt at =
    let runs = join-runs plan planned in
    let E = events-climb (nodes_from plan history) (tree-from plan history tree) entry.event in
    subst (AreLegalSteps spec start)
    (runs.more history entry n ∙ ap (λ (came : List Arrival). join_steps_of plan history n ++ (own_step n entry.event ++ map step_at came)) (E.comes n))
    (runs.legal (history ++ entry ∷ []) n spec legal lt at)
