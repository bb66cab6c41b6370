-- What legal histories hand out.
use Rattle.std.proofs.Common.{ℕ, zero, suc, ◌+◌, ◌<◌, max, Bool, true, false, cond, List, [], ◌∷◌, ◌++◌, ◌≡◌, ◌⊎◌, Option, length, get_or, refl, sym, ap, ◌∙◌, subst, inl, inr, eqb, arith, append_assoc, append-nil}
use Rattle.pj_laws.proofs.Histories.{legal-append, reached-nodes, nodes-append, reached-append, outputs-append, arrivals-append}
use Rattle.pj_value.proofs.Members.{In-append_left, In-append_right}
use Rattle.std.proofs.lemmas.Bool.{or_cases, eqb-true, eq-eqb, false≢true}
use Rattle.pj_value.specs.declared.values.Value.{Value}
use Rattle.pj_shape.specs.declared.columns.Column.{Column}
use Rattle.pj_events.specs.Patterns.{all_wild}
use Rattle.pj_value.specs.Bags.{weigh}
use Rattle.pj_events.specs.Join.{In, Element, Tuple, Punct, AllGiven, IsSettled, has, rows_of}
use Rattle.pj_events.specs.Plan.{Operator, Stream, Select, Project, Union, Join, Group, Node, fed_to, answers, HasGiven, IsClosedBy, IsDone, IsCompleteRun, ArePlanned, operator_at}
use Rattle.pj_events.specs.declared.events.Entry.{Entry}
use Rattle.pj_events.specs.declared.events.Event.{Event}
use Rattle.pj_events.specs.declared.events.Out.{Out}
use Rattle.pj_events.specs.declared.events.Stop.{Stop}
use Rattle.pj_events.specs.declared.events.Event.TheVariants.{Arrive, Take as Taken, Give as Given, Sweep as Swept, Drain, Halt, Look, Stopped, Idle}
use Rattle.pj_events.specs.History.{reached_of, is_stream, streams_from, streams_of, stream_node, root_of, state_in, nodes_by, gained, Reached, begun, closed_after, undrained_after, halted_after, stop_after, next, reached_from, nodes_from, steps_from, Closes, IsMarked, IsEntryAllowed, AreEntriesLegal, IsLegal, IsComplete}
use Rattle.pj_events.specs.Outcomes.{Arrival, arrivals_by, arrivals_at, stored_at, peak_of, outputs_of, drained_by, drained_from, element_at, elements_of, place_in, list_at, answers_of, lists_of}
use Rattle.pj_events.specs.OneThread.{schema_of}
use Rattle.pj_laws.specs.HistoryLaws.{HandsOutLawfully, IsNoGroup, HasNoGroup, GivenIsAnswer, CompleteIsAnswer, AddsEntry, AreMadeBy, DrainsHandOutAll, GrowsLegally, FrontsAreLegal, TraceAddsNotes}
use Rattle.pj_laws.specs.Finality.{EmptiedIsAnswer}
use Rattle.pj_pattern.specs.Elements.{IsLawful}
use Rattle.pj_laws.proofs.Whole.{plan-lawful}
use Rattle.pj_laws.proofs.WholeAnswers.{rows-are-answers}
use Rattle.pj_laws.proofs.Settled.{complete-answers}
use Rattle.pj_laws.proofs.Steps.{legal-steps, nodes-run, outputs-handed, streams-same, all-rise, rising-place, member-place, stream_node-same, fed-elements, answers-agree}
use Rattle.pj_laws.proofs.Nodes.{operator-from, schema-all, no_group-all, drain-silent}
use Rattle.pj_join_laws.proofs.Upto.{get_or-upto}

pub root-there : (plan : List Node) → 0 < length plan → root_of plan < length plan
root-there [] lt = absurd (omega arith)
root-there (node ∷ plan) lt = omega arith

pub hands_out-lawfully : (plan : List Node) → ArePlanned [] plan → 0 < length plan → HandsOutLawfully plan
hands_out-lawfully plan planned lt trace h l =
    subst IsLawful (sym (outputs-handed trace plan h)) (plan-lawful plan planned (steps_from plan h) (legal-steps (begun plan) h l) (root_of plan) (root-there plan lt))

-- ---- the answer over the elements of the streams

pub answers-are : (plan : List Node) (h : List Entry) → IsLegal plan h → answers plan (steps_from plan h) ≡ answers_of plan (lists_of plan h)
answers-are plan h l = answers-agree f g 0 [] plan refl same
  where
    S : List ℕ
    S = streams_of plan

    f : ℕ → List (List Value)
    f n = rows_of (fed_to n (steps_from plan h))

    g : ℕ → List (List Value)
    g n = list_at (lists_of plan h) (place_in 0 S n)

    same : (k : ℕ) → In k (streams_from 0 plan) → f k ≡ g k
    same k m =
        let p = member-place S (length plan) k m in
        let z : 0 + p.0 ≡ p.0 = omega arith in
        ap f (sym p.2)
        ∙ ap rows_of (fed-elements (begun plan) h p.0 p.1 l)
        ∙ ap (λ s. rows_of (elements_of s h)) (sym z)
        ∙ sym (get_or-upto (λ s. rows_of (elements_of s h)) 0 (length S) p.0 [] p.1)
        ∙ ap (λ n. get_or (lists_of plan h) n []) (sym z)
        ∙ sym (ap (list_at (lists_of plan h)) (rising-place 0 0 S (length plan) p.0 (all-rise plan) p.1))
        ∙ ap g p.2

-- ---- once all is given

has-given : (m : Operator) → IsNoGroup m → AllGiven (state_in m) → HasGiven m
has-given (Stream schema sent) g a = tt
has-given (Select test) g a = tt
has-given (Project columns) g a = tt
has-given (Union n u) g a = tt
has-given (Join spec s) g a = a
has-given (Group spec rows) g a = absurd g

pub emptied-is-answer : (plan : List Node) → ArePlanned [] plan → 0 < length plan → EmptiedIsAnswer plan
emptied-is-answer plan planned lt trace h l given f =
    ap (λ es. weigh f (rows_of es)) (outputs-handed trace plan h)
    ∙ rows-are-answers plan planned (steps_from plan h) (legal-steps (begun plan) h l) (λ n k. subst (λ (nodes : List Node). HasGiven (operator_at nodes n)) (nodes-run plan h) (given n k)) (root_of plan) (root-there plan lt) f
    ∙ ap (λ evs. weigh f (get_or evs (root_of plan) [])) (answers-are plan h l)

pub given-is-answer : (plan : List Node) → ArePlanned [] plan → 0 < length plan → HasNoGroup plan → GivenIsAnswer plan
given-is-answer plan planned lt groups trace h l given = emptied-is-answer plan planned lt trace h l all
  where
    all : (n : ℕ) → n < length plan → HasGiven (operator_at (nodes_from plan h) n)
    all n k =
        let o = operator-from plan h n k in
        has-given (operator_at (nodes_from plan h) n) (subst IsNoGroup (sym o.1) (no_group-all (operator_at plan n) o.0 (groups n k))) (given n k)

-- ---- complete histories

-- a stream that was closed has its closing among its elements
closed-came : (r : Reached) (h : List Entry) (s : ℕ) (schema : List Column) → AreEntriesLegal r h → s < length (streams_of r.nodes) → schema_of (operator_at r.nodes (stream_node r.nodes s)) ≡ schema
    → has (reached_from false r h).closed s ≡ true → (has r.closed s ≡ true) ⊎ In (Punct (all_wild (length schema))) (elements_of s h)
closed-came r [] s schema l lt e t = inl t
closed-came r (entry ∷ h) s schema l lt e t =
    elim (closed-came (next false r entry) h s schema l.1 (subst (λ (ns : List ℕ). s < length ns) (sym (streams-same r.nodes entry.event)) lt) kept t) [
      | inr m ↦ inr (In-append_right closing (element_at s entry.event) (elements_of s h) m)
      | inl m ↦ elim (now entry.event entry.closing l.0.1 m) [ inl k ↦ inl k | inr k ↦ inr (In-append_left closing (element_at s entry.event) (elements_of s h) k) ]
    ]
  where
    closing : Element
    closing = Punct (all_wild (length schema))

    place : ℕ
    place = stream_node r.nodes s

    there : place < length r.nodes
    there = node-there r.nodes s lt
      where
        node-there : (nodes : List Node) (s : ℕ) → s < length (streams_of nodes) → stream_node nodes s < length nodes
        node-there nodes s lt = let k = below 0 nodes s (length nodes) lt in omega arith
          where
            below : (n : ℕ) (nodes : List Node) (s d : ℕ) → s < length (streams_from n nodes) → get_or (streams_from n nodes) s d < n + length nodes
            below n [] s d lt = absurd (omega arith)
            below n (node ∷ nodes) s d lt = go (is_stream node.operator) s lt (λ k q. below (n + 1) nodes k d q)
              where
                go : (b : Bool) (s : ℕ) → s < length (cond b (n ∷ streams_from (n + 1) nodes) (streams_from (n + 1) nodes))
                    → ((k : ℕ) → k < length (streams_from (n + 1) nodes) → get_or (streams_from (n + 1) nodes) k d < n + 1 + length nodes)
                    → get_or (cond b (n ∷ streams_from (n + 1) nodes) (streams_from (n + 1) nodes)) s d < n + suc (length nodes)
                go true zero q ih = omega arith
                go true (suc k) q ih = let p = ih k (omega arith) in omega arith
                go false k q ih = let p = ih k q in omega arith

    kept : schema_of (operator_at (nodes_by r.nodes entry.event) (stream_node (nodes_by r.nodes entry.event) s)) ≡ schema
    kept =
        let o = operator-from r.nodes (entry ∷ []) place there in
        ap (λ n. schema_of (operator_at (nodes_by r.nodes entry.event) n)) (stream_node-same r.nodes entry.event s)
        ∙ ap schema_of o.1 ∙ schema-all (operator_at r.nodes place) o.0 ∙ e

    -- the closing of this very stream
    mine : (m : Operator) (x : Element) → Closes m x → x ≡ Punct (all_wild (length (schema_of m)))
    mine (Stream columns sent) (Tuple row) c = absurd c
    mine (Stream columns sent) (Punct patterns) c = ap Punct c
    mine (Select test) (Tuple row) c = absurd c
    mine (Select test) (Punct patterns) c = absurd c
    mine (Project columns) (Tuple row) c = absurd c
    mine (Project columns) (Punct patterns) c = absurd c
    mine (Union n u) (Tuple row) c = absurd c
    mine (Union n u) (Punct patterns) c = absurd c
    mine (Join spec st) (Tuple row) c = absurd c
    mine (Join spec st) (Punct patterns) c = absurd c
    mine (Group spec rows) (Tuple row) c = absurd c
    mine (Group spec rows) (Punct patterns) c = absurd c

    now : (event : Event) (mark : ℕ) → IsMarked r.nodes (record { event = event; seat = entry.seat; closing = mark }) → has (closed_after r.closed mark event) s ≡ true
        → (has r.closed s ≡ true) ⊎ In closing (element_at s event)
    now (Arrive stream x) mark (inl z) m = inl (subst (λ (b : Bool). has (cond b (stream ∷ r.closed) r.closed) s ≡ true) (ap (λ (n : ℕ). eqb n 1) z) m)
    now (Arrive stream x) mark (inr z) m =
        elim (or_cases (eqb stream s) (has r.closed s) (subst (λ (b : Bool). has (cond b (stream ∷ r.closed) r.closed) s ≡ true) (eq-eqb mark 1 z.0) m)) [
          | inr k ↦ inl k
          | inl q ↦ inr (subst (λ (b : Bool). In closing (cond b (x ∷ []) [])) (sym q)
              (inl (mine (operator_at r.nodes (stream_node r.nodes stream)) x z.1 ∙ ap (λ (n : ℕ). Punct (all_wild (length (schema_of (operator_at r.nodes (stream_node r.nodes n)))))) (eqb-true stream s q) ∙ ap (λ (columns : List Column). Punct (all_wild (length columns))) e)))
        ]
    now (Taken join ticket) mark z m = inl m
    now (Given join ticket) mark z m = inl m
    now (Swept join input) mark z m = inl m
    now Drain mark z m = inl m
    now Halt mark z m = inl m
    now (Look pending) mark z m = inl m
    now (Stopped stop) mark z m = inl m
    now Idle mark z m = inl m

pub stream-member : (n k : ℕ) (nodes : List Node) → k < length nodes → is_stream (operator_at nodes k) ≡ true → In (n + k) (streams_from n nodes)
stream-member n k [] lt e = absurd (omega arith)
stream-member n zero (node ∷ nodes) lt e = let z : n ≡ n + 0 = omega arith in subst (λ (b : Bool). In (n + 0) (cond b (n ∷ streams_from (n + 1) nodes) (streams_from (n + 1) nodes))) (sym e) (inl z)
stream-member n (suc k) (node ∷ nodes) lt e = go (is_stream node.operator) (let z : n + 1 + k ≡ n + suc k = omega arith in subst (λ (j : ℕ). In j (streams_from (n + 1) nodes)) z (stream-member (n + 1) k nodes (omega arith) e))
  where
    go : (b : Bool) → In (n + suc k) (streams_from (n + 1) nodes) → In (n + suc k) (cond b (n ∷ streams_from (n + 1) nodes) (streams_from (n + 1) nodes))
    go true h = inr h
    go false h = h

pub is-done : (m : Operator) → IsSettled (state_in m) → IsDone m
is-done (Stream schema sent) s = tt
is-done (Select test) s = tt
is-done (Project columns) s = tt
is-done (Union n u) s = tt
is-done (Join spec st) s = s
is-done (Group spec rows) s = tt

pub closed-by : (m : Operator) (es : List Element) → (is_stream m ≡ true → In (Punct (all_wild (length (schema_of m)))) es) → IsClosedBy m es
closed-by (Stream schema sent) es f = f refl
closed-by (Select test) es f = tt
closed-by (Project columns) es f = tt
closed-by (Union n u) es f = tt
closed-by (Join spec st) es f = tt
closed-by (Group spec rows) es f = tt

-- every stream that is closed was fed its closing
pub closings : (plan : List Node) (h : List Entry) → IsLegal plan h → ((s : ℕ) → s < length (streams_of plan) → has (reached_of false plan h).closed s ≡ true)
    → (n : ℕ) → n < length plan → is_stream (operator_at plan n) ≡ true → In (Punct (all_wild (length (schema_of (operator_at plan n))))) (fed_to n (steps_from plan h))
closings plan h l closed n k e =
    let p = member-place (streams_of plan) (length plan) n (let z : 0 + n ≡ n = omega arith in subst (λ (j : ℕ). In j (streams_of plan)) z (stream-member 0 n plan k e)) in
    elim (closed-came (begun plan) h p.0 (schema_of (operator_at plan n)) l p.1 (ap (λ (j : ℕ). schema_of (operator_at plan j)) p.2) (closed p.0 p.1)) [
      | inl m ↦ absurd (false≢true m)
      | inr m ↦ subst (λ (es : List Element). In (Punct (all_wild (length (schema_of (operator_at plan n))))) es) (sym (fed-elements (begun plan) h p.0 p.1 l) ∙ ap (λ (j : ℕ). fed_to j (steps_from plan h)) p.2) m
    ]

-- a complete history makes a complete run
pub complete-run : (plan : List Node) → (h : List Entry) → IsLegal plan h → IsComplete plan h → IsCompleteRun plan (steps_from plan h)
complete-run plan h l complete n k =
    let o = operator-from plan h n k in (
      closed-by (operator_at plan n) (fed_to n (steps_from plan h)) (closings plan h l complete.closed n k),
      subst (λ (nodes : List Node). IsDone (operator_at nodes n)) (nodes-run plan h)
          (is-done (operator_at (nodes_from plan h) n) (complete.settled n k)),
    )

pub complete-is-answer : (plan : List Node) → ArePlanned [] plan → 0 < length plan → CompleteIsAnswer plan
complete-is-answer plan planned lt trace h l complete =
    (λ f.
    ap (λ es. weigh f (rows_of es)) (outputs-handed trace plan h)
    ∙ complete-answers plan planned (steps_from plan h) (legal-steps (begun plan) h l) (complete-run plan h l complete) (root_of plan) (root-there plan lt) f
    ∙ ap (λ evs. weigh f (get_or evs (root_of plan) [])) (answers-are plan h l))

-- ---- one more entry

peak-more : (nodes : List Node) (h : List Entry) (entry : Entry) (n : ℕ) → peak_of nodes (h ++ entry ∷ []) n ≡ max (peak_of nodes h n) (stored_at (nodes_by (nodes_from nodes h) entry.event) n)
peak-more nodes [] entry n = refl
peak-more nodes (e ∷ h) entry n =
    ap (max (stored_at nodes n)) (peak-more (nodes_by nodes e.event) h entry n)
    ∙ assoc (stored_at nodes n) (peak_of (nodes_by nodes e.event) h n) (stored_at (nodes_by (nodes_from (nodes_by nodes e.event) h) entry.event) n)
  where
    assoc : (a b c : ℕ) → max a (max b c) ≡ max (max a b) c
    assoc a b c = omega arith

pub adds-entry : (plan : List Node) (h : List Entry) (entry : Entry) → AddsEntry plan h entry
adds-entry plan h entry = record {
  reached = λ trace. reached-append trace (begun plan) h (entry ∷ []);
  nodes = nodes-append plan h (entry ∷ []);
  outputs = λ trace. outputs-append trace plan h (entry ∷ []) ∙ ap (λ (outs : List Out). outputs_of trace plan h ++ outs) (append-nil (gained trace (nodes_from plan h) entry.event));
  arrivals = λ n. arrivals-append plan h (entry ∷ []) n ∙ ap (λ (xs : List Arrival). arrivals_at plan h n ++ xs) (append-nil (arrivals_by (nodes_from plan h) entry.event n));
  peak = peak-more plan h entry;
}

-- ---- drains

drained-all : (trace : Bool) (r : Reached) (h : List Entry) (seat : ℕ) → AreMadeBy seat h
    → (drained_from trace r h seat ++ (reached_from trace r h).undrained) ≡ r.undrained ++ outputs_of trace r.nodes h
drained-all trace r [] seat m = sym (append-nil r.undrained)
drained-all trace r (entry ∷ h) seat m =
    append_assoc (drained_by seat entry.seat r.undrained entry.event) (drained_from trace (next trace r entry) h seat) (reached_from trace (next trace r entry) h).undrained
    ∙ ap (λ (outs : List Out). drained_by seat entry.seat r.undrained entry.event ++ outs) (drained-all trace (next trace r entry) h seat m.1)
    ∙ now entry.event
  where
    rest : List Out
    rest = outputs_of trace (nodes_by r.nodes entry.event) h

    held : (event : Event) → (r.undrained ++ gained trace r.nodes event) ++ rest ≡ r.undrained ++ (gained trace r.nodes event ++ rest)
    held event = append_assoc r.undrained (gained trace r.nodes event) rest

    now : (event : Event) → drained_by seat entry.seat r.undrained event ++ (undrained_after trace r event ++ rest) ≡ r.undrained ++ (gained trace r.nodes event ++ rest)
    now (Arrive stream e) = held (Arrive stream e)
    now (Taken join ticket) = held (Taken join ticket)
    now (Given join ticket) = held (Given join ticket)
    now (Swept join input) = held (Swept join input)
    now Drain =
        ap (λ (b : Bool). cond b r.undrained [] ++ rest) (eq-eqb entry.seat seat m.0)
        ∙ ap (λ (outs : List Out). r.undrained ++ (outs ++ rest)) (sym (drain-silent trace r.nodes))
    now Halt = held Halt
    now (Look pending) = held (Look pending)
    now (Stopped stop) = held (Stopped stop)
    now Idle = held Idle

pub drains-hand-out-all : (plan : List Node) → DrainsHandOutAll plan
drains-hand-out-all plan trace h seat m = drained-all trace (begun plan) h seat m

-- ---- legal histories

legal-less : (r : Reached) (h : List Entry) (entry : Entry) → AreEntriesLegal r (h ++ entry ∷ []) → AreEntriesLegal r h × IsEntryAllowed (reached_from false r h) entry
legal-less r [] entry l = (tt, l.0)
legal-less r (e ∷ h) entry l = let k = legal-less (next false r e) h entry l.1 in ((l.0, k.0), k.1)

pub grows-legally : (plan : List Node) → GrowsLegally plan
grows-legally plan h entry = (legal-less (begun plan) h entry, λ both. legal-append (begun plan) h (entry ∷ []) both.0 (both.1, tt))

front-legal : (r : Reached) (front back : List Entry) → AreEntriesLegal r (front ++ back) → AreEntriesLegal r front
front-legal r [] back l = tt
front-legal r (e ∷ front) back l = (l.0, front-legal (next false r e) front back l.1)

pub fronts-are-legal : (plan : List Node) → FrontsAreLegal plan
fronts-are-legal plan front back l = front-legal (begun plan) front back l

-- ---- traces

record AreAlike (a b : Reached) : Type 0 where
  nodes : a.nodes ≡ b.nodes
  closed : a.closed ≡ b.closed
  halted : a.halted ≡ b.halted
  stop : a.stop ≡ b.stop

alike-from : (a b : Reached) (h : List Entry) → AreAlike a b → AreAlike (reached_from true a h) (reached_from false b h)
alike-from a b [] k = k
alike-from a b (entry ∷ h) k = alike-from (next true a entry) (next false b entry) h (record {
  nodes = ap (λ (nodes : List Node). nodes_by nodes entry.event) k.nodes;
  closed = ap (λ (ns : List ℕ). closed_after ns entry.closing entry.event) k.closed;
  halted = ap (λ (b : Bool). halted_after b entry.event) k.halted;
  stop = ap (λ (s : Option Stop). stop_after s entry.event) k.stop;
})

pub trace-adds-notes : (plan : List Node) (h : List Entry) → TraceAddsNotes plan h
trace-adds-notes plan h =
    let k = alike-from (begun plan) (begun plan) h (record { nodes = refl; closed = refl; halted = refl; stop = refl }) in
    record {
      nodes = λ trace. reached-nodes trace (begun plan) h;
      closed = k.closed;
      halted = k.halted;
      stop = k.stop;
      elements = outputs-handed true plan h ∙ sym (outputs-handed false plan h);
    }
