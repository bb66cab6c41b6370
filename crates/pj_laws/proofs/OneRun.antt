-- The history of a run on one thread is legal, and its rows are the answer.
use Rattle.std.proofs.Common.{◌&&◌, length-append, ℕ, zero, suc, ◌+◌, ◌<◌, Bool, true, false, cond, List, [], ◌∷◌, ◌++◌, ◌≡◌, ◌⊎◌, map, length, get_or, refl, sym, ap, ap₂, ◌∙◌, subst, inl, inr, eqb, arith, append_assoc, append-nil}
use Rattle.pj_laws.proofs.Histories.{reached-nodes, nodes-append, reached-append, legal-append}
use Rattle.pj_value.proofs.Members.{In-append_cases, In-map}
use Rattle.std.proofs.lemmas.List.{length_push, get_or_at}
use Rattle.std.proofs.lemmas.Bool.{and_parts, or_cases, or_left, or_right, eqb-true, eq-eqb, cases_Bool}
use Rattle.pj_shape.specs.declared.columns.Column.{Column}
use Rattle.pj_events.specs.Patterns.{all_wild}
use Rattle.pj_events.specs.Join.{In, JoinData, inputs, upto_from, Step, Take, Give, Sweep, Element, Punct, has}
use Rattle.pj_events.specs.Plan.{Operator, Stream, Select, Project, Union, Join, Group, Node, Local, Comes, Fed, Own, PlanStep, Feed, Act, after, after_all, own, brought_from, locals, handed_at, moved, nowhere, operator_at, MayArrive, MayAct, IsClearOf, IsStepAllowed}
use Rattle.pj_events.specs.declared.events.Entry.{Entry}
use Rattle.pj_events.specs.declared.events.Event.{Event}
use Rattle.pj_events.specs.declared.events.Event.TheVariants.{Arrive, Take as Taken, Give as Given, Sweep as Swept, Drain, Halt, Look, Stopped, Idle}
use Rattle.pj_events.specs.History.{is_stream, streams_from, streams_of, stream_node, step_of, nodes_by, data_in, Reached, begun, closed_after, stop_after, next, reached_from, nodes_from, Closes, IsOn, IsEventAllowed, IsEntryAllowed, AreEntriesLegal, IsLegal}
use Rattle.pj_events.specs.Outcomes.{element_at, elements_of}
use Rattle.pj_events.specs.OneThread.{Place, places_in, places_from, sweeps_at, is_punct, Turn, plain, arrival_of, probes, follow_up, turn_entries, turns_entries}
use Rattle.pj_laws.specs.HistoryLaws.{Certified, schema_at}
use Rattle.pj_laws.proofs.Glue.{length-moved, after-append}
use Rattle.pj_laws.proofs.Steps.{streams-same, all-rise, rising-apart, stream-there, stream_node-same}
use Rattle.pj_shape.specs.Columns.{domains_of}
use Rattle.pj_pattern.specs.Fitting.{FitsDomains}
use Rattle.pj_laws.proofs.Nodes.{drain-still, operator-from, data-all}
use Rattle.pj_laws.proofs.Rounds.{mine}
use Rattle.pj_laws.proofs.Probes.{all-at, Steady, Rested, AllOperators, all-steady, steady-brought, stream-moved, IsQuietEvent, AreActsLegal, acts-append, probes-all, length-from}

-- ---- histories, one behind the other

pub elements-append : (s : ℕ) (xs ys : List Entry) → elements_of s (xs ++ ys) ≡ elements_of s xs ++ elements_of s ys
elements-append s [] ys = refl
elements-append s (x ∷ xs) ys =
    ap (λ (es : List Element). element_at s x.event ++ es) (elements-append s xs ys) ∙ sym (append_assoc (element_at s x.event) (elements_of s xs) (elements_of s ys))

-- ---- probes and drains within a history

act-legal : (r : Reached) (event : Event) → IsOn r → IsQuietEvent event → IsStepAllowed r.nodes (step_of r.nodes event) → IsEventAllowed r event
act-legal r (Arrive stream e) on q a = absurd q
act-legal r (Taken join ticket) on q a = (on, a)
act-legal r (Given join ticket) on q a = (on, a)
act-legal r (Swept join input) on q a = (on, a)
act-legal r Drain on q a = tt
act-legal r Halt on q a = absurd q
act-legal r (Look pending) on q a = absurd q
act-legal r (Stopped stop) on q a = absurd q
act-legal r Idle on q a = absurd q

-- what a quiet event leaves as it is
quiet-stays : (r : Reached) (entry : Entry) (event : Event) → entry.event ≡ event → IsQuietEvent event → IsOn r → IsOn (next false r entry) × ((next false r entry).closed ≡ r.closed) × ((s : ℕ) → element_at s entry.event ≡ [])
quiet-stays r entry (Taken join ticket) e q on = (ap (stop_after r.stop) e ∙ on, ap (closed_after r.closed entry.closing) e, λ s. ap (element_at s) e)
quiet-stays r entry (Given join ticket) e q on = (ap (stop_after r.stop) e ∙ on, ap (closed_after r.closed entry.closing) e, λ s. ap (element_at s) e)
quiet-stays r entry Drain e q on = (ap (stop_after r.stop) e ∙ on, ap (closed_after r.closed entry.closing) e, λ s. ap (element_at s) e)
quiet-stays r entry (Arrive stream x) e q on = absurd q
quiet-stays r entry (Swept join input) e q on = (ap (stop_after r.stop) e ∙ on, ap (closed_after r.closed entry.closing) e, λ s. ap (element_at s) e)
quiet-stays r entry Halt e q on = absurd q
quiet-stays r entry (Look pending) e q on = absurd q
quiet-stays r entry (Stopped stop) e q on = absurd q
quiet-stays r entry Idle e q on = absurd q

-- acts are legal entries, and leave closings and stops and the elements of streams as they are
pub record IsStill (r : Reached) (es : List Entry) : Type 0 where
  pub legal : AreEntriesLegal r es
  pub on : IsOn (reached_from false r es)
  pub closed : (reached_from false r es).closed ≡ r.closed
  pub elements : (s : ℕ) → elements_of s es ≡ []

pub acts-still : (r : Reached) (es : List Entry) → IsOn r → AreActsLegal r.nodes es → IsStill r es
acts-still r [] on a = record { legal = tt; on = on; closed = refl; elements = λ s. refl }
acts-still r (e ∷ es) on a =
    let q = quiet-stays r e e.event refl a.0 on in
    let ih = acts-still (next false r e) es q.0 a.3 in
    record {
      legal = ((act-legal r e.event on a.0 a.2, inl a.1), ih.legal);
      on = ih.on;
      closed = ih.closed ∙ q.1;
      elements = λ s. ap₂ (λ (xs ys : List Element). xs ++ ys) (q.2 s) (ih.elements s);
    }

-- a stream stays as it is
stream-acts : (nodes : List Node) (es : List Entry) (n : ℕ) (schema : List Column) (sent : List Element) → n < length nodes → AreActsLegal nodes es → operator_at nodes n ≡ Stream schema sent → operator_at (nodes_from nodes es) n ≡ Stream schema sent
stream-acts nodes [] n schema sent lt a q = q
stream-acts nodes (e ∷ es) n schema sent lt a q =
    stream-acts (nodes_by nodes e.event) es n schema sent (omega (arith, lt, length-moved (step_of nodes e.event) [] nodes)) a.3
    (stream-moved (step_of nodes e.event) [] nodes n schema sent lt q ∙ still e.event a.0)
  where
    act : (j m : ℕ) (s : _) → after_all (Stream schema sent) (own (Act j s) m) ≡ Stream schema sent
    act j m s = go (eqb j m)
      where
        go : (b : Bool) → after_all (Stream schema sent) (cond b (Own s ∷ []) []) ≡ Stream schema sent
        go true = refl
        go false = refl

    still : (event : Event) → IsQuietEvent event → after_all (Stream schema sent) (own (step_of nodes event) (0 + n)) ≡ Stream schema sent
    still (Arrive stream x) q = absurd q
    still (Taken join ticket) q = act join (0 + n) _
    still (Given join ticket) q = act join (0 + n) _
    still (Swept join input) q = act join (0 + n) _
    still Drain q = refl
    still Halt q = absurd q
    still (Look pending) q = absurd q
    still (Stopped stop) q = absurd q
    still Idle q = absurd q

streams-acts : (nodes : List Node) (es : List Entry) → streams_of (nodes_from nodes es) ≡ streams_of nodes
streams-acts nodes [] = refl
streams-acts nodes (e ∷ es) = streams-acts (nodes_by nodes e.event) es ∙ streams-same nodes e.event

-- ---- an arrival

fed-steady : (p n : ℕ) (x : Element) (m : Operator) → Steady m → Steady (after_all m (own (Feed p x) n))
fed-steady p n x m i = go (eqb p n)
  where
    one : (m : Operator) → Steady m → Steady (after m (Fed x))
    one (Stream schema sent) i = tt
    one (Select test) i = tt
    one (Project columns) i = tt
    one (Union k u) i = tt
    one (Join spec s) i = i
    one (Group spec rows) i = tt

    go : (b : Bool) → Steady (after_all m (cond b (Fed x ∷ []) []))
    go true = one m i
    go false = i

feed-steady : (p : ℕ) (x : Element) (done : List (List Element)) (nodes : List Node) → AllOperators Steady nodes → AllOperators Steady (moved (Feed p x) done nodes)
feed-steady p x done [] a = tt
feed-steady p x done (node ∷ nodes) a = (
  subst Steady (sym (after-append node.operator (own (Feed p x) (length done)) (brought_from 0 node.inputs done)))
      (steady-brought (after_all node.operator (own (Feed p x) (length done))) 0 node.inputs done (fed-steady p (length done) x node.operator a.0)),
  feed-steady p x (done ++ handed_at (Feed p x) done node ∷ []) nodes a.1,
)

-- ---- certificates stay

certified-after : (m : Operator) (l : Local) → Certified m → Certified (after m l)
certified-after (Stream schema sent) (Comes k e) c = tt
certified-after (Stream schema sent) (Fed e) c = tt
certified-after (Stream schema sent) (Own s) c = tt
certified-after (Select test) l c = tt
certified-after (Project columns) l c = tt
certified-after (Union n u) (Comes k e) c = tt
certified-after (Union n u) (Fed e) c = tt
certified-after (Union n u) (Own s) c = tt
certified-after (Join spec s) l c = c
certified-after (Group spec rows) (Comes k e) c = tt
certified-after (Group spec rows) (Fed e) c = tt
certified-after (Group spec rows) (Own s) c = tt

certified-all : (m : Operator) (ls : List Local) → Certified m → Certified (after_all m ls)
certified-all m [] c = c
certified-all m (l ∷ ls) c = certified-all (after m l) ls (certified-after m l c)

certified-moved : (e : PlanStep) (done : List (List Element)) (nodes : List Node) → AllOperators Certified nodes → AllOperators Certified (moved e done nodes)
certified-moved e done [] a = tt
certified-moved e done (node ∷ nodes) a = (certified-all node.operator (locals e done node) a.0, certified-moved e (done ++ handed_at e done node ∷ []) nodes a.1)

pub certified-from : (nodes : List Node) (h : List Entry) → AllOperators Certified nodes → AllOperators Certified (nodes_from nodes h)
certified-from nodes [] a = a
certified-from nodes (entry ∷ h) a = certified-from (nodes_by nodes entry.event) h (certified-moved (step_of nodes entry.event) [] nodes a)

-- ---- sweeps

swept-steady : (j i n : ℕ) (m : Operator) → Steady m → Steady (after_all m (own (Act j (Sweep i)) n))
swept-steady j i n m s = go (eqb j n)
  where
    one : (m : Operator) → Steady m → Steady (after m (Own (Sweep i)))
    one (Stream schema sent) s = tt
    one (Select test) s = tt
    one (Project columns) s = tt
    one (Union k u) s = tt
    one (Join spec st) s = record { below = s.below; distinct = s.distinct; even = s.even }
    one (Group spec rows) s = tt

    go : (b : Bool) → Steady (after_all m (cond b (Own (Sweep i) ∷ []) []))
    go true = one m s
    go false = s

sweep-steady : (j i : ℕ) (done : List (List Element)) (nodes : List Node) → AllOperators Steady nodes → AllOperators Steady (moved (Act j (Sweep i)) done nodes)
sweep-steady j i done [] a = tt
sweep-steady j i done (node ∷ nodes) a = (
  subst Steady (sym (after-append node.operator (own (Act j (Sweep i)) (length done)) (brought_from 0 node.inputs done)))
      (steady-brought (after_all node.operator (own (Act j (Sweep i)) (length done))) 0 node.inputs done (swept-steady j i (length done) node.operator a.0)),
  sweep-steady j i (done ++ handed_at (Act j (Sweep i)) done node ∷ []) nodes a.1,
)

-- these are joins and inputs of theirs
abbrev pub ArePlaces : List Node → List Place → Type 0
ArePlaces nodes places = (p : Place) → In p places → (p.join < length nodes) × (p.input < inputs (data_in (operator_at nodes p.join)))

pub places-on : (nodes : List Node) (h : List Entry) (places : List Place) → ArePlaces nodes places → ArePlaces (nodes_from nodes h) places
places-on nodes h places f p m =
    let a = f p m in
    let o = operator-from nodes h p.join a.0 in
    (omega (arith, a.0, length-from nodes h), subst (λ (spec : JoinData). p.input < inputs spec) (sym (ap data_in o.1 ∙ data-all (operator_at nodes p.join) o.0)) a.1)

may-sweep : (m : Operator) (i : ℕ) → i < inputs (data_in m) → Certified m → MayAct m (Sweep i)
may-sweep (Stream schema sent) i lt c = absurd (omega arith)
may-sweep (Select test) i lt c = absurd (omega arith)
may-sweep (Project columns) i lt c = absurd (omega arith)
may-sweep (Union n u) i lt c = absurd (omega arith)
may-sweep (Join spec s) i lt c = (tt, (lt, c))
may-sweep (Group spec rows) i lt c = absurd (omega arith)

-- one sweep, and all probes
module _ (nodes : List Node) (p : Place) (rested : AllOperators Rested nodes) where
  pub probed-swept : AllOperators Rested (nodes_from (nodes_by nodes (Swept p.join p.input)) (probes (nodes_by nodes (Swept p.join p.input)))) × AreActsLegal (nodes_by nodes (Swept p.join p.input)) (probes (nodes_by nodes (Swept p.join p.input)))
  probed-swept = probes-all (nodes_by nodes (Swept p.join p.input)) (sweep-steady p.join p.input [] nodes (all-steady nodes rested))

-- sweeps of these places, with all probes after each, are allowed and leave all at rest
pub sweeps-rest : (nodes : List Node) (places : List Place) → AllOperators Rested nodes → AllOperators Certified nodes → ArePlaces nodes places
    → AreActsLegal nodes (sweeps_at nodes places) × AllOperators Rested (nodes_from nodes (sweeps_at nodes places))
sweeps-rest nodes [] r c f = (tt, r)
sweeps-rest nodes (p ∷ places) r c f =
    let here : List Entry = plain (Swept p.join p.input) ∷ probes (nodes_by nodes (Swept p.join p.input)) in
    let q = probed-swept nodes p r in
    let rest = sweeps-rest (nodes_from nodes here) places q.0 (certified-from nodes here c) (places-on nodes here places (λ x m. f x (inr m))) in
    let at = f p (inl refl) in (
      acts-append nodes here (sweeps_at (nodes_from nodes here) places) (tt, refl, (at.0, may-sweep (operator_at nodes p.join) p.input at.1 (all-at Certified nodes p.join at.0 c)), q.1) rest.0,
      subst (AllOperators Rested) (sym (nodes-append nodes here (sweeps_at (nodes_from nodes here) places))) rest.1,
    )

-- ---- the places of all joins

upto-below : (k n j : ℕ) → In j (upto_from k n) → j < k + n
upto-below k zero j h = absurd h
upto-below k (suc n) j (inl q) = omega (arith, q)
upto-below k (suc n) j (inr h) = let r = upto-below (k + 1) n j h in omega arith

places-in : (j : ℕ) (m : Operator) (p : Place) → In p (places_in j m) → (p.join ≡ j) × (p.input < inputs (data_in m))
places-in j (Stream schema sent) p h = absurd h
places-in j (Select test) p h = absurd h
places-in j (Project columns) p h = absurd h
places-in j (Union n u) p h = absurd h
places-in j (Join spec s) p h =
    let place : ℕ → Place = λ (k : ℕ). record { join = j; input = k } in
    let r = In-map place p (upto_from 0 (inputs spec)) h in
    let b = upto-below 0 (inputs spec) r.0 r.1 in
    (ap (λ (q : Place). q.join) (sym r.2), omega (arith, b, ap (λ (q : Place). q.input) r.2))
places-in j (Group spec rows) p h = absurd h

pub all-places : (front nodes : List Node) (p : Place) → In p (places_from (length front) nodes) → (p.join < length (front ++ nodes)) × (p.input < inputs (data_in (operator_at (front ++ nodes) p.join)))
all-places front [] p h = absurd h
all-places front (node ∷ nodes) p h = elim (In-append_cases p (places_in (length front) node.operator) (places_from (length front + 1) nodes) h) [
  | inl m ↦ let r = places-in (length front) node.operator p m in
      let middle : operator_at (front ++ node ∷ nodes) p.join ≡ node.operator = ap (operator_at (front ++ node ∷ nodes)) r.0 ∙ ap (λ (x : Node). x.operator) (get_or_at front node nodes nowhere (length front) refl) in
      (omega (arith, r.0, length-append front (node ∷ nodes)), subst (λ (o : Operator). p.input < inputs (data_in o)) (sym middle) r.1)
  | inr m ↦ subst (λ (xs : List Node). (p.join < length xs) × (p.input < inputs (data_in (operator_at xs p.join)))) (append_assoc front (node ∷ []) nodes)
      (all-places (front ++ node ∷ []) nodes p (subst (λ (n : ℕ). In p (places_from n nodes)) (sym (length_push front node)) m))
]

-- what follows an arrival is legal, and leaves all at rest
follow-rest : (sweeps : Bool) (nodes : List Node) (e : Element) → AllOperators Steady nodes → (sweeps ≡ true → AllOperators Certified nodes)
    → AreActsLegal nodes (follow_up sweeps nodes e) × AllOperators Rested (nodes_from nodes (follow_up sweeps nodes e))
follow-rest sweeps nodes e a sure = drained (probes nodes ++ swept-of (sweeps && is_punct e)) (go (sweeps && is_punct e) refl)
  where
    p : AllOperators Rested (nodes_from nodes (probes nodes)) × AreActsLegal nodes (probes nodes)
    p = probes-all nodes a

    swept-of : Bool → List Entry
    swept-of b = cond b (sweeps_at (nodes_from nodes (probes nodes)) (places_from 0 (nodes_from nodes (probes nodes)))) []

    Good : List Entry → Type 0
    Good es = AreActsLegal nodes es × AllOperators Rested (nodes_from nodes es)

    go : (b : Bool) → (sweeps && is_punct e) ≡ b → Good (probes nodes ++ swept-of b)
    go false q = subst Good (sym (append-nil (probes nodes))) (p.1, p.0)
    go true q =
        let last : List Node = nodes_from nodes (probes nodes) in
        let r = sweeps-rest last (places_from 0 last) p.0 (certified-from nodes (probes nodes) (sure (and_parts sweeps (is_punct e) q).0)) (all-places [] last) in
        (acts-append nodes (probes nodes) (sweeps_at last (places_from 0 last)) p.1 r.0, subst (AllOperators Rested) (sym (nodes-append nodes (probes nodes) (sweeps_at last (places_from 0 last)))) r.1)

    drained : (es : List Entry) → Good es → Good (es ++ plain Drain ∷ [])
    drained es g = (
      acts-append nodes es (plain Drain ∷ []) g.0 (tt, refl, tt, tt),
      subst (AllOperators Rested) (sym (nodes-append nodes es (plain Drain ∷ []) ∙ drain-still (nodes_from nodes es))) g.1,
    )

-- ---- turns

-- what a stream brings from here on is clear of what it brought, fits it, and ends with its closing
abbrev pub FitsFrom : List Column → List Element → List Turn → Type 0
FitsFrom schema sent [] = Unit {0}
FitsFrom schema sent (t ∷ ts) =
    IsClearOf sent t.element × FitsDomains (domains_of schema) t.element
    × ((t.closing ≡ 0) ⊎ ((t.closing ≡ 1) × (t.element ≡ Punct (all_wild (length schema))) × (ts ≡ [])))
    × FitsFrom schema (sent ++ t.element ∷ []) ts

-- all rest, and the streams of the plan have been fed this
pub record IsReady (sweeps : Bool) (plan : List Node) (r : Reached) (sent : ℕ → List Element) : Type 0 where
  pub on : IsOn r
  pub rested : AllOperators Rested r.nodes
  pub certified : sweeps ≡ true → AllOperators Certified r.nodes
  pub streams : streams_of r.nodes ≡ streams_of plan
  pub long : length r.nodes ≡ length plan
  pub holds : (s : ℕ) → s < length (streams_of plan) → operator_at r.nodes (stream_node plan s) ≡ Stream (schema_at plan s) (sent s)

-- what was fed with one turn more
abbrev fed_more : (ℕ → List Element) → Turn → ℕ → List Element
fed_more sent t s = cond (eqb t.stream s) (sent s ++ t.element ∷ []) (sent s)

-- all rest once the probes of this turn are made
abbrev pub HasProbed : List Node → Turn → Type 0
HasProbed nodes t = AllOperators Rested (nodes_from (nodes_by nodes (Arrive t.stream t.element)) (probes (nodes_by nodes (Arrive t.stream t.element))))

abbrev pub AllProbed : Bool → List Node → List Turn → Type 0
AllProbed sweeps nodes [] = Unit {0}
AllProbed sweeps nodes (t ∷ ts) = HasProbed nodes t × AllProbed sweeps (nodes_from nodes (turn_entries sweeps nodes t)) ts

record IsTurn (sweeps : Bool) (plan : List Node) (r : Reached) (sent : ℕ → List Element) (t : Turn) : Type 0 where
  legal : AreEntriesLegal r (turn_entries sweeps r.nodes t)
  ready : IsReady sweeps plan (reached_from false r (turn_entries sweeps r.nodes t)) (fed_more sent t)
  closed : (reached_from false r (turn_entries sweeps r.nodes t)).closed ≡ cond (eqb t.closing 1) (t.stream ∷ r.closed) r.closed
  elements : (s : ℕ) → elements_of s (turn_entries sweeps r.nodes t) ≡ cond (eqb t.stream s) (t.element ∷ []) []
  probed : HasProbed r.nodes t

stream-place : (n : ℕ) (nodes : List Node) (s d : ℕ) → s < length (streams_from n nodes) → (j : ℕ) × (j < length nodes) × (get_or (streams_from n nodes) s d ≡ n + j) × (is_stream (operator_at nodes j) ≡ true)
stream-place n [] s d lt = absurd (omega arith)
stream-place n (node ∷ nodes) s d lt = go (is_stream node.operator) refl s lt (λ k q. stream-place (n + 1) nodes k d q)
  where
    Found : List ℕ → ℕ → Type 0
    Found ns k = (j : ℕ) × (j < length (node ∷ nodes)) × (get_or ns k d ≡ n + j) × (is_stream (operator_at (node ∷ nodes) j) ≡ true)

    later : (k : ℕ) → ((j : ℕ) × (j < length nodes) × (get_or (streams_from (n + 1) nodes) k d ≡ n + 1 + j) × (is_stream (operator_at nodes j) ≡ true)) → Found (streams_from (n + 1) nodes) k
    later k r = (suc r.0, omega (arith, r.1), (let z : n + 1 + r.0 ≡ n + suc r.0 = omega arith in r.2 ∙ z), r.3)

    go : (b : Bool) → is_stream node.operator ≡ b → (k : ℕ) → k < length (cond b (n ∷ streams_from (n + 1) nodes) (streams_from (n + 1) nodes))
        → ((k : ℕ) → k < length (streams_from (n + 1) nodes) → (j : ℕ) × (j < length nodes) × (get_or (streams_from (n + 1) nodes) k d ≡ n + 1 + j) × (is_stream (operator_at nodes j) ≡ true))
        → Found (cond b (n ∷ streams_from (n + 1) nodes) (streams_from (n + 1) nodes)) k
    go true e zero q ih = let z : n ≡ n + 0 = omega arith in (0, omega arith, z, e)
    go true e (suc k) q ih = later k (ih k (omega arith))
    go false e k q ih = later k (ih k q)

pub stream-node-there : (plan : List Node) (s : ℕ) → s < length (streams_of plan) → (stream_node plan s < length plan) × (is_stream (operator_at plan (stream_node plan s)) ≡ true)
stream-node-there plan s lt =
    let r = stream-place 0 plan s (length plan) lt in
    let e : stream_node plan s ≡ r.0 = omega (arith, r.2) in
    (omega (arith, e, r.1), ap (λ (n : ℕ). is_stream (operator_at plan n)) e ∙ r.3)

-- ---- one turn

module _ (sweeps : Bool) (plan : List Node) (r : Reached) (sent : ℕ → List Element) (t : Turn) (i : IsReady sweeps plan r sent) (lt : t.stream < length (streams_of plan))
    (clear : IsClearOf (sent t.stream) t.element) (fit : FitsDomains (domains_of (schema_at plan t.stream)) t.element)
    (mark : (t.closing ≡ 0) ⊎ ((t.closing ≡ 1) × (t.element ≡ Punct (all_wild (length (schema_at plan t.stream))))))
    (open' : has r.closed t.stream ≡ false) where
  node-same : (s : ℕ) → stream_node r.nodes s ≡ stream_node plan s
  node-same s = ap₂ (λ (ns : List ℕ) (d : ℕ). get_or ns s d) i.streams i.long

  there : (s : ℕ) → s < length (streams_of plan) → stream_node plan s < length r.nodes
  there s l = omega (arith, (stream-node-there plan s l).0, i.long)

  its : operator_at r.nodes (stream_node r.nodes t.stream) ≡ Stream (schema_at plan t.stream) (sent t.stream)
  its = ap (operator_at r.nodes) (node-same t.stream) ∙ i.holds t.stream lt

  r' : Reached
  r' = next false r (arrival_of t)

  acts : List Entry
  acts = follow_up sweeps (nodes_by r.nodes (Arrive t.stream t.element)) t.element

  allowed : IsEntryAllowed r (arrival_of t)
  allowed = (
    (i.on, open', (omega (arith, there t.stream lt, node-same t.stream), subst (λ (m : Operator). MayArrive m t.element) (sym its) (clear, fit))),
    elim mark [
      | inl z ↦ inl z
      | inr z ↦ inr (z.0, subst (λ (m : Operator). Closes m t.element) (sym its) (subst (λ (x : Element). Closes (Stream (schema_at plan t.stream) (sent t.stream)) x) (sym z.1) refl))
    ],
  )

  steady : AllOperators Steady (nodes_by r.nodes (Arrive t.stream t.element))
  steady = feed-steady (stream_node r.nodes t.stream) t.element [] r.nodes (all-steady r.nodes i.rested)

  sure : sweeps ≡ true → AllOperators Certified (nodes_by r.nodes (Arrive t.stream t.element))
  sure on = certified-moved (step_of r.nodes (Arrive t.stream t.element)) [] r.nodes (i.certified on)

  still : IsStill r' acts
  unfolding r' acts
  still = acts-still (next false r (arrival_of t)) (follow_up sweeps (nodes_by r.nodes (Arrive t.stream t.element)) t.element) i.on (follow-rest sweeps (nodes_by r.nodes (Arrive t.stream t.element)) t.element steady sure).0

  holds-on : (s : ℕ) → s < length (streams_of plan) → operator_at (nodes_from r'.nodes acts) (stream_node plan s) ≡ Stream (schema_at plan s) (fed_more sent t s)
  unfolding r' acts
  holds-on s l =
      stream-acts (nodes_by r.nodes (Arrive t.stream t.element)) (follow_up sweeps (nodes_by r.nodes (Arrive t.stream t.element)) t.element) (stream_node plan s) (schema_at plan s) (fed_more sent t s)
      (omega (arith, there s l, length-moved (step_of r.nodes (Arrive t.stream t.element)) [] r.nodes))
      (follow-rest sweeps (nodes_by r.nodes (Arrive t.stream t.element)) t.element steady sure).0
      (stream-moved (step_of r.nodes (Arrive t.stream t.element)) [] r.nodes (stream_node plan s) (schema_at plan s) (sent s) (there s l) (i.holds s l)
      ∙ ap (λ (b : Bool). after_all (Stream (schema_at plan s) (sent s)) (cond b (Fed t.element ∷ []) [])) same ∙ fed (eqb t.stream s))
    where
      zero-plus : 0 + stream_node plan s ≡ stream_node plan s
      zero-plus = omega arith

      same : eqb (stream_node r.nodes t.stream) (0 + stream_node plan s) ≡ eqb t.stream s
      same =
          ap₂ (λ (a b : ℕ). eqb a b) (node-same t.stream) zero-plus
          ∙ rising-apart 0 (streams_of plan) (length plan) t.stream s (all-rise plan) lt l

      fed : (b : Bool) → after_all (Stream (schema_at plan s) (sent s)) (cond b (Fed t.element ∷ []) []) ≡ Stream (schema_at plan s) (cond b (sent s ++ t.element ∷ []) (sent s))
      fed true = refl
      fed false = refl

  one-turn : IsTurn sweeps plan r sent t
  unfolding r' acts
  one-turn = record {
    legal = (allowed, still.legal);
    ready = record {
      on = still.on;
      rested = subst (AllOperators Rested) (sym (reached-nodes false r' acts)) (follow-rest sweeps (nodes_by r.nodes (Arrive t.stream t.element)) t.element steady sure).1;
      certified = λ on. subst (AllOperators Certified) (sym (reached-nodes false r' acts)) (certified-from r'.nodes acts (sure on));
      streams = ap streams_of (reached-nodes false r' acts) ∙ streams-acts r'.nodes acts ∙ streams-same r.nodes (Arrive t.stream t.element) ∙ i.streams;
      long = ap length (reached-nodes false r' acts) ∙ length-from r'.nodes acts ∙ length-moved (step_of r.nodes (Arrive t.stream t.element)) [] r.nodes ∙ i.long;
      holds = λ s l. ap (λ (nodes : List Node). operator_at nodes (stream_node plan s)) (reached-nodes false r' acts) ∙ holds-on s l;
    };
    closed = still.closed;
    elements = λ s. ap (λ (es : List Element). element_at s (Arrive t.stream t.element) ++ es) (still.elements s) ∙ append-nil (element_at s (Arrive t.stream t.element));
    probed = (probes-all (nodes_by r.nodes (Arrive t.stream t.element)) steady).0;
  }

-- ---- all turns

pub record IsRun (sweeps : Bool) (r : Reached) (turns : List Turn) : Type 0 where
  pub legal : AreEntriesLegal r (turns_entries sweeps r.nodes turns)
  pub rested : AllOperators Rested (reached_from false r (turns_entries sweeps r.nodes turns)).nodes
  pub on : IsOn (reached_from false r (turns_entries sweeps r.nodes turns))
  pub closed : (t : Turn) → In t turns → t.closing ≡ 1 → has (reached_from false r (turns_entries sweeps r.nodes turns)).closed t.stream ≡ true
  pub kept : (s : ℕ) → has r.closed s ≡ true → has (reached_from false r (turns_entries sweeps r.nodes turns)).closed s ≡ true
  pub elements : (s : ℕ) → elements_of s (turns_entries sweeps r.nodes turns) ≡ map (λ t. t.element) (mine s turns)
  pub probed : AllProbed sweeps r.nodes turns

turns-step : (sweeps : Bool) (plan : List Node) (t : Turn) (ts : List Turn) (r : Reached) (sent : ℕ → List Element) → IsReady sweeps plan r sent → ((u : Turn) → In u (t ∷ ts) → u.stream < length (streams_of plan))
    → ((s : ℕ) → s < length (streams_of plan) → FitsFrom (schema_at plan s) (sent s) (mine s (t ∷ ts)))
    → ((s : ℕ) → s < length (streams_of plan) → has r.closed s ≡ true → mine s (t ∷ ts) ≡ [])
    → (IsReady sweeps plan (reached_from false r (turn_entries sweeps r.nodes t)) (fed_more sent t) → ((u : Turn) → In u ts → u.stream < length (streams_of plan))
    → ((s : ℕ) → s < length (streams_of plan) → FitsFrom (schema_at plan s) (fed_more sent t s) (mine s ts))
    → ((s : ℕ) → s < length (streams_of plan) → has (reached_from false r (turn_entries sweeps r.nodes t)).closed s ≡ true → mine s ts ≡ [])
    → IsRun sweeps (reached_from false r (turn_entries sweeps r.nodes t)) ts)
    → IsRun sweeps r (t ∷ ts)
turns-step sweeps plan t ts r sent i below fits shut go-on = record {
  probed = (turn.probed, subst (λ (nodes : List Node). AllProbed sweeps nodes ts) same ih.probed);
  legal = legal-append r here rest turn.legal (subst (λ (nodes : List Node). AreEntriesLegal r' (turns_entries sweeps nodes ts)) same ih.legal);
  rested = subst (λ (q : Reached). AllOperators Rested q.nodes) (sym end) ih.rested;
  on = subst IsOn (sym end) ih.on;
  closed = λ u h m. subst (λ (q : Reached). has q.closed u.stream ≡ true) (sym end) (elim h [
    | inr k ↦ ih.closed u k m
    | inl q ↦ ih.kept u.stream (subst (λ (ns : List ℕ). has ns u.stream ≡ true) (sym turn.closed) (subst (λ (b : Bool). has (cond b (t.stream ∷ r.closed) r.closed) u.stream ≡ true) (sym (eq-eqb t.closing 1 (ap (λ (z : Turn). z.closing) q ∙ m))) (or_left (eqb t.stream u.stream) (has r.closed u.stream) (eq-eqb t.stream u.stream (ap (λ (z : Turn). z.stream) q)))))
  ]);
  kept = λ s h. subst (λ (q : Reached). has q.closed s ≡ true) (sym end) (ih.kept s (subst (λ (ns : List ℕ). has ns s ≡ true) (sym turn.closed) (more (eqb t.closing 1) s h)));
  elements = λ s.
      elements-append s here rest
      ∙ ap₂ (λ (xs ys : List Element). xs ++ ys) (turn.elements s) (ap (λ (nodes : List Node). elements_of s (turns_entries sweeps nodes ts)) (sym same) ∙ ih.elements s)
      ∙ joined (eqb t.stream s) s;
}
  where
    lt : t.stream < length (streams_of plan)
    lt = below t (inl refl)

    first : mine t.stream (t ∷ ts) ≡ t ∷ mine t.stream ts
    first = ap (λ (b : Bool). cond b (t ∷ mine t.stream ts) (mine t.stream ts)) (eq-eqb t.stream t.stream refl)

    fit : FitsFrom (schema_at plan t.stream) (sent t.stream) (t ∷ mine t.stream ts)
    fit = subst (FitsFrom (schema_at plan t.stream) (sent t.stream)) first (fits t.stream lt)

    never : {A : Type 0} → (t ∷ mine t.stream ts) ≡ [] → A
    never e = absurd (omega (arith, ap length e))

    open' : has r.closed t.stream ≡ false
    open' = elim (cases_Bool (has r.closed t.stream)) [ inr f ↦ f | inl h ↦ never (sym first ∙ shut t.stream lt h) ]

    turn : IsTurn sweeps plan r sent t
    turn = one-turn sweeps plan r sent t i lt fit.0 fit.1 (elim fit.2 [ inl z ↦ inl z | inr z ↦ inr (z.0, z.1) ]) open'

    here : List Entry
    here = turn_entries sweeps r.nodes t

    r' : Reached
    r' = reached_from false r here

    rest : List Entry
    rest = turns_entries sweeps (nodes_from r.nodes here) ts

    same : r'.nodes ≡ nodes_from r.nodes here
    same = reached-nodes false r here

    other : (s : ℕ) → s < length (streams_of plan) → (b : Bool) → eqb t.stream s ≡ b → FitsFrom (schema_at plan s) (sent s) (cond b (t ∷ mine s ts) (mine s ts)) → FitsFrom (schema_at plan s) (cond b (sent s ++ t.element ∷ []) (sent s)) (mine s ts)
    other s l false e f = f
    other s l true e f = f.3

    more : (b : Bool) (s : ℕ) → has r.closed s ≡ true → has (cond b (t.stream ∷ r.closed) r.closed) s ≡ true
    more true s h = or_right (eqb t.stream s) (has r.closed s) h
    more false s h = h

    left : (s : ℕ) (b : Bool) → eqb t.stream s ≡ b → cond b (t ∷ mine s ts) (mine s ts) ≡ [] → mine s ts ≡ []
    left s false e q = q
    left s true e q = absurd (omega (arith, ap length q))

    shut' : (s : ℕ) → s < length (streams_of plan) → has r'.closed s ≡ true → mine s ts ≡ []
    shut' s l h = go (eqb t.closing 1) refl (subst (λ (ns : List ℕ). has ns s ≡ true) turn.closed h)
      where
        old : has r.closed s ≡ true → mine s ts ≡ []
        old k = left s (eqb t.stream s) refl (shut s l k)

        go : (b : Bool) → eqb t.closing 1 ≡ b → has (cond b (t.stream ∷ r.closed) r.closed) s ≡ true → mine s ts ≡ []
        go false e k = old k
        go true e k = elim (or_cases (eqb t.stream s) (has r.closed s) k) [
          | inr m ↦ old m
          | inl m ↦ elim fit.2 [
            | inl z ↦ let one : t.closing ≡ 1 = eqb-true t.closing 1 e in absurd (omega (arith, z, one))
            | inr z ↦ ap (λ (n : ℕ). mine n ts) (sym (eqb-true t.stream s m)) ∙ z.2
          ]
        ]

    ih : IsRun sweeps r' ts
    ih = go-on turn.ready (λ u h. below u (inr h)) (λ s l. other s l (eqb t.stream s) refl (fits s l)) shut'

    end : reached_from false r (here ++ rest) ≡ reached_from false r' (turns_entries sweeps r'.nodes ts)
    end = reached-append false r here rest ∙ ap (λ (nodes : List Node). reached_from false r' (turns_entries sweeps nodes ts)) (sym same)

    joined : (b : Bool) (s : ℕ) → cond b (t.element ∷ []) [] ++ map (λ u. u.element) (mine s ts) ≡ map (λ u. u.element) (cond b (t ∷ mine s ts) (mine s ts))
    joined true s = refl
    joined false s = refl

pub turns-run : (sweeps : Bool) (plan : List Node) (turns : List Turn) (r : Reached) (sent : ℕ → List Element) → IsReady sweeps plan r sent → ((t : Turn) → In t turns → t.stream < length (streams_of plan))
    → ((s : ℕ) → s < length (streams_of plan) → FitsFrom (schema_at plan s) (sent s) (mine s turns))
    → ((s : ℕ) → s < length (streams_of plan) → has r.closed s ≡ true → mine s turns ≡ []) → IsRun sweeps r turns
turns-run sweeps plan [] r sent i below fits shut = record { legal = tt; rested = i.rested; on = i.on; closed = λ t h. absurd h; kept = λ s h. h; elements = λ s. refl; probed = tt }
turns-run sweeps plan (t ∷ ts) r sent i below fits shut =
    turns-step sweeps plan t ts r sent i below fits shut (λ ready' below' fits' shut'. turns-run sweeps plan ts (reached_from false r (turn_entries sweeps r.nodes t)) (fed_more sent t) ready' below' fits' shut')

-- ---- streams in any legal history

own-feeds : (schema : List Column) (sent : List Element) (r : Reached) (event : Event) (s : ℕ) → s < length (streams_of r.nodes) → IsEventAllowed r event
    → after_all (Stream schema sent) (own (step_of r.nodes event) (0 + stream_node r.nodes s)) ≡ Stream schema (sent ++ element_at s event)
own-feeds schema sent r event s lt a = go event a
  where
    zero-plus : 0 + stream_node r.nodes s ≡ stream_node r.nodes s
    zero-plus = omega arith

    act : (j : ℕ) (b : Bool) (st : Step) → after_all (Stream schema sent) (cond b (Own st ∷ []) []) ≡ Stream schema (sent ++ [])
    act j true st = ap (Stream schema) (sym (append-nil sent))
    act j false st = ap (Stream schema) (sym (append-nil sent))

    go : (event : Event) → IsEventAllowed r event → after_all (Stream schema sent) (own (step_of r.nodes event) (0 + stream_node r.nodes s)) ≡ Stream schema (sent ++ element_at s event)
    go (Arrive stream e) a =
        ap (λ (b : Bool). after_all (Stream schema sent) (cond b (Fed e ∷ []) []))
        (ap (eqb (stream_node r.nodes stream)) zero-plus ∙ rising-apart 0 (streams_of r.nodes) (length r.nodes) stream s (all-rise r.nodes) (stream-there r.nodes stream a.2.0) lt)
        ∙ fed (eqb stream s)
      where
        fed : (b : Bool) → after_all (Stream schema sent) (cond b (Fed e ∷ []) []) ≡ Stream schema (sent ++ cond b (e ∷ []) [])
        fed true = refl
        fed false = ap (Stream schema) (sym (append-nil sent))
    go (Taken join ticket) a = act join (eqb join (0 + stream_node r.nodes s)) (Take ticket)
    go (Given join ticket) a = act join (eqb join (0 + stream_node r.nodes s)) (Give ticket)
    go (Swept join input) a = act join (eqb join (0 + stream_node r.nodes s)) (Sweep input)
    go Drain a = ap (Stream schema) (sym (append-nil sent))
    go Halt a = ap (Stream schema) (sym (append-nil sent))
    go (Look pending) a = ap (Stream schema) (sym (append-nil sent))
    go (Stopped stop) a = ap (Stream schema) (sym (append-nil sent))
    go Idle a = ap (Stream schema) (sym (append-nil sent))

holds-from : (r : Reached) (h : List Entry) (s : ℕ) (schema : List Column) (sent : List Element) → AreEntriesLegal r h → s < length (streams_of r.nodes) → operator_at r.nodes (stream_node r.nodes s) ≡ Stream schema sent
    → operator_at (nodes_from r.nodes h) (stream_node r.nodes s) ≡ Stream schema (sent ++ elements_of s h)
holds-from r [] s schema sent l lt q = q ∙ ap (Stream schema) (sym (append-nil sent))
holds-from r (entry ∷ h) s schema sent l lt q =
    ap (operator_at (nodes_from (nodes_by r.nodes entry.event) h)) (sym (stream_node-same r.nodes entry.event s))
    ∙ holds-from (next false r entry) h s schema (sent ++ element_at s entry.event) l.1 (subst (λ (ns : List ℕ). s < length ns) (sym (streams-same r.nodes entry.event)) lt)
    (ap (operator_at (nodes_by r.nodes entry.event)) (stream_node-same r.nodes entry.event s)
    ∙ stream-moved (step_of r.nodes entry.event) [] r.nodes (stream_node r.nodes s) schema sent (stream-node-there r.nodes s lt).0 q
    ∙ own-feeds schema sent r entry.event s lt l.0.0)
    ∙ ap (Stream schema) (append_assoc sent (element_at s entry.event) (elements_of s h))

pub streams-hold-from : (plan : List Node) (h : List Entry) (s : ℕ) → IsLegal plan h → s < length (streams_of plan) → operator_at plan (stream_node plan s) ≡ Stream (schema_at plan s) []
    → operator_at (nodes_from plan h) (stream_node plan s) ≡ Stream (schema_at plan s) (elements_of s h)
streams-hold-from plan h s l lt q = holds-from (begun plan) h s (schema_at plan s) [] l lt q
