-- Histories as lists of the steps of a plan.
use Rattle.std.proofs.Common.{ℕ, zero, suc, ◌+◌, ◌<◌, ◌≤◌, Bool, true, false, cond, List, [], ◌∷◌, ◌++◌, ◌≡◌, Some, map, length, get_or, refl, sym, ap, ap₂, ◌∙◌, subst, inl, inr, eqb, arith}
use Rattle.std.specs.Prelude.{pred}
use Rattle.std.proofs.lemmas.Bool.{eq-eqb, ne_eqb, cases_eq, cases_lt, false≢true}
use Rattle.pj_value.specs.declared.values.Value.{Value}
use Rattle.std.proofs.lemmas.List.{length_push}
use Rattle.pj_events.specs.Join.{In, Element, Tuple, Punct, TupleAt, removed}
use Rattle.pj_events.specs.Plan.{Operator, Stream, Select, Project, Union, Join, Group, Node, Local, Comes, Fed, Own, PlanStep, after, after_all, locals, handed_at, moved, plan_run, handed, fed_to, inputs_of, operator_answer, answers_from, IsStepAllowed, AreStepsLegal}
use Rattle.pj_events.specs.declared.events.Entry.{Entry}
use Rattle.pj_events.specs.declared.events.Event.{Event}
use Rattle.pj_events.specs.declared.events.Out.{Out}
use Rattle.pj_events.specs.declared.events.Event.TheVariants.{Arrive, Take as Taken, Give as Given, Sweep as Swept, Drain, Halt, Look, Stopped, Idle}
use Rattle.pj_events.specs.declared.events.Out.TheVariants.{Tuple as RowOut, Punct as PunctOut, Purged}
use Rattle.pj_events.specs.History.{is_stream, streams_from, streams_of, stream_node, root_of, join_at, data_at, step_of, nodes_by, out_of, notes_of, root_hands, gained, Reached, next, nodes_from, steps_from, IsEventAllowed, AreEntriesLegal}
use Rattle.pj_events.specs.Outcomes.{elements_out, outputs_of, element_at, elements_of, place_in}
use Rattle.pj_laws.proofs.Glue.{length-moved}

-- ---- legal histories make legal steps

step-allowed : (r : Reached) (event : Event) → IsEventAllowed r event → IsStepAllowed r.nodes (step_of r.nodes event)
step-allowed r (Arrive stream e) a = a.2
step-allowed r (Taken join ticket) a = a.1
step-allowed r (Given join ticket) a = a.1
step-allowed r (Swept join input) a = a.1
step-allowed r Drain a = tt
step-allowed r Halt a = tt
step-allowed r (Look pending) a = tt
step-allowed r (Stopped stop) a = tt
step-allowed r Idle a = tt

pub legal-steps : (r : Reached) (h : List Entry) → AreEntriesLegal r h → AreStepsLegal r.nodes (steps_from r.nodes h)
legal-steps r [] l = tt
legal-steps r (entry ∷ h) l = (step-allowed r entry.event l.0.0, legal-steps (next false r entry) h l.1)

pub nodes-run : (nodes : List Node) (h : List Entry) → nodes_from nodes h ≡ plan_run nodes (steps_from nodes h)
nodes-run nodes [] = refl
nodes-run nodes (entry ∷ h) = nodes-run (nodes_by nodes entry.event) h

-- ---- what is handed out is what the root hands up

pub elements-append : (xs ys : List Out) → elements_out (xs ++ ys) ≡ elements_out xs ++ elements_out ys
elements-append [] ys = refl
elements-append (RowOut row ∷ xs) ys = ap (λ (es : List Element). Tuple row ∷ es) (elements-append xs ys)
elements-append (PunctOut patterns ∷ xs) ys = ap (λ (es : List Element). Punct patterns ∷ es) (elements-append xs ys)
elements-append (Purged join input row ∷ xs) ys = elements-append xs ys

elements-map : (es : List Element) → elements_out (map out_of es) ≡ es
elements-map [] = refl
elements-map (Tuple row ∷ es) = ap (λ (xs : List Element). Tuple row ∷ xs) (elements-map es)
elements-map (Punct patterns ∷ es) = ap (λ (xs : List Element). Punct patterns ∷ xs) (elements-map es)

notes-none : (nodes : List Node) (event : Event) → elements_out (notes_of nodes event) ≡ []
notes-none nodes (Arrive stream e) = refl
notes-none nodes (Taken join ticket) = refl
notes-none nodes (Given join ticket) = refl
notes-none nodes (Swept join input) = go (removed (data_at nodes join) (join_at nodes join) input)
  where
    go : (xs : List TupleAt) → elements_out (map (λ x. Purged join input x.row) xs) ≡ []
    go [] = refl
    go (x ∷ xs) = go xs
notes-none nodes Drain = refl
notes-none nodes Halt = refl
notes-none nodes (Look pending) = refl
notes-none nodes (Stopped stop) = refl
notes-none nodes Idle = refl

gained-elements : (trace : Bool) (nodes : List Node) (event : Event) → elements_out (gained trace nodes event) ≡ root_hands nodes event
gained-elements true nodes event =
    elements-append (notes_of nodes event) (map out_of (root_hands nodes event))
    ∙ ap₂ (λ (xs ys : List Element). xs ++ ys) (notes-none nodes event) (elements-map (root_hands nodes event))
gained-elements false nodes event = elements-map (root_hands nodes event)

pub root-same : (nodes : List Node) (event : Event) → root_of (nodes_by nodes event) ≡ root_of nodes
root-same nodes event = ap pred (length-moved (step_of nodes event) [] nodes)

pub outputs-handed : (trace : Bool) (nodes : List Node) (h : List Entry) → elements_out (outputs_of trace nodes h) ≡ handed (root_of nodes) nodes (steps_from nodes h)
outputs-handed trace nodes [] = refl
outputs-handed trace nodes (entry ∷ h) =
    elements-append (gained trace nodes entry.event) (outputs_of trace (nodes_by nodes entry.event) h)
    ∙ ap₂ (λ (xs ys : List Element). xs ++ ys) (gained-elements trace nodes entry.event)
    (outputs-handed trace (nodes_by nodes entry.event) h ∙ ap (λ (n : ℕ). handed n (nodes_by nodes entry.event) (steps_from (nodes_by nodes entry.event) h)) (root-same nodes entry.event))

-- ---- streams stay streams

kind-after : (m : Operator) (l : Local) → is_stream (after m l) ≡ is_stream m
kind-after (Stream schema sent) (Comes k e) = refl
kind-after (Stream schema sent) (Fed e) = refl
kind-after (Stream schema sent) (Own s) = refl
kind-after (Select test) l = refl
kind-after (Project columns) l = refl
kind-after (Union n u) (Comes k e) = refl
kind-after (Union n u) (Fed e) = refl
kind-after (Union n u) (Own s) = refl
kind-after (Join spec s) l = refl
kind-after (Group spec rows) (Comes k e) = refl
kind-after (Group spec rows) (Fed e) = refl
kind-after (Group spec rows) (Own s) = refl

pub kind-all : (m : Operator) (ls : List Local) → is_stream (after_all m ls) ≡ is_stream m
kind-all m [] = refl
kind-all m (l ∷ ls) = kind-all (after m l) ls ∙ kind-after m l

streams-moved : (e : PlanStep) (done : List (List Element)) (n : ℕ) (nodes : List Node) → streams_from n (moved e done nodes) ≡ streams_from n nodes
streams-moved e done n [] = refl
streams-moved e done n (node ∷ nodes) =
    ap₂ (λ (b : Bool) (ns : List ℕ). cond b (n ∷ ns) ns) (kind-all node.operator (locals e done node)) (streams-moved e (done ++ handed_at e done node ∷ []) (n + 1) nodes)

pub streams-same : (nodes : List Node) (event : Event) → streams_of (nodes_by nodes event) ≡ streams_of nodes
streams-same nodes event = streams-moved (step_of nodes event) [] 0 nodes

-- each number is at least this one, and greater than those before it
abbrev pub IsRising : ℕ → List ℕ → Type 0
IsRising low [] = Unit {0}
IsRising low (n ∷ ns) = (low ≤ n) × IsRising (n + 1) ns

rising-less : (low more : ℕ) (ns : List ℕ) → low ≤ more → IsRising more ns → IsRising low ns
rising-less low more [] le r = tt
rising-less low more (n ∷ ns) le r = (omega (arith, le, r.0), r.1)

streams-rise : (n : ℕ) (nodes : List Node) → IsRising n (streams_from n nodes)
streams-rise n [] = tt
streams-rise n (node ∷ nodes) = go (is_stream node.operator) (streams-rise (n + 1) nodes)
  where
    go : (b : Bool) → IsRising (n + 1) (streams_from (n + 1) nodes) → IsRising n (cond b (n ∷ streams_from (n + 1) nodes) (streams_from (n + 1) nodes))
    go true r = (omega arith, r)
    go false r = rising-less n (n + 1) (streams_from (n + 1) nodes) (omega arith) r

pub all-rise : (nodes : List Node) → IsRising 0 (streams_of nodes)
all-rise nodes = streams-rise 0 nodes

rising-above : (low : ℕ) (ns : List ℕ) (d s : ℕ) → IsRising low ns → s < length ns → low ≤ get_or ns s d
rising-above low [] d s r lt = absurd (omega arith)
rising-above low (n ∷ ns) d zero r lt = r.0
rising-above low (n ∷ ns) d (suc s) r lt = let q = rising-above (n + 1) ns d s r.1 (omega arith) in omega (arith, q, r.0)

-- numbers at different places differ
pub rising-apart : (low : ℕ) (ns : List ℕ) (d s t : ℕ) → IsRising low ns → s < length ns → t < length ns → eqb (get_or ns s d) (get_or ns t d) ≡ eqb s t
rising-apart low [] d s t r a b = absurd (omega arith)
rising-apart low (n ∷ ns) d zero zero r a b = eq-eqb n n refl
rising-apart low (n ∷ ns) d zero (suc t) r a b = let q = rising-above (n + 1) ns d t r.1 (omega arith) in ne_eqb n (get_or ns t d) (λ e. omega (arith, q, e)) ∙ sym (ne_eqb 0 (suc t) (λ e. omega (arith, e)))
rising-apart low (n ∷ ns) d (suc s) zero r a b = let q = rising-above (n + 1) ns d s r.1 (omega arith) in ne_eqb (get_or ns s d) n (λ e. omega (arith, q, e)) ∙ sym (ne_eqb (suc s) 0 (λ e. omega (arith, e)))
rising-apart low (n ∷ ns) d (suc s) (suc t) r a b = rising-apart (n + 1) ns d s t r.1 (omega arith) (omega arith) ∙ same s t
  where
    same : (s t : ℕ) → eqb s t ≡ eqb (suc s) (suc t)
    same s t = elim (cases_eq s t) [
      | inl e ↦ eq-eqb s t e ∙ sym (eq-eqb (suc s) (suc t) (ap suc e))
      | inr ne ↦ ne_eqb s t ne ∙ sym (ne_eqb (suc s) (suc t) (λ e. ne (omega (arith, e))))
    ]

-- the place of a number that rises is found
pub rising-place : (low k : ℕ) (ns : List ℕ) (d s : ℕ) → IsRising low ns → s < length ns → place_in k ns (get_or ns s d) ≡ Some (k + s)
rising-place low k [] d s r lt = absurd (omega arith)
rising-place low k (n ∷ ns) d zero r lt = let z : k ≡ k + 0 = omega arith in ap (λ (b : Bool). cond b (Some k) (place_in (k + 1) ns n)) (eq-eqb n n refl) ∙ ap Some z
rising-place low k (n ∷ ns) d (suc s) r lt =
    let q = rising-above (n + 1) ns d s r.1 (omega arith) in
    let z : k + 1 + s ≡ k + suc s = omega arith in
    ap (λ (b : Bool). cond b (Some k) (place_in (k + 1) ns (get_or ns s d))) (ne_eqb n (get_or ns s d) (λ e. omega (arith, q, e)))
    ∙ rising-place (n + 1) (k + 1) ns d s r.1 (omega arith) ∙ ap Some z

-- a member stands at a place
pub member-place : (ns : List ℕ) (d n : ℕ) → In n ns → (s : ℕ) × (s < length ns) × (get_or ns s d ≡ n)
member-place [] d n h = absurd h
member-place (m ∷ ns) d n (inl q) = (0, omega arith, q)
member-place (m ∷ ns) d n (inr h) = let r = member-place ns d n h in (suc r.0, omega (arith, r.1), r.2)

get_or-past : (ns : List ℕ) (s d : ℕ) → length ns ≤ s → get_or ns s d ≡ d
get_or-past [] s d le = refl
get_or-past (n ∷ ns) zero d le = absurd (omega arith)
get_or-past (n ∷ ns) (suc s) d le = get_or-past ns s d (omega arith)

-- a stream that has a node is one
pub stream-there : (nodes : List Node) (s : ℕ) → stream_node nodes s < length nodes → s < length (streams_of nodes)
stream-there nodes s lt = elim (cases_lt s (length (streams_of nodes))) [
  | inl l ↦ l
  | inr ge ↦ let e = get_or-past (streams_of nodes) s (length nodes) ge in absurd (omega (arith, lt, e))
]

-- ---- what is fed to a stream are its elements

fed-one : (r : Reached) (event : Event) (es : List PlanStep) (s : ℕ) → s < length (streams_of r.nodes) → IsEventAllowed r event
    → fed_to (stream_node r.nodes s) (step_of r.nodes event ∷ es) ≡ element_at s event ++ fed_to (stream_node r.nodes s) es
fed-one r (Arrive stream e) es s lt a =
    ap (λ (b : Bool). cond b (e ∷ rest) rest) (rising-apart 0 (streams_of r.nodes) (length r.nodes) stream s (all-rise r.nodes) (stream-there r.nodes stream a.2.0) lt) ∙ go (eqb stream s)
  where
    rest : List Element
    rest = fed_to (stream_node r.nodes s) es

    go : (b : Bool) → cond b (e ∷ rest) rest ≡ cond b (e ∷ []) [] ++ rest
    go true = refl
    go false = refl
fed-one r (Taken join ticket) es s lt a = refl
fed-one r (Given join ticket) es s lt a = refl
fed-one r (Swept join input) es s lt a = refl
fed-one r Drain es s lt a = refl
fed-one r Halt es s lt a = refl
fed-one r (Look pending) es s lt a = refl
fed-one r (Stopped stop) es s lt a = refl
fed-one r Idle es s lt a = refl

pub stream_node-same : (nodes : List Node) (event : Event) (s : ℕ) → stream_node (nodes_by nodes event) s ≡ stream_node nodes s
stream_node-same nodes event s = ap₂ (λ (ns : List ℕ) (d : ℕ). get_or ns s d) (streams-same nodes event) (length-moved (step_of nodes event) [] nodes)

pub fed-elements : (r : Reached) (h : List Entry) (s : ℕ) → s < length (streams_of r.nodes) → AreEntriesLegal r h → fed_to (stream_node r.nodes s) (steps_from r.nodes h) ≡ elements_of s h
fed-elements r [] s lt l = refl
fed-elements r (entry ∷ h) s lt l =
    fed-one r entry.event (steps_from (nodes_by r.nodes entry.event) h) s lt l.0.0
    ∙ ap (λ (es : List Element). element_at s entry.event ++ es) (
    ap (λ (n : ℕ). fed_to n (steps_from (nodes_by r.nodes entry.event) h)) (sym (stream_node-same r.nodes entry.event s))
    ∙ fed-elements (next false r entry) h s (subst (λ (ns : List ℕ). s < length ns) (sym (streams-same r.nodes entry.event)) lt) l.1)

-- ---- answers look at the rows of streams alone

answer-agree : (m : Operator) (xs ys : List (List Value)) (lists : List (List (List Value))) → (is_stream m ≡ true → xs ≡ ys) → operator_answer m xs lists ≡ operator_answer m ys lists
answer-agree (Stream schema sent) xs ys lists e = e refl
answer-agree (Select test) xs ys lists e = refl
answer-agree (Project columns) xs ys lists e = refl
answer-agree (Union n u) xs ys lists e = refl
answer-agree (Join spec s) xs ys lists e = refl
answer-agree (Group spec rows) xs ys lists e = refl

pub answers-agree : (f g : ℕ → List (List Value)) (n : ℕ) (done : List (List (List Value))) (nodes : List Node) → length done ≡ n → ((k : ℕ) → In k (streams_from n nodes) → f k ≡ g k) → answers_from f done nodes ≡ answers_from g done nodes
answers-agree f g n done [] long same = refl
answers-agree f g n done (node ∷ nodes) long same =
    ap (λ (rows : List (List Value)). answers_from f (done ++ rows ∷ []) nodes) (answer-agree node.operator (f (length done)) (g (length done)) (inputs_of node done) here)
    ∙ answers-agree f g (n + 1) (done ++ operator_answer node.operator (g (length done)) (inputs_of node done) ∷ []) nodes (omega (arith, long, length_push done (operator_answer node.operator (g (length done)) (inputs_of node done)))) (λ k h. same k (later (is_stream node.operator) k h))
  where
    later : (b : Bool) (k : ℕ) → In k (streams_from (n + 1) nodes) → In k (cond b (n ∷ streams_from (n + 1) nodes) (streams_from (n + 1) nodes))
    later true k h = inr h
    later false k h = h

    first : (b : Bool) → b ≡ true → In n (cond b (n ∷ streams_from (n + 1) nodes) (streams_from (n + 1) nodes))
    first true e = inl refl
    first false e = absurd (false≢true e)

    here : is_stream node.operator ≡ true → f (length done) ≡ g (length done)
    here e = ap f long ∙ same n (first (is_stream node.operator) e) ∙ ap g (sym long)
