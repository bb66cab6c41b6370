-- Probes one by one.
use Rattle.std.proofs.Common.{ℕ, zero, suc, ◌+◌, ◌<◌, ◌≤◌, Bool, cond, not, List, [], ◌∷◌, ◌++◌, ◌≡◌, Some, None, map, length, get_or, refl, sym, ap, ap₂, ◌∙◌, subst, arith, append-nil, append_assoc}
use Rattle.std.proofs.lemmas.Bool.{eq-eqb}
use Rattle.std.proofs.lemmas.List.{length_push, get_or_at}
use Rattle.std.proofs.lemmas.List.Sums.{sum_by-cons}
use Rattle.pj_events.specs.Join.{In, Element, Step, Take, Give, TupleAt, JoinData, JoinState, TupleComes, PunctComes, Sweep, step, run}
use Rattle.pj_events.specs.KeptState.{lacking, without}
use Rattle.pj_events.specs.Plan.{Operator, Stream, Select, Project, Union, Join, Group, Node, Local, Comes, Fed, Own, PlanStep, Act, join_local, after, after_all, hands_all, own, locals, handed_at, moved, operator_at, nowhere, IsWellMade, node_width, ArePlanned}
use Rattle.pj_events.specs.declared.events.Entry.{Entry}
use Rattle.pj_events.specs.History.{state_in, pending_in, step_of, nodes_by, nodes_from}
use Rattle.pj_events.specs.OneThread.{Pending, probes_at, pending_at, probes_from, first_of, next_from}
use Rattle.pj_laws.specs.HistoryLaws.{probe_of, ProbesGoOn, NoneIsPending}
use Rattle.pj_join_laws.proofs.Bags.{AreDistinct}
use Rattle.pj_join_laws.proofs.Stand.{lacking-cons, without-all}
use Rattle.pj_laws.proofs.Glue.{length-moved}
use Rattle.pj_laws.proofs.Histories.{nodes-append}
use Rattle.pj_laws.proofs.Nodes.{AreEmpty, empty-none, empty-push, brought-none}
use Rattle.pj_laws.proofs.Probes.{AllOperators, all-at, steady-tuple, lacking-distinct, own-other}

-- ---- tickets are told apart at any moment

record IsTicketed (s : JoinState) : Type 0 where
  below : (x : TupleAt) → In x s.tuples → x.ticket < s.next
  distinct : AreDistinct (map (λ x. x.ticket) s.tuples)

abbrev Ticketed : Operator → Type 0
Ticketed (Join spec s) = IsTicketed s
Ticketed _ = Unit {0}

ticketed-step : (spec : JoinData) (s : JoinState) (st : Step) → IsTicketed s → IsTicketed (step spec s st)
ticketed-step spec s (TupleComes input row) i =
    let k = steady-tuple spec (record s { taken = s.given }) input row (record { below = i.below; distinct = i.distinct; even = refl }) in
    record { below = k.below; distinct = k.distinct }
ticketed-step spec s (PunctComes input patterns) i = record { below = λ x h. omega (arith, i.below x h); distinct = i.distinct }
ticketed-step spec s (Take u) i = record { below = i.below; distinct = i.distinct }
ticketed-step spec s (Give u) i = record { below = i.below; distinct = i.distinct }
ticketed-step spec s (Sweep input) i = record { below = i.below; distinct = i.distinct }

ticketed-run : (spec : JoinData) (s : JoinState) (sts : List Step) → IsTicketed s → IsTicketed (run spec s sts)
ticketed-run spec s [] i = i
ticketed-run spec s (st ∷ sts) i = ticketed-run spec (step spec s st) sts (ticketed-step spec s st i)

ticketed-after : (m : Operator) (l : Local) → Ticketed m → Ticketed (after m l)
ticketed-after (Stream schema sent) (Comes k e) i = tt
ticketed-after (Stream schema sent) (Fed e) i = tt
ticketed-after (Stream schema sent) (Own s) i = tt
ticketed-after (Select test) l i = tt
ticketed-after (Project columns) l i = tt
ticketed-after (Union n u) (Comes k e) i = tt
ticketed-after (Union n u) (Fed e) i = tt
ticketed-after (Union n u) (Own s) i = tt
ticketed-after (Join spec s) l i = ticketed-run spec s (join_local l) i
ticketed-after (Group spec rows) (Comes k e) i = tt
ticketed-after (Group spec rows) (Fed e) i = tt
ticketed-after (Group spec rows) (Own s) i = tt

ticketed-all : (m : Operator) (ls : List Local) → Ticketed m → Ticketed (after_all m ls)
ticketed-all m [] i = i
ticketed-all m (l ∷ ls) i = ticketed-all (after m l) ls (ticketed-after m l i)

ticketed-moved : (e : PlanStep) (done : List (List Element)) (nodes : List Node) → AllOperators Ticketed nodes → AllOperators Ticketed (moved e done nodes)
ticketed-moved e done [] a = tt
ticketed-moved e done (node ∷ nodes) a = (ticketed-all node.operator (locals e done node) a.0, ticketed-moved e (done ++ handed_at e done node ∷ []) nodes a.1)

ticketed-from : (nodes : List Node) (h : List Entry) → AllOperators Ticketed nodes → AllOperators Ticketed (nodes_from nodes h)
ticketed-from nodes [] a = a
ticketed-from nodes (entry ∷ h) a = ticketed-from (nodes_by nodes entry.event) h (ticketed-moved (step_of nodes entry.event) [] nodes a)

made-ticketed : (m : Operator) (ws : List ℕ) → IsWellMade m ws → Ticketed m
made-ticketed (Stream schema sent) ws made = tt
made-ticketed (Select test) ws made = tt
made-ticketed (Project columns) ws made = tt
made-ticketed (Union n u) ws made = tt
made-ticketed (Join spec s) ws made = subst IsTicketed (sym made.2) (record { below = λ x h. absurd h; distinct = tt })
made-ticketed (Group spec rows) ws made = tt

planned-ticketed : (ws : List ℕ) (nodes : List Node) → ArePlanned ws nodes → AllOperators Ticketed nodes
planned-ticketed ws [] p = tt
planned-ticketed ws (node ∷ nodes) p = (made-ticketed node.operator (map (λ m. get_or ws m 0) node.inputs) p.1, planned-ticketed (ws ++ node_width ws node ∷ []) nodes p.2)

-- ---- one act

-- before the node at which a step is made all stays, and there it is made
act-place : (e : PlanStep) (done : List (List Element)) (nodes : List Node) (n : ℕ) → AreEmpty done → n < length nodes → ((j : ℕ) → length done ≤ j → j < length done + n → own e j ≡ [])
    → operator_at (moved e done nodes) n ≡ after_all (operator_at nodes n) (own e (length done + n))
act-place e done [] n a lt none = absurd (omega arith)
act-place e done (node ∷ nodes) zero a lt none =
    let z : length done ≡ length done + 0 = omega arith in
    ap (λ (ls : List Local). after_all node.operator (own e (length done) ++ ls)) (brought-none 0 node.inputs done a)
    ∙ ap (after_all node.operator) (append-nil (own e (length done)) ∙ ap (own e) z)
act-place e done (node ∷ nodes) (suc n) a lt none =
    ap (λ (es : List Element). operator_at (moved e (done ++ es ∷ []) nodes) n) silent
    ∙ act-place e (done ++ [] ∷ []) nodes n (empty-push done a) (omega arith) (λ j le l. none j (omega (arith, le, length_push done [])) (omega (arith, l, length_push done [])))
    ∙ ap (λ (k : ℕ). after_all (operator_at nodes n) (own e k)) (let z : length (done ++ [] ∷ []) + n ≡ length done + suc n = omega (arith, length_push done []) in z)
  where
    silent : handed_at e done node ≡ []
    silent = ap (hands_all node.operator) (ap₂ (λ (xs ys : List Local). xs ++ ys) (none (length done) (omega arith) (omega arith)) (brought-none 0 node.inputs done a))

pub act-before : (nodes : List Node) (j n : ℕ) (s : Step) → n < j → n < length nodes → operator_at (moved (Act j s) [] nodes) n ≡ operator_at nodes n
act-before nodes j n s lt l =
    act-place (Act j s) [] nodes n empty-none l (λ k le q. own-other j s k (λ z. omega (arith, z, q, lt)))
    ∙ ap (after_all (operator_at nodes n)) (own-other j s (0 + n) (λ z. omega (arith, z, lt)))

pub act-here : (nodes : List Node) (j : ℕ) (s : Step) → j < length nodes → operator_at (moved (Act j s) [] nodes) j ≡ after (operator_at nodes j) (Own s)
act-here nodes j s l =
    act-place (Act j s) [] nodes j empty-none l (λ k le q. own-other j s k (λ z. omega (arith, z, q)))
    ∙ ap (after_all (operator_at nodes j)) (ap (λ (b : Bool). cond b (Own s ∷ []) []) (eq-eqb j (0 + j) (omega arith)))

-- ---- what is pending after a probe

abbrev lack_in : Operator → List ℕ
lack_in m = lacking (state_in m).taken (state_in m).tuples

probed-before : (nodes : List Node) (j u n : ℕ) → n < j → n < length nodes → pending_at (nodes_from nodes (probes_at j (u ∷ []))) n ≡ pending_at nodes n
probed-before nodes j u n lt l =
    ap lack_in (
    act-before (moved (Act j (Take u)) [] nodes) j n (Give u) lt (omega (arith, l, length-moved (Act j (Take u)) [] nodes))
    ∙ act-before nodes j n (Take u) lt l)

-- the first ticket is taken, and the others are left
probed-operator : (m : Operator) (u : ℕ) (us : List ℕ) → Ticketed m → lack_in m ≡ u ∷ us → lack_in (after (after m (Own (Take u))) (Own (Give u))) ≡ us
probed-operator (Stream schema sent) u us i e = absurd (omega (arith, ap length e))
probed-operator (Select test) u us i e = absurd (omega (arith, ap length e))
probed-operator (Project columns) u us i e = absurd (omega (arith, ap length e))
probed-operator (Union n w) u us i e = absurd (omega (arith, ap length e))
probed-operator (Group spec rows) u us i e = absurd (omega (arith, ap length e))
probed-operator (Join spec s) u us i e =
    lacking-cons u s.taken s.tuples
    ∙ ap (λ (ns : List ℕ). without ns u) e
    ∙ ap (λ (b : Bool). cond (not b) (u ∷ without us u) (without us u)) (eq-eqb u u refl)
    ∙ without-all us u (subst AreDistinct e (lacking-distinct s.taken s.tuples i.distinct)).0

pending-there : (nodes : List Node) (n u : ℕ) (us : List ℕ) → pending_at nodes n ≡ u ∷ us → n < length nodes
pending-there [] n u us e = absurd (omega (arith, ap length e))
pending-there (node ∷ nodes) zero u us e = omega arith
pending-there (node ∷ nodes) (suc n) u us e = let r = pending-there nodes n u us e in omega arith

probed-here : (nodes : List Node) (j u : ℕ) (us : List ℕ) → AllOperators Ticketed nodes → pending_at nodes j ≡ u ∷ us → pending_at (nodes_from nodes (probes_at j (u ∷ []))) j ≡ us
probed-here nodes j u us a e =
    let l = pending-there nodes j u us e in
    ap lack_in (
    act-here (moved (Act j (Take u)) [] nodes) j (Give u) (omega (arith, l, length-moved (Act j (Take u)) [] nodes))
    ∙ ap (λ (m : Operator). after m (Own (Give u))) (act-here nodes j (Take u) l))
    ∙ probed-operator (operator_at nodes j) u us (all-at Ticketed nodes j l a) e

-- ---- all probes

none-left : (nodes : List Node) (k n : ℕ) → next_from nodes k n ≡ None → probes_from nodes k n ≡ []
none-left nodes k zero e = refl
none-left nodes k (suc n) e = go (pending_at nodes k) e (none-left nodes (k + 1) n)
  where
    go : (us : List ℕ) → first_of k us (next_from nodes (k + 1) n) ≡ None → (next_from nodes (k + 1) n ≡ None → probes_from nodes (k + 1) n ≡ []) → (probes_at k us ++ probes_from (nodes_from nodes (probes_at k us)) (k + 1) n) ≡ []
    go [] e f = f e
    go (u ∷ us) e f = cc

-- the next probe is at this node or behind it
next-behind : (nodes : List Node) (k n : ℕ) (p : Pending) → next_from nodes k n ≡ Some p → k ≤ p.join
next-behind nodes k zero p e = cc
next-behind nodes k (suc n) p e = go (pending_at nodes k) e (next-behind nodes (k + 1) n p)
  where
    go : (us : List ℕ) → first_of k us (next_from nodes (k + 1) n) ≡ Some p → (next_from nodes (k + 1) n ≡ Some p → k + 1 ≤ p.join) → k ≤ p.join
    go [] e f = omega (arith, f e)
    go (u ∷ us) e f = let q : record { join = k; ticket = u } ≡ p = cc e in omega (arith, ap (λ (z : Pending). z.join) q)

probe-first : (nodes : List Node) (k n : ℕ) (p : Pending) → AllOperators Ticketed nodes → k + n ≡ length nodes → next_from nodes k n ≡ Some p
    → probes_from nodes k n ≡ probes_at p.join (p.ticket ∷ []) ++ probes_from (nodes_from nodes (probes_at p.join (p.ticket ∷ []))) k n
probe-first nodes k zero p a l e = cc
probe-first nodes k (suc n) p a l e = go (pending_at nodes k) refl e (λ q. probe-first nodes (k + 1) n p a (omega arith) q) (λ q. next-behind nodes (k + 1) n p q)
  where
    then-all : Pending → List ℕ → List Entry
    then-all q us = probes_at k us ++ probes_from (nodes_from (nodes_from nodes (probes_at q.join (q.ticket ∷ []))) (probes_at k us)) (k + 1) n

    first-here : (u : ℕ) (us : List ℕ) (q : Pending) → pending_at nodes k ≡ u ∷ us → record { join = k; ticket = u } ≡ q
        → (probes_at k (u ∷ us) ++ probes_from (nodes_from nodes (probes_at k (u ∷ us))) (k + 1) n) ≡ probes_at q.join (q.ticket ∷ []) ++ then-all q (pending_at (nodes_from nodes (probes_at q.join (q.ticket ∷ []))) k)
    first-here u us q w r =
        subst (λ (z : Pending). (probes_at k (u ∷ us) ++ probes_from (nodes_from nodes (probes_at k (u ∷ us))) (k + 1) n) ≡ probes_at z.join (z.ticket ∷ []) ++ then-all z (pending_at (nodes_from nodes (probes_at z.join (z.ticket ∷ []))) k)) r
        (ap (λ (vs : List ℕ). probes_at k (u ∷ []) ++ then-all (record { join = k; ticket = u }) vs) (sym (probed-here nodes k u us a w)))

    go : (us : List ℕ) → pending_at nodes k ≡ us → first_of k us (next_from nodes (k + 1) n) ≡ Some p
        → (next_from nodes (k + 1) n ≡ Some p → probes_from nodes (k + 1) n ≡ probes_at p.join (p.ticket ∷ []) ++ probes_from (nodes_from nodes (probes_at p.join (p.ticket ∷ []))) (k + 1) n)
        → (next_from nodes (k + 1) n ≡ Some p → k + 1 ≤ p.join)
        → (probes_at k us ++ probes_from (nodes_from nodes (probes_at k us)) (k + 1) n) ≡ probes_at p.join (p.ticket ∷ []) ++ then-all p (pending_at (nodes_from nodes (probes_at p.join (p.ticket ∷ []))) k)
    go [] w e f g =
        f e ∙ ap (λ (vs : List ℕ). probes_at p.join (p.ticket ∷ []) ++ then-all p vs) (sym (probed-before nodes p.join p.ticket k (omega (arith, g e)) (omega arith) ∙ w))
    go (u ∷ us) w e f g = first-here u us p w (let q : record { join = k; ticket = u } ≡ p = cc e in q)

length-probed : (nodes : List Node) (p : Pending) → length (nodes_from nodes (probe_of p)) ≡ length nodes
length-probed nodes p = length-moved (Act p.join (Give p.ticket)) [] (moved (Act p.join (Take p.ticket)) [] nodes) ∙ length-moved (Act p.join (Take p.ticket)) [] nodes

pub probes-go-on : (plan : List Node) → ArePlanned [] plan → (history : List Entry) → ProbesGoOn (nodes_from plan history)
probes-go-on plan planned history = (
  none-left nodes 0 (length nodes),
  λ p e. probe-first nodes 0 (length nodes) p (ticketed-from plan history (planned-ticketed [] plan planned)) (omega arith) e
      ∙ ap (λ (n : ℕ). probe_of p ++ probes_from (nodes_from nodes (probe_of p)) 0 n) (sym (length-probed nodes p)),
)
  where
    nodes : List Node
    nodes = nodes_from plan history

-- ---- what is pending in all

-- from a node on there is no next probe exactly where nothing is pending there
abbrev NoneFrom : List Node → ℕ → ℕ → List Node → Type 0
NoneFrom all k n nodes = (next_from all k n ≡ None → pending_in nodes ≡ 0) × (pending_in nodes ≡ 0 → next_from all k n ≡ None)

none-from : (front nodes : List Node) → NoneFrom (front ++ nodes) (length front) (length nodes) nodes
none-from front [] = (λ e. refl, λ e. refl)
none-from front (node ∷ nodes) =
    go (pending_at all (length front)) (ap lack_in (ap (λ (x : Node). x.operator) (get_or_at front node nodes nowhere (length front) refl)))
    (subst (λ (k : ℕ). NoneFrom all k (length nodes) nodes) (length_push front node)
    (subst (λ (xs : List Node). NoneFrom xs (length (front ++ node ∷ [])) (length nodes) nodes) (append_assoc front (node ∷ []) nodes) (none-from (front ++ node ∷ []) nodes)))
  where
    all : List Node
    all = front ++ node ∷ nodes

    total : pending_in (node ∷ nodes) ≡ length (lack_in node.operator) + pending_in nodes
    total = sum_by-cons (λ (n : ℕ). n) (length (lack_in node.operator)) (map (λ (x : Node). length (lack_in x.operator)) nodes)

    go : (us : List ℕ) → us ≡ lack_in node.operator → NoneFrom all (length front + 1) (length nodes) nodes
        → (first_of (length front) us (next_from all (length front + 1) (length nodes)) ≡ None → pending_in (node ∷ nodes) ≡ 0)
        × (pending_in (node ∷ nodes) ≡ 0 → first_of (length front) us (next_from all (length front + 1) (length nodes)) ≡ None)
    go [] w r = (λ e. omega (arith, total, ap length w, r.0 e), λ e. r.1 (omega (arith, total, e)))
    go (u ∷ us) w r = (λ e. cc, λ e. absurd (omega (arith, total, e, ap length w)))

pub none-is-pending : (nodes : List Node) → NoneIsPending nodes
none-is-pending nodes = none-from [] nodes

-- ---- what one probe leaves

-- behind the probe of its least ticket the others of a join are pending
pub pending-left : (plan : List Node) → ArePlanned [] plan → (history : List Entry) (join ticket : ℕ) (others : List ℕ) → pending_at (nodes_from plan history) join ≡ ticket ∷ others
    → pending_at (nodes_from plan (history ++ probes_at join (ticket ∷ []))) join ≡ others
pending-left plan planned history join ticket others e =
    ap (λ (nodes : List Node). pending_at nodes join) (nodes-append plan history (probes_at join (ticket ∷ [])))
    ∙ probed-here (nodes_from plan history) join ticket others (ticketed-from plan history (planned-ticketed [] plan planned)) e
