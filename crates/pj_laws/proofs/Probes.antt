-- All probes: they are allowed, give every tuple, and leave streams as they are.
use Rattle.std.proofs.Common.{ℕ, zero, suc, ◌+◌, ◌<◌, ◌≤◌, ◌≢◌, Bool, true, false, cond, not, List, [], ◌∷◌, ◌++◌, ◌≡◌, map, filter, length, get_or, refl, sym, ap, ap₂, ◌∙◌, subst, inl, inr, eqb, arith, append_assoc, append-nil, length-append}
use Rattle.std.proofs.lemmas.Bool.{or_cases, or_right, or_parts, eqb-true, eq-eqb, ne_eqb, cases_Bool, false≢true, false_from_ne_true, not-true}
use Rattle.std.proofs.lemmas.List.{get_or_at, length_push}
use Rattle.pj_value.specs.declared.values.Value.{Value}
use Rattle.pj_shape.specs.declared.columns.Column.{Column}
use Rattle.pj_events.specs.Join.{In, Element, Tuple, Punct, TupleAt, JoinData, JoinState, Step, Take, Give, TupleComes, AllGiven, has, new_tuple, step, HasCome, IsAllowed}
use Rattle.pj_events.specs.KeptState.{lacking}
use Rattle.pj_events.specs.Plan.{Operator, Stream, Select, Project, Union, Join, Group, Node, Local, Comes, Fed, Own, PlanStep, Act, after, after_all, own, brought_from, locals, handed_at, batches, moved, operator_at, nowhere, IsOwn, MayAct, IsStepAllowed}
use Rattle.pj_events.specs.declared.events.Entry.{Entry}
use Rattle.pj_events.specs.declared.events.Event.{Event}
use Rattle.pj_events.specs.declared.events.Event.TheVariants.{Take as Taken, Give as Given, Sweep as Swept, Drain}
use Rattle.pj_events.specs.History.{state_in, step_of, nodes_by, nodes_from}
use Rattle.pj_events.specs.OneThread.{probes_at, probes_from, probes}
use Rattle.pj_value.proofs.Members.{In-append_cases, In-filter, In-filter_from, In-map, In-map_from}
use Rattle.pj_value.proofs.Numbers.{has-in, in-has}
use Rattle.pj_join_laws.proofs.Bags.{AreDistinct}
use Rattle.pj_laws.proofs.Glue.{moved-append, length-batches, length-moved, after-append}
use Rattle.pj_laws.proofs.Nodes.{AreEmpty, empty-none, brought-none, quiet}
use Rattle.pj_laws.proofs.Histories.{nodes-append}

-- ---- joins between probes

-- tickets are told apart, and what is taken is given
pub record IsSteady (s : JoinState) : Type 0 where
  pub below : (x : TupleAt) → In x s.tuples → x.ticket < s.next
  pub distinct : AreDistinct (map (λ x. x.ticket) s.tuples)
  pub even : s.taken ≡ s.given

abbrev pub Steady : Operator → Type 0
Steady (Join spec s) = IsSteady s
Steady _ = Unit {0}

abbrev pub Rested : Operator → Type 0
Rested (Join spec s) = IsSteady s × AllGiven s
Rested _ = Unit {0}

abbrev pub AllOperators : (Operator → Type 0) → List Node → Type 0
AllOperators P [] = Unit {0}
AllOperators P (node ∷ nodes) = P node.operator × AllOperators P nodes

pub all-append : (P : Operator → Type 0) (xs ys : List Node) → AllOperators P xs → AllOperators P ys → AllOperators P (xs ++ ys)
all-append P [] ys a b = b
all-append P (x ∷ xs) ys a b = (a.0, all-append P xs ys a.1 b)

pub rested-steady : (m : Operator) → Rested m → Steady m
rested-steady (Stream schema sent) r = tt
rested-steady (Select test) r = tt
rested-steady (Project columns) r = tt
rested-steady (Union n u) r = tt
rested-steady (Join spec s) r = r.0
rested-steady (Group spec rows) r = tt

pub all-steady : (nodes : List Node) → AllOperators Rested nodes → AllOperators Steady nodes
all-steady [] a = tt
all-steady (node ∷ nodes) a = (rested-steady node.operator a.0, all-steady nodes a.1)

pub all-at : (P : Operator → Type 0) (nodes : List Node) (n : ℕ) → n < length nodes → AllOperators P nodes → P (operator_at nodes n)
all-at P [] n lt a = absurd (omega arith)
all-at P (node ∷ nodes) zero lt a = a.0
all-at P (node ∷ nodes) (suc n) lt a = all-at P nodes n (omega arith) a.1

pub all-from : (P : Operator → Type 0) (nodes : List Node) → ((n : ℕ) → n < length nodes → P (operator_at nodes n)) → AllOperators P nodes
all-from P [] f = tt
all-from P (node ∷ nodes) f = (f 0 (omega arith), all-from P nodes (λ n lt. f (suc n) (omega arith)))

-- ---- what comes from below

-- a number that is not there goes behind
distinct-push : (ns : List ℕ) (n : ℕ) → AreDistinct ns → has ns n ≡ false → AreDistinct (ns ++ n ∷ [])
distinct-push [] n d h = (refl, tt)
distinct-push (m ∷ ns) n d h =
    let both = or_parts (eqb m n) (has ns n) h in (
      false_from_ne_true (has (ns ++ n ∷ []) m) (λ t. elim (In-append_cases m ns (n ∷ []) (has-in (ns ++ n ∷ []) m t)) [
        | inl k ↦ false≢true (sym d.0 ∙ in-has ns m k)
        | inr k ↦ elim k [ inl e ↦ false≢true (sym both.0 ∙ eq-eqb m n (sym e)) | inr e ↦ e ]
      ]),
      distinct-push ns n d.1 both.1,
    )

tickets-push : (xs : List TupleAt) (x : TupleAt) → map (λ y. y.ticket) (xs ++ x ∷ []) ≡ map (λ y. y.ticket) xs ++ x.ticket ∷ []
tickets-push [] x = refl
tickets-push (y ∷ xs) x = ap (λ (ns : List ℕ). y.ticket ∷ ns) (tickets-push xs x)

pub steady-tuple : (spec : JoinData) (s : JoinState) (input : ℕ) (row : List Value) → IsSteady s → IsSteady (step spec s (TupleComes input row))
steady-tuple spec s input row i = record {
  below = λ x h. elim (In-append_cases x s.tuples (new_tuple s input row ∷ []) h) [
    | inl k ↦ omega (arith, i.below x k)
    | inr k ↦ elim k [ inl q ↦ omega (arith, ap (λ (z : TupleAt). z.ticket) q) | inr q ↦ absurd q ]
  ];
  distinct = subst AreDistinct (sym (tickets-push s.tuples (new_tuple s input row))) (distinct-push (map (λ x. x.ticket) s.tuples) s.next i.distinct new);
  even = i.even;
}
  where
    new : has (map (λ x. x.ticket) s.tuples) s.next ≡ false
    new = false_from_ne_true (has (map (λ x. x.ticket) s.tuples) s.next) (λ t.
        let r = In-map (λ (x : TupleAt). x.ticket) s.next s.tuples (has-in (map (λ x. x.ticket) s.tuples) s.next t) in
        omega (arith, i.below r.0 r.1, r.2))

steady-punct : (spec : JoinData) (s : JoinState) (st : Step) (input : ℕ) (e : Element) → IsSteady s → Steady (after (Join spec s) (Comes input e))
steady-punct spec s st input (Tuple row) i = steady-tuple spec s input row i
steady-punct spec s st input (Punct patterns) i = record { below = λ x h. omega (arith, i.below x h); distinct = i.distinct; even = i.even }

steady-comes : (m : Operator) (k : ℕ) (e : Element) → Steady m → Steady (after m (Comes k e))
steady-comes (Stream schema sent) k e i = tt
steady-comes (Select test) k e i = tt
steady-comes (Project columns) k e i = tt
steady-comes (Union n u) k e i = tt
steady-comes (Join spec s) k e i = steady-punct spec s (Take 0) k e i
steady-comes (Group spec rows) k e i = tt

steady-come : (m : Operator) (k : ℕ) (es : List Element) → Steady m → Steady (after_all m (map (Comes k) es))
steady-come m k [] i = i
steady-come m k (e ∷ es) i = steady-come (after m (Comes k e)) k es (steady-comes m k e i)

pub steady-brought : (m : Operator) (k : ℕ) (ms : List ℕ) (done : List (List Element)) → Steady m → Steady (after_all m (brought_from k ms done))
steady-brought m k [] done i = i
steady-brought m k (j ∷ ms) done i =
    subst Steady (sym (after-append m (map (Comes k) (get_or done j [])) (brought_from (k + 1) ms done)))
    (steady-brought (after_all m (map (Comes k) (get_or done j []))) (k + 1) ms done (steady-come m k (get_or done j []) i))

-- nodes at which a step does nothing of its own stay steady
pub steady-moved : (e : PlanStep) (done : List (List Element)) (nodes : List Node) → AllOperators Steady nodes → ((n : ℕ) → length done ≤ n → own e n ≡ []) → AllOperators Steady (moved e done nodes)
steady-moved e done [] a none = tt
steady-moved e done (node ∷ nodes) a none = (
  subst (λ (ls : List Local). Steady (after_all node.operator (ls ++ brought_from 0 node.inputs done))) (sym (none (length done) (omega arith))) (steady-brought node.operator 0 node.inputs done a.0),
  steady-moved e (done ++ handed_at e done node ∷ []) nodes a.1 (λ n le. none n (omega (arith, le, length_push done (handed_at e done node)))),
)

-- ---- streams

stream-come : (schema : List Column) (sent : List Element) (k : ℕ) (es : List Element) → after_all (Stream schema sent) (map (Comes k) es) ≡ Stream schema sent
stream-come schema sent k [] = refl
stream-come schema sent k (e ∷ es) = stream-come schema sent k es

stream-brought : (schema : List Column) (sent : List Element) (k : ℕ) (ms : List ℕ) (done : List (List Element)) → after_all (Stream schema sent) (brought_from k ms done) ≡ Stream schema sent
stream-brought schema sent k [] done = refl
stream-brought schema sent k (m ∷ ms) done =
    after-append (Stream schema sent) (map (Comes k) (get_or done m [])) (brought_from (k + 1) ms done)
    ∙ ap (λ (o : Operator). after_all o (brought_from (k + 1) ms done)) (stream-come schema sent k (get_or done m []))
    ∙ stream-brought schema sent (k + 1) ms done

-- a stream after a step has what it had, and what the step feeds to it
pub stream-moved : (e : PlanStep) (done : List (List Element)) (nodes : List Node) (n : ℕ) (schema : List Column) (sent : List Element) → n < length nodes → operator_at nodes n ≡ Stream schema sent
    → operator_at (moved e done nodes) n ≡ after_all (Stream schema sent) (own e (length done + n))
stream-moved e done [] n schema sent lt q = absurd (omega arith)
stream-moved e done (node ∷ nodes) zero schema sent lt q =
    let z : length done ≡ length done + 0 = omega arith in
    ap (λ (o : Operator). after_all o (own e (length done) ++ brought_from 0 node.inputs done)) q
    ∙ after-append (Stream schema sent) (own e (length done)) (brought_from 0 node.inputs done)
    ∙ fed (own e (length done)) sent
    ∙ ap (λ (k : ℕ). after_all (Stream schema sent) (own e k)) z
  where
    fed : (ls : List Local) (xs : List Element) → after_all (after_all (Stream schema xs) ls) (brought_from 0 node.inputs done) ≡ after_all (Stream schema xs) ls
    fed [] xs = stream-brought schema xs 0 node.inputs done
    fed (Comes k x ∷ ls) xs = fed ls xs
    fed (Fed x ∷ ls) xs = fed ls (xs ++ x ∷ [])
    fed (Own s ∷ ls) xs = fed ls xs
stream-moved e done (node ∷ nodes) (suc n) schema sent lt q =
    let z : length (done ++ handed_at e done node ∷ []) + n ≡ length done + suc n = omega (arith, length_push done (handed_at e done node)) in
    stream-moved e (done ++ handed_at e done node ∷ []) nodes n schema sent (omega arith) q ∙ ap (λ (k : ℕ). after_all (Stream schema sent) (own e k)) z

-- ---- one act of a join

pub own-other : (j : ℕ) (s : Step) (n : ℕ) → j ≢ n → own (Act j s) n ≡ []
own-other j s n ne = ap (λ (b : Bool). cond b (Own s ∷ []) []) (ne_eqb j n ne)

-- the node moves, the nodes before it stay, and those behind it only receive
act-once : (front : List Node) (node : Node) (back : List Node) (s : Step) → AllOperators Steady back
    → (back' : List Node) × (moved (Act (length front) s) [] (front ++ node ∷ back) ≡ front ++ record { inputs = node.inputs; operator = after node.operator (Own s) } ∷ back') × AllOperators Steady back'
act-once front node back s a = (
  moved e (D ++ handed_at e D node ∷ []) back,
  moved-append e [] front (node ∷ back)
      ∙ ap₂ (λ (xs : List Node) (ls : List Local). xs ++ record { inputs = node.inputs; operator = after_all node.operator ls } ∷ moved e (D ++ handed_at e D node ∷ []) back) q.0 mine,
  steady-moved e (D ++ handed_at e D node ∷ []) back a (λ n le. own-other (length front) s n (λ z. omega (arith, le, long, z, length_push D (handed_at e D node)))),
)
  where
    e : PlanStep
    e = Act (length front) s

    D : List (List Element)
    D = batches e [] front

    long : length D ≡ length front
    long = let l = length-batches e [] front in omega arith

    q : (moved e [] front ≡ front) × AreEmpty D
    q = quiet e [] front empty-none (λ n le lt. own-other (length front) s n (λ z. omega (arith, lt, z)))

    mine : locals e D node ≡ Own s ∷ []
    mine = ap₂ (λ (xs ys : List Local). xs ++ ys) (ap (λ (b : Bool). cond b (Own s ∷ []) []) (eq-eqb (length front) (length D) (sym long))) (brought-none 0 node.inputs D q.1)

-- ---- the probes of a join

abbrev pushed : List ℕ → List ℕ → List ℕ
pushed [] ns = ns
pushed (u ∷ us) ns = pushed us (u ∷ ns)

abbrev probed : JoinState → List ℕ → JoinState
probed s us = record s { taken = pushed us s.taken; given = pushed us s.given }

abbrev noded : Node → Operator → Node
noded node m = record { inputs = node.inputs; operator = m }

acts-at : (front : List Node) (node : Node) (back : List Node) (spec : JoinData) (s : JoinState) (us : List ℕ) → AllOperators Steady back
    → (back' : List Node) × (nodes_from (front ++ noded node (Join spec s) ∷ back) (probes_at (length front) us) ≡ front ++ noded node (Join spec (probed s us)) ∷ back') × AllOperators Steady back'
acts-at front node back spec s [] a = (back, refl, a)
acts-at front node back spec s (u ∷ us) a =
    let one = act-once front (noded node (Join spec s)) back (Take u) a in
    let two = act-once front (noded node (Join spec (step spec s (Take u)))) one.0 (Give u) one.2 in
    let rest = acts-at front node two.0 spec (step spec (step spec s (Take u)) (Give u)) us two.2 in (
      rest.0,
      ap (λ (nodes : List Node). nodes_from nodes (probes_at (length front) us)) (ap (λ (nodes : List Node). moved (Act (length front) (Give u)) [] nodes) one.1 ∙ two.1) ∙ rest.1,
      rest.2,
    )

-- ---- what is allowed

-- a probe, a sweep or a drain
abbrev pub IsQuietEvent : Event → Type 0
IsQuietEvent (Taken join ticket) = Unit {0}
IsQuietEvent (Given join ticket) = Unit {0}
IsQuietEvent (Swept join input) = Unit {0}
IsQuietEvent Drain = Unit {0}
IsQuietEvent _ = ⊥

abbrev pub AreActsLegal : List Node → List Entry → Type 0
AreActsLegal nodes [] = Unit {0}
AreActsLegal nodes (entry ∷ es) = IsQuietEvent entry.event × (entry.closing ≡ 0) × IsStepAllowed nodes (step_of nodes entry.event) × AreActsLegal (nodes_by nodes entry.event) es

pub acts-append : (nodes : List Node) (xs ys : List Entry) → AreActsLegal nodes xs → AreActsLegal (nodes_from nodes xs) ys → AreActsLegal nodes (xs ++ ys)
acts-append nodes [] ys a b = b
acts-append nodes (x ∷ xs) ys a b = (a.0, a.1, a.2, acts-append (nodes_by nodes x.event) xs ys a.3 b)

middle : (front : List Node) (node : Node) (back : List Node) → operator_at (front ++ node ∷ back) (length front) ≡ node.operator
middle front node back = ap (λ (n : Node). n.operator) (get_or_at front node back nowhere (length front) refl)

middle-there : (front : List Node) (node : Node) (back : List Node) → length front < length (front ++ node ∷ back)
middle-there [] node back = omega arith
middle-there (x ∷ front) node back = let r = middle-there front node back in omega arith

act-allowed : (front : List Node) (node : Node) (back : List Node) (spec : JoinData) (s : JoinState) (st : Step) → IsOwn st → IsAllowed spec s st
    → IsStepAllowed (front ++ noded node (Join spec s) ∷ back) (Act (length front) st)
act-allowed front node back spec s st o a =
    (middle-there front (noded node (Join spec s)) back, subst (λ (m : Operator). MayAct m st) (sym (middle front (noded node (Join spec s)) back)) (o, a))

acts-legal : (front : List Node) (node : Node) (back : List Node) (spec : JoinData) (s : JoinState) (us : List ℕ) → AllOperators Steady back → s.taken ≡ s.given
    → AreDistinct us → ((u : ℕ) → In u us → HasCome s u × (has s.taken u ≡ false)) → AreActsLegal (front ++ noded node (Join spec s) ∷ back) (probes_at (length front) us)
acts-legal front node back spec s [] a even d f = tt
acts-legal front node back spec s (u ∷ us) a even d f =
    let one = act-once front (noded node (Join spec s)) back (Take u) a in
    let two = act-once front (noded node (Join spec (step spec s (Take u)))) one.0 (Give u) one.2 in (
      tt,
      refl,
      act-allowed front node back spec s (Take u) tt (f u (inl refl)),
      (
        tt,
        refl,
        subst (λ (nodes : List Node). IsStepAllowed nodes (Act (length front) (Give u))) (sym one.1) (act-allowed front node one.0 spec (step spec s (Take u)) (Give u) tt (taken-now, given-not)),
        subst (λ (nodes : List Node). AreActsLegal nodes (probes_at (length front) us)) (sym (ap (λ (nodes : List Node). moved (Act (length front) (Give u)) [] nodes) one.1 ∙ two.1))
            (acts-legal front node two.0 spec (step spec (step spec s (Take u)) (Give u)) us two.2 (ap (λ (ns : List ℕ). u ∷ ns) even) d.1 later),
      ),
    )
  where
    taken-now : has (u ∷ s.taken) u ≡ true
    taken-now = in-has (u ∷ s.taken) u (inl refl)

    given-not : has s.given u ≡ false
    given-not = subst (λ (ns : List ℕ). has ns u ≡ false) even (f u (inl refl)).1

    later : (v : ℕ) → In v us → HasCome s v × (has (u ∷ s.taken) v ≡ false)
    later v h = (
      (f v (inr h)).0,
      false_from_ne_true (has (u ∷ s.taken) v) (λ t. elim (or_cases (eqb u v) (has s.taken v) t) [
        | inl e ↦ false≢true (sym d.0 ∙ in-has us u (subst (λ (w : ℕ). In w us) (sym (eqb-true u v e)) h))
        | inr k ↦ false≢true (sym (f v (inr h)).1 ∙ k)
      ]),
    )

-- ---- the tickets that are not taken

lacking-at : (ns : List ℕ) (xs : List TupleAt) (u : ℕ) → In u (lacking ns xs) → ((x : TupleAt) × In x xs × (x.ticket ≡ u)) × (has ns u ≡ false)
lacking-at ns xs u h =
    let r = In-map (λ (x : TupleAt). x.ticket) u (filter (λ x. not (has ns x.ticket)) xs) h in
    let q = In-filter (λ (x : TupleAt). not (has ns x.ticket)) r.0 xs r.1 in
    ((r.0, q.0, r.2), subst (λ (n : ℕ). has ns n ≡ false) r.2 (not-true (has ns r.0.ticket) q.1))

pub lacking-distinct : (ns : List ℕ) (xs : List TupleAt) → AreDistinct (map (λ x. x.ticket) xs) → AreDistinct (lacking ns xs)
lacking-distinct ns [] d = tt
lacking-distinct ns (x ∷ xs) d = go (has ns x.ticket) (lacking-distinct ns xs d.1)
  where
    fewer : has (lacking ns xs) x.ticket ≡ false
    fewer = false_from_ne_true (has (lacking ns xs) x.ticket) (λ t.
        let r = (lacking-at ns xs x.ticket (has-in (lacking ns xs) x.ticket t)).0 in
        false≢true (sym d.0 ∙ in-has (map (λ y. y.ticket) xs) x.ticket (subst (λ (n : ℕ). In n (map (λ y. y.ticket) xs)) r.2 (In-map_from (λ (y : TupleAt). y.ticket) r.0 xs r.1))))

    go : (b : Bool) → AreDistinct (lacking ns xs) → AreDistinct (map (λ y. y.ticket) (cond (not b) (x ∷ filter (λ y. not (has ns y.ticket)) xs) (filter (λ y. not (has ns y.ticket)) xs)))
    go true i = i
    go false i = (fewer, i)

pushed-old : (us ns : List ℕ) (n : ℕ) → has ns n ≡ true → has (pushed us ns) n ≡ true
pushed-old [] ns n t = t
pushed-old (u ∷ us) ns n t = pushed-old us (u ∷ ns) n (or_right (eqb u n) (has ns n) t)

pushed-new : (us ns : List ℕ) (n : ℕ) → In n us → has (pushed us ns) n ≡ true
pushed-new [] ns n h = absurd h
pushed-new (u ∷ us) ns n (inl e) = pushed-old us (u ∷ ns) n (in-has (u ∷ ns) n (inl e))
pushed-new (u ∷ us) ns n (inr h) = pushed-new us (u ∷ ns) n h

-- once all that lack are taken and given, the join rests
probed-rested : (s : JoinState) → IsSteady s → IsSteady (probed s (lacking s.taken s.tuples)) × AllGiven (probed s (lacking s.taken s.tuples))
probed-rested s i = (
  record { below = i.below; distinct = i.distinct; even = ap (pushed us) i.even },
  λ x h. elim (cases_Bool (has s.taken x.ticket)) [
    | inl t ↦ pushed-old us s.given x.ticket (subst (λ (ns : List ℕ). has ns x.ticket ≡ true) i.even t)
    | inr f ↦ pushed-new us s.given x.ticket (In-map_from (λ (y : TupleAt). y.ticket) x (filter (λ y. not (has s.taken y.ticket)) s.tuples) (In-filter_from (λ (y : TupleAt). not (has s.taken y.ticket)) x s.tuples h (ap not f)))
  ],
)
  where
    us : List ℕ
    us = lacking s.taken s.tuples

-- ---- all probes

-- the probes of one node: they are allowed, it rests behind them, and the nodes behind it stay steady
here-all : (front : List Node) (node : Node) (back : List Node) (m : Operator) → Steady m → AllOperators Steady back
    → (m' : Operator) × (back' : List Node)
    × (nodes_from (front ++ noded node m ∷ back) (probes_at (length front) (lacking (state_in m).taken (state_in m).tuples)) ≡ front ++ noded node m' ∷ back')
    × Rested m' × AllOperators Steady back'
    × AreActsLegal (front ++ noded node m ∷ back) (probes_at (length front) (lacking (state_in m).taken (state_in m).tuples))
here-all front node back (Stream schema sent) i a = (Stream schema sent, back, refl, tt, a, tt)
here-all front node back (Select test) i a = (Select test, back, refl, tt, a, tt)
here-all front node back (Project columns) i a = (Project columns, back, refl, tt, a, tt)
here-all front node back (Union n u) i a = (Union n u, back, refl, tt, a, tt)
here-all front node back (Group spec rows) i a = (Group spec rows, back, refl, tt, a, tt)
here-all front node back (Join spec s) i a =
    let us = lacking s.taken s.tuples in
    let r = acts-at front node back spec s us a in
    (Join spec (probed s us), r.0, r.1, probed-rested s i, r.2, acts-legal front node back spec s us a i.even (lacking-distinct s.taken s.tuples i.distinct) (λ u h. lacking-at s.taken s.tuples u h))

pub length-from : (nodes : List Node) (es : List Entry) → length (nodes_from nodes es) ≡ length nodes
length-from nodes [] = refl
length-from nodes (e ∷ es) = length-from (nodes_by nodes e.event) es ∙ length-moved (step_of nodes e.event) [] nodes

-- what holds of nodes and of the probes from a node on
abbrev AreProbed : ℕ → ℕ → List Node → Type 0
AreProbed n k nodes = AllOperators Rested (nodes_from nodes (probes_from nodes k n)) × AreActsLegal nodes (probes_from nodes k n)

probes-rest : (n : ℕ) (front back : List Node) → length back ≡ n → AllOperators Rested front → AllOperators Steady back → AreProbed n (length front) (front ++ back)
probes-rest zero front [] l f b = (subst (AllOperators Rested) (sym (append-nil front)) f, tt)
probes-rest zero front (node ∷ back) l f b = absurd (omega arith)
probes-rest (suc n) front [] l f b = absurd (omega arith)
probes-rest (suc n) front (node ∷ back) l f b =
    go (operator_at all (length front)) (middle front node back)
    (subst (λ (k : ℕ). AreProbed n k (front ++ moved' ∷ h.1)) (length_push front moved')
    (subst (AreProbed n (length (front ++ moved' ∷ []))) (append_assoc front (moved' ∷ []) h.1)
    (probes-rest n (front ++ moved' ∷ []) h.1 long (all-append Rested front (moved' ∷ []) f (h.3, tt)) h.4)))
  where
    all : List Node
    all = front ++ node ∷ back

    us-of : Operator → List ℕ
    us-of m = lacking (state_in m).taken (state_in m).tuples

    here-of : Operator → List Entry
    here-of m = probes_at (length front) (us-of m)

    h : (m' : Operator) × (back' : List Node)
        × (nodes_from (front ++ noded node node.operator ∷ back) (probes_at (length front) (lacking (state_in node.operator).taken (state_in node.operator).tuples)) ≡ front ++ noded node m' ∷ back')
        × Rested m' × AllOperators Steady back'
        × AreActsLegal (front ++ noded node node.operator ∷ back) (probes_at (length front) (lacking (state_in node.operator).taken (state_in node.operator).tuples))
    h = here-all front node back node.operator b.0 b.1

    moved' : Node
    moved' = noded node h.0

    long : length h.1 ≡ n
    long = omega (arith, l, length-from all (here-of node.operator), ap length h.2, length-append front (moved' ∷ h.1), length-append front (node ∷ back))

    Goal : List Entry → Type 0
    Goal es = AllOperators Rested (nodes_from all es) × AreActsLegal all es

    go : (m : Operator) → m ≡ node.operator → AreProbed n (length front + 1) (front ++ moved' ∷ h.1) → Goal (here-of m ++ probes_from (nodes_from all (here-of m)) (length front + 1) n)
    go m e r =
        subst (λ (o : Operator). Goal (here-of o ++ probes_from (nodes_from all (here-of o)) (length front + 1) n)) (sym e)
        (let q = subst (AreProbed n (length front + 1)) (sym h.2) r in (
          subst (AllOperators Rested) (sym (nodes-append all (here-of node.operator) (probes_from (nodes_from all (here-of node.operator)) (length front + 1) n))) q.0,
          acts-append all (here-of node.operator) (probes_from (nodes_from all (here-of node.operator)) (length front + 1) n) h.5 q.1,
        ))

-- behind all probes of steady nodes all rest, and the probes are allowed
pub probes-all : (nodes : List Node) → AllOperators Steady nodes → AllOperators Rested (nodes_from nodes (probes nodes)) × AreActsLegal nodes (probes nodes)
probes-all nodes a = probes-rest (length nodes) [] nodes refl tt a
