-- All probes and sweeps of a core settle a history, in whatever order it took and gave before.
use Rattle.std.proofs.Common.{ℕ, zero, suc, ◌+◌, ◌<◌, true, false, List, [], ◌∷◌, ◌++◌, ◌≡◌, ◌≢◌, Option, Some, None, map, length, get_or, refl, sym, ap, ◌∙◌, subst, inl, inr, eqb, arith, append_assoc, append-nil}
use Rattle.std.proofs.lemmas.Bool.{cases_eq, or_cases, or_left, or_right}
use Rattle.std.proofs.lemmas.List.{length_push}
use Rattle.pj_events.specs.Join.{Element, Tuple, Punct, JoinState, IsSettled, Step, Take, Give, Sweep, has}
use Rattle.pj_events.specs.KeptState.{lacking}
use Rattle.pj_events.specs.Plan.{Operator, Stream, Select, Project, Union, Join, Group, Node, Local, Comes, Own, PlanStep, Act, after, after_all, own, brought_from, handed_at, moved, operator_at, ArePlanned}
use Rattle.pj_events.specs.declared.events.Entry.{Entry}
use Rattle.pj_events.specs.declared.events.Event.TheVariants.{Drain, Sweep as Swept}
use Rattle.pj_events.specs.declared.events.Stop.{Stop}
use Rattle.pj_events.specs.History.{IsComplete, IsLegal, IsOn, Reached, begun, join_at, next, nodes_from, reached_of, state_in, streams_of}
use Rattle.pj_events.specs.OneThread.{Place, pending_at, places_from, plain, probes, probes_at, probes_from, sweeps_at}
use Rattle.pj_laws.specs.HistoryLaws.{AllAreCertified, AllAreGiven}
use Rattle.pj_laws.specs.SettlingHistories.{AreProbing, EachTakeIsGiven, IsSettling, ProbesAll, SweepsEach}
use Rattle.pj_join_laws.proofs.Tickets.{lacking-none}
use Rattle.pj_laws.proofs.Glue.{after-append, length-moved}
use Rattle.pj_laws.proofs.HistoryAnswers.{fronts-are-legal}
use Rattle.pj_laws.proofs.Histories.{nodes-append, reached-append}
use Rattle.pj_laws.proofs.NextProbe.{act-before, act-here, pending-left}
use Rattle.pj_laws.proofs.Probes.{length-from, own-other}
use Rattle.pj_laws.proofs.Nodes.{drain-still}
use Rattle.pj_laws.proofs.SettlingHistories.{settling-is-complete}
use Rattle.pj_laws.proofs.SweptRun.{places-same}
use Rattle.pj_plan.specs.Sound.{IsSoundPlan}
use Rattle.pj_core.specs.Cores.{CoreState, StandsFor, nodes_in}
use Rattle.pj_core.specs.Plans.{RunPlan, nodes_of}
use Rattle.pj_core.specs.Calls.{StaysStopped}
use Rattle.pj_core_laws.specs.Settling.{SettledIsComplete, WorkSettles}
use Rattle.pj_core.specs.Turns.{StopsMaking, finishing, working}
use Rattle.pj_core.proofs.Planned.{planned}
use Rattle.pj_core.proofs.Stops.{stop-same}

-- ---- each take has its give

-- every ticket that is taken is given
abbrev IsEven : Operator → Type 0
IsEven m = (u : ℕ) → has (state_in m).taken u ≡ true → has (state_in m).given u ≡ true

abbrev AreEven : List Node → Type 0
AreEven nodes = (n : ℕ) → n < length nodes → IsEven (operator_at nodes n)

-- what comes to an operator takes and gives nothing
even-comes : (m : Operator) (k : ℕ) (e : Element) → IsEven m → IsEven (after m (Comes k e))
even-comes (Stream schema sent) k e i = i
even-comes (Select test) k e i = i
even-comes (Project columns) k e i = i
even-comes (Union n w) k e i = i
even-comes (Join spec s) k (Tuple row) i = i
even-comes (Join spec s) k (Punct patterns) i = i
even-comes (Group spec rows) k e i = i

even-come : (m : Operator) (k : ℕ) (es : List Element) → IsEven m → IsEven (after_all m (map (Comes k) es))
even-come m k [] i = i
even-come m k (e ∷ es) i = even-come (after m (Comes k e)) k es (even-comes m k e i)

even-brought : (m : Operator) (k : ℕ) (ms : List ℕ) (done : List (List Element)) → IsEven m → IsEven (after_all m (brought_from k ms done))
even-brought m k [] done i = i
even-brought m k (j ∷ ms) done i =
    subst IsEven (sym (after-append m (map (Comes k) (get_or done j [])) (brought_from (k + 1) ms done)))
    (even-brought (after_all m (map (Comes k) (get_or done j []))) (k + 1) ms done (even-come m k (get_or done j []) i))

-- nor does a step elsewhere
even-moved : (e : PlanStep) (done : List (List Element)) (nodes : List Node) (n : ℕ) → n < length nodes → own e (length done + n) ≡ [] → IsEven (operator_at nodes n) → IsEven (operator_at (moved e done nodes) n)
even-moved e done [] n lt none i = absurd (omega (arith, lt))
even-moved e done (node ∷ nodes) zero lt none i =
    let z : length done ≡ length done + 0 = omega arith in
    subst (λ (ls : List Local). IsEven (after_all node.operator (ls ++ brought_from 0 node.inputs done))) (sym (ap (own e) z ∙ none))
    (even-brought node.operator 0 node.inputs done i)
even-moved e done (node ∷ nodes) (suc n) lt none i =
    let z : length (done ++ handed_at e done node ∷ []) + n ≡ length done + suc n = omega (arith, length_push done (handed_at e done node)) in
    even-moved e (done ++ handed_at e done node ∷ []) nodes n (omega (arith, lt)) (ap (own e) z ∙ none) i

even-elsewhere : (nodes : List Node) (j n : ℕ) (s : Step) → n < length nodes → j ≢ n → IsEven (operator_at nodes n) → IsEven (operator_at (moved (Act j s) [] nodes) n)
even-elsewhere nodes j n s lt ne i = even-moved (Act j s) [] nodes n lt (own-other j s (0 + n) (λ z. omega (arith, z, ne))) i

-- a ticket that is taken and given
even-probed : (m : Operator) (u : ℕ) → IsEven m → IsEven (after (after m (Own (Take u))) (Own (Give u)))
even-probed (Stream schema sent) u i = i
even-probed (Select test) u i = i
even-probed (Project columns) u i = i
even-probed (Union n w) u i = i
even-probed (Join spec s) u i = λ v h. elim (or_cases (eqb u v) (has s.taken v) h) [ inl e ↦ or_left (eqb u v) (has s.given v) e | inr k ↦ or_right (eqb u v) (has s.given v) (i v k) ]
even-probed (Group spec rows) u i = i

even-swept : (m : Operator) (k : ℕ) → IsEven m → IsEven (after m (Own (Sweep k)))
even-swept (Stream schema sent) k i = i
even-swept (Select test) k i = i
even-swept (Project columns) k i = i
even-swept (Union n w) k i = i
even-swept (Join spec s) k i = i
even-swept (Group spec rows) k i = i

even-probe : (nodes : List Node) (j u : ℕ) → AreEven nodes → AreEven (nodes_from nodes (probes_at j (u ∷ [])))
even-probe nodes j u a n lt = elim (cases_eq j n) [
  | inl q ↦ subst (λ (k : ℕ). IsEven (operator_at (nodes_from nodes (probes_at k (u ∷ []))) n)) (sym q)
      (subst IsEven (sym (act-here mid-n n (Give u) (there-mid n) ∙ ap (λ (m : Operator). after m (Own (Give u))) (act-here nodes n (Take u) there))) (even-probed (operator_at nodes n) u (a n there)))
  | inr ne ↦ even-elsewhere mid j n (Give u) (there-mid j) ne (even-elsewhere nodes j n (Take u) there ne (a n there))
]
  where
    mid : List Node
    mid = moved (Act j (Take u)) [] nodes

    mid-n : List Node
    mid-n = moved (Act n (Take u)) [] nodes

    there : n < length nodes
    there = omega (arith, lt, length-from nodes (probes_at j (u ∷ [])))

    there-mid : (k : ℕ) → n < length (moved (Act k (Take u)) [] nodes)
    there-mid k = omega (arith, there, length-moved (Act k (Take u)) [] nodes)

even-probes : (nodes : List Node) (j : ℕ) (us : List ℕ) → AreEven nodes → AreEven (nodes_from nodes (probes_at j us))
even-probes nodes j [] a = a
even-probes nodes j (u ∷ us) a = even-probes (nodes_from nodes (probes_at j (u ∷ []))) j us (even-probe nodes j u a)

even-from : (nodes : List Node) (j n : ℕ) → AreEven nodes → AreEven (nodes_from nodes (probes_from nodes j n))
even-from nodes j zero a = a
even-from nodes j (suc n) a =
    let here = probes_at j (pending_at nodes j) in
    subst AreEven (sym (nodes-append nodes here (probes_from (nodes_from nodes here) (j + 1) n)))
    (even-from (nodes_from nodes here) (j + 1) n (even-probes nodes j (pending_at nodes j) a))

even-sweep : (nodes : List Node) (j k : ℕ) → AreEven nodes → AreEven (nodes_from nodes (plain (Swept j k) ∷ []))
even-sweep nodes j k a n lt = elim (cases_eq j n) [
  | inl q ↦ subst (λ (i : ℕ). IsEven (operator_at (moved (Act i (Sweep k)) [] nodes) n)) (sym q)
      (subst IsEven (sym (act-here nodes n (Sweep k) there)) (even-swept (operator_at nodes n) k (a n there)))
  | inr ne ↦ even-elsewhere nodes j n (Sweep k) there ne (a n there)
]
  where
    there : n < length nodes
    there = omega (arith, lt, length-moved (Act j (Sweep k)) [] nodes)

-- ---- behind all probes nothing is pending

-- nothing is pending at so many nodes
abbrev NonePending : List Node → ℕ → Type 0
NonePending nodes k = (n : ℕ) → n < k → pending_at nodes n ≡ []

lacks-before : (nodes : List Node) (j n : ℕ) (us : List ℕ) → n < j → n < length nodes → pending_at (nodes_from nodes (probes_at j us)) n ≡ pending_at nodes n
lacks-before nodes j n [] lt l = refl
lacks-before nodes j n (u ∷ us) lt l =
    let one = length-moved (Act j (Take u)) [] nodes in
    let mid : List Node = moved (Act j (Take u)) [] nodes in
    let two = length-moved (Act j (Give u)) [] mid in
    lacks-before (moved (Act j (Give u)) [] mid) j n us lt (omega (arith, l, one, two))
    ∙ ap (λ (m : Operator). lacking (state_in m).taken (state_in m).tuples)
    (act-before mid j n (Give u) lt (omega (arith, l, one)) ∙ act-before nodes j n (Take u) lt l)

probes-probing : (j : ℕ) (us : List ℕ) → AreProbing (probes_at j us)
probes-probing j [] = tt
probes-probing j (u ∷ us) = (tt, (tt, probes-probing j us))

probing-append : (xs ys : List Entry) → AreProbing xs → AreProbing ys → AreProbing (xs ++ ys)
probing-append [] ys p q = q
probing-append (x ∷ xs) ys p q = (p.0, probing-append xs ys p.1 q)

probing-from : (nodes : List Node) (j n : ℕ) → AreProbing (probes_from nodes j n)
probing-from nodes j zero = tt
probing-from nodes j (suc n) =
    let here = probes_at j (pending_at nodes j) in
    probing-append here (probes_from (nodes_from nodes here) (j + 1) n) (probes-probing j (pending_at nodes j)) (probing-from (nodes_from nodes here) (j + 1) n)

module _ (plan : List Node) (made : ArePlanned [] plan) where
  lacks-none : (us : List ℕ) (h : List Entry) (j : ℕ) → pending_at (nodes_from plan h) j ≡ us → pending_at (nodes_from plan (h ++ probes_at j us)) j ≡ []
  lacks-none [] h j e = ap (λ (g : List Entry). pending_at (nodes_from plan g) j) (append-nil h) ∙ e
  lacks-none (u ∷ us) h j e =
      ap (λ (g : List Entry). pending_at (nodes_from plan g) j) (sym (append_assoc h (probes_at j (u ∷ [])) (probes_at j us)))
      ∙ lacks-none us (h ++ probes_at j (u ∷ [])) j (pending-left plan made h j u us e)

  lacks-from : (n k : ℕ) (h : List Entry) → k + n ≡ length plan → NonePending (nodes_from plan h) k → NonePending (nodes_from plan (h ++ probes_from (nodes_from plan h) k n)) (length plan)
  lacks-from zero k h e none i lt = ap (λ (g : List Entry). pending_at (nodes_from plan g) i) (append-nil h) ∙ none i (omega (arith, e, lt))
  lacks-from (suc n) k h e none i lt =
      ap (λ (g : List Entry). pending_at (nodes_from plan g) i) (ap (λ (es : List Entry). h ++ (here ++ es)) (ap (λ (ns : List Node). probes_from ns (k + 1) n) (sym cut)) ∙ sym (append_assoc h here (probes_from (nodes_from plan (h ++ here)) (k + 1) n)))
      ∙ lacks-from n (k + 1) (h ++ here) (omega (arith, e)) more i lt
    where
      N : List Node
      N = nodes_from plan h

      here : List Entry
      here = probes_at k (pending_at N k)

      cut : nodes_from plan (h ++ here) ≡ nodes_from N here
      cut = nodes-append plan h here

      more : NonePending (nodes_from plan (h ++ here)) (k + 1)
      more j l = elim (cases_eq j k) [
        | inl q ↦ subst (λ (m : ℕ). pending_at (nodes_from plan (h ++ here)) m ≡ []) (sym q) (lacks-none (pending_at N k) h k refl)
        | inr ne ↦ let less : j < k = omega (arith, ne, l) in ap (λ (ns : List Node). pending_at ns j) cut ∙ lacks-before N k j (pending_at N k) less (let z = length-from plan h in omega (arith, less, e, z)) ∙ none j less
      ]

  -- ---- all probes, and all sweeps

  even-of : (h : List Entry) → EachTakeIsGiven plan h → AreEven (nodes_from plan h)
  even-of h even n lt = even n (omega (arith, lt, length-from plan h))

  probed : (h : List Entry) → AreEven (nodes_from plan h) → ProbesAll plan h (probes (nodes_from plan h)) × AreEven (nodes_from plan (h ++ probes (nodes_from plan h)))
  probed h even = (record { probing = probing-from N 0 (length N); given = given }, even')
    where
      N : List Node
      N = nodes_from plan h

      even' : AreEven (nodes_from plan (h ++ probes N))
      even' = subst AreEven (sym (nodes-append plan h (probes N))) (even-from N 0 (length N) even)

      none : NonePending (nodes_from plan (h ++ probes N)) (length plan)
      none = subst (λ (n : ℕ). NonePending (nodes_from plan (h ++ probes_from N 0 n)) (length plan)) (sym (length-from plan h)) (lacks-from (length plan) 0 h (omega arith) (λ i lt. absurd (omega (arith, lt))))

      given : AllAreGiven plan (h ++ probes N)
      given n lt x i =
          let s : JoinState = join_at (nodes_from plan (h ++ probes N)) n in
          even' n (omega (arith, lt, length-from plan (h ++ probes N))) x.ticket (lacking-none s.taken s.tuples x.ticket (x, i, refl) (ap (λ (ts : List ℕ). has ts x.ticket) (none n lt)))

  swept-each : (places : List Place) (h : List Entry) → AreEven (nodes_from plan h) → SweepsEach plan h places (sweeps_at (nodes_from plan h) places)
  swept-each [] h even = refl
  swept-each (place ∷ places) h even = (
    sweep,
    probes M,
    sweeps_at (nodes_from N (here ++ probes M)) places,
    refl,
    refl,
    subst (λ (ns : List Node). ProbesAll plan (h ++ here) (probes ns)) cut one.0,
    subst (λ (ns : List Node). SweepsEach plan ((h ++ here) ++ probes M) places (sweeps_at ns places)) last
        (swept-each places ((h ++ here) ++ probes M) (subst (λ (ns : List Node). AreEven (nodes_from plan ((h ++ here) ++ probes ns))) cut one.1)),
  )
    where
      sweep : Entry
      sweep = plain (Swept place.join place.input)

      here : List Entry
      here = sweep ∷ []

      N : List Node
      N = nodes_from plan h

      M : List Node
      M = nodes_from N here

      cut : nodes_from plan (h ++ here) ≡ M
      cut = nodes-append plan h here

      one : ProbesAll plan (h ++ here) (probes (nodes_from plan (h ++ here))) × AreEven (nodes_from plan ((h ++ here) ++ probes (nodes_from plan (h ++ here))))
      one = probed (h ++ here) (subst AreEven (sym cut) (even-sweep N place.join place.input even))

      last : nodes_from plan ((h ++ here) ++ probes M) ≡ nodes_from N (here ++ probes M)
      last = nodes-append plan (h ++ here) (probes M) ∙ ap (λ (ns : List Node). nodes_from ns (probes M)) cut ∙ sym (nodes-append N here (probes M))

  -- all probes, and then all sweeps
  abbrev worked : List Entry → List Entry
  worked h = probes (nodes_from plan h) ++ sweeps_at (nodes_from plan (h ++ probes (nodes_from plan h))) (places_from 0 (nodes_from plan (h ++ probes (nodes_from plan h))))

  worked-settles : (h : List Entry) → ((stream : ℕ) → stream < length (streams_of plan) → has (reached_of false plan h).closed stream ≡ true) → EachTakeIsGiven plan h → IsSettling plan (h ++ worked h)
  worked-settles h closed given = record {
    front = h;
    probing = probes (nodes_from plan h);
    sweeping = sweeps_at M (places_from 0 M);
    parts = sym (append_assoc h (probes (nodes_from plan h)) (sweeps_at M (places_from 0 M)));
    closed = closed;
    probed = one.0;
    swept = subst (λ (ps : List Place). SweepsEach plan (h ++ probes (nodes_from plan h)) ps (sweeps_at M (places_from 0 M))) (places-same plan (h ++ probes (nodes_from plan h))) (swept-each (places_from 0 M) (h ++ probes (nodes_from plan h)) one.1);
  }
    where
      M : List Node
      M = nodes_from plan (h ++ probes (nodes_from plan h))

      one : ProbesAll plan h (probes (nodes_from plan h)) × AreEven M
      one = probed h (even-of h given)

-- ---- a drain behind it

drained-reached : (plan : List Node) (h : List Entry) → reached_of false plan (h ++ plain Drain ∷ []) ≡ next false (reached_of false plan h) (plain Drain)
drained-reached plan h = reached-append false (begun plan) h (plain Drain ∷ [])

drained-nodes : (plan : List Node) (h : List Entry) → nodes_from plan (h ++ plain Drain ∷ []) ≡ nodes_from plan h
drained-nodes plan h = nodes-append plan h (plain Drain ∷ []) ∙ drain-still (nodes_from plan h)

drained-complete : (plan : List Node) (h : List Entry) → IsComplete plan h → IsComplete plan (h ++ plain Drain ∷ [])
drained-complete plan h c = record {
  closed = λ stream lt. ap (λ (r : Reached). has r.closed stream) (drained-reached plan h) ∙ c.closed stream lt;
  settled = λ n lt. subst (λ (ns : List Node). IsSettled (join_at ns n)) (sym (drained-nodes plan h)) (c.settled n lt);
  on = ap (λ (r : Reached). r.stop) (drained-reached plan h) ∙ c.on;
}

-- ---- a core

pub work-settles : (core : CoreState) → IsSoundPlan core.plan.nodes → WorkSettles core
work-settles core sound h S e = worked-settles (nodes_in core) (planned core.plan sound) h e.closed e.given

pub settled-is-complete : (old : CoreState) → IsSoundPlan old.plan.nodes → AllAreCertified (nodes_in old) → SettledIsComplete old
settled-is-complete old sound certified new outs f h S e =
    subst (IsComplete (nodes_in old)) whole
    (drained-complete (nodes_in old) g (settling-is-complete (nodes_in old) (planned old.plan sound) certified g legal on (work-settles old sound h S e)))
  where
    g : List Entry
    g = h ++ working true old h

    whole : g ++ plain Drain ∷ [] ≡ h ++ finishing true old h
    whole = append_assoc h (working true old h) (plain Drain ∷ [])

    T : StandsFor new (h ++ finishing true old h)
    T = f.makes.stands h S

    legal-all : IsLegal (nodes_in old) (g ++ plain Drain ∷ [])
    legal-all = subst (IsLegal (nodes_in old)) (sym whole) (subst (λ (p : RunPlan). IsLegal (nodes_of p) (h ++ finishing true old h)) f.makes.plan T.legal)

    legal : IsLegal (nodes_in old) g
    legal = fronts-are-legal (nodes_in old) g (plain Drain ∷ []) legal-all

    on-new : IsOn (reached_of false (nodes_in new) (h ++ finishing true old h))
    on-new = sym (stop-same new.plan.trace (nodes_in new) (h ++ finishing true old h)) ∙ sym T.stands.3 ∙ f.makes.on

    on-all : IsOn (reached_of false (nodes_in old) (g ++ plain Drain ∷ []))
    on-all =
        subst (λ (es : List Entry). IsOn (reached_of false (nodes_in old) es)) (sym whole)
        (subst (λ (p : RunPlan). IsOn (reached_of false (nodes_of p) (h ++ finishing true old h))) f.makes.plan on-new)

    on : IsOn (reached_of false (nodes_in old) g)
    on = sym (ap (λ (r : Reached). r.stop) (drained-reached (nodes_in old) g)) ∙ on-all

-- ---- a core that stopped before, and one that stops now
