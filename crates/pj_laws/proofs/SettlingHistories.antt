-- A history that settles is complete: node by node, since a node's inputs stand before it.
use Rattle.std.proofs.Common.{ℕ, zero, suc, ◌+◌, ◌<◌, ◌≤◌, Bool, true, false, cond, List, [], None, ◌∷◌, ◌++◌, ◌≡◌, map, length, get_or, refl, sym, ap, ◌∙◌, subst, inl, inr, eqb, arith, append_assoc, append-nil, length-append}
use Rattle.std.proofs.lemmas.Bool.{cases_eq, cases_lt, eqb-true, false≢true, or_cases, or_right}
use Rattle.std.proofs.lemmas.List.{length-map, length_push, get_or_at}
use Rattle.pj_value.proofs.Members.{In-append_left, in-place, map-at}
use Rattle.pj_events.specs.Patterns.{all_wild}
use Rattle.pj_events.specs.Join.{In, Element, Punct, PunctAt, JoinData, JoinState, Step, TupleComes, PunctComes, Take, Give, Sweep, AllGiven, AreCertified, AreLegalSteps, HasCome, IsAllowed, has, inputs, arities, arity, new_tuple, start, step, run, upto_from}
use Rattle.pj_join_laws.specs.Laws.{sweeps_from}
use Rattle.pj_events.specs.Plan.{Operator, Stream, Select, Project, Union, Join, Group, Node, Local, Own, PlanStep, Act, after, after_all, moved, plan_run, handed, fed_to, operator_at, nowhere, IsStepAllowed, IsWellMade, MayAct, node_width, ArePlanned, AreStepsLegal, IsClosedBy, IsDone}
use Rattle.pj_events.specs.declared.events.Entry.{Entry}
use Rattle.pj_events.specs.declared.events.Event.{Event}
use Rattle.pj_events.specs.declared.events.Event.TheVariants.{Arrive, Take as Taken, Give as Given, Sweep as Swept, Drain, Halt, Look, Stopped, Idle}
use Rattle.pj_events.specs.History.{Reached, state_in, nodes_by, begun, next, reached_from, reached_of, nodes_from, steps_from, closed_after, IsEntryAllowed, IsEventAllowed, IsOn, IsLegal, IsComplete}
use Rattle.pj_events.specs.OneThread.{Place, first_of, next_from, pending_at, places_in, places_from, schema_of}
use Rattle.pj_laws.specs.HistoryLaws.{AllAreGiven, AllAreCertified, Certified, JoinRuns}
use Rattle.pj_laws.specs.SettlingHistories.{AreProbing, IsProbing, IsSettling, NoneIsLeft, SettlingIsComplete, SweepsEach}
use Rattle.pj_laws.proofs.Histories.{nodes-append, reached-append, reached-nodes}
use Rattle.pj_laws.proofs.HistoryAnswers.{closed-by, closings, fronts-are-legal, grows-legally, is-done}
use Rattle.pj_join_laws.proofs.Sound.{sound-start, sound-run}
use Rattle.pj_join_laws.proofs.Late.{settled-from}
use Rattle.pj_laws.proofs.Glue.{from_input, locals_all, from-is, operator-is}
use Rattle.pj_laws.proofs.Operators.{join_steps, join-after}
use Rattle.pj_laws.proofs.Whole.{AreGood, node-good, front-good}
use Rattle.pj_laws.proofs.Closing.{HasWild, came-in}
use Rattle.pj_laws.proofs.Settled.{AreWild, node-wild, front-wild}
use Rattle.pj_laws.proofs.Steps.{legal-steps, nodes-run}
use Rattle.pj_laws.proofs.Nodes.{operator-from, drain-still}
use Rattle.pj_laws.proofs.Probes.{length-from}
use Rattle.pj_laws.proofs.JoinRuns.{join-runs, node-runs}
use Rattle.pj_laws.proofs.NextProbe.{act-before, act-here}
use Rattle.pj_laws.proofs.Passes.{place_of}
use Rattle.pj_join_laws.proofs.Tickets.{lacking-none}
use Rattle.pj_laws.proofs.SettledRun.{Closings, IsNoJoin, NoneWaits, fed-both, no_join-all, no_join-waits, steps-both, wild-on}

-- ---- what is taken has come, and what is given was taken

record IsOrdered (s : JoinState) : Type 0 where
  come : (u : ℕ) → has s.taken u ≡ true → HasCome s u
  taken : (u : ℕ) → has s.given u ≡ true → has s.taken u ≡ true

ordered-start : IsOrdered start
ordered-start = record { come = λ u h. absurd (false≢true h); taken = λ u h. absurd (false≢true h) }

ordered-step : (spec : JoinData) (s : JoinState) (e : Step) → IsAllowed spec s e → IsOrdered s → IsOrdered (step spec s e)
ordered-step spec s (TupleComes input row) a o = record {
  come = λ u h. let c = o.come u h in (c.0, In-append_left c.0 s.tuples (new_tuple s input row ∷ []) c.1, c.2);
  taken = o.taken;
}
ordered-step spec s (PunctComes input patterns) a o = record { come = o.come; taken = o.taken }
ordered-step spec s (Take u) a o = record {
  come = λ v h. elim (or_cases (eqb u v) (has s.taken v) h) [ inl e ↦ (a.0.0, a.0.1, a.0.2 ∙ eqb-true u v e) | inr k ↦ o.come v k ];
  taken = λ v h. or_right (eqb u v) (has s.taken v) (o.taken v h);
}
ordered-step spec s (Give u) a o = record {
  come = o.come;
  taken = λ v h. elim (or_cases (eqb u v) (has s.given v) h) [ inl e ↦ subst (λ (n : ℕ). has s.taken n ≡ true) (eqb-true u v e) a.0 | inr k ↦ o.taken v k ];
}
ordered-step spec s (Sweep input) a o = record { come = o.come; taken = o.taken }

ordered-run : (spec : JoinData) (s : JoinState) (es : List Step) → AreLegalSteps spec s es → IsOrdered s → IsOrdered (run spec s es)
ordered-run spec s [] l o = o
ordered-run spec s (e ∷ es) l o = ordered-run spec (step spec s e) es l.1 (ordered-step spec s e l.0 o)

-- a join of a well-made plan is at its start
record IsMadeAt (m : Operator) : Type 0 where
  widths : List ℕ
  made : IsWellMade m widths

made-at : (ws : List ℕ) (nodes : List Node) (n : ℕ) → ArePlanned ws nodes → n < length nodes → IsMadeAt (operator_at nodes n)
made-at ws [] n p lt = absurd (omega (arith, lt))
made-at ws (node ∷ nodes) zero p lt = record { widths = map (λ m. get_or ws m 0) node.inputs; made = p.1 }
made-at ws (node ∷ nodes) (suc n) p lt = made-at (ws ++ node_width ws node ∷ []) nodes n p.2 (omega (arith, lt))

no_join-start : (m : Operator) → IsNoJoin m → state_in m ≡ start
no_join-start (Stream schema sent) g = refl
no_join-start (Select test) g = refl
no_join-start (Project columns) g = refl
no_join-start (Union n u) g = refl
no_join-start (Join spec s) g = absurd g
no_join-start (Group spec rows) g = refl

-- at each node, after a legal history
ordered-at : (plan : List Node) → ArePlanned [] plan → (h : List Entry) (n : ℕ) → IsLegal plan h → n < length plan → IsOrdered (state_in (operator_at (nodes_from plan h) n))
ordered-at plan planned h n legal lt = go (operator_at plan n) refl (made-at [] plan n planned lt)
  where
    runs : JoinRuns plan
    runs = join-runs plan planned

    other : IsNoJoin (operator_at plan n) → IsOrdered (state_in (operator_at (nodes_from plan h) n))
    other g =
        let o = operator-from plan h n lt in
        subst IsOrdered (sym (ap state_in o.1 ∙ no_join-start (after_all (operator_at plan n) o.0) (no_join-all (operator_at plan n) o.0 g))) ordered-start

    go : (m : Operator) → operator_at plan n ≡ m → IsMadeAt m → IsOrdered (state_in (operator_at (nodes_from plan h) n))
    go (Join spec s) q made =
        let fresh : operator_at plan n ≡ Join spec start = q ∙ ap (Join spec) made.made.2 in
        subst IsOrdered (sym (ap state_in (runs.state h n spec lt fresh))) (ordered-run spec start _ (runs.legal h n spec legal lt fresh) ordered-start)
    go (Stream schema sent) q made = other (subst IsNoJoin (sym q) tt)
    go (Select test) q made = other (subst IsNoJoin (sym q) tt)
    go (Project columns) q made = other (subst IsNoJoin (sym q) tt)
    go (Union k u) q made = other (subst IsNoJoin (sym q) tt)
    go (Group spec rows) q made = other (subst IsNoJoin (sym q) tt)

-- where every tuple is given, none can be taken or given
no-take : (m : Operator) (u : ℕ) → MayAct m (Take u) → AllGiven (state_in m) → IsOrdered (state_in m) → ⊥
no-take (Stream schema sent) u a g o = a
no-take (Select test) u a g o = a
no-take (Project columns) u a g o = a
no-take (Union n w) u a g o = a
no-take (Group spec rows) u a g o = a
no-take (Join spec s) u a g o =
    let c : HasCome s u = a.1.0 in
    let given : has s.given u ≡ true = subst (λ (n : ℕ). has s.given n ≡ true) c.2 (g c.0 c.1) in
    false≢true (sym a.1.1 ∙ o.taken u given)

no-give : (m : Operator) (u : ℕ) → MayAct m (Give u) → AllGiven (state_in m) → IsOrdered (state_in m) → ⊥
no-give (Stream schema sent) u a g o = a
no-give (Select test) u a g o = a
no-give (Project columns) u a g o = a
no-give (Union n w) u a g o = a
no-give (Group spec rows) u a g o = a
no-give (Join spec s) u a g o =
    let c : HasCome s u = o.come u a.1.0 in
    let given : has s.given u ≡ true = subst (λ (n : ℕ). has s.given n ≡ true) c.2 (g c.0 c.1) in
    false≢true (sym a.1.1 ∙ given)

-- ---- one plan

module _ (plan : List Node) (planned : ArePlanned [] plan) where
  -- every tuple of the joins up to a node is given
  abbrev GivenUpto : ℕ → List Entry → Type 0
  GivenUpto n h = (m : ℕ) → m ≤ n → AllGiven (state_in (operator_at (nodes_from plan h) m))

  -- the operators up to a node stay
  abbrev StayUpto : ℕ → List Entry → List Entry → Type 0
  StayUpto n h g = (m : ℕ) → m ≤ n → operator_at (nodes_from plan g) m ≡ operator_at (nodes_from plan h) m

  one-more : (h : List Entry) (entry : Entry) → nodes_from plan (h ++ entry ∷ []) ≡ nodes_by (nodes_from plan h) entry.event
  one-more h entry = nodes-append plan h (entry ∷ [])

  allowed : (h : List Entry) (entry : Entry) → IsLegal plan (h ++ entry ∷ []) → IsEntryAllowed (reached_of false plan h) entry
  allowed h entry l = ((grows-legally plan h entry).0 l).1

  long : (h : List Entry) → length (nodes_from plan h) ≡ length plan
  long h = length-from plan h

  -- an act behind the node
  acted : (h : List Entry) (n j : ℕ) (s : Step) → n < length plan → n < j → (m : ℕ) → m ≤ n → operator_at (moved (Act j s) [] (nodes_from plan h)) m ≡ operator_at (nodes_from plan h) m
  acted h n j s lt past m le = let z = long h in act-before (nodes_from plan h) j m s (omega (arith, past, le)) (omega (arith, le, lt, z))

  spares : (h : List Entry) (event : Event) (seat closing n : ℕ) → IsLegal plan (h ++ record { event = event; seat = seat; closing = closing } ∷ []) → IsProbing event → n < length plan → GivenUpto n h
      → StayUpto n h (h ++ record { event = event; seat = seat; closing = closing } ∷ [])
  spares h event seat closing n l p lt g m le = ap (λ (ns : List Node). operator_at ns m) (one-more h entry) ∙ go event (allowed h entry l).0 p
    where
      entry : Entry
      entry = record { event = event; seat = seat; closing = closing }

      N : List Node
      N = nodes_from plan h

      nodes-here : (reached_of false plan h).nodes ≡ N
      nodes-here = reached-nodes false (begun plan) h

      legal-here : IsLegal plan h
      legal-here = ((grows-legally plan h entry).0 l).0

      quiet : operator_at (nodes_by N Drain) m ≡ operator_at N m
      quiet = ap (λ (ns : List Node). operator_at ns m) (drain-still N)

      -- the node of an act that is allowed is behind
      past : (j : ℕ) (s : Step) → IsStepAllowed (reached_of false plan h).nodes (Act j s) → ((MayAct (operator_at N j) s) → AllGiven (state_in (operator_at N j)) → IsOrdered (state_in (operator_at N j)) → ⊥) → n < j
      past j s a none =
          let b : (j < length N) × MayAct (operator_at N j) s = subst (λ (ns : List Node). IsStepAllowed ns (Act j s)) nodes-here a in
          elim (cases_lt n j) [
            | inl l ↦ l
            | inr ge ↦ absurd (none b.1 (g j (omega (arith, ge))) (ordered-at plan planned h j legal-here (let z = long h in let k = b.0 in omega (arith, k, z))))
          ]

      go : (ev : Event) → IsEventAllowed (reached_of false plan h) ev → IsProbing ev → operator_at (nodes_by N ev) m ≡ operator_at N m
      go (Arrive stream e) a q = absurd q
      go (Taken join u) a q = acted h n join (Take u) lt (past join (Take u) a.1 (no-take (operator_at N join) u)) m le
      go (Given join u) a q = acted h n join (Give u) lt (past join (Give u) a.1 (no-give (operator_at N join) u)) m le
      go (Swept join input) a q = absurd q
      go Drain a q = quiet
      go Halt a q = quiet
      go (Look pending) a q = quiet
      go (Stopped stop) a q = absurd q
      go Idle a q = quiet

  -- probes leave the nodes up to one whose tuples are all given
  spares-all : (h es : List Entry) (n : ℕ) → IsLegal plan (h ++ es) → AreProbing es → n < length plan → GivenUpto n h → StayUpto n h (h ++ es)
  spares-all h [] n l p lt g m le = ap (λ (xs : List Entry). operator_at (nodes_from plan xs) m) (append-nil h)
  spares-all h (entry ∷ es) n l p lt g m le =
      ap (λ (xs : List Entry). operator_at (nodes_from plan xs) m) (sym again)
      ∙ spares-all (h ++ entry ∷ []) es n l' p.1 lt (λ k j. subst (λ (o : Operator). AllGiven (state_in o)) (sym (one k j)) (g k j)) m le
      ∙ one m le
    where
      again : (h ++ entry ∷ []) ++ es ≡ h ++ entry ∷ es
      again = append_assoc h (entry ∷ []) es

      l' : IsLegal plan ((h ++ entry ∷ []) ++ es)
      l' = subst (IsLegal plan) (sym again) l

      one : StayUpto n h (h ++ entry ∷ [])
      one = spares h entry.event entry.seat entry.closing n (fronts-are-legal plan (h ++ entry ∷ []) es l') p.0 lt g

  -- ---- the sweeps of one join

  -- the history behind a sweep and its probes
  abbrev swept_to : List Entry → Entry → List Entry → List Entry
  swept_to h sweep probing = (h ++ sweep ∷ []) ++ probing

  swept-path : (h : List Entry) (sweep : Entry) (probing rest : List Entry) → swept_to h sweep probing ++ rest ≡ h ++ (sweep ∷ probing ++ rest)
  swept-path h sweep probing rest = append_assoc (h ++ sweep ∷ []) probing rest ∙ append_assoc h (sweep ∷ []) (probing ++ rest)

  -- a join makes these steps, and the nodes before it stay
  record Makes (h g : List Entry) (n : ℕ) (spec : JoinData) (s : JoinState) : Type 0 where
    here : operator_at (nodes_from plan g) n ≡ Join spec s
    before : (m : ℕ) → m < n → operator_at (nodes_from plan g) m ≡ operator_at (nodes_from plan h) m

  -- one sweep, with its probes
  one-swept : (h : List Entry) (sweep : Entry) (probing : List Entry) (n k : ℕ) (spec : JoinData) (s : JoinState) → n < length plan → operator_at (nodes_from plan h) n ≡ Join spec s → sweep.event ≡ Swept n k
      → IsLegal plan (swept_to h sweep probing) → AllAreGiven plan h → AreProbing probing → Makes h (swept_to h sweep probing) n spec (step spec s (Sweep k))
  one-swept h sweep probing n k spec s lt q e l given p = record {
    here = spare n (omega arith) ∙ at;
    before = λ m less. spare m (omega (arith, less)) ∙ front m less;
  }
    where
      N : List Node
      N = nodes_from plan h

      by : nodes_from plan (h ++ sweep ∷ []) ≡ nodes_by N (Swept n k)
      by = one-more h sweep ∙ ap (nodes_by N) e

      at : operator_at (nodes_from plan (h ++ sweep ∷ [])) n ≡ Join spec (step spec s (Sweep k))
      at = ap (λ (ns : List Node). operator_at ns n) by ∙ act-here N n (Sweep k) (let z = long h in omega (arith, lt, z)) ∙ ap (λ (o : Operator). after o (Own (Sweep k))) q

      front : (m : ℕ) → m < n → operator_at (nodes_from plan (h ++ sweep ∷ [])) m ≡ operator_at N m
      front m less = ap (λ (ns : List Node). operator_at ns m) by ∙ act-before N n m (Sweep k) less (let z = long h in omega (arith, lt, less, z))

      its : AllGiven (step spec s (Sweep k))
      its = subst (λ (o : Operator). AllGiven (state_in o)) q (given n lt)

      still : GivenUpto n (h ++ sweep ∷ [])
      still m le = elim (cases_lt m n) [
        | inl less ↦ subst (λ (o : Operator). AllGiven (state_in o)) (sym (front m less)) (given m (omega (arith, less, lt)))
        | inr ge ↦ let same : n ≡ m = omega (arith, le, ge) in subst (λ (i : ℕ). AllGiven (state_in (operator_at (nodes_from plan (h ++ sweep ∷ [])) i))) same (subst (λ (o : Operator). AllGiven (state_in o)) (sym at) its)
      ]

      spare : StayUpto n (h ++ sweep ∷ []) (swept_to h sweep probing)
      spare = spares-all (h ++ sweep ∷ []) probing n l p lt still

  -- the inputs from this one on
  all-swept : (c k : ℕ) (h es : List Entry) (n : ℕ) (spec : JoinData) (s : JoinState) → n < length plan → operator_at (nodes_from plan h) n ≡ Join spec s → IsLegal plan (h ++ es) → AllAreGiven plan h
      → SweepsEach plan h (map (place_of n) (upto_from k c)) es → Makes h (h ++ es) n spec (run spec s (sweeps_from k c))
  all-swept zero k h es n spec s lt q l given w =
      subst (λ (g : List Entry). Makes h g n spec s) (sym (append-nil h) ∙ ap (λ (xs : List Entry). h ++ xs) (sym w)) (record { here = q; before = λ m less. refl })
  all-swept (suc c) k h es n spec s lt q l given (sweep, probing, rest, e, event, all, more) =
      let h' : List Entry = swept_to h sweep probing in
      let path : h' ++ rest ≡ h ++ es = swept-path h sweep probing rest ∙ ap (λ (xs : List Entry). h ++ xs) (sym e) in
      let l' : IsLegal plan (h' ++ rest) = subst (IsLegal plan) (sym path) l in
      let first : Makes h h' n spec (step spec s (Sweep k)) = one-swept h sweep probing n k spec s lt q event (fronts-are-legal plan h' rest l') given all.probing in
      let later : Makes h' (h' ++ rest) n spec (run spec (step spec s (Sweep k)) (sweeps_from (k + 1) c)) = all-swept c (k + 1) h' rest n spec (step spec s (Sweep k)) lt first.here l' all.given more in
      subst (λ (g : List Entry). Makes h g n spec (run spec s (sweeps_from k (suc c)))) path (record {
        here = later.here;
        before = λ m less. later.before m less ∙ first.before m less;
      })

  -- ---- sweeps in two parts

  record InTwo (h : List Entry) (P Q : List Place) (es : List Entry) : Type 0 where
    xs : List Entry
    ys : List Entry
    parts : es ≡ xs ++ ys
    first : SweepsEach plan h P xs
    second : SweepsEach plan (h ++ xs) Q ys

  in-two : (h : List Entry) (P Q : List Place) (es : List Entry) → SweepsEach plan h (P ++ Q) es → InTwo h P Q es
  in-two h [] Q es w = record { xs = []; ys = es; parts = refl; first = refl; second = subst (λ (g : List Entry). SweepsEach plan g Q es) (sym (append-nil h)) w }
  in-two h (place ∷ P) Q es (sweep, probing, rest, e, event, all, more) =
      let r = in-two (swept_to h sweep probing) P Q rest more in
      record {
        xs = sweep ∷ probing ++ r.xs;
        ys = r.ys;
        parts = e ∙ ap (λ (zs : List Entry). sweep ∷ probing ++ zs) r.parts ∙ ap (λ (zs : List Entry). sweep ∷ zs) (sym (append_assoc probing r.xs r.ys));
        first = (sweep, probing, r.xs, refl, event, all, r.first);
        second = subst (λ (g : List Entry). SweepsEach plan g Q r.ys) (swept-path h sweep probing r.xs) r.second;
      }

  given-on : (h : List Entry) (P : List Place) (es : List Entry) → AllAreGiven plan h → SweepsEach plan h P es → AllAreGiven plan (h ++ es)
  given-on h [] es g w = subst (AllAreGiven plan) (sym (append-nil h) ∙ ap (λ (xs : List Entry). h ++ xs) (sym w)) g
  given-on h (place ∷ P) es g (sweep, probing, rest, e, event, all, more) =
      subst (AllAreGiven plan) (swept-path h sweep probing rest ∙ ap (λ (xs : List Entry). h ++ xs) (sym e)) (given-on (swept_to h sweep probing) P rest all.given more)

  -- what closed its streams has closed them
  closings-on : (h es : List Entry) → Closings plan h → Closings plan (h ++ es)
  closings-on h es c n lt t =
      subst (λ (xs : List Element). In (Punct (all_wild (length (schema_of (operator_at plan n))))) xs) (sym (ap (fed_to n) (steps-both plan h es) ∙ fed-both n (steps_from plan h) (steps_from (nodes_from plan h) es)))
      (In-append_left (Punct (all_wild (length (schema_of (operator_at plan n))))) (fed_to n (steps_from plan h)) (fed_to n (steps_from (nodes_from plan h) es)) (c n lt t))

  -- ---- one node

  -- the history is legal with what follows, its streams are closed, and every tuple is given
  record IsLate (h es : List Entry) : Type 0 where
    legal : IsLegal plan (h ++ es)
    closed : Closings plan h
    given : AllAreGiven plan h

  legal-late : (h es : List Entry) → IsLate h es → IsLegal plan h
  legal-late h es late = fronts-are-legal plan h es late.legal

  late-on : (h P-entries rest : List Entry) (P : List Place) → IsLate h (P-entries ++ rest) → SweepsEach plan h P P-entries → IsLate (h ++ P-entries) rest
  late-on h xs ys P late w = record {
    legal = subst (IsLegal plan) (sym (append_assoc h xs ys)) late.legal;
    closed = closings-on h xs late.closed;
    given = given-on h P xs late.given w;
  }

  -- no punctuation waits at a node, and those before it stay
  abbrev Rests : List Entry → List Entry → ℕ → Type 0
  Rests h g n = NoneWaits (operator_at (nodes_from plan g) n) × ((m : ℕ) → m < n → operator_at (nodes_from plan g) m ≡ operator_at (nodes_from plan h) m)

  -- the join of a node whose inputs have sent wildcards alone settles by the sweeps of its inputs, and the nodes before it stay
  join-settles : (front : List Node) (ws : List ℕ) (node : Node) (back : List Node) → plan ≡ front ++ node ∷ back → (h es : List Entry) (spec : JoinData) → node.operator ≡ Join spec start → length ws ≡ length front
      → ((m : ℕ) → In m node.inputs → m < length ws) → IsWellMade node.operator (map (λ m. get_or ws m 0) node.inputs) → IsLate h es → AreGood front ws (steps_from plan h) → AreWild front ws (steps_from plan h) → AreCertified spec
      → SweepsEach plan h (map (place_of (length front)) (upto_from 0 (inputs spec))) es
      → Rests h (h ++ es) (length front)
  join-settles front ws node back is h es spec q wide-ws before made late good wilds certs w = (subst NoneWaits (sym over.here) settled, over.before)
    where
      steps : List PlanStep
      steps = steps_from plan h

      L : List Local
      L = locals_all front node steps

      s : JoinState
      s = run spec start (join_steps L)

      there : length front < length plan
      there = let z = ap length is in let y = length-append front (node ∷ back) in omega (arith, z, y)

      at : operator_at (nodes_from plan h) (length front) ≡ Join spec s
      at =
          ap (λ (xs : List Node). operator_at xs (length front)) (nodes-run plan h)
          ∙ ap (λ (xs : List Node). operator_at (plan_run xs steps) (length front)) is
          ∙ operator-is front node back steps nowhere ∙ ap (λ (m : Operator). after_all m L) q ∙ join-after spec start L

      wide : map (λ m. get_or ws m 0) node.inputs ≡ arities spec
      wide = (subst (λ (m : Operator). IsWellMade m (map (λ m. get_or ws m 0) node.inputs)) q made).0

      legal : AreLegalSteps spec start (join_steps L)
      legal = node-runs front ws node back steps spec q wide-ws before made (subst (λ (xs : List Node). AreStepsLegal xs steps) is (legal-steps (begun plan) h (legal-late h es late))) good

      given : AllGiven s
      given = subst (λ (m : Operator). AllGiven (state_in m)) at (late.given (length front) there)

      ended : (k : ℕ) → k < inputs spec → (p : PunctAt) × In p s.puncts × (p.input ≡ k) × (p.patterns ≡ all_wild (arity spec k))
      ended k lt =
          let lt' : k < length node.inputs = omega (arith, lt, ap length wide, length-map node.inputs (λ m. get_or ws m 0)) in
          let w' : HasWild (get_or ws (get_or node.inputs k 0) 0) (handed (get_or node.inputs k 0) front steps) =
          wilds (get_or node.inputs k 0) (let b = before (get_or node.inputs k 0) (in-place node.inputs 0 k lt') in omega (arith, b, wide-ws)) in
          let v : HasWild (arity spec k) (from_input k L) =
          subst (HasWild (arity spec k)) (sym (from-is front node steps k lt'))
          (subst (λ (n : ℕ). HasWild n (handed (get_or node.inputs k 0) front steps)) (sym (map-at ws 0 node.inputs k lt') ∙ ap (λ (xs : List ℕ). get_or xs k 0) wide) w') in
          came-in spec start L k (all_wild (arity spec k)) v

      over : Makes h (h ++ es) (length front) spec (run spec s (sweeps_from 0 (inputs spec)))
      over = all-swept (inputs spec) 0 h es (length front) spec s there at late.legal late.given w

      settled : (run spec s (sweeps_from 0 (inputs spec))).waiting ≡ []
      settled = (settled-from spec s certs (sound-run spec start (join_steps L) (sound-start spec) legal) given ended).1.1

  -- ---- all nodes

  abbrev SettlesFrom : List Node → List ℕ → List Node → Type 0
  SettlesFrom front ws back =
      (h es : List Entry) → IsLate h es → ((xs : List PlanStep) → AreStepsLegal plan xs → AreGood front ws xs) → AreWild front ws (steps_from plan h)
      → ((m : ℕ) → m < length front → NoneWaits (operator_at (nodes_from plan h) m)) → SweepsEach plan h (places_from (length front) back) es
      → (m : ℕ) → m < length plan → NoneWaits (operator_at (nodes_from plan (h ++ es)) m)

  settles-node : (front : List Node) (ws : List ℕ) (node : Node) (back : List Node) → AllAreCertified plan → plan ≡ front ++ node ∷ back → length ws ≡ length front → ArePlanned ws (node ∷ back)
      → SettlesFrom (front ++ node ∷ []) (ws ++ node_width ws node ∷ []) back → SettlesFrom front ws (node ∷ back)
  settles-node front ws node back certs is long-ws made go-on h es late good wilds before w m lt =
      subst (λ (g : List Entry). NoneWaits (operator_at (nodes_from plan g) m)) (append_assoc h two.xs two.ys ∙ ap (λ (xs : List Entry). h ++ xs) (sym two.parts))
      (go-on h' two.ys late' good' wild' before' (subst (λ (k : ℕ). SweepsEach plan h' (places_from k back) two.ys) (sym (length_push front node)) two.second) m lt)
    where
      n : ℕ
      n = length front

      P : List Place
      P = places_in n node.operator

      two : InTwo h P (places_from (n + 1) back) es
      two = in-two h P (places_from (n + 1) back) es w

      h' : List Entry
      h' = h ++ two.xs

      here-late : IsLate h (two.xs ++ two.ys)
      here-late = subst (IsLate h) two.parts late

      late' : IsLate h' two.ys
      late' = late-on h two.xs two.ys P here-late two.first

      mine-late : IsLate h two.xs
      mine-late = record { legal = legal-late h' two.ys late'; closed = late.closed; given = late.given }

      there : n < length plan
      there = let z = ap length is in let y = length-append front (node ∷ back) in omega (arith, z, y)

      its : operator_at plan n ≡ node.operator
      its = ap (λ (xs : List Node). operator_at xs n) is ∙ ap (λ (x : Node). x.operator) (get_or_at front node back nowhere n refl)

      no_join : IsNoJoin (operator_at plan n) → NoneWaits (operator_at (nodes_from plan h) n)
      no_join g = let o = operator-from plan h n there in no_join-waits (operator_at (nodes_from plan h) n) (subst IsNoJoin (sym o.1) (no_join-all (operator_at plan n) o.0 g))

      none-here : IsNoJoin (operator_at plan n) → two.xs ≡ [] → Rests h h' n
      none-here g e =
          let same : h ++ two.xs ≡ h = ap (λ (xs : List Entry). h ++ xs) e ∙ append-nil h in (
            subst (λ (g' : List Entry). NoneWaits (operator_at (nodes_from plan g') n)) (sym same) (no_join g),
            λ k l. ap (λ (g' : List Entry). operator_at (nodes_from plan g') k) same,
          )

      here : (o : Operator) → node.operator ≡ o → SweepsEach plan h (places_in n o) two.xs → Rests h h' n
      here (Join spec s) q v =
          let fresh : s ≡ start = (subst (λ (o : Operator). IsWellMade o (map (λ m. get_or ws m 0) node.inputs)) q made.1).2 in
          join-settles front ws node back is h two.xs spec (q ∙ ap (Join spec) fresh) long-ws made.0 made.1 mine-late (good (steps_from plan h) (legal-steps (begun plan) h (legal-late h es late))) wilds
          (subst Certified (its ∙ q) (certs n there)) v
      here (Stream schema sent) q v = none-here (subst IsNoJoin (sym (its ∙ q)) tt) v
      here (Select test) q v = none-here (subst IsNoJoin (sym (its ∙ q)) tt) v
      here (Project columns) q v = none-here (subst IsNoJoin (sym (its ∙ q)) tt) v
      here (Union k u) q v = none-here (subst IsNoJoin (sym (its ∙ q)) tt) v
      here (Group spec rows) q v = none-here (subst IsNoJoin (sym (its ∙ q)) tt) v

      done : Rests h h' n
      done = here node.operator refl two.first

      before' : (k : ℕ) → k < length (front ++ node ∷ []) → NoneWaits (operator_at (nodes_from plan h') k)
      before' k l = elim (cases_eq k n) [
        | inl q ↦ subst (λ (i : ℕ). NoneWaits (operator_at (nodes_from plan h') i)) (sym q) done.0
        | inr ne ↦ let lt' : k < n = omega (arith, ne, l, length_push front node) in subst NoneWaits (sym (done.1 k lt')) (before k lt')
      ]

      steps' : AreStepsLegal plan (steps_from plan h')
      steps' = legal-steps (begun plan) h' (legal-late h' two.ys late')

      wilds' : AreWild front ws (steps_from plan h')
      wilds' = wild-on front ws plan h two.xs wilds

      mine : IsClosedBy (operator_at plan n) (fed_to n (steps_from plan h')) × IsDone (operator_at (plan_run plan (steps_from plan h')) n)
      mine =
          let o = operator-from plan h' n there in (
            closed-by (operator_at plan n) (fed_to n (steps_from plan h')) (late'.closed n there),
            subst (λ (nodes : List Node). IsDone (operator_at nodes n)) (nodes-run plan h')
                (is-done (operator_at (nodes_from plan h') n) (late'.given n there, before' n (omega (arith, length_push front node)))),
          )

      good' : (xs : List PlanStep) → AreStepsLegal plan xs → AreGood (front ++ node ∷ []) (ws ++ node_width ws node ∷ []) xs
      good' xs l =
          front-good front ws node back xs long-ws (good xs l) (node-good front ws node back xs long-ws made.0 made.1 (subst (λ (ns : List Node). AreStepsLegal ns xs) is l) (good xs l))

      wild' : AreWild (front ++ node ∷ []) (ws ++ node_width ws node ∷ []) (steps_from plan h')
      wild' =
          front-wild front ws node back (steps_from plan h') long-ws wilds'
          (node-wild front ws node back (steps_from plan h') long-ws made.0 made.1
          (subst (λ (ns : List Node). IsClosedBy (operator_at ns n) (fed_to n (steps_from plan h')) × IsDone (operator_at (plan_run ns (steps_from plan h')) n)) is mine)
          (good (steps_from plan h') steps') wilds')

  settles-all : (front : List Node) (ws : List ℕ) (back : List Node) → AllAreCertified plan → plan ≡ front ++ back → length ws ≡ length front → ArePlanned ws back → SettlesFrom front ws back
  settles-all front ws [] certs is long-ws made = λ h es late good wilds before w m lt.
      subst (λ (g : List Entry). NoneWaits (operator_at (nodes_from plan g) m)) (sym (append-nil h) ∙ ap (λ (xs : List Entry). h ++ xs) (sym w))
      (before m (let z = ap length is in let y = ap length (append-nil front) in omega (arith, lt, z, y)))
  settles-all front ws (node ∷ back) certs is long-ws made =
      settles-node front ws node back certs is long-ws made
      (settles-all (front ++ node ∷ []) (ws ++ node_width ws node ∷ []) back certs (is ∙ sym (append_assoc front (node ∷ []) back)) (omega (arith, long-ws, length_push ws (node_width ws node), length_push front node)) made.2)

  -- ---- the whole

  closed-kept : (r : Reached) (es : List Entry) (stream : ℕ) → has r.closed stream ≡ true → has (reached_from false r es).closed stream ≡ true
  closed-kept r [] stream c = c
  closed-kept r (entry ∷ es) stream c = closed-kept (next false r entry) es stream (kept entry.event)
    where
      one-kept : (s : ℕ) (b : Bool) → has (cond b (s ∷ r.closed) r.closed) stream ≡ true
      one-kept s true = or_right (eqb s stream) (has r.closed stream) c
      one-kept s false = c

      kept : (event : Event) → has (closed_after r.closed entry.closing event) stream ≡ true
      kept (Arrive s e) = one-kept s (eqb entry.closing 1)
      kept (Taken join u) = c
      kept (Given join u) = c
      kept (Swept join input) = c
      kept Drain = c
      kept Halt = c
      kept (Look pending) = c
      kept (Stopped stop) = c
      kept Idle = c

  settled-whole : AllAreCertified plan → (h : List Entry) → IsLegal plan h → IsOn (reached_of false plan h) → IsSettling plan h → IsComplete plan h
  settled-whole certs h legal on s = record {
    closed = λ stream lt. subst (λ (g : List Entry). has (reached_of false plan g).closed stream ≡ true) (sym whole)
        (subst (λ (r : Reached). has r.closed stream ≡ true) (sym (reached-append false (begun plan) s.front (s.probing ++ s.sweeping)))
        (closed-kept (reached_of false plan s.front) (s.probing ++ s.sweeping) stream (s.closed stream lt)));
    settled = λ n lt. (
      subst (AllAreGiven plan) (sym s.parts) (given-on (s.front ++ s.probing) (places_from 0 plan) s.sweeping s.probed.given s.swept) n lt,
      subst (λ (g : List Entry). NoneWaits (operator_at (nodes_from plan g) n)) (sym s.parts)
          (settles-all [] [] plan certs refl refl planned (s.front ++ s.probing) s.sweeping late (λ xs l k j. absurd (omega (arith, j))) (λ k j. absurd (omega (arith, j))) (λ k j. absurd (omega (arith, j))) s.swept n lt),
    );
    on = on;
  }
    where
      whole : h ≡ s.front ++ (s.probing ++ s.sweeping)
      whole = s.parts ∙ append_assoc s.front s.probing s.sweeping

      legal' : IsLegal plan ((s.front ++ s.probing) ++ s.sweeping)
      legal' = subst (IsLegal plan) s.parts legal

      front-legal : IsLegal plan s.front
      front-legal = fronts-are-legal plan s.front s.probing (fronts-are-legal plan (s.front ++ s.probing) s.sweeping legal')

      late : IsLate (s.front ++ s.probing) s.sweeping
      late = record { legal = legal'; closed = closings-on s.front s.probing (closings plan s.front front-legal s.closed); given = s.probed.given }

pub settling-is-complete : (plan : List Node) → ArePlanned [] plan → AllAreCertified plan → SettlingIsComplete plan
settling-is-complete plan planned certs h legal on s = settled-whole plan planned certs h legal on s

-- ---- when all probes are done

-- there is no next probe from a node on, so none is pending at any of them
none-pending : (nodes : List Node) (k n i : ℕ) → next_from nodes k n ≡ None → i < n → pending_at nodes (k + i) ≡ []
none-pending nodes k zero i e lt = absurd (omega (arith, lt))
none-pending nodes k (suc n) i e lt = go i lt (pending_at nodes k) refl e (λ j q less. none-pending nodes (k + 1) n j q less)
  where
    go : (i : ℕ) → i < suc n → (us : List ℕ) → pending_at nodes k ≡ us → first_of k us (next_from nodes (k + 1) n) ≡ None
        → ((j : ℕ) → next_from nodes (k + 1) n ≡ None → j < n → pending_at nodes (k + 1 + j) ≡ []) → pending_at nodes (k + i) ≡ []
    go i less (u ∷ us) w q ih = cc
    go zero less [] w q ih = let z : k + 0 ≡ k = omega arith in ap (pending_at nodes) z ∙ w
    go (suc j) less [] w q ih = let z : k + suc j ≡ k + 1 + j = omega arith in ap (pending_at nodes) z ∙ ih j q (omega (arith, less))

pub none-is-left : (plan : List Node) → NoneIsLeft plan
none-is-left plan history none even n lt x h =
    let nodes : List Node = nodes_from plan history in
    let z : 0 + n ≡ n = omega arith in
    let there : n < length nodes = let l = length-from plan history in omega (arith, l, lt) in
    let empty : pending_at nodes n ≡ [] = ap (pending_at nodes) (sym z) ∙ none-pending nodes 0 (length nodes) n none there in
    even n lt x.ticket (lacking-none (state_in (operator_at nodes n)).taken (state_in (operator_at nodes n)).tuples x.ticket (x, h, refl) (ap (λ (ts : List ℕ). has ts x.ticket) empty))
