-- Which tickets are under way at the joins of a plan, and what an entry changes of that.
use Rattle.std.proofs.Common.{ℕ, zero, suc, ◌<◌, ◌≤◌, Bool, true, false, cond, not, ◌&&◌, ◌||◌, List, [], ◌∷◌, ◌++◌, ◌≡◌, ◌⊎◌, filter, map, length, get_or, eqb, refl, sym, ap, ◌∙◌, subst, inl, inr, arith}
use Rattle.std.proofs.lemmas.Bool.{and_from, and_parts, both_ways, cases_lt, eqb-true, false≢true, false_from_ne_true, not-true, not_from_false, true_from_ne_false}
use Rattle.std.proofs.lemmas.List.{get_or_past}
use Rattle.pj_value.proofs.Members.{In-filter, In-filter_from}
use Rattle.pj_value.proofs.Numbers.{has-in, in-has}
use Rattle.pj_events.specs.declared.events.Entry.{Entry}
use Rattle.pj_events.specs.declared.events.Event.{Event}
use Rattle.pj_events.specs.declared.events.Event.TheVariants.{Arrive, Take as Taken, Give as Given, Sweep as Swept, Drain, Halt, Look, Stopped, Idle}
use Rattle.pj_events.specs.Join.{AreLegalSteps, Element, HasCome, JoinData, JoinState, Punct, Step, Sweep, Take, Give, Tuple, has, inputs, run, start, step}
use Rattle.pj_events.specs.KeptState.{lacking}
use Rattle.pj_events.specs.Plan.{Act, ArePlanned, Group, IsStepAllowed, IsWellMade, Join, MayAct, Node, Operator, Project, Select, Stream, Union, after_all, join_step, node_width, nowhere, operator_at}
use Rattle.pj_events.specs.History.{IsEventAllowed, IsLegal, begun, join_at, nodes_from, reached_of, state_in}
use Rattle.pj_events.specs.Outcomes.{Arrival, arrivals_by, join_steps_by, join_steps_of, own_step, results_of, step_at}
use Rattle.pj_join_laws.proofs.Complete.{counted-run, counted-start}
use Rattle.pj_join_laws.proofs.Sound.{run-append, sound-run, sound-start}
use Rattle.pj_join_laws.proofs.Tickets.{lacking-come, lacking-none}
use Rattle.pj_laws.specs.HistoryLaws.{JoinRuns}
use Rattle.pj_laws.specs.Seats.{IsUnderWay}
use Rattle.pj_laws.proofs.Histories.{reached-nodes}
use Rattle.pj_laws.proofs.HistoryAnswers.{grows-legally}
use Rattle.pj_laws.proofs.JoinRuns.{join-runs}
use Rattle.pj_laws.proofs.Nodes.{operator-from}
use Rattle.pj_laws.proofs.Probes.{length-from}
use Rattle.pj_laws.proofs.SettledRun.{IsNoJoin, no_join-all}
use Rattle.pj_laws.proofs.Stay.{results-stay}
use Rattle.pj_laws.proofs.Takers.{has-come, was-taken}
use Rattle.pj_probe.proofs.Checked.{same-ways}
use Rattle.pj_script.specs.Playing.{under_way_at}

-- ---- at one join

-- the ticket is taken and not given
abbrev pub is_under : JoinState → ℕ → Bool
is_under s u = has s.taken u && not (has s.given u)

-- what is taken has come
abbrev HaveCome : JoinState → Type 0
HaveCome s = (u : ℕ) → has s.taken u ≡ true → HasCome s u

under-is : (s : JoinState) → HaveCome s → (u : ℕ) → has (filter (has s.taken) (lacking s.given s.tuples)) u ≡ is_under s u
under-is s come u = same-ways (has ways u) (is_under s u) there back
  where
    ways : List ℕ
    ways = filter (has s.taken) (lacking s.given s.tuples)

    there : has ways u ≡ true → is_under s u ≡ true
    there t =
        let i = In-filter (has s.taken) u (lacking s.given s.tuples) (has-in ways u t) in
        and_from (has s.taken u) (not (has s.given u)) i.1 (not_from_false (has s.given u) (lacking-come s.given s.tuples u (in-has (lacking s.given s.tuples) u i.0)).1)

    back : is_under s u ≡ true → has ways u ≡ true
    back t =
        let p = and_parts (has s.taken u) (not (has s.given u)) t in
        let opened = true_from_ne_false (has (lacking s.given s.tuples) u) (λ f. both_ways (has s.given u) (not-true (has s.given u) p.1) (lacking-none s.given s.tuples u (come u p.0) f)) in
        in-has ways u (In-filter_from (has s.taken) u (lacking s.given s.tuples) (has-in (lacking s.given s.tuples) u opened) p.0)

-- ---- nodes of a plan

-- there is a join at the node
pub record JoinsAt (plan : List Node) (n : ℕ) : Type 0 where
  pub there : n < length plan
  pub spec : JoinData
  pub starts : operator_at plan n ≡ Join spec start
  pub some : 0 < inputs spec

-- there is none
pub record NoJoinAt (plan : List Node) (n : ℕ) : Type 0 where
  pub still : (h : List Entry) → join_at (nodes_from plan h) n ≡ start
  pub no_act : (h : List Entry) (s : Step) → IsStepAllowed (nodes_from plan h) (Act n s) → ⊥

join-made : (ws : List ℕ) (nodes : List Node) (n : ℕ) (spec : JoinData) (s : JoinState) → ArePlanned ws nodes → n < length nodes → operator_at nodes n ≡ Join spec s → (0 < inputs spec) × (s ≡ start)
join-made ws [] n spec s p lt e = absurd (omega (arith, lt))
join-made ws (node ∷ nodes) zero spec s p lt e = let m = subst (λ (o : Operator). IsWellMade o (map (λ k. get_or ws k 0) node.inputs)) e p.1 in (m.1, m.2)
join-made ws (node ∷ nodes) (suc n) spec s p lt e = join-made (ws ++ node_width ws node ∷ []) nodes n spec s p.2 (omega (arith, lt)) e

no-may : (m : Operator) (s : Step) → IsNoJoin m → MayAct m s → ⊥
no-may (Stream schema sent) s g a = a
no-may (Select test) s g a = a
no-may (Project columns) s g a = a
no-may (Union n u) s g a = a
no-may (Join spec st) s g a = g
no-may (Group spec rows) s g a = a

pub node-cases : (plan : List Node) → ArePlanned [] plan → (n : ℕ) → JoinsAt plan n ⊎ NoJoinAt plan n
node-cases plan planned n = elim (cases_lt n (length plan)) [ inl lt ↦ there lt (operator_at plan n) refl | inr ge ↦ inr (past ge) ]
  where
    start-in : (m : Operator) → IsNoJoin m → state_in m ≡ start
    start-in (Stream schema sent) g = refl
    start-in (Select test) g = refl
    start-in (Project columns) g = refl
    start-in (Union n u) g = refl
    start-in (Join spec s) g = absurd g
    start-in (Group spec rows) g = refl

    past : length plan ≤ n → NoJoinAt plan n
    past ge = record {
      still = λ h. ap (λ (node : Node). state_in node.operator) (get_or_past (nodes_from plan h) n nowhere (omega (arith, ge, length-from plan h)));
      no_act = λ h s a. absurd (let l = a.0 in omega (arith, ge, l, length-from plan h));
    }

    other : n < length plan → IsNoJoin (operator_at plan n) → NoJoinAt plan n
    other lt g = record {
      still = λ h. let o = operator-from plan h n lt in ap state_in o.1 ∙ start-in (after_all (operator_at plan n) o.0) (no_join-all (operator_at plan n) o.0 g);
      no_act = λ h s a. let o = operator-from plan h n lt in no-may (operator_at (nodes_from plan h) n) s (subst IsNoJoin (sym o.1) (no_join-all (operator_at plan n) o.0 g)) a.1;
    }

    there : n < length plan → (m : Operator) → operator_at plan n ≡ m → JoinsAt plan n ⊎ NoJoinAt plan n
    there lt (Join spec s) q = let m = join-made [] plan n spec s planned lt q in inl (record { there = lt; spec = spec; starts = q ∙ ap (Join spec) m.1; some = m.0 })
    there lt (Stream schema sent) q = inr (other lt (subst IsNoJoin (sym q) tt))
    there lt (Select test) q = inr (other lt (subst IsNoJoin (sym q) tt))
    there lt (Project columns) q = inr (other lt (subst IsNoJoin (sym q) tt))
    there lt (Union k u) q = inr (other lt (subst IsNoJoin (sym q) tt))
    there lt (Group spec rows) q = inr (other lt (subst IsNoJoin (sym q) tt))

-- ---- the tickets that are taken, and those that are given

abbrev Ways : Type 0
Ways = List ℕ × List ℕ

abbrev ways : JoinState → Ways
ways s = (s.taken, s.given)

-- what arrives takes and gives nothing
arrived-ways : (spec : JoinData) (s : JoinState) (came : List Arrival) → ways (run spec s (map step_at came)) ≡ ways s
arrived-ways spec s [] = refl
arrived-ways spec s (a ∷ came) = arrived-ways spec (step spec s (step_at a)) came ∙ one a.input a.element
  where
    one : (k : ℕ) (e : Element) → ways (step spec s (join_step k e)) ≡ ways s
    one k (Tuple row) = refl
    one k (Punct patterns) = refl

-- with those that an event takes and gives at the join
abbrev ways_with : ℕ → Event → Ways → Ways
ways_with n (Taken k u) before = (cond (eqb k n) (u ∷ []) [] ++ before.0, before.1)
ways_with n (Given k u) before = (before.0, cond (eqb k n) (u ∷ []) [] ++ before.1)
ways_with n _ before = before

own-ways : (spec : JoinData) (s : JoinState) (n : ℕ) (event : Event) → ways (run spec s (own_step n event)) ≡ ways_with n event (ways s)
own-ways spec s n (Taken k u) = go (eqb k n)
  where
    go : (b : Bool) → ways (run spec s (cond b (Take u ∷ []) [])) ≡ (cond b (u ∷ []) [] ++ s.taken, s.given)
    go true = refl
    go false = refl
own-ways spec s n (Given k u) = go (eqb k n)
  where
    go : (b : Bool) → ways (run spec s (cond b (Give u ∷ []) [])) ≡ (s.taken, cond b (u ∷ []) [] ++ s.given)
    go true = refl
    go false = refl
own-ways spec s n (Swept k i) = go (eqb k n)
  where
    go : (b : Bool) → ways (run spec s (cond b (Sweep i ∷ []) [])) ≡ ways s
    go true = refl
    go false = refl
own-ways spec s n (Arrive stream e) = refl
own-ways spec s n Drain = refl
own-ways spec s n Halt = refl
own-ways spec s n (Look p) = refl
own-ways spec s n (Stopped stop) = refl
own-ways spec s n Idle = refl

-- ---- what an event changes

-- whether a ticket is under way behind an event, where this tells it before
abbrev pub changed : ℕ → ℕ → Event → Bool → Bool
changed n u (Taken k v) before = (eqb k n && eqb v u) || before
changed n u (Given k v) before = before && not (eqb k n && eqb v u)
changed n u _ before = before

-- a ticket that is taken now was not given
abbrev NewTake : ℕ → List ℕ → Event → Type 0
NewTake n G (Taken k v) = k ≡ n → has G v ≡ false
NewTake n G _ = Unit {0}

-- of the tickets that are taken and given, whether this one is taken and not given
abbrev tells : ℕ → Ways → Bool
tells u w = has w.0 u && not (has w.1 u)

told-changed : (n u : ℕ) (w : Ways) (event : Event) → NewTake n w.1 event → tells u (ways_with n event w) ≡ changed n u event (tells u w)
told-changed n u (T, G) (Taken k v) new = go (eqb k n) refl
  where
    own : (b : Bool) → eqb v u ≡ b → has G v ≡ false → ((b || has T u) && not (has G u)) ≡ (b || (has T u && not (has G u)))
    own true q f = ap not (subst (λ (m : ℕ). has G m ≡ false) (eqb-true v u q) f)
    own false q f = refl

    go : (b : Bool) → eqb k n ≡ b → (has (cond b (v ∷ []) [] ++ T) u && not (has G u)) ≡ ((b && eqb v u) || (has T u && not (has G u)))
    go true q = own (eqb v u) refl (new (eqb-true k n q))
    go false q = refl
told-changed n u (T, G) (Given k v) new = go (eqb k n)
  where
    three : (a b c : Bool) → (a && not (b || c)) ≡ ((a && not c) && not b)
    three true true true = refl
    three true true false = refl
    three true false true = refl
    three true false false = refl
    three false b c = refl

    two : (a : Bool) → a ≡ (a && true)
    two true = refl
    two false = refl

    go : (b : Bool) → (has T u && not (has (cond b (v ∷ []) [] ++ G) u)) ≡ ((has T u && not (has G u)) && not (b && eqb v u))
    go true = three (has T u) (eqb v u) (has G u)
    go false = two (has T u && not (has G u))
told-changed n u w (Swept k i) new = refl
told-changed n u w (Arrive stream e) new = refl
told-changed n u w Drain new = refl
told-changed n u w Halt new = refl
told-changed n u w (Look p) new = refl
told-changed n u w (Stopped stop) new = refl
told-changed n u w Idle new = refl

-- ---- histories of a plan

module _ (plan : List Node) (planned : ArePlanned [] plan) where
  runs : JoinRuns plan
  runs = join-runs plan planned

  abbrev steps : ℕ → List Entry → List Step
  steps n h = join_steps_of plan h n

  pub state-is : (n : ℕ) (J : JoinsAt plan n) (h : List Entry) → join_at (nodes_from plan h) n ≡ run J.spec start (steps n h)
  state-is n J h = ap state_in (runs.state h n J.spec J.there J.starts)

  legal-steps : (n : ℕ) (J : JoinsAt plan n) (h : List Entry) → IsLegal plan h → AreLegalSteps J.spec start (steps n h)
  legal-steps n J h legal = runs.legal h n J.spec legal J.there J.starts

  have-come : (n : ℕ) (h : List Entry) → IsLegal plan h → HaveCome (join_at (nodes_from plan h) n)
  have-come n h legal = elim (node-cases plan planned n) [
    | inl J ↦ subst HaveCome (sym (state-is n J h)) (λ u t. elim (was-taken J.spec start (steps n h) u t) [
      | inl k ↦ absurd (false≢true k)
      | inr i ↦ has-come J.spec start (steps n h) u (legal-steps n J h legal) i
    ])
    | inr N ↦ subst HaveCome (sym (N.still h)) (λ u t. absurd (false≢true t))
  ]

  -- a ticket is under way where it is taken and not given
  pub told : (h : List Entry) → IsLegal plan h → (n u : ℕ) → has (under_way_at (nodes_from plan h) n) u ≡ is_under (join_at (nodes_from plan h) n) u
  told h legal n u = under-is (join_at (nodes_from plan h) n) (have-come n h legal) u

  -- such a ticket is what is called under way
  pub way-is : (h : List Entry) → IsLegal plan h → (n u : ℕ) → has (under_way_at (nodes_from plan h) n) u ≡ true → IsUnderWay plan h n u
  way-is h legal n u t = go (node-cases plan planned n) (sym (told h legal n u) ∙ t)
    where
      go : JoinsAt plan n ⊎ NoJoinAt plan n → is_under (join_at (nodes_from plan h) n) u ≡ true → IsUnderWay plan h n u
      go (inl J) w =
          let p = and_parts (has (run J.spec start (steps n h)).taken u) (not (has (run J.spec start (steps n h)).given u)) (subst (λ (s : JoinState). is_under s u ≡ true) (state-is n J h) w) in
          record { there = J.there; spec = J.spec; starts = J.starts; taken = p.0; not_given = not-true (has (run J.spec start (steps n h)).given u) p.1 }
      go (inr N) w = absurd (false≢true (subst (λ (s : JoinState). is_under s u ≡ true) (N.still h) w))

  -- ---- one entry more

  state-more : (n : ℕ) (J : JoinsAt plan n) (h : List Entry) (e : Entry)
      → join_at (nodes_from plan (h ++ e ∷ [])) n ≡ run J.spec (run J.spec (join_at (nodes_from plan h) n) (own_step n e.event)) (map step_at (arrivals_by (nodes_from plan h) e.event n))
  state-more n J h e =
      state-is n J (h ++ e ∷ [])
      ∙ ap (run J.spec start) (runs.more h e n)
      ∙ run-append J.spec start (steps n h) (join_steps_by (nodes_from plan h) e.event n)
      ∙ run-append J.spec (run J.spec start (steps n h)) (own_step n e.event) (map step_at (arrivals_by (nodes_from plan h) e.event n))
      ∙ ap (λ (s : JoinState). run J.spec (run J.spec s (own_step n e.event)) (map step_at (arrivals_by (nodes_from plan h) e.event n))) (sym (state-is n J h))

  ways-more : (n : ℕ) (J : JoinsAt plan n) (h : List Entry) (e : Entry) → ways (join_at (nodes_from plan (h ++ e ∷ [])) n) ≡ ways_with n e.event (ways (join_at (nodes_from plan h) n))
  ways-more n J h e =
      ap ways (state-more n J h e)
      ∙ arrived-ways J.spec (run J.spec (join_at (nodes_from plan h) n) (own_step n e.event)) (arrivals_by (nodes_from plan h) e.event n)
      ∙ own-ways J.spec (join_at (nodes_from plan h) n) n e.event

  -- the step that takes a ticket is allowed
  take-act : (h : List Entry) (k v : ℕ) → IsEventAllowed (reached_of false plan h) (Taken k v) → IsStepAllowed (nodes_from plan h) (Act k (Take v))
  take-act h k v a = subst (λ (ns : List Node). IsStepAllowed ns (Act k (Take v))) (reached-nodes false (begun plan) h) a.1

  new-take : (n : ℕ) (J : JoinsAt plan n) (h : List Entry) (event : Event) → IsLegal plan h → IsEventAllowed (reached_of false plan h) event → NewTake n (join_at (nodes_from plan h) n).given event
  new-take n J h (Taken k v) legal a = λ q.
      let act = subst (λ (m : ℕ). IsStepAllowed (nodes_from plan h) (Act m (Take v))) q (take-act h k v a) in
      let may = subst (λ (o : Operator). MayAct o (Take v)) (runs.state h n J.spec J.there J.starts) act.1 in
      let c = counted-run J.spec start (steps n h) (sound-start J.spec) (counted-start J.spec J.some) (legal-steps n J h legal) in
      subst (λ (s : JoinState). has s.given v ≡ false) (sym (state-is n J h))
      (false_from_ne_true (has (run J.spec start (steps n h)).given v) (λ t. both_ways (has (run J.spec start (steps n h)).taken v) may.1.1 (c.given_taken v t)))
  new-take n J h (Given k v) legal a = tt
  new-take n J h (Swept k i) legal a = tt
  new-take n J h (Arrive stream e) legal a = tt
  new-take n J h Drain legal a = tt
  new-take n J h Halt legal a = tt
  new-take n J h (Look p) legal a = tt
  new-take n J h (Stopped stop) legal a = tt
  new-take n J h Idle legal a = tt

  none-there : (n u : ℕ) (N : NoJoinAt plan n) (h : List Entry) (event : Event) → IsEventAllowed (reached_of false plan h) event → false ≡ changed n u event false
  none-there n u N h (Taken k v) a = go (eqb k n) refl
    where
      go : (b : Bool) → eqb k n ≡ b → false ≡ ((b && eqb v u) || false)
      go true q = absurd (N.no_act h (Take v) (subst (λ (m : ℕ). IsStepAllowed (nodes_from plan h) (Act m (Take v))) (eqb-true k n q) (take-act h k v a)))
      go false q = refl
  none-there n u N h (Given k v) a = refl
  none-there n u N h (Swept k i) a = refl
  none-there n u N h (Arrive stream e) a = refl
  none-there n u N h Drain a = refl
  none-there n u N h Halt a = refl
  none-there n u N h (Look p) a = refl
  none-there n u N h (Stopped stop) a = refl
  none-there n u N h Idle a = refl

  -- what an entry changes of what is under way
  pub entry-changes : (h : List Entry) (e : Entry) → IsLegal plan (h ++ e ∷ []) → (n u : ℕ) → has (under_way_at (nodes_from plan (h ++ e ∷ [])) n) u ≡ changed n u e.event (has (under_way_at (nodes_from plan h) n) u)
  entry-changes h e legal n u = told (h ++ e ∷ []) legal n u ∙ go (node-cases plan planned n) ∙ ap (changed n u e.event) (sym (told h parts.0 n u))
    where
      parts : IsLegal plan h × Rattle.pj_events.specs.History.IsEntryAllowed (reached_of false plan h) e
      parts = (grows-legally plan h e).0 legal

      go : JoinsAt plan n ⊎ NoJoinAt plan n → is_under (join_at (nodes_from plan (h ++ e ∷ [])) n) u ≡ changed n u e.event (is_under (join_at (nodes_from plan h) n) u)
      go (inl J) =
          ap (tells u) (ways-more n J h e)
          ∙ told-changed n u (ways (join_at (nodes_from plan h) n)) e.event (new-take n J h e.event parts.0 parts.1.0)
      go (inr N) =
          ap (λ (s : JoinState). is_under s u) (N.still (h ++ e ∷ []))
          ∙ none-there n u N h e.event parts.1.0
          ∙ ap (λ (s : JoinState). changed n u e.event (is_under s u)) (sym (N.still h))

  -- a ticket that is taken now was not under way
  pub taken-now : (h : List Entry) (k v : ℕ) (e : Entry) → e.event ≡ Taken k v → IsLegal plan (h ++ e ∷ []) → has (under_way_at (nodes_from plan h) k) v ≡ false
  taken-now h k v e is legal = go (node-cases plan planned k)
    where
      parts : IsLegal plan h × Rattle.pj_events.specs.History.IsEntryAllowed (reached_of false plan h) e
      parts = (grows-legally plan h e).0 legal

      act : IsStepAllowed (nodes_from plan h) (Act k (Take v))
      act = take-act h k v (subst (IsEventAllowed (reached_of false plan h)) is parts.1.0)

      go : JoinsAt plan k ⊎ NoJoinAt plan k → has (under_way_at (nodes_from plan h) k) v ≡ false
      go (inl J) =
          let may = subst (λ (o : Operator). MayAct o (Take v)) (runs.state h k J.spec J.there J.starts) act.1 in
          told h parts.0 k v ∙ ap (λ (s : JoinState). is_under s v) (state-is k J h) ∙ ap (λ (b : Bool). b && not (has (run J.spec start (steps k h)).given v)) may.1.1
      go (inr N) = absurd (N.no_act h (Take v) act)

  -- the results of a ticket that is under way stay what they are
  pub results-kept : (h : List Entry) (e : Entry) → IsLegal plan (h ++ e ∷ []) → (n u : ℕ) → has (under_way_at (nodes_from plan h) n) u ≡ true → results_of plan (h ++ e ∷ []) n u ≡ results_of plan h n u
  results-kept h e legal n u t = results-stay plan planned h (e ∷ []) n u way.spec legal way.there way.starts (elim (was-taken way.spec start (steps n h) u way.taken) [
    | inl k ↦ absurd (false≢true k)
    | inr i ↦ (
        let c = has-come way.spec start (steps n h) u steps-legal i in
        let lt = (sound-run way.spec start (steps n h) (sound-start way.spec) steps-legal).numbered c.0 c.1 in
        let q = c.2 in omega (arith, lt, q))
  ])
    where
      front : IsLegal plan h
      front = ((grows-legally plan h e).0 legal).0

      way : IsUnderWay plan h n u
      way = way-is h front n u t

      steps-legal : AreLegalSteps way.spec start (steps n h)
      steps-legal = runs.legal h n way.spec front way.there way.starts
