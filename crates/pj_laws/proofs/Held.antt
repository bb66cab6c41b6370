-- A ticket that a seat took and did not give is open at its join, and its results are those that the seat has seen.
use Rattle.std.proofs.Common.{ℕ, zero, suc, ◌+◌, ◌<◌, ◌≤◌, Bool, true, false, cond, ◌&&◌, List, [], ◌∷◌, ◌++◌, ◌≡◌, ◌⊎◌, length, get_or, eqb, refl, sym, ap, ◌∙◌, subst, inl, inr, arith, append-nil}
use Rattle.std.proofs.lemmas.Bool.{eq-eqb, eqb-true, false≢true, false_from_ne_true}
use Rattle.std.proofs.lemmas.List.Elements.{filter-append}
use Rattle.pj_value.proofs.Members.{In-append_cases, In-append_left, In-append_right}
use Rattle.pj_events.specs.declared.events.Entry.{Entry}
use Rattle.pj_events.specs.declared.events.Event.{Event}
use Rattle.pj_events.specs.declared.events.Event.TheVariants.{Arrive, Take as Taken, Give as Given, Sweep as Swept, Drain, Halt, Look, Stopped, Idle}
use Rattle.pj_events.specs.Join.{AreLegalSteps, HasCome, In, Sweep, inputs, JoinData, JoinState, Step, Take, Give, TupleAt, has, run, start}
use Rattle.pj_events.specs.KeptState.{lacking}
use Rattle.pj_events.specs.Plan.{ArePlanned, Operator, Stream, Select, Project, Union, Join, Group, Local, MayAct, Node, after_all, node_width, operator_at}
use Rattle.pj_events.specs.History.{AreEntriesLegal, IsEventAllowed, IsLegal, IsOn, Reached, begun, next, nodes_by, nodes_from, reached_of}
use Rattle.pj_events.specs.Outcomes.{join_steps_of, results_of}
use Rattle.pj_laws.specs.HistoryLaws.{AllAreCertified, Certified, JoinRuns}
use Rattle.pj_laws.proofs.Histories.{reached-nodes}
use Rattle.pj_laws.proofs.HistoryAnswers.{fronts-are-legal, grows-legally}
use Rattle.pj_laws.proofs.JoinRuns.{join-runs}
use Rattle.pj_laws.proofs.Nodes.{operator-from}
use Rattle.pj_laws.proofs.Probes.{length-from}
use Rattle.pj_laws.proofs.SettledRun.{IsNoJoin, no_join-all}
use Rattle.pj_join_laws.proofs.Sound.{sound-run, sound-start}
use Rattle.pj_join_laws.proofs.Tickets.{lacking-come, lacking-none}
use Rattle.pj_laws.specs.Seats.{GivenByTakers, HasInput, Holds, IsInputOf, IsUnderWay, seated, giver_by, givers, made_by, taker_by, takers}
use Rattle.pj_laws.proofs.Lists.{givers-append, takers-append}
use Rattle.pj_laws.proofs.Stay.{results-stay}
use Rattle.pj_laws.proofs.Takers.{give-from, has-come, is-taken, one-taker, take-among, was-given, was-taken}

-- ---- joins of a plan

-- the operator is a join
pub record IsJoin (o : Operator) : Type 0 where
  pub spec : JoinData
  pub state : JoinState
  pub is : o ≡ Join spec state

join-back : (m : Operator) (ls : List Local) → IsJoin (after_all m ls) → IsJoin m
join-back (Join spec s) ls j = record { spec = spec; state = s; is = refl }
join-back (Stream schema sent) ls j = absurd (subst IsNoJoin j.is (no_join-all (Stream schema sent) ls tt))
join-back (Select test) ls j = absurd (subst IsNoJoin j.is (no_join-all (Select test) ls tt))
join-back (Project columns) ls j = absurd (subst IsNoJoin j.is (no_join-all (Project columns) ls tt))
join-back (Union n u) ls j = absurd (subst IsNoJoin j.is (no_join-all (Union n u) ls tt))
join-back (Group spec rows) ls j = absurd (subst IsNoJoin j.is (no_join-all (Group spec rows) ls tt))

acts-join : (o : Operator) (s : Step) → MayAct o s → IsJoin o
acts-join (Join spec st) s a = record { spec = spec; state = st; is = refl }
acts-join (Stream schema sent) s a = absurd a
acts-join (Select test) s a = absurd a
acts-join (Project columns) s a = absurd a
acts-join (Union n u) s a = absurd a
acts-join (Group spec rows) s a = absurd a

-- a join of a well-made plan is at its start
pub at-start : (ws : List ℕ) (nodes : List Node) (n : ℕ) (spec : JoinData) (s : JoinState) → ArePlanned ws nodes → n < length nodes → operator_at nodes n ≡ Join spec s → s ≡ start
at-start ws [] n spec s p lt e = absurd (omega (arith, lt))
at-start ws (node ∷ nodes) zero spec s p lt e = (subst (λ (m : Operator). Rattle.pj_events.specs.Plan.IsWellMade m (Rattle.std.proofs.Common.map (λ m. get_or ws m 0) node.inputs)) e p.1).2
at-start ws (node ∷ nodes) (suc n) spec s p lt e = at-start (ws ++ node_width ws node ∷ []) nodes n spec s p.2 (omega (arith, lt)) e

-- a ticket is taken at a join
taken-there : (r : Reached) (h : List Entry) (j u a : ℕ) → AreEntriesLegal r h → In a (takers j u h) → (j < length r.nodes) × IsJoin (operator_at r.nodes j)
taken-there r [] j u a l i = absurd i
taken-there r (e ∷ h) j u a l i = go (In-append_cases a (taker_by j u e.seat e.event) (takers j u h) i) (λ k. taken-there (next false r e) h j u a l.1 k)
  where
    here : (event : Event) → Rattle.pj_events.specs.History.IsEventAllowed r event → In a (taker_by j u e.seat event) → (j < length r.nodes) × IsJoin (operator_at r.nodes j)
    here (Taken k v) allowed m = at (eqb k j) refl m
      where
        at : (b : Bool) → eqb k j ≡ b → In a (cond (b && eqb v u) (e.seat ∷ []) []) → (j < length r.nodes) × IsJoin (operator_at r.nodes j)
        at true q m' =
            let same : k ≡ j = eqb-true k j q in
            subst (λ (n : ℕ). (n < length r.nodes) × IsJoin (operator_at r.nodes n)) same (allowed.1.0, acts-join (operator_at r.nodes k) (Take v) allowed.1.1)
        at false q m' = absurd m'
    here (Arrive s x) allowed m = absurd m
    here (Given k v) allowed m = absurd m
    here (Swept k v) allowed m = absurd m
    here Drain allowed m = absurd m
    here Halt allowed m = absurd m
    here (Look p) allowed m = absurd m
    here (Stopped s) allowed m = absurd m
    here Idle allowed m = absurd m

    go : In a (taker_by j u e.seat e.event) ⊎ In a (takers j u h) → (In a (takers j u h) → (j < length (nodes_by r.nodes e.event)) × IsJoin (operator_at (nodes_by r.nodes e.event) j)) → (j < length r.nodes) × IsJoin (operator_at r.nodes j)
    go (inl m) ih = here e.event l.0.0 m
    go (inr k) ih =
        let later = ih k in
        let lt : j < length r.nodes = let t = later.0 in omega (arith, t, length-from r.nodes (e ∷ [])) in
        let o = operator-from r.nodes (e ∷ []) j lt in
        (lt, join-back (operator_at r.nodes j) o.0 (subst IsJoin o.1 later.1))

-- ---- a seat's own

pub takers-made : (n : ℕ) (h : List Entry) (j u a : ℕ) → In a (takers j u (made_by n h)) → In a (takers j u h)
takers-made n [] j u a i = i
takers-made n (e ∷ h) j u a i = go (eqb e.seat n) i (λ k. takers-made n h j u a k)
  where
    go : (b : Bool) → In a (takers j u (cond b (e ∷ made_by n h) (made_by n h))) → (In a (takers j u (made_by n h)) → In a (takers j u h)) → In a (takers j u (e ∷ h))
    go true k ih = elim (In-append_cases a (taker_by j u e.seat e.event) (takers j u (made_by n h)) k) [
      | inl m ↦ In-append_left a (taker_by j u e.seat e.event) (takers j u h) m
      | inr m ↦ In-append_right a (taker_by j u e.seat e.event) (takers j u h) (ih m)
    ]
    go false k ih = In-append_right a (taker_by j u e.seat e.event) (takers j u h) (ih k)

giver-seat : (j u n a : ℕ) (event : Event) → In a (giver_by j u n event) → n ≡ a
giver-seat j u n a (Given k v) i = one (eqb k j && eqb v u) i
  where
    one : (b : Bool) → In a (cond b (n ∷ []) []) → n ≡ a
    one true (inl q) = q
    one true (inr m) = absurd m
    one false m = absurd m
giver-seat j u n a (Arrive s x) i = absurd i
giver-seat j u n a (Taken k v) i = absurd i
giver-seat j u n a (Swept k v) i = absurd i
giver-seat j u n a Drain i = absurd i
giver-seat j u n a Halt i = absurd i
giver-seat j u n a (Look p) i = absurd i
giver-seat j u n a (Stopped s) i = absurd i
giver-seat j u n a Idle i = absurd i

-- a give of a seat is among its own
givers-made : (n : ℕ) (h : List Entry) (j u : ℕ) → In n (givers j u h) → In n (givers j u (made_by n h))
givers-made n [] j u i = i
givers-made n (e ∷ h) j u i = go (eqb e.seat n) refl (In-append_cases n (giver_by j u e.seat e.event) (givers j u h) i) (λ k. givers-made n h j u k)
  where
    go : (b : Bool) → eqb e.seat n ≡ b → In n (giver_by j u e.seat e.event) ⊎ In n (givers j u h) → (In n (givers j u h) → In n (givers j u (made_by n h))) → In n (givers j u (cond b (e ∷ made_by n h) (made_by n h)))
    go true q (inl m) ih = In-append_left n (giver_by j u e.seat e.event) (givers j u (made_by n h)) m
    go true q (inr m) ih = In-append_right n (giver_by j u e.seat e.event) (givers j u (made_by n h)) (ih m)
    go false q (inl m) ih = absurd (false≢true (sym q ∙ eq-eqb e.seat n (giver-seat j u e.seat n e.event m)))
    go false q (inr m) ih = ih m

none-in : (xs : List ℕ) → ((x : ℕ) → In x xs → ⊥) → xs ≡ []
none-in [] f = refl
none-in (x ∷ xs) f = absurd (f x (inl refl))

-- ---- the ticket

-- a ticket under way at the join of a plan, as the join tells its tickets
pub record IsOpenAt (plan : List Node) (h : List Entry) (j u : ℕ) : Type 0 where
  pub there : j < length plan
  pub spec : JoinData
  pub starts : operator_at plan j ≡ Join spec start
  pub opened : has (lacking (run spec start (join_steps_of plan h j)).given (run spec start (join_steps_of plan h j)).tuples) u ≡ true
  pub taken : has (lacking (run spec start (join_steps_of plan h j)).taken (run spec start (join_steps_of plan h j)).tuples) u ≡ false

not-false : (b : Bool) → (b ≡ false → ⊥) → b ≡ true
not-false true f = refl
not-false false f = absurd (f refl)

pub open-under-way : (plan : List Node) → ArePlanned [] plan → (log : List Entry) → IsLegal plan log → (j u : ℕ) → IsUnderWay plan log j u → IsOpenAt plan log j u
open-under-way plan planned log legal j u way = record {
  there = way.there;
  spec = way.spec;
  starts = way.starts;
  opened = not-false (has (lacking s.given s.tuples) u) (λ f. false≢true (sym way.not_given ∙ lacking-none s.given s.tuples u come f));
  taken = false_from_ne_true (has (lacking s.taken s.tuples) u) (λ t. false≢true (sym (lacking-come s.taken s.tuples u t).1 ∙ way.taken));
}
  where
    s : JoinState
    s = run way.spec start (join_steps_of plan log j)

    come : HasCome s u
    come = elim (was-taken way.spec start (join_steps_of plan log j) u way.taken) [
      | inl k ↦ absurd (false≢true k)
      | inr i ↦ has-come way.spec start (join_steps_of plan log j) u ((join-runs plan planned).legal log j way.spec legal way.there way.starts) i
    ]

module _ (plan : List Node) (planned : ArePlanned [] plan) (h : List Entry) (legal : IsLegal plan h) (j u a : ℕ) (took : In a (takers j u h)) where
  there : (j < length plan) × IsJoin (operator_at plan j)
  there = taken-there (begun plan) h j u a legal took

  starts : operator_at plan j ≡ Join there.1.spec start
  starts = there.1.is ∙ ap (Join there.1.spec) (at-start [] plan j there.1.spec there.1.state planned there.0 there.1.is)

  runs : JoinRuns plan
  runs = join-runs plan planned

  legal-here : AreLegalSteps there.1.spec start (join_steps_of plan h j)
  legal-here = runs.legal h j there.1.spec legal there.0 starts

  -- the seat that took it is one
  pub taker-is : (b : ℕ) → In b (takers j u h) → b ≡ a
  taker-is b i = one-taker plan h j u b a there.1.spec start legal-here i took

  pub is-under_way : givers j u h ≡ [] → IsUnderWay plan h j u
  is-under_way none =
      let s = run there.1.spec start (join_steps_of plan h j) in
      record {
        there = there.0;
        spec = there.1.spec;
        starts = starts;
        taken = is-taken there.1.spec start (join_steps_of plan h j) u (take-among plan h j u a took);
        not_given = false_from_ne_true (has s.given u) (λ t. elim (was-given there.1.spec start (join_steps_of plan h j) u t) [
          | inl k ↦ false≢true k
          | inr k ↦ (let g = give-from plan h j u k in subst (λ (ns : List ℕ). In g.0 ns) none g.1)
        ]);
      }

-- what a seat took and did not give, by its own entries in what it has seen, nobody gave since
pub under-way : (plan : List Node) → ArePlanned [] plan → (log : List Entry) → IsLegal plan log → GivenByTakers log → (n j u : ℕ) → Holds n j u (made_by n log) → IsUnderWay plan log j u
under-way plan planned log legal given n j u holds =
    let all = takers-made n log j u n holds.took in
    is-under_way plan planned log legal j u n all
    (none-in (givers j u log) (λ b i. subst (λ (ns : List ℕ). In n ns) holds.not_given
    (givers-made n log j u (subst (λ (x : ℕ). In x (givers j u log)) (taker-is plan planned log legal j u n all b (given j u b i)) i))))

-- and its results are those over what the seat has seen
pub held-results : (plan : List Node) → ArePlanned [] plan → (seen more : List Entry) → IsLegal plan (seen ++ more) → (n j u : ℕ) → In n (takers j u (made_by n seen)) → results_of plan (seen ++ more) j u ≡ results_of plan seen j u
held-results plan planned seen more legal n j u took =
    let front = fronts-are-legal plan seen more legal in
    let all = takers-made n seen j u n took in
    let at = there plan planned seen front j u n all in
    let st = starts plan planned seen front j u n all in
    let steps = legal-here plan planned seen front j u n all in
    let come = has-come at.1.spec start (join_steps_of plan seen j) u steps (take-among plan seen j u n all) in
    let below = (sound-run at.1.spec start (join_steps_of plan seen j) (sound-start at.1.spec) steps).numbered come.0 come.1 in
    results-stay plan planned seen more j u at.1.spec legal at.0 st (let e = come.2 in omega (arith, below, e))

-- ---- what may be done at a join

-- a step of its own that the join allows is allowed
join-allowed : (plan : List Node) → ArePlanned [] plan → (log : List Entry) → (j : ℕ) (spec : JoinData) (s : Step) → Rattle.pj_events.specs.Plan.IsOwn s → j < length plan → operator_at plan j ≡ Join spec start
    → Rattle.pj_events.specs.Join.IsAllowed spec (run spec start (join_steps_of plan log j)) s → Rattle.pj_events.specs.Plan.IsStepAllowed (reached_of false plan log).nodes (Rattle.pj_events.specs.Plan.Act j s)
join-allowed plan planned log j spec s own lt is may =
    subst (λ (ns : List Node). Rattle.pj_events.specs.Plan.IsStepAllowed ns (Rattle.pj_events.specs.Plan.Act j s)) (sym (reached-nodes false (begun plan) log)) (
      (let l = length-from plan log in omega (arith, lt, l)),
      subst (λ (o : Operator). MayAct o s) (sym ((join-runs plan planned).state log j spec lt is)) (own, may),
    )

pub give-allowed : (plan : List Node) → ArePlanned [] plan → (log : List Entry) → IsOn (reached_of false plan log) → (j u : ℕ) → IsUnderWay plan log j u → IsEventAllowed (reached_of false plan log) (Given j u)
give-allowed plan planned log on j u way = (on, join-allowed plan planned log j way.spec (Give u) tt way.there way.starts (way.taken, way.not_given))

has-join : (o : Operator) (input : ℕ) → HasInput o input → IsJoin o
has-join (Join spec s) input h = record { spec = spec; state = s; is = refl }
has-join (Stream schema sent) input h = absurd h
has-join (Select test) input h = absurd h
has-join (Project columns) input h = absurd h
has-join (Union n u) input h = absurd h
has-join (Group spec rows) input h = absurd h

pub sweep-allowed : (plan : List Node) → ArePlanned [] plan → AllAreCertified plan → (log : List Entry) → IsOn (reached_of false plan log) → (j i : ℕ) → IsInputOf plan j i → IsEventAllowed (reached_of false plan log) (Swept j i)
sweep-allowed plan planned certified log on j i at =
    let join = has-join (operator_at plan j) i at.1 in
    let is = join.is ∙ ap (Join join.spec) (at-start [] plan j join.spec join.state planned at.0 join.is) in
    (on, join-allowed plan planned log j join.spec (Sweep i) tt at.0 is (subst (λ (o : Operator). HasInput o i) is at.1, subst Certified is (certified j at.0)))

-- ---- a ticket that is taken now

-- nobody took it before
taken-new : (plan : List Node) → ArePlanned [] plan → (log : List Entry) (n j u a : ℕ) → IsLegal plan (log ++ seated n (Taken j u) 0 ∷ []) → In a (takers j u log) → ⊥
taken-new plan planned log n j u a legal took =
    let parts = (grows-legally plan log (seated n (Taken j u) 0)).0 legal in
    let at = there plan planned log parts.0 j u a took in
    let st = starts plan planned log parts.0 j u a took in
    let act = subst (λ (ns : List Node). Rattle.pj_events.specs.Plan.IsStepAllowed ns (Rattle.pj_events.specs.Plan.Act j (Take u))) (reached-nodes false (begun plan) log) parts.1.0.1 in
    let may = subst (λ (o : Operator). MayAct o (Take u)) ((join-runs plan planned).state log j at.1.spec at.0 st) act.1 in
    false≢true (sym may.1.1 ∙ is-taken at.1.spec start (join_steps_of plan log j) u (take-among plan log j u a took))

made-own : (n : ℕ) (h : List Entry) (e : Entry) → e.seat ≡ n → made_by n (h ++ e ∷ []) ≡ made_by n h ++ e ∷ []
made-own n h e is = filter-append (λ x. eqb x.seat n) h (e ∷ []) ∙ ap (λ (b : Bool). made_by n h ++ cond b (e ∷ []) []) (eq-eqb e.seat n is)

givers-of : (n : ℕ) (h : List Entry) (j u a : ℕ) → In a (givers j u (made_by n h)) → In a (givers j u h)
givers-of n [] j u a i = i
givers-of n (e ∷ h) j u a i = go (eqb e.seat n) i (λ k. givers-of n h j u a k)
  where
    go : (b : Bool) → In a (givers j u (cond b (e ∷ made_by n h) (made_by n h))) → (In a (givers j u (made_by n h)) → In a (givers j u h)) → In a (givers j u (e ∷ h))
    go true k ih = elim (In-append_cases a (giver_by j u e.seat e.event) (givers j u (made_by n h)) k) [
      | inl m ↦ In-append_left a (giver_by j u e.seat e.event) (givers j u h) m
      | inr m ↦ In-append_right a (giver_by j u e.seat e.event) (givers j u h) (ih m)
    ]
    go false k ih = In-append_right a (giver_by j u e.seat e.event) (givers j u h) (ih k)

-- the seat that takes it holds it
pub holds-new : (plan : List Node) → ArePlanned [] plan → (log : List Entry) → GivenByTakers log → (n j u : ℕ) → IsLegal plan (log ++ seated n (Taken j u) 0 ∷ []) → Holds n j u (made_by n (log ++ seated n (Taken j u) 0 ∷ []))
holds-new plan planned log given n j u legal = record {
  took = subst (λ (es : List Entry). In n (takers j u es)) (sym own) (subst (λ (ns : List ℕ). In n ns) (sym (takers-append j u (made_by n log) (e ∷ []))) (In-append_right n (takers j u (made_by n log)) (takers j u (e ∷ [])) itself));
  not_given =
      ap (givers j u) own ∙ givers-append j u (made_by n log) (e ∷ []) ∙ append-nil (givers j u (made_by n log))
      ∙ none-in (givers j u (made_by n log)) (λ b i. taken-new plan planned log n j u b legal (given j u b (givers-of n log j u b i)));
}
  where
    e : Entry
    e = seated n (Taken j u) 0

    own : made_by n (log ++ e ∷ []) ≡ made_by n log ++ e ∷ []
    own = made-own n log e refl

    itself : In n (takers j u (e ∷ []))
    itself = subst (λ (b : Bool). In n (cond b (n ∷ []) [] ++ [])) (sym (ap (λ (b : Bool). b && eqb u u) (eq-eqb j j refl) ∙ eq-eqb u u refl)) (inl refl)
