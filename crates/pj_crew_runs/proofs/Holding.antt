-- A ticket that a seat took last is taken and not given; and a sweep that hands something up is one of an input of a join.
use Rattle.std.proofs.Common.{ℕ, ◌<◌, ◌≤◌, Bool, true, false, cond, ◌&&◌, not, filter, List, [], ◌∷◌, ◌++◌, ◌≡◌, ◌⊎◌, map, length, eqb, inl, inr, refl, sym, ap, ap₂, ◌∙◌, subst, arith, append_assoc}
use Rattle.std.proofs.lemmas.Bool.{cases_lt, eq-eqb, false≢true, false_from_ne_true, ne_eqb, or_cases}
use Rattle.std.proofs.lemmas.List.{get_or_past, length-append}
use Rattle.pj_value.proofs.Members.{In-append_cases, In-append_left, In-append_right}
use Rattle.pj_pattern.specs.declared.element.Element.TheVariants.{Punct}
use Rattle.pj_events.specs.declared.events.Entry.{Entry}
use Rattle.pj_events.specs.declared.events.Event.{Event}
use Rattle.pj_events.specs.declared.events.Event.TheVariants.{Arrive, Take as Taken, Give as Given, Sweep as Swept, Drain, Halt, Look as Looked, Stopped as StopMade, Idle}
use Rattle.pj_events.specs.Join.{HasCome, In, JoinState, PunctAt, Step, Take, Give, Sweep, has, inputs, is_held, kept, run, start, widened}
use Rattle.pj_events.specs.Plan.{Act, ArePlanned, IsStepAllowed, Join, Stream, Select, Project, Union, Group, MayAct, Node, Operator, Own, after_all, hands, nowhere, operator_at}
use Rattle.pj_events.specs.History.{IsEntryAllowed, IsLegal, begun, data_in, join_at, nodes_from, reached_of, state_in}
use Rattle.pj_events.specs.Outcomes.{join_steps_of}
use Rattle.pj_join_laws.proofs.Sound.{sound-run, sound-start}
use Rattle.pj_laws.specs.Seats.{GivenByTakers, IsInputOf, giver_by, givers, made_by, seated, takers}
use Rattle.pj_laws.proofs.Histories.{reached-nodes}
use Rattle.pj_laws.proofs.HistoryAnswers.{fronts-are-legal, grows-legally}
use Rattle.pj_laws.proofs.JoinRuns.{join-runs}
use Rattle.pj_laws.proofs.Lists.{givers-append, takers-append}
use Rattle.pj_laws.proofs.Nodes.{operator-from}
use Rattle.pj_laws.proofs.Probes.{length-from}
use Rattle.pj_laws.proofs.SettledRun.{IsNoJoin, no_join-all}
use Rattle.pj_laws.proofs.Takers.{is-taken, one-taker, take-among}
use Rattle.pj_script_laws.proofs.Acts.{input-of, may-give}
use Rattle.pj_script_laws.proofs.Tickets.{IsJoinAt, given-taken, given_by, given_over, kind, no-state, state-at, tickets-over}

-- ---- the last entry of a seat

-- the seat made nothing behind this entry
record IsLast (seat : ℕ) (last : Entry) (h : List Entry) : Type 0 where
  pub before : List Entry
  pub behind : List Entry
  pub parts : h ≡ before ++ last ∷ behind
  pub none : made_by seat behind ≡ []

last-made : (seat : ℕ) (last : Entry) (h own : List Entry) → made_by seat h ≡ own ++ last ∷ [] → IsLast seat last h
last-made seat last [] own e = let long = length-append own (last ∷ []) in absurd (omega (arith, ap length e, long))
last-made seat last (x ∷ h) own e = go (eqb x.seat seat) own e (λ less q. last-made seat last h less q)
  where
    more : IsLast seat last h → IsLast seat last (x ∷ h)
    more l = record { before = x ∷ l.before; behind = l.behind; parts = ap (λ (es : List Entry). x ∷ es) l.parts; none = l.none }

    go : (b : Bool) (own : List Entry) → cond b (x ∷ made_by seat h) (made_by seat h) ≡ own ++ last ∷ [] → ((less : List Entry) → made_by seat h ≡ less ++ last ∷ [] → IsLast seat last h) → IsLast seat last (x ∷ h)
    go false own q ih = more (ih own q)
    go true [] q ih =
        let same : x ≡ last = cc q in
        let rest : made_by seat h ≡ [] = cc q in
        record { before = []; behind = h; parts = ap (λ (entry : Entry). entry ∷ h) same; none = rest }
    go true (o ∷ own) q ih = let rest : made_by seat h ≡ own ++ last ∷ [] = cc q in more (ih own rest)

-- ---- who gave a ticket

-- a seat that made nothing gave nothing
none-gave : (seat join ticket : ℕ) (es : List Entry) → made_by seat es ≡ [] → In seat (givers join ticket es) → ⊥
none-gave seat join ticket [] none i = i
none-gave seat join ticket (e ∷ es) none i = go (eqb e.seat seat) refl none (λ q k. none-gave seat join ticket es q k)
  where
    by-seat : (event : Event) → In seat (giver_by join ticket e.seat event) → e.seat ≡ seat
    by-seat (Given k v) m = one (eqb k join && eqb v ticket) m
      where
        one : (b : Bool) → In seat (cond b (e.seat ∷ []) []) → e.seat ≡ seat
        one true (inl q) = q
        one true (inr n) = absurd n
        one false n = absurd n
    by-seat (Arrive s x) m = absurd m
    by-seat (Taken k v) m = absurd m
    by-seat (Swept k v) m = absurd m
    by-seat Drain m = absurd m
    by-seat Halt m = absurd m
    by-seat (Looked p) m = absurd m
    by-seat (StopMade s) m = absurd m
    by-seat Idle m = absurd m

    go : (b : Bool) → eqb e.seat seat ≡ b → cond b (e ∷ made_by seat es) (made_by seat es) ≡ [] → (made_by seat es ≡ [] → In seat (givers join ticket es) → ⊥) → ⊥
    go true q n ih = absurd (cc n)
    go false q n ih = elim (In-append_cases seat (giver_by join ticket e.seat e.event) (givers join ticket es) i) [
      | inl k ↦ false≢true (sym q ∙ eq-eqb e.seat seat (by-seat e.event k))
      | inr k ↦ ih n k
    ]

-- a ticket that is given behind entries was given before, or one of them gave it
gave-over : (join ticket : ℕ) (es : List Entry) (vs : List ℕ) → has (given_over join es vs) ticket ≡ true → (has vs ticket ≡ true) ⊎ ((seat : ℕ) × In seat (givers join ticket es))
gave-over join ticket [] vs h = inl h
gave-over join ticket (e ∷ es) vs h = elim (gave-over join ticket es (given_by join e.event vs) h) [
  | inl k ↦ here e.event refl k
  | inr k ↦ inr (k.0, In-append_right k.0 (giver_by join ticket e.seat e.event) (givers join ticket es) k.1)
]
  where
    here : (event : Event) → e.event ≡ event → has (given_by join event vs) ticket ≡ true → (has vs ticket ≡ true) ⊎ ((seat : ℕ) × In seat (givers join ticket (e ∷ es)))
    here (Given k v) q m = go (eqb k join) refl m
      where
        go : (b : Bool) → eqb k join ≡ b → has (cond b (v ∷ vs) vs) ticket ≡ true → (has vs ticket ≡ true) ⊎ ((seat : ℕ) × In seat (givers join ticket (e ∷ es)))
        go false r n = inl n
        go true r n = elim (or_cases (eqb v ticket) (has vs ticket) n) [
          | inl same ↦ inr (
            e.seat,
            In-append_left e.seat (giver_by join ticket e.seat e.event) (givers join ticket es)
                (subst (λ (x : Event). In e.seat (giver_by join ticket e.seat x)) (sym q) (subst (λ (c : Bool). In e.seat (cond c (e.seat ∷ []) [])) (sym (ap₂ (λ (c d : Bool). c && d) r same)) (inl refl))),
          )
          | inr old ↦ inl old
        ]
    here (Arrive s x) q m = inl m
    here (Taken k v) q m = inl m
    here (Swept k v) q m = inl m
    here Drain q m = inl m
    here Halt q m = inl m
    here (Looked p) q m = inl m
    here (StopMade s) q m = inl m
    here Idle q m = inl m

-- a ticket that may be taken has come, and is not taken
take-new : (o : Operator) (ticket : ℕ) → MayAct o (Take ticket) → HasCome (state_in o) ticket × (has (state_in o).taken ticket ≡ false)
take-new (Join spec s) ticket may = may.1
take-new (Stream schema sent) ticket may = absurd may
take-new (Select test) ticket may = absurd may
take-new (Project columns) ticket may = absurd may
take-new (Union n u) ticket may = absurd may
take-new (Group spec rows) ticket may = absurd may

-- ---- sweeps

none-pass : (test : PunctAt → Bool) (ps : List PunctAt) → ((p : PunctAt) → In p ps → test p ≡ false) → filter test ps ≡ []
none-pass test [] fails = refl
none-pass test (p ∷ ps) fails = ap (λ (b : Bool). cond b (p ∷ filter test ps) (filter test ps)) (fails p (inl refl)) ∙ none-pass test ps (λ x i. fails x (inr i))

-- an operator that is no join hands nothing up at a sweep
no-join-hands : (o : Operator) (input : ℕ) → IsNoJoin o → hands o (Own (Sweep input)) ≡ []
no-join-hands (Stream schema sent) input none = refl
no-join-hands (Select test) input none = refl
no-join-hands (Project columns) input none = refl
no-join-hands (Union n u) input none = refl
no-join-hands (Join spec s) input none = absurd none
no-join-hands (Group spec rows) input none = refl

-- ---- one plan

-- where there is no node, nothing is handed up
pub nowhere-at : (plan : List Node) (h : List Entry) (n : ℕ) → length plan ≤ n → operator_at (nodes_from plan h) n ≡ Select []
nowhere-at plan h n le = ap (λ (node : Node). node.operator) (get_or_past (nodes_from plan h) n nowhere (let l = length-from plan h in omega (arith, l, le)))

module _ (plan : List Node) (planned : ArePlanned [] plan) where
  -- a join hands nothing up at a sweep beyond its inputs
  beyond-inputs : (h : List Entry) (j i : ℕ) → IsLegal plan h → j < length plan → (at : IsJoinAt plan j) → inputs at.spec ≤ i → hands (operator_at (nodes_from plan h) j) (Own (Sweep i)) ≡ []
  beyond-inputs h j i legal lt at le =
      ap (λ (o : Operator). hands o (Own (Sweep i))) ((join-runs plan planned).state h j at.spec lt at.starts)
      ∙ ap (λ (ps : List PunctAt). map (λ p. Punct (widened at.spec p)) ps ++ []) (none-pass (λ p. eqb p.input i && not (is_held (kept at.spec s i) p)) s.waiting other)
    where
      steps : List Step
      steps = join_steps_of plan h j

      s : JoinState
      s = run at.spec start steps

      other : (p : PunctAt) → In p s.waiting → (eqb p.input i && not (is_held (kept at.spec s i) p)) ≡ false
      other p m =
          let is = sound-run at.spec start steps (sound-start at.spec) ((join-runs plan planned).legal h j at.spec legal lt at.starts) in
          let low = (is.punct_fit p (is.waits p m)).0 in
          ap (λ (b : Bool). b && not (is_held (kept at.spec s i) p)) (ne_eqb p.input i (λ q. omega (arith, q, low, le)))

  -- the place of a sweep that hands something up
  pub sweep-place : (h : List Entry) (j i : ℕ) → IsLegal plan h → (hands (operator_at (nodes_from plan h) j) (Own (Sweep i)) ≡ [] → ⊥) → IsInputOf plan j i
  sweep-place h j i legal some = elim (cases_lt j (length plan)) [
    | inr le ↦ absurd (some (ap (λ (o : Operator). hands o (Own (Sweep i))) (nowhere-at plan h j le)))
    | inl lt ↦ elim (kind plan planned j lt) [
      | inr none ↦ (
          let o = operator-from plan h j lt in
          absurd (some (ap (λ (m : Operator). hands m (Own (Sweep i))) o.1 ∙ no-join-hands (after_all (operator_at plan j) o.0) i (no_join-all (operator_at plan j) o.0 none))))
      | inl at ↦ elim (cases_lt i (inputs at.spec)) [
        | inr le ↦ absurd (some (beyond-inputs h j i legal lt at le))
        | inl below ↦ input-of plan planned j i lt (subst (λ (o : Operator). i < inputs (data_in o)) (sym at.starts) below)
      ]
    ]
  ]

  -- ---- a ticket that a seat took last

  module _ (before behind more : List Entry) (seat j u : ℕ) (none : made_by seat behind ≡ []) where
    abbrev taking : Entry
    taking = seated seat (Taken j u) 0

    abbrev h : List Entry
    h = before ++ taking ∷ behind

    module _ (legal : IsLegal plan (h ++ more)) (given : GivenByTakers (h ++ more)) where
      legal-here : IsLegal plan h
      legal-here = fronts-are-legal plan h more legal

      once : IsLegal plan before × IsEntryAllowed (reached_of false plan before) taking
      once = (grows-legally plan before taking).0 (fronts-are-legal plan (before ++ taking ∷ []) behind (subst (IsLegal plan) (sym (append_assoc before (taking ∷ []) behind)) legal-here))

      allowed : IsStepAllowed (nodes_from plan before) (Act j (Take u))
      allowed = subst (λ (ns : List Node). IsStepAllowed ns (Act j (Take u))) (reached-nodes false (begun plan) before) once.1.0.1

      there : j < length plan
      there = let a = allowed.0 in let l = length-from plan before in omega (arith, a, l)

      new : HasCome (join_at (nodes_from plan before) j) u × (has (join_at (nodes_from plan before) j).taken u ≡ false)
      new = take-new (operator_at (nodes_from plan before) j) u allowed.1

      at : IsJoinAt plan j
      at = elim (kind plan planned j there) [
        | inl k ↦ k
        | inr none-there ↦ (let come = subst (λ (s : JoinState). HasCome s u) (no-state plan planned before j there none-there) new.0 in absurd come.1)
      ]

      took : In seat (takers j u h)
      took =
          subst (λ (ns : List ℕ). In seat ns) (sym (takers-append j u before (taking ∷ behind)))
          (In-append_right seat (takers j u before) (takers j u (taking ∷ behind))
          (subst (λ (b : Bool). In seat (cond b (seat ∷ []) [] ++ takers j u behind)) (sym (ap₂ (λ (b c : Bool). b && c) (eq-eqb j j refl) (eq-eqb u u refl))) (inl refl)))

      taken : has (join_at (nodes_from plan h) j).taken u ≡ true
      taken =
          subst (λ (s : JoinState). has s.taken u ≡ true) (sym (state-at plan planned h j there at))
          (is-taken at.spec start (join_steps_of plan h j) u (take-among plan h j u seat took))

      -- another seat did not take it
      one : (other : ℕ) → In other (takers j u (h ++ more)) → other ≡ seat
      one other i =
          one-taker plan (h ++ more) j u other seat at.spec start ((join-runs plan planned).legal (h ++ more) j at.spec legal there at.starts) i
          (subst (λ (ns : List ℕ). In seat ns) (sym (takers-append j u h more)) (In-append_left seat (takers j u h) (takers j u more) took))

      in-all : (other : ℕ) → In other (givers j u behind) → In other (givers j u (h ++ more))
      in-all other i =
          subst (λ (ns : List ℕ). In other ns) (sym (givers-append j u h more))
          (In-append_left other (givers j u h) (givers j u more)
          (subst (λ (ns : List ℕ). In other ns) (sym (givers-append j u before (taking ∷ behind))) (In-append_right other (givers j u before) (givers j u behind) i)))

      not-given : has (join_at (nodes_from plan h) j).given u ≡ false
      not-given = false_from_ne_true (has (join_at (nodes_from plan h) j).given u) (λ t.
          elim (gave-over j u (taking ∷ behind) (join_at (nodes_from plan before) j).given (subst (λ (vs : List ℕ). has vs u ≡ true) (tickets-over plan planned before (taking ∷ behind) j there at).1 t)) [
            | inl old ↦ false≢true (sym new.1 ∙ given-taken plan planned before j once.0 there at u old)
            | inr gave ↦ none-gave seat j u behind none (subst (λ (n : ℕ). In n (givers j u behind)) (one gave.0 (given j u gave.0 (in-all gave.0 gave.1))) gave.1)
          ])

      may-be-given : IsStepAllowed (nodes_from plan h) (Act j (Give u))
      may-be-given = may-give plan planned h j u there taken not-given

  -- it may be given
  pub last-may-give : (h own more : List Entry) (seat j u : ℕ) → made_by seat h ≡ own ++ seated seat (Taken j u) 0 ∷ [] → IsLegal plan (h ++ more) → GivenByTakers (h ++ more) → IsStepAllowed (nodes_from plan h) (Act j (Give u))
  last-may-give h own more seat j u mine legal given =
      let l = last-made seat (seated seat (Taken j u) 0) h own mine in
      subst (λ (es : List Entry). IsStepAllowed (nodes_from plan es) (Act j (Give u))) (sym l.parts)
      (may-be-given l.before l.behind more seat j u l.none (subst (λ (es : List Entry). IsLegal plan (es ++ more)) l.parts legal) (subst (λ (es : List Entry). GivenByTakers (es ++ more)) l.parts given))
