-- Where each take of a history has a give in it, every ticket that is taken at a join is given.
use Rattle.std.proofs.Common.{ℕ, ◌<◌, Bool, true, false, cond, ◌||◌, List, [], ◌∷◌, ◌≡◌, map, length, eqb, inl, inr, refl, sym, ap, ap₂, ◌∙◌, subst}
use Rattle.std.proofs.lemmas.Bool.{eq-eqb, eqb-true, false≢true, or_right}
use Rattle.pj_value.specs.Lists.{In}
use Rattle.pj_value.proofs.Members.{In-append_cases, In-append_left, In-append_right, In-map}
use Rattle.pj_pattern.specs.declared.element.Element.{Element}
use Rattle.pj_pattern.specs.declared.element.Element.TheVariants.{Tuple, Punct}
use Rattle.pj_events.specs.declared.events.Entry.{Entry}
use Rattle.pj_events.specs.declared.events.Event.{Event}
use Rattle.pj_events.specs.declared.events.Event.TheVariants.{Arrive, Take as Taken, Give as Given, Sweep as Swept, Drain, Halt, Look as Looked, Stopped, Idle}
use Rattle.pj_events.specs.Join.{JoinData, JoinState, Step, TupleComes, PunctComes, Take, Give, Sweep, has, run, start, step}
use Rattle.pj_events.specs.Plan.{ArePlanned, Join, Stream, Select, Project, Union, Group, Node, Operator, after_all, join_step, operator_at}
use Rattle.pj_events.specs.History.{join_at, nodes_by, nodes_from, state_in}
use Rattle.pj_events.specs.Outcomes.{Arrival, arrivals_by, join_steps_by, join_steps_of, own_step, step_at}
use Rattle.pj_laws.specs.SettlingHistories.{EachTakeIsGiven}
use Rattle.pj_laws.proofs.Held.{at-start}
use Rattle.pj_laws.proofs.JoinRuns.{join-runs}
use Rattle.pj_laws.proofs.Nodes.{operator-from}
use Rattle.pj_laws.proofs.SettledRun.{IsNoJoin, no_join-all}
use Rattle.pj_laws.proofs.Takers.{was-taken}

-- each take among these entries has the give of its ticket among them
abbrev pub TakesAreGiven : List Entry → Type 0
TakesAreGiven entries = (taken : Entry) → In taken entries → (join ticket : ℕ) → taken.event ≡ Taken join ticket → (given : Entry) × In given entries × (given.event ≡ Given join ticket)

-- ---- steps of a join

given-stays : (spec : JoinData) (s : JoinState) (es : List Step) (u : ℕ) → has s.given u ≡ true → has (run spec s es).given u ≡ true
given-stays spec s [] u h = h
given-stays spec s (TupleComes input row ∷ es) u h = given-stays spec (step spec s (TupleComes input row)) es u h
given-stays spec s (PunctComes input patterns ∷ es) u h = given-stays spec (step spec s (PunctComes input patterns)) es u h
given-stays spec s (Take t ∷ es) u h = given-stays spec (step spec s (Take t)) es u h
given-stays spec s (Give t ∷ es) u h = given-stays spec (step spec s (Give t)) es u (or_right (eqb t u) (has s.given u) h)
given-stays spec s (Sweep input ∷ es) u h = given-stays spec (step spec s (Sweep input)) es u h

is-given : (spec : JoinData) (s : JoinState) (es : List Step) (u : ℕ) → In (Give u) es → has (run spec s es).given u ≡ true
is-given spec s [] u h = absurd h
is-given spec s (e ∷ es) u (inl q) =
    given-stays spec (step spec s e) es u
    (subst (λ (x : Step). has (step spec s x).given u ≡ true) (sym q) (ap (λ (b : Bool). b || has s.given u) (eq-eqb u u refl)))
is-given spec s (e ∷ es) u (inr h) = is-given spec (step spec s e) es u h

-- ---- entries of a history, and the steps that they make at a join

own-take : (j u : ℕ) (event : Event) → In (Take u) (own_step j event) → event ≡ Taken j u
own-take j u (Taken k v) i = go (eqb k j) refl i
  where
    go : (b : Bool) → eqb k j ≡ b → In (Take u) (cond b (Take v ∷ []) []) → Taken k v ≡ Taken j u
    go true q (inl e) = ap₂ Taken (eqb-true k j q) (cc e)
    go true q (inr h) = absurd h
    go false q h = absurd h
own-take j u (Given k v) i = never (eqb k j) i
  where
    never : (b : Bool) → In (Take u) (cond b (Give v ∷ []) []) → Given k v ≡ Taken j u
    never true (inl q) = absurd (cc)
    never true (inr h) = absurd h
    never false h = absurd h
own-take j u (Swept k input) i = never (eqb k j) i
  where
    never : (b : Bool) → In (Take u) (cond b (Sweep input ∷ []) []) → Swept k input ≡ Taken j u
    never true (inl q) = absurd (cc)
    never true (inr h) = absurd h
    never false h = absurd h
own-take j u (Arrive stream e) i = absurd i
own-take j u Drain i = absurd i
own-take j u Halt i = absurd i
own-take j u (Looked pending) i = absurd i
own-take j u (Stopped stop) i = absurd i
own-take j u Idle i = absurd i

no-take : (u : ℕ) (came : List Arrival) → In (Take u) (map step_at came) → ⊥
no-take u came i = let r = In-map step_at (Take u) came i in never (r.0).element (r.0).input r.2
  where
    never : (e : Element) (k : ℕ) → join_step k e ≡ Take u → ⊥
    never (Tuple row) k q = absurd (cc)
    never (Punct patterns) k q = absurd (cc)

-- a take among the steps was made by an entry
take-entry : (nodes : List Node) (h : List Entry) (j u : ℕ) → In (Take u) (join_steps_of nodes h j) → (entry : Entry) × In entry h × (entry.event ≡ Taken j u)
take-entry nodes [] j u i = absurd i
take-entry nodes (e ∷ h) j u i =
    elim (In-append_cases (Take u) (join_steps_by nodes e.event j) (join_steps_of (nodes_by nodes e.event) h j) i) [
      | inl k ↦ elim (In-append_cases (Take u) (own_step j e.event) (map step_at (arrivals_by nodes e.event j)) k) [
        | inl m ↦ (e, inl refl, own-take j u e.event m)
        | inr m ↦ absurd (no-take u (arrivals_by nodes e.event j) m)
      ]
      | inr k ↦ let r = take-entry (nodes_by nodes e.event) h j u k in (r.0, inr r.1, r.2)
    ]

own-give : (j u : ℕ) (event : Event) → event ≡ Given j u → In (Give u) (own_step j event)
own-give j u event q = subst (λ (x : Event). In (Give u) (own_step j x)) (sym q) (subst (λ (b : Bool). In (Give u) (cond b (Give u ∷ []) [])) (sym (eq-eqb j j refl)) (inl refl))

-- a give that an entry made is among the steps
give-among : (nodes : List Node) (h : List Entry) (j u : ℕ) (entry : Entry) → In entry h → entry.event ≡ Given j u → In (Give u) (join_steps_of nodes h j)
give-among nodes [] j u entry i q = absurd i
give-among nodes (e ∷ h) j u entry (inl same) q =
    In-append_left (Give u) (join_steps_by nodes e.event j) (join_steps_of (nodes_by nodes e.event) h j)
    (In-append_left (Give u) (own_step j e.event) (map step_at (arrivals_by nodes e.event j)) (own-give j u e.event (ap (λ (x : Entry). x.event) same ∙ q)))
give-among nodes (e ∷ h) j u entry (inr i) q =
    In-append_right (Give u) (join_steps_by nodes e.event j) (join_steps_of (nodes_by nodes e.event) h j) (give-among (nodes_by nodes e.event) h j u entry i q)

-- ---- the joins of a plan

stateless : (o : Operator) → IsNoJoin o → state_in o ≡ start
stateless (Stream schema sent) none = refl
stateless (Select test) none = refl
stateless (Project columns) none = refl
stateless (Union k u) none = refl
stateless (Join spec s) none = absurd none
stateless (Group spec rows) none = refl

module _ (plan : List Node) (planned : ArePlanned [] plan) (h : List Entry) (given : TakesAreGiven h) (n : ℕ) (lt : n < length plan) (u : ℕ) where
  at-join : (spec : JoinData) (s : JoinState) → operator_at plan n ≡ Join spec s → has (join_at (nodes_from plan h) n).taken u ≡ true → has (join_at (nodes_from plan h) n).given u ≡ true
  at-join spec s is taken =
      let state : join_at (nodes_from plan h) n ≡ run spec start (join_steps_of plan h n) =
      ap state_in ((join-runs plan planned).state h n spec lt (is ∙ ap (Join spec) (at-start [] plan n spec s planned lt is))) in
      subst (λ (t : JoinState). has t.given u ≡ true) (sym state)
      (elim (was-taken spec start (join_steps_of plan h n) u (subst (λ (t : JoinState). has t.taken u ≡ true) state taken)) [
        | inl none ↦ absurd (false≢true none)
        | inr i ↦
            let took = take-entry plan h n u i in
            let gave = given took.0 took.1 n u took.2 in
            is-given spec start (join_steps_of plan h n) u (give-among plan h n u gave.0 gave.1 gave.2)
      ])

  at-none : IsNoJoin (operator_at plan n) → has (join_at (nodes_from plan h) n).taken u ≡ true → has (join_at (nodes_from plan h) n).given u ≡ true
  at-none none taken =
      let o = operator-from plan h n lt in
      let state : join_at (nodes_from plan h) n ≡ start = ap state_in o.1 ∙ stateless (after_all (operator_at plan n) o.0) (no_join-all (operator_at plan n) o.0 none) in
      absurd (false≢true (ap (λ (t : JoinState). has t.taken u) (sym state) ∙ taken))

  ticket-given : has (join_at (nodes_from plan h) n).taken u ≡ true → has (join_at (nodes_from plan h) n).given u ≡ true
  ticket-given taken = go (operator_at plan n) refl
    where
      go : (o : Operator) → operator_at plan n ≡ o → has (join_at (nodes_from plan h) n).given u ≡ true
      go (Join spec s) q = at-join spec s q taken
      go (Stream schema sent) q = at-none (subst IsNoJoin (sym q) tt) taken
      go (Select test) q = at-none (subst IsNoJoin (sym q) tt) taken
      go (Project columns) q = at-none (subst IsNoJoin (sym q) tt) taken
      go (Union k v) q = at-none (subst IsNoJoin (sym q) tt) taken
      go (Group spec rows) q = at-none (subst IsNoJoin (sym q) tt) taken

pub each-given : (plan : List Node) → ArePlanned [] plan → (h : List Entry) → TakesAreGiven h → EachTakeIsGiven plan h
each-given plan planned h given n lt u taken = ticket-given plan planned h given n lt u taken
