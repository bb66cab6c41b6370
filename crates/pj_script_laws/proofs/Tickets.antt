-- What entries take and give at the joins of a plan.
use Rattle.std.proofs.Common.{ℕ, zero, suc, ◌+◌, ◌<◌, Bool, true, false, cond, List, [], ◌∷◌, ◌++◌, ◌≡◌, ◌⊎◌, length, map, refl, sym, ap, ◌∙◌, subst, inl, inr, eqb, append_assoc, append-nil}
use Rattle.std.proofs.lemmas.Bool.{eqb-true, false≢true, or_cases, or_left, or_right}
use Rattle.pj_pattern.specs.declared.element.Element.{Element}
use Rattle.pj_pattern.specs.declared.element.Element.TheVariants.{Tuple, Punct}
use Rattle.pj_events.specs.declared.events.Entry.{Entry}
use Rattle.pj_events.specs.declared.events.Event.{Event}
use Rattle.pj_events.specs.declared.events.Event.TheVariants.{Arrive, Take as Taken, Give as Given, Sweep as Swept, Drain, Halt, Look, Stopped, Idle}
use Rattle.pj_events.specs.Join.{AreLegalSteps, HasCome, JoinData, JoinState, Step, TupleComes, PunctComes, Take, Give, Sweep, has, run, start, step}
use Rattle.pj_events.specs.Plan.{ArePlanned, Join, Stream, Select, Project, Union, Group, Node, Operator, after_all, join_step, operator_at}
use Rattle.pj_events.specs.History.{IsLegal, join_at, nodes_from, state_in}
use Rattle.pj_events.specs.Outcomes.{Arrival, arrivals_by, join_steps_by, join_steps_of, own_step, step_at}
use Rattle.pj_events.specs.OneThread.{Place, pending_at, plain, probes, probes_at, probes_from, sweeps_at}
use Rattle.pj_laws.specs.HistoryLaws.{JoinRuns}
use Rattle.pj_laws.specs.SettlingHistories.{EachTakeIsGiven}
use Rattle.pj_join_laws.proofs.Sound.{run-append}
use Rattle.pj_laws.proofs.Held.{at-start}
use Rattle.pj_laws.proofs.JoinRuns.{join-runs}
use Rattle.pj_laws.proofs.Nodes.{operator-from}
use Rattle.pj_laws.proofs.SettledRun.{IsNoJoin, no_join-all}
use Rattle.pj_laws.proofs.Takers.{has-come, was-taken}

-- ---- lists of tickets

-- each of these numbers is one of those
abbrev pub Within : List ℕ → List ℕ → Type 0
Within us vs = (u : ℕ) → has us u ≡ true → has vs u ≡ true

-- the tickets that are taken at a join after an event
abbrev pub taken_by : ℕ → Event → List ℕ → List ℕ
taken_by n (Taken join ticket) us = cond (eqb join n) (ticket ∷ us) us
taken_by n _ us = us

-- and those that are given
abbrev pub given_by : ℕ → Event → List ℕ → List ℕ
given_by n (Given join ticket) us = cond (eqb join n) (ticket ∷ us) us
given_by n _ us = us

-- the same after entries
abbrev pub taken_over : ℕ → List Entry → List ℕ → List ℕ
taken_over n [] us = us
taken_over n (entry ∷ entries) us = taken_over n entries (taken_by n entry.event us)

abbrev pub given_over : ℕ → List Entry → List ℕ → List ℕ
given_over n [] us = us
given_over n (entry ∷ entries) us = given_over n entries (given_by n entry.event us)

pub taken-append : (n : ℕ) (xs ys : List Entry) (us : List ℕ) → taken_over n (xs ++ ys) us ≡ taken_over n ys (taken_over n xs us)
taken-append n [] ys us = refl
taken-append n (x ∷ xs) ys us = taken-append n xs ys (taken_by n x.event us)

pub given-append : (n : ℕ) (xs ys : List Entry) (us : List ℕ) → given_over n (xs ++ ys) us ≡ given_over n ys (given_over n xs us)
given-append n [] ys us = refl
given-append n (x ∷ xs) ys us = given-append n xs ys (given_by n x.event us)

-- ---- entries whose takes have their gives

-- where all that was taken is given, it is given behind these too
abbrev pub AreEven : List Entry → Type 0
AreEven entries = (n : ℕ) (us vs : List ℕ) → Within us vs → Within (taken_over n entries us) (given_over n entries vs)

pub even-append : (xs ys : List Entry) → AreEven xs → AreEven ys → AreEven (xs ++ ys)
even-append xs ys a b n us vs w u h =
    subst (λ (ks : List ℕ). has ks u ≡ true) (sym (given-append n xs ys vs))
    (b n (taken_over n xs us) (given_over n xs vs) (a n us vs w) u (subst (λ (ks : List ℕ). has ks u ≡ true) (taken-append n xs ys us) h))

even-both : (b : Bool) (ticket : ℕ) (us vs : List ℕ) → Within us vs → Within (cond b (ticket ∷ us) us) (cond b (ticket ∷ vs) vs)
even-both false ticket us vs w u h = w u h
even-both true ticket us vs w u h = elim (or_cases (eqb ticket u) (has us u) h) [ inl e ↦ or_left (eqb ticket u) (has vs u) e | inr k ↦ or_right (eqb ticket u) (has vs u) (w u k) ]

even-probes : (join : ℕ) (tickets : List ℕ) → AreEven (probes_at join tickets)
even-probes join [] n us vs w = w
even-probes join (ticket ∷ tickets) n us vs w =
    even-probes join tickets n (cond (eqb join n) (ticket ∷ us) us) (cond (eqb join n) (ticket ∷ vs) vs) (even-both (eqb join n) ticket us vs w)

even-from : (nodes : List Node) (join n : ℕ) → AreEven (probes_from nodes join n)
even-from nodes join zero = λ n us vs w. w
even-from nodes join (suc n) =
    let here = probes_at join (pending_at nodes join) in
    even-append here (probes_from (nodes_from nodes here) (join + 1) n) (even-probes join (pending_at nodes join)) (even-from (nodes_from nodes here) (join + 1) n)

pub even-probed : (nodes : List Node) → AreEven (probes nodes)
even-probed nodes = even-from nodes 0 (length nodes)

pub even-swept : (nodes : List Node) (places : List Place) → AreEven (sweeps_at nodes places)
even-swept nodes [] = λ n us vs w. w
even-swept nodes (place ∷ places) =
    let here : List Entry = plain (Swept place.join place.input) ∷ [] in
    let probed : List Entry = probes (nodes_from nodes here) in
    even-append (here ++ probed) (sweeps_at (nodes_from nodes (here ++ probed)) places) (even-append here probed (λ n us vs w. w) (even-probed (nodes_from nodes here)))
    (even-swept (nodes_from nodes (here ++ probed)) places)

-- ---- joins of a plan

-- a join stands at this node, at its start
pub record IsJoinAt (plan : List Node) (n : ℕ) : Type 0 where
  pub spec : JoinData
  pub starts : operator_at plan n ≡ Join spec start

-- an arrival takes and gives nothing
comes-still : (spec : JoinData) (s : JoinState) (came : List Arrival) → ((run spec s (map step_at came)).taken ≡ s.taken) × ((run spec s (map step_at came)).given ≡ s.given)
comes-still spec s [] = (refl, refl)
comes-still spec s (a ∷ came) =
    let one = go a.input a.element in
    let more = comes-still spec (step spec s (step_at a)) came in
    (more.0 ∙ one.0, more.1 ∙ one.1)
  where
    go : (input : ℕ) (e : Element) → ((step spec s (join_step input e)).taken ≡ s.taken) × ((step spec s (join_step input e)).given ≡ s.given)
    go input (Tuple row) = (refl, refl)
    go input (Punct patterns) = (refl, refl)

own-tickets : (spec : JoinData) (s : JoinState) (n : ℕ) (event : Event) → ((run spec s (own_step n event)).taken ≡ taken_by n event s.taken) × ((run spec s (own_step n event)).given ≡ given_by n event s.given)
own-tickets spec s n (Taken join ticket) = go (eqb join n)
  where
    go : (b : Bool) → ((run spec s (cond b (Take ticket ∷ []) [])).taken ≡ cond b (ticket ∷ s.taken) s.taken) × ((run spec s (cond b (Take ticket ∷ []) [])).given ≡ s.given)
    go true = (refl, refl)
    go false = (refl, refl)
own-tickets spec s n (Given join ticket) = go (eqb join n)
  where
    go : (b : Bool) → ((run spec s (cond b (Give ticket ∷ []) [])).taken ≡ s.taken) × ((run spec s (cond b (Give ticket ∷ []) [])).given ≡ cond b (ticket ∷ s.given) s.given)
    go true = (refl, refl)
    go false = (refl, refl)
own-tickets spec s n (Swept join input) = go (eqb join n)
  where
    go : (b : Bool) → ((run spec s (cond b (Sweep input ∷ []) [])).taken ≡ s.taken) × ((run spec s (cond b (Sweep input ∷ []) [])).given ≡ s.given)
    go true = (refl, refl)
    go false = (refl, refl)
own-tickets spec s n (Arrive stream e) = (refl, refl)
own-tickets spec s n Drain = (refl, refl)
own-tickets spec s n Halt = (refl, refl)
own-tickets spec s n (Look pending) = (refl, refl)
own-tickets spec s n (Stopped stop) = (refl, refl)
own-tickets spec s n Idle = (refl, refl)

-- what is given was taken
given-within : (spec : JoinData) (s : JoinState) (steps : List Step) → AreLegalSteps spec s steps → Within s.given s.taken → Within (run spec s steps).given (run spec s steps).taken
given-within spec s [] l w = w
given-within spec s (TupleComes input row ∷ steps) l w = given-within spec (step spec s (TupleComes input row)) steps l.1 w
given-within spec s (PunctComes input patterns ∷ steps) l w = given-within spec (step spec s (PunctComes input patterns)) steps l.1 w
given-within spec s (Take u ∷ steps) l w = given-within spec (step spec s (Take u)) steps l.1 (λ v h. or_right (eqb u v) (has s.taken v) (w v h))
given-within spec s (Give u ∷ steps) l w =
    given-within spec (step spec s (Give u)) steps l.1
    (λ v h. elim (or_cases (eqb u v) (has s.given v) h) [ inl e ↦ subst (λ (n : ℕ). has s.taken n ≡ true) (eqb-true u v e) l.0.0 | inr k ↦ w v k ])
given-within spec s (Sweep input ∷ steps) l w = given-within spec (step spec s (Sweep input)) steps l.1 w

module _ (plan : List Node) (planned : ArePlanned [] plan) where
  runs : JoinRuns plan
  runs = join-runs plan planned

  -- a node is a join at its start, or none
  pub kind : (n : ℕ) → n < length plan → IsJoinAt plan n ⊎ IsNoJoin (operator_at plan n)
  kind n lt = go (operator_at plan n) refl
    where
      go : (o : Operator) → operator_at plan n ≡ o → IsJoinAt plan n ⊎ IsNoJoin (operator_at plan n)
      go (Join spec s) q = inl (record { spec = spec; starts = q ∙ ap (Join spec) (at-start [] plan n spec s planned lt q) })
      go (Stream schema sent) q = inr (subst IsNoJoin (sym q) tt)
      go (Select test) q = inr (subst IsNoJoin (sym q) tt)
      go (Project columns) q = inr (subst IsNoJoin (sym q) tt)
      go (Union k u) q = inr (subst IsNoJoin (sym q) tt)
      go (Group spec rows) q = inr (subst IsNoJoin (sym q) tt)

  -- where none is, no state is kept
  pub no-state : (h : List Entry) (n : ℕ) → n < length plan → IsNoJoin (operator_at plan n) → join_at (nodes_from plan h) n ≡ start
  no-state h n lt none = let o = operator-from plan h n lt in ap state_in o.1 ∙ stateless (after_all (operator_at plan n) o.0) (no_join-all (operator_at plan n) o.0 none)
    where
      stateless : (o : Operator) → IsNoJoin o → state_in o ≡ start
      stateless (Stream schema sent) g = refl
      stateless (Select test) g = refl
      stateless (Project columns) g = refl
      stateless (Union k u) g = refl
      stateless (Join spec s) g = absurd g
      stateless (Group spec rows) g = refl

  -- a ticket that is taken or given anywhere is one of a join
  pub join-there : (h : List Entry) (n u : ℕ) → n < length plan → has (join_at (nodes_from plan h) n).taken u ≡ true → IsJoinAt plan n
  join-there h n u lt t = elim (kind n lt) [ inl at ↦ at | inr none ↦ absurd (false≢true (ap (λ (s : JoinState). has s.taken u) (sym (no-state h n lt none)) ∙ t)) ]

  -- the state of a join is what its steps make of it
  pub state-at : (h : List Entry) (n : ℕ) → n < length plan → (at : IsJoinAt plan n) → join_at (nodes_from plan h) n ≡ run at.spec start (join_steps_of plan h n)
  state-at h n lt at = ap state_in (runs.state h n at.spec lt at.starts)

  -- what one more entry takes and gives
  tickets-more : (h : List Entry) (entry : Entry) (n : ℕ) → n < length plan → IsJoinAt plan n
      → ((join_at (nodes_from plan (h ++ entry ∷ [])) n).taken ≡ taken_by n entry.event (join_at (nodes_from plan h) n).taken)
      × ((join_at (nodes_from plan (h ++ entry ∷ [])) n).given ≡ given_by n entry.event (join_at (nodes_from plan h) n).given)
  tickets-more h entry n lt at = (
    ap (λ (s : JoinState). s.taken) here ∙ still.0 ∙ own.0 ∙ ap (λ (s : JoinState). taken_by n entry.event s.taken) (sym (state-at h n lt at)),
    ap (λ (s : JoinState). s.given) here ∙ still.1 ∙ own.1 ∙ ap (λ (s : JoinState). given_by n entry.event s.given) (sym (state-at h n lt at)),
  )
    where
      s : JoinState
      s = run at.spec start (join_steps_of plan h n)

      came : List Arrival
      came = arrivals_by (nodes_from plan h) entry.event n

      here : join_at (nodes_from plan (h ++ entry ∷ [])) n ≡ run at.spec (run at.spec s (own_step n entry.event)) (map step_at came)
      here =
          state-at (h ++ entry ∷ []) n lt at
          ∙ ap (run at.spec start) (runs.more h entry n)
          ∙ run-append at.spec start (join_steps_of plan h n) (join_steps_by (nodes_from plan h) entry.event n)
          ∙ run-append at.spec s (own_step n entry.event) (map step_at came)

      still : ((run at.spec (run at.spec s (own_step n entry.event)) (map step_at came)).taken ≡ (run at.spec s (own_step n entry.event)).taken)
          × ((run at.spec (run at.spec s (own_step n entry.event)) (map step_at came)).given ≡ (run at.spec s (own_step n entry.event)).given)
      still = comes-still at.spec (run at.spec s (own_step n entry.event)) came

      own : ((run at.spec s (own_step n entry.event)).taken ≡ taken_by n entry.event s.taken) × ((run at.spec s (own_step n entry.event)).given ≡ given_by n entry.event s.given)
      own = own-tickets at.spec s n entry.event

  -- what more entries take and give
  pub tickets-over : (h es : List Entry) (n : ℕ) → n < length plan → IsJoinAt plan n
      → ((join_at (nodes_from plan (h ++ es)) n).taken ≡ taken_over n es (join_at (nodes_from plan h) n).taken)
      × ((join_at (nodes_from plan (h ++ es)) n).given ≡ given_over n es (join_at (nodes_from plan h) n).given)
  tickets-over h [] n lt at = (
    ap (λ (g : List Entry). (join_at (nodes_from plan g) n).taken) (append-nil h),
    ap (λ (g : List Entry). (join_at (nodes_from plan g) n).given) (append-nil h),
  )
  tickets-over h (e ∷ es) n lt at =
      let one = tickets-more h e n lt at in
      let more = tickets-over (h ++ e ∷ []) es n lt at in
      let again = sym (append_assoc h (e ∷ []) es) in (
        ap (λ (g : List Entry). (join_at (nodes_from plan g) n).taken) again ∙ more.0 ∙ ap (taken_over n es) one.0,
        ap (λ (g : List Entry). (join_at (nodes_from plan g) n).given) again ∙ more.1 ∙ ap (given_over n es) one.1,
      )

  -- every take has its give behind such entries too
  pub even-on : (h es : List Entry) → EachTakeIsGiven plan h → AreEven es → EachTakeIsGiven plan (h ++ es)
  even-on h es given even n lt u t = elim (kind n lt) [
    | inr none ↦ absurd (false≢true (ap (λ (s : JoinState). has s.taken u) (sym (no-state (h ++ es) n lt none)) ∙ t))
    | inl at ↦ let k = tickets-over h es n lt at in
        subst (λ (us : List ℕ). has us u ≡ true) (sym k.1)
        (even n (join_at (nodes_from plan h) n).taken (join_at (nodes_from plan h) n).given (given n lt) u (subst (λ (us : List ℕ). has us u ≡ true) k.0 t))
  ]

  -- ---- legal histories

  -- what is given was taken
  pub given-taken : (h : List Entry) (n : ℕ) → IsLegal plan h → n < length plan → IsJoinAt plan n → Within (join_at (nodes_from plan h) n).given (join_at (nodes_from plan h) n).taken
  given-taken h n legal lt at =
      subst (λ (s : JoinState). Within s.given s.taken) (sym (state-at h n lt at))
      (given-within at.spec start (join_steps_of plan h n) (runs.legal h n at.spec legal lt at.starts) (λ u k. k))

  -- and what is taken has come
  pub taken-came : (h : List Entry) (n : ℕ) → IsLegal plan h → n < length plan → (at : IsJoinAt plan n) → (u : ℕ) → has (join_at (nodes_from plan h) n).taken u ≡ true → HasCome (join_at (nodes_from plan h) n) u
  taken-came h n legal lt at u t =
      subst (λ (s : JoinState). HasCome s u) (sym (state-at h n lt at))
      (elim (was-taken at.spec start (join_steps_of plan h n) u (subst (λ (s : JoinState). has s.taken u ≡ true) (state-at h n lt at) t)) [
        | inl k ↦ absurd (false≢true k)
        | inr i ↦ has-come at.spec start (join_steps_of plan h n) u (runs.legal h n at.spec legal lt at.starts) i
      ])
