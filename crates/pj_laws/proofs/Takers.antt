-- Who took and gave a ticket, and the state of its join.
use Rattle.std.proofs.Common.{ℕ, Bool, true, false, cond, ◌&&◌, ◌||◌, List, [], ◌∷◌, ◌≡◌, ◌⊎◌, map, eqb, refl, sym, ap, ◌∙◌, subst, inl, inr}
use Rattle.std.proofs.lemmas.Bool.{and_parts, eq-eqb, eqb-true, false≢true, or_right}
use Rattle.pj_value.proofs.Members.{In-append_cases, In-append_left, In-append_right, In-map}
use Rattle.pj_events.specs.declared.events.Entry.{Entry}
use Rattle.pj_events.specs.declared.events.Event.{Event}
use Rattle.pj_events.specs.declared.events.Event.TheVariants.{Arrive, Take as Taken, Give as Given, Sweep as Swept, Drain, Halt, Look, Stopped, Idle}
use Rattle.pj_events.specs.Join.{AreLegalSteps, Element, Tuple, Punct, HasCome, In, IsAllowed, JoinData, JoinState, Step, TupleComes, PunctComes, Take, Give, Sweep, has, new_tuple, run, step}
use Rattle.pj_events.specs.Plan.{Node}
use Rattle.pj_events.specs.History.{nodes_by}
use Rattle.pj_events.specs.Outcomes.{Arrival, arrivals_by, join_steps_by, join_steps_of, own_step, step_at}
use Rattle.pj_laws.specs.Seats.{giver_by, givers, taker_by, takers}
use Rattle.pj_join_laws.proofs.Sound.{legal-front}

-- ---- steps

pub taken-stays : (spec : JoinData) (s : JoinState) (es : List Step) (u : ℕ) → has s.taken u ≡ true → has (run spec s es).taken u ≡ true
taken-stays spec s [] u h = h
taken-stays spec s (TupleComes input row ∷ es) u h = taken-stays spec (step spec s (TupleComes input row)) es u h
taken-stays spec s (PunctComes input patterns ∷ es) u h = taken-stays spec (step spec s (PunctComes input patterns)) es u h
taken-stays spec s (Take t ∷ es) u h = taken-stays spec (step spec s (Take t)) es u (or_right (eqb t u) (has s.taken u) h)
taken-stays spec s (Give t ∷ es) u h = taken-stays spec (step spec s (Give t)) es u h
taken-stays spec s (Sweep input ∷ es) u h = taken-stays spec (step spec s (Sweep input)) es u h

pub come-stays : (spec : JoinData) (s : JoinState) (es : List Step) (u : ℕ) → HasCome s u → HasCome (run spec s es) u
come-stays spec s [] u h = h
come-stays spec s (TupleComes input row ∷ es) u h = come-stays spec (step spec s (TupleComes input row)) es u (h.0, In-append_left h.0 s.tuples (new_tuple s input row ∷ []) h.1, h.2)
come-stays spec s (PunctComes input patterns ∷ es) u h = come-stays spec (step spec s (PunctComes input patterns)) es u h
come-stays spec s (Take t ∷ es) u h = come-stays spec (step spec s (Take t)) es u h
come-stays spec s (Give t ∷ es) u h = come-stays spec (step spec s (Give t)) es u h
come-stays spec s (Sweep input ∷ es) u h = come-stays spec (step spec s (Sweep input)) es u h

pub is-taken : (spec : JoinData) (s : JoinState) (es : List Step) (u : ℕ) → In (Take u) es → has (run spec s es).taken u ≡ true
is-taken spec s [] u h = absurd h
is-taken spec s (e ∷ es) u (inl q) = taken-stays spec (step spec s e) es u (subst (λ (x : Step). has (step spec s x).taken u ≡ true) (sym q) (ap (λ (b : Bool). b || has s.taken u) (eq-eqb u u refl)))
is-taken spec s (e ∷ es) u (inr h) = is-taken spec (step spec s e) es u h

pub has-come : (spec : JoinData) (s : JoinState) (es : List Step) (u : ℕ) → AreLegalSteps spec s es → In (Take u) es → HasCome (run spec s es) u
has-come spec s [] u l h = absurd h
has-come spec s (e ∷ es) u l (inl q) =
    come-stays spec (step spec s e) es u (subst (λ (x : Step). HasCome (step spec s x) u) (sym q) (subst (λ (x : Step). IsAllowed spec s x) q l.0).0)
has-come spec s (e ∷ es) u l (inr h) = has-come spec (step spec s e) es u l.1 h

-- a ticket is taken once
pub taken-once : (spec : JoinData) (s : JoinState) (es : List Step) (u : ℕ) → AreLegalSteps spec s es → has s.taken u ≡ true → In (Take u) es → ⊥
taken-once spec s [] u l t h = h
taken-once spec s (e ∷ es) u l t (inl q) = false≢true (sym (subst (λ (x : Step). IsAllowed spec s x) q l.0).1 ∙ t)
taken-once spec s (e ∷ es) u l t (inr h) = taken-once spec (step spec s e) es u l.1 (taken-stays spec s (e ∷ []) u t) h

-- a ticket that is given was given by one of the steps
pub was-given : (spec : JoinData) (s : JoinState) (es : List Step) (u : ℕ) → has (run spec s es).given u ≡ true → (has s.given u ≡ true) ⊎ In (Give u) es
was-given spec s [] u h = inl h
was-given spec s (TupleComes input row ∷ es) u h = elim (was-given spec (step spec s (TupleComes input row)) es u h) [ inl k ↦ inl k | inr k ↦ inr (inr k) ]
was-given spec s (PunctComes input patterns ∷ es) u h = elim (was-given spec (step spec s (PunctComes input patterns)) es u h) [ inl k ↦ inl k | inr k ↦ inr (inr k) ]
was-given spec s (Take t ∷ es) u h = elim (was-given spec (step spec s (Take t)) es u h) [ inl k ↦ inl k | inr k ↦ inr (inr k) ]
was-given spec s (Give t ∷ es) u h = elim (was-given spec (step spec s (Give t)) es u h) [ inl k ↦ here (eqb t u) refl k | inr k ↦ inr (inr k) ]
  where
    here : (b : Bool) → eqb t u ≡ b → (b || has s.given u) ≡ true → (has s.given u ≡ true) ⊎ In (Give u) (Give t ∷ es)
    here true q k = inr (inl (ap Give (eqb-true t u q)))
    here false q k = inl k
was-given spec s (Sweep input ∷ es) u h = elim (was-given spec (step spec s (Sweep input)) es u h) [ inl k ↦ inl k | inr k ↦ inr (inr k) ]

-- a ticket that is taken was taken by one of the steps
pub was-taken : (spec : JoinData) (s : JoinState) (es : List Step) (u : ℕ) → has (run spec s es).taken u ≡ true → (has s.taken u ≡ true) ⊎ In (Take u) es
was-taken spec s [] u h = inl h
was-taken spec s (TupleComes input row ∷ es) u h = elim (was-taken spec (step spec s (TupleComes input row)) es u h) [ inl k ↦ inl k | inr k ↦ inr (inr k) ]
was-taken spec s (PunctComes input patterns ∷ es) u h = elim (was-taken spec (step spec s (PunctComes input patterns)) es u h) [ inl k ↦ inl k | inr k ↦ inr (inr k) ]
was-taken spec s (Take t ∷ es) u h = elim (was-taken spec (step spec s (Take t)) es u h) [ inl k ↦ here (eqb t u) refl k | inr k ↦ inr (inr k) ]
  where
    here : (b : Bool) → eqb t u ≡ b → (b || has s.taken u) ≡ true → (has s.taken u ≡ true) ⊎ In (Take u) (Take t ∷ es)
    here true q k = inr (inl (ap Take (eqb-true t u q)))
    here false q k = inl k
was-taken spec s (Give t ∷ es) u h = elim (was-taken spec (step spec s (Give t)) es u h) [ inl k ↦ inl k | inr k ↦ inr (inr k) ]
was-taken spec s (Sweep input ∷ es) u h = elim (was-taken spec (step spec s (Sweep input)) es u h) [ inl k ↦ inl k | inr k ↦ inr (inr k) ]

-- ---- entries

alone : (b : Bool) (n a : ℕ) → In a (cond b (n ∷ []) []) → (b ≡ true) × (n ≡ a)
alone true n a (inl q) = (refl, q)
alone true n a (inr h) = absurd h
alone false n a h = absurd h

own-take : (j u n a : ℕ) (event : Event) → In a (taker_by j u n event) → In (Take u) (own_step j event)
own-take j u n a (Taken k v) h =
    let t = and_parts (eqb k j) (eqb v u) (alone (eqb k j && eqb v u) n a h).0 in
    subst (λ (b : Bool). In (Take u) (cond b (Take v ∷ []) [])) (sym t.0) (inl (ap Take (eqb-true v u t.1)))
own-take j u n a (Arrive s e) h = absurd h
own-take j u n a (Given k v) h = absurd h
own-take j u n a (Swept k i) h = absurd h
own-take j u n a Drain h = absurd h
own-take j u n a Halt h = absurd h
own-take j u n a (Look p) h = absurd h
own-take j u n a (Stopped s) h = absurd h
own-take j u n a Idle h = absurd h

pub take-among : (nodes : List Node) (h : List Entry) (j u a : ℕ) → In a (takers j u h) → In (Take u) (join_steps_of nodes h j)
take-among nodes [] j u a i = absurd i
take-among nodes (e ∷ h) j u a i =
    elim (In-append_cases a (taker_by j u e.seat e.event) (takers j u h) i) [
      | inl k ↦ In-append_left (Take u) (join_steps_by nodes e.event j) (join_steps_of (nodes_by nodes e.event) h j) (In-append_left (Take u) (own_step j e.event) (map step_at (arrivals_by nodes e.event j)) (own-take j u e.seat a e.event k))
      | inr k ↦ In-append_right (Take u) (join_steps_by nodes e.event j) (join_steps_of (nodes_by nodes e.event) h j) (take-among (nodes_by nodes e.event) h j u a k)
    ]

no-arrival : (u : ℕ) (came : List Arrival) → In (Give u) (map step_at came) → ⊥
no-arrival u came i = let r = In-map step_at (Give u) came i in never r.0.element r.0.input r.2
  where
    never : (e : Element) (k : ℕ) → Rattle.pj_events.specs.Plan.join_step k e ≡ Give u → ⊥
    never (Tuple row) k q = absurd (cc)
    never (Punct patterns) k q = absurd (cc)

own-give : (j u n : ℕ) (event : Event) → In (Give u) (own_step j event) → In n (giver_by j u n event)
own-give j u n (Given k v) i = go (eqb k j) refl i
  where
    go : (b : Bool) → eqb k j ≡ b → In (Give u) (cond b (Give v ∷ []) []) → In n (cond (eqb k j && eqb v u) (n ∷ []) [])
    go true q (inl e) =
        let same : v ≡ u = ap number_in e in
        subst (λ (b : Bool). In n (cond b (n ∷ []) [])) (sym (ap (λ (b : Bool). b && eqb v u) q ∙ eq-eqb v u same)) (inl refl)
      where
        number_in : Step → ℕ
        number_in (Give t) = t
        number_in _ = 0
    go true q (inr h) = absurd h
    go false q h = absurd h
own-give j u n (Taken k v) i = never (eqb k j) i
  where
    never : (b : Bool) → In (Give u) (cond b (Take v ∷ []) []) → In n []
    never true (inl q) = absurd (cc)
    never true (inr h) = absurd h
    never false h = absurd h
own-give j u n (Swept k i') i = never (eqb k j) i
  where
    never : (b : Bool) → In (Give u) (cond b (Sweep i' ∷ []) []) → In n []
    never true (inl q) = absurd (cc)
    never true (inr h) = absurd h
    never false h = absurd h
own-give j u n (Arrive s e) i = absurd i
own-give j u n Drain i = absurd i
own-give j u n Halt i = absurd i
own-give j u n (Look p) i = absurd i
own-give j u n (Stopped s) i = absurd i
own-give j u n Idle i = absurd i

pub give-from : (nodes : List Node) (h : List Entry) (j u : ℕ) → In (Give u) (join_steps_of nodes h j) → (n : ℕ) × In n (givers j u h)
give-from nodes [] j u i = absurd i
give-from nodes (e ∷ h) j u i =
    elim (In-append_cases (Give u) (join_steps_by nodes e.event j) (join_steps_of (nodes_by nodes e.event) h j) i) [
      | inl k ↦ elim (In-append_cases (Give u) (own_step j e.event) (map step_at (arrivals_by nodes e.event j)) k) [
        | inl m ↦ (e.seat, In-append_left e.seat (giver_by j u e.seat e.event) (givers j u h) (own-give j u e.seat e.event m))
        | inr m ↦ absurd (no-arrival u (arrivals_by nodes e.event j) m)
      ]
      | inr k ↦ let r = give-from (nodes_by nodes e.event) h j u k in (r.0, In-append_right r.0 (giver_by j u e.seat e.event) (givers j u h) r.1)
    ]

-- one seat takes a ticket
pub one-taker : (nodes : List Node) (h : List Entry) (j u a b : ℕ) (spec : JoinData) (s : JoinState) → AreLegalSteps spec s (join_steps_of nodes h j) → In a (takers j u h) → In b (takers j u h) → a ≡ b
one-taker nodes [] j u a b spec s l i k = absurd i
one-taker nodes (e ∷ h) j u a b spec s l i k =
    go (In-append_cases a (taker_by j u e.seat e.event) (takers j u h) i) (In-append_cases b (taker_by j u e.seat e.event) (takers j u h) k)
    (λ m p. one-taker (nodes_by nodes e.event) h j u a b spec (run spec s here) parts.1 m p)
  where
    here : List Step
    here = join_steps_by nodes e.event j

    later : List Step
    later = join_steps_of (nodes_by nodes e.event) h j

    parts : AreLegalSteps spec s here × AreLegalSteps spec (run spec s here) later
    parts = legal-front spec s here later l

    by-seat : (x : ℕ) (event : Event) → In x (taker_by j u e.seat event) → e.seat ≡ x
    by-seat x (Taken p v) m = (alone (eqb p j && eqb v u) e.seat x m).1
    by-seat x (Arrive s' e') m = absurd m
    by-seat x (Given p v) m = absurd m
    by-seat x (Swept p v) m = absurd m
    by-seat x Drain m = absurd m
    by-seat x Halt m = absurd m
    by-seat x (Look p) m = absurd m
    by-seat x (Stopped p) m = absurd m
    by-seat x Idle m = absurd m

    twice : (x y : ℕ) → In x (taker_by j u e.seat e.event) → In y (takers j u h) → ⊥
    twice x y m p =
        taken-once spec (run spec s here) later u parts.1
        (is-taken spec s here u (In-append_left (Take u) (own_step j e.event) (map step_at (arrivals_by nodes e.event j)) (own-take j u e.seat x e.event m)))
        (take-among (nodes_by nodes e.event) h j u y p)

    go : In a (taker_by j u e.seat e.event) ⊎ In a (takers j u h) → In b (taker_by j u e.seat e.event) ⊎ In b (takers j u h) → (In a (takers j u h) → In b (takers j u h) → a ≡ b) → a ≡ b
    go (inl m) (inl p) ih = sym (by-seat a e.event m) ∙ by-seat b e.event p
    go (inl m) (inr p) ih = absurd (twice a b m p)
    go (inr m) (inl p) ih = absurd (twice b a p m)
    go (inr m) (inr p) ih = ih m p
