-- A give of each ticket that is under way: it is allowed, and behind it every take has its give.
use Rattle.std.proofs.Common.{ℕ, zero, suc, ◌+◌, ◌<◌, ◌≤◌, Bool, true, false, cond, List, [], ◌∷◌, ◌++◌, ◌≡◌, ◌⊎◌, map, filter, length, refl, sym, ap, ◌∙◌, subst, inl, inr, eqb, arith, append_assoc}
use Rattle.std.proofs.lemmas.Bool.{cases_Bool, cases_eq, eq-eqb, eqb-true, false≢true, false_from_ne_true, or_cases, or_left, or_right}
use Rattle.pj_value.proofs.Members.{In-filter, In-filter_from}
use Rattle.pj_value.proofs.Numbers.{has-in, in-has}
use Rattle.pj_events.specs.declared.events.Entry.{Entry}
use Rattle.pj_events.specs.declared.events.Event.{Event}
use Rattle.pj_events.specs.declared.events.Event.TheVariants.{Arrive, Take as Taken, Give as Given, Sweep as Swept, Drain, Halt, Look, Stopped, Idle}
use Rattle.pj_events.specs.Join.{AreDistinct, In, JoinData, JoinState, Step, TupleComes, PunctComes, Take, Give, Sweep, has, run, start, step}
use Rattle.pj_events.specs.KeptState.{lacking}
use Rattle.pj_events.specs.Plan.{ArePlanned, Node, operator_at}
use Rattle.pj_events.specs.History.{join_at, nodes_from}
use Rattle.pj_events.specs.Outcomes.{join_steps_of}
use Rattle.pj_events.specs.OneThread.{plain}
use Rattle.pj_laws.specs.SettlingHistories.{EachTakeIsGiven}
use Rattle.pj_join_laws.proofs.Tickets.{lacking-come, lacking-none}
use Rattle.pj_laws.proofs.Histories.{nodes-append}
use Rattle.pj_laws.proofs.Probes.{AreActsLegal, IsSteady, acts-append, lacking-distinct, length-from, steady-tuple}
use Rattle.pj_laws.proofs.SettledRun.{IsNoJoin}
use Rattle.pj_script.specs.Playing.{gives, gives_at, gives_from, under_way_at}
use Rattle.pj_script_laws.proofs.Tickets.{IsJoinAt, Within, given-append, given_by, given_over, join-there, kind, no-state, state-at, taken-came, taken-append, taken_over, tickets-over}
use Rattle.pj_script_laws.proofs.Acts.{IsGoing, acts-follow, may-give}

-- ---- tickets under way are told apart

distinct-filter : (p : ℕ → Bool) (ns : List ℕ) → AreDistinct ns → AreDistinct (filter p ns)
distinct-filter p [] d = tt
distinct-filter p (n ∷ ns) d = go (p n) (distinct-filter p ns d.1)
  where
    go : (b : Bool) → AreDistinct (filter p ns) → AreDistinct (cond b (n ∷ filter p ns) (filter p ns))
    go false ih = ih
    go true ih = (false_from_ne_true (has (filter p ns) n) (λ t. false≢true (sym d.0 ∙ in-has ns n (In-filter p n ns (has-in (filter p ns) n t)).0)), ih)

-- the tickets of a join's tuples are, whatever is taken
abbrev AreApart : JoinState → Type 0
AreApart s = IsSteady (record s { taken = s.given })

apart-run : (spec : JoinData) (s : JoinState) (steps : List Step) → AreApart s → AreApart (run spec s steps)
apart-run spec s [] a = a
apart-run spec s (TupleComes input row ∷ steps) a = apart-run spec (step spec s (TupleComes input row)) steps (steady-tuple spec (record s { taken = s.given }) input row a)
apart-run spec s (PunctComes input patterns ∷ steps) a =
    apart-run spec (step spec s (PunctComes input patterns)) steps (record { below = λ x i. (let b = a.below x i in omega (arith, b)); distinct = a.distinct; even = refl })
apart-run spec s (Take u ∷ steps) a = apart-run spec (step spec s (Take u)) steps a
apart-run spec s (Give u ∷ steps) a = apart-run spec (step spec s (Give u)) steps (record { below = a.below; distinct = a.distinct; even = refl })
apart-run spec s (Sweep input ∷ steps) a = apart-run spec (step spec s (Sweep input)) steps (record { below = a.below; distinct = a.distinct; even = refl })

-- ---- gives take nothing

gives-take : (n join : ℕ) (tickets us : List ℕ) → taken_over n (gives_at join tickets) us ≡ us
gives-take n join [] us = refl
gives-take n join (ticket ∷ tickets) us = gives-take n join tickets us

from-take : (n : ℕ) (nodes : List Node) (k m : ℕ) (us : List ℕ) → taken_over n (gives_from nodes k m) us ≡ us
from-take n nodes k zero us = refl
from-take n nodes k (suc m) us =
    let here = gives_at k (under_way_at nodes k) in
    taken-append n here (gives_from (nodes_from nodes here) (k + 1) m) us
    ∙ ap (taken_over n (gives_from (nodes_from nodes here) (k + 1) m)) (gives-take n k (under_way_at nodes k) us)
    ∙ from-take n (nodes_from nodes here) (k + 1) m us

-- what is given stays given
given-grows : (n : ℕ) (es : List Entry) (vs : List ℕ) → Within vs (given_over n es vs)
given-grows n [] vs u h = h
given-grows n (e ∷ es) vs u h = given-grows n es (given_by n e.event vs) u (go e.event)
  where
    both : (b : Bool) (ticket : ℕ) → has (cond b (ticket ∷ vs) vs) u ≡ true
    both true ticket = or_right (eqb ticket u) (has vs u) h
    both false ticket = h

    go : (event : Event) → has (given_by n event vs) u ≡ true
    go (Given join ticket) = both (eqb join n) ticket
    go (Arrive stream x) = h
    go (Taken join ticket) = h
    go (Swept join input) = h
    go Drain = h
    go Halt = h
    go (Look pending) = h
    go (Stopped stop) = h
    go Idle = h

-- each of these is given
gives-give : (n : ℕ) (tickets vs : List ℕ) (u : ℕ) → has tickets u ≡ true → has (given_over n (gives_at n tickets) vs) u ≡ true
gives-give n [] vs u h = absurd (false≢true h)
gives-give n (ticket ∷ tickets) vs u h = elim (or_cases (eqb ticket u) (has tickets u) h) [
  | inl e ↦ given-grows n (gives_at n tickets) (cond (eqb n n) (ticket ∷ vs) vs) u
      (subst (λ (b : Bool). has (cond b (ticket ∷ vs) vs) u ≡ true) (sym (eq-eqb n n refl)) (or_left (eqb ticket u) (has vs u) e))
  | inr k ↦ gives-give n tickets (cond (eqb n n) (ticket ∷ vs) vs) u k
]

-- ---- one plan

module _ (plan : List Node) (planned : ArePlanned [] plan) where
  distinct-under_way : (h : List Entry) (j : ℕ) → j < length plan → AreDistinct (under_way_at (nodes_from plan h) j)
  distinct-under_way h j lt = distinct-filter (has s.taken) (lacking s.given s.tuples) (lacking-distinct s.given s.tuples (apart (kind plan planned j lt)))
    where
      s : JoinState
      s = join_at (nodes_from plan h) j

      start-apart : AreApart start
      start-apart = record { below = λ x i. absurd i; distinct = tt; even = refl }

      apart : IsJoinAt plan j ⊎ IsNoJoin (operator_at plan j) → AreDistinct (map (λ x. x.ticket) s.tuples)
      apart (inl at) = subst (λ (z : JoinState). AreDistinct (map (λ x. x.ticket) z.tuples)) (sym (state-at plan planned h j lt at)) (apart-run at.spec start (join_steps_of plan h j) start-apart).distinct
      apart (inr none) = subst (λ (z : JoinState). AreDistinct (map (λ x. x.ticket) z.tuples)) (sym (no-state plan planned h j lt none)) tt

  -- a ticket is under way where it is taken and not given
  pub under-way : (h : List Entry) (j u : ℕ) → In u (under_way_at (nodes_from plan h) j) → (has (join_at (nodes_from plan h) j).taken u ≡ true) × (has (join_at (nodes_from plan h) j).given u ≡ false)
  under-way h j u i =
      let s : JoinState = join_at (nodes_from plan h) j in
      let k = In-filter (has s.taken) u (lacking s.given s.tuples) i in
      (k.1, (lacking-come s.given s.tuples u (in-has (lacking s.given s.tuples) u k.0)).1)

  gives-at : (us : List ℕ) (h : List Entry) (j : ℕ) → IsGoing plan h → j < length plan → AreDistinct us
      → ((u : ℕ) → In u us → (has (join_at (nodes_from plan h) j).taken u ≡ true) × (has (join_at (nodes_from plan h) j).given u ≡ false))
      → AreActsLegal (nodes_from plan h) (gives_at j us)
  gives-at [] h j g lt d f = tt
  gives-at (u ∷ us) h j g lt d f =
      acts-append N here (gives_at j us) first (subst (λ (ns : List Node). AreActsLegal ns (gives_at j us)) (nodes-append plan h here) (gives-at us (h ++ here) j (acts-follow plan h here g first).going lt d.1 later))
    where
      N : List Node
      N = nodes_from plan h

      here : List Entry
      here = plain (Given j u) ∷ []

      mine : (has (join_at N j).taken u ≡ true) × (has (join_at N j).given u ≡ false)
      mine = f u (inl refl)

      first : AreActsLegal N here
      first = (tt, refl, may-give plan planned h j u lt mine.0 mine.1, tt)

      more : ((join_at (nodes_from plan (h ++ here)) j).taken ≡ (join_at N j).taken) × ((join_at (nodes_from plan (h ++ here)) j).given ≡ cond (eqb j j) (u ∷ (join_at N j).given) (join_at N j).given)
      more = tickets-over plan planned h here j lt (join-there plan planned h j u lt mine.0)

      new : (v : ℕ) → In v us → has (u ∷ (join_at N j).given) v ≡ false
      new v i = false_from_ne_true (has (u ∷ (join_at N j).given) v) (λ t. elim (or_cases (eqb u v) (has (join_at N j).given v) t) [
        | inl e ↦ false≢true (sym d.0 ∙ in-has us u (subst (λ (w : ℕ). In w us) (sym (eqb-true u v e)) i))
        | inr k ↦ false≢true (sym (f v (inr i)).1 ∙ k)
      ])

      later : (v : ℕ) → In v us → (has (join_at (nodes_from plan (h ++ here)) j).taken v ≡ true) × (has (join_at (nodes_from plan (h ++ here)) j).given v ≡ false)
      later v i = (
        subst (λ (ts : List ℕ). has ts v ≡ true) (sym more.0) (f v (inr i)).0,
        ap (λ (ts : List ℕ). has ts v) more.1 ∙ ap (λ (b : Bool). has (cond b (u ∷ (join_at N j).given) (join_at N j).given) v) (eq-eqb j j refl) ∙ new v i,
      )

  -- the gives of one join
  gives-here : (h : List Entry) (k : ℕ) → IsGoing plan h → k < length plan → AreActsLegal (nodes_from plan h) (gives_at k (under_way_at (nodes_from plan h) k))
  gives-here h k g lt = gives-at (under_way_at (nodes_from plan h) k) h k g lt (distinct-under_way h k lt) (under-way h k)

  gives-from : (n k : ℕ) (h : List Entry) → IsGoing plan h → k + n ≡ length plan → AreActsLegal (nodes_from plan h) (gives_from (nodes_from plan h) k n)
  gives-from zero k h g e = tt
  gives-from (suc n) k h g e =
      let N : List Node = nodes_from plan h in
      let here : List Entry = gives_at k (under_way_at N k) in
      let acts : AreActsLegal N here = gives-here h k g (omega (arith, e)) in
      acts-append N here (gives_from (nodes_from N here) (k + 1) n) acts
      (subst (λ (ns : List Node). AreActsLegal ns (gives_from ns (k + 1) n)) (nodes-append plan h here) (gives-from n (k + 1) (h ++ here) (acts-follow plan h here g acts).going (omega (arith, e))))

  pub gives-allowed : (h : List Entry) → IsGoing plan h → AreActsLegal (nodes_from plan h) (gives (nodes_from plan h))
  gives-allowed h g = gives-from (length (nodes_from plan h)) 0 h g (omega (arith, length-from plan h))

  -- ---- behind them

  -- at one join all that is taken is given
  given-at : (h rest : List Entry) (k : ℕ) → IsGoing plan h → k < length plan → ((us : List ℕ) → taken_over k rest us ≡ us)
      → let all = h ++ (gives_at k (under_way_at (nodes_from plan h) k) ++ rest) in Within (join_at (nodes_from plan all) k).taken (join_at (nodes_from plan all) k).given
  given-at h rest k g lt still u t =
      subst (λ (vs : List ℕ). has vs u ≡ true) (sym over.1)
      (subst (λ (vs : List ℕ). has vs u ≡ true) (sym (given-append k here rest s.given)) (given-grows k rest (given_over k here s.given) u given))
    where
      s : JoinState
      s = join_at (nodes_from plan h) k

      way : List ℕ
      way = under_way_at (nodes_from plan h) k

      here : List Entry
      here = gives_at k way

      at : IsJoinAt plan k
      at = join-there plan planned (h ++ (here ++ rest)) k u lt t

      over : ((join_at (nodes_from plan (h ++ (here ++ rest))) k).taken ≡ taken_over k (here ++ rest) s.taken) × ((join_at (nodes_from plan (h ++ (here ++ rest))) k).given ≡ given_over k (here ++ rest) s.given)
      over = tickets-over plan planned h (here ++ rest) k lt at

      before : has s.taken u ≡ true
      before =
          subst (λ (us : List ℕ). has us u ≡ true)
          (over.0 ∙ taken-append k here rest s.taken ∙ ap (taken_over k rest) (gives-take k k way s.taken) ∙ still s.taken) t

      given : has (given_over k here s.given) u ≡ true
      given = elim (cases_Bool (has (lacking s.given s.tuples) u)) [
        | inl l ↦ gives-give k way s.given u (in-has way u (In-filter_from (has s.taken) u (lacking s.given s.tuples) (has-in (lacking s.given s.tuples) u l) before))
        | inr l ↦ given-grows k here s.given u (lacking-none s.given s.tuples u (taken-came plan planned h k g.legal lt at u before) l)
      ]

  given-from : (n k : ℕ) (h : List Entry) → IsGoing plan h → k + n ≡ length plan → (m : ℕ) → k ≤ m → m < length plan
      → let all = h ++ gives_from (nodes_from plan h) k n in Within (join_at (nodes_from plan all) m).taken (join_at (nodes_from plan all) m).given
  given-from zero k h g e m le lt = absurd (omega (arith, e, le, lt))
  given-from (suc n) k h g e m le lt = elim (cases_eq k m) [
    | inl q ↦ subst (λ (i : ℕ). Within (join_at (nodes_from plan all) i).taken (join_at (nodes_from plan all) i).given) q (given-at h (gives_from (nodes_from N here) (k + 1) n) k g (omega (arith, e)) (from-take k (nodes_from N here) (k + 1) n))
    | inr ne ↦ subst (λ (es : List Entry). Within (join_at (nodes_from plan es) m).taken (join_at (nodes_from plan es) m).given) same
        (given-from n (k + 1) (h ++ here) (acts-follow plan h here g (gives-here h k g (omega (arith, e)))).going (omega (arith, e)) m (omega (arith, le, ne)) lt)
  ]
    where
      N : List Node
      N = nodes_from plan h

      here : List Entry
      here = gives_at k (under_way_at N k)

      all : List Entry
      all = h ++ (here ++ gives_from (nodes_from N here) (k + 1) n)

      same : (h ++ here) ++ gives_from (nodes_from plan (h ++ here)) (k + 1) n ≡ all
      same = append_assoc h here (gives_from (nodes_from plan (h ++ here)) (k + 1) n) ∙ ap (λ (ns : List Node). h ++ (here ++ gives_from ns (k + 1) n)) (nodes-append plan h here)

  pub gives-even : (h : List Entry) → IsGoing plan h → EachTakeIsGiven plan (h ++ gives (nodes_from plan h))
  gives-even h g n lt = given-from (length (nodes_from plan h)) 0 h g (omega (arith, length-from plan h)) n (omega arith) lt
