-- Takes, gives, sweeps and drains that are allowed behind a history: single ones, all probes, and all sweeps.
use Rattle.std.proofs.Common.{ℕ, zero, suc, ◌+◌, ◌<◌, Bool, true, false, cond, List, [], ◌∷◌, ◌++◌, ◌≡◌, Some, length, refl, sym, ap, ◌∙◌, subst, inl, inr, eqb, arith, append-nil}
use Rattle.std.proofs.lemmas.Bool.{eq-eqb, false≢true, false_from_ne_true, or_left}
use Rattle.pj_pattern.specs.declared.element.Element.{Element}
use Rattle.pj_pattern.specs.declared.element.Element.TheVariants.{Tuple, Punct}
use Rattle.pj_events.specs.declared.events.Entry.{Entry}
use Rattle.pj_events.specs.declared.events.Event.TheVariants.{Take as Taken, Sweep as Swept, Drain}
use Rattle.pj_events.specs.Join.{In, IsAllowed, JoinState, Step, Take, Give, Sweep, has, inputs}
use Rattle.pj_events.specs.KeptState.{lacking}
use Rattle.pj_events.specs.Plan.{Act, ArePlanned, IsOwn, IsStepAllowed, Join, MayAct, Node, Operator, Stream, Select, Project, Union, Group, operator_at}
use Rattle.pj_events.specs.History.{IsLegal, IsOn, Reached, begun, data_at, data_in, join_at, nodes_from, reached_from, reached_of}
use Rattle.pj_events.specs.Outcomes.{elements_of}
use Rattle.pj_events.specs.OneThread.{Pending, Place, first_of, follow_up, next_from, next_probe, pending_at, places_from, plain, probes, probes_at, probes_from, sweeps_at}
use Rattle.pj_laws.specs.HistoryLaws.{AllAreCertified}
use Rattle.pj_laws.specs.Seats.{HasInput, IsInputOf}
use Rattle.pj_join_laws.proofs.Tickets.{lacking-come}
use Rattle.pj_laws.proofs.Held.{sweep-allowed}
use Rattle.pj_laws.proofs.Histories.{legal-append, nodes-append, reached-append, reached-nodes}
use Rattle.pj_laws.proofs.JoinRuns.{join-runs}
use Rattle.pj_laws.proofs.NextProbe.{pending-left}
use Rattle.pj_laws.proofs.OneRun.{IsStill, acts-still, all-places, elements-append}
use Rattle.pj_laws.proofs.Probes.{AreActsLegal, acts-append, length-from}
use Rattle.pj_laws.proofs.SweptRun.{places-same}
use Rattle.pj_script.specs.Playing.{finished}
use Rattle.pj_script_laws.proofs.Tickets.{IsJoinAt, given-taken, join-there, kind, no-state, state-at, tickets-over}

-- ---- histories that go on

-- the history is legal, and nothing stopped
pub record IsGoing (plan : List Node) (history : List Entry) : Type 0 where
  pub legal : IsLegal plan history
  pub on : IsOn (reached_of false plan history)

-- these entries may follow the history, close no stream and bring nothing to one
pub record Follow (plan : List Node) (history entries : List Entry) : Type 0 where
  pub going : IsGoing plan (history ++ entries)
  pub closed : (reached_of false plan (history ++ entries)).closed ≡ (reached_of false plan history).closed
  pub elements : (stream : ℕ) → elements_of stream (history ++ entries) ≡ elements_of stream history

pub acts-follow : (plan : List Node) (h es : List Entry) → IsGoing plan h → AreActsLegal (nodes_from plan h) es → Follow plan h es
acts-follow plan h es g acts = record {
  going = record { legal = legal-append (begun plan) h es g.legal still.legal; on = subst IsOn (sym cut) still.on };
  closed = ap (λ (r : Reached). r.closed) cut ∙ still.closed;
  elements = λ s. elements-append s h es ∙ ap (λ (xs : List Element). elements_of s h ++ xs) (still.elements s) ∙ append-nil (elements_of s h);
}
  where
    cut : reached_of false plan (h ++ es) ≡ reached_from false (reached_of false plan h) es
    cut = reached-append false (begun plan) h es

    still : IsStill (reached_of false plan h) es
    still = acts-still (reached_of false plan h) es g.on (subst (λ (ns : List Node). AreActsLegal ns es) (sym (reached-nodes false (begun plan) h)) acts)

-- a drain behind entries that may follow
pub and-drain : (nodes : List Node) (es : List Entry) → AreActsLegal nodes es → AreActsLegal nodes (es ++ plain Drain ∷ [])
and-drain nodes es a = acts-append nodes es (plain Drain ∷ []) a (tt, refl, tt, tt)

-- ---- tickets that are pending

-- a node that has one is there
pending-bound : (nodes : List Node) (n u : ℕ) → has (pending_at nodes n) u ≡ true → n < length nodes
pending-bound [] n u h = absurd (false≢true h)
pending-bound (node ∷ nodes) zero u h = omega arith
pending-bound (node ∷ nodes) (suc n) u h = let r = pending-bound nodes n u h in omega arith

-- the next probe is of a ticket that is pending
next-from : (nodes : List Node) (k n : ℕ) (p : Pending) → next_from nodes k n ≡ Some p → has (pending_at nodes p.join) p.ticket ≡ true
next-from nodes k zero p e = cc
next-from nodes k (suc n) p e = go (pending_at nodes k) refl e (next-from nodes (k + 1) n p)
  where
    go : (us : List ℕ) → pending_at nodes k ≡ us → first_of k us (next_from nodes (k + 1) n) ≡ Some p → (next_from nodes (k + 1) n ≡ Some p → has (pending_at nodes p.join) p.ticket ≡ true) → has (pending_at nodes p.join) p.ticket ≡ true
    go [] w q ih = ih q
    go (u ∷ us) w q ih =
        let same : record { join = k; ticket = u } ≡ p = cc q in
        subst (λ (z : Pending). has (pending_at nodes z.join) z.ticket ≡ true) same (subst (λ (ts : List ℕ). has ts u ≡ true) (sym w) (or_left (eqb u u) (has us u) (eq-eqb u u refl)))

pub next-pending : (nodes : List Node) (p : Pending) → next_probe nodes ≡ Some p → has (pending_at nodes p.join) p.ticket ≡ true
next-pending nodes p e = next-from nodes 0 (length nodes) p e

-- ---- what settles a run

-- all probes, and a sweep of each input of each join with all probes after it
abbrev pub worked : List Node → List Entry
worked nodes = probes nodes ++ sweeps_at (nodes_from nodes (probes nodes)) (places_from 0 (nodes_from nodes (probes nodes)))

-- ---- one plan

module _ (plan : List Node) (planned : ArePlanned [] plan) where
  long : (h : List Entry) → length (nodes_from plan h) ≡ length plan
  long h = length-from plan h

  -- what a join allows as its own is allowed
  own-allowed : (h : List Entry) (j : ℕ) (st : Step) → j < length plan → (at : IsJoinAt plan j) → IsOwn st → IsAllowed at.spec (join_at (nodes_from plan h) j) st → IsStepAllowed (nodes_from plan h) (Act j st)
  own-allowed h j st lt at own may = (
    (let l = long h in omega (arith, l, lt)),
    subst (λ (o : Operator). MayAct o st) (sym ((join-runs plan planned).state h j at.spec lt at.starts))
        (own, subst (λ (s : JoinState). IsAllowed at.spec s st) (state-at plan planned h j lt at) may),
  )

  -- a ticket that is pending may be taken
  pub may-take : (h : List Entry) (j u : ℕ) → has (pending_at (nodes_from plan h) j) u ≡ true → IsStepAllowed (nodes_from plan h) (Act j (Take u))
  may-take h j u p = elim (kind plan planned j lt) [
    | inl at ↦ own-allowed h j (Take u) lt at tt (lacking-come s.taken s.tuples u p)
    | inr none ↦ absurd (false≢true (ap (λ (z : JoinState). has (lacking z.taken z.tuples) u) (sym (no-state plan planned h j lt none)) ∙ p))
  ]
    where
      s : JoinState
      s = join_at (nodes_from plan h) j

      lt : j < length plan
      lt = let b = pending-bound (nodes_from plan h) j u p in let l = long h in omega (arith, b, l)

  -- one that is taken and not given may be given
  pub may-give : (h : List Entry) (j u : ℕ) → j < length plan → has (join_at (nodes_from plan h) j).taken u ≡ true → has (join_at (nodes_from plan h) j).given u ≡ false
      → IsStepAllowed (nodes_from plan h) (Act j (Give u))
  may-give h j u lt t g = own-allowed h j (Give u) lt (join-there plan planned h j u lt t) tt (t, g)

  -- ---- all probes

  -- one ticket that is pending
  one-probe : (h : List Entry) (j u : ℕ) → IsGoing plan h → has (pending_at (nodes_from plan h) j) u ≡ true → AreActsLegal (nodes_from plan h) (probes_at j (u ∷ []))
  one-probe h j u g p = (tt, refl, take, (tt, refl, subst (λ (ns : List Node). IsStepAllowed ns (Act j (Give u))) (nodes-append plan h one) give, tt))
    where
      N : List Node
      N = nodes_from plan h

      one : List Entry
      one = plain (Taken j u) ∷ []

      lt : j < length plan
      lt = let b = pending-bound N j u p in let l = long h in omega (arith, b, l)

      take : IsStepAllowed N (Act j (Take u))
      take = may-take h j u p

      new : has (join_at N j).taken u ≡ false
      new = (lacking-come (join_at N j).taken (join_at N j).tuples u p).1

      at : IsJoinAt plan j
      at = elim (kind plan planned j lt) [ inl k ↦ k | inr none ↦ absurd (false≢true (ap (λ (z : JoinState). has (lacking z.taken z.tuples) u) (sym (no-state plan planned h j lt none)) ∙ p)) ]

      more : ((join_at (nodes_from plan (h ++ one)) j).taken ≡ cond (eqb j j) (u ∷ (join_at N j).taken) (join_at N j).taken) × ((join_at (nodes_from plan (h ++ one)) j).given ≡ (join_at N j).given)
      more = tickets-over plan planned h one j lt at

      give : IsStepAllowed (nodes_from plan (h ++ one)) (Act j (Give u))
      give =
          may-give (h ++ one) j u lt
          (subst (λ (ts : List ℕ). has ts u ≡ true) (sym more.0) (subst (λ (b : Bool). has (cond b (u ∷ (join_at N j).taken) (join_at N j).taken) u ≡ true) (sym (eq-eqb j j refl)) (or_left (eqb u u) (has (join_at N j).taken u) (eq-eqb u u refl))))
          (ap (λ (ts : List ℕ). has ts u) more.1 ∙ false_from_ne_true (has (join_at N j).given u) (λ t. false≢true (sym new ∙ given-taken plan planned h j g.legal lt at u t)))

  probes-at : (us : List ℕ) (h : List Entry) (j : ℕ) → IsGoing plan h → pending_at (nodes_from plan h) j ≡ us → AreActsLegal (nodes_from plan h) (probes_at j us)
  probes-at [] h j g e = tt
  probes-at (u ∷ us) h j g e =
      let N : List Node = nodes_from plan h in
      let both : List Entry = probes_at j (u ∷ []) in
      let acts = one-probe h j u g (subst (λ (ts : List ℕ). has ts u ≡ true) (sym e) (or_left (eqb u u) (has us u) (eq-eqb u u refl))) in
      acts-append N both (probes_at j us) acts
      (subst (λ (ns : List Node). AreActsLegal ns (probes_at j us)) (nodes-append plan h both)
      (probes-at us (h ++ both) j (acts-follow plan h both g acts).going (pending-left plan planned h j u us e)))

  probes-from : (n k : ℕ) (h : List Entry) → IsGoing plan h → AreActsLegal (nodes_from plan h) (probes_from (nodes_from plan h) k n)
  probes-from zero k h g = tt
  probes-from (suc n) k h g =
      let N : List Node = nodes_from plan h in
      let here : List Entry = probes_at k (pending_at N k) in
      let acts = probes-at (pending_at N k) h k g refl in
      acts-append N here (probes_from (nodes_from N here) (k + 1) n) acts
      (subst (λ (ns : List Node). AreActsLegal ns (probes_from ns (k + 1) n)) (nodes-append plan h here) (probes-from n (k + 1) (h ++ here) (acts-follow plan h here g acts).going))

  pub probes-allowed : (h : List Entry) → IsGoing plan h → AreActsLegal (nodes_from plan h) (probes (nodes_from plan h))
  probes-allowed h g = probes-from (length (nodes_from plan h)) 0 h g

  -- ---- sweeps

  -- an input of a join of the plan
  pub input-of : (j i : ℕ) → j < length plan → i < inputs (data_at plan j) → IsInputOf plan j i
  input-of j i lt below = (lt, go (operator_at plan j) below)
    where
      go : (o : Operator) → i < inputs (data_in o) → HasInput o i
      go (Join spec s) l = l
      go (Stream schema sent) l = absurd (omega (arith, l))
      go (Select test) l = absurd (omega (arith, l))
      go (Project columns) l = absurd (omega (arith, l))
      go (Union k u) l = absurd (omega (arith, l))
      go (Group spec rows) l = absurd (omega (arith, l))

  module _ (certified : AllAreCertified plan) where
    pub may-sweep : (h : List Entry) (j i : ℕ) → IsGoing plan h → IsInputOf plan j i → IsStepAllowed (nodes_from plan h) (Act j (Sweep i))
    may-sweep h j i g at = subst (λ (ns : List Node). IsStepAllowed ns (Act j (Sweep i))) (reached-nodes false (begun plan) h) (sweep-allowed plan planned certified h g.on j i at).1

    sweeps-at : (places : List Place) (h : List Entry) → IsGoing plan h → ((p : Place) → In p places → IsInputOf plan p.join p.input) → AreActsLegal (nodes_from plan h) (sweeps_at (nodes_from plan h) places)
    sweeps-at [] h g at = tt
    sweeps-at (place ∷ places) h g at =
        let N : List Node = nodes_from plan h in
        let here : List Entry = plain (Swept place.join place.input) ∷ [] in
        let first : AreActsLegal N here = (tt, refl, may-sweep h place.join place.input g (at place (inl refl)), tt) in
        let probed : AreActsLegal (nodes_from N here) (probes (nodes_from N here)) = subst (λ (ns : List Node). AreActsLegal ns (probes ns)) (nodes-append plan h here) (probes-allowed (h ++ here) (acts-follow plan h here g first).going) in
        let after : List Entry = here ++ probes (nodes_from N here) in
        let acts : AreActsLegal N after = acts-append N here (probes (nodes_from N here)) first probed in
        acts-append N after (sweeps_at (nodes_from N after) places) acts
        (subst (λ (ns : List Node). AreActsLegal ns (sweeps_at ns places)) (nodes-append plan h after) (sweeps-at places (h ++ after) (acts-follow plan h after g acts).going (λ p i. at p (inr i))))

    -- all probes, and a sweep of each input of each join with all probes after it
    pub work-allowed : (h : List Entry) → IsGoing plan h → AreActsLegal (nodes_from plan h) (worked (nodes_from plan h))
    work-allowed h g =
        acts-append N (probes N) (sweeps_at after (places_from 0 after)) probed
        (subst (λ (ns : List Node). AreActsLegal ns (sweeps_at ns (places_from 0 ns))) (nodes-append plan h (probes N))
        (sweeps-at (places_from 0 (nodes_from plan (h ++ probes N))) (h ++ probes N) (acts-follow plan h (probes N) g probed).going at))
      where
        N : List Node
        N = nodes_from plan h

        after : List Node
        after = nodes_from N (probes N)

        probed : AreActsLegal N (probes N)
        probed = probes-allowed h g

        at : (p : Place) → In p (places_from 0 (nodes_from plan (h ++ probes N))) → IsInputOf plan p.join p.input
        at p i = let k = all-places [] plan p (subst (λ (ps : List Place). In p ps) (places-same plan (h ++ probes N)) i) in input-of p.join p.input k.0 k.1

    pub finish-allowed : (h : List Entry) → IsGoing plan h → AreActsLegal (nodes_from plan h) (finished (nodes_from plan h))
    finish-allowed h g = and-drain (nodes_from plan h) (worked (nodes_from plan h)) (work-allowed h g)

    -- what follows an arrival
    pub follow-allowed : (h : List Entry) (e : Element) → IsGoing plan h → AreActsLegal (nodes_from plan h) (follow_up true (nodes_from plan h) e)
    follow-allowed h (Tuple row) g =
        let N : List Node = nodes_from plan h in
        and-drain N (probes N ++ []) (subst (AreActsLegal N) (sym (append-nil (probes N))) (probes-allowed h g))
    follow-allowed h (Punct patterns) g = finish-allowed h g
