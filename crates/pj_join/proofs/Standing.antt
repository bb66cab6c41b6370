-- What a join keeps follows its legal steps.
use Rattle.std.proofs.Common.{ℕ, ◌<◌, Bool, true, false, cond, ◌||◌, ◌&&◌, not, List, [], ◌∷◌, ◌++◌, ◌≡◌, map, filter, flat_map, length, Option, Some, None, refl, sym, ap, ◌∙◌, subst, inl, inr, eqb, append_assoc}
use Rattle.std.proofs.lemmas.Bool.{eq-eqb, eqb-true, false≢true, or_left}
use Rattle.pj_events.specs.Join.{In, Value, JoinData, JoinState, TupleAt, Step, TupleComes, PunctComes, Take, Give, Sweep, start, run, has, low, inputs, arity, combinations, joined, results, AreCertified, IsAllowed, IsNew}
use Rattle.pj_events.specs.KeptState.{KeptState, kept_low, lacking}
use Rattle.pj_join_laws.specs.Laws.{StepsStand, StoredSuffice}
use Rattle.pj_join.specs.Joins.{JoinView, JoinTakes, StandsFor, StandsTaken, IsTaken, after, found_of}
use Rattle.pj_probe.specs.declared.probe.Found.{Found}
use Rattle.pj_join.specs.Handed.{JoinProbes, StandsProbed}
use Rattle.pj_events.specs.Patterns.{Pattern}
use Rattle.pj_join_laws.proofs.Tickets.{lacking-come}
use Rattle.pj_join_laws.proofs.Stand.{least-lacking}
use Rattle.pj_join_laws.proofs.Forget.{IsSound}
use Rattle.pj_join_laws.proofs.Results.{open-kept}
use Rattle.pj_join_laws.proofs.Sound.{legal-more, sound-run, sound-start}
use Rattle.pj_value.proofs.Members.{filter-agree, filter-filter}

-- an allowed step leads on
stands-more : (join : JoinView) (e : Step) (steps : List Step) → StepsStand join.spec → StandsFor join steps → IsAllowed join.spec (run join.spec start steps) e → StandsFor (after join e) (steps ++ e ∷ [])
stands-more join e steps law st a = (legal-more join.spec start steps e st.0 a, law steps e join.kept st.0 a st.1)

-- ---- which steps are allowed

-- a tuple's ticket that is not lacking is among these
has-lacking : (ns : List ℕ) (xs : List TupleAt) (x : TupleAt) → In x xs → has (lacking ns xs) x.ticket ≡ false → has ns x.ticket ≡ true
has-lacking ns [] x h f = absurd h
has-lacking ns (y ∷ xs) x h f = go (has ns y.ticket) refl h f (has-lacking ns xs x)
  where
    go : (b : Bool) → has ns y.ticket ≡ b → In x (y ∷ xs) → has (map (λ z. z.ticket) (cond (not b) (y ∷ filter (λ z. not (has ns z.ticket)) xs) (filter (λ z. not (has ns z.ticket)) xs))) x.ticket ≡ false → (In x xs → has (lacking ns xs) x.ticket ≡ false → has ns x.ticket ≡ true) → has ns x.ticket ≡ true
    go true e (inl k) g ih = subst (λ (z : TupleAt). has ns z.ticket ≡ true) k e
    go true e (inr k) g ih = ih k g
    go false e (inl k) g ih = absurd (false≢true (sym g ∙ or_left (eqb y.ticket x.ticket) (has (lacking ns xs) x.ticket) (eq-eqb y.ticket x.ticket (ap (λ (z : TupleAt). z.ticket) k))))
    go false e (inr k) g ih = ih k (right (eqb y.ticket x.ticket) g)
      where
        right : (c : Bool) → (c || has (lacking ns xs) x.ticket) ≡ false → has (lacking ns xs) x.ticket ≡ false
        right true r = absurd (false≢true (sym r))
        right false r = r

-- ---- the steps of a join

allowed-take : (join : JoinView) (u : ℕ) (steps : List Step) → StandsFor join steps → has join.kept.pending u ≡ true → IsAllowed join.spec (run join.spec start steps) (Take u)
allowed-take join u steps st t = lacking-come (run join.spec start steps).taken (run join.spec start steps).tuples u (subst (λ (k : KeptState). has k.pending u ≡ true) st.1 t)

allowed-give : (join : JoinView) (u : ℕ) (steps : List Step) → StandsFor join steps → IsTaken join.kept u → IsAllowed join.spec (run join.spec start steps) (Give u)
allowed-give join u steps st t = (
  subst (λ (n : ℕ). has (run join.spec start steps).taken n ≡ true) come.0.2 (has-lacking (run join.spec start steps).taken (run join.spec start steps).tuples come.0.0 come.0.1 (subst (λ (n : ℕ). has (lacking (run join.spec start steps).taken (run join.spec start steps).tuples) n ≡ false) (sym come.0.2) (subst (λ (k : KeptState). has k.pending u ≡ false) st.1 t.1))),
  come.1,
)
  where
    come : ((x : TupleAt) × In x (run join.spec start steps).tuples × (x.ticket ≡ u)) × (has (run join.spec start steps).given u ≡ false)
    come = lacking-come (run join.spec start steps).given (run join.spec start steps).tuples u (subst (λ (k : KeptState). has k.opened u ≡ true) st.1 t.0)

-- a tuple that fits and is new leads on
pub stands-tuple : (join new : JoinView) (input : ℕ) (row : List Value) → StepsStand join.spec → input < inputs join.spec → length row ≡ arity join.spec input → new ≡ after join (TupleComes input row)
    → IsNew join.kept.puncts input row → (steps : List Step) → StandsFor join steps → StandsFor new (steps ++ TupleComes input row ∷ [])
stands-tuple join new input row law i r e fresh steps st =
    subst (λ (v : JoinView). StandsFor v (steps ++ TupleComes input row ∷ [])) (sym e)
    (stands-more join (TupleComes input row) steps law st (i, r, subst (λ (k : KeptState). IsNew k.puncts input row) st.1 fresh))

-- a punctuation that fits leads on
pub stands-punct : (join new : JoinView) (input : ℕ) (patterns : List Pattern) → StepsStand join.spec → input < inputs join.spec → length patterns ≡ arity join.spec input → new ≡ after join (PunctComes input patterns)
    → (steps : List Step) → StandsFor join steps → StandsFor new (steps ++ PunctComes input patterns ∷ [])
stands-punct join new input patterns law i r e steps st =
    subst (λ (v : JoinView). StandsFor v (steps ++ PunctComes input patterns ∷ [])) (sym e)
    (stands-more join (PunctComes input patterns) steps law st (i, r))

-- a ticket that is taken leads on when it is given
pub stands-give : (join new : JoinView) (u : ℕ) → StepsStand join.spec → IsTaken join.kept u → new ≡ after join (Give u)
    → (steps : List Step) → StandsFor join steps → StandsFor new (steps ++ Give u ∷ [])
stands-give join new u law t e steps st =
    subst (λ (v : JoinView). StandsFor v (steps ++ Give u ∷ [])) (sym e) (stands-more join (Give u) steps law st (allowed-give join u steps st t))

-- a sweep leads on
pub stands-sweep : (join new : JoinView) (input : ℕ) → StepsStand join.spec → AreCertified join.spec → input < inputs join.spec → new ≡ after join (Sweep input)
    → (steps : List Step) → StandsFor join steps → StandsFor new (steps ++ Sweep input ∷ [])
stands-sweep join new input law certified i e steps st =
    subst (λ (v : JoinView). StandsFor v (steps ++ Sweep input ∷ [])) (sym e) (stands-more join (Sweep input) steps law st (i, certified))

-- a tuple that is not given is stored
open-stored : (spec : JoinData) (s : JoinState) → IsSound spec s → (u : ℕ) → has s.given u ≡ false → filter (λ x. eqb x.ticket u) s.stored ≡ filter (λ x. eqb x.ticket u) s.tuples
open-stored spec s i u o =
    ap (filter (λ x. eqb x.ticket u)) i.stored_is
    ∙ filter-filter i.keep (λ x. eqb x.ticket u) s.tuples
    ∙ filter-agree (λ x. i.keep x && eqb x.ticket u) (λ x. eqb x.ticket u) s.tuples (λ x h. both (i.keep x) (eqb x.ticket u) (λ e. open-kept spec s i x h (ap (has s.given) (eqb-true x.ticket u e) ∙ o)))
  where
    both : (a b : Bool) → (b ≡ true → a ≡ true) → (a && b) ≡ b
    both true b f = refl
    both false true f = f refl
    both false false f = refl

-- what is taken leads on, and the stored tuples give the results over all that arrived
pub stands-taken : (join new : JoinView) (answer : Option Found) → StepsStand join.spec → StoredSuffice join.spec → JoinTakes join new answer
    → (steps : List Step) → StandsFor join steps → StandsTaken new steps answer
stands-taken join new None law suffice t steps st = subst (λ (v : JoinView). StandsFor v steps) (sym t.1) st
stands-taken join new (Some found) law suffice t steps st =
    subst (λ (v : JoinView). StandsTaken v steps (Some found)) (sym t.changes) (
      stands-more join (Take found.ticket) steps law st (allowed-take join found.ticket steps st t.pending),
      ap (λ (f : Found). f.rows) t.finds
          ∙ ap (λ (k : KeptState). map joined (results join.spec k.stored k.stored found.ticket)) st.1
          ∙ ap (λ (xs : List TupleAt). map joined (flat_map (combinations join.spec (run join.spec start steps).stored) xs)) (open-stored join.spec (run join.spec start steps) (sound-run join.spec start steps (sound-start join.spec) st.0) found.ticket ungiven)
          ∙ ap (map joined) (suffice steps st.0 found.ticket ungiven),
    )
  where
    opened : has join.kept.opened found.ticket ≡ true
    opened = subst (λ (v : JoinView). has v.kept.opened found.ticket ≡ true) t.changes t.taken.0

    ungiven : has (run join.spec start steps).given found.ticket ≡ false
    ungiven = (lacking-come (run join.spec start steps).given (run join.spec start steps).tuples found.ticket (subst (λ (k : KeptState). has k.opened found.ticket ≡ true) st.1 opened)).1

-- what is taken and given at once leads on, and the stored tuples give the results over all that arrived
pub stands-probed : (join new : JoinView) (answer : Option ℕ) → StepsStand join.spec → StoredSuffice join.spec → JoinProbes join new answer
    → (steps : List Step) → StandsFor join steps → StandsProbed join new steps answer
stands-probed join new None law suffice p steps st = subst (λ (v : JoinView). StandsFor v steps) (sym p.1) st
stands-probed join new (Some u) law suffice p steps st = (
  subst (StandsFor new) (append_assoc steps (Take u ∷ []) (Give u ∷ [])) (stands-give (after join (Take u)) new u law p.0.taken p.1 (steps ++ Take u ∷ []) taken.0),
  taken.1,
)
  where
    taken : StandsTaken (after join (Take u)) steps (Some (found_of join u))
    taken = stands-taken join (after join (Take u)) (Some (found_of join u)) law suffice p.0 steps st

-- ---- the low-water ticket

-- the least ticket that is open is the low-water ticket
pub low-stands : (join : JoinView) (n : ℕ) → n ≡ kept_low join.kept → (steps : List Step) → StandsFor join steps → n ≡ low (run join.spec start steps)
low-stands join n e steps st = e ∙ ap kept_low st.1 ∙ least-lacking (run join.spec start steps).given (run join.spec start steps).next (run join.spec start steps).tuples
