-- A stored row that is ripe stays so.
use Rattle.std.proofs.Common.{ℕ, ◌≤◌, Bool, true, ◌&&◌, not, List, [], ◌∷◌, ◌≡◌, ◌⊎◌, map, flat_map, length, refl, sym, ap, ◌∙◌, subst, inl, inr, eqb, ltb, arith}
use Rattle.std.specs.List.{list_all}
use Rattle.std.proofs.lemmas.Bool.{and_parts, and_from, false≢true, eqb-true, cases_lt, ltb-true, lt-ltb}
use Rattle.pj_events.specs.Patterns.{matches_row, covers}
use Rattle.pj_events.specs.Join.{need_of, In, TupleAt, PunctAt, CertEntry, JoinData, JoinState, Demand, Step, TupleComes, PunctComes, Take, Give, Sweep, start, arity, cert_of, of_input, older, older_puncts, agree, demand, grown, need, covered, low, ripe, new_tuple, new_punct, step, run, IsNew, AreLegalSteps, AreCertified}
use Rattle.pj_join_laws.specs.Laws.{StaysRipe, RipeWhenCovered}
use Rattle.pj_value.proofs.Members.{In-append_left, In-append_cases, In-filter, In-filter_from, In-map, In-flat_map, all_at, all_from, any_at, any_from}
use Rattle.pj_join_laws.proofs.Matching.{AreInputs, asked-matches}
use Rattle.pj_join_laws.proofs.Forget.{need-more, covered-at, least_open-le, IsSound, stored-in, ripe-low, where-both}
use Rattle.pj_join_laws.proofs.Sound.{sound-start, sound-run, low-run}
use Rattle.pj_join_laws.specs.Walks.{IsWalk}
use Rattle.pj_join_laws.proofs.Walks.{certified_at}

-- the row cannot meet what these punctuations cover
abbrev pub IsBarred : JoinData → List PunctAt → TupleAt → Type 0
IsBarred spec puncts y = (length y.row ≡ arity spec y.input) × IsNew puncts y.input y.row

-- one more row is among those before, or cannot meet what was covered
shrink_each : (spec : JoinData) (rows : List TupleAt) (puncts : List PunctAt) (q : Demand → Bool) (rows' : List TupleAt)
    → ((y : TupleAt) → In y rows' → In y rows ⊎ IsBarred spec puncts y)
    → (e : CertEntry) (cert : List CertEntry) (known : List ℕ) (parts : List TupleAt) → IsWalk spec.shape (e ∷ cert) known → AreInputs known parts
    → list_all (covered puncts) (need spec.shape.classes rows (e ∷ cert) parts) ≡ true
    → ((y : TupleAt) → AreInputs (e.input ∷ known) (y ∷ parts) → list_all (covered puncts) (need spec.shape.classes rows cert (y ∷ parts)) ≡ true → list_all q (need spec.shape.classes rows' cert (y ∷ parts)) ≡ true)
    → (more : List TupleAt) → In more (grown spec.shape.classes rows' e parts) → list_all q (need spec.shape.classes rows' cert more) ≡ true
shrink_each spec rows puncts q rows' old e cert known parts w ks t ih more h =
    subst (λ (ps : List TupleAt). list_all q (need spec.shape.classes rows' cert ps) ≡ true) from.2 (elim (old y y-in.0) [
      | inl k ↦ ih y ks' (need-more (covered puncts) spec.shape.classes rows e cert parts y t k inp j)
      | inr b ↦ absurd (false≢true (sym (b.1 p.0 p.1 (p.2 ∙ sym inp)) ∙ hit b.0))
    ])
  where
    grew : In more (map (λ x. x ∷ parts) (of_input e.input rows')) × (agree spec.shape.classes more ≡ true)
    grew = In-filter (agree spec.shape.classes) more (map (λ x. x ∷ parts) (of_input e.input rows')) h

    from : (y : TupleAt) × In y (of_input e.input rows') × ((y ∷ parts) ≡ more)
    from = In-map (λ x. x ∷ parts) more (of_input e.input rows') grew.0

    y : TupleAt
    y = from.0

    y-in : In y rows' × (eqb y.input e.input ≡ true)
    y-in = In-filter (λ x. eqb x.input e.input) y rows' from.1

    inp : y.input ≡ e.input
    inp = eqb-true y.input e.input y-in.1

    j : agree spec.shape.classes (y ∷ parts) ≡ true
    j = subst (λ (ps : List TupleAt). agree spec.shape.classes ps ≡ true) (sym from.2) grew.1

    ks' : AreInputs (e.input ∷ known) (y ∷ parts)
    ks' k (inl r) = (y, inl refl, inp ∙ r)
    ks' k (inr m) = let r = ks k m in (r.0, inr r.1, r.2)

    p : (r : PunctAt) × In r puncts × (r.input ≡ e.input) × (covers r.patterns (demand spec.shape.classes e parts).instance ≡ true)
    p = covered-at puncts (demand spec.shape.classes e parts) (and_parts (covered puncts (demand spec.shape.classes e parts)) (list_all (covered puncts) (flat_map (need spec.shape.classes rows cert) (grown spec.shape.classes rows e parts))) t).0

    hit : length y.row ≡ arity spec y.input → matches_row p.0.patterns y.row ≡ true
    hit l = asked-matches spec.shape.classes parts known y e.input e.marks p.0.patterns inp j ks w.2 (l ∙ ap (arity spec) inp ∙ sym w.1) p.3

-- what is asked for over rows, each of which was there before or cannot meet what was covered, is covered
pub shrink : (spec : JoinData) (rows : List TupleAt) (puncts : List PunctAt) (q : Demand → Bool) (rows' : List TupleAt)
    → ((y : TupleAt) → In y rows' → In y rows ⊎ IsBarred spec puncts y)
    → ((d : Demand) → covered puncts d ≡ true → q d ≡ true)
    → (cert : List CertEntry) (known : List ℕ) (parts : List TupleAt) → IsWalk spec.shape cert known → AreInputs known parts
    → list_all (covered puncts) (need spec.shape.classes rows cert parts) ≡ true → list_all q (need spec.shape.classes rows' cert parts) ≡ true
shrink spec rows puncts q rows' old mono [] known parts w ks t = refl
shrink spec rows puncts q rows' old mono (e ∷ cert) known parts w ks t =
    and_from (q (demand spec.shape.classes e parts)) (list_all q (flat_map (need spec.shape.classes rows' cert) (grown spec.shape.classes rows' e parts)))
    (mono (demand spec.shape.classes e parts) (and_parts (covered puncts (demand spec.shape.classes e parts)) (list_all (covered puncts) (flat_map (need spec.shape.classes rows cert) (grown spec.shape.classes rows e parts))) t).0)
    (all_from q (flat_map (need spec.shape.classes rows' cert) (grown spec.shape.classes rows' e parts)) (λ d hd.
    let m = In-flat_map (need spec.shape.classes rows' cert) d (grown spec.shape.classes rows' e parts) hd in
    all_at q (need spec.shape.classes rows' cert m.0) d
    (shrink_each spec rows puncts q rows' old e cert known parts w ks t
    (λ y ks' t'. shrink spec rows puncts q rows' old mono cert (e.input ∷ known) (y ∷ parts) w.3 ks' t') m.0 m.1) m.2))

-- more punctuations cover more
covered-mono : (few many : List PunctAt) → ((p : PunctAt) → In p few → In p many) → (d : Demand) → covered few d ≡ true → covered many d ≡ true
covered-mono few many sub d t =
    let r = any_at (λ (p : PunctAt). eqb p.input d.input && covers p.patterns d.instance) few t in
    any_from (λ (p : PunctAt). eqb p.input d.input && covers p.patterns d.instance) many r.0 (sub r.0 r.1) r.2

pub puncts-on : (spec : JoinData) (s : JoinState) (es : List Step) (p : PunctAt) → In p s.puncts → In p (run spec s es).puncts
puncts-on spec s [] p h = h
puncts-on spec s (TupleComes input row ∷ es) p h = puncts-on spec (step spec s (TupleComes input row)) es p h
puncts-on spec s (PunctComes input patterns ∷ es) p h = puncts-on spec (step spec s (PunctComes input patterns)) es p (In-append_left p s.puncts (new_punct s input patterns ∷ []) h)
puncts-on spec s (Take u ∷ es) p h = puncts-on spec (step spec s (Take u)) es p h
puncts-on spec s (Give u ∷ es) p h = puncts-on spec (step spec s (Give u)) es p h
puncts-on spec s (Sweep input ∷ es) p h = puncts-on spec (step spec s (Sweep input)) es p h

-- what is stored was stored, or came since
stored-back : (spec : JoinData) (s : JoinState) (e : Step) (y : TupleAt) → In y (step spec s e).stored → In y s.stored ⊎ (s.next ≤ y.ticket)
stored-back spec s (TupleComes input row) y h = elim (In-append_cases y s.stored (new_tuple s input row ∷ []) h) [ inl k ↦ inl k | inr k ↦ inr (late k) ]
  where
    late : In y (new_tuple s input row ∷ []) → s.next ≤ y.ticket
    late (inl q) = subst (λ (z : TupleAt). s.next ≤ z.ticket) q (omega arith)
    late (inr q) = absurd q
stored-back spec s (PunctComes input patterns) y h = inl h
stored-back spec s (Take u) y h = inl h
stored-back spec s (Give u) y h = inl h
stored-back spec s (Sweep input) y h = inl (In-filter (λ (z : TupleAt). not (eqb z.input input && ripe spec s z)) y s.stored h).0

pub next-mono : (spec : JoinData) (s : JoinState) (e : Step) → s.next ≤ (step spec s e).next
next-mono spec s (TupleComes input row) = omega arith
next-mono spec s (PunctComes input patterns) = omega arith
next-mono spec s (Take u) = omega arith
next-mono spec s (Give u) = omega arith
next-mono spec s (Sweep input) = omega arith

stored-run : (spec : JoinData) (s : JoinState) (es : List Step) (y : TupleAt) → In y (run spec s es).stored → In y s.stored ⊎ (s.next ≤ y.ticket)
stored-run spec s [] y h = inl h
stored-run spec s (e ∷ es) y h = elim (stored-run spec (step spec s e) es y h) [
  | inl k ↦ stored-back spec s e y k
  | inr l ↦ inr (omega (arith, l, next-mono spec s e))
]

known-one : (x : TupleAt) → AreInputs (x.input ∷ []) (x ∷ [])
known-one x k (inl q) = (x, inl refl, q)
known-one x k (inr q) = absurd q

pub ripe-on : (spec : JoinData) (s : JoinState) (es : List Step) → AreCertified spec → IsSound spec s → AreLegalSteps spec s es → IsSound spec (run spec s es)
    → (x : TupleAt) → In x s.tuples → ripe spec s x ≡ true → ripe spec (run spec s es) x ≡ true
ripe-on spec s es certs i legal i' x hx t =
    and_from (ltb x.ticket (low s')) (list_all (covered (older_puncts (low s') s'.puncts)) (need_of spec (older (low s') s'.stored) x))
    (lt-ltb x.ticket (low s') (omega (arith, up, ripe-low spec s x t)))
    (where-both (agree spec.shape.classes (x ∷ [])) _ _ _ _
    (shrink spec (older (low s) s.stored) (older_puncts (low s) s.puncts) (covered (older_puncts (low s') s'.puncts)) (older (low s') s'.stored)
    rows (covered-mono (older_puncts (low s) s.puncts) (older_puncts (low s') s'.puncts) more) (cert_of spec x.input) (x.input ∷ []) (x ∷ [])
    (certified_at spec certs x.input (i.fit x hx).0).walk (known-one x))
    (and_parts (ltb x.ticket (low s)) (list_all (covered (older_puncts (low s) s.puncts)) (need_of spec (older (low s) s.stored) x)) t).1)
  where
    s' : JoinState
    s' = run spec s es

    up : low s ≤ low s'
    up = low-run spec s es

    low-next : low s ≤ s.next
    low-next = least_open-le s.given s.next s.tuples

    more : (p : PunctAt) → In p (older_puncts (low s) s.puncts) → In p (older_puncts (low s') s'.puncts)
    more p h =
        let q = In-filter (λ (z : PunctAt). ltb z.ticket (low s)) p s.puncts h in
        In-filter_from (λ (z : PunctAt). ltb z.ticket (low s')) p s'.puncts (puncts-on spec s es p q.0) (lt-ltb p.ticket (low s') (omega (arith, up, ltb-true p.ticket (low s) q.1)))

    rows : (y : TupleAt) → In y (older (low s') s'.stored) → In y (older (low s) s.stored) ⊎ IsBarred spec (older_puncts (low s) s.puncts) y
    rows y h = elim (cases_lt y.ticket (low s)) [
      | inl lt ↦ elim (stored-run spec s es y stored') [
        | inl k ↦ inl (In-filter_from (λ (z : TupleAt). ltb z.ticket (low s)) y s.stored k (lt-ltb y.ticket (low s) lt))
        | inr ge ↦ absurd (omega (arith, lt, ge, low-next))
      ]
      | inr ge ↦ inr (
        (i'.fit y arrived).1,
        λ p hp e. let q = In-filter (λ (z : PunctAt). ltb z.ticket (low s)) p s.puncts hp in
            i'.lawful y p arrived (puncts-on spec s es p q.0) e (omega (arith, ge, ltb-true p.ticket (low s) q.1)),
      )
    ]
      where
        stored' : In y s'.stored
        stored' = (In-filter (λ (z : TupleAt). ltb z.ticket (low s')) y s'.stored h).0

        arrived : In y s'.tuples
        arrived = (stored-in spec s' i' y stored').0

pub stays-ripe : (spec : JoinData) → AreCertified spec → StaysRipe spec
stays-ripe spec certs before later legal legal' x hx t hx' =
    ripe-on spec (run spec start before) later certs sound legal' (sound-run spec (run spec start before) later sound legal') x (stored-in spec (run spec start before) sound x hx).0 t
  where
    sound : IsSound spec (run spec start before)
    sound = sound-run spec start before (sound-start spec) legal

pub ripe-when_covered : (spec : JoinData) → AreCertified spec → RipeWhenCovered spec
ripe-when_covered spec certs steps legal x hx lt t =
    and_from (ltb x.ticket (low s)) (list_all (covered (older_puncts (low s) s.puncts)) (need_of spec (older (low s) s.stored) x))
    (lt-ltb x.ticket (low s) lt)
    (where-both (agree spec.shape.classes (x ∷ [])) _ _ _ _
    (shrink spec (older (low s) s.tuples) (older_puncts (low s) s.puncts) (covered (older_puncts (low s) s.puncts)) (older (low s) s.stored)
    (λ y h. let q = In-filter (λ (z : TupleAt). ltb z.ticket (low s)) y s.stored h in
    inl (In-filter_from (λ (z : TupleAt). ltb z.ticket (low s)) y s.tuples (stored-in spec s sound y q.0).0 q.1))
    (λ d k. k) (cert_of spec x.input) (x.input ∷ []) (x ∷ []) (certified_at spec certs x.input (sound.fit x hx).0).walk (known-one x)) t)
  where
    s : JoinState
    s = run spec start steps

    sound : IsSound spec s
    sound = sound-run spec start steps (sound-start spec) legal
