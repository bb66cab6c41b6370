-- What a join hands up is lawful.
use Rattle.std.proofs.Common.{ℕ, ◌+◌, ◌<◌, Bool, true, false, cond, ◌&&◌, not, List, [], ◌∷◌, ◌++◌, ◌≡◌, ◌⊎◌, map, filter, length, take, drop, sum, get_or, refl, sym, ap, ◌∙◌, subst, inl, inr, eqb, arith, add-one}
use Rattle.pj_value.proofs.Members.{In-append_left, In-append_right, In-append_cases, In-filter, In-filter_from, In-map, In-flat_map, all_at, none_from, none_at}
use Rattle.std.proofs.lemmas.Bool.{and_parts, and_from, false≢true, eqb-true, eq-eqb, not-true, false_from_ne_true}
use Rattle.pj_events.specs.Patterns.{Pattern, all_wild, matches_row}
use Rattle.pj_events.specs.Join.{In, Value, arities, TupleAt, PunctAt, JoinData, JoinState, Step, TupleComes, PunctComes, Take, Give, Sweep, start, inputs, arity, agree, has, ripe, kept, is_held, new_tuple, new_punct, step, IsAllowed, AreLegalSteps, IsCombination, product, upto_from, candidates, combinations, results, Tuple, Punct, joined, widened, hands_up, outputs}
use Rattle.pj_join_laws.specs.Laws.{HandsUpLawfully}
use Rattle.pj_pattern.specs.Elements.{IsLawful, NoneMatches}
use Rattle.pj_pattern.proofs.Lawful.{lawful_append, no_punct, no_row, rows_lawful, puncts_lawful, none_from as none_matches}
use Rattle.pj_join_laws.proofs.Forget.{IsSound}
use Rattle.pj_join_laws.proofs.Sound.{sound-start, sound-step}
use Rattle.pj_join_laws.proofs.Results.{IsPicked, picked, candidates-own, is-combination, all-kept}
use Rattle.pj_join_laws.proofs.Widen.{HaveLengths, lengths-from, widen-matches}

-- ---- results

-- of which tuple a result of this ticket is, and what its tuples are
pub record IsResultOf (spec : JoinData) (s : JoinState) (u : ℕ) (c : List TupleAt) : Type 0 where
  pub own : TupleAt
  pub there : In own s.tuples × (eqb own.ticket u ≡ true)
  pub chosen : In c (product (map (candidates own s.tuples) (upto_from 0 (inputs spec)))) × (agree spec.shape.classes c ≡ true)
  pub combined : IsCombination spec c
  pub arrived : (y : TupleAt) → In y c → In y s.tuples
  pub fit : (y : TupleAt) → In y c → length y.row ≡ arity spec y.input
  pub picks : IsPicked (candidates own s.tuples) 0 (inputs spec) c
  pub long : HaveLengths (arities spec) c

pub result-of : (spec : JoinData) (s : JoinState) → IsSound spec s → (u : ℕ) (c : List TupleAt) → In c (results spec s.tuples s.tuples u) → IsResultOf spec s u c
result-of spec s i u c h = record {
  own = x;
  there = x-in;
  chosen = c-in;
  combined = comb.0;
  arrived = λ y hy. arrived y (comb.2 y hy);
  fit = fit;
  picks = picks;
  long = lengths-from 0 (arities spec) c picks.0 picks.1 (arity spec) (λ j. let q : j ≡ 0 + j = omega arith in ap (λ n. get_or (arities spec) n 0) q) fit;
}
  where
    from : (x : TupleAt) × In x (filter (λ y. eqb y.ticket u) s.tuples) × In c (combinations spec s.tuples x)
    from = In-flat_map (combinations spec s.tuples) c (filter (λ y. eqb y.ticket u) s.tuples) h

    x : TupleAt
    x = from.0

    x-in : In x s.tuples × (eqb x.ticket u ≡ true)
    x-in = In-filter (λ y. eqb y.ticket u) x s.tuples from.1

    c-in : In c (product (map (candidates x s.tuples) (upto_from 0 (inputs spec)))) × (agree spec.shape.classes c ≡ true)
    c-in = In-filter (agree spec.shape.classes) c (product (map (candidates x s.tuples) (upto_from 0 (inputs spec)))) from.2

    picks : IsPicked (candidates x s.tuples) 0 (inputs spec) c
    picks = picked (candidates x s.tuples) (λ j y k. (candidates-own x s.tuples j y k).0) 0 (inputs spec) c c-in.0

    comb : IsCombination spec c × In x c × ((y : TupleAt) → In y c → In y s.tuples ⊎ (x ≡ y))
    comb = is-combination spec s.tuples x c (i.fit x x-in.0).0 c-in.0 c-in.1

    arrived : (y : TupleAt) → In y s.tuples ⊎ (x ≡ y) → In y s.tuples
    arrived y (inl k) = k
    arrived y (inr q) = subst (λ (v : TupleAt). In v s.tuples) q x-in.0

    fit : (y : TupleAt) → In y c → length y.row ≡ arity spec y.input
    fit y hy = (i.fit y (arrived y (comb.2 y hy))).1

-- a result has a stored row of each input, and matches_row a widened punctuation only where that row matches_row it
pub result-clear : (spec : JoinData) (s : JoinState) → IsSound spec s → (p : PunctAt) → In p s.puncts → is_held s.stored p ≡ false
    → (u : ℕ) → has s.given u ≡ false → (c : List TupleAt) → In c (results spec s.tuples s.tuples u) → matches_row (widened spec p) (joined c) ≡ false
result-clear spec s i p hp clear u o c h =
    ap (λ (n : ℕ). matches_row (all_wild (sum (take p.input (arities spec))) ++ p.patterns ++ all_wild (sum (drop n (arities spec)))) (joined c)) (add-one p.input)
    ∙ widen-matches 0 (arities spec) c p.input z.0 p.patterns r.picks.0 r.long z.1 (z.2 ∙ zeroth) (fits.1 ∙ sym (r.fit z.0 z.1 ∙ ap (arity spec) z.2))
    ∙ false_from_ne_true (matches_row p.patterns z.0.row) (λ t. none_at (λ (y : TupleAt). eqb y.input p.input && matches_row p.patterns y.row) s.stored z.0 clear (stored z.0 z.1) (and_from (eqb z.0.input p.input) (matches_row p.patterns z.0.row) (eq-eqb z.0.input p.input z.2) t))
  where
    fits : (p.input < inputs spec) × (length p.patterns ≡ arity spec p.input)
    fits = i.punct_fit p hp

    zeroth : p.input ≡ 0 + p.input
    zeroth = omega arith

    r : IsResultOf spec s u c
    r = result-of spec s i u c h

    open' : has s.given r.own.ticket ≡ false
    open' = ap (has s.given) (eqb-true r.own.ticket u r.there.1) ∙ o

    z : (y : TupleAt) × In y c × (y.input ≡ p.input)
    z = r.combined.every p.input fits.0

    stored : (y : TupleAt) → In y c → In y s.stored
    stored y hy =
        subst (λ (ys : List TupleAt). In y ys) (sym i.stored_is)
        (In-filter_from i.keep y s.tuples (r.arrived y hy) (all_at i.keep c y (all-kept spec s i r.own r.there.0 open' c r.chosen.0 r.chosen.1) hy))

-- ---- after a punctuation

-- what is not held is not held after a step
held-on : (spec : JoinData) (s : JoinState) (e : Step) → IsAllowed spec s e → (p : PunctAt) → In p s.puncts → is_held s.stored p ≡ false → In p (step spec s e).puncts × (is_held (step spec s e).stored p ≡ false)
held-on spec s (TupleComes input row) a p hp o = (
  hp,
  none_from (λ (y : TupleAt). eqb y.input p.input && matches_row p.patterns y.row) (s.stored ++ new_tuple s input row ∷ []) (λ y h.
      false_from_ne_true (eqb y.input p.input && matches_row p.patterns y.row) (λ t. elim (In-append_cases y s.stored (new_tuple s input row ∷ []) h) [
        | inl k ↦ none_at (λ (y : TupleAt). eqb y.input p.input && matches_row p.patterns y.row) s.stored y o k t
        | inr k ↦ new y k (and_parts (eqb y.input p.input) (matches_row p.patterns y.row) t)
      ])),
)
  where
    new : (y : TupleAt) → In y (new_tuple s input row ∷ []) → (eqb y.input p.input ≡ true) × (matches_row p.patterns y.row ≡ true) → ⊥
    new y (inl q) t = false≢true (sym (a.2 p hp (sym (eqb-true y.input p.input t.0) ∙ ap (λ (v : TupleAt). v.input) (sym q))) ∙ ap (λ (v : TupleAt). matches_row p.patterns v.row) q ∙ t.1)
    new y (inr q) t = q
held-on spec s (PunctComes input patterns) a p hp o = (In-append_left p s.puncts (new_punct s input patterns ∷ []) hp, o)
held-on spec s (Take u) a p hp o = (hp, o)
held-on spec s (Give u) a p hp o = (hp, o)
held-on spec s (Sweep input) a p hp o = (
  hp,
  none_from (λ (y : TupleAt). eqb y.input p.input && matches_row p.patterns y.row) (kept spec s input) (λ y h.
      false_from_ne_true (eqb y.input p.input && matches_row p.patterns y.row) (λ t.
      none_at (λ (y : TupleAt). eqb y.input p.input && matches_row p.patterns y.row) s.stored y o (In-filter (λ (z : TupleAt). not (eqb z.input input && ripe spec s z)) y s.stored h).0 t)),
)

-- the rows of one step
step-clear : (spec : JoinData) (s : JoinState) (e : Step) → IsSound spec s → IsAllowed spec s e → (p : PunctAt) → In p s.puncts → is_held s.stored p ≡ false → (r : List Value) → In (Tuple r) (hands_up spec s e) → matches_row (widened spec p) r ≡ false
step-clear spec s (TupleComes input row) i a p hp o r h = absurd h
step-clear spec s (PunctComes input patterns) i a p hp o r h = absurd (go (not (is_held s.stored (new_punct s input patterns))) h)
  where
    go : (b : Bool) → In (Tuple r) (cond b (Punct (widened spec (new_punct s input patterns)) ∷ []) []) → ⊥
    go false k = k
    go true (inl q) = cc
    go true (inr k) = k
step-clear spec s (Take u) i a p hp o r h = absurd h
step-clear spec s (Give u) i a p hp o r h =
    let c = In-map (λ c. Tuple (joined c)) (Tuple r) (results spec s.tuples s.tuples u) h in
    subst (λ (row : List Value). matches_row (widened spec p) row ≡ false) (let q : joined c.0 ≡ r = cc c.2 in q) (result-clear spec s i p hp o u a.1 c.0 c.1)
step-clear spec s (Sweep input) i a p hp o r h =
    absurd (no_row (widened spec) (filter (λ (q : PunctAt). eqb q.input input && not (is_held (kept spec s input) q)) s.waiting) r h)

pub run-clear : (spec : JoinData) (s : JoinState) (es : List Step) → IsSound spec s → AreLegalSteps spec s es → (p : PunctAt) → In p s.puncts → is_held s.stored p ≡ false → (r : List Value) → In (Tuple r) (outputs spec s es) → matches_row (widened spec p) r ≡ false
run-clear spec s [] i l p hp o r h = absurd h
run-clear spec s (e ∷ es) i l p hp o r h =
    let on = held-on spec s e l.0 p hp o in
    elim (In-append_cases (Tuple r) (hands_up spec s e) (outputs spec (step spec s e) es) h) [
      | inl k ↦ step-clear spec s e i l.0 p hp o r k
      | inr k ↦ run-clear spec (step spec s e) es (sound-step spec s e i l.0) l.1 p on.0 on.1 r k
    ]

-- a punctuation that is handed up is not held from then on
handed-clear : (spec : JoinData) (s : JoinState) (e : Step) → IsSound spec s → (ps : List Pattern) → In (Punct ps) (hands_up spec s e)
    → (p : PunctAt) × (widened spec p ≡ ps) × In p (step spec s e).puncts × (is_held (step spec s e).stored p ≡ false)
handed-clear spec s (TupleComes input row) i ps h = absurd h
handed-clear spec s (PunctComes input patterns) i ps h = go (not (is_held s.stored p)) refl h
  where
    p : PunctAt
    p = new_punct s input patterns

    go : (b : Bool) → not (is_held s.stored p) ≡ b → In (Punct ps) (cond b (Punct (widened spec p) ∷ []) []) → (q : PunctAt) × (widened spec q ≡ ps) × In q (s.puncts ++ p ∷ []) × (is_held s.stored q ≡ false)
    go false e k = absurd k
    go true e (inl q) = (p, cc q, In-append_right p s.puncts (p ∷ []) (inl refl), not-true (is_held s.stored p) e)
    go true e (inr k) = absurd k
handed-clear spec s (Take u) i ps h = absurd h
handed-clear spec s (Give u) i ps h = absurd (no_punct joined (results spec s.tuples s.tuples u) ps h)
handed-clear spec s (Sweep input) i ps h =
    let r = In-map (λ q. Punct (widened spec q)) (Punct ps) (filter (λ (q : PunctAt). eqb q.input input && not (is_held (kept spec s input) q)) s.waiting) h in
    let f = In-filter (λ (q : PunctAt). eqb q.input input && not (is_held (kept spec s input) q)) r.0 s.waiting r.1 in
    (r.0, cc r.2, i.waits r.0 f.0, not-true (is_held (kept spec s input) r.0) (and_parts (eqb r.0.input input) (not (is_held (kept spec s input) r.0)) f.1).1)

step-lawful : (spec : JoinData) (s : JoinState) (e : Step) → IsLawful (hands_up spec s e)
step-lawful spec s (TupleComes input row) = tt
step-lawful spec s (PunctComes input patterns) = go (not (is_held s.stored (new_punct s input patterns)))
  where
    go : (b : Bool) → IsLawful (cond b (Punct (widened spec (new_punct s input patterns)) ∷ []) [])
    go false = tt
    go true = (tt, tt)
step-lawful spec s (Take u) = tt
step-lawful spec s (Give u) = rows_lawful joined (results spec s.tuples s.tuples u)
step-lawful spec s (Sweep input) = puncts_lawful (widened spec) (filter (λ (q : PunctAt). eqb q.input input && not (is_held (kept spec s input) q)) s.waiting)

pub run-lawful : (spec : JoinData) (s : JoinState) (es : List Step) → IsSound spec s → AreLegalSteps spec s es → IsLawful (outputs spec s es)
run-lawful spec s [] i l = tt
run-lawful spec s (e ∷ es) i l =
    lawful_append (hands_up spec s e) (outputs spec (step spec s e) es) (step-lawful spec s e)
    (run-lawful spec (step spec s e) es (sound-step spec s e i l.0) l.1)
    (λ ps h. let p = handed-clear spec s e i ps h in
    subst (λ (qs : List Pattern). NoneMatches qs (outputs spec (step spec s e) es)) p.1
    (none_matches (widened spec p.0) (outputs spec (step spec s e) es) (run-clear spec (step spec s e) es (sound-step spec s e i l.0) l.1 p.0 p.2 p.3)))

pub hands_up-lawfully : (spec : JoinData) → HandsUpLawfully spec
hands_up-lawfully spec steps legal = run-lawful spec start steps (sound-start spec) legal
