-- Which stored tuples hold the punctuations back that wait, from step to step.
use Rattle.std.proofs.Common.{ℕ, ◌+◌, ◌<◌, arith, Bool, true, false, cond, not, ◌&&◌, ◌||◌, List, [], ◌∷◌, ◌++◌, ◌≡◌, ◌⊎◌, map, filter, refl, sym, ap, ap₂, ◌∙◌, subst, inl, inr, eqb}
use Rattle.std.proofs.lemmas.Bool.{and_parts, eq-eqb, eqb-true, false≢true, not-true}
use Rattle.pj_value.proofs.Members.{filter-all, In-append_cases, In-append_left, In-filter, In-filter_from, In-map, In-map_from, any_from}
use Rattle.pj_state.specs.declared.shared.Stored.{Stored}
use Rattle.pj_state.specs.Rising.{IsRising}
use Rattle.pj_events.specs.Patterns.{matches_row}
use Rattle.pj_events.specs.Join.{In, PunctAt, Sweep, TupleAt, has, is_held, of_input, widened}
use Rattle.pj_events.specs.KeptState.{kept_ripe, swept}
use Rattle.pj_waiting.specs.Holding.{AreFreed, AreHeldBy, IsHeldBy, IsListedIf, KeepsLists, StayHeld, WaitingView, is_listed, tickets_where, held_at}
use Rattle.pj_join.specs.Held.{AreHeld, AreHeldBehind, IsHolder, holds}
use Rattle.pj_rows.specs.Finding.{IsStaying, still_held}
use Rattle.pj_join.specs.Joins.{JoinView, after}
use Rattle.pj_waiting.specs.Letting.{lets_go, waiting_with}
use Rattle.pj_rows.specs.Tuples.{tuple_in}
use Rattle.pj_join.specs.Sweeping.{puncts_up, swept_off}
use Rattle.pj_waiting.proofs.Leaving.{tells_where}
use Rattle.pj_waiting.proofs.Holding.{filter-none}

-- ---- a step of the join

holder_among : (stored after : List TupleAt) (p : PunctAt) (t : ℕ) → ((x : TupleAt) → In x stored → In x after) → IsHolder stored p t → IsHolder after p t
holder_among stored after p t more (x, h, e, m) = (x, more x h, e, m)

-- a tuple comes
pub held_more : (next : ℕ) (stored : List TupleAt) (x : TupleAt) (w : WaitingView) → AreHeld next stored w → AreHeld (next + 1) (stored ++ x ∷ []) w
held_more next stored x w are = record {
  before = λ p h. let l = are.before p h in omega (arith, l);
  held = λ p h. let t = are.held p h in (t.0, holder_among stored (stored ++ x ∷ []) p t.0 (λ y i. In-append_left y stored (x ∷ []) i) t.1, t.2);
}

-- the same wait, and what was listed is
pub held_same : (next : ℕ) (stored : List TupleAt) (w w' : WaitingView) → w'.puncts ≡ w.puncts → KeepsLists w w' → AreHeld next stored w → AreHeld next stored w'
held_same next stored w w' same keeps are = record {
  before = λ p h. are.before p (back p h);
  held = λ p h. let t = are.held p (back p h) in (t.0, t.1, keeps (t.0, p.ticket) t.2);
}
  where
    back : (p : PunctAt) → In p w'.puncts → In p w.puncts
    back p h = subst (λ (ps : List PunctAt). In p ps) same h

-- none waits
pub held_none : (next : ℕ) (stored : List TupleAt) (w : WaitingView) → w.puncts ≡ [] → AreHeld next stored w
held_none next stored w none = record {
  before = λ p h. absurd (subst (λ (ps : List PunctAt). In p ps) none h);
  held = λ p h. absurd (subst (λ (ps : List PunctAt). In p ps) none h);
}

-- a row of an input is a blocker
row_holds : (stored : List TupleAt) (rows : List Stored) (input : ℕ) (p : PunctAt) (s : Stored) → map (tuple_in input) rows ≡ of_input input stored → p.input ≡ input → In s rows → matches_row p.patterns s.row ≡ true → IsHolder stored p s.ticket
row_holds stored rows input p s side own i m = (
  tuple_in input s,
  (In-filter (λ y. eqb y.input input) (tuple_in input s) stored (subst (λ (xs : List TupleAt). In (tuple_in input s) xs) side (In-map_from (tuple_in input) s rows i))).0,
  refl,
  ap₂ (λ a b. a && b) (eq-eqb input p.input (sym own)) m,
)

-- a punctuation comes
pub hears : (next : ℕ) (stored : List TupleAt) (rows : List Stored) (input : ℕ) (w w' : WaitingView) (p : PunctAt) → map (tuple_in input) rows ≡ of_input input stored → p.input ≡ input → p.ticket ≡ next
    → w'.puncts ≡ waiting_with (still_held rows [] p.patterns) w.puncts p → KeepsLists w w' → IsListedIf (still_held rows [] p.patterns) rows p.patterns p.ticket w' → AreHeld next stored w → AreHeld (next + 1) stored w'
hears next stored rows input w w' p side own last on keeps listed are = go (still_held rows [] p.patterns) on listed
  where
    old : (q : PunctAt) → In q w.puncts → (q.ticket < next + 1) × ((t : ℕ) × IsHolder stored q t × (is_listed w' (t, q.ticket) ≡ true))
    old q h = let l = are.before q h in let t = are.held q h in (omega (arith, l), (t.0, t.1, keeps (t.0, q.ticket) t.2))

    go : (b : Bool) → w'.puncts ≡ waiting_with b w.puncts p → IsListedIf b rows p.patterns p.ticket w' → AreHeld (next + 1) stored w'
    go true more (t, (s, i, e, m), there) = record { before = λ q h. (each q (cases q h)).0; held = λ q h. (each q (cases q h)).1 }
      where
        cases : (q : PunctAt) → In q w'.puncts → In q w.puncts ⊎ In q (p ∷ [])
        cases q h = In-append_cases q w.puncts (p ∷ []) (subst (λ (ps : List PunctAt). In q ps) more h)

        new : (p.ticket < next + 1) × ((n : ℕ) × IsHolder stored p n × (is_listed w' (n, p.ticket) ≡ true))
        new = (omega (arith, last), (t, subst (λ n. IsHolder stored p n) e (row_holds stored rows input p s side own i (and_parts (matches_row p.patterns s.row) true m).0), there))

        each : (q : PunctAt) → In q w.puncts ⊎ In q (p ∷ []) → (q.ticket < next + 1) × ((n : ℕ) × IsHolder stored q n × (is_listed w' (n, q.ticket) ≡ true))
        each q (inl h) = old q h
        each q (inr (inl same)) = subst (λ (r : PunctAt). (r.ticket < next + 1) × ((n : ℕ) × IsHolder stored r n × (is_listed w' (n, r.ticket) ≡ true))) same new
        each q (inr (inr k)) = absurd k
    go false same none = record { before = λ q h. (old q (back q h)).0; held = λ q h. (old q (back q h)).1 }
      where
        back : (q : PunctAt) → In q w'.puncts → In q w.puncts
        back q h = subst (λ (ps : List PunctAt). In q ps) same h

-- ---- a sweep

-- what the rows of an input hold back
pub held_rows : (next : ℕ) (stored : List TupleAt) (rows : List Stored) (input : ℕ) (w : WaitingView) → map (tuple_in input) rows ≡ of_input input stored → AreHeld next stored w → AreHeldBy rows input w
held_rows next stored rows input w side are = record { held = λ p h own. let t = are.held p h in (t.0, staying p t.0 own t.1, t.2) }
  where
    staying : (p : PunctAt) (t : ℕ) → p.input ≡ input → IsHolder stored p t → IsStaying rows [] p.patterns t
    staying p t own (x, h, e, m) = go (In-map (tuple_in input) x rows (subst (λ (xs : List TupleAt). In x xs) (sym side) (In-filter_from (λ y. eqb y.input input) x stored h of)))
      where
        parts : (eqb x.input p.input ≡ true) × (matches_row p.patterns x.row ≡ true)
        parts = and_parts (eqb x.input p.input) (matches_row p.patterns x.row) m

        of : eqb x.input input ≡ true
        of = eq-eqb x.input input (eqb-true x.input p.input parts.0 ∙ own)

        go : (s : Stored) × In s rows × (tuple_in input s ≡ x) → IsStaying rows [] p.patterns t
        go (s, i, same) = (s, i, ap (λ (y : TupleAt). y.ticket) same ∙ e, ap (λ (y : TupleAt). matches_row p.patterns y.row && true) same ∙ ap (λ b. b && true) parts.1)

-- ---- behind a sweep

-- each punctuation that waits on is listed under a tuple that is left
pub held_behind : (join : JoinView) (input : ℕ) (rows : List Stored) (gone goes : List ℕ) (freed : List (ℕ × ℕ)) (w w' : WaitingView) → map (tuple_in input) rows ≡ of_input input join.kept.stored
    → ((x : TupleAt) → In x join.kept.stored → has gone x.ticket ≡ (eqb x.input input && kept_ripe join.spec join.kept x)) → IsRising held_at w.puncts → goes ≡ tickets_where (lets_go rows gone input) w.puncts → AreFreed gone freed
    → AreHeld join.kept.next join.kept.stored w → w'.puncts ≡ w.puncts → KeepsLists w w' → StayHeld rows gone input w' → AreHeldBehind (swept join.spec join.kept input) goes freed w'
held_behind join input rows gone goes freed w w' side tells r goes-are of are same keeps stay p h waits = go (eqb p.input input) refl
  where
    Held : Type 0
    Held = (t : ℕ) × IsHolder (swept join.spec join.kept input) p t × (is_listed w' (t, p.ticket) ≡ true) × (In (t, p.ticket) freed → ⊥)

    inside : In p w.puncts
    inside = subst (λ (ps : List PunctAt). In p ps) same h

    left : (x : TupleAt) → In x join.kept.stored → has gone x.ticket ≡ false → In x (swept join.spec join.kept input)
    left x k f = In-filter_from (λ y. not (eqb y.input input && kept_ripe join.spec join.kept y)) x join.kept.stored k (ap not (sym (tells x k) ∙ f))

    -- a ticket that stays is not freed
    not-freed : (t : ℕ) → has gone t ≡ false → In (t, p.ticket) freed → ⊥
    not-freed t f k = false≢true (sym f ∙ any_from (λ n. eqb n t) gone t (of (t, p.ticket) k) (eq-eqb t t refl))

    own : p.input ≡ input → IsHeldBy rows gone w' p → Held
    own e (t, (s, i, same-ticket, m), listed) =
        let parts = and_parts (matches_row p.patterns s.row) (not (has gone s.ticket)) m in
        let stored = (In-filter (λ y. eqb y.input input) (tuple_in input s) join.kept.stored (subst (λ (xs : List TupleAt). In (tuple_in input s) xs) side (In-map_from (tuple_in input) s rows i))).0 in
        let there = not-true (has gone s.ticket) parts.1 in
        (t, (tuple_in input s, left (tuple_in input s) stored there, same-ticket, ap₂ (λ a b. a && b) (eq-eqb input p.input (sym e)) parts.0), listed, not-freed t (ap (has gone) (sym same-ticket) ∙ there))

    other : eqb p.input input ≡ false → (t : ℕ) × IsHolder join.kept.stored p t × (is_listed w (t, p.ticket) ≡ true) → Held
    other e (t, (x, k, same-ticket, m), listed) = (t, (x, left x k there, same-ticket, m), keeps (t, p.ticket) listed, not-freed t (ap (has gone) (sym same-ticket) ∙ there))
      where
        there : has gone x.ticket ≡ false
        there = tells x k ∙ ap (λ n. eqb n input && kept_ripe join.spec join.kept x) (eqb-true x.input p.input (and_parts (eqb x.input p.input) (matches_row p.patterns x.row) m).0) ∙ ap (λ b. b && kept_ripe join.spec join.kept x) e

    go : (b : Bool) → eqb p.input input ≡ b → Held
    go true e = own (eqb-true p.input input e) (stay p h (eqb-true p.input input e) (sym (tells_where (lets_go rows gone input) w.puncts goes p r goes-are inside) ∙ waits))
    go false e = other e (are.held p inside)

-- what a sweep leaves is listed under tuples that are left
pub held_left : (next : ℕ) (stored after : List TupleAt) (goes : List ℕ) (freed : List (ℕ × ℕ)) (w w' w'' : WaitingView) → AreHeld next stored w → w'.puncts ≡ w.puncts → w''.puncts ≡ filter (λ p. not (has goes p.ticket)) w'.puncts
    → ((q : ℕ × ℕ) → is_listed w' q ≡ true → (In q freed → ⊥) → is_listed w'' q ≡ true) → AreHeldBehind after goes freed w' → AreHeld next after w''
held_left next stored after goes freed w w' w'' are same left keeps behind = record {
  before = λ p h. are.before p (subst (λ (ps : List PunctAt). In p ps) same (inside p h).0);
  held = λ p h. let i = inside p h in let t = behind p i.0 (not-true (has goes p.ticket) i.1) in (t.0, t.1, keeps (t.0, p.ticket) t.2 t.3);
}
  where
    inside : (p : PunctAt) → In p w''.puncts → In p w'.puncts × (not (has goes p.ticket) ≡ true)
    inside p h = In-filter (λ q. not (has goes q.ticket)) p w'.puncts (subst (λ (ps : List PunctAt). In p ps) left h)

-- ---- where no tuple goes

-- a sweep changes nothing then
pub idle : (join : JoinView) (input : ℕ) (w : WaitingView) → swept_off join input ≡ [] → w.puncts ≡ join.kept.waiting → AreHeld join.kept.next join.kept.stored w → (join ≡ after join (Sweep input)) × (puncts_up join (Sweep input) ≡ [])
idle join input w none same are = (sym (ap₂ (λ (xs : List TupleAt) (ps : List PunctAt). record join { kept = record join.kept { stored = xs; waiting = ps } }) left on), ap (map (widened join.spec)) up)
  where
    goes : TupleAt → Bool
    goes x = eqb x.input input && kept_ripe join.spec join.kept x

    stays : (xs : List TupleAt) → filter goes xs ≡ [] → filter (λ x. not (goes x)) xs ≡ xs
    stays [] e = refl
    stays (x ∷ xs) e = go (goes x) e (stays xs)
      where
        go : (b : Bool) → cond b (x ∷ filter goes xs) (filter goes xs) ≡ [] → (filter goes xs ≡ [] → filter (λ y. not (goes y)) xs ≡ xs) → cond (not b) (x ∷ filter (λ y. not (goes y)) xs) (filter (λ y. not (goes y)) xs) ≡ x ∷ xs
        go true k ih = absurd (cc)
        go false k ih = ap (λ (ys : List TupleAt). x ∷ ys) (ih k)

    left : swept join.spec join.kept input ≡ join.kept.stored
    left = stays join.kept.stored none

    held : (p : PunctAt) → In p join.kept.waiting → is_held (swept join.spec join.kept input) p ≡ true
    held p h = ap (λ (xs : List TupleAt). is_held xs p) left ∙ by (are.held p (subst (λ (ps : List PunctAt). In p ps) (sym same) h))
      where
        by : (t : ℕ) × IsHolder join.kept.stored p t × (is_listed w (t, p.ticket) ≡ true) → is_held join.kept.stored p ≡ true
        by (t, (x, i, e, m), listed) = any_from (holds p) join.kept.stored x i m

    on : filter (λ p. not (eqb p.input input) || is_held (swept join.spec join.kept input) p) join.kept.waiting ≡ join.kept.waiting
    on = filter-all (λ p. not (eqb p.input input) || is_held (swept join.spec join.kept input) p) join.kept.waiting (λ p h. ap (λ b. not (eqb p.input input) || b) (held p h) ∙ or-true (not (eqb p.input input)))
      where
        or-true : (a : Bool) → (a || true) ≡ true
        or-true true = refl
        or-true false = refl

    up : filter (λ p. eqb p.input input && not (is_held (swept join.spec join.kept input) p)) join.kept.waiting ≡ []
    up = filter-none (λ p. eqb p.input input && not (is_held (swept join.spec join.kept input) p)) join.kept.waiting (λ p h. ap (λ b. eqb p.input input && not b) (held p h) ∙ and-false (eqb p.input input))
      where
        and-false : (a : Bool) → (a && false) ≡ false
        and-false true = refl
        and-false false = refl
