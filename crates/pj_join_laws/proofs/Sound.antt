-- What holds of each state that legal steps reach.
use Rattle.std.proofs.Common.{ℕ, ◌+◌, ◌<◌, ◌≤◌, Bool, true, false, cond, ◌&&◌, ◌||◌, not, List, [], ◌∷◌, ◌++◌, ◌≡◌, ◌⊎◌, filter, length, refl, sym, ap, ◌∙◌, subst, inl, inr, eqb, arith}
use Rattle.std.proofs.lemmas.Bool.{and_parts, and_cases, or_parts, or_right, false≢true, eq-eqb, ne_eqb, cases_Bool, not-false}
use Rattle.std.proofs.lemmas.List.Elements.{filter-append}
use Rattle.pj_events.specs.Patterns.{matches_row}
use Rattle.pj_events.specs.Join.{In, TupleAt, PunctAt, JoinData, JoinState, Step, TupleComes, PunctComes, Take, Give, Sweep, start, inputs, arity, has, low, ripe, kept, is_held, new_tuple, new_punct, step, run, IsAllowed, AreLegalSteps, MayCome, AreCertified}
use Rattle.pj_join_laws.specs.Laws.{NeverNeeded}
use Rattle.pj_value.proofs.Members.{In-append_left, In-append_right, In-append_cases, In-filter, In-filter_from, filter-agree, filter-filter}
use Rattle.pj_join_laws.proofs.Forget.{least_open-le, least_open-below, least_open-from, Reached, WasForgotten, IsSound, ripe-low, stored-in, ripe-forgotten}

-- what has arrived or may come after a step had arrived or might come before it
pub reached-back : (spec : JoinData) (s : JoinState) (e : Step) → IsAllowed spec s e → (y : TupleAt) → Reached spec (step spec s e) y → Reached spec s y
reached-back spec s (TupleComes input row) a y (inl h) = go (In-append_cases y s.tuples (new_tuple s input row ∷ []) h)
  where
    here : MayCome spec s (new_tuple s input row)
    here = (omega arith, a.1, a.2)

    go : In y s.tuples ⊎ In y (new_tuple s input row ∷ []) → Reached spec s y
    go (inl k) = inl k
    go (inr (inl q)) = inr (subst (λ (z : TupleAt). MayCome spec s z) q here)
    go (inr (inr q)) = absurd q
reached-back spec s (TupleComes input row) a y (inr m) = inr (omega (arith, m.0), m.1, m.2)
reached-back spec s (PunctComes input patterns) a y (inl h) = inl h
reached-back spec s (PunctComes input patterns) a y (inr m) = inr (omega (arith, m.0), m.1, λ p hp e. m.2 p (In-append_left p s.puncts (new_punct s input patterns ∷ []) hp) e)
reached-back spec s (Take u) a y h = h
reached-back spec s (Give u) a y h = h
reached-back spec s (Sweep input) a y h = h

-- the low-water ticket never falls
pub low-mono : (spec : JoinData) (s : JoinState) (e : Step) → low s ≤ low (step spec s e)
low-mono spec s (TupleComes input row) =
    least_open-from s.given (s.next + 1) (low s) (s.tuples ++ new_tuple s input row ∷ []) (omega (arith, least_open-le s.given s.next s.tuples))
    (λ x h o. go x o (In-append_cases x s.tuples (new_tuple s input row ∷ []) h))
  where
    go : (x : TupleAt) → has s.given x.ticket ≡ false → In x s.tuples ⊎ In x (new_tuple s input row ∷ []) → low s ≤ x.ticket
    go x o (inl k) = least_open-below s.given s.next s.tuples x k o
    go x o (inr (inl q)) = subst (λ (z : TupleAt). low s ≤ z.ticket) q (least_open-le s.given s.next s.tuples)
    go x o (inr (inr q)) = absurd q
low-mono spec s (PunctComes input patterns) =
    least_open-from s.given (s.next + 1) (low s) s.tuples (omega (arith, least_open-le s.given s.next s.tuples)) (λ x h o. least_open-below s.given s.next s.tuples x h o)
low-mono spec s (Take u) = omega arith
low-mono spec s (Give u) =
    least_open-from (u ∷ s.given) s.next (low s) s.tuples (least_open-le s.given s.next s.tuples)
    (λ x h o. least_open-below s.given s.next s.tuples x h (or_parts (eqb u x.ticket) (has s.given x.ticket) o).1)
low-mono spec s (Sweep input) = omega arith

pub sound-start : (spec : JoinData) → IsSound spec start
sound-start spec = record {
  numbered = λ x h. absurd h;
  punct_numbered = λ p h. absurd h;
  fit = λ x h. absurd h;
  lawful = λ x p h k e l. absurd h;
  punct_fit = λ p h. absurd h;
  waits = λ p h. absurd h;
  keep = λ x. true;
  stored_is = refl;
  forgotten = λ x h e. absurd h;
}

-- what is forgotten stays so
forgotten-on : (spec : JoinData) (s : JoinState) (e : Step) → IsAllowed spec s e → (x : TupleAt) → WasForgotten spec s x → WasForgotten spec (step spec s e) x
forgotten-on spec s e a x f = (f.0, f.1, omega (arith, f.2, low-mono spec s e), λ parts comb inp reach y hy. f.3 parts comb inp (λ z hz. reached-back spec s e a z (reach z hz)) y hy)

pub sound-step : (spec : JoinData) (s : JoinState) (e : Step) → IsSound spec s → IsAllowed spec s e → IsSound spec (step spec s e)
sound-step spec s (Take u) i a = record {
  numbered = i.numbered;
  punct_numbered = i.punct_numbered;
  fit = i.fit;
  lawful = i.lawful;
  punct_fit = i.punct_fit;
  waits = i.waits;
  keep = i.keep;
  stored_is = i.stored_is;
  forgotten = λ x h e. forgotten-on spec s (Take u) a x (i.forgotten x h e);
}
sound-step spec s (Give u) i a = record {
  numbered = i.numbered;
  punct_numbered = i.punct_numbered;
  fit = i.fit;
  lawful = i.lawful;
  punct_fit = i.punct_fit;
  waits = i.waits;
  keep = i.keep;
  stored_is = i.stored_is;
  forgotten = λ x h e. forgotten-on spec s (Give u) a x (i.forgotten x h e);
}
sound-step spec s (PunctComes input patterns) i a = record {
  numbered = λ x h. omega (arith, i.numbered x h);
  punct_numbered = λ p h. elim (In-append_cases p s.puncts (new_punct s input patterns ∷ []) h) [
    | inl k ↦ omega (arith, i.punct_numbered p k)
    | inr k ↦ new p k
  ];
  fit = i.fit;
  lawful = λ x p h k e l. elim (In-append_cases p s.puncts (new_punct s input patterns ∷ []) k) [
    | inl m ↦ i.lawful x p h m e l
    | inr m ↦ absurd (omega (arith, l, i.numbered x h, late p m))
  ];
  punct_fit = λ p h. elim (In-append_cases p s.puncts (new_punct s input patterns ∷ []) h) [ inl k ↦ i.punct_fit p k | inr k ↦ fits' p k ];
  waits = wait (is_held s.stored (new_punct s input patterns));
  keep = i.keep;
  stored_is = i.stored_is;
  forgotten = λ x h e. forgotten-on spec s (PunctComes input patterns) a x (i.forgotten x h e);
}
  where
    late : (p : PunctAt) → In p (new_punct s input patterns ∷ []) → s.next ≤ p.ticket
    late p (inl q) = subst (λ (z : PunctAt). s.next ≤ z.ticket) q (omega arith)
    late p (inr q) = absurd q

    new : (p : PunctAt) → In p (new_punct s input patterns ∷ []) → p.ticket < s.next + 1
    new p (inl q) = subst (λ (z : PunctAt). z.ticket < s.next + 1) q (omega arith)
    new p (inr q) = absurd q

    fits' : (p : PunctAt) → In p (new_punct s input patterns ∷ []) → (p.input < inputs spec) × (length p.patterns ≡ arity spec p.input)
    fits' p (inl q) = subst (λ (z : PunctAt). (z.input < inputs spec) × (length z.patterns ≡ arity spec z.input)) q a
    fits' p (inr q) = absurd q

    wait : (b : Bool) (p : PunctAt) → In p (cond b (s.waiting ++ new_punct s input patterns ∷ []) s.waiting) → In p (s.puncts ++ new_punct s input patterns ∷ [])
    wait true p h = elim (In-append_cases p s.waiting (new_punct s input patterns ∷ []) h) [
      | inl k ↦ In-append_left p s.puncts (new_punct s input patterns ∷ []) (i.waits p k)
      | inr k ↦ In-append_right p s.puncts (new_punct s input patterns ∷ []) k
    ]
    wait false p h = In-append_left p s.puncts (new_punct s input patterns ∷ []) (i.waits p h)
sound-step spec s (TupleComes input row) i a = record {
  numbered = λ x h. elim (arrived x h) [ inl k ↦ omega (arith, i.numbered x k) | inr q ↦ subst (λ (z : TupleAt). z.ticket < s.next + 1) q (omega arith) ];
  punct_numbered = λ p h. omega (arith, i.punct_numbered p h);
  fit = λ x h. elim (arrived x h) [ inl k ↦ i.fit x k | inr q ↦ subst (λ (z : TupleAt). (z.input < inputs spec) × (length z.row ≡ arity spec z.input)) q (a.0, a.1) ];
  lawful = λ x p h k e l. elim (arrived x h) [ inl m ↦ i.lawful x p m k e l | inr q ↦ subst (λ (z : TupleAt). matches_row p.patterns z.row ≡ false) q (a.2 p k (e ∙ ap (λ (z : TupleAt). z.input) (sym q))) ];
  punct_fit = i.punct_fit;
  waits = i.waits;
  keep = keep';
  stored_is = ap (λ (xs : List TupleAt). xs ++ x₀ ∷ []) (i.stored_is ∙ filter-agree i.keep keep' s.tuples old) ∙ ap (λ (xs : List TupleAt). filter keep' s.tuples ++ xs) last ∙ sym (filter-append keep' s.tuples (x₀ ∷ []));
  forgotten = λ x h e. elim (arrived x h) [
    | inl k ↦ forgotten-on spec s (TupleComes input row) a x (i.forgotten x k (old x k ∙ e))
    | inr q ↦ absurd (false≢true (sym e ∙ ap keep' (sym q) ∙ kept-new))
  ];
}
  where
    x₀ : TupleAt
    x₀ = new_tuple s input row

    keep' : TupleAt → Bool
    keep' x = i.keep x || eqb x.ticket s.next

    arrived : (x : TupleAt) → In x (s.tuples ++ x₀ ∷ []) → In x s.tuples ⊎ (x₀ ≡ x)
    arrived x h = elim (In-append_cases x s.tuples (x₀ ∷ []) h) [ inl k ↦ inl k | inr k ↦ elim k [ inl q ↦ inr q | inr q ↦ absurd q ] ]

    kept-new : keep' x₀ ≡ true
    kept-new = or_right (i.keep x₀) (eqb s.next s.next) (eq-eqb s.next s.next refl)

    last : x₀ ∷ [] ≡ filter keep' (x₀ ∷ [])
    last = ap (λ (b : Bool). cond b (x₀ ∷ []) []) (sym kept-new)

    old : (x : TupleAt) → In x s.tuples → i.keep x ≡ keep' x
    old x h = go (i.keep x) (eqb x.ticket s.next) (ne_eqb x.ticket s.next (λ q. let l : x.ticket < s.next = i.numbered x h in let n : s.next < s.next = omega arith in omega arith))
      where
        go : (b c : Bool) → c ≡ false → b ≡ (b || c)
        go true c e = refl
        go false c e = sym e
sound-step spec s (Sweep input) i a = record {
  numbered = i.numbered;
  punct_numbered = i.punct_numbered;
  fit = i.fit;
  lawful = i.lawful;
  punct_fit = i.punct_fit;
  waits = λ p h. i.waits p (In-filter (λ (z : PunctAt). not (eqb z.input input) || is_held (kept spec s input) z) p s.waiting h).0;
  keep = λ x. i.keep x && left x;
  stored_is = ap (filter left) i.stored_is ∙ filter-filter i.keep left s.tuples;
  forgotten = λ x h e. elim (and_cases (i.keep x) (left x) e) [
    | inl k ↦ forgotten-on spec s (Sweep input) a x (i.forgotten x h k)
    | inr k ↦ let both = and_parts (eqb x.input input) (ripe spec s x) (not-false ((eqb x.input input) && ripe spec s x) k) in
        forgotten-on spec s (Sweep input) a x (low s, ripe-low spec s x both.1, le_self (low s), ripe-forgotten spec s a.1 i x h both.1)
  ];
}
  where
    left : TupleAt → Bool
    left x = not (eqb x.input input && ripe spec s x)

    le_self : (n : ℕ) → n ≤ n
    le_self n = omega arith

pub sound-run : (spec : JoinData) (s : JoinState) (es : List Step) → IsSound spec s → AreLegalSteps spec s es → IsSound spec (run spec s es)
sound-run spec s [] i l = i
sound-run spec s (e ∷ es) i l = sound-run spec (step spec s e) es (sound-step spec s e i l.0) l.1

pub run-append : (spec : JoinData) (s : JoinState) (xs ys : List Step) → run spec s (xs ++ ys) ≡ run spec (run spec s xs) ys
run-append spec s [] ys = refl
run-append spec s (x ∷ xs) ys = run-append spec (step spec s x) xs ys

pub legal-more : (spec : JoinData) (s : JoinState) (steps : List Step) (e : Step) → AreLegalSteps spec s steps → IsAllowed spec (run spec s steps) e → AreLegalSteps spec s (steps ++ e ∷ [])
legal-more spec s [] e l a = (a, tt)
legal-more spec s (d ∷ steps) e l a = (l.0, legal-more spec (step spec s d) steps e l.1 a)

pub legal-front : (spec : JoinData) (s : JoinState) (before later : List Step) → AreLegalSteps spec s (before ++ later) → AreLegalSteps spec s before × AreLegalSteps spec (run spec s before) later
legal-front spec s [] later l = (tt, l)
legal-front spec s (e ∷ before) later l = let r = legal-front spec (step spec s e) before later l.1 in ((l.0, r.0), r.1)

pub reached-all : (spec : JoinData) (s : JoinState) (es : List Step) → AreLegalSteps spec s es → (y : TupleAt) → Reached spec (run spec s es) y → Reached spec s y
reached-all spec s [] l y h = h
reached-all spec s (e ∷ es) l y h = reached-back spec s e l.0 y (reached-all spec (step spec s e) es l.1 y h)

pub low-run : (spec : JoinData) (s : JoinState) (es : List Step) → low s ≤ low (run spec s es)
low-run spec s [] = omega arith
low-run spec s (e ∷ es) = omega (arith, low-mono spec s e, low-run spec (step spec s e) es)

-- a row that a sweep removes is ripe
removed-ripe : (spec : JoinData) (s : JoinState) (input : ℕ) (x : TupleAt) → In x s.stored → ¬ In x (kept spec s input) → ripe spec s x ≡ true
removed-ripe spec s input x h gone = elim (cases_Bool (eqb x.input input && ripe spec s x)) [
  | inl t ↦ (and_parts (eqb x.input input) (ripe spec s x) t).1
  | inr f ↦ absurd (gone (In-filter_from (λ (z : TupleAt). not (eqb z.input input && ripe spec s z)) x s.stored h (ap not f)))
]

pub never-needed : (spec : JoinData) → AreCertified spec → NeverNeeded spec
never-needed spec certs before input later legal i legal' x hx gone parts comb inp arrived =
    ripe-forgotten spec s certs sound x (stored-in spec s sound x hx).0 (removed-ripe spec s input x hx gone) parts comb inp
    (λ z hz. reached-back spec s (Sweep input) (i, certs) z (reached-all spec (step spec s (Sweep input)) later legal' z (inl (arrived z hz))))
  where
    s : JoinState
    s = run spec start before

    sound : IsSound spec s
    sound = sound-run spec start before (sound-start spec) legal
