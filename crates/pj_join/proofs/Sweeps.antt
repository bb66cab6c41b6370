-- What a sweep makes of a join, and what it says of its history.
use Rattle.std.proofs.Common.{ℕ, ◌+◌, ◌<◌, Bool, true, false, cond, ◌&&◌, not, List, [], ◌∷◌, ◌++◌, ◌≡◌, map, filter, refl, sym, ap, ap₂, ◌∙◌, subst, eqb}
use Rattle.std.proofs.lemmas.Bool.{and_from, eq-eqb, false≢true}
use Rattle.pj_events.specs.Patterns.{Pattern}
use Rattle.pj_events.specs.Join.{In, JoinData, JoinState, TupleAt, PunctAt, Punct, Step, PunctComes, Sweep, AreLegalSteps, inputs, is_held, kept, low, ripe, run, start, widened}
use Rattle.pj_events.specs.KeptState.{KeptState, kept_low, kept_of, kept_ripe, swept}
use Rattle.pj_join_laws.specs.Laws.{NeverNeeded, RipeWhenCovered, StaysRipe}
use Rattle.pj_join_laws.proofs.Forget.{stored-in}
use Rattle.pj_join_laws.proofs.Sound.{run-append, sound-run, sound-start, legal-front}
use Rattle.pj_join_laws.proofs.Stand.{low-kept, swept-same, ripe-same}
use Rattle.pj_value.proofs.Members.{In-filter, In-filter_from, filter-agree}
use Rattle.pj_join.specs.Joins.{JoinView, StandsFor, after}
use Rattle.pj_join.specs.Insides.{made_with, seen}
use Rattle.pj_waiting.specs.Letting.{going_at_once, waiting_with}
use Rattle.pj_join.specs.Sweeping.{GoesWhereCovered, HandsUp, IsForgotten, StaysRipeUntil, next_punct, puncts_at_once, puncts_up, swept_off}

-- ---- what goes up

map-map : {A B C : Type 0} (g : B → C) (f : A → B) (xs : List A) → map g (map f xs) ≡ map (λ x. g (f x)) xs
map-map g f [] = refl
map-map {A} {B} {C} g f (x ∷ xs) = ap (λ (ys : List C). g (f x) ∷ ys) (map-map g f xs)

pub hands-sweep : (join : JoinView) (input : ℕ) (steps : List Step) → StandsFor join steps → HandsUp join steps (Sweep input)
hands-sweep join input steps st =
    map-map Punct (widened join.spec) (filter (λ p. eqb p.input input && not (is_held (swept join.spec join.kept input) p)) join.kept.waiting)
    ∙ ap (λ (k : KeptState). map (λ p. Punct (widened join.spec p)) (filter (λ p. eqb p.input input && not (is_held (swept join.spec k input) p)) k.waiting)) st.1
    ∙ ap (λ (xs : List TupleAt). map (λ p. Punct (widened join.spec p)) (filter (λ p. eqb p.input input && not (is_held xs p)) (run join.spec start steps).waiting)) (swept-same join.spec (run join.spec start steps) input)

pub hands-punct : (join : JoinView) (input : ℕ) (patterns : List Pattern) (steps : List Step) → StandsFor join steps → HandsUp join steps (PunctComes input patterns)
hands-punct join input patterns steps st =
    ap (λ (k : KeptState). map Punct (at-once (not (is_held k.stored (come k))) (come k))) st.1
    ∙ one (not (is_held (kept_of (run join.spec start steps)).stored (come (kept_of (run join.spec start steps))))) (come (kept_of (run join.spec start steps)))
  where
    come : KeptState → PunctAt
    come k = record { ticket = k.next; input = input; patterns = patterns }

    at-once : Bool → PunctAt → List (List Pattern)
    at-once b p = cond b (widened join.spec p ∷ []) []

    one : (b : Bool) (p : PunctAt) → map Punct (cond b (widened join.spec p ∷ []) []) ≡ cond b (Punct (widened join.spec p) ∷ []) []
    one true p = refl
    one false p = refl

-- ---- what a sweep says of the history

swept-ripe : (join : JoinView) (input : ℕ) (steps : List Step) → StandsFor join steps → (x : TupleAt) → In x (swept_off join input) → In x (run join.spec start steps).stored × ¬ In x (kept join.spec (run join.spec start steps) input)
swept-ripe join input steps st x h = (both.0, λ k. clash (test x) both.1 (In-filter (λ (z : TupleAt). not (test z)) x (run join.spec start steps).stored k).1)
  where
    test : TupleAt → Bool
    test z = eqb z.input input && ripe join.spec (run join.spec start steps) z

    there : In x (filter test (run join.spec start steps).stored)
    there =
        subst (λ (xs : List TupleAt). In x xs)
        (filter-agree (λ z. eqb z.input input && kept_ripe join.spec (kept_of (run join.spec start steps)) z) test (run join.spec start steps).stored (λ z k. ap (λ b. eqb z.input input && b) (ripe-same join.spec (run join.spec start steps) z)))
        (subst (λ (k : KeptState). In x (filter (λ z. eqb z.input input && kept_ripe join.spec k z) k.stored)) st.1 h)

    both : In x (run join.spec start steps).stored × (test x ≡ true)
    both = In-filter test x (run join.spec start steps).stored there

    clash : (b : Bool) → b ≡ true → not b ≡ true → ⊥
    clash true t f = false≢true f
    clash false t f = false≢true t

low-same : (join : JoinView) (steps : List Step) → StandsFor join steps → kept_low join.kept ≡ low (run join.spec start steps)
low-same join steps st = ap kept_low st.1 ∙ low-kept (run join.spec start steps)

pub forgets : (join : JoinView) (input : ℕ) → NeverNeeded join.spec → input < inputs join.spec → (steps : List Step) → StandsFor join steps → IsForgotten join steps input
forgets join input never lt steps st = λ x h later legal xs comb inx all y iny.
    let gone = swept-ripe join input steps st x h in
    subst (λ l. y.ticket < l) (sym (low-same join steps st))
    (never steps input later st.0 lt (subst (λ (s : JoinState). AreLegalSteps join.spec s later) (run-append join.spec start steps (Sweep input ∷ [])) legal) x gone.0 gone.1 xs comb inx
    (λ z k. subst (λ (s : JoinState). In z s.tuples) (run-append join.spec start steps (Sweep input ∷ later)) (all z k)) y iny)

pub goes-where-covered : (join : JoinView) (input : ℕ) → RipeWhenCovered join.spec → (steps : List Step) → StandsFor join steps → GoesWhereCovered join steps input
goes-where-covered join input covers steps st = λ x h is lt whole.
    let there : In x (run join.spec start steps).stored = subst (λ (k : KeptState). In x k.stored) st.1 h in
    let ripe_now : ripe join.spec (run join.spec start steps) x ≡ true =
    covers steps st.0 x (stored-in join.spec (run join.spec start steps) (sound-run join.spec start steps (sound-start join.spec) st.0) x there).0 (subst (λ l. x.ticket < l) (low-same join steps st) lt) whole in
    In-filter_from (λ z. eqb z.input input && kept_ripe join.spec join.kept z) x join.kept.stored h
    (and_from (eqb x.input input) (kept_ripe join.spec join.kept x) (eq-eqb x.input input is)
    (ap (λ (k : KeptState). kept_ripe join.spec k x) st.1 ∙ ripe-same join.spec (run join.spec start steps) x ∙ ripe_now))

pub stays-ripe : (join : JoinView) (input : ℕ) → StaysRipe join.spec → (steps : List Step) → StandsFor join steps → StaysRipeUntil join steps input
stays-ripe join input stays steps st = λ before later e x h was here.
    let legal = legal-front join.spec start before later (subst (λ (es : List Step). AreLegalSteps join.spec start es) e st.0) in
    let after_all : run join.spec start steps ≡ run join.spec (run join.spec start before) later = ap (λ (es : List Step). run join.spec start es) e ∙ run-append join.spec start before later in
    let there : In x (run join.spec start steps).stored = subst (λ (k : KeptState). In x k.stored) st.1 here in
    let still : ripe join.spec (run join.spec start steps) x ≡ true =
    subst (λ (s : JoinState). ripe join.spec s x ≡ true) (sym after_all) (stays before later legal.0 legal.1 x h was (subst (λ (s : JoinState). In x s.stored) after_all there)) in
    let ripe_now : kept_ripe join.spec join.kept x ≡ true = ap (λ (k : KeptState). kept_ripe join.spec k x) st.1 ∙ ripe-same join.spec (run join.spec start steps) x ∙ still in (
      ripe_now,
      λ is. In-filter_from (λ z. eqb z.input input && kept_ripe join.spec join.kept z) x join.kept.stored here
          (and_from (eqb x.input input) (kept_ripe join.spec join.kept x) (eq-eqb x.input input is) ripe_now),
    )

-- ---- punctuations

-- a join that hands up punctuations
at-once : (join : JoinView) (p : PunctAt) → going_at_once join.spec.shape.inputs (is_held join.kept.stored p) p ≡ puncts_at_once join p
at-once join p = go (is_held join.kept.stored p)
  where
    go : (b : Bool) → cond b [] (widened join.spec p ∷ []) ≡ cond (not b) (widened join.spec p ∷ []) []
    go true = refl
    go false = refl

-- what is kept once a punctuation has come
pub punct_view : (node : ℕ) (spec : JoinData) (limit next done : ℕ) (log : List TupleAt) (puncts puncts' waiting waiting' : List PunctAt) (taken : List ℕ) (held : Bool) (p : PunctAt)
    → held ≡ is_held log p → p.ticket ≡ next → puncts' ≡ puncts ++ p ∷ [] → waiting' ≡ waiting_with held waiting p
    → seen (made_with node spec limit) (next + 1) done log puncts' waiting' taken ≡ after (seen (made_with node spec limit) next done log puncts waiting taken) (PunctComes p.input p.patterns)
punct_view node spec limit next done log puncts puncts' waiting waiting' taken held p is ticket all on =
    ap₂ (λ (ps ws : List PunctAt). seen (made_with node spec limit) (next + 1) done log ps ws taken) (all ∙ ap (λ (q : PunctAt). puncts ++ q ∷ []) come)
    (on ∙ ap₂ (λ b (q : PunctAt). cond b (waiting ++ q ∷ []) waiting) (is ∙ ap (is_held log) come) come)
  where
    said : PunctAt
    said = record { ticket = next; input = p.input; patterns = p.patterns }

    come : p ≡ said
    come = ap (λ n. record { ticket = n; input = p.input; patterns = p.patterns }) ticket

-- what goes up of it
pub punct_out : (join : JoinView) (input : ℕ) (patterns : List Pattern) (held : Bool) (p : PunctAt) (out out' : List (List Pattern)) → held ≡ is_held join.kept.stored p
    → p ≡ next_punct join input patterns → out' ≡ out ++ going_at_once join.spec.shape.inputs held p → out' ≡ out ++ puncts_up join (PunctComes input patterns)
punct_out join input patterns held p out out' is come e =
    e ∙ ap₂ (λ b (q : PunctAt). out ++ going_at_once join.spec.shape.inputs b q) (is ∙ ap (is_held join.kept.stored) come) come
    ∙ ap (λ (ps : List (List Pattern)). out ++ ps) (at-once join (next_punct join input patterns))
