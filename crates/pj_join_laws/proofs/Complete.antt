-- A join that gives every tuple hands up each combination once.
use Rattle.std.proofs.Common.{ℕ, zero, suc, ◌+◌, ◌<◌, ◌≤◌, Bool, true, false, cond, ◌&&◌, ◌||◌, not, List, [], ◌∷◌, ◌++◌, ◌≡◌, map, filter, flat_map, refl, sym, ap, ◌∙◌, subst, inl, inr, eqb, ltb, arith}
use Rattle.pj_value.proofs.Bags.{weigh-append, weigh-map, weigh-flat_map, weigh-filter, weigh-agree, weigh-plus, weigh-swap, weigh-split, weigh-le}
use Rattle.std.proofs.lemmas.Bool.{or_cases, or_right, false≢true, eqb-true, eq-eqb, ne_eqb, cases_eq, lt-ltb, le-ltb}
use Rattle.std.proofs.lemmas.List.{append-nil}
use Rattle.std.proofs.lemmas.List.Elements.{filter-append}
use Rattle.pj_events.specs.Patterns.{Pattern}
use Rattle.pj_value.specs.Bags.{weigh, SameBag, SubBag}
use Rattle.pj_events.specs.Join.{In, Value, TupleAt, PunctAt, JoinData, JoinState, Step, TupleComes, PunctComes, Take, Give, Sweep, start, inputs, of_input, older, agree, has, kept, is_held, new_tuple, new_punct, step, run, IsAllowed, AreLegalSteps, product, upto_from, candidates, combinations, results, Element, Tuple, Punct, joined, widened, hands_up, outputs, rows_of, puncts_of, all_combinations}
use Rattle.pj_join_laws.specs.Laws.{HandsUpAllRows, HandsUpAllPuncts}
use Rattle.pj_value.proofs.Members.{In-filter, filter-agree, filter-all, map-same}
use Rattle.pj_join_laws.proofs.Bags.{weigh-product, AreDistinct, weigh-once, weigh-at_most}
use Rattle.pj_join_laws.proofs.Forget.{IsSound}
use Rattle.pj_join_laws.proofs.Sound.{sound-start, sound-step}
use Rattle.pj_join_laws.proofs.Ripe.{next-mono}
use Rattle.pj_pattern.proofs.Elements.{rows_of-append, puncts_of-append}

pub eqb-sym : (a b : ℕ) → eqb a b ≡ eqb b a
eqb-sym a b = elim (cases_eq a b) [
  | inl q ↦ eq-eqb a b q ∙ sym (eq-eqb b a (sym q))
  | inr n ↦ ne_eqb a b n ∙ sym (ne_eqb b a (λ q. n (sym q)))
]

upto-above : (k n j : ℕ) → In j (upto_from k n) → k ≤ j
upto-above k zero j h = absurd h
upto-above k (suc n) j (inl q) = omega arith
upto-above k (suc n) j (inr h) = let r = upto-above (k + 1) n j h in omega arith

-- ---- a product in which one list grows

abbrev extended : (ℕ → List TupleAt) → List TupleAt → ℕ → ℕ → List TupleAt
extended lists xs i k = cond (eqb k i) (lists k ++ xs) (lists k)

abbrev alone : (ℕ → List TupleAt) → List TupleAt → ℕ → ℕ → List TupleAt
alone lists xs i k = cond (eqb k i) xs (lists k)

product-split : (f : List TupleAt → ℕ) (lists : ℕ → List TupleAt) (xs : List TupleAt) (i k n : ℕ) → k ≤ i → i < k + n
    → weigh f (product (map (extended lists xs i) (upto_from k n))) ≡ weigh f (product (map lists (upto_from k n))) + weigh f (product (map (alone lists xs i) (upto_from k n)))
product-split f lists xs i k zero a b = absurd (omega arith)
product-split f lists xs i k (suc n) a b = elim (cases_eq k i) [
  | inl q ↦ here (eq-eqb k i q) q
  | inr ne ↦ there (ne_eqb k i ne) (λ x. product-split (λ c. f (x ∷ c)) lists xs i (k + 1) n (omega arith) (omega arith))
]
  where
    ks : List ℕ
    ks = upto_from (k + 1) n

    ext : List (List TupleAt)
    ext = map (extended lists xs i) ks

    one : List (List TupleAt)
    one = map (alone lists xs i) ks

    rest : List (List TupleAt)
    rest = map lists ks

    w : List (List TupleAt) → TupleAt → ℕ
    w xss x = weigh (λ c. f (x ∷ c)) (product xss)

    Goal : Bool → Type 0
    Goal t = weigh f (product (cond t (lists k ++ xs) (lists k) ∷ ext)) ≡ weigh f (product (lists k ∷ rest)) + weigh f (product (cond t xs (lists k) ∷ one))

    here : eqb k i ≡ true → k ≡ i → Goal (eqb k i)
    here t q = subst Goal (sym t) (
        weigh-product f (lists k ++ xs) ext
        ∙ ap (λ xss. weigh (w xss) (lists k ++ xs)) (map-same (extended lists xs i) lists ks (λ j h. ap (λ (b' : Bool). cond b' (lists j ++ xs) (lists j)) (apart j h)))
        ∙ weigh-append (w rest) (lists k) xs
        ∙ ap (λ n'. n' + weigh (w rest) xs) (sym (weigh-product f (lists k) rest))
        ∙ ap (λ n'. weigh f (product (lists k ∷ rest)) + n') (sym (weigh-product f xs one ∙ ap (λ xss. weigh (w xss) xs) (map-same (alone lists xs i) lists ks (λ j h. ap (λ (b' : Bool). cond b' xs (lists j)) (apart j h))))))
      where
        apart : (j : ℕ) → In j ks → eqb j i ≡ false
        apart j h = ne_eqb j i (λ e. let r = upto-above (k + 1) n j h in omega arith)

    there : eqb k i ≡ false → ((x : TupleAt) → w ext x ≡ w rest x + w one x) → Goal (eqb k i)
    there t ih = subst Goal (sym t) (
        weigh-product f (lists k) ext
        ∙ weigh-agree (w ext) (λ x. w rest x + w one x) (lists k) (λ x h. ih x)
        ∙ weigh-plus (w rest) (w one) (lists k)
        ∙ ap (λ n'. n' + weigh (w one) (lists k)) (sym (weigh-product f (lists k) rest))
        ∙ ap (λ n'. weigh f (product (lists k ∷ rest)) + n') (sym (weigh-product f (lists k) one)))

-- ---- one tuple more

module _ (spec : JoinData) (T : List TupleAt) (x : TupleAt) (later : (y : TupleAt) → In y T → y.ticket < x.ticket) where
  older-before : (y : TupleAt) → In y T → older y.ticket (T ++ x ∷ []) ≡ older y.ticket T
  older-before y h =
      filter-append (λ z. ltb z.ticket y.ticket) T (x ∷ [])
      ∙ ap (λ b. older y.ticket T ++ cond b (x ∷ []) []) (le-ltb x.ticket y.ticket (omega (arith, later y h)))
      ∙ append-nil (older y.ticket T)

  older-all : older x.ticket (T ++ x ∷ []) ≡ T
  older-all =
      filter-append (λ z. ltb z.ticket x.ticket) T (x ∷ [])
      ∙ ap (λ b. older x.ticket T ++ cond b (x ∷ []) []) (le-ltb x.ticket x.ticket (let e : x.ticket ≤ x.ticket = omega arith in e))
      ∙ append-nil (older x.ticket T)
      ∙ filter-all (λ z. ltb z.ticket x.ticket) T (λ y h. lt-ltb y.ticket x.ticket (later y h))

  pub combinations-before : (y : TupleAt) → In y T → combinations spec (T ++ x ∷ []) y ≡ combinations spec T y
  combinations-before y h =
      ap (λ rows. filter (agree spec.shape.classes) (product (map (λ k. cond (eqb k y.input) (y ∷ []) (of_input k rows)) (upto_from 0 (inputs spec))))) (older-before y h)

  of_input-more : (k : ℕ) → of_input k (T ++ x ∷ []) ≡ extended (λ j. of_input j T) (x ∷ []) x.input k
  of_input-more k =
      filter-append (λ z. eqb z.input k) T (x ∷ [])
      ∙ ap (λ b. of_input k T ++ cond b (x ∷ []) []) (eqb-sym x.input k)
      ∙ go (eqb k x.input)
    where
      go : (b : Bool) → of_input k T ++ cond b (x ∷ []) [] ≡ cond b (of_input k T ++ x ∷ []) (of_input k T)
      go true = refl
      go false = append-nil (of_input k T)

  pub all-more : x.input < inputs spec → (f : List TupleAt → ℕ) → weigh f (all_combinations spec (T ++ x ∷ [])) ≡ weigh f (all_combinations spec T) + weigh f (combinations spec (T ++ x ∷ []) x)
  all-more lt f =
      weigh-filter f (agree spec.shape.classes) (product (map (λ k. of_input k (T ++ x ∷ [])) ks))
      ∙ ap (λ xss. weigh F (product xss)) (map-same (λ k. of_input k (T ++ x ∷ [])) (extended (λ j. of_input j T) (x ∷ []) x.input) ks (λ k h. of_input-more k))
      ∙ product-split F (λ j. of_input j T) (x ∷ []) x.input 0 (inputs spec) (omega arith) (omega arith)
      ∙ ap (λ n. n + weigh F (product (map (alone (λ j. of_input j T) (x ∷ []) x.input) ks))) (sym (weigh-filter f (agree spec.shape.classes) (product (map (λ k. of_input k T) ks))))
      ∙ ap (λ n. weigh f (all_combinations spec T) + n) (sym (
      weigh-filter f (agree spec.shape.classes) (product (map (candidates x (T ++ x ∷ [])) ks))
      ∙ ap (λ xss. weigh F (product xss)) (map-same (candidates x (T ++ x ∷ [])) (alone (λ j. of_input j T) (x ∷ []) x.input) ks (λ k h. ap (λ rows. cond (eqb k x.input) (x ∷ []) (of_input k rows)) older-all))))
    where
      ks : List ℕ
      ks = upto_from 0 (inputs spec)

      F : List TupleAt → ℕ
      F c = cond (agree spec.shape.classes c) (f c) 0

-- ---- what is counted along the steps

pub record IsCounted (spec : JoinData) (s : JoinState) : Type 0 where
  pub taken_below : (u : ℕ) → has s.taken u ≡ true → u < s.next
  pub given_taken : (u : ℕ) → has s.given u ≡ true → has s.taken u ≡ true
  pub distinct : AreDistinct s.given
  pub once : (f : List TupleAt → ℕ) → weigh f (all_combinations spec s.tuples) ≡ weigh (λ x. weigh f (combinations spec s.tuples x)) s.tuples

pub counted-step : (spec : JoinData) (s : JoinState) (e : Step) → IsSound spec s → IsAllowed spec s e → IsCounted spec s → IsCounted spec (step spec s e)
counted-step spec s (TupleComes input row) i a k = record {
  taken_below = λ u h. omega (arith, k.taken_below u h);
  given_taken = k.given_taken;
  distinct = k.distinct;
  once = λ f.
      all-more spec s.tuples x (λ y h. i.numbered y h) a.0 f
      ∙ ap (λ n. n + weigh f (combinations spec (s.tuples ++ x ∷ []) x)) (k.once f ∙ weigh-agree (λ y. weigh f (combinations spec s.tuples y)) (λ y. weigh f (combinations spec (s.tuples ++ x ∷ []) y)) s.tuples (λ y h. ap (weigh f) (sym (combinations-before spec s.tuples x (λ z m. i.numbered z m) y h))))
      ∙ omega (arith, weigh-append (λ y. weigh f (combinations spec (s.tuples ++ x ∷ []) y)) s.tuples (x ∷ []));
}
  where
    x : TupleAt
    x = new_tuple s input row
counted-step spec s (PunctComes input patterns) i a k = record {
  taken_below = λ u h. omega (arith, k.taken_below u h);
  given_taken = k.given_taken;
  distinct = k.distinct;
  once = k.once;
}
counted-step spec s (Take u) i a k = record {
  taken_below = λ v h. elim (or_cases (eqb u v) (has s.taken v) h) [
    | inl t ↦ omega (arith, eqb-true u v t, a.0.2, i.numbered a.0.0 a.0.1)
    | inr t ↦ k.taken_below v t
  ];
  given_taken = λ v h. or_right (eqb u v) (has s.taken v) (k.given_taken v h);
  distinct = k.distinct;
  once = k.once;
}
counted-step spec s (Give u) i a k = record {
  taken_below = k.taken_below;
  given_taken = λ v h. elim (or_cases (eqb u v) (has s.given v) h) [
    | inl t ↦ subst (λ n. has s.taken n ≡ true) (eqb-true u v t) a.0
    | inr t ↦ k.given_taken v t
  ];
  distinct = (a.1, k.distinct);
  once = k.once;
}
counted-step spec s (Sweep input) i a k = record { taken_below = k.taken_below; given_taken = k.given_taken; distinct = k.distinct; once = k.once }

pub counted-start : (spec : JoinData) → 0 < inputs spec → IsCounted spec start
counted-start spec lt = record {
  taken_below = λ u h. absurd (false≢true h);
  given_taken = λ u h. absurd (false≢true h);
  distinct = tt;
  once = λ f. weigh-filter f (agree spec.shape.classes) (product (map (λ k. of_input k []) (upto_from 0 (inputs spec)))) ∙ none (λ c. cond (agree spec.shape.classes c) (f c) 0) (inputs spec) lt;
}
  where
    none : (f : List TupleAt → ℕ) (n : ℕ) → 0 < n → weigh f (product (map (λ k. of_input k []) (upto_from 0 n))) ≡ 0
    none f zero l = absurd (omega arith)
    none f (suc n) l = refl

-- the results of a ticket stay the same
results-step : (spec : JoinData) (s : JoinState) (e : Step) → IsSound spec s → (u : ℕ) → u < s.next → results spec (step spec s e).tuples (step spec s e).tuples u ≡ results spec s.tuples s.tuples u
results-step spec s (TupleComes input row) i u lt =
    ap (flat_map (combinations spec (s.tuples ++ x ∷ []))) (
    filter-append (λ y. eqb y.ticket u) s.tuples (x ∷ [])
    ∙ ap (λ b. filter (λ y. eqb y.ticket u) s.tuples ++ cond b (x ∷ []) []) (ne_eqb s.next u (λ q. let n : u < u = omega (arith, lt, q) in omega arith))
    ∙ append-nil (filter (λ y. eqb y.ticket u) s.tuples))
    ∙ each (filter (λ y. eqb y.ticket u) s.tuples) (λ y h. (In-filter (λ z. eqb z.ticket u) y s.tuples h).0)
  where
    x : TupleAt
    x = new_tuple s input row

    each : (ys : List TupleAt) → ((y : TupleAt) → In y ys → In y s.tuples) → flat_map (combinations spec (s.tuples ++ x ∷ [])) ys ≡ flat_map (combinations spec s.tuples) ys
    each [] f = refl
    each (y ∷ ys) f =
        ap (λ cs. cs ++ flat_map (combinations spec (s.tuples ++ x ∷ [])) ys) (combinations-before spec s.tuples x (λ z m. i.numbered z m) y (f y (inl refl)))
        ∙ ap (λ cs. combinations spec s.tuples y ++ cs) (each ys (λ z h. f z (inr h)))
results-step spec s (PunctComes input patterns) i u lt = refl
results-step spec s (Take v) i u lt = refl
results-step spec s (Give v) i u lt = refl
results-step spec s (Sweep input) i u lt = refl

results-run : (spec : JoinData) (s : JoinState) (es : List Step) → IsSound spec s → AreLegalSteps spec s es → (u : ℕ) → u < s.next → results spec (run spec s es).tuples (run spec s es).tuples u ≡ results spec s.tuples s.tuples u
results-run spec s [] i l u lt = refl
results-run spec s (e ∷ es) i l u lt =
    results-run spec (step spec s e) es (sound-step spec s e i l.0) l.1 u (omega (arith, lt, next-mono spec s e)) ∙ results-step spec s e i u lt

rows-rows : (cs : List (List TupleAt)) → rows_of (map (λ c. Tuple (joined c)) cs) ≡ map joined cs
rows-rows [] = refl
rows-rows (c ∷ cs) = ap (λ rows. joined c ∷ rows) (rows-rows cs)

rows-closed : (spec : JoinData) (ps : List PunctAt) → rows_of (map (λ p. Punct (widened spec p)) ps) ≡ []
rows-closed spec [] = refl
rows-closed spec (p ∷ ps) = rows-closed spec ps

-- the rows of the steps are the results of the tickets that they give
rows-run : (spec : JoinData) (s : JoinState) (es : List Step) → IsSound spec s → IsCounted spec s → AreLegalSteps spec s es → (f : List Value → ℕ)
    → weigh f (rows_of (outputs spec s es)) + weigh (λ u. weigh f (map joined (results spec (run spec s es).tuples (run spec s es).tuples u))) s.given
    ≡ weigh (λ u. weigh f (map joined (results spec (run spec s es).tuples (run spec s es).tuples u))) (run spec s es).given
rows-run spec s [] i k l f = omega arith
rows-run spec s (e ∷ es) i k l f =
    go e l.0 (rows-run spec (step spec s e) es (sound-step spec s e i l.0) (counted-step spec s e i l.0 k) l.1 f)
    (λ u lt. results-run spec (step spec s e) es (sound-step spec s e i l.0) l.1 u (omega (arith, lt, next-mono spec s e)) ∙ results-step spec s e i u lt)
  where
    R : JoinState → ℕ → ℕ
    R s' u = weigh f (map joined (results spec s'.tuples s'.tuples u))

    go : (e : Step) → IsAllowed spec s e
        → weigh f (rows_of (outputs spec (step spec s e) es)) + weigh (R (run spec (step spec s e) es)) (step spec s e).given ≡ weigh (R (run spec (step spec s e) es)) (run spec (step spec s e) es).given
        → ((u : ℕ) → u < s.next → results spec (run spec (step spec s e) es).tuples (run spec (step spec s e) es).tuples u ≡ results spec s.tuples s.tuples u)
        → weigh f (rows_of (hands_up spec s e ++ outputs spec (step spec s e) es)) + weigh (R (run spec (step spec s e) es)) s.given ≡ weigh (R (run spec (step spec s e) es)) (run spec (step spec s e) es).given
    go (TupleComes input row) a ih same = ih
    go (PunctComes input patterns) a ih same = shut (not (is_held s.stored (new_punct s input patterns))) ∙ ih
      where
        rest : List Element
        rest = outputs spec (step spec s (PunctComes input patterns)) es

        n : ℕ
        n = weigh (R (run spec (step spec s (PunctComes input patterns)) es)) s.given

        shut : (b : Bool) → weigh f (rows_of (cond b (Punct (widened spec (new_punct s input patterns)) ∷ []) [] ++ rest)) + n ≡ weigh f (rows_of rest) + n
        shut true = refl
        shut false = refl
    go (Take u) a ih same = ih
    go (Give u) a ih same =
        ap (λ rows. weigh f rows + n) (rows_of-append (map (λ c. Tuple (joined c)) (results spec s.tuples s.tuples u)) rest)
        ∙ ap (λ rows. weigh f (rows ++ rows_of rest) + n) (rows-rows (results spec s.tuples s.tuples u))
        ∙ omega (arith, weigh-append f (map joined (results spec s.tuples s.tuples u)) (rows_of rest), ih, ap (λ cs. weigh f (map joined cs)) (same u (k.taken_below u a.0)))
      where
        rest : List Element
        rest = outputs spec (step spec s (Give u)) es

        n : ℕ
        n = weigh (R (run spec (step spec s (Give u)) es)) s.given
    go (Sweep input) a ih same =
        ap (λ rows. weigh f rows + n) (rows_of-append (map (λ p. Punct (widened spec p)) ready) rest)
        ∙ ap (λ rows. weigh f (rows ++ rows_of rest) + n) (rows-closed spec ready) ∙ ih
      where
        rest : List Element
        rest = outputs spec (step spec s (Sweep input)) es

        n : ℕ
        n = weigh (R (run spec (step spec s (Sweep input)) es)) s.given

        ready : List PunctAt
        ready = filter (λ (p : PunctAt). eqb p.input input && not (is_held (kept spec s input) p)) s.waiting

pub counted-run : (spec : JoinData) (s : JoinState) (es : List Step) → IsSound spec s → IsCounted spec s → AreLegalSteps spec s es → IsCounted spec (run spec s es)
counted-run spec s [] i k l = k
counted-run spec s (e ∷ es) i k l = counted-run spec (step spec s e) es (sound-step spec s e i l.0) (counted-step spec s e i l.0 k) l.1

-- over tickets that are given once each, the results of all tickets are those of all tuples
given-all : (spec : JoinData) (s : JoinState) → IsCounted spec s → ((x : TupleAt) → In x s.tuples → has s.given x.ticket ≡ true) → (f : List TupleAt → ℕ)
    → weigh (λ u. weigh f (results spec s.tuples s.tuples u)) s.given ≡ weigh f (all_combinations spec s.tuples)
given-all spec s k done f =
    weigh-agree (λ u. weigh f (results spec s.tuples s.tuples u)) (λ u. weigh (λ x. cond (eqb u x.ticket) (h x) 0) s.tuples) s.given (λ u m. at u)
    ∙ weigh-swap (λ u (x : TupleAt). cond (eqb u x.ticket) (h x) 0) s.given s.tuples
    ∙ weigh-agree (λ x. weigh (λ u. cond (eqb u x.ticket) (h x) 0) s.given) h s.tuples (λ x m. weigh-once x.ticket (h x) s.given k.distinct (done x m))
    ∙ sym (k.once f)
  where
    h : TupleAt → ℕ
    h x = weigh f (combinations spec s.tuples x)

    at : (u : ℕ) → weigh f (results spec s.tuples s.tuples u) ≡ weigh (λ x. cond (eqb u x.ticket) (h x) 0) s.tuples
    at u =
        weigh-flat_map f (combinations spec s.tuples) (filter (λ x. eqb x.ticket u) s.tuples)
        ∙ weigh-filter h (λ x. eqb x.ticket u) s.tuples
        ∙ weigh-agree (λ x. cond (eqb x.ticket u) (h x) 0) (λ x. cond (eqb u x.ticket) (h x) 0) s.tuples (λ x m. ap (λ b. cond b (h x) 0) (eqb-sym x.ticket u))

pub all-rows-given : (spec : JoinData) → 0 < inputs spec → (steps : List Step) → AreLegalSteps spec start steps
    → ((x : TupleAt) → In x (run spec start steps).tuples → has (run spec start steps).given x.ticket ≡ true)
    → SameBag (rows_of (outputs spec start steps)) (map joined (all_combinations spec (run spec start steps).tuples))
all-rows-given spec lt steps legal done f =
    (let e = rows-run spec start steps (sound-start spec) (counted-start spec lt) legal f in omega arith)
    ∙ weigh-agree (λ u. weigh f (map joined (results spec s.tuples s.tuples u))) (λ u. weigh (λ c. f (joined c)) (results spec s.tuples s.tuples u)) s.given (λ u m. weigh-map f joined (results spec s.tuples s.tuples u))
    ∙ given-all spec s (counted-run spec start steps (sound-start spec) (counted-start spec lt) legal) done (λ c. f (joined c))
    ∙ sym (weigh-map f joined (all_combinations spec s.tuples))
  where
    s : JoinState
    s = run spec start steps

-- what is given is at most all
given-some : (spec : JoinData) (s : JoinState) → IsCounted spec s → (f : List TupleAt → ℕ)
    → weigh (λ u. weigh f (results spec s.tuples s.tuples u)) s.given ≤ weigh f (all_combinations spec s.tuples)
given-some spec s k f =
    let first = weigh-agree (λ u. weigh f (results spec s.tuples s.tuples u)) (λ u. weigh (λ x. cond (eqb u x.ticket) (h x) 0) s.tuples) s.given (λ u m. at u) in
    let second = weigh-swap (λ u (x : TupleAt). cond (eqb u x.ticket) (h x) 0) s.given s.tuples in
    let third = weigh-le (λ x. weigh (λ u. cond (eqb u x.ticket) (h x) 0) s.given) h s.tuples (λ x m. weigh-at_most x.ticket (h x) s.given k.distinct) in
    omega (arith, first, second, third, k.once f)
  where
    h : TupleAt → ℕ
    h x = weigh f (combinations spec s.tuples x)

    at : (u : ℕ) → weigh f (results spec s.tuples s.tuples u) ≡ weigh (λ x. cond (eqb u x.ticket) (h x) 0) s.tuples
    at u =
        weigh-flat_map f (combinations spec s.tuples) (filter (λ x. eqb x.ticket u) s.tuples)
        ∙ weigh-filter h (λ x. eqb x.ticket u) s.tuples
        ∙ weigh-agree (λ x. cond (eqb x.ticket u) (h x) 0) (λ x. cond (eqb u x.ticket) (h x) 0) s.tuples (λ x m. ap (λ b. cond b (h x) 0) (eqb-sym x.ticket u))

-- at any moment the rows handed up are among the combinations of all tuples that arrived
pub some-rows-given : (spec : JoinData) → 0 < inputs spec → (steps : List Step) → AreLegalSteps spec start steps
    → SubBag (rows_of (outputs spec start steps)) (map joined (all_combinations spec (run spec start steps).tuples))
some-rows-given spec lt steps legal f =
    let e = rows-run spec start steps (sound-start spec) (counted-start spec lt) legal f in
    let g = weigh-agree (λ u. weigh f (map joined (results spec s.tuples s.tuples u))) (λ u. weigh (λ c. f (joined c)) (results spec s.tuples s.tuples u)) s.given (λ u m. weigh-map f joined (results spec s.tuples s.tuples u)) in
    let k = given-some spec s (counted-run spec start steps (sound-start spec) (counted-start spec lt) legal) (λ c. f (joined c)) in
    omega (arith, e, g, k, weigh-map f joined (all_combinations spec s.tuples))
  where
    s : JoinState
    s = run spec start steps

-- ---- punctuations

puncts-rows : (cs : List (List TupleAt)) → puncts_of (map (λ c. Tuple (joined c)) cs) ≡ []
puncts-rows [] = refl
puncts-rows (c ∷ cs) = puncts-rows cs

puncts-closed : (spec : JoinData) (ps : List PunctAt) → puncts_of (map (λ p. Punct (widened spec p)) ps) ≡ map (widened spec) ps
puncts-closed spec [] = refl
puncts-closed spec (p ∷ ps) = ap (λ qs. widened spec p ∷ qs) (puncts-closed spec ps)

-- what a step of a join hands up and what waits after it: what came and what waited before it
puncts-step : (spec : JoinData) (s : JoinState) (e : Step) (f : List Pattern → ℕ)
    → weigh f (puncts_of (hands_up spec s e)) + weigh (λ p. f (widened spec p)) (step spec s e).waiting + weigh (λ p. f (widened spec p)) s.puncts
    ≡ weigh (λ p. f (widened spec p)) (step spec s e).puncts + weigh (λ p. f (widened spec p)) s.waiting
puncts-step spec s (TupleComes input row) f = omega arith
puncts-step spec s (PunctComes input patterns) f = go (is_held s.stored p)
  where
    p : PunctAt
    p = new_punct s input patterns

    g : PunctAt → ℕ
    g q = f (widened spec q)

    go : (b : Bool) → weigh f (puncts_of (cond (not b) (Punct (widened spec p) ∷ []) [])) + weigh g (cond b (s.waiting ++ p ∷ []) s.waiting) + weigh g s.puncts ≡ weigh g (s.puncts ++ p ∷ []) + weigh g s.waiting
    go true = omega (arith, weigh-append g s.waiting (p ∷ []), weigh-append g s.puncts (p ∷ []))
    go false = omega (arith, weigh-append g s.puncts (p ∷ []))
puncts-step spec s (Take u) f = omega arith
puncts-step spec s (Give u) f = omega (arith, ap (weigh f) (puncts-rows (results spec s.tuples s.tuples u)))
puncts-step spec s (Sweep input) f =
    omega (
      arith,
      ap (weigh f) (puncts-closed spec (filter ready s.waiting)),
      weigh-map f (widened spec) (filter ready s.waiting),
      weigh-split g ready s.waiting,
      ap (weigh g) (filter-agree (λ p. not (ready p)) (λ p. not (eqb p.input input) || is_held (kept spec s input) p) s.waiting (λ p h. de_morgan (eqb p.input input) (is_held (kept spec s input) p))),
    )
  where
    g : PunctAt → ℕ
    g q = f (widened spec q)

    ready : PunctAt → Bool
    ready p = eqb p.input input && not (is_held (kept spec s input) p)

    de_morgan : (a b : Bool) → not (a && not b) ≡ (not a || b)
    de_morgan true true = refl
    de_morgan true false = refl
    de_morgan false b = refl

puncts-run : (spec : JoinData) (s : JoinState) (es : List Step) (f : List Pattern → ℕ)
    → weigh f (puncts_of (outputs spec s es)) + weigh (λ p. f (widened spec p)) (run spec s es).waiting + weigh (λ p. f (widened spec p)) s.puncts
    ≡ weigh (λ p. f (widened spec p)) (run spec s es).puncts + weigh (λ p. f (widened spec p)) s.waiting
puncts-run spec s [] f = omega arith
puncts-run spec s (e ∷ es) f =
    omega (
      arith,
      puncts-run spec (step spec s e) es f,
      puncts-step spec s e f,
      ap (weigh f) (puncts_of-append (hands_up spec s e) (outputs spec (step spec s e) es)),
      weigh-append f (puncts_of (hands_up spec s e)) (puncts_of (outputs spec (step spec s e) es)),
    )

pub hands_up-all_rows : (spec : JoinData) → HandsUpAllRows spec
hands_up-all_rows spec lt steps legal done = all-rows-given spec lt steps legal done

pub hands_up-all_puncts : (spec : JoinData) → HandsUpAllPuncts spec
hands_up-all_puncts spec steps legal done f =
    let e = puncts-run spec start steps f in
    let w = ap (weigh (λ (p : PunctAt). f (widened spec p))) done in
    omega (arith, e, w, weigh-map f (widened spec) (run spec start steps).puncts)
