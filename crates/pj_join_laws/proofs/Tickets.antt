-- Tickets that are not taken, and their order.
use Rattle.std.proofs.Common.{ℕ, ◌<◌, ◌≤◌, Bool, true, false, cond, not, ◌||◌, List, [], ◌∷◌, ◌++◌, ◌≡◌, ◌⊎◌, map, filter, eqb, Some, None, refl, sym, ap, ◌∙◌, inl, inr, arith}
use Rattle.std.proofs.lemmas.Bool.{false≢true, eqb-true, eq-eqb, ne_eqb, or_cases}
use Rattle.pj_value.specs.Lists.{In}
use Rattle.pj_events.specs.Join.{TupleAt, JoinData, JoinState, Step, TupleComes, PunctComes, Take, Give, Sweep, start, run, step, has, new_tuple}
use Rattle.pj_events.specs.KeptState.{lacking, without}
use Rattle.pj_events.specs.OneThread.{first_of}

-- a ticket that is not among these is one of a tuple that came
pub lacking-come : (ns : List ℕ) (xs : List TupleAt) (t : ℕ) → has (lacking ns xs) t ≡ true → ((x : TupleAt) × In x xs × (x.ticket ≡ t)) × (has ns t ≡ false)
lacking-come ns [] t h = absurd (false≢true h)
lacking-come ns (x ∷ xs) t h = go (has ns x.ticket) refl h (lacking-come ns xs t)
  where
    later : ((z : TupleAt) × In z xs × (z.ticket ≡ t)) × (has ns t ≡ false) → ((z : TupleAt) × In z (x ∷ xs) × (z.ticket ≡ t)) × (has ns t ≡ false)
    later r = ((r.0.0, inr r.0.1, r.0.2), r.1)

    here : has ns x.ticket ≡ false → (eqb x.ticket t ≡ true) ⊎ (has (lacking ns xs) t ≡ true) → (has (lacking ns xs) t ≡ true → ((z : TupleAt) × In z xs × (z.ticket ≡ t)) × (has ns t ≡ false)) → ((z : TupleAt) × In z (x ∷ xs) × (z.ticket ≡ t)) × (has ns t ≡ false)
    here e (inl k) ih = let s = eqb-true x.ticket t k in ((x, inl refl, s), ap (has ns) (sym s) ∙ e)
    here e (inr k) ih = later (ih k)

    go : (b : Bool) → has ns x.ticket ≡ b → has (map (λ z. z.ticket) (cond (not b) (x ∷ filter (λ z. not (has ns z.ticket)) xs) (filter (λ z. not (has ns z.ticket)) xs))) t ≡ true
        → (has (lacking ns xs) t ≡ true → ((z : TupleAt) × In z xs × (z.ticket ≡ t)) × (has ns t ≡ false)) → ((z : TupleAt) × In z (x ∷ xs) × (z.ticket ≡ t)) × (has ns t ≡ false)
    go true e k ih = later (ih k)
    go false e k ih = here e (or_cases (eqb x.ticket t) (has (lacking ns xs) t) k) ih

-- a ticket that came and is not lacking is among these
pub lacking-none : (ns : List ℕ) (xs : List TupleAt) (t : ℕ) → (x : TupleAt) × In x xs × (x.ticket ≡ t) → has (lacking ns xs) t ≡ false → has ns t ≡ true
lacking-none ns [] t c h = absurd c.1
lacking-none ns (x ∷ xs) t (z, i, e) h = go (has ns x.ticket) refl h i (λ k g. lacking-none ns xs t (z, k, e) g)
  where
    go : (b : Bool) → has ns x.ticket ≡ b → has (map (λ y. y.ticket) (cond (not b) (x ∷ filter (λ y. not (has ns y.ticket)) xs) (filter (λ y. not (has ns y.ticket)) xs))) t ≡ false
        → In z (x ∷ xs) → (In z xs → has (lacking ns xs) t ≡ false → has ns t ≡ true) → has ns t ≡ true
    go true p k (inl s) ih = ap (has ns) (sym e ∙ ap (λ (y : TupleAt). y.ticket) (sym s)) ∙ p
    go true p k (inr m) ih = ih m k
    go false p k (inl s) ih = absurd (false≢true (sym k ∙ ap (λ (b : Bool). b || has (lacking ns xs) t) (eq-eqb x.ticket t (ap (λ (y : TupleAt). y.ticket) s ∙ e))))
    go false p k (inr m) ih = ih m (rest (eqb x.ticket t) (has (lacking ns xs) t) k)
      where
        rest : (a b : Bool) → (a || b) ≡ false → b ≡ false
        rest true b r = absurd (false≢true (sym r))
        rest false b r = r

-- ---- order

abbrev pub AreAscending : List ℕ → Type 0
AreAscending [] = Unit {0}
AreAscending (t ∷ ts) = ((v : ℕ) → In v ts → t < v) × AreAscending ts

abbrev tickets : List TupleAt → List ℕ
tickets xs = map (λ x. x.ticket) xs

record AreInOrder (s : JoinState) : Type 0 where
  ascends : AreAscending (tickets s.tuples)
  below : (v : ℕ) → In v (tickets s.tuples) → v < s.next

In-map-push : (xs : List TupleAt) (x : TupleAt) (v : ℕ) → In v (tickets (xs ++ x ∷ [])) → In v (tickets xs) ⊎ (x.ticket ≡ v)
In-map-push [] x v (inl e) = inr e
In-map-push [] x v (inr h) = absurd h
In-map-push (y ∷ xs) x v (inl e) = inl (inl e)
In-map-push (y ∷ xs) x v (inr h) = elim (In-map-push xs x v h) [ inl k ↦ inl (inr k) | inr k ↦ inr k ]

ascending-push : (xs : List TupleAt) (x : TupleAt) → AreAscending (tickets xs) → ((v : ℕ) → In v (tickets xs) → v < x.ticket) → AreAscending (tickets (xs ++ x ∷ []))
ascending-push [] x a b = ((λ v h. absurd h), tt)
ascending-push (y ∷ xs) x a b = ((λ v h. go v (In-map-push xs x v h)), ascending-push xs x a.1 (λ v h. b v (inr h)))
  where
    go : (v : ℕ) → In v (tickets xs) ⊎ (x.ticket ≡ v) → y.ticket < v
    go v (inl k) = a.0 v k
    go v (inr e) = let lt = b y.ticket (inl refl) in omega (arith, lt, e)

order-step : (d : JoinData) (s : JoinState) (e : Step) → AreInOrder s → AreInOrder (step d s e)
order-step d s (TupleComes input row) c = record {
  ascends = ascending-push s.tuples (new_tuple s input row) c.ascends c.below;
  below = λ v h. elim (In-map-push s.tuples (new_tuple s input row) v h) [
    | inl k ↦ (let lt = c.below v k in omega (arith, lt))
    | inr e ↦ omega (arith, e)
  ];
}
order-step d s (PunctComes input patterns) c = record { ascends = c.ascends; below = λ v h. (let lt = c.below v h in omega (arith, lt)) }
order-step d s (Take u) c = record { ascends = c.ascends; below = c.below }
order-step d s (Give u) c = record { ascends = c.ascends; below = c.below }
order-step d s (Sweep input) c = record { ascends = c.ascends; below = c.below }

order-run : (d : JoinData) (s : JoinState) (es : List Step) → AreInOrder s → AreInOrder (run d s es)
order-run d s [] c = c
order-run d s (e ∷ es) c = order-run d (step d s e) es (order-step d s e c)

lacking-in : (ns : List ℕ) (xs : List TupleAt) (v : ℕ) → In v (lacking ns xs) → In v (tickets xs)
lacking-in ns [] v h = h
lacking-in ns (x ∷ xs) v h = go (has ns x.ticket) h (lacking-in ns xs v)
  where
    go : (b : Bool) → In v (map (λ z. z.ticket) (cond (not b) (x ∷ filter (λ z. not (has ns z.ticket)) xs) (filter (λ z. not (has ns z.ticket)) xs))) → (In v (lacking ns xs) → In v (tickets xs)) → In v (tickets (x ∷ xs))
    go true k ih = inr (ih k)
    go false (inl e) ih = inl e
    go false (inr k) ih = inr (ih k)

lacking-ascends : (ns : List ℕ) (xs : List TupleAt) → AreAscending (tickets xs) → AreAscending (lacking ns xs)
lacking-ascends ns [] a = tt
lacking-ascends ns (x ∷ xs) a = go (has ns x.ticket) (lacking-ascends ns xs a.1)
  where
    go : (b : Bool) → AreAscending (lacking ns xs) → AreAscending (map (λ z. z.ticket) (cond (not b) (x ∷ filter (λ z. not (has ns z.ticket)) xs) (filter (λ z. not (has ns z.ticket)) xs)))
    go true ih = ih
    go false ih = ((λ v h. a.0 v (lacking-in ns xs v h)), ih)

pub pending-ascends : (d : JoinData) (steps : List Step) → AreAscending (lacking (run d start steps).taken (run d start steps).tuples)
pending-ascends d steps = lacking-ascends (run d start steps).taken (run d start steps).tuples (order-run d start steps (record { ascends = tt; below = λ v h. absurd h })).ascends

-- the least of ascending tickets is the first
pub first-least : (join : ℕ) (ts : List ℕ) (t : ℕ) → AreAscending ts → In t ts → ((v : ℕ) → In v ts → t ≤ v) → first_of join ts None ≡ Some (record { join = join; ticket = t })
first-least join [] t a i l = absurd i
first-least join (v ∷ ts) t a (inl e) l = ap (λ (n : ℕ). Some (record { join = join; ticket = n })) e
first-least join (v ∷ ts) t a (inr i) l = absurd (let m = a.0 t i in let n = l v (inl refl) in omega (arith, m, n))

without-none : (ts : List ℕ) (t : ℕ) → ((v : ℕ) → In v ts → t < v) → without ts t ≡ ts
without-none [] t f = refl
without-none (v ∷ ts) t f =
    ap (λ (b : Bool). cond (not b) (v ∷ without ts t) (without ts t)) (ne_eqb v t (λ e. let lt = f v (inl refl) in omega (arith, lt, e)))
    ∙ ap (λ (us : List ℕ). v ∷ us) (without-none ts t (λ u h. f u (inr h)))
