-- The results of a tuple are the same over the stored tuples as over all that arrived.
use Rattle.std.proofs.Common.{ℕ, zero, suc, ◌+◌, ◌<◌, ◌≤◌, Bool, true, false, cond, ◌&&◌, List, [], ◌∷◌, ◌++◌, ◌≡◌, ◌⊎◌, map, filter, flat_map, length, refl, sym, ap, ◌∙◌, subst, inl, inr, eqb, ltb, arith}
use Rattle.std.specs.List.{list_all}
use Rattle.std.proofs.lemmas.Bool.{false≢true, eqb-true, eq-eqb, cases_Bool, cases_eq}
use Rattle.std.proofs.lemmas.List.Elements.{filter-append}
use Rattle.pj_events.specs.Join.{In, TupleAt, JoinData, JoinState, start, inputs, of_input, older, agree, has, run, IsCombination, product, upto_from, candidates, combinations, results}
use Rattle.pj_join_laws.specs.Laws.{StoredSuffice}
use Rattle.pj_value.proofs.Members.{In-filter, In-map, In-flat_map, all_from, filter-agree, filter-filter, map-same}
use Rattle.pj_join_laws.proofs.Forget.{least_open-below, IsSound}
use Rattle.pj_join_laws.proofs.Sound.{sound-start, sound-run}

-- ---- products of lists

filter-cons_each : (keep : TupleAt → Bool) (x : TupleAt) (cs : List (List TupleAt))
    → filter (list_all keep) (map (λ c. x ∷ c) cs) ≡ cond (keep x) (map (λ c. x ∷ c) (filter (list_all keep) cs)) []
filter-cons_each keep x [] = go (keep x)
  where
    go : (b : Bool) → filter (list_all keep) [] ≡ cond b (map (λ c. x ∷ c) []) []
    go true = refl
    go false = refl
filter-cons_each keep x (c ∷ cs) = go (keep x) (list_all keep c) (filter-cons_each keep x cs)
  where
    rest : List (List TupleAt)
    rest = filter (list_all keep) cs

    go : (b a : Bool) → filter (list_all keep) (map (λ d. x ∷ d) cs) ≡ cond b (map (λ d. x ∷ d) rest) []
        → cond (b && a) ((x ∷ c) ∷ filter (list_all keep) (map (λ d. x ∷ d) cs)) (filter (list_all keep) (map (λ d. x ∷ d) cs)) ≡ cond b (map (λ d. x ∷ d) (cond a (c ∷ rest) rest)) []
    go true true ih = ap (λ ys. (x ∷ c) ∷ ys) ih
    go true false ih = ih
    go false a ih = ih

-- to filter each list of a product is to filter the product
pub product-filter : (keep : TupleAt → Bool) (xss : List (List TupleAt)) → product (map (filter keep) xss) ≡ filter (list_all keep) (product xss)
product-filter keep [] = refl
product-filter keep (xs ∷ xss) = ap (λ ps. flat_map (λ x. map (λ c. x ∷ c) ps) (filter keep xs)) (product-filter keep xss) ∙ each xs
  where
    ps : List (List TupleAt)
    ps = product xss

    qs : List (List TupleAt)
    qs = filter (list_all keep) ps

    each : (ys : List TupleAt) → flat_map (λ x. map (λ c. x ∷ c) qs) (filter keep ys) ≡ filter (list_all keep) (flat_map (λ x. map (λ c. x ∷ c) ps) ys)
    each [] = refl
    each (y ∷ ys) =
        go (keep y) ∙ ap (λ zs. cond (keep y) (map (λ c. y ∷ c) qs) [] ++ zs) (each ys)
        ∙ ap (λ zs. zs ++ filter (list_all keep) (flat_map (λ x. map (λ c. x ∷ c) ps) ys)) (sym (filter-cons_each keep y ps))
        ∙ sym (filter-append (list_all keep) (map (λ c. y ∷ c) ps) (flat_map (λ x. map (λ c. x ∷ c) ps) ys))
      where
        go : (b : Bool) → flat_map (λ x. map (λ c. x ∷ c) qs) (cond b (y ∷ filter keep ys) (filter keep ys)) ≡ cond b (map (λ c. y ∷ c) qs) [] ++ flat_map (λ x. map (λ c. x ∷ c) qs) (filter keep ys)
        go true = refl
        go false = refl

-- one tuple of each input from k on, in order
abbrev pub AreInOrder : ℕ → List TupleAt → Type 0
AreInOrder k [] = Unit {0}
AreInOrder k (x ∷ c) = (x.input ≡ k) × AreInOrder (k + 1) c

-- what holds of a combination's tuples
abbrev pub IsPicked : (ℕ → List TupleAt) → ℕ → ℕ → List TupleAt → Type 0
IsPicked f k n c = AreInOrder k c × (length c ≡ n) × ((y : TupleAt) → In y c → In y (f y.input))

picked_more : (f : ℕ → List TupleAt) → ((j : ℕ) (y : TupleAt) → In y (f j) → y.input ≡ j)
    → (k n : ℕ) (x : TupleAt) → In x (f k) → (d c : List TupleAt) → (x ∷ d) ≡ c → IsPicked f (k + 1) n d → IsPicked f k (suc n) c
picked_more f own k n x hx d c e ih = subst (IsPicked f k (suc n)) e ((own k x hx, ih.0), ap suc ih.1, mine)
  where
    mine : (y : TupleAt) → In y (x ∷ d) → In y (f y.input)
    mine y (inl q) = subst (λ (z : TupleAt). In z (f z.input)) q (subst (λ (j : ℕ). In x (f j)) (sym (own k x hx)) hx)
    mine y (inr m) = ih.2 y m

pub picked : (f : ℕ → List TupleAt) → ((j : ℕ) (y : TupleAt) → In y (f j) → y.input ≡ j)
    → (k n : ℕ) (c : List TupleAt) → In c (product (map f (upto_from k n))) → IsPicked f k n c
picked f own k zero c (inl q) = subst (IsPicked f k 0) q (tt, refl, λ y h. absurd h)
picked f own k zero c (inr h) = absurd h
picked f own k (suc n) c h =
    let head = In-flat_map (λ x. map (λ d. x ∷ d) (product (map f (upto_from (k + 1) n)))) c (f k) h in
    let tail = In-map (λ d. head.0 ∷ d) c (product (map f (upto_from (k + 1) n))) head.2 in
    picked_more f own k n head.0 head.1 tail.0 c tail.2 (picked f own (k + 1) n tail.0 tail.1)

order-every : (k n : ℕ) (c : List TupleAt) → AreInOrder k c → length c ≡ n → (j : ℕ) → k ≤ j → j < k + n → (y : TupleAt) × In y c × (y.input ≡ j)
order-every k n [] o l j a b = absurd (omega arith)
order-every k zero (x ∷ c) o l j a b = absurd (omega arith)
order-every k (suc n) (x ∷ c) o l j a b = elim (cases_eq k j) [
  | inl q ↦ (x, inl refl, o.0 ∙ q)
  | inr ne ↦ let r = order-every (k + 1) n c o.1 (omega arith) j (omega arith) (omega arith) in (r.0, inr r.1, r.2)
]

pub order-within : (k : ℕ) (c : List TupleAt) → AreInOrder k c → (y : TupleAt) → In y c → (k ≤ y.input) × (y.input < k + length c)
order-within k [] o y h = absurd h
order-within k (x ∷ c) o y (inl q) = subst (λ (z : TupleAt). (k ≤ z.input) × (z.input < k + suc (length c))) q (omega (arith, o.0), omega (arith, o.0))
order-within k (x ∷ c) o y (inr h) = let r = order-within (k + 1) c o.1 y h in (omega arith, omega arith)

order-single : (k : ℕ) (c : List TupleAt) → AreInOrder k c → (x y : TupleAt) → In x c → In y c → x.input ≡ y.input → x ≡ y
order-single k [] o x y hx hy e = absurd hx
order-single k (z ∷ c) o x y (inl p) (inl q) e = sym p ∙ q
order-single k (z ∷ c) o x y (inl p) (inr h) e = let r = order-within (k + 1) c o.1 y h in absurd (omega (arith, r.0, o.0, e, ap (λ (v : TupleAt). v.input) p))
order-single k (z ∷ c) o x y (inr h) (inl q) e = let r = order-within (k + 1) c o.1 x h in absurd (omega (arith, r.0, o.0, e, ap (λ (v : TupleAt). v.input) q))
order-single k (z ∷ c) o x y (inr h) (inr m) e = order-single (k + 1) c o.1 x y h m e

-- ---- candidates

filter-comm : (p q : TupleAt → Bool) (xs : List TupleAt) → filter p (filter q xs) ≡ filter q (filter p xs)
filter-comm p q xs = filter-filter q p xs ∙ filter-agree (λ x. q x && p x) (λ x. p x && q x) xs (λ x h. swap (q x) (p x)) ∙ sym (filter-filter p q xs)
  where
    swap : (a b : Bool) → (a && b) ≡ (b && a)
    swap true true = refl
    swap true false = refl
    swap false true = refl
    swap false false = refl

pub candidates-own : (x : TupleAt) (rows : List TupleAt) (j : ℕ) (y : TupleAt) → In y (candidates x rows j) → (y.input ≡ j) × (In y rows ⊎ (x ≡ y))
candidates-own x rows j y = go (eqb j x.input) refl
  where
    go : (b : Bool) → eqb j x.input ≡ b → In y (cond b (x ∷ []) (of_input j (older x.ticket rows))) → (y.input ≡ j) × (In y rows ⊎ (x ≡ y))
    go true e (inl q) = (ap (λ (z : TupleAt). z.input) (sym q) ∙ sym (eqb-true j x.input e), inr q)
    go true e (inr h) = absurd h
    go false e h =
        let r = In-filter (λ (z : TupleAt). eqb z.input j) y (older x.ticket rows) h in
        (eqb-true y.input j r.1, inl (In-filter (λ (z : TupleAt). ltb z.ticket x.ticket) y rows r.0).0)

-- at its own input a tuple is the one candidate
candidates-self : (x : TupleAt) (rows : List TupleAt) (y : TupleAt) → In y (candidates x rows y.input) → y.input ≡ x.input → x ≡ y
candidates-self x rows y h e = go (eqb y.input x.input) (eq-eqb y.input x.input e) h
  where
    go : (b : Bool) → b ≡ true → In y (cond b (x ∷ []) (of_input y.input (older x.ticket rows))) → x ≡ y
    go true t (inl q) = q
    go true t (inr k) = absurd k
    go false t k = absurd (false≢true t)

candidates-keep : (keep : TupleAt → Bool) (x : TupleAt) (rows : List TupleAt) (j : ℕ) → keep x ≡ true → candidates x (filter keep rows) j ≡ filter keep (candidates x rows j)
candidates-keep keep x rows j t = go (eqb j x.input)
  where
    go : (b : Bool) → cond b (x ∷ []) (of_input j (older x.ticket (filter keep rows))) ≡ filter keep (cond b (x ∷ []) (of_input j (older x.ticket rows)))
    go true = ap (λ (c : Bool). cond c (x ∷ []) []) (sym t)
    go false = ap (of_input j) (filter-comm (λ (z : TupleAt). ltb z.ticket x.ticket) keep rows) ∙ filter-comm (λ (z : TupleAt). eqb z.input j) keep (older x.ticket rows)

map-map : (keep : TupleAt → Bool) (f : ℕ → List TupleAt) (js : List ℕ) → map (λ j. filter keep (f j)) js ≡ map (filter keep) (map f js)
map-map keep f [] = refl
map-map keep f (j ∷ js) = ap (λ xss. filter keep (f j) ∷ xss) (map-map keep f js)

-- ---- the law

-- a combination of candidates that agree is one
pub is-combination : (spec : JoinData) (rows : List TupleAt) (x : TupleAt) (c : List TupleAt) → x.input < inputs spec
    → In c (product (map (candidates x rows) (upto_from 0 (inputs spec)))) → agree spec.shape.classes c ≡ true
    → IsCombination spec c × In x c × ((y : TupleAt) → In y c → In y rows ⊎ (x ≡ y))
is-combination spec rows x c lt h t = (comb, subst (λ (z : TupleAt). In z c) (sym own) self.1, λ y hy. (candidates-own x rows y.input y (p.2 y hy)).1)
  where
    p : IsPicked (candidates x rows) 0 (inputs spec) c
    p = picked (candidates x rows) (λ j y k. (candidates-own x rows j y k).0) 0 (inputs spec) c h

    comb : IsCombination spec c
    comb = record {
      every = λ k l. order-every 0 (inputs spec) c p.0 p.1 k (omega arith) (omega arith);
      single = order-single 0 c p.0;
      within = λ y hy. let r = order-within 0 c p.0 y hy in omega (arith, r.1, p.1);
      joining = t;
    }

    self : (y : TupleAt) × In y c × (y.input ≡ x.input)
    self = comb.every x.input lt

    own : x ≡ self.0
    own = candidates-self x rows self.0 (p.2 self.0 self.1) self.2

-- an open tuple is stored
pub open-kept : (spec : JoinData) (s : JoinState) (i : IsSound spec s) (x : TupleAt) → In x s.tuples → has s.given x.ticket ≡ false → i.keep x ≡ true
open-kept spec s i x hx o = elim (cases_Bool (i.keep x)) [
  | inl t ↦ t
  | inr f ↦ let w = i.forgotten x hx f in absurd (omega (arith, w.1, w.2, least_open-below s.given s.next s.tuples x hx o))
]

-- a combination that agree and has an open tuple is of stored ones
pub all-kept : (spec : JoinData) (s : JoinState) (i : IsSound spec s) (x : TupleAt) → In x s.tuples → has s.given x.ticket ≡ false
    → (c : List TupleAt) → In c (product (map (candidates x s.tuples) (upto_from 0 (inputs spec)))) → agree spec.shape.classes c ≡ true
    → list_all i.keep c ≡ true
all-kept spec s i x hx o c hc t = all_from i.keep c (λ y hy. elim (cases_Bool (i.keep y)) [
  | inl k ↦ k
  | inr f ↦ let w = i.forgotten y (arrived y (r.2 y hy)) f in
      let l : x.ticket < w.0 = w.3 c r.0 hy (λ z hz. inl (arrived z (r.2 z hz))) x r.1 in
      absurd (omega (arith, w.2, least_open-below s.given s.next s.tuples x hx o))
])
  where
    r : IsCombination spec c × In x c × ((y : TupleAt) → In y c → In y s.tuples ⊎ (x ≡ y))
    r = is-combination spec s.tuples x c (i.fit x hx).0 hc t

    arrived : (y : TupleAt) → In y s.tuples ⊎ (x ≡ y) → In y s.tuples
    arrived y (inl k) = k
    arrived y (inr q) = subst (λ (z : TupleAt). In z s.tuples) q hx

pub same-combinations : (spec : JoinData) (s : JoinState) → IsSound spec s → (x : TupleAt) → In x s.tuples → has s.given x.ticket ≡ false
    → combinations spec s.stored x ≡ combinations spec s.tuples x
same-combinations spec s i x hx o =
    ap (λ rows. combinations spec rows x) i.stored_is
    ∙ ap (λ xss. filter (agree spec.shape.classes) (product xss)) (map-same (candidates x (filter i.keep s.tuples)) (λ j. filter i.keep (candidates x s.tuples j)) ks (λ j h. candidates-keep i.keep x s.tuples j (open-kept spec s i x hx o)) ∙ map-map i.keep (candidates x s.tuples) ks)
    ∙ ap (filter (agree spec.shape.classes)) (product-filter i.keep (map (candidates x s.tuples) ks))
    ∙ filter-filter (list_all i.keep) (agree spec.shape.classes) all
    ∙ filter-agree (λ c. list_all i.keep c && agree spec.shape.classes c) (agree spec.shape.classes) all (λ c hc. both (list_all i.keep c) (agree spec.shape.classes c) (all-kept spec s i x hx o c hc))
  where
    ks : List ℕ
    ks = upto_from 0 (inputs spec)

    all : List (List TupleAt)
    all = product (map (candidates x s.tuples) ks)

    both : (a b : Bool) → (b ≡ true → a ≡ true) → (a && b) ≡ b
    both true b f = refl
    both false true f = f refl
    both false false f = refl

pub same-results : (spec : JoinData) (s : JoinState) → IsSound spec s → (u : ℕ) → has s.given u ≡ false → results spec s.tuples s.stored u ≡ results spec s.tuples s.tuples u
same-results spec s i u o = each (filter (λ x. eqb x.ticket u) s.tuples) (λ x h. In-filter (λ z. eqb z.ticket u) x s.tuples h)
  where
    each : (xs : List TupleAt) → ((x : TupleAt) → In x xs → In x s.tuples × (eqb x.ticket u ≡ true)) → flat_map (combinations spec s.stored) xs ≡ flat_map (combinations spec s.tuples) xs
    each [] f = refl
    each (x ∷ xs) f =
        let k = f x (inl refl) in
        ap (λ cs. cs ++ flat_map (combinations spec s.stored) xs) (same-combinations spec s i x k.0 (ap (has s.given) (eqb-true x.ticket u k.1) ∙ o))
        ∙ ap (λ cs. combinations spec s.tuples x ++ cs) (each xs (λ y h. f y (inr h)))

pub stored-suffice : (spec : JoinData) → StoredSuffice spec
stored-suffice spec steps legal u o = same-results spec (run spec start steps) (sound-run spec start steps (sound-start spec) legal) u o
