-- The choices of a tuple give all its results.
use Rattle.std.proofs.Common.{ℕ, zero, suc, ◌+◌, ◌-◌, ◌<◌, ◌≤◌, Bool, true, false, cond, ◌&&◌, ◌||◌, List, [], ◌∷◌, ◌≡◌, map, filter, length, get_or, refl, sym, ap, ap₂, ◌∙◌, subst, inl, inr, eqb, ltb, arith}
use Rattle.std.specs.List.{list_all}
use Rattle.std.proofs.lemmas.Bool.{eqb-true, eq-eqb, false≢true, or_right}
use Rattle.std.proofs.lemmas.List.{length-map}
use Rattle.pj_events.specs.Join.{In, JoinData, TupleAt, ClassCol, agree, product, of_input, older, upto_from, candidates}
use Rattle.pj_probe.specs.Choices.{AreNarrowed, may_join, choice, choices}
use Rattle.pj_rows.specs.AgreesWith.{agrees_with}
use Rattle.pj_value.proofs.Members.{In-flat_map, In-map, all_from, filter-agree, filter-filter}
use Rattle.pj_probe.proofs.Suiting.{pair-agrees_with}
use Rattle.pj_probe.proofs.Filtering.{product-filter}
use Rattle.pj_join_laws.proofs.Upto.{length-upto, get_or-upto, map-upto}
use Rattle.pj_join_laws.proofs.Matching.{agree-mono}

-- ---- numbers from one on

pub map-map_upto : {A B : Type 0} (g : A → B) (f : ℕ → A) (base n : ℕ) → map g (map f (upto_from base n)) ≡ map (λ k. g (f k)) (upto_from base n)
map-map_upto g f base zero = refl
map-map_upto {A} {B} g f base (suc n) = ap (λ (ys : List B). g (f base) ∷ ys) (map-map_upto g f (base + 1) n)

-- ---- the tuple stands in each combination

pub product-has : {A : Type 0} (x : A) (f : ℕ → List A) (i base n : ℕ) → f i ≡ x ∷ [] → base ≤ i → i < base + n → (c : List A) → In c (product (map f (upto_from base n))) → In x c
product-has x f i base zero e le lt c h = absurd (omega (arith, le, lt))
product-has {A} x f i base (suc n) e le lt c h = go (eqb base i) refl (In-flat_map (λ (y : A). map (λ d. y ∷ d) (product (map f (upto_from (base + 1) n)))) c (f base) h) (product-has x f i (base + 1) n e)
  where
    go : (b : Bool) → eqb base i ≡ b → (y : A) × In y (f base) × In c (map (λ d. y ∷ d) (product (map f (upto_from (base + 1) n))))
        → (base + 1 ≤ i → i < (base + 1) + n → (d : List A) → In d (product (map f (upto_from (base + 1) n))) → In x d) → In x c
    go true k (y, hy, hc) ih =
        let d = In-map (λ (d : List A). y ∷ d) c (product (map f (upto_from (base + 1) n))) hc in
        subst (λ (z : List A). In x z) d.2 (inl (only (subst (λ (ys : List A). In y ys) (ap f (eqb-true base i k) ∙ e) hy)))
      where
        only : In y (x ∷ []) → y ≡ x
        only (inl q) = sym q
        only (inr q) = absurd q
    go false k (y, hy, hc) ih =
        let d = In-map (λ (d : List A). y ∷ d) c (product (map f (upto_from (base + 1) n))) hc in
        subst (λ (z : List A). In x z) d.2 (inr (ih (omega (arith, le, apart)) (omega (arith, lt)) d.0 d.1))
      where
        apart : base ≡ i → ⊥
        apart q = false≢true (sym k ∙ eq-eqb base i q)

-- a tuple that stands in a combination may be put before it
agree-own : (classes : List (List ClassCol)) (x : TupleAt) (c : List TupleAt) → In x c → agree classes (x ∷ c) ≡ agree classes c
agree-own classes x c h = go (agree classes c) (agree classes (x ∷ c)) (agree-mono classes c (x ∷ c) (λ y k. inr k)) (agree-mono classes (x ∷ c) c sub)
  where
    sub : (y : TupleAt) → In y (x ∷ c) → In y c
    sub y (inl e) = subst (λ (z : TupleAt). In z c) e h
    sub y (inr k) = k

    go : (a b : Bool) → (b ≡ true → a ≡ true) → (a ≡ true → b ≡ true) → b ≡ a
    go true b f g = g refl
    go false true f g = sym (f refl)
    go false false f g = refl

-- ---- choices and candidates

-- of an input's candidates those of the tuple's own input, and of others what suits it, are its choice
choice-candidates : (classes : List (List ClassCol)) (x : TupleAt) (log : List TupleAt) (sides : List (List TupleAt)) (k : ℕ) → get_or sides k [] ≡ of_input k log
    → filter (λ y. eqb y.input x.input || agrees_with classes (x ∷ []) y) (candidates x log k) ≡ choice classes x sides k
choice-candidates classes x log sides k e = go (eqb k x.input) refl
  where
    same : eqb k x.input ≡ false → (y : TupleAt) → In y log
        → ((ltb y.ticket x.ticket && eqb y.input k) && (eqb y.input x.input || agrees_with classes (x ∷ []) y)) ≡ (eqb y.input k && (ltb y.ticket x.ticket && agrees_with classes (x ∷ []) y))
    same f y h = cases (ltb y.ticket x.ticket) (eqb y.input k) refl
      where
        cases : (a b : Bool) → eqb y.input k ≡ b → ((a && b) && (eqb y.input x.input || agrees_with classes (x ∷ []) y)) ≡ (b && (a && agrees_with classes (x ∷ []) y))
        cases true true q = ap (λ c. c || agrees_with classes (x ∷ []) y) (ap (λ m. eqb m x.input) (eqb-true y.input k q) ∙ f)
        cases true false q = refl
        cases false true q = refl
        cases false false q = refl

    go : (b : Bool) → eqb k x.input ≡ b
        → filter (λ y. eqb y.input x.input || agrees_with classes (x ∷ []) y) (cond b (x ∷ []) (of_input k (older x.ticket log))) ≡ cond b (x ∷ []) (filter (λ y. ltb y.ticket x.ticket && agrees_with classes (x ∷ []) y) (get_or sides k []))
    go true q = ap (λ b. cond (b || agrees_with classes (x ∷ []) x) (x ∷ []) []) (eq-eqb x.input x.input refl)
    go false q =
        ap (filter (λ y. eqb y.input x.input || agrees_with classes (x ∷ []) y)) (filter-filter (λ (y : TupleAt). ltb y.ticket x.ticket) (λ (y : TupleAt). eqb y.input k) log)
        ∙ filter-filter (λ (y : TupleAt). ltb y.ticket x.ticket && eqb y.input k) (λ (y : TupleAt). eqb y.input x.input || agrees_with classes (x ∷ []) y) log
        ∙ filter-agree (λ (y : TupleAt). (ltb y.ticket x.ticket && eqb y.input k) && (eqb y.input x.input || agrees_with classes (x ∷ []) y)) (λ (y : TupleAt). eqb y.input k && (ltb y.ticket x.ticket && agrees_with classes (x ∷ []) y)) log (same q)
        ∙ sym (filter-filter (λ (y : TupleAt). eqb y.input k) (λ (y : TupleAt). ltb y.ticket x.ticket && agrees_with classes (x ∷ []) y) log)
        ∙ ap (filter (λ y. ltb y.ticket x.ticket && agrees_with classes (x ∷ []) y)) (sym e)

-- the combinations of the choices that join are those of all candidates
pub choices-combinations : (spec : JoinData) (x : TupleAt) (log : List TupleAt) (sides : List (List TupleAt)) → x.input < length spec.shape.inputs → sides ≡ map (λ k. of_input k log) (upto_from 0 (length spec.shape.inputs))
    → filter (agree spec.shape.classes) (product (choices spec.shape.classes x sides)) ≡ filter (agree spec.shape.classes) (product (map (candidates x log) (upto_from 0 (length spec.shape.inputs))))
choices-combinations spec x log sides lt e =
    ap (λ m. filter (agree spec.shape.classes) (product (map (choice spec.shape.classes x sides) (upto_from 0 m)))) count
    ∙ sym (own-first (choice spec.shape.classes x sides) own-choice)
    ∙ ap (λ (lists : List (List TupleAt)). filter (λ c. agree spec.shape.classes (x ∷ c)) (product lists)) (sym filtered)
    ∙ sym (product-filter (λ y. eqb y.input x.input || agrees_with spec.shape.classes (x ∷ []) y) (λ c. agree spec.shape.classes (x ∷ c)) (map (candidates x log) (upto_from 0 (length spec.shape.inputs))) all-pass)
    ∙ own-first (candidates x log) own-candidate
  where
    count : length sides ≡ length spec.shape.inputs
    count = ap (λ (s : List (List TupleAt)). length s) e ∙ length-map (upto_from 0 (length spec.shape.inputs)) (λ k. of_input k log) ∙ length-upto 0 (length spec.shape.inputs)

    own-choice : choice spec.shape.classes x sides x.input ≡ x ∷ []
    own-choice = ap (λ b. cond b (x ∷ []) (filter (λ y. ltb y.ticket x.ticket && agrees_with spec.shape.classes (x ∷ []) y) (get_or sides x.input []))) (eq-eqb x.input x.input refl)

    own-candidate : candidates x log x.input ≡ x ∷ []
    own-candidate = ap (λ b. cond b (x ∷ []) (of_input x.input (older x.ticket log))) (eq-eqb x.input x.input refl)

    own-first : (f : ℕ → List TupleAt) → f x.input ≡ x ∷ [] → filter (λ c. agree spec.shape.classes (x ∷ c)) (product (map f (upto_from 0 (length spec.shape.inputs)))) ≡ filter (agree spec.shape.classes) (product (map f (upto_from 0 (length spec.shape.inputs))))
    own-first f own =
        filter-agree (λ c. agree spec.shape.classes (x ∷ c)) (agree spec.shape.classes) (product (map f (upto_from 0 (length spec.shape.inputs)))) (λ c h.
        agree-own spec.shape.classes x c (product-has x f x.input 0 (length spec.shape.inputs) own (omega arith) (omega (arith, lt)) c h))

    side-at : (k : ℕ) → k < 0 + length spec.shape.inputs → get_or sides k [] ≡ of_input k log
    side-at k l = ap (λ (s : List (List TupleAt)). get_or s k []) e ∙ get_or-upto (λ i. of_input i log) 0 (length spec.shape.inputs) k [] (omega (arith, l)) ∙ ap (λ i. of_input i log) (omega arith)

    filtered : map (filter (λ y. eqb y.input x.input || agrees_with spec.shape.classes (x ∷ []) y)) (map (candidates x log) (upto_from 0 (length spec.shape.inputs))) ≡ map (choice spec.shape.classes x sides) (upto_from 0 (length spec.shape.inputs))
    filtered =
        map-map_upto (filter (λ y. eqb y.input x.input || agrees_with spec.shape.classes (x ∷ []) y)) (candidates x log) 0 (length spec.shape.inputs)
        ∙ map-upto (λ k. filter (λ y. eqb y.input x.input || agrees_with spec.shape.classes (x ∷ []) y) (candidates x log k)) (choice spec.shape.classes x sides) 0 (length spec.shape.inputs) (λ k l. choice-candidates spec.shape.classes x log sides k (side-at k l))

    all-pass : (c : List TupleAt) → agree spec.shape.classes (x ∷ c) ≡ true → list_all (λ y. eqb y.input x.input || agrees_with spec.shape.classes (x ∷ []) y) c ≡ true
    all-pass c t = all_from (λ y. eqb y.input x.input || agrees_with spec.shape.classes (x ∷ []) y) c (λ y h. or_right (eqb y.input x.input) (agrees_with spec.shape.classes (x ∷ []) y) (pair-agrees_with spec.shape.classes (x ∷ c) x y t (inl refl) (inr h)))

-- ---- lists among which the choices are

pub as-upto : {A : Type 0} (d : A) (base : ℕ) (xs : List A) → xs ≡ map (λ k. get_or xs (k - base) d) (upto_from base (length xs))
as-upto d base [] = refl
as-upto {A} d base (x ∷ xs) =
    ap₂ (λ (y : A) (ys : List A). y ∷ ys) (ap (λ k. get_or (x ∷ xs) k d) (same base)) (as-upto d (base + 1) xs ∙ shift (base + 1) (length xs) (omega arith))
  where
    same : (n : ℕ) → 0 ≡ n - n
    same n = omega arith

    shift : (from n : ℕ) → base < from → map (λ k. get_or xs (k - (base + 1)) d) (upto_from from n) ≡ map (λ k. get_or (x ∷ xs) (k - base) d) (upto_from from n)
    shift from zero lt = refl
    shift from (suc n) lt = ap₂ (λ (y : A) (ys : List A). y ∷ ys) (ap (λ k. get_or (x ∷ xs) k d) (less from base lt)) (shift (from + 1) n (omega (arith, lt)))
      where
        less : (a b : ℕ) → b < a → suc (a - (b + 1)) ≡ a - b
        less a b l = omega (arith, l)

-- lists among which the choices are give the same combinations
pub narrowed-finds : (classes : List (List ClassCol)) (x : TupleAt) (sides lists : List (List TupleAt)) → AreNarrowed classes x sides lists → x.input < length sides
    → filter (agree classes) (product lists) ≡ filter (agree classes) (product (choices classes x sides))
narrowed-finds classes x sides lists n lt =
    own-first lists (as-upto [] 0 lists) own-alone
    ∙ product-filter (may_join classes x) (λ c. agree classes (x ∷ c)) lists all-pass
    ∙ ap (λ (ls : List (List TupleAt)). filter (λ c. agree classes (x ∷ c)) (product ls)) filtered
    ∙ sym (own-choices)
  where
    at : ℕ → List TupleAt
    at k = get_or lists (k - 0) []

    minus-none : (k : ℕ) → k - 0 ≡ k
    minus-none k = omega arith

    own-alone : at x.input ≡ x ∷ []
    own-alone = ap (λ k. get_or lists k []) (minus-none x.input) ∙ (n.each x.input (omega (arith, lt, n.count))).alone refl

    first-of : (m : ℕ) (f : ℕ → List TupleAt) → x.input < m → f x.input ≡ x ∷ [] → filter (agree classes) (product (map f (upto_from 0 m))) ≡ filter (λ c. agree classes (x ∷ c)) (product (map f (upto_from 0 m)))
    first-of m f l own =
        sym (filter-agree (λ c. agree classes (x ∷ c)) (agree classes) (product (map f (upto_from 0 m))) (λ c h. agree-own classes x c (product-has x f x.input 0 m own (omega arith) (omega (arith, l)) c h)))

    own-first : (ls : List (List TupleAt)) → ls ≡ map at (upto_from 0 (length lists)) → at x.input ≡ x ∷ [] → filter (agree classes) (product ls) ≡ filter (λ c. agree classes (x ∷ c)) (product ls)
    own-first ls e own =
        ap (λ (qs : List (List TupleAt)). filter (agree classes) (product qs)) e
        ∙ first-of (length lists) at (omega (arith, lt, n.count)) own
        ∙ sym (ap (λ (qs : List (List TupleAt)). filter (λ c. agree classes (x ∷ c)) (product qs)) e)

    own-choices : filter (agree classes) (product (choices classes x sides)) ≡ filter (λ c. agree classes (x ∷ c)) (product (choices classes x sides))
    own-choices = first-of (length sides) (choice classes x sides) lt (ap (λ b. cond b (x ∷ []) (filter (λ y. ltb y.ticket x.ticket && agrees_with classes (x ∷ []) y) (get_or sides x.input []))) (eq-eqb x.input x.input refl))

    filtered : map (filter (may_join classes x)) lists ≡ choices classes x sides
    filtered =
        ap (map (filter (may_join classes x))) (as-upto [] 0 lists)
        ∙ map-map_upto (filter (may_join classes x)) at 0 (length lists)
        ∙ map-upto (λ k. filter (may_join classes x) (at k)) (choice classes x sides) 0 (length lists) (λ k l. ap (λ i. filter (may_join classes x) (get_or lists i [])) (minus-none k) ∙ (n.each k (omega (arith, l))).among)
        ∙ ap (λ m. map (choice classes x sides) (upto_from 0 m)) n.count

    all-pass : (c : List TupleAt) → agree classes (x ∷ c) ≡ true → list_all (may_join classes x) c ≡ true
    all-pass c t = all_from (may_join classes x) c (λ y h. or_right (eqb y.input x.input) (agrees_with classes (x ∷ []) y) (pair-agrees_with classes (x ∷ c) x y t (inl refl) (inr h)))
