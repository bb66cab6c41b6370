-- Membership in lists that `++`, `filter`, `map` and `flat_map` make, and the tests `list_all` and `list_any`.
use Rattle.std.proofs.Common.{ℕ, zero, suc, ◌<◌, ◌≤◌, Some, slice_get, length, get_or, arith, Bool, true, false, cond, ◌&&◌, ◌||◌, List, [], ◌∷◌, ◌++◌, ◌≡◌, ◌⊎◌, map, filter, flat_map, refl, sym, ap, ◌∙◌, subst, inl, inr}
use Rattle.std.specs.List.{list_all, list_any}
use Rattle.std.proofs.lemmas.Bool.{and_parts, and_from, or_cases, or_left, or_right, false≢true}
use Rattle.pj_value.specs.Lists.{In}

pub In-append_left : {A : Type 0} (x : A) (xs ys : List A) → In x xs → In x (xs ++ ys)
In-append_left x [] ys h = absurd h
In-append_left x (y ∷ xs) ys (inl e) = inl e
In-append_left x (y ∷ xs) ys (inr h) = inr (In-append_left x xs ys h)

pub In-append_right : {A : Type 0} (x : A) (xs ys : List A) → In x ys → In x (xs ++ ys)
In-append_right x [] ys h = h
In-append_right x (y ∷ xs) ys h = inr (In-append_right x xs ys h)

pub In-append_cases : {A : Type 0} (x : A) (xs ys : List A) → In x (xs ++ ys) → In x xs ⊎ In x ys
In-append_cases x [] ys h = inr h
In-append_cases x (y ∷ xs) ys (inl e) = inl (inl e)
In-append_cases x (y ∷ xs) ys (inr h) = elim (In-append_cases x xs ys h) [ inl k ↦ inl (inr k) | inr k ↦ inr k ]

pub In-filter : {A : Type 0} (p : A → Bool) (x : A) (xs : List A) → In x (filter p xs) → In x xs × (p x ≡ true)
In-filter p x [] h = absurd h
In-filter {A} p x (y ∷ ys) h = go (p y) refl (In-filter p x ys) h
  where
    go : (b : Bool) → p y ≡ b → (In x (filter p ys) → In x ys × (p x ≡ true)) → In x (cond b (y ∷ filter p ys) (filter p ys)) → In x (y ∷ ys) × (p x ≡ true)
    go true e ih (inl q) = (inl q, subst (λ (z : A). p z ≡ true) q e)
    go true e ih (inr k) = (inr (ih k).0, (ih k).1)
    go false e ih k = (inr (ih k).0, (ih k).1)

pub In-filter_from : {A : Type 0} (p : A → Bool) (x : A) (xs : List A) → In x xs → p x ≡ true → In x (filter p xs)
In-filter_from p x [] h t = absurd h
In-filter_from {A} p x (y ∷ ys) (inl q) t = subst (λ b. In x (cond b (y ∷ filter p ys) (filter p ys))) (sym (ap p q ∙ t)) (inl q)
In-filter_from {A} p x (y ∷ ys) (inr k) t = go (p y) (In-filter_from p x ys k t)
  where
    go : (b : Bool) → In x (filter p ys) → In x (cond b (y ∷ filter p ys) (filter p ys))
    go true h = inr h
    go false h = h

pub In-map : {A B : Type 0} (f : A → B) (y : B) (xs : List A) → In y (map f xs) → (x : A) × In x xs × (f x ≡ y)
In-map f y [] h = absurd h
In-map f y (x ∷ xs) (inl e) = (x, inl refl, e)
In-map f y (x ∷ xs) (inr h) = let r = In-map f y xs h in (r.0, inr r.1, r.2)

pub In-map_from : {A B : Type 0} (f : A → B) (x : A) (xs : List A) → In x xs → In (f x) (map f xs)
In-map_from f x [] h = absurd h
In-map_from f x (y ∷ xs) (inl e) = inl (ap f e)
In-map_from f x (y ∷ xs) (inr h) = inr (In-map_from f x xs h)

pub In-flat_map : {A B : Type 0} (f : A → List B) (y : B) (xs : List A) → In y (flat_map f xs) → (x : A) × In x xs × In y (f x)
In-flat_map f y [] h = absurd h
In-flat_map f y (x ∷ xs) h = go (In-append_cases y (f x) (flat_map f xs) h) (In-flat_map f y xs)
  where
    go : In y (f x) ⊎ In y (flat_map f xs) → (In y (flat_map f xs) → (z : _) × In z xs × In y (f z)) → (z : _) × In z (x ∷ xs) × In y (f z)
    go (inl k) ih = (x, inl refl, k)
    go (inr k) ih = ((ih k).0, inr (ih k).1, (ih k).2)

pub In-flat_map_from : {A B : Type 0} (f : A → List B) (y : B) (x : A) (xs : List A) → In x xs → In y (f x) → In y (flat_map f xs)
In-flat_map_from f y x [] h k = absurd h
In-flat_map_from {A} f y x (z ∷ xs) (inl e) k = In-append_left y (f z) (flat_map f xs) (subst (λ (w : A). In y (f w)) (sym e) k)
In-flat_map_from f y x (z ∷ xs) (inr h) k = In-append_right y (f z) (flat_map f xs) (In-flat_map_from f y x xs h k)

pub all_at : {A : Type 0} (p : A → Bool) (xs : List A) (x : A) → list_all p xs ≡ true → In x xs → p x ≡ true
all_at p [] x t h = absurd h
all_at {A} p (y ∷ xs) x t (inl e) = subst (λ (z : A). p z ≡ true) e (and_parts (p y) (list_all p xs) t).0
all_at p (y ∷ xs) x t (inr h) = all_at p xs x (and_parts (p y) (list_all p xs) t).1 h

pub all_from : {A : Type 0} (p : A → Bool) (xs : List A) → ((x : A) → In x xs → p x ≡ true) → list_all p xs ≡ true
all_from p [] f = refl
all_from p (x ∷ xs) f = and_from (p x) (list_all p xs) (f x (inl refl)) (all_from p xs (λ y h. f y (inr h)))

pub any_at : {A : Type 0} (p : A → Bool) (xs : List A) → list_any p xs ≡ true → (x : A) × In x xs × (p x ≡ true)
any_at p [] t = absurd (false≢true t)
any_at p (x ∷ xs) t = go (or_cases (p x) (list_any p xs) t) (any_at p xs)
  where
    go : (p x ≡ true) ⊎ (list_any p xs ≡ true) → (list_any p xs ≡ true → (z : _) × In z xs × (p z ≡ true)) → (z : _) × In z (x ∷ xs) × (p z ≡ true)
    go (inl e) ih = (x, inl refl, e)
    go (inr e) ih = ((ih e).0, inr (ih e).1, (ih e).2)

pub any_from : {A : Type 0} (p : A → Bool) (xs : List A) (x : A) → In x xs → p x ≡ true → list_any p xs ≡ true
any_from p [] x h t = absurd h
any_from p (y ∷ xs) x (inl e) t = or_left (p y) (list_any p xs) (ap p e ∙ t)
any_from p (y ∷ xs) x (inr h) t = or_right (p y) (list_any p xs) (any_from p xs x h t)

pub none_from : {A : Type 0} (p : A → Bool) (xs : List A) → ((x : A) → In x xs → p x ≡ false) → list_any p xs ≡ false
none_from p [] f = refl
none_from p (x ∷ xs) f = ap (λ b. b || list_any p xs) (f x (inl refl)) ∙ none_from p xs (λ y h. f y (inr h))

pub none_at : {A : Type 0} (p : A → Bool) (xs : List A) (x : A) → list_any p xs ≡ false → In x xs → p x ≡ true → ⊥
none_at p xs x e h t = false≢true (sym e ∙ any_from p xs x h t)

pub filter-agree : {A : Type 0} (p q : A → Bool) (xs : List A) → ((x : A) → In x xs → p x ≡ q x) → filter p xs ≡ filter q xs
filter-agree p q [] f = refl
filter-agree {A} p q (x ∷ xs) f = go (p x) (q x) (f x (inl refl)) (filter-agree p q xs (λ y h. f y (inr h)))
  where
    go : (a b : Bool) → a ≡ b → filter p xs ≡ filter q xs → cond a (x ∷ filter p xs) (filter p xs) ≡ cond b (x ∷ filter q xs) (filter q xs)
    go a b e ih = ap (λ (c : Bool). cond c (x ∷ filter p xs) (filter p xs)) e ∙ ap (λ (ys : List A). cond b (x ∷ ys) ys) ih

pub filter-filter : {A : Type 0} (p q : A → Bool) (xs : List A) → filter q (filter p xs) ≡ filter (λ x. p x && q x) xs
filter-filter p q [] = refl
filter-filter {A} p q (x ∷ xs) = go (p x) (filter-filter p q xs)
  where
    go : (b : Bool) → filter q (filter p xs) ≡ filter (λ (y : A). p y && q y) xs → filter q (cond b (x ∷ filter p xs) (filter p xs)) ≡ cond (b && q x) (x ∷ filter (λ (y : A). p y && q y) xs) (filter (λ (y : A). p y && q y) xs)
    go false ih = ih
    go true ih = ap (λ (ys : List A). cond (q x) (x ∷ ys) ys) ih

pub filter-all : {A : Type 0} (p : A → Bool) (xs : List A) → ((x : A) → In x xs → p x ≡ true) → filter p xs ≡ xs
filter-all p [] f = refl
filter-all {A} p (x ∷ xs) f = ap (λ (b : Bool). cond b (x ∷ filter p xs) (filter p xs)) (f x (inl refl)) ∙ ap (λ (ys : List A). x ∷ ys) (filter-all p xs (λ y h. f y (inr h)))

pub map-same : {A B : Type 0} (f g : A → B) (xs : List A) → ((x : A) → In x xs → f x ≡ g x) → map f xs ≡ map g xs
map-same f g [] e = refl
map-same {A} {B} f g (x ∷ xs) e = ap (λ (y : B). y ∷ map f xs) (e x (inl refl)) ∙ ap (λ (ys : List B). g x ∷ ys) (map-same f g xs (λ y h. e y (inr h)))

-- what stands at a place is in the list
pub in-place : {A : Type 0} (xs : List A) (d : A) (k : ℕ) → k < length xs → In (get_or xs k d) xs
in-place [] d k lt = absurd (omega arith)
in-place (x ∷ xs) d zero lt = inl refl
in-place (x ∷ xs) d (suc k) lt = inr (in-place xs d k (omega arith))

-- what stands at a place of the items with these numbers
pub map-at : {A : Type 0} (xs : List A) (d : A) (ms : List ℕ) (k : ℕ) → k < length ms → get_or (map (λ m. get_or xs m d) ms) k d ≡ get_or xs (get_or ms k 0) d
map-at xs d [] k lt = absurd (omega arith)
map-at xs d (m ∷ ms) zero lt = refl
map-at xs d (m ∷ ms) (suc k) lt = map-at xs d ms k (omega arith)

pub in_at : {A : Type 0} (xs : List A) (i : ℕ) (x : A) → slice_get xs i ≡ Some x → In x xs
in_at [] i x e = absurd (cc)
in_at (y ∷ ys) zero x e = inl (cc)
in_at (y ∷ ys) (suc i) x e = inr (in_at ys i x e)

pub filter_map_swap : {A B : Type 0} (p : B → Bool) (f : A → B) (xs : List A) → filter p (map f xs) ≡ map f (filter (λ x. p (f x)) xs)
filter_map_swap p f [] = refl
filter_map_swap {A} {B} p f (x ∷ xs) = go (p (f x)) (filter_map_swap p f xs)
  where
    go : (b : Bool) → filter p (map f xs) ≡ map f (filter (λ y. p (f y)) xs) → cond b (f x ∷ filter p (map f xs)) (filter p (map f xs)) ≡ map f (cond b (x ∷ filter (λ y. p (f y)) xs) (filter (λ y. p (f y)) xs))
    go true e = ap (λ (ys : List B). f x ∷ ys) e
    go false e = e

pub filter_few : {A : Type 0} (p : A → Bool) (xs : List A) → length (filter p xs) ≤ length xs
filter_few p [] = omega arith
filter_few {A} p (x ∷ xs) = go (p x) (filter_few p xs)
  where
    go : (b : Bool) → length (filter p xs) ≤ length xs → length (cond b (x ∷ filter p xs) (filter p xs)) ≤ suc (length xs)
    go true l = omega (arith, l)
    go false l = omega (arith, l)
