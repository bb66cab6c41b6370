-- The weight of a list under a function, and lists that are equal as bags.
use Rattle.std.proofs.Common.{ℕ, ◌+◌, ◌≤◌, ◌<◌, Bool, true, false, cond, not, List, [], ◌∷◌, ◌++◌, ◌≡◌, map, filter, flat_map, refl, sym, ap, ◌∙◌, subst, inl, inr, arith}
use Rattle.pj_value.specs.declared.values.Value.{Value}
use Rattle.pj_value.specs.Values.{row_eq}
use Rattle.pj_value.specs.Bags.{weigh, times, SameBag, SubBag}
use Rattle.pj_value.specs.Laws.{SameBagsCountRows, SubBagsCountRows}
use Rattle.pj_value.specs.Lists.{In}
use Rattle.pj_value.proofs.Orders.{row_equal_itself, row_same_if_equal}

pub weigh-append : {A : Type 0} (f : A → ℕ) (xs ys : List A) → weigh f (xs ++ ys) ≡ weigh f xs + weigh f ys
weigh-append f [] ys = omega arith
weigh-append f (x ∷ xs) ys = omega (arith, weigh-append f xs ys)

pub weigh-map : {A B : Type 0} (f : B → ℕ) (g : A → B) (xs : List A) → weigh f (map g xs) ≡ weigh (λ x. f (g x)) xs
weigh-map f g [] = refl
weigh-map f g (x ∷ xs) = ap (λ n. f (g x) + n) (weigh-map f g xs)

pub weigh-flat_map : {A B : Type 0} (f : B → ℕ) (g : A → List B) (xs : List A) → weigh f (flat_map g xs) ≡ weigh (λ x. weigh f (g x)) xs
weigh-flat_map f g [] = refl
weigh-flat_map f g (x ∷ xs) = omega (arith, weigh-append f (g x) (flat_map g xs), weigh-flat_map f g xs)

pub weigh-filter : {A : Type 0} (f : A → ℕ) (p : A → Bool) (xs : List A) → weigh f (filter p xs) ≡ weigh (λ x. cond (p x) (f x) 0) xs
weigh-filter f p [] = refl
weigh-filter {A} f p (x ∷ xs) = go (p x) (weigh-filter f p xs)
  where
    go : (b : Bool) → weigh f (filter p xs) ≡ weigh (λ (y : A). cond (p y) (f y) 0) xs → weigh f (cond b (x ∷ filter p xs) (filter p xs)) ≡ cond b (f x) 0 + weigh (λ (y : A). cond (p y) (f y) 0) xs
    go true e = omega (arith, e)
    go false e = omega (arith, e)

pub weigh-agree : {A : Type 0} (f g : A → ℕ) (xs : List A) → ((x : A) → In x xs → f x ≡ g x) → weigh f xs ≡ weigh g xs
weigh-agree f g [] e = refl
weigh-agree f g (x ∷ xs) e = omega (arith, e x (inl refl), weigh-agree f g xs (λ y h. e y (inr h)))

pub weigh-plus : {A : Type 0} (f g : A → ℕ) (xs : List A) → weigh (λ x. f x + g x) xs ≡ weigh f xs + weigh g xs
weigh-plus f g [] = refl
weigh-plus f g (x ∷ xs) = omega (arith, weigh-plus f g xs)

pub weigh-zero : {A : Type 0} (xs : List A) → weigh (λ (x : A). 0) xs ≡ 0
weigh-zero [] = refl
weigh-zero (x ∷ xs) = omega (arith, weigh-zero xs)

pub weigh-swap : {A B : Type 0} (f : A → B → ℕ) (xs : List A) (ys : List B) → weigh (λ x. weigh (f x) ys) xs ≡ weigh (λ y. weigh (λ x. f x y) xs) ys
weigh-swap f [] ys = sym (weigh-zero ys)
weigh-swap f (x ∷ xs) ys = omega (arith, weigh-swap f xs ys, weigh-plus (f x) (λ y. weigh (λ z. f z y) xs) ys)

-- what passes a test and what does not weigh as much as all
pub weigh-split : {A : Type 0} (f : A → ℕ) (p : A → Bool) (xs : List A) → weigh f (filter p xs) + weigh f (filter (λ x. not (p x)) xs) ≡ weigh f xs
weigh-split f p [] = refl
weigh-split {A} f p (x ∷ xs) = go (p x) (weigh-split f p xs)
  where
    go : (b : Bool) → weigh f (filter p xs) + weigh f (filter (λ (y : A). not (p y)) xs) ≡ weigh f xs
        → weigh f (cond b (x ∷ filter p xs) (filter p xs)) + weigh f (cond (not b) (x ∷ filter (λ (y : A). not (p y)) xs) (filter (λ (y : A). not (p y)) xs)) ≡ f x + weigh f xs
    go true e = omega (arith, e)
    go false e = omega (arith, e)

pub weigh-le : {A : Type 0} (f g : A → ℕ) (xs : List A) → ((x : A) → In x xs → f x ≤ g x) → weigh f xs ≤ weigh g xs
weigh-le f g [] e = omega arith
weigh-le f g (x ∷ xs) e = omega (arith, e x (inl refl), weigh-le f g xs (λ y h. e y (inr h)))

pub sub-filter : {A : Type 0} (p : A → Bool) (xs ys : List A) → SubBag xs ys → SubBag (filter p xs) (filter p ys)
sub-filter p xs ys s f = omega (arith, weigh-filter f p xs, s (λ x. cond (p x) (f x) 0), weigh-filter f p ys)

pub sub-map : {A B : Type 0} (g : A → B) (xs ys : List A) → SubBag xs ys → SubBag (map g xs) (map g ys)
sub-map g xs ys s f = omega (arith, weigh-map f g xs, s (λ x. f (g x)), weigh-map f g ys)

pub sub-front : {A : Type 0} (xs ys : List A) → SubBag xs (xs ++ ys)
sub-front xs ys f = omega (arith, weigh-append f xs ys)

-- ---- members

-- what passes a test weighs something where it is a member
pub weighs-in : {A : Type 0} (p : A → Bool) (x : A) (xs : List A) → In x xs → p x ≡ true → 0 < weigh (λ y. cond (p y) 1 0) xs
weighs-in p x [] h t = absurd h
weighs-in p x (y ∷ xs) (inl q) t = let e : cond {A = ℕ} (p y) 1 0 ≡ 1 = ap (λ b. cond b 1 0) (ap p q ∙ t) in omega (arith, e)
weighs-in p x (y ∷ xs) (inr h) t = omega (arith, weighs-in p x xs h t)

-- where something weighs, a member passes the test
pub weighed-in : {A : Type 0} (p : A → Bool) (xs : List A) → 0 < weigh (λ y. cond (p y) 1 0) xs → (x : A) × In x xs × (p x ≡ true)
weighed-in p [] lt = absurd (omega (arith, lt))
weighed-in p (y ∷ xs) lt = go (p y) refl lt (weighed-in p xs)
  where
    go : (b : Bool) → p y ≡ b → 0 < cond b 1 0 + weigh (λ z. cond (p z) 1 0) xs → (0 < weigh (λ z. cond (p z) 1 0) xs → (x : _) × In x xs × (p x ≡ true)) → (x : _) × In x (y ∷ xs) × (p x ≡ true)
    go true e l ih = (y, inl refl, e)
    go false e l ih = let r = ih (omega (arith, l)) in (r.0, inr r.1, r.2)

-- lists that are equal as bags have the same members, where a test tells items apart
pub member-of : {A : Type 0} (same : A → A → Bool) → ((x y : A) → same x y ≡ true → x ≡ y) → ((x : A) → same x x ≡ true) → (xs ys : List A) → SameBag xs ys → (x : A) → In x xs → In x ys
member-of {A} same exact reflexive xs ys s x h =
    let r = weighed-in (same x) ys (omega (arith, weighs-in (same x) x xs h (reflexive x), s (λ y. cond (same x y) 1 0))) in
    subst (λ (y : A). In y ys) (sym (exact x r.0 r.2)) r.1

-- ---- rows

-- the list without the first row that is this one
abbrev without_first : List Value → List (List Value) → List (List Value)
without_first row [] = []
without_first row (r ∷ rows) = cond (row_eq row r) rows (r ∷ without_first row rows)

weigh-without_first : (f : List Value → ℕ) (row : List Value) (rows : List (List Value)) → 0 < times row rows → weigh f rows ≡ f row + weigh f (without_first row rows)
weigh-without_first f row [] lt = absurd (omega (arith, lt))
weigh-without_first f row (r ∷ rows) lt = go (row_eq row r) refl lt (weigh-without_first f row rows)
  where
    go : (b : Bool) → row_eq row r ≡ b → 0 < cond b 1 0 + times row rows → (0 < times row rows → weigh f rows ≡ f row + weigh f (without_first row rows))
        → f r + weigh f rows ≡ f row + weigh f (cond b rows (r ∷ without_first row rows))
    go true e l ih = ap (λ (x : List Value). f x + weigh f rows) (sym (row_same_if_equal row r e))
    go false e l ih = omega (arith, ih (omega (arith, l)))

times-here : (row : List Value) (rows : List (List Value)) → times row (row ∷ rows) ≡ 1 + times row rows
times-here row rows = ap (λ (b : Bool). cond b 1 0 + times row rows) (row_equal_itself row)

sub-counted : (xs ys : List (List Value)) → ((row : List Value) → times row xs ≤ times row ys) → SubBag xs ys
sub-counted [] ys c f = omega arith
sub-counted (x ∷ xs) ys c f =
    let there : 0 < times x ys = omega (arith, c x, times-here x xs) in
    let rest : weigh f xs ≤ weigh f (without_first x ys) = sub-counted xs (without_first x ys) (λ row. omega (arith, c row, weigh-without_first (λ r. cond (row_eq row r) 1 0) x ys there)) f in
    omega (arith, rest, weigh-without_first f x ys there)

pub sub_where_counted : SubBagsCountRows
sub_where_counted xs ys = (λ s row. s (λ r. cond (row_eq row r) 1 0), sub-counted xs ys)

pub same_where_counted : SameBagsCountRows
same_where_counted xs ys = (
  λ s row. s (λ r. cond (row_eq row r) 1 0),
  λ c f. omega (arith, sub-counted xs ys (λ row. omega (arith, c row)) f, sub-counted ys xs (λ row. omega (arith, c row)) f),
)
