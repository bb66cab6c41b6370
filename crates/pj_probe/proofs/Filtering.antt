-- Combinations of lists that were looked through before.
use Rattle.std.proofs.Common.{Bool, true, false, cond, List, [], ◌∷◌, ◌++◌, ◌≡◌, map, filter, flat_map, refl, sym, ap, ap₂, ◌∙◌}
use Rattle.std.specs.List.{list_all}
use Rattle.std.proofs.lemmas.Bool.{and_parts, false≢true, false_from_ne_true}
use Rattle.std.proofs.lemmas.List.Elements.{filter-append}
use Rattle.pj_events.specs.Join.{product}
use Rattle.pj_value.proofs.Members.{filter_map_swap}

-- ---- lists that were looked through before

filter-flat : {A B : Type 0} (p : B → Bool) (f : A → List B) (xs : List A) → filter p (flat_map f xs) ≡ flat_map (λ x. filter p (f x)) xs
filter-flat p f [] = refl
filter-flat {A} {B} p f (x ∷ xs) = filter-append p (f x) (flat_map f xs) ∙ ap (λ (ys : List B). filter p (f x) ++ ys) (filter-flat p f xs)

pub flat_map-agree : {A B : Type 0} (f g : A → List B) (xs : List A) → ((x : A) → f x ≡ g x) → flat_map f xs ≡ flat_map g xs
flat_map-agree f g [] e = refl
flat_map-agree {A} {B} f g (x ∷ xs) e = ap₂ (λ (ys zs : List B). ys ++ zs) (e x) (flat_map-agree f g xs e)

-- items that give nothing may be left out
flat_map-filter : {A B : Type 0} (q : A → Bool) (f : A → List B) (xs : List A) → ((x : A) → q x ≡ false → f x ≡ []) → flat_map f xs ≡ flat_map f (filter q xs)
flat_map-filter q f [] e = refl
flat_map-filter {A} {B} q f (x ∷ xs) e = go (q x) refl (flat_map-filter q f xs e)
  where
    go : (b : Bool) → q x ≡ b → flat_map f xs ≡ flat_map f (filter q xs) → f x ++ flat_map f xs ≡ flat_map f (cond b (x ∷ filter q xs) (filter q xs))
    go true k ih = ap (λ (ys : List B). f x ++ ys) ih
    go false k ih = ap (λ (ys : List B). ys ++ flat_map f xs) (e x k) ∙ ih

pub filter-none : {A : Type 0} (p : A → Bool) (xs : List A) → ((x : A) → p x ≡ false) → filter p xs ≡ []
filter-none p [] f = refl
filter-none {A} p (x ∷ xs) f = ap (λ b. cond b (x ∷ filter p xs) (filter p xs)) (f x) ∙ filter-none p xs f

-- where a combination passes only if each of its items does, the items that do not may be left out before
pub product-filter : {A : Type 0} (q : A → Bool) (p : List A → Bool) (lists : List (List A)) → ((c : List A) → p c ≡ true → list_all q c ≡ true) → filter p (product lists) ≡ filter p (product (map (filter q) lists))
product-filter q p [] f = refl
product-filter {A} q p (xs ∷ lists) f =
    filter-flat p (λ (x : A). map (λ c. x ∷ c) (product lists)) xs
    ∙ flat_map-agree (λ (x : A). filter p (map (λ c. x ∷ c) (product lists))) (λ (x : A). filter p (map (λ c. x ∷ c) (product (map (filter q) lists)))) xs
    (λ x. inner x (product-filter q (λ (c : List A). p (x ∷ c)) lists (λ c t. (and_parts (q x) (list_all q c) (f (x ∷ c) t)).1)))
    ∙ flat_map-filter q (λ (x : A). filter p (map (λ c. x ∷ c) (product (map (filter q) lists)))) xs gone
    ∙ sym (filter-flat p (λ (x : A). map (λ c. x ∷ c) (product (map (filter q) lists))) (filter q xs))
  where
    inner : (x : A) → filter (λ (c : List A). p (x ∷ c)) (product lists) ≡ filter (λ (c : List A). p (x ∷ c)) (product (map (filter q) lists))
        → filter p (map (λ c. x ∷ c) (product lists)) ≡ filter p (map (λ c. x ∷ c) (product (map (filter q) lists)))
    inner x ih =
        filter_map_swap p (λ (c : List A). x ∷ c) (product lists)
        ∙ ap (map (λ (c : List A). x ∷ c)) ih
        ∙ sym (filter_map_swap p (λ (c : List A). x ∷ c) (product (map (filter q) lists)))

    gone : (x : A) → q x ≡ false → filter p (map (λ c. x ∷ c) (product (map (filter q) lists))) ≡ []
    gone x e =
        filter_map_swap p (λ (c : List A). x ∷ c) (product (map (filter q) lists))
        ∙ ap (map (λ (c : List A). x ∷ c)) (filter-none (λ (c : List A). p (x ∷ c)) (product (map (filter q) lists)) (λ c. false_from_ne_true (p (x ∷ c)) (λ t. false≢true (sym e ∙ (and_parts (q x) (list_all q c) (f (x ∷ c) t)).0))))
