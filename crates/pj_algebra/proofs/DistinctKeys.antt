-- The distinct keys of rows, one row after another.
use Rattle.std.proofs.Common.{ℕ, suc, ◌+◌, ◌<◌, Bool, true, false, cond, ◌||◌, List, [], ◌∷◌, ◌++◌, ◌≡◌, ◌↔◌, IsTrue, length, drop, get_or, drop-cons, map, take, refl, sym, ap, ap₂, ◌∙◌, subst, arith, append_assoc}
use Rattle.std.specs.List.{list_any}
use Rattle.std.proofs.lemmas.List.{map-append, take_more}
use Rattle.std.proofs.lemmas.Bool.{false≢true, false_from_ne_true}
use Rattle.pj_value.specs.declared.values.Value.{Value}
use Rattle.pj_value.specs.Values.{row_eq}
use Rattle.pj_value.proofs.Orders.{row_equal_itself, row_same_if_equal}
use Rattle.pj_shape.specs.declared.groups.GroupSpec.{GroupSpec}
use Rattle.pj_events.specs.Operators.{keys_from, picked_cells}
use Rattle.pj_algebra.specs.Evaluating.{with_key}

-- a test tells of both lists the same
abbrev pub AreAlike : List (List Value) → List (List Value) → Type 0
AreAlike seen keys = (p : List Value → Bool) → list_any p seen ≡ list_any p keys

any_more : {A : Type 0} (p : A → Bool) (xs : List A) (x : A) → (p x || list_any p xs) ≡ list_any p (xs ++ x ∷ [])
any_more p [] x = refl
any_more p (y ∷ xs) x = go (p x) (p y) (any_more p xs x)
  where
    go : (a b : Bool) → (a || list_any p xs) ≡ list_any p (xs ++ x ∷ []) → (a || (b || list_any p xs)) ≡ (b || list_any p (xs ++ x ∷ []))
    go true true ih = refl
    go true false ih = ih
    go false true ih = refl
    go false false ih = ih

-- what the keys so far and those of the rows behind give
pub record LeadTo (spec : GroupSpec) (rows keys all : List (List Value)) : Type 0 where
  pub seen : List (List Value)
  pub alike : AreAlike seen keys
  pub whole : keys ++ keys_from seen spec rows ≡ all

one_key : (spec : GroupSpec) (rows keys all : List (List Value)) (row : List Value) → LeadTo spec (row ∷ rows) keys all → LeadTo spec rows (with_key keys (picked_cells spec.keys row)) all
one_key spec rows keys all row l = go (list_any (row_eq key) keys) (ap (λ (b : Bool). keys ++ cond b (keys_from l.seen spec rows) (key ∷ keys_from (key ∷ l.seen) spec rows)) (sym (l.alike (row_eq key))) ∙ l.whole)
  where
    key : List Value
    key = picked_cells spec.keys row

    go : (b : Bool) → keys ++ cond b (keys_from l.seen spec rows) (key ∷ keys_from (key ∷ l.seen) spec rows) ≡ all → LeadTo spec rows (cond b keys (keys ++ key ∷ [])) all
    go true e = record { seen = l.seen; alike = l.alike; whole = e }
    go false e = record {
      seen = key ∷ l.seen;
      alike = λ p. ap (λ (b : Bool). p key || b) (l.alike p) ∙ any_more p keys key;
      whole = append_assoc keys (key ∷ []) (keys_from (key ∷ l.seen) spec rows) ∙ e;
    }

pub keys_more : (spec : GroupSpec) (rows keys new all : List (List Value)) (i : ℕ) (row key : List Value) → i < length rows → row ≡ get_or rows i row → key ≡ picked_cells spec.keys row → new ≡ with_key keys key
    → LeadTo spec (drop i rows) keys all → LeadTo spec (drop (i + 1) rows) new all
keys_more spec rows keys new all i row key lt r k n l =
    let one : suc i ≡ i + 1 = omega arith in
    let next : drop i rows ≡ row ∷ drop (i + 1) rows = drop-cons rows i row lt ∙ ap₂ (λ (x : List Value) (m : ℕ). x ∷ drop m rows) (sym r) one in
    subst (λ (ks : List (List Value)). LeadTo spec (drop (i + 1) rows) ks all) (sym (n ∙ ap (with_key keys) k))
    (one_key spec (drop (i + 1) rows) keys all row (subst (λ (rs : List (List Value)). LeadTo spec rs keys all) next l))

pub tested : (b : Bool) (row other : List Value) → IsTrue b ↔ (row ≡ other) → row_eq row other ≡ b
tested true row other h = subst (λ (r : List Value). row_eq row r ≡ true) (h.0 refl) (row_equal_itself row)
tested false row other h = false_from_ne_true (row_eq row other) (λ t. false≢true (h.1 (row_same_if_equal row other t)))

-- ---- the rows of keys

pub mapped_more : {A B : Type 0} (f : A → B) (xs : List A) (i : ℕ) (x : A) (made new : List B) (y : B) → i < length xs → x ≡ get_or xs i x → made ≡ map f (take i xs) → y ≡ f x → new ≡ made ++ y ∷ [] → new ≡ map f (take (i + 1) xs)
mapped_more {A} {B} f xs i x made new y lt at m e n =
    n ∙ (ap₂ (λ (ys : List B) (z : B). ys ++ z ∷ []) m e ∙ (sym (map-append f (take i xs) (x ∷ [])) ∙ ap (map f) (ap (λ (z : A). take i xs ++ z ∷ []) at ∙ sym (take_more xs i x lt))))
