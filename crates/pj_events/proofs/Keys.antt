-- The keys of a group's rows: each row's key is among them, each stands there once, and is that of a row.
use Rattle.std.proofs.Common.{Bool, true, false, cond, List, [], ◌∷◌, ◌≡◌, ◌⊎◌, refl, sym, ap, ◌∙◌, subst, inl, inr}
use Rattle.std.specs.List.{list_any}
use Rattle.pj_value.specs.Values.{row_eq}
use Rattle.pj_value.proofs.Orders.{row_same_if_equal, row_equal_itself}
use Rattle.pj_value.proofs.Members.{any_at, none_at}
use Rattle.pj_events.specs.Join.{In, Value}
use Rattle.pj_events.specs.Operators.{GroupSpec, keys_from, picked_cells}

-- no list of the list stands in it again
abbrev pub AreApart : List (List Value) → Type 0
AreApart [] = Unit {0}
AreApart (x ∷ xs) = (In x xs → ⊥) × AreApart xs

abbrev pub key_of : GroupSpec → List Value → List Value
key_of spec row = picked_cells spec.keys row

key-to : (seen : List (List Value)) (spec : GroupSpec) (rows : List (List Value)) (row : List Value) → In row rows → In (key_of spec row) seen ⊎ In (key_of spec row) (keys_from seen spec rows)
key-to seen spec [] row h = absurd h
key-to seen spec (r ∷ rows) row h = go (list_any (row_eq (key_of spec r)) seen) refl h (λ k. key-to seen spec rows row k) (λ k. key-to (key_of spec r ∷ seen) spec rows row k)
  where
    Goal : List (List Value) → Type 0
    Goal ks = In (key_of spec row) seen ⊎ In (key_of spec row) ks

    go : (b : Bool) → list_any (row_eq (key_of spec r)) seen ≡ b → In row (r ∷ rows) → (In row rows → Goal (keys_from seen spec rows)) → (In row rows → In (key_of spec row) (key_of spec r ∷ seen) ⊎ In (key_of spec row) (keys_from (key_of spec r ∷ seen) spec rows))
        → Goal (cond b (keys_from seen spec rows) (key_of spec r ∷ keys_from (key_of spec r ∷ seen) spec rows))
    go true e (inl q) f g = let a = any_at (row_eq (key_of spec r)) seen e in inl (subst (λ (z : List Value). In z seen) (sym (row_same_if_equal (key_of spec r) a.0 a.2) ∙ ap (key_of spec) q) a.1)
    go true e (inr k) f g = f k
    go false e (inl q) f g = inr (inl (ap (key_of spec) q))
    go false e (inr k) f g = elim (g k) [ inl m ↦ elim m [ inl q ↦ inr (inl q) | inr m' ↦ inl m' ] | inr m ↦ inr (inr m) ]

keys-fresh : (seen : List (List Value)) (spec : GroupSpec) (rows : List (List Value)) (key : List Value) → In key (keys_from seen spec rows) → In key seen → ⊥
keys-fresh seen spec [] key h m = h
keys-fresh seen spec (r ∷ rows) key h m = go (list_any (row_eq (key_of spec r)) seen) refl h (λ k. keys-fresh seen spec rows key k m) (λ k. keys-fresh (key_of spec r ∷ seen) spec rows key k (inr m))
  where
    go : (b : Bool) → list_any (row_eq (key_of spec r)) seen ≡ b → In key (cond b (keys_from seen spec rows) (key_of spec r ∷ keys_from (key_of spec r ∷ seen) spec rows))
        → (In key (keys_from seen spec rows) → ⊥) → (In key (keys_from (key_of spec r ∷ seen) spec rows) → ⊥) → ⊥
    go true e k f g = f k
    go false e (inl q) f g = none_at (row_eq (key_of spec r)) seen key e m (ap (row_eq (key_of spec r)) (sym q) ∙ row_equal_itself (key_of spec r))
    go false e (inr k) f g = g k

pub keys-apart : (seen : List (List Value)) (spec : GroupSpec) (rows : List (List Value)) → AreApart (keys_from seen spec rows)
keys-apart seen spec [] = tt
keys-apart seen spec (r ∷ rows) = go (list_any (row_eq (key_of spec r)) seen) (keys-apart seen spec rows) (keys-apart (key_of spec r ∷ seen) spec rows)
  where
    go : (b : Bool) → AreApart (keys_from seen spec rows) → AreApart (keys_from (key_of spec r ∷ seen) spec rows) → AreApart (cond b (keys_from seen spec rows) (key_of spec r ∷ keys_from (key_of spec r ∷ seen) spec rows))
    go true f g = f
    go false f g = (λ h. keys-fresh (key_of spec r ∷ seen) spec rows (key_of spec r) h (inl refl), g)

pub key-in : (spec : GroupSpec) (rows : List (List Value)) (row : List Value) → In row rows → In (key_of spec row) (keys_from [] spec rows)
key-in spec rows row h = elim (key-to [] spec rows row h) [ inl k ↦ absurd k | inr k ↦ k ]

pub key-from : (seen : List (List Value)) (spec : GroupSpec) (rows : List (List Value)) (key : List Value) → In key (keys_from seen spec rows) → (row : List Value) × In row rows × (picked_cells spec.keys row ≡ key)
key-from seen spec [] key h = absurd h
key-from seen spec (row ∷ rows) key h = go (list_any (row_eq (picked_cells spec.keys row)) seen) h (key-from seen spec rows key) (key-from (picked_cells spec.keys row ∷ seen) spec rows key)
  where
    Found : List (List Value) → Type 0
    Found xs = (x : List Value) × In x xs × (picked_cells spec.keys x ≡ key)

    go : (b : Bool) → In key (cond b (keys_from seen spec rows) (picked_cells spec.keys row ∷ keys_from (picked_cells spec.keys row ∷ seen) spec rows))
        → (In key (keys_from seen spec rows) → Found rows) → (In key (keys_from (picked_cells spec.keys row ∷ seen) spec rows) → Found rows) → Found (row ∷ rows)
    go true k f g = let r = f k in (r.0, inr r.1, r.2)
    go false (inl q) f g = (row, inl refl, q)
    go false (inr k) f g = let r = g k in (r.0, inr r.1, r.2)
