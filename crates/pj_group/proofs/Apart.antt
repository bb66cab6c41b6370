-- The keys of rows, one row further.
use Rattle.std.proofs.Common.{Bool, true, false, cond, ◌||◌, inl, inr, List, [], ◌∷◌, ◌++◌, ◌≡◌, filter, refl, sym, ap, ◌∙◌}
use Rattle.std.specs.List.{list_any}
use Rattle.pj_value.specs.declared.values.Value.{Value}
use Rattle.pj_value.specs.Lists.{In}
use Rattle.pj_value.specs.Values.{row_eq}
use Rattle.pj_value.proofs.Members.{any_at, none_at}
use Rattle.pj_value.proofs.Orders.{row_equal_if_same, row_same_if_equal}
use Rattle.pj_events.specs.Operators.{GroupSpec, keys_from}
use Rattle.pj_events.proofs.Keys.{key_of}

swap : (a b c : Bool) → ((a || b) || c) ≡ (b || (a || c))
swap true true c = refl
swap true false c = refl
swap false b c = refl

-- the keys with one row more
pub keys_more : (seen : List (List Value)) (spec : GroupSpec) (rows : List (List Value)) (row : List Value)
    → keys_from seen spec (rows ++ row ∷ []) ≡ keys_from seen spec rows ++ cond (list_any (row_eq (key_of spec row)) seen || list_any (row_eq (key_of spec row)) (keys_from seen spec rows)) [] (key_of spec row ∷ [])
keys_more seen spec [] row = go (list_any (row_eq (key_of spec row)) seen)
  where
    go : (b : Bool) → cond b [] (key_of spec row ∷ []) ≡ cond (b || false) [] (key_of spec row ∷ [])
    go true = refl
    go false = refl
keys_more seen spec (x ∷ rows) row = go (list_any (row_eq (key_of spec x)) seen) (keys_more seen spec rows row) (keys_more (key_of spec x ∷ seen) spec rows row)
  where
    has : List (List Value) → Bool
    has ks = list_any (row_eq (key_of spec row)) ks

    here : List (List Value)
    here = keys_from seen spec rows

    behind : List (List Value)
    behind = keys_from (key_of spec x ∷ seen) spec rows

    go : (b : Bool) → keys_from seen spec (rows ++ row ∷ []) ≡ here ++ cond (has seen || has here) [] (key_of spec row ∷ [])
        → keys_from (key_of spec x ∷ seen) spec (rows ++ row ∷ []) ≡ behind ++ cond ((row_eq (key_of spec row) (key_of spec x) || has seen) || has behind) [] (key_of spec row ∷ [])
        → cond b (keys_from seen spec (rows ++ row ∷ [])) (key_of spec x ∷ keys_from (key_of spec x ∷ seen) spec (rows ++ row ∷ []))
        ≡ cond b here (key_of spec x ∷ behind) ++ cond (has seen || has (cond b here (key_of spec x ∷ behind))) [] (key_of spec row ∷ [])
    go true e f = e
    go false e f =
        ap (λ ks. key_of spec x ∷ ks) f
        ∙ ap (λ (b : Bool). key_of spec x ∷ (behind ++ cond b [] (key_of spec row ∷ []))) (swap (row_eq (key_of spec row) (key_of spec x)) (has seen) (has behind))

-- the rows of a key that is none of the keys
pub none_with : (seen : List (List Value)) (spec : GroupSpec) (rows : List (List Value)) (key : List Value) → list_any (row_eq key) seen ≡ false → list_any (row_eq key) (keys_from seen spec rows) ≡ false
    → filter (λ row. row_eq key (key_of spec row)) rows ≡ []
none_with seen spec [] key s h = refl
none_with seen spec (x ∷ rows) key s h =
    go (list_any (row_eq (key_of spec x)) seen) refl h (none_with seen spec rows key s) (none_with (key_of spec x ∷ seen) spec rows key)
  where
    R : List (List Value)
    R = filter (λ row. row_eq key (key_of spec row)) rows

    has : List (List Value) → Bool
    has ks = list_any (row_eq key) ks

    at : (b : Bool) → row_eq key (key_of spec x) ≡ b → b ≡ false → R ≡ [] → cond b (x ∷ R) R ≡ []
    at true e f q = absurd (cc)
    at false e f q = q

    go : (b : Bool) → list_any (row_eq (key_of spec x)) seen ≡ b → has (cond b (keys_from seen spec rows) (key_of spec x ∷ keys_from (key_of spec x ∷ seen) spec rows)) ≡ false
        → (has (keys_from seen spec rows) ≡ false → R ≡ []) → (has (key_of spec x ∷ seen) ≡ false → has (keys_from (key_of spec x ∷ seen) spec rows) ≡ false → R ≡ [])
        → cond (row_eq key (key_of spec x)) (x ∷ R) R ≡ []
    go true e k f g = at (row_eq key (key_of spec x)) refl (differ (row_eq key (key_of spec x)) refl) (f k)
      where
        differ : (b : Bool) → row_eq key (key_of spec x) ≡ b → b ≡ false
        differ true t = let m = any_at (row_eq (key_of spec x)) seen e in absurd (none_at (row_eq key) seen m.0 s m.1 (ap (λ (k : List Value). row_eq k m.0) (row_same_if_equal key (key_of spec x) t) ∙ m.2))
        differ false t = refl
    go false e k f g = split (row_eq key (key_of spec x)) refl k
      where
        split : (b : Bool) → row_eq key (key_of spec x) ≡ b → (b || has (keys_from (key_of spec x ∷ seen) spec rows)) ≡ false → cond b (x ∷ R) R ≡ []
        split true t q = absurd (cc)
        split false t q = g (ap (λ (b : Bool). b || has seen) t ∙ s) q

-- a key that is one of these is that of a row there
pub some_with : (spec : GroupSpec) (rows : List (List Value)) (row : List Value) (key : List Value) → In row rows → key_of spec row ≡ key
    → (first : List Value) × (others : List (List Value)) × (filter (λ r. row_eq key (key_of spec r)) rows ≡ first ∷ others)
some_with spec [] row key h q = absurd h
some_with spec (x ∷ rows) row key (inl e) q = (x, filter (λ r. row_eq key (key_of spec r)) rows, ap (λ (b : Bool). cond b (x ∷ filter (λ r. row_eq key (key_of spec r)) rows) (filter (λ r. row_eq key (key_of spec r)) rows)) (row_equal_if_same key (key_of spec x) (sym (ap (key_of spec) e ∙ q))))
some_with spec (x ∷ rows) row key (inr h) q = go (row_eq key (key_of spec x)) (some_with spec rows row key h q)
  where
    R : List (List Value)
    R = filter (λ r. row_eq key (key_of spec r)) rows

    go : (b : Bool) → (first : List Value) × (others : List (List Value)) × (R ≡ first ∷ others) → (first : List Value) × (others : List (List Value)) × (cond b (x ∷ R) R ≡ first ∷ others)
    go true w = (x, R, refl)
    go false w = w
