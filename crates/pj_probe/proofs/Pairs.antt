-- Combinations of two lists whose tuples all join.
use Rattle.std.proofs.Common.{ℕ, ◌<◌, Bool, true, false, cond, ◌&&◌, List, [], ◌∷◌, ◌++◌, ◌≡◌, ◌⊎◌, map, filter, flat_map, length, get_or, refl, sym, ap, ap₂, ◌∙◌, subst, inl, inr, eqb, ltb, arith}
use Rattle.std.proofs.lemmas.Bool.{and_parts, eqb-true, eq-eqb, false≢true}
use Rattle.std.proofs.lemmas.List.{map-append}
use Rattle.pj_value.proofs.Members.{In-filter, In-flat_map, In-map, filter-all}
use Rattle.pj_events.specs.Join.{In, TupleAt, ClassCol, Value, agree, joined, product, upto_from}
use Rattle.pj_join_laws.proofs.Matching.{agree-mono}
use Rattle.pj_probe.specs.Choices.{AllJoin, choice, choices, pair, pairs}
use Rattle.pj_rows.specs.AgreesWith.{agrees_with}
use Rattle.pj_state.specs.States.{StateView}
use Rattle.pj_rows.specs.Tuples.{tuples_in}
use Rattle.pj_rows.proofs.Agreeing.{agrees_with-agree}
use Rattle.pj_probe.proofs.Suiting.{agree-none}
use Rattle.pj_rows.proofs.States.{tuples-length}

one-each : (x : TupleAt) (ys : List TupleAt) → map joined (map (λ (c : List TupleAt). x ∷ c) (product (ys ∷ []))) ≡ pairs ys x
one-each x [] = refl
one-each x (y ∷ ys) = ap (λ (rows : List (List Value)). pair x y ∷ rows) (one-each x ys)

two-lists : (xs ys : List TupleAt) → map joined (product (xs ∷ ys ∷ [])) ≡ flat_map (pairs ys) xs
two-lists [] ys = refl
two-lists (x ∷ xs) ys =
    map-append joined (map (λ (c : List TupleAt). x ∷ c) (product (ys ∷ []))) (product (xs ∷ ys ∷ []))
    ∙ ap₂ (λ (rows more : List (List Value)). rows ++ more) (one-each x ys) (two-lists xs ys)

-- where all join, the combinations of two lists are all their pairs
pub pairs-found : (classes : List (List ClassCol)) (lists : List (List TupleAt)) (xs ys : List TupleAt) → AllJoin classes lists → lists ≡ xs ∷ ys ∷ []
    → flat_map (pairs ys) xs ≡ map joined (filter (agree classes) (product lists))
pairs-found classes lists xs ys all e =
    sym (two-lists xs ys)
    ∙ ap (λ (ls : List (List TupleAt)). map joined (product ls)) (sym e)
    ∙ ap (map joined) (sym (filter-all (agree classes) (product lists) all))

-- ---- the choices of a tuple of two inputs

pub own-pair : (classes : List (List ClassCol)) (own y : TupleAt) → agrees_with classes [] own ≡ true → agrees_with classes (own ∷ []) y ≡ true → agree classes (own ∷ y ∷ []) ≡ true
own-pair classes own y alone t = agrees_with-agree classes (own ∷ []) y (agrees_with-agree classes [] own (agree-none classes) alone) t

other-pair : (classes : List (List ClassCol)) (own y : TupleAt) → agrees_with classes [] own ≡ true → agrees_with classes (own ∷ []) y ≡ true → agree classes (y ∷ own ∷ []) ≡ true
other-pair classes own y alone t = agree-mono classes (y ∷ own ∷ []) (own ∷ y ∷ []) turned (own-pair classes own y alone t)
  where
    turned : (z : TupleAt) → In z (y ∷ own ∷ []) → In z (own ∷ y ∷ [])
    turned z (inl e) = inr (inl e)
    turned z (inr (inl e)) = inl e
    turned z (inr (inr k)) = absurd k

-- the tuple itself, of its own input, or one that joins with it
stands-there : (classes : List (List ClassCol)) (own : TupleAt) (sides : List (List TupleAt)) (input : ℕ) (y : TupleAt) → In y (choice classes own sides input)
    → ((eqb input own.input ≡ true) × (own ≡ y)) ⊎ ((eqb input own.input ≡ false) × (agrees_with classes (own ∷ []) y ≡ true))
stands-there classes own sides input y h = go (eqb input own.input) refl h
  where
    older : TupleAt → Bool
    older z = ltb z.ticket own.ticket && agrees_with classes (own ∷ []) z

    go : (b : Bool) → eqb input own.input ≡ b → In y (cond b (own ∷ []) (filter older (get_or sides input []))) → ((eqb input own.input ≡ true) × (own ≡ y)) ⊎ ((eqb input own.input ≡ false) × (agrees_with classes (own ∷ []) y ≡ true))
    go true e (inl k) = inl (e, k)
    go true e (inr k) = absurd k
    go false e k = inr (e, (and_parts (ltb y.ticket own.ticket) (agrees_with classes (own ∷ []) y) (In-filter older y (get_or sides input []) k).1).1)

-- a pair of the choices of two inputs
two-join : (classes : List (List ClassCol)) (own : TupleAt) (sides : List (List TupleAt)) (x y : TupleAt) → own.input < 2 → agrees_with classes [] own ≡ true → In x (choice classes own sides 0) → In y (choice classes own sides 1) → agree classes (x ∷ y ∷ []) ≡ true
two-join classes own sides x y lt alone hx hy = go (stands-there classes own sides 0 x hx) (stands-there classes own sides 1 y hy)
  where
    go : ((eqb 0 own.input ≡ true) × (own ≡ x)) ⊎ ((eqb 0 own.input ≡ false) × (agrees_with classes (own ∷ []) x ≡ true))
        → ((eqb 1 own.input ≡ true) × (own ≡ y)) ⊎ ((eqb 1 own.input ≡ false) × (agrees_with classes (own ∷ []) y ≡ true)) → agree classes (x ∷ y ∷ []) ≡ true
    go (inl (e, k)) (inl (f, l)) = absurd (omega (arith, eqb-true 0 own.input e, eqb-true 1 own.input f))
    go (inl (e, k)) (inr (f, s)) = subst (λ (z : TupleAt). agree classes (z ∷ y ∷ []) ≡ true) k (own-pair classes own y alone s)
    go (inr (e, s)) (inl (f, k)) = subst (λ (z : TupleAt). agree classes (x ∷ z ∷ []) ≡ true) k (other-pair classes own x alone s)
    go (inr (e, s)) (inr (f, t)) = absurd (omega (arith, lt, not-first, not-second))
      where
        not-first : 0 ≡ own.input → ⊥
        not-first q = false≢true (sym e ∙ eq-eqb 0 own.input q)

        not-second : 1 ≡ own.input → ⊥
        not-second q = false≢true (sym f ∙ eq-eqb 1 own.input q)

two-of : (classes : List (List ClassCol)) (xs ys : List TupleAt) → ((x y : TupleAt) → In x xs → In y ys → agree classes (x ∷ y ∷ []) ≡ true) → AllJoin classes (xs ∷ ys ∷ [])
two-of classes xs ys f c h = first (In-flat_map (λ (x : TupleAt). map (λ (d : List TupleAt). x ∷ d) (product (ys ∷ []))) c xs h)
  where
    third : (x y : TupleAt) → In x xs → In y ys → (d e : List TupleAt) → In e ([] ∷ []) → y ∷ e ≡ d → x ∷ d ≡ c → agree classes c ≡ true
    third x y hx hy d e (inl none) k l =
        subst (λ (z : List TupleAt). agree classes z ≡ true) (ap (λ (z : List TupleAt). x ∷ z) (ap (λ (z : List TupleAt). y ∷ z) none ∙ k) ∙ l) (f x y hx hy)
    third x y hx hy d e (inr none) k l = absurd none

    second : (x : TupleAt) → In x xs → (d : List TupleAt) → x ∷ d ≡ c → (y : TupleAt) × In y ys × In d (map (λ (e : List TupleAt). y ∷ e) ([] ∷ [])) → agree classes c ≡ true
    second x hx d l (y, hy, hd) =
        let e = In-map (λ (e : List TupleAt). y ∷ e) d ([] ∷ []) hd in
        third x y hx hy d e.0 e.1 e.2 l

    first : (x : TupleAt) × In x xs × In c (map (λ (d : List TupleAt). x ∷ d) (product (ys ∷ []))) → agree classes c ≡ true
    first (x, hx, hc) =
        let d = In-map (λ (d : List TupleAt). x ∷ d) c (product (ys ∷ [])) hc in
        second x hx d.0 d.2 (In-flat_map (λ (y : TupleAt). map (λ (e : List TupleAt). y ∷ e) ([] ∷ [])) d.0 ys d.1)

-- the choices of a tuple of two inputs were looked through before
pub two_choices : (classes : List (List ClassCol)) (own : TupleAt) (sides : List (List TupleAt)) → own.input < 2 → length sides ≡ 2 → agrees_with classes [] own ≡ true → AllJoin classes (choices classes own sides)
two_choices classes own sides lt two alone =
    subst (λ n. AllJoin classes (map (choice classes own sides) (upto_from 0 n))) (sym two)
    (two-of classes (choice classes own sides 0) (choice classes own sides 1) (λ x y hx hy. two-join classes own sides x y lt alone hx hy))

-- the same over states
pub two_states : (classes : List (List ClassCol)) (own : TupleAt) (row_states : List StateView) → own.input < 2 → length row_states ≡ 2 → agrees_with classes [] own ≡ true → AllJoin classes (choices classes own (tuples_in 0 row_states))
two_states classes own row_states lt two alone = two_choices classes own (tuples_in 0 row_states) lt (tuples-length 0 row_states ∙ two) alone
