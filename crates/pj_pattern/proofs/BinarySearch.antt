-- Looking for a value among members that stand in order.
use Rattle.std.proofs.Common.{ℕ, zero, suc, ◌<◌, ◌≤◌, ◌⊎◌, inl, inr, ◌≡◌, true, false, ◌||◌, List, [], ◌∷◌, length, get_or, refl, ap, sym, subst, ◌∙◌, arith}
use Rattle.std.specs.declared.cmp.Ordering.{Ordering}
use Rattle.std.specs.declared.cmp.Ordering.TheVariants.{Less, Equal, Greater}
use Rattle.std.specs.declared.result.Result.{Result}
use Rattle.std.specs.declared.result.Result.TheVariants.{Ok, Err}
use Rattle.std.specs.Result.{is_ok}
use Rattle.std.specs.Ordering.{is_eq, ordering_index}
use Rattle.std.specs.List.Sorted.{IsBinarySearchResult, IsSearchInRange}
use Rattle.std.proofs.Math.Bool.{or-true}
use Rattle.pj_value.specs.declared.values.Value.{Value}
use Rattle.pj_value.specs.Values.{value_cmp, value_eq}
use Rattle.pj_value.proofs.Orders.{eq_is, greater_if_less, less_if_greater, less_less, same_if_tied}
use Rattle.pj_pattern.specs.declared.pattern.Form.TheVariants.{Members}
use Rattle.pj_pattern.specs.Patterns.{has_value}
use Rattle.pj_pattern.specs.Normal.{IsNormal}
use Rattle.pj_pattern.proofs.Rising.{IsBelow, IsRising}
use Rattle.pj_pattern.proofs.NormalMeets.{rising_if_normal}

has_at : (ms : List Value) (i : ℕ) (v d : Value) → i < length ms → value_cmp (get_or ms i d) v ≡ Equal → has_value ms v ≡ true
has_at [] i v d l e = absurd (omega (arith, l))
has_at (m ∷ ms) zero v d l e = ap (λ b. b || has_value ms v) (eq_is m v ∙ ap is_eq e)
has_at (m ∷ ms) (suc i) v d l e = ap (λ b. value_eq m v || b) (has_at ms i v d (omega (arith, l)) e) ∙ or-true (value_eq m v)

has_none : (ms : List Value) (v : Value) → ((k : ℕ) (d : Value) → k < length ms → is_eq (value_cmp (get_or ms k d) v) ≡ false) → has_value ms v ≡ false
has_none [] v h = refl
has_none (m ∷ ms) v h = ap (λ b. b || has_value ms v) (eq_is m v ∙ h 0 m (omega arith)) ∙ has_none ms v (λ k d l. h (suc k) d (omega (arith, l)))

first_below : (m : Value) (ms : List Value) (j : ℕ) (d : Value) → IsBelow m ms → IsRising ms → j < length ms → value_cmp m (get_or ms j d) ≡ Less
first_below m [] j d b r l = absurd (omega (arith, l))
first_below m (w ∷ ws) zero d b r l = b
first_below m (w ∷ ws) (suc j) d b r l = less_less m w (get_or ws j d) b (first_below w ws j d r.0 r.1 (omega (arith, l)))

index_up : (a b v : Value) → value_cmp a b ≡ Less → ordering_index (value_cmp a v) ≤ ordering_index (value_cmp b v)
index_up a b v p = go (value_cmp a v) refl
  where
    go : (o : Ordering) → value_cmp a v ≡ o → ordering_index o ≤ ordering_index (value_cmp b v)
    go Less e = omega arith
    go Equal e =
        let above : value_cmp b v ≡ Greater = subst (λ (u : Value). value_cmp b u ≡ Greater) (same_if_tied a v e) (greater_if_less a b p) in
        subst (λ o. 1 ≤ ordering_index o) (sym above) (omega arith)
    go Greater e =
        let above : value_cmp b v ≡ Greater = greater_if_less v b (less_less v a b (less_if_greater a v e) p) in
        subst (λ o. 2 ≤ ordering_index o) (sym above) (omega arith)

rising_at : (ms : List Value) (v : Value) (i j : ℕ) (d : Value) → IsRising ms → i ≤ j → j < length ms → ordering_index (value_cmp (get_or ms i d) v) ≤ ordering_index (value_cmp (get_or ms j d) v)
rising_at [] v i j d r a l = absurd (omega (arith, l))
rising_at (m ∷ ms) v zero zero d r a l = omega arith
rising_at (m ∷ ms) v zero (suc j) d r a l = index_up m (get_or ms j d) v (first_below m ms j d r.0 r.1 (omega (arith, l)))
rising_at (m ∷ ms) v (suc i) zero d r a l = absurd (omega (arith, a))
rising_at (m ∷ ms) v (suc i) (suc j) d r a l = rising_at ms v i j d r.1 (omega (arith, a)) (omega (arith, l))

split : (k i : ℕ) → (k < i) ⊎ (i ≤ k)
split k zero = inr (omega arith)
split zero (suc i) = inl (omega arith)
split (suc k) (suc i) = elim (split k i) [ inl l ↦ inl (omega (arith, l)) | inr l ↦ inr (omega (arith, l)) ]

-- a binary search finds the value where it is a member
pub searched : (ms : List Value) (v : Value) (r : Result ℕ ℕ) → IsNormal (Members ms) → IsSearchInRange r (length ms) → IsBinarySearchResult (λ m. value_cmp m v) ms r → is_ok r ≡ has_value ms v
searched ms v (Ok i) n l h = sym (has_at ms i v v l (h v))
searched ms v (Err i) n l h =
    let parted = h (λ a b d le lt. rising_at ms v a b d (rising_if_normal ms n) le lt) in
    sym (has_none ms v (λ k d b. elim (split k i) [ inl under ↦ ap is_eq (parted.0 k d (omega arith) under) | inr past ↦ ap is_eq (parted.1 k d past b) ]))
