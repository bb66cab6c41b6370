-- Lists of values that stand in order, each once.
use Rattle.std.proofs.Common.{◌≡◌, Bool, true, false, cond, ◌||◌, List, [], ◌∷◌, refl, ap, sym, subst, ◌∙◌}
use Rattle.std.proofs.lemmas.Bool.{false≢true}
use Rattle.std.specs.List.{dedup, dedup_from, list_any}
use Rattle.std.specs.List.Sorted.{IsPermutation, IsSorted, IsStrictlySortedBy}
use Rattle.std.proofs.lemmas.List.Kept.{IsStrictlySortedBy-dedup}
use Rattle.std.proofs.lemmas.List.Sorted.{list_any-IsPermutation}
use Rattle.std.specs.declared.cmp.Ordering.{Ordering}
use Rattle.std.specs.declared.cmp.Ordering.TheVariants.{Less, Equal, Greater}
use Rattle.std.proofs.Math.Bool.{or-true, or_self_left}
use Rattle.pj_value.specs.declared.values.Value.{Value}
use Rattle.pj_value.specs.Values.{value_cmp, value_eq}
use Rattle.pj_value.proofs.Orders.{differ_if_greater, eq_is, equal_itself, greater_if_less, less_if_greater, less_less, same_if_equal, same_if_tied, total}
use Rattle.pj_pattern.specs.declared.pattern.Form.TheVariants.{Members}
use Rattle.pj_pattern.specs.Patterns.{has_value}
use Rattle.pj_pattern.specs.Normal.{insert_by, insert, sorted_set, of_members, normal_of, IsNormal}

-- the value is below the first of these
abbrev pub IsBelow : Value → List Value → Type 0
IsBelow v [] = Unit {0}
IsBelow v (w ∷ ws) = value_cmp v w ≡ Less

-- they stand in order, each once
abbrev pub IsRising : List Value → Type 0
IsRising [] = Unit {0}
IsRising (v ∷ vs) = IsBelow v vs × IsRising vs

below_insert : (u v : Value) (ws : List Value) → value_cmp u v ≡ Less → IsBelow u ws → IsBelow u (insert v ws)
below_insert u v [] p b = p
below_insert u v (w ∷ ws) p b = go (value_cmp v w)
  where
    go : (o : Ordering) → IsBelow u (insert_by o v w ws (insert v ws))
    go Less = p
    go Equal = b
    go Greater = b

rising_insert : (v : Value) (ws : List Value) → IsRising ws → IsRising (insert v ws)
rising_insert v [] r = (tt, tt)
rising_insert v (w ∷ ws) r = go (value_cmp v w) refl (rising_insert v ws r.1)
  where
    go : (o : Ordering) → value_cmp v w ≡ o → IsRising (insert v ws) → IsRising (insert_by o v w ws (insert v ws))
    go Less e ih = (e, r)
    go Equal e ih = r
    go Greater e ih = (below_insert w v ws (less_if_greater v w e) r.0, ih)

pub rising_set : (vs : List Value) → IsRising (sorted_set vs)
rising_set [] = tt
rising_set (v ∷ vs) = rising_insert v (sorted_set vs) (rising_set vs)

insert_below : (v : Value) (ws : List Value) → IsBelow v ws → insert v ws ≡ v ∷ ws
insert_below v [] b = refl
insert_below v (w ∷ ws) b = ap (λ o. insert_by o v w ws (insert v ws)) b

-- what stands in order is sorted
pub set_rising : (vs : List Value) → IsRising vs → sorted_set vs ≡ vs
set_rising [] r = refl
set_rising (v ∷ vs) r = ap (insert v) (set_rising vs r.1) ∙ insert_below v vs r.0

pub members_normal : (vs : List Value) → IsRising vs → IsNormal (of_members vs)
members_normal [] r = refl
members_normal (v ∷ []) r = refl
members_normal (v ∷ w ∷ vs) r = ap of_members (set_rising (v ∷ w ∷ vs) r)

pub set_normal : (vs : List Value) → IsNormal (normal_of (Members vs))
set_normal vs = members_normal (sorted_set vs) (rising_set vs)

-- ---- members

or_turn : (b c d : Bool) → (b || (c || d)) ≡ (c || (b || d))
or_turn true c d = sym (or-true c)
or_turn false c d = refl

insert_has : (v : Value) (ws : List Value) (u : Value) → has_value (insert v ws) u ≡ (value_eq v u || has_value ws u)
insert_has v [] u = refl
insert_has v (w ∷ ws) u = go (value_cmp v w) refl (insert_has v ws u)
  where
    go : (o : Ordering) → value_cmp v w ≡ o → has_value (insert v ws) u ≡ (value_eq v u || has_value ws u) → has_value (insert_by o v w ws (insert v ws)) u ≡ (value_eq v u || (value_eq w u || has_value ws u))
    go Less e ih = refl
    go Equal e ih = sym (ap (λ (x : Value). value_eq x u || (value_eq w u || has_value ws u)) (same_if_tied v w e) ∙ or_self_left (value_eq w u) (has_value ws u))
    go Greater e ih = ap (λ b. value_eq w u || b) ih ∙ or_turn (value_eq w u) (value_eq v u) (has_value ws u)

-- the set has the members of the list
pub set_has : (vs : List Value) (u : Value) → has_value (sorted_set vs) u ≡ has_value vs u
set_has [] u = refl
set_has (v ∷ vs) u = insert_has v (sorted_set vs) u ∙ ap (λ b. value_eq v u || b) (set_has vs u)

pub below_next : (u v : Value) (vs : List Value) → value_cmp u v ≡ Less → IsBelow v vs → IsBelow u vs
below_next u v [] p q = tt
below_next u v (w ∷ ws) p q = less_less u v w p q

-- below the first is no member
pub below_has : (u : Value) (vs : List Value) → IsBelow u vs → IsRising vs → has_value vs u ≡ false
below_has u [] b r = refl
below_has u (v ∷ vs) b r = rw (differ_if_greater v u (greater_if_less u v b)) (below_has u vs (below_next u v vs b r.0) r.1)

first_has : (v : Value) (vs : List Value) → has_value (v ∷ vs) v ≡ true
first_has v vs = ap (λ b. b || has_value vs v) (equal_itself v)

tails_have : (v : Value) (xs ys : List Value) → IsRising (v ∷ xs) → IsRising (v ∷ ys) → ((u : Value) → has_value (v ∷ xs) u ≡ has_value (v ∷ ys) u) → (u : Value) → has_value xs u ≡ has_value ys u
tails_have v xs ys r q h u = go (value_eq v u) refl (h u)
  where
    go : (b : Bool) → value_eq v u ≡ b → (b || has_value xs u) ≡ (b || has_value ys u) → has_value xs u ≡ has_value ys u
    go true e k = ap (has_value xs) (sym (same_if_equal v u e)) ∙ below_has v xs r.0 r.1 ∙ sym (below_has v ys q.0 q.1) ∙ ap (has_value ys) (same_if_equal v u e)
    go false e k = k

-- lists that stand in order and have the same members are equal
pub rising_same : (xs ys : List Value) → IsRising xs → IsRising ys → ((u : Value) → has_value xs u ≡ has_value ys u) → xs ≡ ys
rising_same [] [] r q h = refl
rising_same [] (y ∷ ys) r q h = absurd (false≢true (h y ∙ first_has y ys))
rising_same (x ∷ xs) [] r q h = absurd (false≢true (sym (h x) ∙ first_has x xs))
rising_same (x ∷ xs) (y ∷ ys) r q h = go (value_cmp x y) refl (rising_same xs ys r.1 q.1)
  where
    go : (o : Ordering) → value_cmp x y ≡ o → (((u : Value) → has_value xs u ≡ has_value ys u) → xs ≡ ys) → x ∷ xs ≡ y ∷ ys
    go Less e ih = absurd (false≢true (sym (below_has x (y ∷ ys) e q) ∙ sym (h x) ∙ first_has x xs))
    go Greater e ih = absurd (false≢true (sym (below_has y (x ∷ xs) (less_if_greater x y e) r) ∙ h y ∙ first_has y ys))
    go Equal e ih =
        let same : x ≡ y = same_if_tied x y e in
        let tails : xs ≡ ys = ih (tails_have x xs ys r (subst (λ (v : Value). IsRising (v ∷ ys)) (sym same) q) (λ u. h u ∙ ap (λ (v : Value). has_value (v ∷ ys) u) (sym same))) in
        ap (λ (v : Value). v ∷ xs) same ∙ ap (λ vs. y ∷ vs) tails

-- ---- a sorted list without its repeats

has_any : (vs : List Value) (u : Value) → has_value vs u ≡ list_any (λ m. value_eq m u) vs
has_any [] u = refl
has_any (v ∷ vs) u = ap (λ b. value_eq v u || b) (has_any vs u)

dedup_from_has : (k : Value) (vs : List Value) (u : Value) → has_value (dedup_from value_eq k vs) u ≡ (value_eq k u || has_value vs u)
dedup_from_has k [] u = refl
dedup_from_has k (v ∷ vs) u = go (value_eq v k) refl (dedup_from_has k vs u) (dedup_from_has v vs u)
  where
    go : (b : Bool) → value_eq v k ≡ b → has_value (dedup_from value_eq k vs) u ≡ (value_eq k u || has_value vs u) → has_value (dedup_from value_eq v vs) u ≡ (value_eq v u || has_value vs u)
        → has_value (cond b (dedup_from value_eq k vs) (k ∷ dedup_from value_eq v vs)) u ≡ (value_eq k u || (value_eq v u || has_value vs u))
    go true e here next = here ∙ sym (ap (λ (x : Value). value_eq k u || (value_eq x u || has_value vs u)) (same_if_equal v k e) ∙ or_self_left (value_eq k u) (has_value vs u))
    go false e here next = ap (λ b. value_eq k u || b) next

dedup_has : (vs : List Value) (u : Value) → has_value (dedup value_eq vs) u ≡ has_value vs u
dedup_has [] u = refl
dedup_has (v ∷ vs) u = dedup_from_has v vs u

rising_if_sorted : (vs : List Value) → IsStrictlySortedBy value_cmp vs → IsRising vs
unfolding IsStrictlySortedBy
rising_if_sorted [] s = tt
rising_if_sorted (v ∷ []) s = (tt, tt)
rising_if_sorted (v ∷ w ∷ ws) s = (s.0.0, rising_if_sorted (w ∷ ws) s.1)

-- what a sort leaves, without its repeats
pub dropped_is_set : (values sorted : List Value) → IsPermutation values sorted → IsSorted value_cmp sorted → dedup value_eq sorted ≡ sorted_set values
dropped_is_set values sorted moved up = rising_same (dedup value_eq sorted) (sorted_set values)
    (rising_if_sorted (dedup value_eq sorted) (IsStrictlySortedBy-dedup total eq_is sorted up))
    (rising_set values)
    (λ u. dedup_has sorted u ∙ has_any sorted u ∙ sym (list_any-IsPermutation (λ m. value_eq m u) values sorted moved) ∙ sym (has_any values u) ∙ sym (set_has values u))
