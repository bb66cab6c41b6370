-- Lists of members as step functions.
use Rattle.std.proofs.Common.{◌≡◌, true, false, not, ◌||◌, cond, ℕ, List, [], ◌∷◌, ◌++◌, reverse, Some, None, refl, ap, sym, subst, ◌∙◌}
use Rattle.std.proofs.lemmas.Bool.{false≢true}
use Rattle.std.proofs.lemmas.List.{reverse-append}
use Rattle.std.specs.declared.cmp.Ordering.{Ordering}
use Rattle.std.specs.declared.cmp.Ordering.TheVariants.{Less, Equal, Greater}
use Rattle.std.specs.Ordering.{is_gt}
use Rattle.pj_value.specs.declared.values.Value.{Value}
use Rattle.pj_value.specs.Values.{value_cmp, value_eq}
use Rattle.pj_value.proofs.Orders.{differ_if_greater, differ_if_less, equal_itself, greater_if_less, itself, less_if_greater, same_if_tied}
use Rattle.pj_pattern.specs.Patterns.{has_value}
use Rattle.pj_pattern.proofs.Rising.{IsBelow, IsRising, below_next}
use Rattle.pj_intervals.specs.declared.steps.Cut.TheVariants.{Before, After}
use Rattle.pj_intervals.specs.declared.steps.Step.{Step}
use Rattle.pj_intervals.specs.Steps.{AreReached, IsParted, IsSorted, is_reached, place_at, rising_steps, two_steps}
use Rattle.pj_intervals.proofs.MergedSteps.{at_other, at_reached}
use Rattle.pj_intervals.proofs.RangeSteps.{constant_sorted, place_where}

-- the value stands above none of these cuts
abbrev pub NoneReached : Value → List Step → Type 0
NoneReached v [] = Unit {0}
NoneReached v (s ∷ steps) = (is_reached s.from v ≡ false) × NoneReached v steps

-- ---- steps behind others

none_both : (v : Value) (xs ys : List Step) → NoneReached v xs → NoneReached v ys → NoneReached v (xs ++ ys)
none_both v [] ys p q = q
none_both v (s ∷ xs) ys p q = (p.0, none_both v xs ys p.1 q)

at_behind : (v : Value) (xs ys : List Step) → NoneReached v xs → place_at (xs ++ ys) v ≡ place_at ys v
at_behind v [] ys p = refl
at_behind v (s ∷ xs) ys p = at_other s (xs ++ ys) v p.0 ∙ at_behind v xs ys p.1

at_front : (v : Value) (xs ys : List Step) → place_at ys v ≡ None → place_at (xs ++ ys) v ≡ place_at xs v
at_front v [] ys p = p
at_front v (s ∷ xs) ys p = ap (cond (is_reached s.from v) s.place) (at_front v xs ys p)

reached_both : (v : Value) (xs ys : List Step) → AreReached v xs → AreReached v ys → AreReached v (xs ++ ys)
reached_both v [] ys p q = q
reached_both v (s ∷ xs) ys p q = (p.0, reached_both v xs ys p.1 q)

parted_above : (v : Value) (xs ys : List Step) → IsParted v xs → AreReached v ys → IsParted v ys → IsParted v (xs ++ ys)
parted_above v [] ys p r q = q
parted_above v (s ∷ xs) ys p r q = (λ h. reached_both v xs ys (p.0 h) r, parted_above v xs ys p.1 r q)

parted_below : (v : Value) (xs ys : List Step) → IsParted v xs → NoneReached v xs → IsParted v ys → IsParted v (xs ++ ys)
parted_below v [] ys p r q = q
parted_below v (s ∷ xs) ys p r q = (λ h. absurd (false≢true (sym r.0 ∙ h)), parted_below v xs ys p.1 r.1 q)

-- ---- members

turned : (m : Value) (ms : List Value) (n : ℕ) → reverse (rising_steps (m ∷ ms) n) ≡ reverse (rising_steps ms n) ++ two_steps (Before m) (After m) n
turned m ms n = reverse-append (record { from = Before m; place = Some n } ∷ record { from = After m; place = None } ∷ []) (rising_steps ms n)

-- below a member, a value is above no cut of it
pub none_reached : (v : Value) (ms : List Value) (n : ℕ) → IsBelow v ms → IsRising ms → NoneReached v (reverse (rising_steps ms n))
none_reached v [] n b r = tt
none_reached v (m ∷ ms) n b r =
    subst (NoneReached v) (sym (turned m ms n))
    (none_both v (reverse (rising_steps ms n)) (two_steps (Before m) (After m) n) (none_reached v ms n (below_next v m ms b r.0) r.1)
    (ap is_gt b, (ap (λ o. not (is_gt o)) (greater_if_less v m b), tt)))

-- below the first it is no member
no_member : (v : Value) (ms : List Value) → IsBelow v ms → IsRising ms → has_value ms v ≡ false
no_member v [] b r = refl
no_member v (m ∷ ms) b r = ap (λ t. t || has_value ms v) (differ_if_greater m v (greater_if_less v m b)) ∙ no_member v ms (below_next v m ms b r.0) r.1

member_first : (v m : Value) (ms : List Value) (n : ℕ) → IsRising (m ∷ ms) → place_at (reverse (rising_steps ms n)) v ≡ place_where (has_value ms v) n
    → place_at (reverse (rising_steps ms n) ++ two_steps (Before m) (After m) n) v ≡ place_where (value_eq m v || has_value ms v) n
member_first v m ms n r ih = go (value_cmp v m) refl
  where
    go : (o : Ordering) → value_cmp v m ≡ o → place_at (reverse (rising_steps ms n) ++ two_steps (Before m) (After m) n) v ≡ place_where (value_eq m v || has_value ms v) n
    go Less e =
        at_behind v (reverse (rising_steps ms n)) (two_steps (Before m) (After m) n) (none_reached v ms n (below_next v m ms e r.0) r.1)
        ∙ at_other (record { from = After m; place = None }) (record { from = Before m; place = Some n } ∷ []) v (ap is_gt e)
        ∙ at_other (record { from = Before m; place = Some n }) [] v (ap (λ o. not (is_gt o)) (greater_if_less v m e))
        ∙ sym (ap (λ b. place_where b n) (no_member v (m ∷ ms) e r))
    go Equal e =
        at_behind v (reverse (rising_steps ms n)) (two_steps (Before m) (After m) n) (none_reached v ms n (subst (λ (u : Value). IsBelow u ms) (sym (same_if_tied v m e)) r.0) r.1)
        ∙ at_other (record { from = After m; place = None }) (record { from = Before m; place = Some n } ∷ []) v (ap is_gt e)
        ∙ at_reached (record { from = Before m; place = Some n }) [] v (subst (λ (u : Value). not (is_gt (value_cmp m u)) ≡ true) (sym (same_if_tied v m e)) (ap (λ o. not (is_gt o)) (itself m)))
        ∙ sym (ap (λ b. place_where (b || has_value ms v) n) (subst (λ (u : Value). value_eq m u ≡ true) (sym (same_if_tied v m e)) (equal_itself m)))
    go Greater e =
        at_front v (reverse (rising_steps ms n)) (two_steps (Before m) (After m) n)
        (at_reached (record { from = After m; place = None }) (record { from = Before m; place = Some n } ∷ []) v (ap is_gt e))
        ∙ ih
        ∙ sym (ap (λ b. place_where (b || has_value ms v) n) (differ_if_less m v (less_if_greater v m e)))

pub members_at : (ms : List Value) (v : Value) (n : ℕ) → IsRising ms → place_at (reverse (rising_steps ms n)) v ≡ place_where (has_value ms v) n
members_at [] v n r = refl
members_at (m ∷ ms) v n r = ap (λ steps. place_at steps v) (turned m ms n) ∙ member_first v m ms n r (members_at ms v n r.1)

member_parted : (v m : Value) (ms : List Value) (n : ℕ) → IsRising (m ∷ ms) → IsParted v (reverse (rising_steps ms n)) → IsParted v (reverse (rising_steps ms n) ++ two_steps (Before m) (After m) n)
member_parted v m ms n r ih = go (value_cmp v m) refl
  where
    go : (o : Ordering) → value_cmp v m ≡ o → IsParted v (reverse (rising_steps ms n) ++ two_steps (Before m) (After m) n)
    go Less e = parted_below v (reverse (rising_steps ms n)) (two_steps (Before m) (After m) n) ih (none_reached v ms n (below_next v m ms e r.0) r.1) (constant_sorted m n v)
    go Equal e = parted_below v (reverse (rising_steps ms n)) (two_steps (Before m) (After m) n) ih (none_reached v ms n (subst (λ (u : Value). IsBelow u ms) (sym (same_if_tied v m e)) r.0) r.1) (constant_sorted m n v)
    go Greater e = parted_above v (reverse (rising_steps ms n)) (two_steps (Before m) (After m) n) ih (ap is_gt e, (ap (λ o. not (is_gt o)) (less_if_greater v m e), tt)) (constant_sorted m n v)

pub members_sorted : (ms : List Value) (n : ℕ) → IsRising ms → IsSorted (reverse (rising_steps ms n))
members_sorted [] n r v = tt
members_sorted (m ∷ ms) n r v = subst (IsParted v) (sym (turned m ms n)) (member_parted v m ms n r (members_sorted ms n r.1 v))
