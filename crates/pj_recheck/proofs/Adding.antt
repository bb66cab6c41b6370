-- What a punctuation covers beside one that came before.
use Rattle.std.proofs.Common.{◌≡◌, ℕ, zero, suc, Bool, true, false, cond, not, ◌&&◌, ◌⊎◌, inl, inr, List, [], ◌∷◌, Option, Some, None, ◌++◌, length, get_or, take, drop, refl, sym, ap, subst, ◌∙◌}
use Rattle.std.specs.List.{slice_get}
use Rattle.std.specs.Ordering.{is_gt}
use Rattle.std.proofs.lemmas.Bool.{and_from, and_parts, false≢true}
use Rattle.std.proofs.lemmas.List.{append_assoc}
use Rattle.std.proofs.lemmas.Option.{slice_get-get_or}
use Rattle.pj_value.proofs.Members.{any_from}
use Rattle.pj_value.proofs.Orders.{not_above_turned}
use Rattle.pj_value.specs.declared.values.Value.{Value}
use Rattle.pj_value.specs.declared.values.Value.TheVariants.{Int, Text}
use Rattle.pj_value.specs.Values.{value_cmp, value_eq}
use Rattle.pj_pattern.specs.declared.pattern.Form.TheVariants.{Range}
use Rattle.pj_pattern.specs.Normal.{greatest_of, high_end, least_of, low_end, normal_of, unless_greatest}
use Rattle.pj_pattern.specs.Patterns.{is_from, is_to, same_kind, up_to}
use Rattle.pj_pattern.proofs.NormalMatches.{between_matches}
use Rattle.pj_events.specs.Patterns.{Pattern, all_wild, covers, covers_punct, is_wild, matches_value}
use Rattle.pj_puncts.proofs.Cellwise.{covers_through}
use Rattle.pj_recheck.specs.Added.{IsAdded, IsBeside, IsBeyond, replaced}
use Rattle.pj_puncts.specs.Indexed.{IsFilled, filled}
use Rattle.pj_puncts.specs.Stores.{IsOneOf, covered_by_any}
use Rattle.pj_recheck.specs.declared.added.Added.TheVariants.{Nothing, Part}
use Rattle.pj_puncts.specs.declared.store.NumberedPunct.{NumberedPunct}

-- ---- of values

turned-order : (a b : Value) → not (is_gt (value_cmp a b)) ≡ false → not (is_gt (value_cmp b a)) ≡ true
turned-order a b e = go (is_gt (value_cmp a b)) refl e
  where
    go : (above : Bool) → is_gt (value_cmp a b) ≡ above → not above ≡ false → not (is_gt (value_cmp b a)) ≡ true
    go true g h = ap not (not_above_turned a b g)
    go false g h = absurd (false≢true (sym h))

-- of two values of one kind one is not above the other
turned : (a b : Value) → same_kind a b ≡ true → up_to a b ≡ false → up_to b a ≡ true
turned (Int m) (Int n) k e = turned-order (Int m) (Int n) e
turned (Int m) (Text y) k e = absurd (false≢true k)
turned (Text x) (Int n) k e = absurd (false≢true k)
turned (Text x) (Text y) k e = turned-order (Text x) (Text y) e

kinds-below : (a b c : Value) → same_kind a c ≡ true → same_kind b c ≡ true → same_kind a b ≡ true
kinds-below (Int m) (Int n) c p q = refl
kinds-below (Int m) (Text y) (Int k) p q = absurd (false≢true q)
kinds-below (Int m) (Text y) (Text z) p q = absurd (false≢true p)
kinds-below (Text x) (Int n) (Int k) p q = absurd (false≢true p)
kinds-below (Text x) (Int n) (Text z) p q = absurd (false≢true q)
kinds-below (Text x) (Text y) c p q = refl

kinds-above : (a b c : Value) → same_kind c a ≡ true → same_kind c b ≡ true → same_kind a b ≡ true
kinds-above (Int m) (Int n) c p q = refl
kinds-above (Int m) (Text y) (Int k) p q = absurd (false≢true q)
kinds-above (Int m) (Text y) (Text z) p q = absurd (false≢true p)
kinds-above (Text x) (Int n) (Int k) p q = absurd (false≢true p)
kinds-above (Text x) (Int n) (Text z) p q = absurd (false≢true q)
kinds-above (Text x) (Text y) c p q = refl

kind-of : (a b : Value) → up_to a b ≡ true → same_kind a b ≡ true
kind-of a b t = (and_parts (same_kind a b) (not (is_gt (value_cmp a b))) t).0

-- ---- of ranges

low-is : (x v : Value) → up_to x v ≡ true → is_from (low_end x) v ≡ up_to x v
low-is x v t = go (value_eq x (least_of x))
  where
    go : (b : Bool) → is_from (cond b None (Some x)) v ≡ up_to x v
    go true = sym t
    go false = refl

high-is : (y v : Value) → up_to v y ≡ true → is_to (high_end y) v ≡ up_to v y
high-is y v t = go (greatest_of y)
  where
    end : (b : Bool) → is_to (cond b None (Some y)) v ≡ up_to v y
    end true = sym t
    end false = refl

    go : (o : Option Value) → is_to (unless_greatest y o) v ≡ up_to v y
    go None = refl
    go (Some greatest) = end (value_eq y greatest)

between-has : (x y v : Value) → up_to x v ≡ true → up_to v y ≡ true → matches_value (normal_of (Range (Some x) (Some y))) v ≡ true
between-has x y v p q = between_matches x y v (low-is x v p) (high-is y v q) ∙ and_from (up_to x v) (up_to v y) p q

pub upwards_beyond : (p rest : Pattern) (from to : Value) → p ≡ Range None (Some to) → matches_value p from ≡ true → rest ≡ normal_of (Range (Some from) (Some to)) → IsBeyond p (Range None (Some from)) rest
upwards_beyond p rest from to is has rest-is =
    subst (λ (q : Pattern). IsBeyond q (Range None (Some from)) rest) (sym is)
    (subst (λ (r : Pattern). IsBeyond (Range None (Some to)) (Range None (Some from)) r) (sym rest-is) (refl, λ v t. go v t (up_to v from) refl))
  where
    within : up_to from to ≡ true
    within = sym (ap (λ (q : Pattern). matches_value q from) is) ∙ has

    go : (v : Value) → up_to v to ≡ true → (b : Bool) → up_to v from ≡ b → (up_to v from ≡ true) ⊎ (matches_value (normal_of (Range (Some from) (Some to))) v ≡ true)
    go v t true e = inl e
    go v t false e = inr (between-has from to v (turned v from (kinds-below v from to (kind-of v to t) (kind-of from to within)) e) t)

pub downwards_beyond : (p rest : Pattern) (from to : Value) → p ≡ Range (Some from) None → matches_value p to ≡ true → rest ≡ normal_of (Range (Some from) (Some to)) → IsBeyond p (Range (Some to) None) rest
downwards_beyond p rest from to is has rest-is =
    subst (λ (q : Pattern). IsBeyond q (Range (Some to) None) rest) (sym is)
    (subst (λ (r : Pattern). IsBeyond (Range (Some from) None) (Range (Some to) None) r) (sym rest-is) (refl, λ v t. go v (and_parts (up_to from v) true t).0 (up_to to v) refl))
  where
    within : up_to from to ≡ true
    within = (and_parts (up_to from to) true (sym (ap (λ (q : Pattern). matches_value q to) is) ∙ has)).0

    go : (v : Value) → up_to from v ≡ true → (b : Bool) → up_to to v ≡ b → ((up_to to v && true) ≡ true) ⊎ (matches_value (normal_of (Range (Some from) (Some to))) v ≡ true)
    go v t true e = inl (and_from (up_to to v) true e refl)
    go v t false e = inr (between-has from to v t (turned to v (kinds-above to v from (kind-of from to within) (kind-of from v t)) e))

-- ---- of punctuations

wild-covers : (ps : List Pattern) (cells : List (Option Value)) → covers ps cells ≡ true → covers (all_wild (length ps)) cells ≡ true
wild-covers [] [] t = refl
wild-covers [] (cell ∷ cells) t = absurd (false≢true t)
wild-covers (p ∷ ps) [] t = absurd (false≢true t)
wild-covers (p ∷ ps) (Some v ∷ cells) t = wild-covers ps cells (and_parts (matches_value p v) (covers ps cells) t).1
wild-covers (p ∷ ps) (None ∷ cells) t = wild-covers ps cells (and_parts (is_wild p) (covers ps cells) t).1

beside-at : (ps : List Pattern) (column : ℕ) (p q r : Pattern) → slice_get ps column ≡ Some p → IsBeyond p q r → IsBeside ps (filled (length ps) column q) (replaced ps column r)
beside-at [] column p q r at b cells t = absurd (none-some p at)
  where
    none-some : (p : Pattern) → None ≡ Some p → ⊥
    none-some p e = cc
beside-at (o ∷ ps) zero p q r at b [] t = absurd (false≢true t)
beside-at (o ∷ ps) zero p q r at b (None ∷ cells) t = absurd (false≢true (sym b.0 ∙ (ap is_wild (sym (same-some at)) ∙ (and_parts (is_wild o) (covers ps cells) t).0)))
  where
    same-some : Some o ≡ Some p → o ≡ p
    same-some e = cc
beside-at (o ∷ ps) zero p q r at b (Some v ∷ cells) t = go (b.1 v (ap (λ (x : Pattern). matches_value x v) (sym (same-some at)) ∙ both.0))
  where
    both : (matches_value o v ≡ true) × (covers ps cells ≡ true)
    both = and_parts (matches_value o v) (covers ps cells) t

    same-some : Some o ≡ Some p → o ≡ p
    same-some e = cc

    go : (matches_value q v ≡ true) ⊎ (matches_value r v ≡ true) → (covers (filled (length (o ∷ ps)) zero q) (Some v ∷ cells) ≡ true) ⊎ (covers (replaced (o ∷ ps) zero r) (Some v ∷ cells) ≡ true)
    go (inl m) = inl (and_from (matches_value q v) (covers (all_wild (length ps)) cells) m (wild-covers ps cells both.1))
    go (inr m) = inr (and_from (matches_value r v) (covers ps cells) m both.1)
beside-at (o ∷ ps) (suc column) p q r at b [] t = absurd (false≢true t)
beside-at (o ∷ ps) (suc column) p q r at b (Some v ∷ cells) t = go (beside-at ps column p q r at b cells both.1)
  where
    both : (matches_value o v ≡ true) × (covers ps cells ≡ true)
    both = and_parts (matches_value o v) (covers ps cells) t

    go : (covers (filled (length ps) column q) cells ≡ true) ⊎ (covers (replaced ps column r) cells ≡ true)
        → (covers (filled (length (o ∷ ps)) (suc column) q) (Some v ∷ cells) ≡ true) ⊎ (covers (replaced (o ∷ ps) (suc column) r) (Some v ∷ cells) ≡ true)
    go (inl h) = inl h
    go (inr h) = inr (and_from (matches_value o v) (covers (replaced ps column r) cells) both.0 h)
beside-at (o ∷ ps) (suc column) p q r at b (None ∷ cells) t = go (beside-at ps column p q r at b cells both.1)
  where
    both : (is_wild o ≡ true) × (covers ps cells ≡ true)
    both = and_parts (is_wild o) (covers ps cells) t

    go : (covers (filled (length ps) column q) cells ≡ true) ⊎ (covers (replaced ps column r) cells ≡ true)
        → (covers (filled (length (o ∷ ps)) (suc column) q) (None ∷ cells) ≡ true) ⊎ (covers (replaced (o ∷ ps) (suc column) r) (None ∷ cells) ≡ true)
    go (inl h) = inl h
    go (inr h) = inr (and_from (is_wild o) (covers (replaced ps column r) cells) both.0 h)

pub beside_where : (ps qs : List Pattern) (column : ℕ) (p q r : Pattern) → length ps ≡ length qs → IsFilled qs column → slice_get ps column ≡ Some p → slice_get qs column ≡ Some q → IsBeyond p q r → IsBeside ps qs (replaced ps column r)
beside_where ps qs column p q r long alone at q-at b =
    subst (λ (xs : List Pattern). IsBeside ps xs (replaced ps column r)) (sym is) (beside-at ps column p q r at b)
  where
    same-some : (x y : Pattern) → Some x ≡ Some y → x ≡ y
    same-some x y e = cc

    is : qs ≡ filled (length ps) column q
    is = alone.filled_is q ∙ (ap (λ n. filled n column (get_or qs column q)) (sym long) ∙ ap (λ (x : Pattern). filled (length ps) column x) (same-some _ _ (sym (slice_get-get_or qs column q alone.within) ∙ q-at)))

pub replaced_is : (ps front from behind start one two out : List Pattern) (column : ℕ) (p : Pattern) → start ≡ [] → front ≡ take column ps → from ≡ drop column ps → behind ≡ drop 1 from → one ≡ start ++ front → two ≡ one ++ p ∷ [] → out ≡ two ++ behind
    → out ≡ replaced ps column p
replaced_is ps front from behind start one two out column p start-is front-is from-is behind-is one-is two-is out-is =
    out-is
    ∙ (ap (λ (xs : List Pattern). xs ++ behind) (two-is ∙ ap (λ (xs : List Pattern). xs ++ p ∷ []) (one-is ∙ (ap (λ (xs : List Pattern). xs ++ front) start-is ∙ front-is)))
    ∙ (append_assoc (take column ps) (p ∷ []) behind
    ∙ ap (λ (xs : List Pattern). take column ps ++ p ∷ xs) (behind-is ∙ (ap (drop 1) from-is ∙ drop-more column ps))))
  where
    drop-more : (n : ℕ) (xs : List Pattern) → drop 1 (drop n xs) ≡ drop (suc n) xs
    drop-more zero xs = refl
    drop-more (suc n) [] = refl
    drop-more (suc n) (x ∷ xs) = drop-more n xs

-- ---- of what is kept

pub added_part : (kept : List NumberedPunct) (patterns last rest : List Pattern) → IsOneOf kept last → IsBeside patterns last rest → IsAdded kept patterns (Part rest)
added_part kept patterns last rest (number, is) beside cells t = go (beside cells t)
  where
    go : (covers last cells ≡ true) ⊎ (covers rest cells ≡ true) → (covered_by_any kept cells ≡ true) ⊎ (covers rest cells ≡ true)
    go (inl h) = inl (any_from (λ (k : NumberedPunct). covers k.punct cells) kept (record { punct = last; number = number }) is h)
    go (inr h) = inr h

pub added_nothing : (kept : List NumberedPunct) (patterns last : List Pattern) → IsOneOf kept last → covers_punct last patterns ≡ true → IsAdded kept patterns Nothing
added_nothing kept patterns last (number, is) above cells t = any_from (λ (k : NumberedPunct). covers k.punct cells) kept (record { punct = last; number = number }) is (covers_through last patterns cells above t)
