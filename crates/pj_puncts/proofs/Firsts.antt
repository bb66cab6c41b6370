-- The first punctuation that a row matches has the least number, and numbers go on rising.
use Rattle.std.proofs.Common.{◌≡◌, ◌+◌, ◌<◌, ◌≤◌, ℕ, Bool, true, false, cond, List, [], ◌∷◌, ◌++◌, Option, Some, None, refl, sym, ◌∙◌, inl, inr, arith}
use Rattle.std.proofs.lemmas.Bool.{false≢true}
use Rattle.pj_value.specs.declared.values.Value.{Value}
use Rattle.pj_pattern.specs.Columns.{matches_row}
use Rattle.pj_puncts.specs.declared.store.NumberedPunct.{NumberedPunct}
use Rattle.pj_puncts.specs.Stores.{AllAbove, AreRising, IsAbove, IsMatched, IsLeastMatch, first_match_of}

all-above-push : (n : ℕ) (ks : List NumberedPunct) (k : NumberedPunct) → AllAbove n ks → n < k.number → AllAbove n (ks ++ k ∷ [])
all-above-push n [] k all lt = (lt, tt)
all-above-push n (x ∷ ks) k all lt = (all.0, all-above-push n ks k all.1 lt)

-- one more with a number above all others
pub rising-push : (ks : List NumberedPunct) (k : NumberedPunct) → AreRising ks → IsAbove k.number ks → AreRising (ks ++ k ∷ [])
rising-push [] k rises above = (tt, tt)
rising-push (x ∷ ks) k rises above = (all-above-push x.number ks k rises.0 above.0, rising-push ks k rises.1 above.1)

-- the next number is above one more
pub above_push : (n : ℕ) (ks : List NumberedPunct) (k : NumberedPunct) → IsAbove n ks → k.number ≡ n → IsAbove (n + 1) (ks ++ k ∷ [])
above_push n [] k above e = (omega (arith, e), tt)
above_push n (x ∷ ks) k above e = (omega (arith, above.0), above_push n ks k above.1 e)

-- what is matched among these has a number above
matched-above : (n m : ℕ) (ks : List NumberedPunct) (row : List Value) → AllAbove n ks → IsMatched ks row m → n < m
matched-above n m [] row all is = absurd is
matched-above n m (k ∷ ks) row all (inl here) = omega (arith, all.0, here.0)
matched-above n m (k ∷ ks) row all (inr there) = matched-above n m ks row all.1 there

pub first_least : (ks : List NumberedPunct) (row : List Value) → AreRising ks → IsLeastMatch ks row (first_match_of ks row)
first_least [] row rises = λ n is. absurd is
first_least (k ∷ ks) row rises = go (matches_row k.punct row) refl (first_match_of ks row) (first_least ks row rises.1)
  where
    go : (b : Bool) → matches_row k.punct row ≡ b → (o : Option ℕ) → IsLeastMatch ks row o → IsLeastMatch (k ∷ ks) row (cond b (Some k.number) o)
    go true t o ih = (inl (refl, t), least)
      where
        least : (n : ℕ) → IsMatched (k ∷ ks) row n → k.number ≤ n
        least n (inl here) = omega (arith, here.0)
        least n (inr there) = let lt : k.number < n = matched-above k.number n ks row rises.0 there in omega (arith, lt)
    go false t None ih = none
      where
        none : (n : ℕ) → IsMatched (k ∷ ks) row n → ⊥
        none n (inl here) = false≢true (sym t ∙ here.1)
        none n (inr there) = ih n there
    go false t (Some m) ih = (inr ih.0, least)
      where
        least : (n : ℕ) → IsMatched (k ∷ ks) row n → m ≤ n
        least n (inl here) = absurd (false≢true (sym t ∙ here.1))
        least n (inr there) = ih.1 n there
