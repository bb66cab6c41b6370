-- The tickets that an index tells, and what a change under one key changes.
use Rattle.std.proofs.Common.{◌≡◌, ℕ, ℤ, Bool, true, false, cond, List, [], ◌∷◌, ◌++◌, Option, None, Some, length, refl, ap, sym, ◌∙◌}
use Rattle.std.specs.Ordering.{int_eq}
use Rattle.std.proofs.lemmas.List.{nil_from_length}
use Rattle.pj_value.specs.declared.values.Value.TheVariants.{Int, Text}
use Rattle.pj_state.specs.Alike.{text_same_if_equal}
use Rattle.pj_state.specs.Indexes.{HasFewerAt, HasMore, HasMoreAt, HasSameAt, told_by}
use Rattle.pj_state.specs.Numbers.{listed}
use Rattle.pj_state.specs.Keys.{same_text}
use Rattle.pj_state.specs.Rising.{itself, without}
use Rattle.pj_state.specs.declared.texts.TextKey.{TextKey}

-- the second finds the same as the first, but this under the key
abbrev pub Writes : {K : Type 0} → (K → K → Bool) → (K → Option (List ℕ)) → (K → Option (List ℕ)) → K → Option (List ℕ) → Type 0
Writes {K} same old new key slot = (q : K) → new q ≡ cond (same key q) slot (old q)

-- a test that tells equal keys
abbrev pub Tells : {K : Type 0} → (K → K → Bool) → Type 0
Tells {K} same = (x y : K) → same x y ≡ true → x ≡ y

pub text_tells : Tells same_text
text_tells x y e = text_same_if_equal x y e

module _ {K : Type 0} (same : K → K → Bool) (tells : Tells same) where
  changes : (f : List ℕ → List ℕ) (old new : K → Option (List ℕ)) (key : K) (o slot : Option (List ℕ)) → Writes same old new key slot → old key ≡ o → listed slot ≡ f (listed o)
      → (k : K) → listed (new k) ≡ cond (same key k) (f (listed (old k))) (listed (old k))
  changes f old new key o slot writes was change k = ap listed (writes k) ∙ go (same key k) refl
    where
      go : (b : Bool) → same key k ≡ b → listed (cond b slot (old k)) ≡ cond b (f (listed (old k))) (listed (old k))
      go true e = change ∙ ap (λ (x : Option (List ℕ)). f (listed x)) (sym was ∙ ap old (tells key k e))
      go false e = refl

  pub more-at : (old new : K → Option (List ℕ)) (key : K) (ticket : ℕ) (o slot : Option (List ℕ)) → Writes same old new key slot → old key ≡ o → listed slot ≡ listed o ++ ticket ∷ []
      → HasMoreAt same (λ k. listed (new k)) (λ k. listed (old k)) key ticket
  more-at old new key ticket o slot writes was change = changes (λ ts. ts ++ ticket ∷ []) old new key o slot writes was change

  pub fewer-at : (old new : K → Option (List ℕ)) (key : K) (ticket : ℕ) (o slot : Option (List ℕ)) → Writes same old new key slot → old key ≡ o → listed slot ≡ without itself ticket (listed o)
      → HasFewerAt same (λ k. listed (new k)) (λ k. listed (old k)) key ticket
  fewer-at old new key ticket o slot writes was change = changes (without itself ticket) old new key o slot writes was change

  pub same-at : (old new : K → Option (List ℕ)) (key : K) (o slot : Option (List ℕ)) → Writes same old new key slot → old key ≡ o → listed slot ≡ listed o
      → HasSameAt (λ k. listed (new k)) (λ k. listed (old k))
  same-at old new key o slot writes was change k = changes (λ ts. ts) old new key o slot writes was change k ∙ go (same key k)
    where
      go : (b : Bool) → cond b (listed (old k)) (listed (old k)) ≡ listed (old k)
      go true = refl
      go false = refl

  -- the last ticket is taken, and then the key
  pub fewer-gone : (old mid new : K → Option (List ℕ)) (key : K) (ticket : ℕ) (was left : List ℕ) → Writes same old mid key (Some left) → Writes same mid new key None → Some was ≡ old key → left ≡ without itself ticket was → length left ≡ 0
      → HasFewerAt same (λ k. listed (new k)) (λ k. listed (old k)) key ticket
  fewer-gone old mid new key ticket was left writes gone is less nothing =
      fewer-at old new key ticket (Some was) None (λ q. gone q ∙ go q (same key q) (writes q)) (sym is) (sym (sym less ∙ nil_from_length left nothing))
    where
      go : (q : K) (b : Bool) → mid q ≡ cond b (Some left) (old q) → cond b None (mid q) ≡ cond b None (old q)
      go q true e = refl
      go q false e = e

  -- nothing is there to be taken
  pub fewer-none : (old : K → Option (List ℕ)) (key : K) (ticket : ℕ) → old key ≡ None → HasFewerAt same (λ k. listed (old k)) (λ k. listed (old k)) key ticket
  fewer-none old key ticket was k = go (same key k) refl
    where
      go : (b : Bool) → same key k ≡ b → listed (old k) ≡ cond b (without itself ticket (listed (old k))) (listed (old k))
      go true e = let none : old k ≡ None = sym (ap old (tells key k e)) ∙ was in ap listed none ∙ ap (λ (x : Option (List ℕ)). without itself ticket (listed x)) (sym none)
      go false e = refl

-- ---- of values

pub number-more : (numbers new : ℤ → List ℕ) (texts : TextKey → List ℕ) (n : ℤ) (ticket : ℕ) → HasMoreAt int_eq new numbers n ticket → HasMore (told_by new texts) (told_by numbers texts) (Int n) ticket
number-more numbers new texts n ticket h (Int k) = h k
number-more numbers new texts n ticket h (Text bytes) = refl
