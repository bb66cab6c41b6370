-- What the lists of an index lead to is the first punctuation that covers the cells.
use Rattle.std.proofs.Common.{◌≡◌, ℕ, zero, suc, ◌+◌, ◌<◌, ◌≤◌, Bool, true, false, cond, ◌&&◌, ◌||◌, List, [], ◌∷◌, Option, Some, None, IfSome, inl, inr, length, get_or, refl, ap, sym, ◌∙◌, subst, ltb, arith}
use Rattle.std.specs.List.{slice_get}
use Rattle.std.specs.Option.{is_some}
use Rattle.std.proofs.lemmas.Bool.{false_from_ne_true, lt-ltb, ltb-false, ltb-true}
use Rattle.pj_value.specs.Lists.{In}
use Rattle.pj_value.specs.declared.values.Value.{Value}
use Rattle.pj_events.specs.Patterns.{covers, matches_row}
use Rattle.pj_puncts.specs.declared.store.NumberedPunct.{NumberedPunct}
use Rattle.pj_puncts.specs.declared.index.ColumnIndex.{ColumnIndex}
use Rattle.pj_puncts.specs.declared.index.Index.{Index}
use Rattle.pj_puncts.specs.declared.index.ShapeSet.{ShapeSet}
use Rattle.pj_puncts.specs.Stores.{AllAbove, AreRising, TellsCover, covered_below, covered_by_any, first_match_of}
use Rattle.pj_puncts.specs.Hashes.{hash_of, row_cells}
use Rattle.pj_puncts.specs.Indexed.{IsCovering, AreChained, AreSetsChained, ArePlaces, IsAtLeastAt, IsIndexed, InColumns, InSets, IsLeastOfColumns, first_at, first_covering, first_of, is_below, least, least_of_sets, number_at, number_in, slot}
use Rattle.pj_puncts.proofs.Cellwise.{row_covered}

-- ---- bounds

-- a number is there, and it is at most this one
abbrev pub IsUpTo : Option ℕ → ℕ → Type 0
IsUpTo None n = ⊥
IsUpTo (Some m) n = m ≤ n

pub least-left : (o p : Option ℕ) (n : ℕ) → IsUpTo o n → IsUpTo (least o p) n
least-left None p n h = absurd h
least-left (Some m) None n h = h
least-left (Some m) (Some k) n h = go (ltb k m) refl
  where
    go : (b : Bool) → ltb k m ≡ b → IsUpTo (cond b (Some k) (Some m)) n
    go true e = let lt : k < m = ltb-true k m e in omega (arith, lt, h)
    go false e = h

pub least-right : (o p : Option ℕ) (n : ℕ) → IsUpTo p n → IsUpTo (least o p) n
least-right None p n h = h
least-right (Some m) None n h = absurd h
least-right (Some m) (Some k) n h = go (ltb k m) refl
  where
    go : (b : Bool) → ltb k m ≡ b → IsUpTo (cond b (Some k) (Some m)) n
    go true e = h
    go false e = omega (arith, h, ltb-false k m e)

up-to-more : (o : Option ℕ) (n m : ℕ) → IsUpTo o n → n ≤ m → IsUpTo o m
up-to-more None n m h le = h
up-to-more (Some k) n m h le = omega (arith, h, le)

module _ (kept : List NumberedPunct) (cells : List (Option Value)) where
  abbrev pub Covering : ℕ → Type 0
  Covering n = IsCovering kept cells n

  -- where a number is there, it is that of one that covers the cells
  abbrev pub IsSound : Option ℕ → Type 0
  IsSound o = (n : ℕ) → o ≡ Some n → Covering n

  pub sound-none : IsSound None
  sound-none n e = absurd (cc)

  pub sound-least : (o p : Option ℕ) → IsSound o → IsSound p → IsSound (least o p)
  sound-least None p s t = t
  sound-least (Some n) None s t = s
  sound-least (Some n) (Some m) s t = go (ltb m n)
    where
      go : (b : Bool) → IsSound (cond b (Some m) (Some n))
      go true = t
      go false = s

  in-at : (ks : List NumberedPunct) (at : ℕ) (k : NumberedPunct) → slice_get ks at ≡ Some k → In k ks
  in-at [] at k e = absurd (cc)
  in-at (x ∷ ks) zero k e = inl (some-same x k e)
    where
      some-same : (a b : NumberedPunct) → Some a ≡ Some b → a ≡ b
      some-same a b q = cc
  in-at (x ∷ ks) (suc at) k e = inr (in-at ks at k e)

  sound-at : (at : ℕ) → IsSound (number_at kept cells at)
  sound-at at = go (slice_get kept at) refl
    where
      there : (k : NumberedPunct) → slice_get kept at ≡ Some k → (b : Bool) → covers k.punct cells ≡ b → IsSound (cond b (Some k.number) None)
      there k e true t n q = (k, in-at kept at k e, t, some-same k.number n q)
        where
          some-same : (a b : ℕ) → Some a ≡ Some b → a ≡ b
          some-same a b r = cc
      there k e false t n q = absurd (cc)

      go : (o : Option NumberedPunct) → slice_get kept at ≡ o → IsSound (number_in cells o)
      go None e = sound-none
      go (Some k) e = there k e (covers k.punct cells) refl

  sound-first : (places : List ℕ) → IsSound (first_at kept cells places)
  sound-first [] = sound-none
  sound-first (at ∷ places) = go (number_at kept cells at) (sound-at at) (sound-first places)
    where
      go : (o : Option ℕ) → IsSound o → IsSound (first_at kept cells places) → IsSound (first_of o (first_at kept cells places))
      go None s ih = ih
      go (Some n) s ih = s

  -- the number of a place that may be there
  abbrev pub number_under : Option ℕ → Option ℕ
  number_under None = None
  number_under (Some at) = number_at kept cells at

  pub sound-under : (o : Option ℕ) → IsSound (number_under o)
  sound-under None = sound-none
  sound-under (Some at) = sound-at at

  sound-sets : (best : Option ℕ) (sets : List ShapeSet) → IsSound best → IsSound (least_of_sets kept cells best sets)
  sound-sets best [] s = s
  sound-sets best (set ∷ sets) s = sound-sets (least best (first_at kept cells (slot cells set))) sets (sound-least best (first_at kept cells (slot cells set)) s (sound-first (slot cells set)))

  sound-columns : (best : Option ℕ) (columns : List ColumnIndex) (o : Option ℕ) → IsSound best → IsLeastOfColumns kept cells best columns o → IsSound o
  sound-columns best [] o s is = subst IsSound (sym is) s
  sound-columns best (column ∷ columns) o s is = sound-columns (least best is.0) columns o (sound-least best is.0 s is.1.sound) is.2

  sound-index : (index : Index) (o : Option ℕ) → IsLeastOfColumns kept cells (least_of_sets kept cells None index.sets.items) index.columns.items o → IsSound (least o (first_at kept cells index.rest))
  sound-index index o is =
      sound-least o (first_at kept cells index.rest) (sound-columns (least_of_sets kept cells None index.sets.items) index.columns.items o (sound-sets None index.sets.items sound-none) is) (sound-first index.rest)

  -- ---- nothing less is passed over

  number-there : (number at : ℕ) → IsAtLeastAt kept number at cells → (m : ℕ) × (number_at kept cells at ≡ Some m) × (m ≤ number)
  number-there number at h = (h.punct.number, ap (number_in cells) h.there ∙ ap (λ b. cond b (Some h.punct.number) None) h.covers_too, h.number_is)

  above-at : (ks : List NumberedPunct) (n at : ℕ) (k : NumberedPunct) → AllAbove n ks → slice_get ks at ≡ Some k → n < k.number
  above-at [] n at k all e = absurd (cc)
  above-at (x ∷ ks) n zero k all e = subst (λ (y : NumberedPunct). n < y.number) (some-same x k e) all.0
    where
      some-same : (a b : NumberedPunct) → Some a ≡ Some b → a ≡ b
      some-same a b q = cc
  above-at (x ∷ ks) n (suc at) k all e = above-at ks n at k all.1 e

  rising-at : (ks : List NumberedPunct) (i j : ℕ) (a b : NumberedPunct) → AreRising ks → i < j → slice_get ks i ≡ Some a → slice_get ks j ≡ Some b → a.number < b.number
  rising-at [] i j a b rises lt e f = absurd (cc)
  rising-at (x ∷ ks) i zero a b rises lt e f = absurd (omega (arith, lt))
  rising-at (x ∷ ks) zero (suc j) a b rises lt e f = subst (λ (y : NumberedPunct). y.number < b.number) (some-same x a e) (above-at ks x.number j b rises.0 f)
    where
      some-same : (p q : NumberedPunct) → Some p ≡ Some q → p ≡ q
      some-same p q r = cc
  rising-at (x ∷ ks) (suc i) (suc j) a b rises lt e f = rising-at ks i j a b rises.1 (omega (arith, lt)) e f

  -- the number at a place is that of the punctuation there
  number-is : (at m : ℕ) → number_at kept cells at ≡ Some m → (k : NumberedPunct) × (slice_get kept at ≡ Some k) × (k.number ≡ m)
  number-is at m e = go (slice_get kept at) refl e
    where
      there : (k : NumberedPunct) → slice_get kept at ≡ Some k → (b : Bool) → cond b (Some k.number) None ≡ Some m → (j : NumberedPunct) × (slice_get kept at ≡ Some j) × (j.number ≡ m)
      there k f true q = (k, f, some-same k.number m q)
        where
          some-same : (a b : ℕ) → Some a ≡ Some b → a ≡ b
          some-same a b r = cc
      there k f false q = absurd (cc)

      go : (o : Option NumberedPunct) → slice_get kept at ≡ o → number_in cells o ≡ Some m → (j : NumberedPunct) × (slice_get kept at ≡ Some j) × (j.number ≡ m)
      go None f q = absurd (cc)
      go (Some k) f q = there k f (covers k.punct cells) q

  behind : (from count at : ℕ) (places : List ℕ) → ArePlaces from count places → In at places → from ≤ at
  behind from count at [] are h = absurd h
  behind from count at (x ∷ places) are (inl e) = omega (arith, are.0, e)
  behind from count at (x ∷ places) are (inr h) = let le : x + 1 ≤ at = behind (x + 1) count at places are.2 h in omega (arith, le, are.0)

  first-up-to : (places : List ℕ) (from count at m : ℕ) → AreRising kept → ArePlaces from count places → In at places → number_at kept cells at ≡ Some m → IsUpTo (first_at kept cells places) m
  first-up-to [] from count at m rises are h e = absurd h
  first-up-to (x ∷ places) from count at m rises are (inl q) e =
      subst (λ (o : Option ℕ). IsUpTo (first_of o (first_at kept cells places)) m) (sym (ap (number_at kept cells) q ∙ e)) (omega arith)
  first-up-to (x ∷ places) from count at m rises are (inr h) e = go (number_at kept cells x) refl (first-up-to places (x + 1) count at m rises are.2 h e)
    where
      go : (o : Option ℕ) → number_at kept cells x ≡ o → IsUpTo (first_at kept cells places) m → IsUpTo (first_of o (first_at kept cells places)) m
      go None f ih = ih
      go (Some n) f ih =
          let a = number-is x n f in
          let b = number-is at m e in
          let le : x + 1 ≤ at = behind (x + 1) count at places are.2 h in
          let lt : a.0.number < b.0.number = rising-at kept x at a.0 b.0 rises (omega (arith, le)) a.1 b.1 in
          omega (arith, lt, a.2, b.2)

  sets-keep : (best : Option ℕ) (sets : List ShapeSet) (n : ℕ) → IsUpTo best n → IsUpTo (least_of_sets kept cells best sets) n
  sets-keep best [] n h = h
  sets-keep best (set ∷ sets) n h = sets-keep (least best (first_at kept cells (slot cells set))) sets n (least-left best (first_at kept cells (slot cells set)) n h)

  sets-up-to : (best : Option ℕ) (sets : List ShapeSet) (at m : ℕ) → AreRising kept → AreSetsChained kept sets → InSets cells at sets → number_at kept cells at ≡ Some m → IsUpTo (least_of_sets kept cells best sets) m
  sets-up-to best [] at m rises are h e = absurd h
  sets-up-to best (set ∷ sets) at m rises are (inl q) e =
      sets-keep (least best (first_at kept cells (slot cells set))) sets m
      (least-right best (first_at kept cells (slot cells set)) m (first-up-to (slot cells set) 0 (length kept) at m rises (are.0 (hash_of set.marks cells)).places_are q e))
  sets-up-to best (set ∷ sets) at m rises are (inr h) e = sets-up-to (least best (first_at kept cells (slot cells set))) sets at m rises are.1 h e

  columns-keep : (best : Option ℕ) (columns : List ColumnIndex) (o : Option ℕ) (n : ℕ) → IsLeastOfColumns kept cells best columns o → IsUpTo best n → IsUpTo o n
  columns-keep best [] o n is h = subst (λ (x : Option ℕ). IsUpTo x n) (sym is) h
  columns-keep best (column ∷ columns) o n is h = columns-keep (least best is.0) columns o n is.2 (least-left best is.0 n h)

  columns-up-to : (best : Option ℕ) (columns : List ColumnIndex) (o : Option ℕ) (at m : ℕ) → IsLeastOfColumns kept cells best columns o → InColumns cells at columns → number_at kept cells at ≡ Some m → IsUpTo o m
  columns-up-to best [] o at m is h e = absurd h
  columns-up-to best (column ∷ columns) o at m is (inl q) e =
      let here : is.0 ≡ Some m = is.1.leads at q ∙ e in
      columns-keep (least best is.0) columns o m is.2 (least-right best is.0 m (subst (λ (x : Option ℕ). IsUpTo x m) (sym here) (omega arith)))
  columns-up-to best (column ∷ columns) o at m is (inr h) e = columns-up-to (least best is.0) columns o at m is.2 h e

  index-up-to : (index : Index) (o : Option ℕ) (n : ℕ) → IsIndexed kept index → IsLeastOfColumns kept cells (least_of_sets kept cells None index.sets.items) index.columns.items o → Covering n
      → IsUpTo (least o (first_at kept cells index.rest)) n
  index-up-to index o n is of c =
      let held = is.held c.0 c.1 cells c.2 in
      let there = number-there c.0.number held.0 held.2 in
      let sets = least_of_sets kept cells None index.sets.items in
      let other = first_at kept cells index.rest in
      up-to-more (least o other) there.0 n (elim held.1 [
        | inl s ↦ least-left o other there.0 (columns-keep sets index.columns.items o there.0 of (sets-up-to None index.sets.items held.0 there.0 is.rising is.chained s there.1))
        | inr k ↦ elim k [
          | inl s ↦ least-left o other there.0 (columns-up-to sets index.columns.items o held.0 there.0 of s there.1)
          | inr s ↦ least-right o other there.0 (first-up-to index.rest 0 (length kept) held.0 there.0 is.rising is.others s there.1)
        ]
      ]) (omega (arith, there.2, c.3))

-- ---- the first one in order

above-covering : (n m : ℕ) (ks : List NumberedPunct) (cells : List (Option Value)) → AllAbove n ks → Covering ks cells m → n < m
above-covering n m [] cells all c = absurd c.1
above-covering n m (k ∷ ks) cells all (j, inl e, t, q) = let lt : n < j.number = subst (λ (y : NumberedPunct). n < y.number) e all.0 in omega (arith, lt, q)
above-covering n m (k ∷ ks) cells all (j, inr h, t, q) = above-covering n m ks cells all.1 (j, h, t, q)

pub first-sound : (ks : List NumberedPunct) (cells : List (Option Value)) → IsSound ks cells (first_covering ks cells)
first-sound [] cells = λ n e. absurd (cc)
first-sound (k ∷ ks) cells = go (covers k.punct cells) refl (first-sound ks cells)
  where
    go : (b : Bool) → covers k.punct cells ≡ b → IsSound ks cells (first_covering ks cells) → IsSound (k ∷ ks) cells (cond b (Some k.number) (first_covering ks cells))
    go true t ih n e = (k, inl refl, t, some-same k.number n e)
      where
        some-same : (a b : ℕ) → Some a ≡ Some b → a ≡ b
        some-same a b r = cc
    go false t ih n e = let c = ih n e in (c.0, inr c.1, c.2, c.3)

pub first-least : (ks : List NumberedPunct) (cells : List (Option Value)) (n : ℕ) → AreRising ks → Covering ks cells n → IsUpTo (first_covering ks cells) n
first-least [] cells n rises c = absurd c.1
first-least (k ∷ ks) cells n rises (j, inl e, t, q) =
    subst (λ b. IsUpTo (cond b (Some k.number) (first_covering ks cells)) n) (sym (ap (λ (y : NumberedPunct). covers y.punct cells) e ∙ t)) (omega (arith, q, ap (λ (y : NumberedPunct). y.number) e))
first-least (k ∷ ks) cells n rises (j, inr h, t, q) = go (covers k.punct cells) (first-least ks cells n rises.1 (j, h, t, q))
  where
    go : (b : Bool) → IsUpTo (first_covering ks cells) n → IsUpTo (cond b (Some k.number) (first_covering ks cells)) n
    go true ih = let lt : k.number < n = above-covering k.number n ks cells rises.0 (j, h, t, q) in omega (arith, lt)
    go false ih = ih

pub one-least : (ks : List NumberedPunct) (cells : List (Option Value)) (o p : Option ℕ) → IsSound ks cells o → IsSound ks cells p → ((n : ℕ) → Covering ks cells n → IsUpTo o n) → ((n : ℕ) → Covering ks cells n → IsUpTo p n) → o ≡ p
one-least ks cells None None s t f g = refl
one-least ks cells None (Some m) s t f g = absurd (f m (t m refl))
one-least ks cells (Some n) None s t f g = absurd (g n (s n refl))
one-least ks cells (Some n) (Some m) s t f g = let a : n ≤ m = f m (t m refl) in let b : m ≤ n = g n (s n refl) in ap Some (omega (arith, a, b))

-- what the index leads to is the first number
pub index_first : (kept : List NumberedPunct) (cells : List (Option Value)) (index : Index) (o : Option ℕ) → IsIndexed kept index
    → IsLeastOfColumns kept cells (least_of_sets kept cells None index.sets.items) index.columns.items o → least o (first_at kept cells index.rest) ≡ first_covering kept cells
index_first kept cells index o is of =
    one-least kept cells (least o (first_at kept cells index.rest)) (first_covering kept cells) (sound-index kept cells index o of) (first-sound kept cells) (λ n c. index-up-to kept cells index o n is of c) (λ n c. first-least kept cells n is.rising c)

pub first_for_row : (kept : List NumberedPunct) (row : List Value) → first_covering kept (row_cells row) ≡ first_match_of kept row
first_for_row [] row = refl
first_for_row (k ∷ ks) row = go (covers k.punct (row_cells row)) (matches_row k.punct row) (row_covered k.punct row) (first_for_row ks row)
  where
    go : (a b : Bool) → a ≡ b → first_covering ks (row_cells row) ≡ first_match_of ks row → cond a (Some k.number) (first_covering ks (row_cells row)) ≡ cond b (Some k.number) (first_match_of ks row)
    go true true e ih = refl
    go true false e ih = absurd (cc)
    go false true e ih = absurd (cc)
    go false false e ih = ih

none-below : (n below : ℕ) (ks : List NumberedPunct) (cells : List (Option Value)) → AllAbove n ks → below ≤ n → covered_below ks below cells ≡ false
none-below n below [] cells all le = refl
none-below n below (k ∷ ks) cells all le =
    let no : ltb k.number below ≡ false = false_from_ne_true (ltb k.number below) (λ t. let lt : k.number < below = ltb-true k.number below t in omega (arith, lt, le, all.0)) in
    rw no (none-below n below ks cells all.1 le)

-- one below the bound covers the cells where the first one that does is below it
pub first_below : (kept : List NumberedPunct) (cells : List (Option Value)) (below : ℕ) → AreRising kept → is_below (first_covering kept cells) below ≡ covered_below kept below cells
first_below [] cells below rises = refl
first_below (k ∷ ks) cells below rises = go (covers k.punct cells) (ltb k.number below) refl (first_below ks cells below rises.1)
  where
    go : (a b : Bool) → ltb k.number below ≡ b → is_below (first_covering ks cells) below ≡ covered_below ks below cells
        → is_below (cond a (Some k.number) (first_covering ks cells)) below ≡ ((ltb k.number below && a) || covered_below ks below cells)
    go true true e ih = rw e refl
    go true false e ih = rw e (sym (none-below k.number below ks cells rises.0 (omega (arith, ltb-false k.number below e))))
    go false true e ih = rw e ih
    go false false e ih = rw e ih

-- where one is found below the bound, one below it covers the cells
pub covered_at_once : (kept : List NumberedPunct) (cells : List (Option Value)) (below : ℕ) (o : Option ℕ) → AreRising kept → IfSome o (IsCovering kept cells) → is_below o below ≡ true → covered_below kept below cells ≡ true
covered_at_once kept cells below None rises h t = absurd (cc)
covered_at_once kept cells below (Some n) rises h t =
    sym (first_below kept cells below rises) ∙ go (first_covering kept cells) (first-least kept cells n rises h)
  where
    go : (o : Option ℕ) → IsUpTo o n → is_below o below ≡ true
    go None u = absurd u
    go (Some m) u = let lt : n < below = ltb-true n below t in lt-ltb m below (omega (arith, lt, u))

any-below : (kept : List NumberedPunct) (below : ℕ) (cells : List (Option Value)) → covered_below kept below cells ≡ true → covered_by_any kept cells ≡ true
any-below [] below cells t = t
any-below (k ∷ ks) below cells t = go (ltb k.number below) (covers k.punct cells) t (any-below ks below cells)
  where
    go : (a b : Bool) → ((a && b) || covered_below ks below cells) ≡ true → (covered_below ks below cells ≡ true → covered_by_any ks cells ≡ true) → (b || covered_by_any ks cells) ≡ true
    go true true h ih = refl
    go true false h ih = ih h
    go false true h ih = refl
    go false false h ih = ih h

first-any : (kept : List NumberedPunct) (cells : List (Option Value)) → is_some (first_covering kept cells) ≡ covered_by_any kept cells
first-any [] cells = refl
first-any (k ∷ ks) cells = go (covers k.punct cells) (first-any ks cells)
  where
    go : (b : Bool) → is_some (first_covering ks cells) ≡ covered_by_any ks cells → is_some (cond b (Some k.number) (first_covering ks cells)) ≡ (b || covered_by_any ks cells)
    go true ih = refl
    go false ih = ih

-- the first number tells it
pub first_tells : (kept : List NumberedPunct) (cells : List (Option Value)) (below : ℕ) → AreRising kept → TellsCover kept below cells (first_covering kept cells)
first_tells kept cells below rises = go (first_covering kept cells) (first-any kept cells) (first_below kept cells below rises)
  where
    go : (o : Option ℕ) → is_some o ≡ covered_by_any kept cells → is_below o below ≡ covered_below kept below cells → TellsCover kept below cells o
    go None a b = sym a
    go (Some n) a b = (sym a, b)

-- a number below the bound tells it where one below the bound covers the cells
pub below_tells : (kept : List NumberedPunct) (cells : List (Option Value)) (below : ℕ) (o : Option ℕ) → is_below o below ≡ true → covered_below kept below cells ≡ true → TellsCover kept below cells o
below_tells kept cells below None t c = absurd (cc)
below_tells kept cells below (Some n) t c = (any-below kept below cells c, t ∙ sym c)

-- what is told of a bound
pub told_below : (kept : List NumberedPunct) (cells : List (Option Value)) (below : ℕ) (o : Option ℕ) → TellsCover kept below cells o → is_below o below ≡ covered_below kept below cells
told_below kept cells below (Some n) t = t.1
told_below kept cells below None t = sym (false_from_ne_true (covered_below kept below cells) (λ c. let any : covered_by_any kept cells ≡ true = any-below kept below cells c in cc))

-- what some places lead to covers the cells
pub first_covers : (kept : List NumberedPunct) (cells : List (Option Value)) (places : List ℕ) (o : Option ℕ) → o ≡ first_at kept cells places → IfSome o (IsCovering kept cells)
first_covers kept cells places None e = tt
first_covers kept cells places (Some n) e = sound-first kept cells places n (sym e)

pub sets_chained : (kept : List NumberedPunct) (sets : List ShapeSet) (i : ℕ) (d : ShapeSet) → i < length sets → AreSetsChained kept sets → AreChained kept (get_or sets i d)
sets_chained kept [] i d lt are = absurd (omega (arith, lt))
sets_chained kept (s ∷ sets) zero d lt are = are.0
sets_chained kept (s ∷ sets) (suc i) d lt are = sets_chained kept sets i d (omega (arith, lt)) are.1
