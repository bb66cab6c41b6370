-- One punctuation more in an index.
use Rattle.std.proofs.Common.{◌≡◌, ◌⊎◌, ℕ, zero, suc, ◌+◌, ◌<◌, ◌≤◌, Bool, true, false, cond, List, [], ◌∷◌, ◌++◌, Option, Some, None, Result, Ok, Err, IfOk, OnErr, inl, inr, length, get_or, map, set, eqb, ◌&&◌, refl, ap, sym, ◌∙◌, subst, arith, length-append}
use Rattle.std.specs.List.{slice_get}
use Rattle.std.proofs.lemmas.Bool.{cases_lt, eq-eqb, eqb-true}
use Rattle.std.proofs.lemmas.List.{get_or_append_left, get_or_default}
use Rattle.std.proofs.lemmas.Option.{slice_get-get_or}
use Rattle.indexmap.specs.IndexMap.{IndexMap, get}
use Rattle.pj_value.specs.Lists.{In}
use Rattle.pj_value.specs.declared.values.Value.{Value}
use Rattle.pj_value.proofs.Members.{In-append_cases, In-append_left, In-append_right}
use Rattle.pj_events.specs.Patterns.{Pattern, covers, covers_punct}
use Rattle.pj_intervals.specs.Intervals.{Entry}
use Rattle.pj_puncts.specs.declared.store.NumberedPunct.{NumberedPunct}
use Rattle.pj_puncts.specs.declared.index.ColumnIndex.{ColumnIndex}
use Rattle.pj_puncts.specs.declared.index.Index.{Index}
use Rattle.pj_puncts.specs.declared.index.ShapeSet.{ShapeSet}
use Rattle.pj_puncts.specs.Stores.{AreRising, IsAbove}
use Rattle.pj_puncts.specs.Hashes.{constants_of, hash_of}
use Rattle.pj_puncts.specs.Indexed.{AreChained, AreColumns, AreEntries, AreLed, ArePlaces, AreSetsChained, ChainGrew, ChainTakes, ColumnsGrew, ColumnsStay, FitsAt, Grows, InColumns, InSets, IsChain, IsChained, IsColumn, IsCoveredAt, IsFiled, IsHeld, IsInColumns, IsInSets, IsLedTo, IsUnfiled, SetStays, SetTakes, SetsGrew, SetsStay, SetsTake, covered_in, covers_in, fits_mark, fits_marks, is_constant, number_at, number_in, slot}
use Rattle.pj_puncts.specs.Numbers.{numbers_in}
use Rattle.pj_puncts.proofs.Cellwise.{covers_through, hash_same}
use Rattle.pj_puncts.proofs.Firsts.{rising-push}

-- ---- lists

pub there : (kept : List NumberedPunct) (at : ℕ) (q : NumberedPunct) → at < length kept → q ≡ get_or kept at q → slice_get kept at ≡ Some q
there kept at q lt e = slice_get-get_or kept at q lt ∙ ap Some (sym e)

pub own_is : (kept : List NumberedPunct) (at : ℕ) (d : NumberedPunct) → at < length kept → get_or kept at d ≡ get_or kept at (get_or kept at d)
own_is kept at d lt = get_or_default kept at d (get_or kept at d) lt

some-same : (a b : NumberedPunct) → Some a ≡ Some b → a ≡ b
some-same a b q = cc

get-more : (ks : List NumberedPunct) (k : NumberedPunct) (at : ℕ) → at < length ks → slice_get (ks ++ k ∷ []) at ≡ slice_get ks at
get-more [] k at lt = absurd (omega (arith, lt))
get-more (x ∷ ks) k zero lt = refl
get-more (x ∷ ks) k (suc at) lt = get-more ks k at (omega (arith, lt))

get-last : (ks : List NumberedPunct) (k : NumberedPunct) → slice_get (ks ++ k ∷ []) (length ks) ≡ Some k
get-last [] k = refl
get-last (x ∷ ks) k = get-last ks k

within : (ks : List NumberedPunct) (at : ℕ) (j : NumberedPunct) → slice_get ks at ≡ Some j → at < length ks
within [] at j e = absurd (cc)
within (x ∷ ks) zero j e = omega arith
within (x ∷ ks) (suc at) j e = let r : at < length ks = within ks at j e in omega (arith, r)

in-there : (ks : List NumberedPunct) (at : ℕ) (j : NumberedPunct) → slice_get ks at ≡ Some j → In j ks
in-there [] at j e = absurd (cc)
in-there (x ∷ ks) zero j e = inl (some-same x j e)
in-there (x ∷ ks) (suc at) j e = inr (in-there ks at j e)

pub below-all : (n : ℕ) (ks : List NumberedPunct) (j : NumberedPunct) → IsAbove n ks → In j ks → j.number < n
below-all n [] j all h = absurd h
below-all n (x ∷ ks) j all (inl e) = subst (λ (y : NumberedPunct). y.number < n) e all.0
below-all n (x ∷ ks) j all (inr h) = below-all n ks j all.1 h

-- ---- places and chains

places-more : (from count : ℕ) (places : List ℕ) → ArePlaces from count places → ArePlaces from (count + 1) places
places-more from count [] are = tt
places-more from count (at ∷ places) are = (are.0, omega (arith, are.1), places-more (at + 1) count places are.2)

pub places_push : (from count : ℕ) (places : List ℕ) → from ≤ count → ArePlaces from count places → ArePlaces from (count + 1) (places ++ count ∷ [])
places_push from count [] le are = (le, omega arith, tt)
places_push from count (at ∷ places) le are = (are.0, omega (arith, are.1), places_push (at + 1) count places (omega (arith, are.1)) are.2)

place-below : (from count i : ℕ) (places : List ℕ) → ArePlaces from count places → i < length places → get_or places i 0 < count
place-below from count i [] are lt = absurd (omega (arith, lt))
place-below from count zero (at ∷ places) are lt = are.1
place-below from count (suc i) (at ∷ places) are lt = place-below (at + 1) count i places are.2 (omega (arith, lt))

pub in_last : (places : List ℕ) (i : ℕ) → i < length places → In (get_or places i 0) places
in_last [] i lt = absurd (omega (arith, lt))
in_last (x ∷ places) zero lt = inl refl
in_last (x ∷ places) (suc i) lt = inr (in_last places i (omega (arith, lt)))

length-more : {A : Type 0} (ks : List A) (k : A) → length (ks ++ k ∷ []) ≡ length ks + 1
length-more ks k = length-append ks (k ∷ [])

number-more : (ks : List NumberedPunct) (k : NumberedPunct) (cells : List (Option Value)) (at : ℕ) → at < length ks → number_at (ks ++ k ∷ []) cells at ≡ number_at ks cells at
number-more ks k cells at lt = ap (number_in cells) (get-more ks k at lt)

chain-more : (ks : List NumberedPunct) (k : NumberedPunct) (places : List ℕ) → ArePlaces 0 (length ks) places → IsChain ks places → IsChain (ks ++ k ∷ []) places
chain-more ks k places are chain cells i n lt e =
    let r = chain cells i n lt (sym (number-more ks k cells (get_or places i 0) (place-below 0 (length ks) i places are (omega (arith, lt)))) ∙ e) in
    (r.0, number-more ks k cells (get_or places (i + 1) 0) (place-below 0 (length ks) (i + 1) places are lt) ∙ r.1)

chained-more : (ks : List NumberedPunct) (k : NumberedPunct) (places : List ℕ) → IsChained ks places → IsChained (ks ++ k ∷ []) places
chained-more ks k places is = record {
  places_are = subst (λ n. ArePlaces 0 n places) (sym (length-more ks k)) (places-more 0 (length ks) places is.places_are);
  grows = chain-more ks k places is.places_are is.grows;
}

-- the last one covers the punctuation, so nothing changes
pub chain_stays : (kept : List NumberedPunct) (at last : ℕ) (q : NumberedPunct) (places : List ℕ) → at < length kept → q ≡ get_or kept at q → In last places → covers_in (slice_get kept last) q.punct ≡ true → ChainGrew kept at places places
chain_stays kept at last q places lt is h t = record {
  grow = λ a g. g;
  leads = λ k cells e u.
      let same : q ≡ k = some-same q k (sym (there kept at q lt is) ∙ e) in
      (last, h, go (slice_get kept last) refl t cells (ap (λ (y : NumberedPunct). covers y.punct cells) same ∙ u));
  chained = λ ks k e are. subst (λ (xs : List NumberedPunct). IsChained xs places) (sym e) (chained-more ks k places are);
}
  where
    go : (o : Option NumberedPunct) → slice_get kept last ≡ o → covers_in o q.punct ≡ true → (cells : List (Option Value)) → covers q.punct cells ≡ true → IsCoveredAt kept last cells
    go None f v cells own = absurd (cc)
    go (Some j) f v cells own = record { punct = j; there = f; covers_too = covers_through j.punct q.punct cells v own }

-- it is covered by the punctuation, or there is none
abbrev pub IsLast : List NumberedPunct → List ℕ → List Pattern → Type 0
IsLast kept places patterns = (i : ℕ) → i + 1 ≡ length places → covered_in (slice_get kept (get_or places i 0)) patterns ≡ true

covers-here : (kept : List NumberedPunct) (cells : List (Option Value)) (at n : ℕ) (o : Option NumberedPunct) → number_in cells o ≡ Some n → (k : NumberedPunct) × (o ≡ Some k) × (covers k.punct cells ≡ true)
covers-here kept cells at n None e = absurd (cc)
covers-here kept cells at n (Some k) e = go (covers k.punct cells) refl e
  where
    go : (b : Bool) → covers k.punct cells ≡ b → cond b (Some k.number) None ≡ Some n → (j : NumberedPunct) × (Some k ≡ Some j) × (covers j.punct cells ≡ true)
    go true t q = (k, refl, t)
    go false t q = absurd (cc)

chain-push : (ks : List NumberedPunct) (k : NumberedPunct) (places : List ℕ) → ArePlaces 0 (length ks) places → IsChain ks places → IsLast (ks ++ k ∷ []) places k.punct → IsChain (ks ++ k ∷ []) (places ++ length ks ∷ [])
chain-push ks k places are chain last cells i n lt e = elim (cases_lt (i + 1) (length places)) [
  | inl l ↦
      let before : get_or (places ++ length ks ∷ []) i 0 ≡ get_or places i 0 = get_or_append_left places (length ks ∷ []) 0 i (omega (arith, l)) in
      let r = chain-more ks k places are chain cells i n l (ap (number_at (ks ++ k ∷ []) cells) (sym before) ∙ e) in
      (r.0, ap (number_at (ks ++ k ∷ []) cells) (get_or_append_left places (length ks ∷ []) 0 (i + 1) l) ∙ r.1)
  | inr ge ↦
      let count : i + 1 ≡ length places = omega (arith, ge, lt, length-more places (length ks)) in
      let before : get_or (places ++ length ks ∷ []) i 0 ≡ get_or places i 0 = get_or_append_left places (length ks ∷ []) 0 i (omega (arith, count)) in
      let c = covers-here (ks ++ k ∷ []) cells 0 n (slice_get (ks ++ k ∷ []) (get_or places i 0)) (ap (number_at (ks ++ k ∷ []) cells) (sym before) ∙ e) in
      let up : covers_punct k.punct c.0.punct ≡ true = ap (λ (o : Option NumberedPunct). covered_in o k.punct) (sym c.1) ∙ last i count in
      let own : covers k.punct cells ≡ true = covers_through k.punct c.0.punct cells up c.2 in (
        k.number,
        ap (number_at (ks ++ k ∷ []) cells) (ap (λ j. get_or (places ++ length ks ∷ []) j 0) count ∙ seam places (length ks))
            ∙ (ap (number_in cells) (get-last ks k) ∙ ap (λ b. cond b (Some k.number) None) own),
      )
]
  where
    seam : (xs : List ℕ) (x : ℕ) → get_or (xs ++ x ∷ []) (length xs) 0 ≡ x
    seam [] x = refl
    seam (y ∷ xs) x = seam xs x

pub chain_pushes : (kept : List NumberedPunct) (at : ℕ) (q : NumberedPunct) (places new : List ℕ) → at + 1 ≡ length kept → q ≡ get_or kept at q → new ≡ places ++ at ∷ [] → IsLast kept places q.punct → ChainGrew kept at places new
chain_pushes kept at q places new count is to last =
    let lt : at < length kept = omega (arith, count) in
    record {
      grow = λ a g. subst (In a) (sym to) (In-append_left a places (at ∷ []) g);
      leads = λ k cells e u. (at, subst (In at) (sym to) (In-append_right at places (at ∷ []) (inl refl)), record { punct = k; there = e; covers_too = u });
      chained = λ ks k e are.
          let size : at ≡ length ks = omega (arith, count, ap length e, length-more ks k) in
          let own : q ≡ k = some-same q k (sym (there kept at q lt is) ∙ (ap (λ (xs : List NumberedPunct). slice_get xs at) e ∙ (ap (slice_get (ks ++ k ∷ [])) size ∙ get-last ks k))) in
          let ends : IsLast (ks ++ k ∷ []) places k.punct = subst (λ (xs : List NumberedPunct). IsLast xs places k.punct) e (subst (λ (y : NumberedPunct). IsLast kept places y.punct) own last) in
          let all : new ≡ places ++ length ks ∷ [] = to ∙ ap (λ n. places ++ n ∷ []) size in
          subst (λ (xs : List NumberedPunct). IsChained xs new) (sym e) (record {
            places_are = subst (ArePlaces 0 (length (ks ++ k ∷ []))) (sym all) (subst (λ n. ArePlaces 0 n (places ++ length ks ∷ [])) (sym (length-more ks k)) (places_push 0 (length ks) places (omega arith) are.places_are));
            grows = subst (IsChain (ks ++ k ∷ [])) (sym all) (chain-push ks k places are.places_are are.grows ends);
          });
    }

-- a chain of the punctuation alone
pub chain_starts : (kept : List NumberedPunct) (at : ℕ) (q : NumberedPunct) (new : List ℕ) → at + 1 ≡ length kept → q ≡ get_or kept at q → new ≡ at ∷ [] → ChainGrew kept at [] new
chain_starts kept at q new count is to = chain_pushes kept at q [] new count is to (λ i e. absurd (omega (arith, e)))

-- ---- sets

-- one chain of the set is another one
abbrev pub IsChanged : ShapeSet → ShapeSet → ℕ → List ℕ → Type 0
IsChanged old new hash_value chain = (q : ℕ) → numbers_in (get eqb new.chains q) ≡ cond (eqb hash_value q) chain (numbers_in (get eqb old.chains q))

slot-changed : (old new : ShapeSet) (hash_value : ℕ) (chain : List ℕ) (cells : List (Option Value)) → new.marks ≡ old.marks → IsChanged old new hash_value chain
    → slot cells new ≡ cond (eqb hash_value (hash_of old.marks cells)) chain (slot cells old)
slot-changed old new hash_value chain cells marks changed = ap (λ (ms : List Bool). numbers_in (get eqb new.chains (hash_of ms cells))) marks ∙ changed (hash_of old.marks cells)

fits-own : (ps : List Pattern) → fits_marks (map is_constant ps) ps ≡ true
fits-own [] = refl
fits-own (p ∷ ps) = go (is_constant p) refl (fits-own ps)
  where
    go : (b : Bool) → is_constant p ≡ b → fits_marks (map is_constant ps) ps ≡ true → (fits_mark b p && fits_marks (map is_constant ps) ps) ≡ true
    go true e ih = rw e ih
    go false e ih = rw e ih

-- a punctuation has the shape of its own constants
pub fits_here : (kept : List NumberedPunct) (at : ℕ) (q : NumberedPunct) (marks : List Bool) → at < length kept → q ≡ get_or kept at q → marks ≡ map is_constant q.punct → FitsAt kept at marks
fits_here kept at q marks lt is own k e =
    subst (λ (ms : List Bool). fits_marks ms k.punct ≡ true) (sym (own ∙ ap (λ (y : NumberedPunct). map is_constant y.punct) (some-same q k (sym (there kept at q lt is) ∙ e)))) (fits-own k.punct)

pub changed_by : {S : Type 0} (hash_value : ℕ) (old new : IndexMap ℕ (List ℕ) S) (chain : List ℕ) → ((q : ℕ) → get eqb new q ≡ cond (eqb hash_value q) (Some chain) (get eqb old q))
    → (q : ℕ) → numbers_in (get eqb new q) ≡ cond (eqb hash_value q) chain (numbers_in (get eqb old q))
changed_by hash_value old new chain to q = ap numbers_in (to q) ∙ go (eqb hash_value q)
  where
    go : (b : Bool) → numbers_in (cond b (Some chain) (get eqb old q)) ≡ cond b chain (numbers_in (get eqb old q))
    go true = refl
    go false = refl

-- it took the punctuation in where its chain did
pub set_took : (kept : List NumberedPunct) (at hash_value : ℕ) (old new : ShapeSet) (q : NumberedPunct) (chain : List ℕ) (b : Bool) → FitsAt kept at old.marks → at < length kept → q ≡ get_or kept at q
    → hash_value ≡ hash_of old.marks (constants_of q.punct) → new.marks ≡ old.marks → IsChanged old new hash_value chain → ChainTakes kept at (numbers_in (get eqb old.chains hash_value)) chain b → SetTakes kept at old new b
set_took kept at hash_value old new q chain false fits lt is hash_is marks changed same = record { marks = marks; same = λ n. changed n ∙ go n (eqb hash_value n) refl }
  where
    go : (n : ℕ) (b : Bool) → eqb hash_value n ≡ b → cond b chain (numbers_in (get eqb old.chains n)) ≡ numbers_in (get eqb old.chains n)
    go n true e = same ∙ ap (λ m. numbers_in (get eqb old.chains m)) (eqb-true hash_value n e)
    go n false e = refl
set_took kept at hash_value old new q chain true fits lt is hash_is marks changed grew = record {
  grow = λ cells a h. subst (In a) (sym (slot-changed old new hash_value chain cells marks changed)) (keeps a (hash_of old.marks cells) (eqb hash_value (hash_of old.marks cells)) refl h);
  leads = λ k cells e u.
      let same : q ≡ k = some-same q k (sym (there kept at q lt is) ∙ e) in
      let own : covers q.punct cells ≡ true = ap (λ (y : NumberedPunct). covers y.punct cells) same ∙ u in
      let here : eqb hash_value (hash_of old.marks cells) ≡ true = eq-eqb hash_value (hash_of old.marks cells) (hash_is ∙ sym (hash_same old.marks q.punct cells (fits q (there kept at q lt is)) own)) in
      let r = grew.leads k cells e u in
      (r.0, subst (In r.0) (sym (slot-changed old new hash_value chain cells marks changed ∙ ap (λ b. cond b chain (slot cells old)) here)) r.1, r.2);
  chained = λ ks k e are n. subst (IsChained kept) (sym (changed n)) (chains ks k e are n (eqb hash_value n));
}
  where
    keeps : (a n : ℕ) (b : Bool) → eqb hash_value n ≡ b → In a (numbers_in (get eqb old.chains n)) → In a (cond b chain (numbers_in (get eqb old.chains n)))
    keeps a n true e h = grew.grow a (subst (λ m. In a (numbers_in (get eqb old.chains m))) (sym (eqb-true hash_value n e)) h)
    keeps a n false e h = h

    chains : (ks : List NumberedPunct) (k : NumberedPunct) → kept ≡ ks ++ k ∷ [] → AreChained ks old → (n : ℕ) (b : Bool) → IsChained kept (cond b chain (numbers_in (get eqb old.chains n)))
    chains ks k e are n true = grew.chained ks k e (are hash_value)
    chains ks k e are n false = subst (λ (xs : List NumberedPunct). IsChained xs (numbers_in (get eqb old.chains n))) (sym e) (chained-more ks k (numbers_in (get eqb old.chains n)) (are n))

pub set_took_on : {E : Type 0} (kept : List NumberedPunct) (at hash_value : ℕ) (old new : ShapeSet) (q : NumberedPunct) (before chain : List ℕ) (r : Result Bool E) → FitsAt kept at old.marks → at < length kept → q ≡ get_or kept at q
    → hash_value ≡ hash_of old.marks (constants_of q.punct) → new.marks ≡ old.marks → IsChanged old new hash_value chain → before ≡ numbers_in (get eqb old.chains hash_value) → IfOk r (ChainTakes kept at before chain) → IfOk r (SetTakes kept at old new)
set_took_on kept at hash_value old new q before chain (Ok b) fits lt is hash_is marks changed same t =
    set_took kept at hash_value old new q chain b fits lt is hash_is marks changed (subst (λ (ns : List ℕ). ChainTakes kept at ns chain b) same t)
set_took_on kept at hash_value old new q before chain (Err e) fits lt is hash_is marks changed same t = t

set-more : (ks : List NumberedPunct) (k : NumberedPunct) (s : ShapeSet) → AreChained ks s → AreChained (ks ++ k ∷ []) s
set-more ks k s are n = chained-more ks k (numbers_in (get eqb s.chains n)) (are n)

sets-more : (ks : List NumberedPunct) (k : NumberedPunct) (xs : List ShapeSet) → AreSetsChained ks xs → AreSetsChained (ks ++ k ∷ []) xs
sets-more ks k [] are = tt
sets-more ks k (x ∷ xs) are = (set-more ks k x are.0, sets-more ks k xs are.1)

set-stays : (ks : List NumberedPunct) (old new : ShapeSet) → SetStays old new → AreChained ks old → AreChained ks new
set-stays ks old new stays are n = subst (IsChained ks) (sym (stays.same n)) (are n)

slot-stays : (old new : ShapeSet) (cells : List (Option Value)) → SetStays old new → slot cells new ≡ slot cells old
slot-stays old new cells stays = ap (λ (ms : List Bool). numbers_in (get eqb new.chains (hash_of ms cells))) stays.marks ∙ stays.same (hash_of old.marks cells)

in-sets-set : (xs : List ShapeSet) (i : ℕ) (s d : ShapeSet) (cells : List (Option Value)) (a : ℕ) → (In a (slot cells (get_or xs i d)) → In a (slot cells s)) → InSets cells a xs → InSets cells a (set xs i s)
in-sets-set [] i s d cells a f h = h
in-sets-set (x ∷ xs) zero s d cells a f (inl e) = inl (f e)
in-sets-set (x ∷ xs) zero s d cells a f (inr h) = inr h
in-sets-set (x ∷ xs) (suc i) s d cells a f (inl e) = inl e
in-sets-set (x ∷ xs) (suc i) s d cells a f (inr h) = inr (in-sets-set xs i s d cells a f h)

in-sets-here : (xs : List ShapeSet) (i : ℕ) (s : ShapeSet) (cells : List (Option Value)) (a : ℕ) → i < length xs → In a (slot cells s) → InSets cells a (set xs i s)
in-sets-here [] i s cells a lt e = absurd (omega (arith, lt))
in-sets-here (x ∷ xs) zero s cells a lt e = inl e
in-sets-here (x ∷ xs) (suc i) s cells a lt e = inr (in-sets-here xs i s cells a (omega (arith, lt)) e)

in-sets-left : (xs ys : List ShapeSet) (cells : List (Option Value)) (a : ℕ) → InSets cells a xs → InSets cells a (xs ++ ys)
in-sets-left [] ys cells a h = absurd h
in-sets-left (x ∷ xs) ys cells a (inl e) = inl e
in-sets-left (x ∷ xs) ys cells a (inr h) = inr (in-sets-left xs ys cells a h)

in-sets-last : (xs : List ShapeSet) (s : ShapeSet) (cells : List (Option Value)) (a : ℕ) → In a (slot cells s) → InSets cells a (xs ++ s ∷ [])
in-sets-last [] s cells a e = inl e
in-sets-last (x ∷ xs) s cells a e = inr (in-sets-last xs s cells a e)

chained-set : (ks ls : List NumberedPunct) (xs : List ShapeSet) (i : ℕ) (s d : ShapeSet) → i < length xs → ((x : ShapeSet) → AreChained ks x → AreChained ls x) → (AreChained ks (get_or xs i d) → AreChained ls s)
    → AreSetsChained ks xs → AreSetsChained ls (set xs i s)
chained-set ks ls [] i s d lt g f are = absurd (omega (arith, lt))
chained-set ks ls (x ∷ xs) zero s d lt g f are = (f are.0, others xs are.1)
  where
    others : (ys : List ShapeSet) → AreSetsChained ks ys → AreSetsChained ls ys
    others [] is = tt
    others (y ∷ ys) is = (g y is.0, others ys is.1)
chained-set ks ls (x ∷ xs) (suc i) s d lt g f are = (g x are.0, chained-set ks ls xs i s d (omega (arith, lt)) g f are.1)

chained-last : (ks : List NumberedPunct) (xs : List ShapeSet) (s : ShapeSet) → AreSetsChained ks xs → AreChained ks s → AreSetsChained ks (xs ++ s ∷ [])
chained-last ks [] s are is = (is, tt)
chained-last ks (x ∷ xs) s are is = (are.0, chained-last ks xs s are.1 is)

set_stays_among : (xs : List ShapeSet) (i : ℕ) (old new : ShapeSet) → i < length xs → old ≡ get_or xs i old → SetStays old new → SetsStay xs (set xs i new)
set_stays_among xs i old new lt is stays = record {
  grow = λ cells a h. in-sets-set xs i new old cells a (λ g. subst (In a) (sym (slot-stays old new cells stays)) (subst (λ (s : ShapeSet). In a (slot cells s)) (sym is) g)) h;
  chained = λ ks are. chained-set ks ks xs i new old lt (λ x h. h) (λ h. set-stays ks old new stays (subst (AreChained ks) (sym is) h)) are;
}

-- a set of a list took the punctuation in, or not
sets_take : (kept : List NumberedPunct) (at : ℕ) (xs : List ShapeSet) (i : ℕ) (old new : ShapeSet) (b : Bool) → i < length xs → old ≡ get_or xs i old → SetTakes kept at old new b → SetsTake kept at xs (set xs i new) b
sets_take kept at xs i old new false lt is t = set_stays_among xs i old new lt is t
sets_take kept at xs i old new true lt is t = record {
  grow = λ cells a h. in-sets-set xs i new old cells a (λ g. t.grow cells a (subst (λ (s : ShapeSet). In a (slot cells s)) (sym is) g)) h;
  leads = λ k cells e u. let r = t.leads k cells e u in (r.0, in-sets-here xs i new cells r.0 lt r.1, r.2);
  chained = λ ks k e are.
      subst (λ (ys : List NumberedPunct). AreSetsChained ys (set xs i new)) (sym e)
      (chained-set ks (ks ++ k ∷ []) xs i new old lt (λ x h. set-more ks k x h) (λ h. subst (λ (ys : List NumberedPunct). AreChained ys new) e (t.chained ks k e (subst (AreChained ks) (sym is) h))) are);
}

pub sets_take_on : {E : Type 0} (kept : List NumberedPunct) (at : ℕ) (xs : List ShapeSet) (i : ℕ) (old new : ShapeSet) (r : Result Bool E) → i < length xs → old ≡ get_or xs i old → IfOk r (SetTakes kept at old new)
    → IfOk r (SetsTake kept at xs (set xs i new))
sets_take_on kept at xs i old new (Ok b) lt is t = sets_take kept at xs i old new b lt is t
sets_take_on kept at xs i old new (Err e) lt is t = t

pub sets_stay_on : {A E : Type 0} (xs : List ShapeSet) (i : ℕ) (old new : ShapeSet) (r : Result A E) → i < length xs → old ≡ get_or xs i old → OnErr r (SetStays old new) → OnErr r (SetsStay xs (set xs i new))
sets_stay_on xs i old new (Ok a) lt is t = t
sets_stay_on xs i old new (Err e) lt is t = set_stays_among xs i old new lt is t

none-chained : (ks : List NumberedPunct) (s : ShapeSet) → ((n : ℕ) → numbers_in (get eqb s.chains n) ≡ []) → AreChained ks s
none-chained ks s none n = subst (IsChained ks) (sym (none n)) (record { places_are = tt; grows = λ cells i m lt e. absurd (omega (arith, lt)) })

-- a new set did, which had no chain
pub sets_more : (kept : List NumberedPunct) (at : ℕ) (xs : List ShapeSet) (fresh s : ShapeSet) (b : Bool) → ((n : ℕ) → numbers_in (get eqb fresh.chains n) ≡ []) → SetTakes kept at fresh s b → SetsTake kept at xs (xs ++ s ∷ []) b
sets_more kept at xs fresh s false none t = record {
  grow = λ cells a h. in-sets-left xs (s ∷ []) cells a h;
  chained = λ ks are. chained-last ks xs s are (set-stays ks fresh s t (none-chained ks fresh none));
}
sets_more kept at xs fresh s true none t = record {
  grow = λ cells a h. in-sets-left xs (s ∷ []) cells a h;
  leads = λ k cells e u. let r = t.leads k cells e u in (r.0, in-sets-last xs s cells r.0 r.1, r.2);
  chained = λ ks k e are.
      chained-last kept xs s (subst (λ (ys : List NumberedPunct). AreSetsChained ys xs) (sym e) (sets-more ks k xs are)) (t.chained ks k e (none-chained ks fresh none));
}

-- ---- the index

-- what an index that grew needs
pub filed : (kept : List NumberedPunct) (at : ℕ) (old new : Index) → at + 1 ≡ length kept → Grows (IsLedTo old) (IsLedTo new)
    → ((ks : List NumberedPunct) (k : NumberedPunct) → kept ≡ ks ++ k ∷ [] → AreColumns ks old.columns.items → AreLed kept at (IsLedTo new))
    → ((ks : List NumberedPunct) (k : NumberedPunct) → kept ≡ ks ++ k ∷ [] → AreSetsChained ks old.sets.items → AreSetsChained kept new.sets.items)
    → ((ks : List NumberedPunct) (k : NumberedPunct) → kept ≡ ks ++ k ∷ [] → AreColumns ks old.columns.items → AreColumns kept new.columns.items)
    → ((ks : List NumberedPunct) (k : NumberedPunct) → kept ≡ ks ++ k ∷ [] → ArePlaces 0 (length ks) old.rest → ArePlaces 0 (length kept) new.rest) → IsFiled kept old new
filed kept at old new count grow leads chained columned others ks k e above is = record {
  rising = subst AreRising (sym e) (rising-push ks k is.rising above);
  held = λ x h. go x (In-append_cases x ks (k ∷ []) (subst (In x) e h));
  chained = chained ks k e is.chained;
  columned = columned ks k e is.columned;
  others = others ks k e is.others;
}
  where
    last : slice_get kept at ≡ Some k
    last =
        let size : at ≡ length ks = omega (arith, count, ap length e, length-more ks k) in
        ap (λ (xs : List NumberedPunct). slice_get xs at) e ∙ (ap (slice_get (ks ++ k ∷ [])) size ∙ get-last ks k)

    least : (j : NumberedPunct) → In j ks ⊎ In j (k ∷ []) → j.number ≤ k.number
    least j (inl h) = let lt : j.number < k.number = below-all k.number ks j above h in omega (arith, lt)
    least j (inr (inl q)) = omega (arith, ap (λ (y : NumberedPunct). y.number) q)
    least j (inr (inr none)) = absurd none

    go : (x : NumberedPunct) → In x ks ⊎ In x (k ∷ []) → IsHeld kept new x
    go x (inl h) cells t =
        let r = is.held x h cells t in (
          r.0,
          grow cells r.0 r.1,
          record {
            punct = r.2.punct;
            there = ap (λ (xs : List NumberedPunct). slice_get xs r.0) e ∙ (get-more ks k r.0 (within ks r.0 r.2.punct r.2.there) ∙ r.2.there);
            number_is = r.2.number_is;
            covers_too = r.2.covers_too;
          },
        )
    go x (inr (inl q)) cells t =
        let r = leads ks k e is.columned k cells last (ap (λ (y : NumberedPunct). covers y.punct cells) q ∙ t) in (
          r.0,
          r.1,
          record {
            punct = r.2.punct;
            there = r.2.there;
            number_is = subst (λ (y : NumberedPunct). r.2.punct.number ≤ y.number) q (least r.2.punct (In-append_cases r.2.punct ks (k ∷ []) (subst (In r.2.punct) e (in-there kept r.0 r.2.punct r.2.there))));
            covers_too = r.2.covers_too;
          },
        )
    go x (inr (inr none)) cells t = absurd none

stay-chained : (kept : List NumberedPunct) (xs ys : List ShapeSet) → SetsStay xs ys → (ks : List NumberedPunct) (k : NumberedPunct) → kept ≡ ks ++ k ∷ [] → AreSetsChained ks xs → AreSetsChained kept ys
stay-chained kept xs ys stay ks k e are = subst (λ (zs : List NumberedPunct). AreSetsChained zs ys) (sym e) (stay.chained (ks ++ k ∷ []) (sets-more ks k xs are))

pub entries-more : (ks : List NumberedPunct) (k : NumberedPunct) (arity column : ℕ) (es : List Entry) → AreEntries ks arity column es → AreEntries (ks ++ k ∷ []) arity column es
entries-more ks k arity column [] are = tt
entries-more ks k arity column (e ∷ es) are = (
  record { punct = are.0.punct; there = get-more ks k e.place (within ks e.place are.0.punct are.0.there) ∙ are.0.there; alone = are.0.alone },
  entries-more ks k arity column es are.1,
)

pub column-more : (ks : List NumberedPunct) (k : NumberedPunct) (c : ColumnIndex) → IsColumn ks c → IsColumn (ks ++ k ∷ []) c
column-more ks k c is = record { entries = is.entries; answers = is.answers; are = entries-more ks k c.arity c.column is.entries is.are }

pub all-columns-more : (ks : List NumberedPunct) (k : NumberedPunct) (cs : List ColumnIndex) → AreColumns ks cs → AreColumns (ks ++ k ∷ []) cs
all-columns-more ks k [] are = tt
all-columns-more ks k (c ∷ cs) are = (column-more ks k c are.0, all-columns-more ks k cs are.1)

same-columns : (kept : List NumberedPunct) (cs ds : List ColumnIndex) → ds ≡ cs → (ks : List NumberedPunct) (k : NumberedPunct) → kept ≡ ks ++ k ∷ [] → AreColumns ks cs → AreColumns kept ds
same-columns kept cs ds same ks k e are = subst (λ (xs : List NumberedPunct). AreColumns xs ds) (sym e) (subst (AreColumns (ks ++ k ∷ [])) (sym same) (all-columns-more ks k cs are))

same-rest : (kept : List NumberedPunct) (ps qs : List ℕ) → qs ≡ ps → (ks : List NumberedPunct) (k : NumberedPunct) → kept ≡ ks ++ k ∷ [] → ArePlaces 0 (length ks) ps → ArePlaces 0 (length kept) qs
same-rest kept ps qs same ks k e are = subst (λ (xs : List NumberedPunct). ArePlaces 0 (length xs) qs) (sym e) (subst (ArePlaces 0 (length (ks ++ k ∷ []))) (sym same) (subst (λ n. ArePlaces 0 n ps) (sym (length-more ks k)) (places-more 0 (length ks) ps are)))

led-grows : (old new : Index) → Grows (IsInSets old.sets.items) (IsInSets new.sets.items) → Grows (IsInColumns old.columns.items) (IsInColumns new.columns.items) → ((a : ℕ) → In a old.rest → In a new.rest)
    → Grows (IsLedTo old) (IsLedTo new)
led-grows old new f i h cells a (inl s) = inl (f cells a s)
led-grows old new f i h cells a (inr (inl c)) = inr (inl (i cells a c))
led-grows old new f i h cells a (inr (inr r)) = inr (inr (h a r))

columns-same : (cs ds : List ColumnIndex) → ds ≡ cs → Grows (IsInColumns cs) (IsInColumns ds)
columns-same cs ds e cells a h = subst (InColumns cells a) (sym e) h

-- a set took it in
pub filed_in_sets : (kept : List NumberedPunct) (at : ℕ) (old new : Index) → at + 1 ≡ length kept → SetsGrew kept at old.sets.items new.sets.items → new.columns.items ≡ old.columns.items → new.rest ≡ old.rest → IsFiled kept old new
filed_in_sets kept at old new count g columns rest =
    filed kept at old new count (led-grows old new g.grow (columns-same old.columns.items new.columns.items columns) (λ a h. subst (In a) (sym rest) h))
    (λ ks j q are k cells e t. let r = g.leads k cells e t in (r.0, inl r.1, r.2)) g.chained (same-columns kept old.columns.items new.columns.items columns) (same-rest kept old.rest new.rest rest)

-- a column's index did
pub filed_in_columns : (kept : List NumberedPunct) (at : ℕ) (old new : Index) → at + 1 ≡ length kept → SetsStay old.sets.items new.sets.items → ColumnsGrew kept at old.columns.items new.columns.items → new.rest ≡ old.rest
    → IsFiled kept old new
filed_in_columns kept at old new count stay g rest =
    filed kept at old new count (led-grows old new stay.grow g.grow (λ a h. subst (In a) (sym rest) h))
    (λ ks j q are k cells e t. let r = g.leads ks j q are k cells e t in (r.0, inr (inl r.1), r.2)) (stay-chained kept old.sets.items new.sets.items stay) g.columned (same-rest kept old.rest new.rest rest)

-- it stands among the others
pub filed_in_rest : (kept : List NumberedPunct) (at : ℕ) (old new : Index) → at + 1 ≡ length kept → SetsStay old.sets.items new.sets.items → new.columns.items ≡ old.columns.items → new.rest ≡ old.rest ++ at ∷ [] → IsFiled kept old new
filed_in_rest kept at old new count stay columns rest =
    filed kept at old new count (led-grows old new stay.grow (columns-same old.columns.items new.columns.items columns) (λ a h. subst (In a) (sym rest) (In-append_left a old.rest (at ∷ []) h)))
    (λ ks j q are k cells e t. (at, inr (inr (subst (In at) (sym rest) (In-append_right at old.rest (at ∷ []) (inl refl)))), record { punct = k; there = e; covers_too = t }))
    (stay-chained kept old.sets.items new.sets.items stay) (same-columns kept old.columns.items new.columns.items columns)
    (λ ks k e are.
    let size : at ≡ length ks = omega (arith, count, ap length e, length-more ks k) in
    subst (λ (xs : List NumberedPunct). ArePlaces 0 (length xs) new.rest) (sym e)
    (subst (ArePlaces 0 (length (ks ++ k ∷ []))) (sym (rest ∙ ap (λ n. old.rest ++ n ∷ []) size))
    (subst (λ n. ArePlaces 0 n (old.rest ++ length ks ∷ [])) (sym (length-more ks k)) (places_push 0 (length ks) old.rest (omega arith) are))))

-- none did, for want of memory
pub unfiled : (old new : Index) → SetsStay old.sets.items new.sets.items → ColumnsStay old.columns.items new.columns.items → new.rest ≡ old.rest → IsUnfiled old new
unfiled old new sets stay rest ks is = record {
  rising = is.rising;
  held = λ k h cells t.
      let r = is.held k h cells t in
      (r.0, led-grows old new sets.grow stay.grow (λ a g. subst (In a) (sym rest) g) cells r.0 r.1, r.2);
  chained = sets.chained ks is.chained;
  columned = stay.columned ks is.columned;
  others = subst (ArePlaces 0 (length ks)) (sym rest) is.others;
}

pub columns_stay : (cs ds : List ColumnIndex) → ds ≡ cs → ColumnsStay cs ds
columns_stay cs ds e = record { grow = columns-same cs ds e; columned = λ ks are. subst (AreColumns ks) (sym e) are }

pub on_err : {A E : Type 0} (r : Result A E) (P : Type 0) → P → OnErr r P
on_err (Ok a) P p = tt
on_err (Err e) P p = p
