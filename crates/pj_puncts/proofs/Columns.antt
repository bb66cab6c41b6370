-- Punctuations with wildcards in all columns but one, and how their patterns are asked.
use Rattle.std.proofs.Common.{◌≡◌, ℕ, zero, suc, ◌+◌, ◌<◌, Bool, true, false, cond, List, [], ◌∷◌, ◌++◌, Option, Some, None, inl, inr, length, get_or, set, drop, refl, ap, ap₂, sym, ◌∙◌, subst, arith}
use Rattle.std.specs.List.{slice_get}
use Rattle.std.proofs.lemmas.Bool.{and_parts, false≢true}
use Rattle.pj_value.specs.declared.values.Value.{Value}
use Rattle.pj_events.specs.Patterns.{Pattern, all_wild, covers, is_wild, matches_value}
use Rattle.pj_intervals.specs.Intervals.{Answers, Entry, first_place}
use Rattle.pj_puncts.specs.declared.store.NumberedPunct.{NumberedPunct}
use Rattle.pj_puncts.specs.declared.index.ColumnIndex.{ColumnIndex}
use Rattle.pj_puncts.specs.Hashes.{cell_at}
use Rattle.pj_puncts.specs.Indexed.{AreColumns, AreEntries, AreLed, ColumnsGrew, ColumnsStay, Grows, InColumns, IsColumn, IsColumnFor, IsCoveredAt, IsEntry, IsFilled, IsInColumn, IsOfColumn, filled}
use Rattle.pj_puncts.specs.Numbers.{are_wild, first_filled}
use Rattle.pj_puncts.proofs.Alone.{is-wild, wild-is}
use Rattle.pj_puncts.proofs.Filing.{all-columns-more, column-more, entries-more, there}
use Rattle.pj_puncts.proofs.Lookups.{number_under, sound-under}

-- ---- patterns with one that is no wildcard

behind-suc : (p : Pattern) (ps : List Pattern) (c : ℕ) → are_wild (drop (suc c + 1) (p ∷ ps)) ≡ are_wild (drop (c + 1) ps)
behind-suc p ps c = let n : suc c + 1 ≡ suc (c + 1) = omega arith in rw n refl

filled-from : (ps : List Pattern) (d : Pattern) → first_filled ps < length ps → are_wild (drop (first_filled ps + 1) ps) ≡ true
    → (is_wild (get_or ps (first_filled ps) d) ≡ false) × (ps ≡ filled (length ps) (first_filled ps) (get_or ps (first_filled ps) d))
filled-from [] d lt w = absurd (omega (arith, lt))
filled-from (p ∷ ps) d lt w = go (is_wild p) refl lt w (filled-from ps d)
  where
    go : (b : Bool) → is_wild p ≡ b → cond b (suc (first_filled ps)) 0 < suc (length ps) → are_wild (drop (cond b (suc (first_filled ps)) 0 + 1) (p ∷ ps)) ≡ true
        → (first_filled ps < length ps → are_wild (drop (first_filled ps + 1) ps) ≡ true → (is_wild (get_or ps (first_filled ps) d) ≡ false) × (ps ≡ filled (length ps) (first_filled ps) (get_or ps (first_filled ps) d)))
        → (is_wild (get_or (p ∷ ps) (cond b (suc (first_filled ps)) 0) d) ≡ false)
        × (p ∷ ps ≡ filled (suc (length ps)) (cond b (suc (first_filled ps)) 0) (get_or (p ∷ ps) (cond b (suc (first_filled ps)) 0) d))
    go true h less wild ih =
        let r = ih (omega (arith, less)) (sym (behind-suc p ps (first_filled ps)) ∙ wild) in
        (r.0, ap₂ (λ (q : Pattern) (qs : List Pattern). q ∷ qs) (is-wild p h) r.1)
    go false h less wild ih = (h, ap (λ (qs : List Pattern). p ∷ qs) (wild-is ps wild))

pub only_filled_is : (ps : List Pattern) (c : ℕ) → c ≡ first_filled ps → c < length ps → are_wild (drop (c + 1) ps) ≡ true → IsFilled ps c
only_filled_is ps c e lt w =
    let less : first_filled ps < length ps = subst (λ n. n < length ps) e lt in
    let wild : are_wild (drop (first_filled ps + 1) ps) ≡ true = subst (λ n. are_wild (drop (n + 1) ps) ≡ true) e w in
    subst (IsFilled ps) (sym e) (record {
      within = less;
      not_wild = λ d. (filled-from ps d less wild).0;
      filled_is = λ d. (filled-from ps d less wild).1;
    })

-- cells that they cover have a value there, which the pattern matches
pub filled_matched : (arity column : ℕ) (p : Pattern) (cells : List (Option Value)) → column < arity → is_wild p ≡ false → covers (filled arity column p) cells ≡ true
    → (v : Value) × (cell_at cells column ≡ Some v) × (matches_value p v ≡ true)
filled_matched zero column p cells lt w t = absurd (omega (arith, lt))
filled_matched (suc arity) zero p [] lt w t = absurd (false≢true t)
filled_matched (suc arity) zero p (None ∷ cells) lt w t = absurd (false≢true (sym w ∙ (and_parts (is_wild p) (covers (all_wild arity) cells) t).0))
filled_matched (suc arity) zero p (Some v ∷ cells) lt w t = (v, refl, (and_parts (matches_value p v) (covers (all_wild arity) cells) t).0)
filled_matched (suc arity) (suc column) p [] lt w t = absurd (false≢true t)
filled_matched (suc arity) (suc column) p (None ∷ cells) lt w t = filled_matched arity column p cells (omega (arith, lt)) w t
filled_matched (suc arity) (suc column) p (Some v ∷ cells) lt w t = filled_matched arity column p cells (omega (arith, lt)) w t

-- another pattern that matches the value does as well there
filled-covers : (arity column : ℕ) (p q : Pattern) (cells : List (Option Value)) (v : Value) → covers (filled arity column p) cells ≡ true → cell_at cells column ≡ Some v → matches_value q v ≡ true
    → covers (filled arity column q) cells ≡ true
filled-covers zero column p q cells v t e m = t
filled-covers (suc arity) zero p q [] v t e m = t
filled-covers (suc arity) zero p q (None ∷ cells) v t e m = absurd (cc)
filled-covers (suc arity) zero p q (Some w ∷ cells) v t e m =
    let rest : covers (all_wild arity) cells ≡ true = (and_parts (matches_value p w) (covers (all_wild arity) cells) t).1 in
    let own : matches_value q w ≡ true = ap (matches_value q) (some-same w v e) ∙ m in
    rw own rest
  where
    some-same : (a b : Value) → Some a ≡ Some b → a ≡ b
    some-same a b r = cc
filled-covers (suc arity) (suc column) p q [] v t e m = t
filled-covers (suc arity) (suc column) p q (None ∷ cells) v t e m = filled-covers arity column p q cells v t e m
filled-covers (suc arity) (suc column) p q (Some w ∷ cells) v t e m = filled-covers arity column p q cells v t e m

-- ---- entries

entries-last : (kept : List NumberedPunct) (arity column : ℕ) (es : List Entry) (e : Entry) → AreEntries kept arity column es → IsEntry kept arity column e → AreEntries kept arity column (es ++ e ∷ [])
entries-last kept arity column [] e are is = (is, tt)
entries-last kept arity column (x ∷ es) e are is = (are.0, entries-last kept arity column es e are.1 is)

first-stays : (v : Value) (es : List Entry) (e : Entry) (at : ℕ) → first_place v es ≡ Some at → first_place v (es ++ e ∷ []) ≡ Some at
first-stays v [] e at f = absurd (cc)
first-stays v (x ∷ es) e at f = go (matches_value x.pattern v) f (first-stays v es e at)
  where
    go : (b : Bool) → cond b (Some x.place) (first_place v es) ≡ Some at → (first_place v es ≡ Some at → first_place v (es ++ e ∷ []) ≡ Some at) → cond b (Some x.place) (first_place v (es ++ e ∷ [])) ≡ Some at
    go true g ih = g
    go false g ih = ih g

-- the first that the value matches covers the cells that the last covers
first-covers : (kept : List NumberedPunct) (arity column : ℕ) (es : List Entry) (e : Entry) (v : Value) (cells : List (Option Value)) → AreEntries kept arity column (es ++ e ∷ [])
    → covers (filled arity column e.pattern) cells ≡ true → cell_at cells column ≡ Some v → matches_value e.pattern v ≡ true → (at : ℕ) × (first_place v (es ++ e ∷ []) ≡ Some at) × IsCoveredAt kept at cells
first-covers kept arity column [] e v cells are t f m = (
  e.place,
  ap (λ b. cond b (Some e.place) None) m,
  record { punct = are.0.punct; there = are.0.there; covers_too = ap (λ (ps : List Pattern). covers ps cells) are.0.alone ∙ t },
)
first-covers kept arity column (x ∷ es) e v cells are t f m = go (matches_value x.pattern v) refl (first-covers kept arity column es e v cells are.1 t f m)
  where
    go : (b : Bool) → matches_value x.pattern v ≡ b → (at : ℕ) × (first_place v (es ++ e ∷ []) ≡ Some at) × IsCoveredAt kept at cells
        → (at : ℕ) × (cond b (Some x.place) (first_place v (es ++ e ∷ [])) ≡ Some at) × IsCoveredAt kept at cells
    go true h ih = (
      x.place,
      refl,
      record {
        punct = are.0.punct;
        there = are.0.there;
        covers_too = ap (λ (ps : List Pattern). covers ps cells) are.0.alone ∙ filled-covers arity column e.pattern x.pattern cells v t f h;
      },
    )
    go false h ih = ih

-- ---- one column

-- the column's index answers for one pattern more
pub record HasEntry (old new : ColumnIndex) (e : Entry) : Type 0 where
  pub arity_is : new.arity ≡ old.arity
  pub column_is : new.column ≡ old.column
  pub answers : (es : List Entry) → Answers old.patterns es → Answers new.patterns (es ++ e ∷ [])

pub record HasNoMore (old new : ColumnIndex) : Type 0 where
  pub arity_is : new.arity ≡ old.arity
  pub column_is : new.column ≡ old.column
  pub answers : (es : List Entry) → Answers old.patterns es → Answers new.patterns es

column-grows : (old new : ColumnIndex) (e : Entry) → HasEntry old new e → Grows (IsInColumn old) (IsInColumn new)
column-grows old new e h cells at is = record {
  value = is.value;
  entries = is.entries ++ e ∷ [];
  cell = ap (cell_at cells) h.column_is ∙ is.cell;
  answers = h.answers is.entries is.answers;
  first = first-stays is.value is.entries e at is.first;
}

column-stays : (old new : ColumnIndex) → HasNoMore old new → Grows (IsInColumn old) (IsInColumn new)
column-stays old new h cells at is = record {
  value = is.value;
  entries = is.entries;
  cell = ap (cell_at cells) h.column_is ∙ is.cell;
  answers = h.answers is.entries is.answers;
  first = is.first;
}

column-same : (ks : List NumberedPunct) (old new : ColumnIndex) → HasNoMore old new → IsColumn ks old → IsColumn ks new
column-same ks old new h is = record {
  entries = is.entries;
  answers = h.answers is.entries is.answers;
  are = subst (λ n. AreEntries ks n new.column is.entries) (sym h.arity_is) (subst (λ n. AreEntries ks old.arity n is.entries) (sym h.column_is) is.are);
}

-- the last punctuation, by its pattern in the column
pub record IsNew (kept : List NumberedPunct) (arity column : ℕ) (e : Entry) : Type 0 where
  pub entry : IsEntry kept arity column e
  pub within : column < arity
  pub not_wild : is_wild e.pattern ≡ false

pub is_new : (kept : List NumberedPunct) (at : ℕ) (q : NumberedPunct) (ps : List Pattern) (arity column : ℕ) (p : Pattern) → at < length kept → q ≡ get_or kept at q → ps ≡ q.punct → IsFilled ps column → p ≡ get_or ps column p → arity ≡ length ps
    → IsNew kept arity column (record { pattern = p; place = at })
is_new kept at q ps arity column p lt is same filled_there pattern size = record {
  entry = record {
    punct = q;
    there = there kept at q lt is;
    alone = sym same ∙ (filled_there.filled_is p ∙ ap₂ (λ n r. filled n column r) (sym size) (sym pattern));
  };
  within = omega (arith, filled_there.within, size);
  not_wild = ap is_wild pattern ∙ filled_there.not_wild p;
}

-- a column's index that was found is for these columns
pub found_for : (cs ds : List ColumnIndex) (arity column at : ℕ) (c : ColumnIndex) → ds ≡ cs → IsColumnFor ds arity column at → c ≡ get_or cs at c → (at < length cs) × (c.arity ≡ arity) × (c.column ≡ column)
found_for cs ds arity column at c same is there =
    let own : IsColumnFor cs arity column at = subst (λ (xs : List ColumnIndex). IsColumnFor xs arity column at) same is in
    (own.within, ap (λ (x : ColumnIndex). x.arity) there ∙ own.arity_is c, ap (λ (x : ColumnIndex). x.column) there ∙ own.column_is c)

-- of the new column's index
new-entries : (ks : List NumberedPunct) (k : NumberedPunct) (old new : ColumnIndex) (e : Entry) → HasEntry old new e → IsNew (ks ++ k ∷ []) old.arity old.column e → (is : IsColumn ks old)
    → AreEntries (ks ++ k ∷ []) new.arity new.column (is.entries ++ e ∷ [])
new-entries ks k old new e h n is =
    let more = entries-last (ks ++ k ∷ []) old.arity old.column is.entries e (entries-more ks k old.arity old.column is.entries is.are) n.entry in
    subst (λ m. AreEntries (ks ++ k ∷ []) m new.column (is.entries ++ e ∷ [])) (sym h.arity_is) (subst (λ m. AreEntries (ks ++ k ∷ []) old.arity m (is.entries ++ e ∷ [])) (sym h.column_is) more)

column-took : (ks : List NumberedPunct) (k : NumberedPunct) (old new : ColumnIndex) (e : Entry) → HasEntry old new e → IsNew (ks ++ k ∷ []) old.arity old.column e → IsColumn ks old → IsColumn (ks ++ k ∷ []) new
column-took ks k old new e h n is = record { entries = is.entries ++ e ∷ []; answers = h.answers is.entries is.answers; are = new-entries ks k old new e h n is }

column-leads : (ks : List NumberedPunct) (k : NumberedPunct) (at : ℕ) (old new : ColumnIndex) (e : Entry) → HasEntry old new e → IsNew (ks ++ k ∷ []) old.arity old.column e → e.place ≡ at → IsColumn ks old
    → AreLed (ks ++ k ∷ []) at (IsInColumn new)
column-leads ks k at old new e h n place is j cells f t =
    let same : n.entry.punct ≡ j = some-same n.entry.punct j (sym n.entry.there ∙ (ap (slice_get (ks ++ k ∷ [])) place ∙ f)) in
    let own : covers (filled old.arity old.column e.pattern) cells ≡ true = ap (λ (ps : List Pattern). covers ps cells) (sym n.entry.alone) ∙ (ap (λ (y : NumberedPunct). covers y.punct cells) same ∙ t) in
    let m = filled_matched old.arity old.column e.pattern cells n.within n.not_wild own in
    let are = entries-last (ks ++ k ∷ []) old.arity old.column is.entries e (entries-more ks k old.arity old.column is.entries is.are) n.entry in
    let r = first-covers (ks ++ k ∷ []) old.arity old.column is.entries e m.0 cells are own m.1 m.2 in (
      r.0,
      record { value = m.0; entries = is.entries ++ e ∷ []; cell = ap (cell_at cells) h.column_is ∙ m.1; answers = h.answers is.entries is.answers; first = r.1 },
      r.2,
    )
  where
    some-same : (a b : NumberedPunct) → Some a ≡ Some b → a ≡ b
    some-same a b q = cc

-- ---- all columns

in-columns-set : (cs : List ColumnIndex) (i : ℕ) (c d : ColumnIndex) (cells : List (Option Value)) (a : ℕ) → (IsInColumn (get_or cs i d) cells a → IsInColumn c cells a) → InColumns cells a cs → InColumns cells a (set cs i c)
in-columns-set [] i c d cells a f h = h
in-columns-set (x ∷ cs) zero c d cells a f (inl e) = inl (f e)
in-columns-set (x ∷ cs) zero c d cells a f (inr h) = inr h
in-columns-set (x ∷ cs) (suc i) c d cells a f (inl e) = inl e
in-columns-set (x ∷ cs) (suc i) c d cells a f (inr h) = inr (in-columns-set cs i c d cells a f h)

in-columns-here : (cs : List ColumnIndex) (i : ℕ) (c : ColumnIndex) (cells : List (Option Value)) (a : ℕ) → i < length cs → IsInColumn c cells a → InColumns cells a (set cs i c)
in-columns-here [] i c cells a lt h = absurd (omega (arith, lt))
in-columns-here (x ∷ cs) zero c cells a lt h = inl h
in-columns-here (x ∷ cs) (suc i) c cells a lt h = inr (in-columns-here cs i c cells a (omega (arith, lt)) h)

in-columns-left : (cs ds : List ColumnIndex) (cells : List (Option Value)) (a : ℕ) → InColumns cells a cs → InColumns cells a (cs ++ ds)
in-columns-left [] ds cells a h = absurd h
in-columns-left (c ∷ cs) ds cells a (inl e) = inl e
in-columns-left (c ∷ cs) ds cells a (inr h) = inr (in-columns-left cs ds cells a h)

in-columns-last : (cs : List ColumnIndex) (c : ColumnIndex) (cells : List (Option Value)) (a : ℕ) → IsInColumn c cells a → InColumns cells a (cs ++ c ∷ [])
in-columns-last [] c cells a h = inl h
in-columns-last (x ∷ cs) c cells a h = inr (in-columns-last cs c cells a h)

columns-set : (ks : List NumberedPunct) (cs : List ColumnIndex) (i : ℕ) (c d : ColumnIndex) → (IsColumn ks (get_or cs i d) → IsColumn ks c) → AreColumns ks cs → AreColumns ks (set cs i c)
columns-set ks [] i c d f are = tt
columns-set ks (x ∷ cs) zero c d f are = (f are.0, are.1)
columns-set ks (x ∷ cs) (suc i) c d f are = (are.0, columns-set ks cs i c d f are.1)

columns-set-more : (ks : List NumberedPunct) (k : NumberedPunct) (cs : List ColumnIndex) (i : ℕ) (c d : ColumnIndex) → (IsColumn ks (get_or cs i d) → IsColumn (ks ++ k ∷ []) c) → AreColumns ks cs → AreColumns (ks ++ k ∷ []) (set cs i c)
columns-set-more ks k [] i c d f are = tt
columns-set-more ks k (x ∷ cs) zero c d f are = (f are.0, all-columns-more ks k cs are.1)
columns-set-more ks k (x ∷ cs) (suc i) c d f are = (column-more ks k x are.0, columns-set-more ks k cs i c d f are.1)

columns-last : (ks : List NumberedPunct) (cs : List ColumnIndex) (c : ColumnIndex) → AreColumns ks cs → IsColumn ks c → AreColumns ks (cs ++ c ∷ [])
columns-last ks [] c are is = (is, tt)
columns-last ks (x ∷ cs) c are is = (are.0, columns-last ks cs c are.1 is)

column-of : (ks : List NumberedPunct) (cs : List ColumnIndex) (i : ℕ) (d : ColumnIndex) → i < length cs → AreColumns ks cs → IsColumn ks (get_or cs i d)
column-of ks [] i d lt are = absurd (omega (arith, lt))
column-of ks (c ∷ cs) zero d lt are = are.0
column-of ks (c ∷ cs) (suc i) d lt are = column-of ks cs i d (omega (arith, lt)) are.1

-- one of them took the punctuation in
pub columns_took : (kept : List NumberedPunct) (at : ℕ) (cs : List ColumnIndex) (i : ℕ) (old new : ColumnIndex) (e : Entry) → i < length cs → old ≡ get_or cs i old → HasEntry old new e → IsNew kept old.arity old.column e → e.place ≡ at
    → ColumnsGrew kept at cs (set cs i new)
columns_took kept at cs i old new e lt is h n place = record {
  grow = λ cells a g. in-columns-set cs i new old cells a (λ x. column-grows old new e h cells a (subst (λ (c : ColumnIndex). IsInColumn c cells a) (sym is) x)) g;
  leads = λ ks k q are j cells f t.
      let own : IsNew (ks ++ k ∷ []) old.arity old.column e = subst (λ (xs : List NumberedPunct). IsNew xs old.arity old.column e) q n in
      let r = column-leads ks k at old new e h own place (subst (IsColumn ks) (sym is) (column-of ks cs i old lt are)) j cells (ap (λ (xs : List NumberedPunct). slice_get xs at) (sym q) ∙ f) t in
      (r.0, in-columns-here cs i new cells r.0 lt r.1, subst (λ (xs : List NumberedPunct). IsCoveredAt xs r.0 cells) (sym q) r.2);
  columned = λ ks k q are.
      let own : IsNew (ks ++ k ∷ []) old.arity old.column e = subst (λ (xs : List NumberedPunct). IsNew xs old.arity old.column e) q n in
      subst (λ (xs : List NumberedPunct). AreColumns xs (set cs i new)) (sym q)
      (columns-set-more ks k cs i new old (λ x. column-took ks k old new e h own (subst (IsColumn ks) (sym is) x)) are);
}

-- a new one did
pub columns_more : (kept : List NumberedPunct) (at : ℕ) (cs : List ColumnIndex) (old new : ColumnIndex) (e : Entry) → Answers old.patterns [] → HasEntry old new e → IsNew kept old.arity old.column e → e.place ≡ at
    → ColumnsGrew kept at cs (cs ++ new ∷ [])
columns_more kept at cs old new e none h n place = record {
  grow = λ cells a g. in-columns-left cs (new ∷ []) cells a g;
  leads = λ ks k q are j cells f t.
      let own : IsNew (ks ++ k ∷ []) old.arity old.column e = subst (λ (xs : List NumberedPunct). IsNew xs old.arity old.column e) q n in
      let r = column-leads ks k at old new e h own place (record { entries = []; answers = none; are = tt }) j cells (ap (λ (xs : List NumberedPunct). slice_get xs at) (sym q) ∙ f) t in
      (r.0, in-columns-last cs new cells r.0 r.1, subst (λ (xs : List NumberedPunct). IsCoveredAt xs r.0 cells) (sym q) r.2);
  columned = λ ks k q are.
      let own : IsNew (ks ++ k ∷ []) old.arity old.column e = subst (λ (xs : List NumberedPunct). IsNew xs old.arity old.column e) q n in
      subst (λ (xs : List NumberedPunct). AreColumns xs (cs ++ new ∷ [])) (sym q)
      (columns-last (ks ++ k ∷ []) cs new (all-columns-more ks k cs are) (column-took ks k old new e h own (record { entries = []; answers = none; are = tt })));
}

-- one of them could not
pub columns_stayed : (cs : List ColumnIndex) (i : ℕ) (old new : ColumnIndex) → old ≡ get_or cs i old → HasNoMore old new → ColumnsStay cs (set cs i new)
columns_stayed cs i old new is h = record {
  grow = λ cells a g. in-columns-set cs i new old cells a (λ x. column-stays old new h cells a (subst (λ (c : ColumnIndex). IsInColumn c cells a) (sym is) x)) g;
  columned = λ ks are. columns-set ks cs i new old (λ x. column-same ks old new h (subst (IsColumn ks) (sym is) x)) are;
}

-- ---- what a column's index leads to

module _ (kept : List NumberedPunct) (cells : List (Option Value)) (c : ColumnIndex) where
  pub of_cell : (v : Value) (found n : Option ℕ) → Some v ≡ cell_at cells c.column → ((es : List Entry) → Answers c.patterns es → found ≡ first_place v es) → n ≡ number_under kept cells found → IsOfColumn kept cells c n
  of_cell v found n e f to = record {
    sound = λ m q. sound-under kept cells found m (sym to ∙ q);
    leads = λ at is.
        let same : v ≡ is.value = some-same v is.value (e ∙ is.cell) in
        let here : found ≡ Some at = f is.entries is.answers ∙ (ap (λ (w : Value). first_place w is.entries) same ∙ is.first) in
        to ∙ ap (number_under kept cells) here;
  }
    where
      some-same : (a b : Value) → Some a ≡ Some b → a ≡ b
      some-same a b q = cc
