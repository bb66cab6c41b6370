-- Indexes of rows.
use Rattle.std.proofs.Common.{◌≡◌, ◌⊎◌, ℕ, suc, ◌+◌, ◌<◌, ◌≤◌, Bool, true, false, not, cond, List, [], ◌∷◌, ◌++◌, Option, None, Some, inl, inr, length, filter, set, get_or, eqb, refl, ap, sym, ◌∙◌, subst, arith, append-nil, get_or-set_same, get_or-set_other, length-set}
use Rattle.std.specs.List.{All, slice_get}
use Rattle.std.proofs.lemmas.Bool.{cases_eq, cases_lt, eqb-true}
use Rattle.std.proofs.lemmas.List.{get_or_default}
use Rattle.std.proofs.lemmas.List.Elements.{filter-append}
use Rattle.pj_value.specs.Lists.{In}
use Rattle.pj_value.specs.declared.values.Value.{Value}
use Rattle.pj_value.specs.Values.{value_eq}
use Rattle.pj_value.specs.Options.{is_value}
use Rattle.pj_state.specs.Indexes.{AreIndexes, HasFewer, HasMore, HasSame, IsIndexOf, IsIndexed, IsKept, SameBehind, told}
use Rattle.pj_state.specs.Rising.{AllAbove, AllBelow, IsRising, first_with, is_other, itself, without}
use Rattle.pj_state.specs.States.{has_value, rows_with, ticket_of, tickets_of}
use Rattle.pj_state.specs.declared.index.ValueIndex.{ValueIndex}
use Rattle.pj_state.specs.declared.shared.Stored.{Stored}
use Rattle.pj_state.proofs.Rising.{above-weaker, first-push, rising-filter, rising-push, without-above, without-push}

pub below-from-all : (n : ℕ) (rows : List Stored) → All (λ s. s.ticket < n) rows → AllBelow ticket_of n rows
below-from-all n [] h = tt
below-from-all n (s ∷ rows) h = (h 0 s (omega arith), below-from-all n rows (λ k d lt. h (suc k) d (omega (arith, lt))))

pub tickets-append : (xs ys : List Stored) → tickets_of (xs ++ ys) ≡ tickets_of xs ++ tickets_of ys
tickets-append [] ys = refl
tickets-append (x ∷ xs) ys = ap (λ (ts : List ℕ). x.ticket ∷ ts) (tickets-append xs ys)

above-tickets : (n : ℕ) (xs : List Stored) → AllAbove ticket_of n xs → AllAbove itself n (tickets_of xs)
above-tickets n [] h = tt
above-tickets n (x ∷ xs) h = (h.0, above-tickets n xs h.1)

pub rising-tickets : (xs : List Stored) → IsRising ticket_of xs → IsRising itself (tickets_of xs)
rising-tickets [] h = tt
rising-tickets (x ∷ xs) h = (above-tickets x.ticket xs h.0, rising-tickets xs h.1)

-- ---- one row more

pub index-more : (column : ℕ) (rows : List Stored) (old new : ValueIndex) (value : Value) (s : Stored) → slice_get s.row column ≡ Some value → HasMore (told new) (told old) value s.ticket
    → IsIndexOf column rows old → IsIndexOf column (rows ++ s ∷ []) new
index-more column rows old new value s there more h v =
    more v
    ∙ (go (value_eq value v)
    ∙ (ap (λ (ts : List ℕ). ts ++ tickets_of (cond (value_eq value v) (s ∷ []) [])) (h v)
    ∙ (sym (tickets-append (rows_with column v rows) (cond (value_eq value v) (s ∷ []) []))
    ∙ ap tickets_of
    (ap (λ (o : Option Value). rows_with column v rows ++ cond (is_value v o) (s ∷ []) []) (sym there) ∙ sym (filter-append (has_value column v) rows (s ∷ []))))))
  where
    go : (b : Bool) → cond b (told old v ++ s.ticket ∷ []) (told old v) ≡ told old v ++ tickets_of (cond b (s ∷ []) [])
    go true = refl
    go false = sym (append-nil (told old v))

-- ---- one row less

without-with : (p : Stored → Bool) (n : ℕ) (rows : List Stored) → without itself n (tickets_of (filter p rows)) ≡ tickets_of (filter p (without ticket_of n rows))
without-with p n [] = refl
without-with p n (s ∷ rows) = go (p s) (eqb s.ticket n) refl refl (without-with p n rows)
  where
    go : (a b : Bool) → p s ≡ a → eqb s.ticket n ≡ b → without itself n (tickets_of (filter p rows)) ≡ tickets_of (filter p (without ticket_of n rows))
        → without itself n (tickets_of (cond a (s ∷ filter p rows) (filter p rows))) ≡ tickets_of (filter p (cond (not b) (s ∷ without ticket_of n rows) (without ticket_of n rows)))
    go true true ea eb ih = ap (λ b. cond (not b) (s.ticket ∷ without itself n (tickets_of (filter p rows))) (without itself n (tickets_of (filter p rows)))) eb ∙ ih
    go true false ea eb ih =
        ap (λ b. cond (not b) (s.ticket ∷ without itself n (tickets_of (filter p rows))) (without itself n (tickets_of (filter p rows)))) eb
        ∙ (ap (λ (ts : List ℕ). s.ticket ∷ ts) ih ∙ ap (λ b. tickets_of (cond b (s ∷ filter p (without ticket_of n rows)) (filter p (without ticket_of n rows)))) (sym ea))
    go false true ea eb ih = ih
    go false false ea eb ih = ih ∙ ap (λ b. tickets_of (cond b (s ∷ filter p (without ticket_of n rows)) (filter p (without ticket_of n rows)))) (sym ea)

-- where the row with the ticket is passed over anyway
pub without-passed : (p : Stored → Bool) (n : ℕ) (s : Stored) (rows : List Stored) → IsRising ticket_of rows → first_with ticket_of n rows ≡ Some s → p s ≡ false → filter p rows ≡ filter p (without ticket_of n rows)
without-passed p n s [] h e q = refl
without-passed p n s (x ∷ rows) h e q = go (eqb x.ticket n) refl (without-passed p n s rows h.1) e
  where
    go : (b : Bool) → eqb x.ticket n ≡ b → (first_with ticket_of n rows ≡ Some s → p s ≡ false → filter p rows ≡ filter p (without ticket_of n rows)) → cond b (Some x) (first_with ticket_of n rows) ≡ Some s
        → filter p (x ∷ rows) ≡ filter p (cond (not b) (x ∷ without ticket_of n rows) (without ticket_of n rows))
    go true eb ih r =
        let same : x ≡ s = cc in
        ap (λ b. cond b (x ∷ filter p rows) (filter p rows)) (ap p same ∙ q)
        ∙ ap (filter p) (sym (without-above ticket_of n rows (above-weaker ticket_of n x.ticket rows (omega (arith, eqb-true x.ticket n eb)) h.0)))
    go false eb ih r = ap (λ (ys : List Stored). cond (p x) (x ∷ ys) ys) (ih r q)

pub index-less : (column : ℕ) (rows : List Stored) (old new : ValueIndex) (value : Value) (s : Stored) → slice_get s.row column ≡ Some value → IsRising ticket_of rows → first_with ticket_of s.ticket rows ≡ Some s
    → (IsRising itself (told old value) → HasFewer (told new) (told old) value s.ticket) → IsIndexOf column rows old → IsIndexOf column (without ticket_of s.ticket rows) new
index-less column rows old new value s there rising first fewer h v =
    fewer (subst (IsRising itself) (sym (h value)) (rising-tickets (rows_with column value rows) (rising-filter ticket_of (has_value column value) rows rising))) v
    ∙ go (value_eq value v) refl
  where
    go : (b : Bool) → value_eq value v ≡ b → cond b (without itself s.ticket (told old v)) (told old v) ≡ tickets_of (rows_with column v (without ticket_of s.ticket rows))
    go true e = ap (without itself s.ticket) (h v) ∙ without-with (has_value column v) s.ticket rows
    go false e = h v ∙ ap tickets_of (without-passed (has_value column v) s.ticket s rows rising first (ap (is_value v) there ∙ e))

pub index-less-none : (column : ℕ) (rows : List Stored) (old : ValueIndex) (s : Stored) → slice_get s.row column ≡ None → IsRising ticket_of rows → first_with ticket_of s.ticket rows ≡ Some s
    → IsIndexOf column rows old → IsIndexOf column (without ticket_of s.ticket rows) old
index-less-none column rows old s there rising first h v =
    h v ∙ ap tickets_of (without-passed (has_value column v) s.ticket s rows rising first (ap (is_value v) there))

-- ---- lists of indexes

-- the first so many indexes have this row no more, and the others are as before
pub record IsTaken (columns : List ℕ) (old new : List ValueIndex) (at : ℕ) (s : Stored) : Type 0 where
  pub long : length new ≡ length old
  pub others : SameBehind old new at
  pub taken : (rows : List Stored) → IsRising ticket_of rows → first_with ticket_of s.ticket rows ≡ Some s → (k : ℕ) (d : ValueIndex) → k < at → IsIndexOf (get_or columns k 0) rows (get_or old k d)
      → IsIndexOf (get_or columns k 0) (without ticket_of s.ticket rows) (get_or new k d)

-- one index more had its row taken, or never had it
pub taken-more : (columns : List ℕ) (old mid new : List ValueIndex) (at : ℕ) (s : Stored) → IsTaken columns old mid at s → at < length old → length new ≡ length mid
    → ((k : ℕ) (d : ValueIndex) → (k ≡ at → ⊥) → get_or new k d ≡ get_or mid k d)
    → ((rows : List Stored) → IsRising ticket_of rows → first_with ticket_of s.ticket rows ≡ Some s → (d : ValueIndex) → IsIndexOf (get_or columns at 0) rows (get_or mid at d)
    → IsIndexOf (get_or columns at 0) (without ticket_of s.ticket rows) (get_or new at d))
    → IsTaken columns old new (at + 1) s
taken-more columns old mid new at s h lt long apart here = record {
  long = long ∙ h.long;
  others = λ k d le. apart k d (λ e. omega (arith, e, le)) ∙ h.others k d (omega (arith, le));
  taken = λ rows rising first k d more was. go rows rising first k d more was (cases_eq k at);
}
  where
    go : (rows : List Stored) → IsRising ticket_of rows → first_with ticket_of s.ticket rows ≡ Some s → (k : ℕ) (d : ValueIndex) → k < at + 1 → IsIndexOf (get_or columns k 0) rows (get_or old k d) → (k ≡ at) ⊎ (k ≡ at → ⊥)
        → IsIndexOf (get_or columns k 0) (without ticket_of s.ticket rows) (get_or new k d)
    go rows rising first k d more was (inl e) =
        subst (λ j. IsIndexOf (get_or columns j 0) (without ticket_of s.ticket rows) (get_or new j d)) (sym e)
        (here rows rising first d
        (subst (λ (x : ValueIndex). IsIndexOf (get_or columns at 0) rows x) (sym (h.others at d (omega arith)))
        (subst (λ j. IsIndexOf (get_or columns j 0) rows (get_or old j d)) e was)))
    go rows rising first k d more was (inr ne) =
        subst (λ (x : ValueIndex). IsIndexOf (get_or columns k 0) (without ticket_of s.ticket rows) x) (sym (apart k d ne)) (h.taken rows rising first k d (omega (arith, more, ne)) was)

pub taken-put : (columns : List ℕ) (old mid : List ValueIndex) (at : ℕ) (x y : ValueIndex) (value : Value) (s : Stored) → IsTaken columns old mid at s → at < length old → x ≡ get_or mid at x
    → slice_get s.row (get_or columns at 0) ≡ Some value → (IsRising itself (told x value) → HasFewer (told y) (told x) value s.ticket) → IsTaken columns old (set mid at y) (at + 1) s
taken-put columns old mid at x y value s h lt is there fewer =
    taken-more columns old mid (set mid at y) at s h lt (length-set mid at y) (λ k d ne. get_or-set_other mid at k y d ne)
    (λ rows rising first d was. subst (λ (z : ValueIndex). IsIndexOf (get_or columns at 0) (without ticket_of s.ticket rows) z) (sym (get_or-set_same mid at y d within))
    (index-less (get_or columns at 0) rows x y value s there rising first fewer
    (subst (λ (z : ValueIndex). IsIndexOf (get_or columns at 0) rows z) (sym (is ∙ get_or_default mid at x d within)) was)))
  where
    within : at < length mid
    within = omega (arith, lt, h.long)

pub taken-skip : (columns : List ℕ) (old mid : List ValueIndex) (at : ℕ) (s : Stored) → IsTaken columns old mid at s → at < length old → slice_get s.row (get_or columns at 0) ≡ None → IsTaken columns old mid (at + 1) s
taken-skip columns old mid at s h lt there =
    taken-more columns old mid mid at s h lt refl (λ k d ne. refl) (λ rows rising first d was. index-less-none (get_or columns at 0) rows (get_or mid at d) s there rising first was)

-- the first so many indexes have this row too, and the others are as before
pub record IsAdded (columns : List ℕ) (old new : List ValueIndex) (at : ℕ) (s : Stored) : Type 0 where
  pub long : length new ≡ length old
  pub others : SameBehind old new at
  pub added : (rows : List Stored) → (k : ℕ) (d : ValueIndex) → k < at → IsIndexOf (get_or columns k 0) rows (get_or old k d) → IsIndexOf (get_or columns k 0) (rows ++ s ∷ []) (get_or new k d)

pub added-more : (columns : List ℕ) (old mid : List ValueIndex) (at : ℕ) (x y : ValueIndex) (value : Value) (s : Stored) → IsAdded columns old mid at s → at < length old
    → x ≡ get_or mid at x → slice_get s.row (get_or columns at 0) ≡ Some value → HasMore (told y) (told x) value s.ticket → IsAdded columns old (set mid at y) (at + 1) s
added-more columns old mid at x y value s h lt is there more = record {
  long = length-set mid at y ∙ h.long;
  others = λ k d le. apart k d (λ e. omega (arith, e, le)) ∙ h.others k d (omega (arith, le));
  added = λ rows k d less was. go rows k d less was (cases_eq k at);
}
  where
    within : at < length mid
    within = omega (arith, lt, h.long)

    apart : (k : ℕ) (d : ValueIndex) → (k ≡ at → ⊥) → get_or (set mid at y) k d ≡ get_or mid k d
    apart k d ne = get_or-set_other mid at k y d ne

    go : (rows : List Stored) (k : ℕ) (d : ValueIndex) → k < at + 1 → IsIndexOf (get_or columns k 0) rows (get_or old k d) → (k ≡ at) ⊎ (k ≡ at → ⊥) → IsIndexOf (get_or columns k 0) (rows ++ s ∷ []) (get_or (set mid at y) k d)
    go rows k d less was (inl e) =
        subst (λ j. IsIndexOf (get_or columns j 0) (rows ++ s ∷ []) (get_or (set mid at y) j d)) (sym e)
        (subst (λ (z : ValueIndex). IsIndexOf (get_or columns at 0) (rows ++ s ∷ []) z) (sym (get_or-set_same mid at y d within))
        (index-more (get_or columns at 0) rows x y value s there more
        (subst (λ (z : ValueIndex). IsIndexOf (get_or columns at 0) rows z) (sym (is ∙ (get_or_default mid at x d within ∙ h.others at d (omega arith))))
        (subst (λ j. IsIndexOf (get_or columns j 0) rows (get_or old j d)) e was))))
    go rows k d less was (inr ne) = subst (λ (z : ValueIndex). IsIndexOf (get_or columns k 0) (rows ++ s ∷ []) z) (sym (apart k d ne)) (h.added rows k d (omega (arith, less, ne)) was)

-- ---- all of them

pub all-taken : (columns : List ℕ) (old new : List ValueIndex) (count : ℕ) (s : Stored) → IsTaken columns old new count s → (rows : List Stored) → IsRising ticket_of rows → first_with ticket_of s.ticket rows ≡ Some s
    → AreIndexes columns rows old 0 count → AreIndexes columns (without ticket_of s.ticket rows) new 0 count
all-taken columns old new count s h rows rising first was k d low lt = h.taken rows rising first k d lt (was k d low lt)

-- where one index refuses a row, those before it let it go again
pub all-same : (columns : List ℕ) (old mid put new : List ValueIndex) (at : ℕ) (s : Stored) (y : ValueIndex) → IsAdded columns old mid at s → at < length old → (d : ValueIndex) → HasSame (told y) (told (get_or mid at d)) → put ≡ set mid at y
    → length new ≡ length put
    → ((rows : List Stored) → IsRising ticket_of rows → first_with ticket_of s.ticket rows ≡ Some s → AreIndexes columns rows put 0 at → AreIndexes columns (without ticket_of s.ticket rows) new 0 at) → SameBehind put new at
    → (rows : List Stored) → IsRising ticket_of rows → AllBelow ticket_of s.ticket rows → IsIndexed columns rows old → IsIndexed columns rows new
all-same columns old mid put new at s y h lt d same is long taken behind rows rising below was = record {
  count = long ∙ (ap length is ∙ (length-set mid at y ∙ (h.long ∙ was.count)));
  each = λ k e low less. by k e less (within k at);
}
  where
    inside : at < length mid
    inside = omega (arith, lt, h.long)

    apart : (k : ℕ) (e : ValueIndex) → (k ≡ at → ⊥) → get_or put k e ≡ get_or mid k e
    apart k e ne = ap (λ (xs : List ValueIndex). get_or xs k e) is ∙ get_or-set_other mid at k y e ne

    back : AreIndexes columns (without ticket_of s.ticket (rows ++ s ∷ [])) new 0 at
    back = taken (rows ++ s ∷ []) (rising-push ticket_of rows s rising below) (first-push ticket_of s.ticket rows s below refl)
        (λ k e low less. subst (λ (x : ValueIndex). IsIndexOf (get_or columns k 0) (rows ++ s ∷ []) x) (sym (apart k e (λ q. omega (arith, q, less))))
        (h.added rows k e less (was.each k e low (omega (arith, less, lt, was.count)))))

    within : (k i : ℕ) → (k < i) ⊎ (i ≤ k)
    within k i = cases_lt k i

    by : (k : ℕ) (e : ValueIndex) → k < length columns → (k < at) ⊎ (at ≤ k) → IsIndexOf (get_or columns k 0) rows (get_or new k e)
    by k e less (inl p) = subst (λ (xs : List Stored). IsIndexOf (get_or columns k 0) xs (get_or new k e)) (without-push ticket_of s.ticket rows s below refl) (back k e (omega arith) p)
    by k e less (inr q) = subst (λ (x : ValueIndex). IsIndexOf (get_or columns k 0) rows x) (sym (behind k e q)) (here k e less q (cases_eq k at))
      where
        here : (j : ℕ) (g : ValueIndex) → j < length columns → at ≤ j → (j ≡ at) ⊎ (j ≡ at → ⊥) → IsIndexOf (get_or columns j 0) rows (get_or put j g)
        here j g lj le (inl r) =
            subst (λ i. IsIndexOf (get_or columns i 0) rows (get_or put i g)) (sym r)
            (subst (λ (x : ValueIndex). IsIndexOf (get_or columns at 0) rows x) (sym (ap (λ (xs : List ValueIndex). get_or xs at g) is ∙ get_or-set_same mid at y g inside))
            (λ v. same v ∙ subst (λ (x : ValueIndex). told x v ≡ tickets_of (rows_with (get_or columns at 0) v rows)) (sym (h.others at d (omega arith)))
            (was.each at d (omega arith) (omega (arith, lt, was.count)) v)))
        here j g lj le (inr ne) =
            subst (λ (x : ValueIndex). IsIndexOf (get_or columns j 0) rows x) (sym (apart j g ne ∙ h.others j g le)) (was.each j g (omega arith) lj)

-- ---- the whole

pub kept-more : (columns : List ℕ) (rows : List Stored) (old new : List ValueIndex) (s : Stored) → IsKept columns rows old → AllBelow ticket_of s.ticket rows → (IsIndexed columns rows old → IsIndexed columns (rows ++ s ∷ []) new)
    → IsKept columns (rows ++ s ∷ []) new
kept-more columns rows old new s h below more = record { rising = rising-push ticket_of rows s h.rising below; indexed = more h.indexed }

pub kept-less : (columns : List ℕ) (rows : List Stored) (old new : List ValueIndex) (s : Stored) → IsKept columns rows old → first_with ticket_of s.ticket rows ≡ Some s → length new ≡ length old
    → ((rs : List Stored) → IsRising ticket_of rs → first_with ticket_of s.ticket rs ≡ Some s → AreIndexes columns rs old 0 (length columns) → AreIndexes columns (without ticket_of s.ticket rs) new 0 (length columns))
    → IsKept columns (without ticket_of s.ticket rows) new
kept-less columns rows old new s h first long less = record {
  rising = rising-filter ticket_of (is_other ticket_of s.ticket) rows h.rising;
  indexed = record { count = long ∙ h.indexed.count; each = less rows h.rising first h.indexed.each };
}

-- a row that was put in and taken out again changed nothing
pub kept-back : (columns : List ℕ) (rows : List Stored) (old mid new : List ValueIndex) (s : Stored) → IsKept columns rows old → AllBelow ticket_of s.ticket rows → (IsIndexed columns rows old → IsIndexed columns (rows ++ s ∷ []) mid)
    → length new ≡ length mid
    → ((rs : List Stored) → IsRising ticket_of rs → first_with ticket_of s.ticket rs ≡ Some s → AreIndexes columns rs mid 0 (length columns) → AreIndexes columns (without ticket_of s.ticket rs) new 0 (length columns))
    → IsKept columns rows new
kept-back columns rows old mid new s h below more long less =
    subst (λ (xs : List Stored). IsKept columns xs new) (without-push ticket_of s.ticket rows s below refl)
    (kept-less columns (rows ++ s ∷ []) mid new s (kept-more columns rows old mid s h below more) (first-push ticket_of s.ticket rows s below refl) long less)

-- ---- looking for a column

pub column-there : (columns : List ℕ) (column : ℕ) → In column columns → ((k : ℕ) → k < length columns → get_or columns k 0 ≡ column → ⊥) → ⊥
column-there [] column h none = h
column-there (c ∷ columns) column (inl e) none = none 0 (omega arith) e
column-there (c ∷ columns) column (inr h) none = column-there columns column h (λ k lt e. none (suc k) (omega (arith, lt)) e)
