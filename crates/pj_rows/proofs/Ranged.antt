-- Rows that are found by a range of integers.
use Rattle.std.proofs.Common.{ℕ, zero, suc, Bool, true, false, not, ◌&&◌, ◌||◌, List, [], ◌∷◌, ◌++◌, ◌≡◌, ◌⊎◌, inl, inr, Option, Some, None, filter, refl, sym, ap, subst, ◌∙◌, ℤ, pos, ◌+ℤ◌, ◌≤ℤ◌, ◌<ℤ◌, arith}
use Rattle.std.specs.List.{list_any, slice_get}
use Rattle.std.specs.Ordering.{MatchOrdering, int_cmp, is_gt}
use Rattle.std.specs.Cmp.{int_ranks}
use Rattle.std.specs.declared.cmp.Ordering.{Ordering}
use Rattle.std.specs.declared.cmp.Ordering.TheVariants.{Less, Equal, Greater}
use Rattle.std.proofs.lemmas.Bool.{and_parts, false_from_ne_true, false≢true}
use Rattle.std.proofs.lemmas.Int.{ints}
use Rattle.pj_value.specs.declared.values.Value.{Value}
use Rattle.pj_value.specs.declared.values.Value.TheVariants.{Int, Text}
use Rattle.pj_value.proofs.Members.{In-filter_from, In-map_from, any_at}
use Rattle.pj_value.proofs.Orders.{equal_itself}
use Rattle.pj_value.specs.Options.{is_value}
use Rattle.pj_pattern.specs.declared.pattern.Form.TheVariants.{Range}
use Rattle.pj_pattern.specs.Patterns.{up_to}
use Rattle.pj_events.specs.Patterns.{Pattern, matches_row, matches_value}
use Rattle.pj_events.specs.Join.{In, has}
use Rattle.pj_state.specs.declared.shared.Stored.{Stored}
use Rattle.pj_state.specs.States.{has_value, rows_with, ticket_of, tickets_of}
use Rattle.pj_state.specs.Ordered.{HasNumber, IsFrom, IsUpTo, NoneAbove, NoneBetween}
use Rattle.pj_rows.specs.declared.ranges.Numbers.{Numbers}
use Rattle.pj_rows.specs.Finding.{has_match, is_match, stays, still_held}
use Rattle.pj_rows.specs.Ranges.{HasAmong, HoldAll, HoldTrue, IsAmong, IsBefore, IsBehind, MatchesAmong, NeedsAmong, NoneStays}

-- ---- what a range of integers matches

-- an integer that is not above another one is at most that
up-int : (a b : ℤ) → up_to (Int a) (Int b) ≡ true → a ≤ℤ b
up-int a b t = go (int_cmp a b) (int_ranks a b) t
  where
    go : (o : Ordering) → MatchOrdering o (a <ℤ b) (a ≡ b) (b <ℤ a) → (true && not (is_gt o)) ≡ true → a ≤ℤ b
    go Less m u = omega (arith, ints, m)
    go Equal m u = omega (arith, ints, m)
    go Greater m u = absurd (false≢true u)

pub up_matches : (from : ℤ) → MatchesAmong (Range (Some (Int from)) None) (record { low = Some from; high = None })
up_matches from (Int n) t = (n, refl, (up-int from n (and_parts _ true t).0, tt))
up_matches from (Text bytes) t = absurd (false≢true t)

pub down_matches : (to : ℤ) → MatchesAmong (Range None (Some (Int to))) (record { low = None; high = Some to })
down_matches to (Int n) t = (n, refl, (tt, up-int n to t))
down_matches to (Text bytes) t = absurd (false≢true t)

pub both_match : (from to : ℤ) → MatchesAmong (Range (Some (Int from)) (Some (Int to))) (record { low = Some from; high = Some to })
both_match from to (Int n) t = let both = and_parts _ _ t in (n, refl, (up-int from n both.0, up-int n to both.1))
both_match from to (Text bytes) t = absurd (false≢true t)

-- a row that matches has one of the integers where the pattern of the column needs one
pub needs_among : (ps : List Pattern) (column : ℕ) (p : Pattern) (numbers : Numbers) → slice_get ps column ≡ Some p → MatchesAmong p numbers → NeedsAmong ps column numbers
needs_among [] column p numbers at matches row t = absurd (cc)
needs_among (q ∷ ps) column p numbers at matches [] t = absurd (false≢true t)
needs_among (q ∷ ps) zero p numbers at matches (w ∷ row) t =
    let found = matches w (ap (λ (r : Pattern). matches_value r w) (first at) ∙ (and_parts (matches_value q w) (matches_row ps row) t).0) in
    (found.0, ap (λ (v : Value). Some v) found.1, found.2)
  where
    first : Some q ≡ Some p → p ≡ q
    first e = cc
needs_among (q ∷ ps) (suc column) p numbers at matches (w ∷ row) t = needs_among ps column p numbers at matches row (and_parts (matches_value q w) (matches_row ps row) t).1

-- ---- from one integer to the next

-- an integer is one from a place on or not
from-or-not : (from : Option ℤ) (n : ℤ) → IsFrom from n ⊎ (IsFrom from n → ⊥)
from-or-not None n = inl tt
from-or-not (Some from) n = go (int_cmp from n) (int_ranks from n)
  where
    go : (o : Ordering) → MatchOrdering o (from <ℤ n) (from ≡ n) (n <ℤ from) → (from ≤ℤ n) ⊎ (from ≤ℤ n → ⊥)
    go Less m = inl (omega (arith, ints, m))
    go Equal m = inl (omega (arith, ints, m))
    go Greater m = inr (λ h. omega (arith, ints, m, h))

-- what stands before the place behind the least one: it, or what stands before that
before-or-it : (column : ℕ) (low from : Option ℤ) (next behind : ℤ) (rows : List Stored) (s : Stored) → behind ≡ next +ℤ pos 1 → NoneBetween column from next rows → In s rows → IsBefore column low (Some behind) s
    → HasNumber column next s ⊎ IsBefore column low from s
before-or-it column low from next behind rows s one none h (n, at, above, not-behind) = go (from-or-not from n)
  where
    go : IsFrom from n ⊎ (IsFrom from n → ⊥) → HasNumber column next s ⊎ IsBefore column low from s
    go (inl f) =
        let least : next ≤ℤ n = none s n h at f in
        let same : n ≡ next = rank (int_cmp n next) (int_ranks n next) least in
        inl (subst (λ k. HasNumber column k s) same at)
      where
        rank : (o : Ordering) → MatchOrdering o (n <ℤ next) (n ≡ next) (next <ℤ n) → next ≤ℤ n → n ≡ next
        rank Less m l = absurd (omega (arith, ints, m, l))
        rank Equal m l = m
        rank Greater m l = absurd (not-behind (omega (arith, ints, m, one)))
    go (inr f) = inr (n, at, above, f)

none-before : (column : ℕ) (low : Option ℤ) (s : Stored) → IsBefore column low low s → ⊥
none-before column low s (n, at, above, not-above) = not-above above

-- none of these integers is left from the place on: each stands before it
among-before : (column : ℕ) (numbers left : Numbers) (rows : List Stored) (s : Stored) → left.high ≡ numbers.high
    → ((s : Stored) (n : ℤ) → In s rows → HasNumber column n s → IsAmong left n → ⊥) → In s rows → HasAmong column numbers s → IsBefore column numbers.low left.low s
among-before column numbers left rows s same none h (n, at, among) = (n, at, among.0, λ f. none s n h at (f, subst (λ (end : Option ℤ). IsUpTo end n) (sym same) among.1))

has-number : (column : ℕ) (n : ℤ) (s : Stored) → HasNumber column n s → has_value column (Int n) s ≡ true
has-number column n s at = ap (is_value (Int n)) at ∙ equal_itself (Int n)

-- ---- from one integer down to the next

-- an integer is one up to a place or not
up-or-not : (to : Option ℤ) (n : ℤ) → IsUpTo to n ⊎ (IsUpTo to n → ⊥)
up-or-not None n = inl tt
up-or-not (Some to) n = go (int_cmp n to) (int_ranks n to)
  where
    go : (o : Ordering) → MatchOrdering o (n <ℤ to) (n ≡ to) (to <ℤ n) → (n ≤ℤ to) ⊎ (n ≤ℤ to → ⊥)
    go Less m = inl (omega (arith, ints, m))
    go Equal m = inl (omega (arith, ints, m))
    go Greater m = inr (λ h. omega (arith, ints, m, h))

-- what stands behind the place before the greatest one: it, or what stands behind that
behind-or-it : (column : ℕ) (high to : Option ℤ) (last before : ℤ) (rows : List Stored) (s : Stored) → before +ℤ pos 1 ≡ last → NoneAbove column to last rows → In s rows → IsBehind column high (Some before) s
    → HasNumber column last s ⊎ IsBehind column high to s
behind-or-it column high to last before rows s one none h (n, at, below, not-before) = go (up-or-not to n)
  where
    go : IsUpTo to n ⊎ (IsUpTo to n → ⊥) → HasNumber column last s ⊎ IsBehind column high to s
    go (inl f) =
        let greatest : n ≤ℤ last = none s n h at f in
        let same : n ≡ last = rank (int_cmp n last) (int_ranks n last) greatest in
        inl (subst (λ k. HasNumber column k s) same at)
      where
        rank : (o : Ordering) → MatchOrdering o (n <ℤ last) (n ≡ last) (last <ℤ n) → n ≤ℤ last → n ≡ last
        rank Less m l = absurd (not-before (omega (arith, ints, m, one)))
        rank Equal m l = m
        rank Greater m l = absurd (omega (arith, ints, m, l))
    go (inr f) = inr (n, at, below, f)

none-behind : (column : ℕ) (high : Option ℤ) (s : Stored) → IsBehind column high high s → ⊥
none-behind column high s (n, at, below, not-below) = not-below below

-- none of these integers is left up to the place: each stands behind it
among-behind : (column : ℕ) (numbers left : Numbers) (rows : List Stored) (s : Stored) → left.low ≡ numbers.low
    → ((s : Stored) (n : ℤ) → In s rows → HasNumber column n s → IsAmong left n → ⊥) → In s rows → HasAmong column numbers s → IsBehind column numbers.high left.high s
among-behind column numbers left rows s same none h (n, at, among) = (n, at, among.1, λ f. none s n h at (subst (λ (end : Option ℤ). IsFrom end n) (sym same) among.0, f))

-- ---- the tickets of rows

in-front : (t : ℕ) (xs ys : List ℕ) → In t xs → In t (xs ++ ys)
in-front t [] ys h = absurd h
in-front t (x ∷ xs) ys (inl e) = inl e
in-front t (x ∷ xs) ys (inr h) = inr (in-front t xs ys h)

in-behind : (t : ℕ) (xs ys : List ℕ) → In t ys → In t (xs ++ ys)
in-behind t [] ys h = h
in-behind t (x ∷ xs) ys h = inr (in-behind t xs ys h)

pub hold_more : (column : ℕ) (low from : Option ℤ) (next behind : ℤ) (rows : List Stored) (old new : List ℕ) → behind ≡ next +ℤ pos 1
    → HoldAll (IsBefore column low from) rows old → NoneBetween column from next rows → new ≡ old ++ tickets_of (rows_with column (Int next) rows) → HoldAll (IsBefore column low (Some behind)) rows new
hold_more column low from next behind rows old new one hold none are s h before =
    subst (λ (ts : List ℕ). In s.ticket ts) (sym are) (go (before-or-it column low from next behind rows s one none h before))
  where
    go : HasNumber column next s ⊎ IsBefore column low from s → In s.ticket (old ++ tickets_of (rows_with column (Int next) rows))
    go (inl at) = in-behind s.ticket old _ (In-map_from ticket_of s (rows_with column (Int next) rows) (In-filter_from (has_value column (Int next)) s rows h (has-number column next s at)))
    go (inr b) = in-front s.ticket old _ (hold s h b)

pub hold_all : (column : ℕ) (numbers left : Numbers) (rows : List Stored) (tickets : List ℕ) → HoldAll (IsBefore column numbers.low left.low) rows tickets → left.high ≡ numbers.high
    → ((s : Stored) (n : ℤ) → In s rows → HasNumber column n s → IsAmong left n → ⊥) → HoldAll (HasAmong column numbers) rows tickets
hold_all column numbers left rows tickets hold same none s h among = hold s h (among-before column numbers left rows s same none h among)

-- ---- a row that stays

none-of : {A : Type 0} (p : A → Bool) (xs : List A) (x : A) → list_any p xs ≡ false → In x xs → p x ≡ false
none-of p [] x e h = absurd h
none-of {A} p (y ∷ xs) x e h = go (p y) refl e h (none-of p xs x)
  where
    go : (b : Bool) → p y ≡ b → (b || list_any p xs) ≡ false → In x (y ∷ xs) → (list_any p xs ≡ false → In x xs → p x ≡ false) → p x ≡ false
    go true f n i rest = absurd (false≢true (sym n))
    go false f n (inl i) rest = ap p (sym i) ∙ f
    go false f n (inr i) rest = rest n i

-- where none of the first kind stays, and none with this integer, none of a kind does that has the integer or is of the first kind
stay-with : (P Q : Stored → Type 0) (column : ℕ) (n : ℤ) (rows : List Stored) (gone : List ℕ) (ps : List Pattern) → NoneStays P rows gone ps → ((s : Stored) → In s rows → Q s → HasNumber column n s ⊎ P s)
    → still_held (rows_with column (Int n) rows) gone ps ≡ false → NoneStays Q rows gone ps
stay-with P Q column n rows gone ps stay which held s h q = go (which s h q)
  where
    go : HasNumber column n s ⊎ P s → stays gone ps s ≡ false
    go (inl at) = none-of (stays gone ps) (rows_with column (Int n) rows) s held (In-filter_from (has_value column (Int n)) s rows h (has-number column n s at))
    go (inr p) = stay s h p

-- where none of the kind stays, and each row that has one of the integers is of it, none stays
stay-all : (P : Stored → Type 0) (column : ℕ) (numbers : Numbers) (rows : List Stored) (gone : List ℕ) (ps : List Pattern) → NeedsAmong ps column numbers → NoneStays P rows gone ps
    → ((s : Stored) → In s rows → HasAmong column numbers s → P s) → still_held rows gone ps ≡ false
stay-all P column numbers rows gone ps needs stay are = false_from_ne_true (still_held rows gone ps) no
  where
    no : still_held rows gone ps ≡ true → ⊥
    no t =
        let found = any_at (stays gone ps) rows t in
        let among = needs found.0.row (and_parts (matches_row ps found.0.row) (not (has gone found.0.ticket)) found.2).0 in
        false≢true (sym (stay found.0 found.1 (are found.0 found.1 (among.0, among.1, among.2))) ∙ found.2)

pub stay_more : (column : ℕ) (low from : Option ℤ) (next behind : ℤ) (rows : List Stored) (gone : List ℕ) (ps : List Pattern) → behind ≡ next +ℤ pos 1
    → NoneStays (IsBefore column low from) rows gone ps → NoneBetween column from next rows → still_held (rows_with column (Int next) rows) gone ps ≡ false → NoneStays (IsBefore column low (Some behind)) rows gone ps
stay_more column low from next behind rows gone ps one stay none = stay-with (IsBefore column low from) (IsBefore column low (Some behind)) column next rows gone ps stay (λ s h. before-or-it column low from next behind rows s one none h)

pub stay_less : (column : ℕ) (high to : Option ℤ) (last before : ℤ) (rows : List Stored) (gone : List ℕ) (ps : List Pattern) → before +ℤ pos 1 ≡ last
    → NoneStays (IsBehind column high to) rows gone ps → NoneAbove column to last rows → still_held (rows_with column (Int last) rows) gone ps ≡ false → NoneStays (IsBehind column high (Some before)) rows gone ps
stay_less column high to last before rows gone ps one stay none = stay-with (IsBehind column high to) (IsBehind column high (Some before)) column last rows gone ps stay (λ s h. behind-or-it column high to last before rows s one none h)

-- where none stays before the place, and none of the integers is left from it on, none stays
pub stay_none : (column : ℕ) (numbers left : Numbers) (rows : List Stored) (gone : List ℕ) (ps : List Pattern) → NeedsAmong ps column numbers → NoneStays (IsBefore column numbers.low left.low) rows gone ps → left.high ≡ numbers.high
    → ((s : Stored) (n : ℤ) → In s rows → HasNumber column n s → IsAmong left n → ⊥) → still_held rows gone ps ≡ false
stay_none column numbers left rows gone ps needs stay same none = stay-all (IsBefore column numbers.low left.low) column numbers rows gone ps needs stay (λ s h. among-before column numbers left rows s same none h)

-- the same where none stays behind the place, and none of the integers is left up to it
pub stay_none_down : (column : ℕ) (numbers left : Numbers) (rows : List Stored) (gone : List ℕ) (ps : List Pattern) → NeedsAmong ps column numbers → NoneStays (IsBehind column numbers.high left.high) rows gone ps → left.low ≡ numbers.low
    → ((s : Stored) (n : ℤ) → In s rows → HasNumber column n s → IsAmong left n → ⊥) → still_held rows gone ps ≡ false
stay_none_down column numbers left rows gone ps needs stay same none = stay-all (IsBehind column numbers.high left.high) column numbers rows gone ps needs stay (λ s h. among-behind column numbers left rows s same none h)

-- ---- rows whose value a pattern matches

pub held_by : (p : Stored → Bool) (rows : List Stored) (tickets : List ℕ) → tickets ≡ tickets_of (filter p rows) → HoldTrue p rows tickets
held_by p rows tickets are s h t = subst (λ (ns : List ℕ). In s.ticket ns) (sym are) (In-map_from ticket_of s (filter p rows) (In-filter_from p s rows h t))

-- a row whose value the pattern matches has one of the integers that it matches
pub held_among : (column : ℕ) (pattern : Pattern) (numbers : Numbers) (rows : List Stored) (tickets : List ℕ) → MatchesAmong pattern numbers → HoldAll (HasAmong column numbers) rows tickets → HoldTrue (has_match column pattern) rows tickets
held_among column pattern numbers rows tickets matches held s h t = go (slice_get s.row column) refl t
  where
    go : (o : Option Value) → slice_get s.row column ≡ o → is_match pattern o ≡ true → In s.ticket tickets
    go None e u = absurd (false≢true u)
    go (Some v) e u = let found = matches v u in held s h (found.0, e ∙ ap (λ (w : Value). Some w) found.1, found.2)
