-- Rows that are looked up by their tickets.
use Rattle.std.proofs.Common.{◌≡◌, ℕ, zero, suc, ◌+◌, ◌<◌, ◌≤◌, Bool, true, false, cond, List, [], ◌∷◌, ◌++◌, Option, None, Some, length, drop, filter, get_or, ltb, refl, ap, sym, ◌∙◌, subst, arith, append-nil, append_assoc}
use Rattle.std.proofs.lemmas.Bool.{eq-eqb, le-ltb, lt-ltb, ltb-false, ne_eqb}
use Rattle.std.proofs.lemmas.List.{drop_more}
use Rattle.pj_value.specs.declared.values.Value.{Value}
use Rattle.pj_state.specs.Rising.{AllAbove, IsRising, first_with}
use Rattle.pj_state.specs.States.{pairs, rows_below, rows_with, has_value, ticket_of, tickets_of}
use Rattle.pj_state.specs.declared.shared.Stored.{Stored}
use Rattle.pj_state.specs.Indexes.{IsMatching}
use Rattle.std.specs.List.{slice_get}
use Rattle.std.specs.Option.{IfNone, IfSome, IsSome}
use Rattle.pj_state.proofs.Rising.{rising-filter}

-- a ticket with its row, where there is one, and others behind it
abbrev pub with_row : ℕ → Option Stored → List (ℕ × List Value) → List (ℕ × List Value)
with_row t None rest = rest
with_row t (Some s) rest = (t, s.row) ∷ rest

-- the rows of these tickets, up to the first that is not below a number
abbrev pub looked_up : List Stored → ℕ → List ℕ → List (ℕ × List Value)
looked_up rows below [] = []
looked_up rows below (t ∷ ts) = cond (ltb t below) (with_row t (first_with ticket_of t rows) (looked_up rows below ts)) []

-- ---- one ticket more

next-looked : (rows : List Stored) (below i : ℕ) (ts : List ℕ) → i < length ts → looked_up rows below (drop i ts) ≡ looked_up rows below (get_or ts i 0 ∷ drop (i + 1) ts)
next-looked rows below i ts lt = ap (looked_up rows below) (drop_more ts i 0 lt)

pub look-stop : (rows : List Stored) (below i : ℕ) (ts : List ℕ) (found all : List (ℕ × List Value)) → i < length ts → below ≤ get_or ts i 0 → found ++ looked_up rows below (drop i ts) ≡ all → found ≡ all
look-stop rows below i ts found all lt le h =
    sym (append-nil found)
    ∙ (ap (λ (xs : List (ℕ × List Value)). found ++ xs)
    (sym (next-looked rows below i ts lt
    ∙ ap (λ b. cond b (with_row (get_or ts i 0) (first_with ticket_of (get_or ts i 0) rows) (looked_up rows below (drop (i + 1) ts))) []) (le-ltb (get_or ts i 0) below le)))
    ∙ h)

pub look-more : (rows : List Stored) (below i : ℕ) (ts : List ℕ) (found new all : List (ℕ × List Value)) (o : Option Stored) → i < length ts → get_or ts i 0 < below → o ≡ first_with ticket_of (get_or ts i 0) rows
    → new ≡ found ++ with_row (get_or ts i 0) o [] → found ++ looked_up rows below (drop i ts) ≡ all → new ++ looked_up rows below (drop (i + 1) ts) ≡ all
look-more rows below i ts found new all o lt le is to h =
    let t = get_or ts i 0 in
    let rest = looked_up rows below (drop (i + 1) ts) in
    ap (λ (xs : List (ℕ × List Value)). xs ++ rest) to
    ∙ (append_assoc found (with_row t o []) rest
    ∙ (ap (λ (xs : List (ℕ × List Value)). found ++ xs)
    (joined t rest o
    ∙ (ap (λ (p : Option Stored). with_row t p rest) is
    ∙ sym (next-looked rows below i ts lt ∙ ap (λ b. cond b (with_row t (first_with ticket_of t rows) rest) []) (lt-ltb t below le))))
    ∙ h))
  where
    joined : (t : ℕ) (rest : List (ℕ × List Value)) (p : Option Stored) → with_row t p [] ++ rest ≡ with_row t p rest
    joined t rest None = refl
    joined t rest (Some s) = refl

pub look-end : (rows : List Stored) (below i : ℕ) (ts : List ℕ) (found all : List (ℕ × List Value)) → length ts ≤ i → found ++ looked_up rows below (drop i ts) ≡ all → found ≡ all
look-end rows below i ts found all le h = sym (append-nil found) ∙ (ap (λ (us : List ℕ). found ++ looked_up rows below us) (sym (nothing ts i le)) ∙ h)
  where
    nothing : (us : List ℕ) (j : ℕ) → length us ≤ j → drop j us ≡ []
    nothing [] zero le = refl
    nothing [] (suc j) le = refl
    nothing (u ∷ us) zero le = absurd (omega (arith, le))
    nothing (u ∷ us) (suc j) le = nothing us j (omega (arith, le))

-- ---- what is looked up

-- each row is the first with its ticket
abbrev AreFirst : List Stored → List Stored → Type 0
AreFirst rows [] = Unit {0}
AreFirst rows (s ∷ xs) = (first_with ticket_of s.ticket rows ≡ Some s) × AreFirst rows xs

first-more : (x : Stored) (rows xs : List Stored) → AllAbove ticket_of x.ticket xs → AreFirst rows xs → AreFirst (x ∷ rows) xs
first-more x rows [] above h = tt
first-more x rows (s ∷ xs) above h =
    (ap (λ b. cond b (Some x) (first_with ticket_of s.ticket rows)) (ne_eqb x.ticket s.ticket (λ e. omega (arith, e, above.0))) ∙ h.0, first-more x rows xs above.1 h.1)

are-first : (rows : List Stored) → IsRising ticket_of rows → AreFirst rows rows
are-first [] h = tt
are-first (x ∷ rows) h = (ap (λ b. cond b (Some x) (first_with ticket_of x.ticket rows)) (eq-eqb x.ticket x.ticket refl), first-more x rows rows h.0 (are-first rows h.1))

first-filter : (p : Stored → Bool) (rows xs : List Stored) → AreFirst rows xs → AreFirst rows (filter p xs)
first-filter p rows [] h = tt
first-filter p rows (s ∷ xs) h = go (p s) (first-filter p rows xs h.1)
  where
    go : (b : Bool) → AreFirst rows (filter p xs) → AreFirst rows (cond b (s ∷ filter p xs) (filter p xs))
    go true ih = (h.0, ih)
    go false ih = ih

none-below : (below n : ℕ) (xs : List Stored) → below ≤ n → AllAbove ticket_of n xs → rows_below below xs ≡ []
none-below below n [] le h = refl
none-below below n (s ∷ xs) le h = ap (λ b. cond b (s ∷ rows_below below xs) (rows_below below xs)) (le-ltb s.ticket below (omega (arith, le, h.0))) ∙ none-below below n xs le h.1

looked-is : (rows : List Stored) (below : ℕ) (xs : List Stored) → AreFirst rows xs → IsRising ticket_of xs → looked_up rows below (tickets_of xs) ≡ pairs (rows_below below xs)
looked-is rows below [] h rising = refl
looked-is rows below (s ∷ xs) h rising = go (ltb s.ticket below) refl (looked-is rows below xs h.1 rising.1)
  where
    go : (b : Bool) → ltb s.ticket below ≡ b → looked_up rows below (tickets_of xs) ≡ pairs (rows_below below xs)
        → cond b (with_row s.ticket (first_with ticket_of s.ticket rows) (looked_up rows below (tickets_of xs))) [] ≡ pairs (cond b (s ∷ rows_below below xs) (rows_below below xs))
    go true e ih = ap (λ (o : Option Stored). with_row s.ticket o (looked_up rows below (tickets_of xs))) h.0 ∙ ap (λ (ps : List (ℕ × List Value)). (s.ticket, s.row) ∷ ps) ih
    go false e ih = sym (ap pairs (none-below below s.ticket xs (ltb-false s.ticket below e) rising.0))

pub candidates-are : (rows : List Stored) (below column : ℕ) (value : Value) → IsRising ticket_of rows → looked_up rows below (tickets_of (rows_with column value rows)) ≡ pairs (rows_below below (rows_with column value rows))
candidates-are rows below column value rising =
    looked-is rows below (rows_with column value rows) (first-filter (has_value column value) rows rows (are-first rows rising)) (rising-filter ticket_of (has_value column value) rows rising)

-- ---- one row after the other

first-at : (rows xs : List Stored) (at : ℕ) → AreFirst rows xs → at < length xs → first_with ticket_of (get_or (tickets_of xs) at 0) rows ≡ slice_get xs at
first-at rows [] at h lt = absurd (omega (arith, lt))
first-at rows (s ∷ xs) zero h lt = h.0
first-at rows (s ∷ xs) (suc at) h lt = first-at rows xs at h.1 (omega (arith, lt))

-- the row under the ticket at a place of those that match
pub matching-at : (rows : List Stored) (column : ℕ) (value : Value) (ts : List ℕ) (at : ℕ) → IsMatching column value rows ts → at < length (rows_with column value rows)
    → first_with ticket_of (get_or ts at 0) rows ≡ slice_get (rows_with column value rows) at
matching-at rows column value ts at is lt =
    ap (λ (us : List ℕ). first_with ticket_of (get_or us at 0) rows) is.0
    ∙ first-at rows (rows_with column value rows) at (first-filter (has_value column value) rows rows (are-first rows is.1)) lt

-- what is there is found
pub is-there : {A B : Type 0} (o : Option A) (p q : Option B) (x : B) → IfNone o (p ≡ None) → p ≡ q → q ≡ Some x → IsSome o
is-there None p q x missing e is = let clash : None ≡ Some x = sym missing ∙ (e ∙ is) in absurd (cc)
is-there (Some a) p q x missing e is = refl

pub row-is : {A : Type 0} (o : Option A) (a : A) (P : A → Type 0) → IfSome o P → o ≡ Some a → P a
row-is {A = A} o a P h e = subst (λ (p : Option A). IfSome p P) e h
