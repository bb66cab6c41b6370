-- What an index tells of the least integer from one on, and of the greatest up to one, said of the rows.
use Rattle.std.proofs.Common.{◌≡◌, ℕ, ℤ, zero, suc, ◌<◌, Bool, true, false, cond, List, [], ◌∷◌, Option, None, Some, length, filter, get_or, set, inl, inr, refl, ap, sym, ◌∙◌, subst, arith}
use Rattle.std.specs.List.{slice_get}
use Rattle.std.proofs.lemmas.Bool.{true≢false}
use Rattle.pj_value.specs.Lists.{In}
use Rattle.pj_value.specs.declared.values.Value.{Value}
use Rattle.pj_value.specs.declared.values.Value.TheVariants.{Int}
use Rattle.pj_value.proofs.Orders.{equal_itself, same_if_equal}
use Rattle.pj_value.specs.Options.{is_value}
use Rattle.pj_state.specs.Indexes.{IsIndexOf, IsKept, told}
use Rattle.pj_state.specs.Least.{TellsGreatest, TellsLeast, TellsNearest}
use Rattle.pj_state.specs.Numbers.{has_tickets}
use Rattle.pj_state.specs.Ordered.{HasNumber, IsNumberThere, TellsLast, TellsNearestRow, TellsNext}
use Rattle.pj_state.specs.States.{has_value, tickets_of}
use Rattle.pj_state.specs.declared.index.ValueIndex.{ValueIndex}
use Rattle.pj_state.specs.declared.shared.Stored.{Stored}
use Rattle.pj_state.specs.declared.state.Seek.{Seek}
use Rattle.pj_state.specs.declared.state.Seek.TheVariants.{AtLeast, AtMost}
use Rattle.pj_state.specs.declared.state.NextNumber.{NextNumber}
use Rattle.pj_state.specs.declared.state.NextNumber.TheVariants.{Untold, Nothing, At}

-- a row that passes a test gives the rows that do a ticket
passes-has : (p : Stored → Bool) (s : Stored) (rows : List Stored) → In s rows → p s ≡ true → has_tickets (tickets_of (filter p rows)) ≡ true
passes-has p s [] i h = absurd i
passes-has p s (x ∷ rows) (inl e) h = ap (λ b. has_tickets (tickets_of (cond b (x ∷ filter p rows) (filter p rows)))) (ap p e ∙ h)
passes-has p s (x ∷ rows) (inr i) h = go (p x) (passes-has p s rows i h)
  where
    go : (b : Bool) → has_tickets (tickets_of (filter p rows)) ≡ true → has_tickets (tickets_of (cond b (x ∷ filter p rows) (filter p rows))) ≡ true
    go true ih = refl
    go false ih = ih

has-passes : (p : Stored → Bool) (rows : List Stored) → has_tickets (tickets_of (filter p rows)) ≡ true → (s : Stored) × (In s rows × (p s ≡ true))
has-passes p [] h = absurd (true≢false (sym h))
has-passes p (x ∷ rows) h = go (p x) refl (has-passes p rows) h
  where
    go : (b : Bool) → p x ≡ b → (has_tickets (tickets_of (filter p rows)) ≡ true → (s : Stored) × (In s rows × (p s ≡ true)))
        → has_tickets (tickets_of (cond b (x ∷ filter p rows) (filter p rows))) ≡ true → (s : Stored) × (In s (x ∷ rows) × (p s ≡ true))
    go true e ih c = (x, (inl refl, e))
    go false e ih c = let found = ih c in (found.0, (inr found.1.0, found.1.1))

value-is : (n : ℤ) (o : Option Value) → is_value (Int n) o ≡ true → o ≡ Some (Int n)
value-is n None h = absurd (true≢false (sym h))
value-is n (Some v) h = ap (λ (x : Value). Some x) (same_if_equal v (Int n) h)

has-number : (column : ℕ) (rows : List Stored) (index : ValueIndex) (s : Stored) (n : ℤ) → IsIndexOf column rows index → In s rows → HasNumber column n s → has_tickets (told index (Int n)) ≡ true
has-number column rows index s n is i h =
    ap has_tickets (is (Int n)) ∙ passes-has (has_value column (Int n)) s rows i (ap (is_value (Int n)) h ∙ equal_itself (Int n))

number-there : (column : ℕ) (rows : List Stored) (index : ValueIndex) (n : ℤ) → IsIndexOf column rows index → has_tickets (told index (Int n)) ≡ true → IsNumberThere column n rows
number-there column rows index n is h =
    let found = has-passes (has_value column (Int n)) rows (ap has_tickets (sym (is (Int n))) ∙ h) in
    (found.0, (found.1.0, value-is n (slice_get found.0.row column) found.1.1))

tells-next : (column : ℕ) (from : Option ℤ) (rows : List Stored) (index : ValueIndex) (r : NextNumber) → IsIndexOf column rows index → TellsLeast (λ n. has_tickets (told index (Int n))) from r → TellsNext column from rows r
tells-next column from rows index Untold is h = tt
tells-next column from rows index Nothing is h = λ s n i has q. h n (has-number column rows index s n is i has) q
tells-next column from rows index (At n) is h = record {
  above = h.above;
  there = number-there column rows index n is h.there;
  least = λ s m i has q. h.least m (has-number column rows index s m is i has) q;
}

-- the index of a column is that of the rows by this column
index-of : (columns : List ℕ) (column : ℕ) (rows : List Stored) (indexes : List ValueIndex) (at : ℕ) (index : ValueIndex) → IsKept columns rows indexes → at < length columns → get_or columns at 0 ≡ column → index ≡ get_or indexes at index
    → IsIndexOf column rows index
index-of columns column rows indexes at index kept lt e is =
    subst (λ (x : ValueIndex). IsIndexOf column rows x) (sym is) (subst (λ c. IsIndexOf c rows (get_or indexes at index)) e (kept.indexed.each at index (omega arith) lt))

tells-last : (column : ℕ) (to : Option ℤ) (rows : List Stored) (index : ValueIndex) (r : NextNumber) → IsIndexOf column rows index → TellsGreatest (λ n. has_tickets (told index (Int n))) to r → TellsLast column to rows r
tells-last column to rows index Untold is h = tt
tells-last column to rows index Nothing is h = λ s n i has q. h n (has-number column rows index s n is i has) q
tells-last column to rows index (At n) is h = record {
  below = h.below;
  there = number-there column rows index n is h.there;
  greatest = λ s m i has q. h.greatest m (has-number column rows index s m is i has) q;
}

tells-nearest : (column : ℕ) (seek : Seek) (rows : List Stored) (index : ValueIndex) (r : NextNumber) → IsIndexOf column rows index → TellsNearest (λ n. has_tickets (told index (Int n))) seek r → TellsNearestRow column seek rows r
tells-nearest column (AtLeast from) rows index r is h = tells-next column from rows index r is h
tells-nearest column (AtMost to) rows index r is h = tells-last column to rows index r is h

pub nearest-at : (columns : List ℕ) (column : ℕ) (seek : Seek) (rows : List Stored) (indexes : List ValueIndex) (at : ℕ) (index : ValueIndex) (r : NextNumber) → IsKept columns rows indexes → at < length columns
    → get_or columns at 0 ≡ column → index ≡ get_or indexes at index → TellsNearest (λ n. has_tickets (told index (Int n))) seek r → TellsNearestRow column seek rows r
nearest-at columns column seek rows indexes at index r kept lt e is h = tells-nearest column seek rows index r (index-of columns column rows indexes at index kept lt e is) h

-- an item that is put where it stands changes nothing
pub set-own : {A : Type 0} (xs : List A) (at : ℕ) (x y : A) → x ≡ get_or xs at x → y ≡ x → set xs at y ≡ xs
set-own [] at x y is e = refl
set-own (z ∷ xs) zero x y is e = ap (λ w. w ∷ xs) (e ∙ is)
set-own (z ∷ xs) (suc at) x y is e = ap (λ ws. z ∷ ws) (set-own xs at x y is e)
