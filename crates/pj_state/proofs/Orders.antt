-- An order that is made of the integers that have tickets.
use Rattle.std.proofs.Common.{◌≡◌, ℕ, ℤ, suc, ◌+◌, ◌<◌, ◌≤◌, Bool, true, false, not, cond, List, [], ◌∷◌, Option, Some, ◌++◌, length, get_or, refl, ap, sym, ◌∙◌, arith, inl, inr, ◌⊎◌, ◌≤ℤ◌, ◌<ℤ◌}
use Rattle.std.specs.BTreeMap.Range.{IsLeBy}
use Rattle.std.specs.BTreeSet.{BTreeSet, IsKeyRangeOf, contains}
use Rattle.std.specs.Cmp.{int_ranks}
use Rattle.std.specs.Ordering.{MatchOrdering, is_gt, is_lt}
use Rattle.std.specs.declared.cmp.Ordering.{Ordering}
use Rattle.std.specs.declared.cmp.Ordering.TheVariants.{Less, Equal, Greater}
use Rattle.std.specs.declared.ops.Bound.TheVariants.{Unbounded, Included}
use Rattle.std.proofs.lemmas.Int.{ints}
use Rattle.pj_state.specs.Least.{IsGreatest}
use Rattle.std.specs.List.{slice_get}
use Rattle.std.specs.Map.{lookup}
use Rattle.std.specs.Ordering.{int_cmp, int_eq}
use Rattle.std.proofs.lemmas.Bool.{cases_eq, true≢false}
use Rattle.std.proofs.lemmas.Bool.Decides.{Decides-int_eq}
use Rattle.std.proofs.lemmas.Option.{slice_get-get_or}
use Rattle.pj_state.specs.Numbers.{IsOrder, Passes, are_there, has_tickets, listed, number_tickets}

abbrev Entry : Type 0
Entry = ℤ × List ℕ

-- the order has integers with tickets alone, and those of the first so many entries
pub record IsOrderTo (entries : List Entry) (order : BTreeSet ℤ) (at : ℕ) : Type 0 where
  pub within : (n : ℤ) → contains int_cmp order n ≡ true → are_there (number_tickets entries) n ≡ true
  pub to : (k : ℕ) (d : Entry) → k < at → k < length entries → are_there (number_tickets entries) (get_or entries k d).0 ≡ true → contains int_cmp order (get_or entries k d).0 ≡ true

itself : (n : ℤ) → int_eq n n ≡ true
itself n = (Decides-int_eq n n).1 refl

entry-is : (entries : List Entry) (at : ℕ) (n : ℤ) (ts : List ℕ) (d : Entry) → at < length entries → slice_get entries at ≡ Some (n, ts) → (get_or entries at d).0 ≡ n
entry-is entries at n ts d lt e = let same : Some (n, ts) ≡ Some (get_or entries at d) = sym e ∙ slice_get-get_or entries at d lt in ap (λ (p : Entry). p.0) (sym (some-same same))
  where
    some-same : {p q : Entry} → Some p ≡ Some q → p ≡ q
    some-same h = cc

pub order-more : (entries : List Entry) (old new : BTreeSet ℤ) (at : ℕ) (n : ℤ) (ts : List ℕ) → IsOrderTo entries old at → at < length entries → slice_get entries at ≡ Some (n, ts)
    → are_there (number_tickets entries) n ≡ true → Passes (contains int_cmp new) (contains int_cmp old) n true → IsOrderTo entries new (at + 1)
order-more entries old new at n ts h lt is has put = record {
  within = λ q c. inside q (int_eq n q) refl (sym (put q) ∙ c);
  to = λ k d less there some. below k d less there some (cases_eq k at);
}
  where
    inside : (q : ℤ) (b : Bool) → int_eq n q ≡ b → cond (int_eq n q) true (contains int_cmp old q) ≡ true → are_there (number_tickets entries) q ≡ true
    inside q true e c = ap (are_there (number_tickets entries)) (sym ((Decides-int_eq n q).0 e)) ∙ has
    inside q false e c = h.within q (sym (ap (λ b. cond b true (contains int_cmp old q)) e) ∙ c)

    grown : (q : ℤ) (b : Bool) → contains int_cmp old q ≡ true → cond b true (contains int_cmp old q) ≡ true
    grown q true c = refl
    grown q false c = c

    below : (k : ℕ) (d : Entry) → k < at + 1 → k < length entries → are_there (number_tickets entries) (get_or entries k d).0 ≡ true → (k ≡ at) ⊎ (k ≡ at → ⊥) → contains int_cmp new (get_or entries k d).0 ≡ true
    below k d less there some (inl e) =
        ap (λ i. contains int_cmp new (get_or entries i d).0) e
        ∙ (ap (contains int_cmp new) (entry-is entries at n ts d lt is) ∙ (put n ∙ ap (λ b. cond b true (contains int_cmp old n)) (itself n)))
    below k d less there some (inr ne) =
        let q = (get_or entries k d).0 in put q ∙ grown q (int_eq n q) (h.to k d (omega (arith, less, ne)) there some)

pub order-skip : (entries : List Entry) (order : BTreeSet ℤ) (at : ℕ) (n : ℤ) (ts : List ℕ) → IsOrderTo entries order at → at < length entries → slice_get entries at ≡ Some (n, ts)
    → are_there (number_tickets entries) n ≡ false → IsOrderTo entries order (at + 1)
order-skip entries order at n ts h lt is none = record {
  within = h.within;
  to = λ k d less there some. below k d less there some (cases_eq k at);
}
  where
    below : (k : ℕ) (d : Entry) → k < at + 1 → k < length entries → are_there (number_tickets entries) (get_or entries k d).0 ≡ true → (k ≡ at) ⊎ (k ≡ at → ⊥) → contains int_cmp order (get_or entries k d).0 ≡ true
    below k d less there some (inl e) =
        absurd (true≢false (sym some ∙ (ap (λ i. are_there (number_tickets entries) (get_or entries i d).0) e ∙ (ap (are_there (number_tickets entries)) (entry-is entries at n ts d lt is) ∙ none))))
    below k d less there some (inr ne) = h.to k d (omega (arith, less, ne)) there some

-- what is looked up stands at some place
place-of : (entries : List Entry) (n : ℤ) (d : Entry) → has_tickets (listed (lookup (int_eq n) entries)) ≡ true → (k : ℕ) × ((k < length entries) × ((get_or entries k d).0 ≡ n))
place-of [] n d h = absurd (true≢false (sym h))
place-of (e ∷ es) n d h = go (int_eq n e.0) refl (place-of es n d) h
  where
    go : (b : Bool) → int_eq n e.0 ≡ b → (has_tickets (listed (lookup (int_eq n) es)) ≡ true → (k : ℕ) × ((k < length es) × ((get_or es k d).0 ≡ n)))
        → has_tickets (listed (cond b (Some e.1) (lookup (int_eq n) es))) ≡ true → (k : ℕ) × ((k < length (e ∷ es)) × ((get_or (e ∷ es) k d).0 ≡ n))
    go true q ih c = (0, (omega arith, sym ((Decides-int_eq n e.0).0 q)))
    go false q ih c = let p = ih c in (suc p.0, (omega (arith, p.1.0), p.1.1))

pub order-all : (entries : List Entry) (order : BTreeSet ℤ) (at : ℕ) → IsOrderTo entries order at → length entries ≤ at → IsOrder (number_tickets entries) (Some order)
order-all entries order at h le n = go (contains int_cmp order n) (are_there (number_tickets entries) n) refl refl
  where
    go : (a b : Bool) → contains int_cmp order n ≡ a → are_there (number_tickets entries) n ≡ b → a ≡ b
    go true b p q = sym (h.within n p) ∙ q
    go false true p q =
        let d : Entry = (n, []) in
        let place = place-of entries n d q in
        let same = place.1.1 in
        let in-order : contains int_cmp order (get_or entries place.0 d).0 ≡ true =
        h.to place.0 d (omega (arith, place.1.0, le)) place.1.0 (ap (are_there (number_tickets entries)) same ∙ q) in
        sym p ∙ (ap (contains int_cmp order) (sym same) ∙ in-order)
    go false false p q = refl

-- whether an entry has tickets
pub entry-has : (entries : List Entry) (n : ℤ) (ts shown : List ℕ) (b : Bool) → lookup (int_eq n) entries ≡ Some ts → shown ≡ ts → b ≡ not (has_tickets shown) → are_there (number_tickets entries) n ≡ not b
entry-has entries n ts shown b is same e = ap (λ (o : Option (List ℕ)). has_tickets (listed o)) is ∙ (ap has_tickets (sym same) ∙ (twice (has_tickets shown) ∙ ap not (sym e)))
  where
    twice : (a : Bool) → a ≡ not (not a)
    twice true = refl
    twice false = refl

-- the last one of the integers of an order up to one
pub last-greatest : (order : BTreeSet ℤ) (to n : ℤ) (up before : List ℤ) → IsKeyRangeOf int_cmp Unbounded (Included to) order up → up ≡ before ++ n ∷ [] → IsGreatest (contains int_cmp order) (Some to) n
last-greatest order to n up before range is =
    let own = range.3 n before is in
    record {
      below = at-most n to own.0.1;
      there = own.1;
      greatest = λ m there le. at-least n m (range.4 n before is m (tt, le-by m to le) there);
    }
  where
    at-most : (a b : ℤ) → IsLeBy int_cmp a b → a ≤ℤ b
    at-most a b h = go (int_cmp a b) (int_ranks a b) h
      where
        go : (o : Ordering) → MatchOrdering o (a <ℤ b) (a ≡ b) (b <ℤ a) → is_gt o ≡ false → a ≤ℤ b
        go Less m q = omega (arith, ints, m)
        go Equal m q = omega (arith, ints, m)
        go Greater m q = absurd (true≢false q)

    at-least : (a b : ℤ) → is_lt (int_cmp a b) ≡ false → b ≤ℤ a
    at-least a b h = go (int_cmp a b) (int_ranks a b) h
      where
        go : (o : Ordering) → MatchOrdering o (a <ℤ b) (a ≡ b) (b <ℤ a) → is_lt o ≡ false → b ≤ℤ a
        go Less m q = absurd (true≢false q)
        go Equal m q = omega (arith, ints, m)
        go Greater m q = omega (arith, ints, m)

    le-by : (a b : ℤ) → a ≤ℤ b → IsLeBy int_cmp a b
    le-by a b h = go (int_cmp a b) (int_ranks a b)
      where
        go : (o : Ordering) → MatchOrdering o (a <ℤ b) (a ≡ b) (b <ℤ a) → is_gt o ≡ false
        go Less m = refl
        go Equal m = refl
        go Greater m = absurd (omega (arith, ints, m, h))
