-- The punctuations that wait, by their tickets, and what is listed under the tuples that hold them back.
use Rattle.std.proofs.Common.{ℕ, zero, suc, ◌+◌, ◌<◌, ◌≤◌, Bool, true, false, cond, not, ◌&&◌, ◌||◌, List, [], ◌∷◌, ◌++◌, Option, Some, None, ◌≡◌, ◌⊎◌, inl, inr, take, drop, length, get_or, eqb, refl, sym, ap, ap₂, ◌∙◌, subst, arith, nat_cmp, Bor, IfSome, IfNone}
use Rattle.std.specs.BTreeMap.{insert_entry, is_at}
use Rattle.std.specs.BTreeMap.Range.{range_contains}
use Rattle.std.specs.BTreeSet.{BTreeSet, UpdatesBy, contains, keys_between}
use Rattle.std.specs.Cmp.{Equal-is}
use Rattle.std.specs.List.{AllByRecursion, list_any}
use Rattle.std.specs.List.Sorted.{IsStrictlySortedBy}
use Rattle.std.specs.Map.{keys_of, lookup, remove_entry}
use Rattle.std.specs.Option.{option_copied}
use Rattle.std.specs.Ordering.{is_eq, is_gt, is_le, match_ordering, ordering_then}
use Rattle.std.specs.declared.cmp.Ordering.{Ordering}
use Rattle.std.specs.declared.cmp.Ordering.TheVariants.{Less, Equal, Greater}
use Rattle.std.specs.declared.ops.Bound.TheVariants.{Included, Unbounded}
use Rattle.std.proofs.lemmas.Bool.{and_parts, eq-eqb, eqb-true, false≢true}
use Rattle.std.proofs.lemmas.Bool.Decides.{nat_tests}
use Rattle.std.proofs.lemmas.Cmp.{nat_eq_equiv}
use Rattle.std.proofs.lemmas.List.Kept.{IsStrictlySortedBy-filter}
use Rattle.std.proofs.lemmas.List.{append_assoc, drop_more, take_more, take-append-drop}
use Rattle.std.proofs.lemmas.Map.Keys.{le_from_not_gt}
use Rattle.std.proofs.lemmas.Map.Lookups.{exact_pairs, exact_unsigned}
use Rattle.pj_value.proofs.Members.{In-append_cases, In-append_left, In-append_right, In-filter, In-filter_from, any_at, filter-agree, filter-all, filter-filter}
use Rattle.pj_state.specs.Rising.{AllAbove, IsRising, itself}
use Rattle.pj_events.specs.Join.{In, PunctAt, has}
use Rattle.pj_waiting.specs.Holding.{AreFreed, HeldPunctView, WaitingView, is_listed, listing_cmp, waiting_in, waits_at, held_at}
use Rattle.pj_waiting.specs.Leaving.{HasUnder, puncts_but, puncts_without}
use Rattle.pj_rows.proofs.Rising.{above-in}

-- ---- tickets that are compared

below_if_less : (a b : ℕ) → nat_cmp a b ≡ Less → a < b
below_if_less a b e = grind (arith, nat_tests)

greater_if_above : (a b : ℕ) → b < a → nat_cmp a b ≡ Greater
greater_if_above a b lt = grind (arith, nat_tests)

same_ticket : (a b : ℕ) → is_eq (nat_cmp a b) ≡ true → a ≡ b
same_ticket a b e = exact_unsigned a b ((Equal-is (nat_cmp a b)).0 e)

is_itself : (a b : ℕ) → a ≡ b → is_eq (nat_cmp a b) ≡ true
is_itself a b e = grind (arith, nat_tests)

same_listing : (p q : ℕ × ℕ) → is_eq (listing_cmp p q) ≡ true → p ≡ q
same_listing p q e = exact_pairs nat_cmp nat_cmp exact_unsigned exact_unsigned p q ((Equal-is (listing_cmp p q)).0 e)

-- ---- the punctuations of a map

pub entries_rise : (es : List (ℕ × HeldPunctView)) → IsStrictlySortedBy nat_cmp (keys_of es) → IsRising held_at (waiting_in es)
unfolding IsStrictlySortedBy
entries_rise [] s = tt
entries_rise (e ∷ es) s = (above es s.0, entries_rise es s.1)
  where
    above : (fs : List (ℕ × HeldPunctView)) → AllByRecursion (λ k. nat_cmp e.0 k ≡ Less) (keys_of fs) → AllAbove held_at e.0 (waiting_in fs)
    above [] a = tt
    above (f ∷ fs) a = (below_if_less e.0 f.0 a.0, above fs a.1)

looked_up : (k : ℕ) (es : List (ℕ × HeldPunctView)) (v : HeldPunctView) → lookup (is_at (nat_cmp k)) es ≡ Some v → In (waits_at k v) (waiting_in es)
looked_up k [] v h = absurd (cc)
looked_up k (e ∷ es) v h = go (is_at (nat_cmp k) e.0) refl h (looked_up k es v)
  where
    go : (b : Bool) → is_at (nat_cmp k) e.0 ≡ b → cond b (Some e.1) (lookup (is_at (nat_cmp k)) es) ≡ Some v → (lookup (is_at (nat_cmp k)) es ≡ Some v → In (waits_at k v) (waiting_in es)) → In (waits_at k v) (waiting_in (e ∷ es))
    go true t f ih = inl (ap₂ waits_at (sym (same_ticket k e.0 t)) (some_same f))
      where
        some_same : Some e.1 ≡ Some v → e.1 ≡ v
        some_same q = cc
    go false t f ih = inr (ih f)

not_looked_up : (k : ℕ) (es : List (ℕ × HeldPunctView)) → lookup (is_at (nat_cmp k)) es ≡ None → (p : PunctAt) → In p (waiting_in es) → p.ticket ≡ k → ⊥
not_looked_up k [] h p i s = i
not_looked_up k (e ∷ es) h p i s = go (is_at (nat_cmp k) e.0) refl h (not_looked_up k es) i
  where
    go : (b : Bool) → is_at (nat_cmp k) e.0 ≡ b → cond b (Some e.1) (lookup (is_at (nat_cmp k)) es) ≡ None → (lookup (is_at (nat_cmp k)) es ≡ None → (p : PunctAt) → In p (waiting_in es) → p.ticket ≡ k → ⊥) → In p (waiting_in (e ∷ es)) → ⊥
    go true t f ih j = absurd (cc)
    go false t f ih (inl q) = false≢true (sym t ∙ is_itself k e.0 (sym s ∙ sym (ap held_at q)))
    go false t f ih (inr j) = ih f p j s

pub found_punct : (k : ℕ) (es : List (ℕ × HeldPunctView)) (found : Option (Bor HeldPunctView)) → option_copied found ≡ lookup (is_at (nat_cmp k)) es → IfSome found (λ p. In (waits_at k p.now) (waiting_in es))
found_punct k es None e = tt
found_punct k es (Some p) e = looked_up k es p.now (sym e)

pub no_punct : (k : ℕ) (es : List (ℕ × HeldPunctView)) (found : Option (Bor HeldPunctView)) → option_copied found ≡ lookup (is_at (nat_cmp k)) es → IfNone found ((p : PunctAt) → In p (waiting_in es) → p.ticket ≡ k → ⊥)
no_punct k es None e = not_looked_up k es (sym e)
no_punct k es (Some p) e = tt

pub put_last : (k : ℕ) (v : HeldPunctView) (es : List (ℕ × HeldPunctView)) → ((p : PunctAt) → In p (waiting_in es) → p.ticket < k) → waiting_in (insert_entry nat_cmp es k v) ≡ waiting_in es ++ waits_at k v ∷ []
put_last k v [] before = refl
put_last k v (e ∷ es) before =
    ap (λ o. waiting_in (match_ordering o ((k, v) ∷ e ∷ es) ((e.0, v) ∷ es) (e ∷ insert_entry nat_cmp es k v))) (greater_if_above k e.0 (before (waits_at e.0 e.1) (inl refl)))
    ∙ ap (λ (ps : List PunctAt). waits_at e.0 e.1 ∷ ps) (put_last k v es (λ p h. before p (inr h)))

pub took_out : (k : ℕ) (es : List (ℕ × HeldPunctView)) → lookup (is_at (nat_cmp k)) (remove_entry (is_at (nat_cmp k)) es) ≡ None → waiting_in (remove_entry (is_at (nat_cmp k)) es) ≡ puncts_but k (waiting_in es)
took_out k [] h = refl
took_out k (e ∷ es) h = go (is_at (nat_cmp k) e.0) refl h (took_out k es)
  where
    others : (b : Bool) → is_at (nat_cmp k) e.0 ≡ b → (c : Bool) → eqb e.0 k ≡ c → b ≡ c
    others true t true f = refl
    others true t false f = absurd (false≢true (sym f ∙ eq-eqb e.0 k (sym (same_ticket k e.0 t))))
    others false t true f = absurd (false≢true (sym t ∙ is_itself k e.0 (sym (eqb-true e.0 k f))))
    others false t false f = refl

    go : (b : Bool) → is_at (nat_cmp k) e.0 ≡ b → lookup (is_at (nat_cmp k)) (cond b es (e ∷ remove_entry (is_at (nat_cmp k)) es)) ≡ None
        → (lookup (is_at (nat_cmp k)) (remove_entry (is_at (nat_cmp k)) es) ≡ None → waiting_in (remove_entry (is_at (nat_cmp k)) es) ≡ puncts_but k (waiting_in es))
        → waiting_in (cond b es (e ∷ remove_entry (is_at (nat_cmp k)) es)) ≡ puncts_but k (waiting_in (e ∷ es))
    go true t f ih =
        sym (filter-all (λ (p : PunctAt). not (eqb p.ticket k)) (waiting_in es) (λ p i. other p i (eqb p.ticket k) refl))
        ∙ ap (λ c. cond (not c) (waits_at e.0 e.1 ∷ puncts_but k (waiting_in es)) (puncts_but k (waiting_in es))) (others true t (eqb e.0 k) refl)
      where
        other : (p : PunctAt) → In p (waiting_in es) → (c : Bool) → eqb p.ticket k ≡ c → not c ≡ true
        other p i true q = absurd (not_looked_up k es f p i (eqb-true p.ticket k q))
        other p i false q = refl
    go false t f ih =
        ap (λ (ps : List PunctAt). waits_at e.0 e.1 ∷ ps) (ih (ap (λ b. cond b (Some e.1) (lookup (is_at (nat_cmp k)) (remove_entry (is_at (nat_cmp k)) es))) (sym t) ∙ f))
        ∙ ap (λ c. cond (not c) (waits_at e.0 e.1 ∷ puncts_but k (waiting_in es)) (puncts_but k (waiting_in es))) (others false t (eqb e.0 k) refl)

pub without_none : (ps : List PunctAt) → puncts_without [] ps ≡ ps
without_none ps = filter-all (λ (p : PunctAt). not (has [] p.ticket)) ps (λ p h. refl)

pub without_more : (goes : List ℕ) (i t d : ℕ) (ps : List PunctAt) → i < length goes → t ≡ get_or goes i d → puncts_but t (puncts_without (take i goes) ps) ≡ puncts_without (take (i + 1) goes) ps
without_more goes i t d ps lt is =
    filter-filter (λ (p : PunctAt). not (has (take i goes) p.ticket)) (λ p. not (eqb p.ticket t)) ps
    ∙ filter-agree (λ (p : PunctAt). not (has (take i goes) p.ticket) && not (eqb p.ticket t)) (λ p. not (has (take i goes ++ t ∷ []) p.ticket)) ps (λ p h. each (take i goes) p)
    ∙ ap (λ ts. puncts_without ts ps) (ap (λ n. take i goes ++ n ∷ []) is ∙ sym (take_more goes i d lt))
  where
    each : (ns : List ℕ) (p : PunctAt) → (not (has ns p.ticket) && not (eqb p.ticket t)) ≡ not (has (ns ++ t ∷ []) p.ticket)
    each [] p = ap not (nat_eq_equiv.symm p.ticket t) ∙ last (eqb t p.ticket)
      where
        last : (b : Bool) → not b ≡ not (b || false)
        last true = refl
        last false = refl
    each (n ∷ ns) p = go (eqb n p.ticket) (each ns p)
      where
        go : (b : Bool) → (not (has ns p.ticket) && not (eqb p.ticket t)) ≡ not (has (ns ++ t ∷ []) p.ticket) → (not (b || has ns p.ticket) && not (eqb p.ticket t)) ≡ not (b || has (ns ++ t ∷ []) p.ticket)
        go true ih = refl
        go false ih = ih

-- ---- the listings of a set

pub keeps_listed : (w : List (ℕ × ℕ)) (new : BTreeSet (ℕ × ℕ)) (one : ℕ × ℕ) → UpdatesBy listing_cmp (listing_cmp one) (record { keys = w }) new true → (q : ℕ × ℕ) → list_any (is_at (listing_cmp q)) w ≡ true → list_any (is_at (listing_cmp q)) new.keys ≡ true
keeps_listed w new one put q h = put.0 q ∙ go (is_at (listing_cmp one) q)
  where
    go : (b : Bool) → cond b true (list_any (is_at (listing_cmp q)) w) ≡ true
    go true = refl
    go false = h

-- what was listed, and is not among the first so many of these, is still listed
abbrev pub KeepsAllBut : List (ℕ × ℕ) → List (ℕ × ℕ) → List (ℕ × ℕ) → Type 0
KeepsAllBut freed old now = (q : ℕ × ℕ) → list_any (is_at (listing_cmp q)) old ≡ true → (In q freed → ⊥) → list_any (is_at (listing_cmp q)) now ≡ true

pub frees_more : (freed : List (ℕ × ℕ)) (i : ℕ) (one d : ℕ × ℕ) (old : List (ℕ × ℕ)) (now new : BTreeSet (ℕ × ℕ)) → i < length freed → one ≡ get_or freed i d → UpdatesBy listing_cmp (listing_cmp one) now new false
    → KeepsAllBut (take i freed) old now.keys → KeepsAllBut (take (i + 1) freed) old new.keys
frees_more freed i one d old now new lt is took keeps q h out = took.0 q ∙ go (is_at (listing_cmp one) q) refl
  where
    all : take (i + 1) freed ≡ take i freed ++ one ∷ []
    all = take_more freed i d lt ∙ ap (λ (x : ℕ × ℕ). take i freed ++ x ∷ []) (sym is)

    there : In q (take i freed ++ one ∷ []) → ⊥
    there k = out (subst (λ (xs : List (ℕ × ℕ)). In q xs) (sym all) k)

    go : (b : Bool) → is_at (listing_cmp one) q ≡ b → cond b false (list_any (is_at (listing_cmp q)) now.keys) ≡ true
    go true e = absurd (there (In-append_right q (take i freed) (one ∷ []) (inl (same_listing one q e))))
    go false e = keeps q h (λ k. there (In-append_left q (take i freed) (one ∷ []) k))

-- ---- the listings from a tuple on

-- a listing of a tuple from this one on stands from the tuple's first place on
from_first : (blocker t n : ℕ) → blocker ≤ t → range_contains listing_cmp (Included (blocker, 0)) Unbounded (t, n) ≡ true
from_first blocker t n le = go (nat_cmp blocker t) refl
  where
    go : (o : Ordering) → nat_cmp blocker t ≡ o → (is_le (ordering_then o (nat_cmp 0 n)) && true) ≡ true
    go Less e = refl
    go Equal e = grind (arith, nat_tests)
    go Greater e = grind (arith, nat_tests)

-- a listing that stands before another is of no later tuple
first_part : (a b m n : ℕ) → is_gt (listing_cmp (a, m) (b, n)) ≡ false → a ≤ b
first_part a b m n h = le_from_not_gt a b (go (nat_cmp a b) h)
  where
    go : (o : Ordering) → is_gt (ordering_then o (nat_cmp m n)) ≡ false → is_gt o ≡ false
    go Less e = refl
    go Equal e = refl
    go Greater e = e

-- each of a part at the end of listings in order is of no earlier tuple than the part's first
least_first : (taken behind : List (ℕ × ℕ)) (first : ℕ × ℕ) → IsStrictlySortedBy listing_cmp (taken ++ first ∷ behind) → (q : ℕ × ℕ) → In q (first ∷ behind) → first.0 ≤ q.0
unfolding IsStrictlySortedBy
least_first (x ∷ taken) behind first s q h = least_first taken behind first s.1 q h
least_first [] behind first s q (inl e) = omega (arith, ap (λ (k : ℕ × ℕ). k.0) e)
least_first [] behind first s q (inr h) = go behind s.0 h
  where
    go : (ks : List (ℕ × ℕ)) → AllByRecursion (λ k. listing_cmp first k ≡ Less) ks → In q ks → first.0 ≤ q.0
    go [] a j = absurd j
    go (k ∷ ks) a (inl e) = first_part first.0 q.0 first.1 q.1 (ap is_gt (subst (λ j. listing_cmp first j ≡ Less) e a.0))
    go (k ∷ ks) a (inr j) = go ks a.1 j

-- those that were gone through are of the tuple, and came to the list
pub record TakesUnder (blocker : ℕ) (whole rest old now : List (ℕ × ℕ)) : Type 0 where
  pub taken : List (ℕ × ℕ)
  pub parts : whole ≡ taken ++ rest
  pub joined : now ≡ old ++ taken
  pub under : (q : ℕ × ℕ) → In q taken → q.0 ≡ blocker

pub takes_more : (blocker : ℕ) (whole rest rest' old now now' : List (ℕ × ℕ)) (one : ℕ × ℕ) → TakesUnder blocker whole rest old now → rest ≡ one ∷ rest' → now' ≡ now ++ one ∷ [] → one.0 ≡ blocker → TakesUnder blocker whole rest' old now'
takes_more blocker whole rest rest' old now now' one so is put of = record {
  taken = so.taken ++ one ∷ [];
  parts = so.parts ∙ ap (λ (ks : List (ℕ × ℕ)). so.taken ++ ks) is ∙ sym (append_assoc so.taken (one ∷ []) rest');
  joined = put ∙ ap (λ (ks : List (ℕ × ℕ)). ks ++ one ∷ []) so.joined ∙ append_assoc old so.taken (one ∷ []);
  under = λ q h. go q (In-append_cases q so.taken (one ∷ []) h);
}
  where
    go : (q : ℕ × ℕ) → In q so.taken ⊎ In q (one ∷ []) → q.0 ≡ blocker
    go q (inl h) = so.under q h
    go q (inr (inl e)) = sym (ap (λ (k : ℕ × ℕ). k.0) e) ∙ of
    go q (inr (inr h)) = absurd h

module _ (puncts : List PunctAt) (blocker : ℕ) (set : BTreeSet (ℕ × ℕ)) (whole rest old now : List (ℕ × ℕ)) (is : whole ≡ keys_between listing_cmp (Included (blocker, 0)) Unbounded set) (so : TakesUnder blocker whole rest old now) where
  there : (t n : ℕ) → blocker ≤ t → contains listing_cmp set (t, n) ≡ true → In (t, n) so.taken ⊎ In (t, n) rest
  there t n le h =
      let at = any_at (is_at (listing_cmp (t, n))) set.keys h in
      In-append_cases (t, n) so.taken rest (subst (λ (ks : List (ℕ × ℕ)). In (t, n) ks) (sym is ∙ so.parts)
      (In-filter_from (range_contains listing_cmp (Included (blocker, 0)) Unbounded) (t, n) set.keys
      (subst (λ (k : ℕ × ℕ). In k set.keys) (sym (same_listing (t, n) at.0 at.2)) at.1) (from_first blocker t n le)))

  has_under : ((n : ℕ) → In (blocker, n) rest → ⊥) → HasUnder (record { puncts = puncts; listed = set.keys }) blocker old now
  has_under done = record {
    all = λ n h. in_now (blocker, n) (In-append_right (blocker, n) old so.taken (taken n (there blocker n (omega arith) h)));
    kept = λ q h. in_now q (In-append_left q old so.taken h);
    those = λ q h. of q (In-append_cases q old so.taken (subst (λ (ks : List (ℕ × ℕ)). In q ks) so.joined h));
  }
    where
      in_now : (q : ℕ × ℕ) → In q (old ++ so.taken) → In q now
      in_now q h = subst (λ (ks : List (ℕ × ℕ)). In q ks) (sym so.joined) h

      taken : (n : ℕ) → In (blocker, n) so.taken ⊎ In (blocker, n) rest → In (blocker, n) so.taken
      taken n (inl h) = h
      taken n (inr h) = absurd (done n h)

      of : (q : ℕ × ℕ) → In q old ⊎ In q so.taken → In q old ⊎ (q.0 ≡ blocker)
      of q (inl h) = inl h
      of q (inr h) = inr (so.under q h)

  -- what is listed under a later tuple is still ahead
  later : (t n : ℕ) → blocker < t → contains listing_cmp set (t, n) ≡ true → In (t, n) rest
  later t n lt h = go (there t n (omega (arith, lt)) h)
    where
      go : In (t, n) so.taken ⊎ In (t, n) rest → In (t, n) rest
      go (inl k) = let same = so.under (t, n) k in absurd (omega (arith, same, lt))
      go (inr k) = k

  pub under_at_end : rest ≡ [] → HasUnder (record { puncts = puncts; listed = set.keys }) blocker old now
  under_at_end none = has_under (λ n h. subst (λ (ks : List (ℕ × ℕ)). In (blocker, n) ks) none h)

  pub none_at_end : rest ≡ [] → (t n : ℕ) → blocker < t → contains listing_cmp set (t, n) ≡ false
  none_at_end none t n lt = go (contains listing_cmp set (t, n)) refl
    where
      go : (b : Bool) → contains listing_cmp set (t, n) ≡ b → b ≡ false
      go true e = absurd (subst (λ (ks : List (ℕ × ℕ)). In (t, n) ks) none (later t n lt e))
      go false e = refl

  module _ (first : ℕ × ℕ) (behind : List (ℕ × ℕ)) (sorted : IsStrictlySortedBy listing_cmp set.keys) (some : rest ≡ first ∷ behind) where
    least : (q : ℕ × ℕ) → In q rest → first.0 ≤ q.0
    least q h =
        least_first so.taken behind first
        (subst (λ (ks : List (ℕ × ℕ)). IsStrictlySortedBy listing_cmp ks) (sym is ∙ so.parts ∙ ap (λ (ks : List (ℕ × ℕ)). so.taken ++ ks) some) (IsStrictlySortedBy-filter listing_cmp (range_contains listing_cmp (Included (blocker, 0)) Unbounded) set.keys sorted))
        q (subst (λ (ks : List (ℕ × ℕ)). In q ks) some h)

    not_earlier : blocker ≤ first.0
    not_earlier =
        first_part blocker first.0 0 first.1 (not_gt (listing_cmp (blocker, 0) first) (and_parts (is_le (listing_cmp (blocker, 0) first)) true
        (In-filter (range_contains listing_cmp (Included (blocker, 0)) Unbounded) first set.keys (subst (λ (ks : List (ℕ × ℕ)). In first ks) (sym (so.parts ∙ ap (λ (ks : List (ℕ × ℕ)). so.taken ++ ks) some) ∙ is) (In-append_right first so.taken (first ∷ behind) (inl refl)))).1).0)
      where
        not_gt : (o : Ordering) → is_le o ≡ true → is_gt o ≡ false
        not_gt Less e = refl
        not_gt Equal e = refl
        not_gt Greater e = absurd (false≢true e)

    pub under_at_other : (first.0 ≡ blocker → ⊥) → HasUnder (record { puncts = puncts; listed = set.keys }) blocker old now
    under_at_other other = has_under (λ n h. let le = least (blocker, n) h in other (omega (arith, le, not_earlier)))

    pub least_at_other : (t n : ℕ) → blocker < t → contains listing_cmp set (t, n) ≡ true → first.0 ≤ t
    least_at_other t n lt h = least (t, n) (later t n lt h)

-- ---- the listings under some tuples

-- what is listed under the first so many tuples is in the list, whose listings are under these tuples; and under no later one before the next is anything listed
pub record ListsUnder (w : WaitingView) (blockers : List ℕ) (i next : ℕ) (listed : List (ℕ × ℕ)) : Type 0 where
  pub all : (t n : ℕ) → In t (take i blockers) → is_listed w (t, n) ≡ true → In (t, n) listed
  pub those : AreFreed blockers listed
  pub ahead : (t n : ℕ) → In t (drop i blockers) → is_listed w (t, n) ≡ true → next ≤ t

rising-drop : (xs : List ℕ) (i : ℕ) → IsRising itself xs → IsRising itself (drop i xs)
rising-drop [] zero r = r
rising-drop [] (suc i) r = r
rising-drop (x ∷ xs) zero r = r
rising-drop (x ∷ xs) (suc i) r = rising-drop xs i r.1

module _ (w : WaitingView) (blockers : List ℕ) (i next blocker d : ℕ) (listed : List (ℕ × ℕ)) (lt : i < length blockers) (is : blocker ≡ get_or blockers i d) (so : ListsUnder w blockers i next listed) where
  now_drop : drop i blockers ≡ blocker ∷ drop (i + 1) blockers
  now_drop = drop_more blockers i d lt ∙ ap (λ n. n ∷ drop (i + 1) blockers) (sym is)

  now_take : take (i + 1) blockers ≡ take i blockers ++ blocker ∷ []
  now_take = take_more blockers i d lt ∙ ap (λ n. take i blockers ++ n ∷ []) (sym is)

  here : In blocker (drop i blockers)
  here = subst (λ (ns : List ℕ). In blocker ns) (sym now_drop) (inl refl)

  behind : (t : ℕ) → In t (drop (i + 1) blockers) → In t (drop i blockers)
  behind t h = subst (λ (ns : List ℕ). In t ns) (sym now_drop) (inr h)

  above : IsRising itself blockers → (t : ℕ) → In t (drop (i + 1) blockers) → blocker < t
  above r t h = above-in itself blocker (drop (i + 1) blockers) t (subst (λ (ns : List ℕ). IsRising itself ns) now_drop (rising-drop blockers i r)).0 h

  held : In blocker blockers
  held = subst (λ (ns : List ℕ). In blocker ns) (take-append-drop i blockers) (In-append_right blocker (take i blockers) (drop i blockers) here)

  one_more : (next' : ℕ) (listed' : List (ℕ × ℕ)) → ((q : ℕ × ℕ) → In q listed → In q listed') → AreFreed blockers listed' → ((n : ℕ) → is_listed w (blocker, n) ≡ true → In (blocker, n) listed')
      → ((t n : ℕ) → In t (drop (i + 1) blockers) → is_listed w (t, n) ≡ true → next' ≤ t) → ListsUnder w blockers (i + 1) next' listed'
  one_more next' listed' more freed now ahead = record {
    all = λ t n h l. go t n l (In-append_cases t (take i blockers) (blocker ∷ []) (subst (λ (ns : List ℕ). In t ns) now_take h));
    those = freed;
    ahead = ahead;
  }
    where
      go : (t n : ℕ) → is_listed w (t, n) ≡ true → In t (take i blockers) ⊎ In t (blocker ∷ []) → In (t, n) listed'
      go t n l (inl h) = more (t, n) (so.all t n h l)
      go t n l (inr (inl e)) = subst (λ m. In (m, n) listed') e (now n (subst (λ m. is_listed w (m, n) ≡ true) (sym e) l))
      go t n l (inr (inr h)) = absurd h

  -- nothing is listed under the tuple, which is before the next
  pub lists_skip : blocker < next → ListsUnder w blockers (i + 1) next listed
  lists_skip less = one_more next listed (λ q h. h) so.those (λ n l. absurd (none n l)) (λ t n h l. so.ahead t n (behind t h) l)
    where
      none : (n : ℕ) → is_listed w (blocker, n) ≡ true → ⊥
      none n l = let le = so.ahead blocker n here l in omega (arith, le, less)

  -- what is listed under the tuple came in
  module _ (listed' : List (ℕ × ℕ)) (r : IsRising itself blockers) (has : HasUnder w blocker listed listed') where
    pub freed_more : AreFreed blockers listed'
    freed_more q h = go (has.those q h)
      where
        go : In q listed ⊎ (q.0 ≡ blocker) → In q.0 blockers
        go (inl k) = so.those q k
        go (inr e) = subst (λ m. In m blockers) (sym e) held

    pub lists_more : (next' : ℕ) (found : Option ℕ) → found ≡ Some next' → IfSome found (λ first. (t n : ℕ) → blocker < t → is_listed w (t, n) ≡ true → first ≤ t) → ListsUnder w blockers (i + 1) next' listed'
    lists_more next' found some least = one_more next' listed' has.kept freed_more has.all (λ t n h l. subst (λ o. IfSome o (λ first. (t n : ℕ) → blocker < t → is_listed w (t, n) ≡ true → first ≤ t)) some least t n (above r t h) l)

    -- and nothing is listed under a later one
    pub lists_end : (found : Option ℕ) → found ≡ None → IfNone found ((t n : ℕ) → blocker < t → is_listed w (t, n) ≡ false) → (t n : ℕ) → In t blockers → is_listed w (t, n) ≡ true → In (t, n) listed'
    lists_end found is none t n h l = go (In-append_cases t (take i blockers) (drop i blockers) (subst (λ (ns : List ℕ). In t ns) (sym (take-append-drop i blockers)) h))
      where
        of : In t (blocker ∷ drop (i + 1) blockers) → In (t, n) listed'
        of (inl e) = subst (λ m. In (m, n) listed') e (has.all n (subst (λ m. is_listed w (m, n) ≡ true) (sym e) l))
        of (inr k) = absurd (false≢true (sym (subst (λ o. IfNone o ((t n : ℕ) → blocker < t → is_listed w (t, n) ≡ false)) is none t n (above r t k)) ∙ l))

        go : In t (take i blockers) ⊎ In t (drop i blockers) → In (t, n) listed'
        go (inl k) = has.kept (t, n) (so.all t n k l)
        go (inr k) = of (subst (λ (ns : List ℕ). In t ns) now_drop k)
