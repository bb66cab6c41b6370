-- The table at its start, how seats are split and joined, and what the rule says at the end.
use Rattle.std.proofs.Common.{◌≡◌, ◌≢◌, ◌⊎◌, ℕ, zero, suc, ◌+◌, ◌<◌, ◌≤◌, Bool, true, false, cond, true≢false, List, [], ◌∷◌, ◌++◌, length, set, Option, Some, refl, sym, ap, ◌∙◌, subst, inl, inr, ⊎_elim, le_refl, arith, slice_get, remove, get_or, lt_of_not-le, ◌==◌, eq-eqb}
use mathlib.Core.Option.{some, some-injective, some-ne-none}
use mathlib.Core.Option as maybe
use mathlib.Core.Logic.{dite}
use native.Mathlib.Decide.{ℕ_discrete}
use lib.ListN.{get_elem?}
use Rattle.atomic_table.specs.Table.{State, Splits, Joins, opening}
use Rattle.atomic_table.proofs.Lists.{at_set, set_else, at_longer}
use Rattle.pj_value.proofs.Bags.{weigh-append}
use Rattle.pj_turn.specs.declared.views.SeatView.{SeatView}
use Rattle.pj_turn.specs.Meanings.{KeptMeaning}
use Rattle.pj_turn.specs.History.{own, HasSeen, Closed}
use Rattle.pj_turn.specs.Rule.{bit, ticket_of, life_of, idle_view, first_view, left_of, right_of, pairs_from, all_pairs, longer, joined, spent, Fits, AtHome, IsOut, Orderly}
use Rattle.pj_turn.proofs.Lists.{own_seen, tail_own, off, weigh_set, own-append, seen_all, seen_longer}
use Rattle.pj_turn.proofs.Steps.{same_inside, none_in, one_there}

-- an element of a list with one more: an old one, or the new one at its place
pub at_snoc : {A : Type 0} (l : List A) (a b : A) (j : ℕ) → get_elem? (l ++ a ∷ []) j ≡ some b → (get_elem? l j ≡ some b) ⊎ ((j ≡ length l) × (a ≡ b))
at_snoc [] a b zero e = inr (refl, some-injective a b e)
at_snoc [] a b (suc j) e = absurd (some-ne-none b (sym e))
at_snoc (x ∷ xs) a b zero e = inl e
at_snoc (x ∷ xs) a b (suc j) e = ⊎_elim (λ t. inl t) (λ t. inr (ap suc t.0, t.1)) (at_snoc xs a b j e)

-- what holds of the seat's own pair and of the kept ones holds of what is all_pairs
pairs_all : {E : Type 0} (P : ℕ × List E → Type 0) (n : ℕ) (seen : List E) (ps : List (ℕ × List E)) → P (n, seen) → ((k : ℕ) (p : ℕ × List E) → get_elem? ps k ≡ some p → P p)
    → (k : ℕ) (p : ℕ × List E) → get_elem? (pairs_from n seen ps) k ≡ some p → P p
pairs_all P n seen [] mine rest zero p e = subst P (some-injective (n, seen) p e) mine
pairs_all P n seen [] mine rest (suc k) p e = absurd (some-ne-none p (sym e))
pairs_all P n seen (q ∷ qs) mine rest k p e = rest k p e

back_empty : {E : Type 0} (xs ys : List E) → xs ++ ys ≡ [] → ys ≡ []
back_empty [] ys e = e
back_empty (x ∷ xs) ys e = absurd (cc)

not_here : {E : Type 0} (number : E → ℕ) (e : E) (es : List E) → own number (number e) (e ∷ es) ≡ [] → ⊥
not_here number e es h = cons_not (own number (number e) es) (subst (λ b. cond b (e ∷ own number (number e) es) (own number (number e) es) ≡ []) (eq-eqb (number e) (number e) refl) h)
  where
    cons_not : (xs : List _) → e ∷ xs ≡ [] → ⊥
    cons_not xs h = cc

module _ {T E F : Type 0} (kept : KeptMeaning T E F) (first : F) (seats : ℕ) where
  abbrev K : Type 0
  K = SeatView F E

  abbrev St : Type 0
  St = State (Option T) K

  abbrev Rule : St → Type 0
  Rule = Orderly kept first seats

  abbrev Fit : ℕ → ℕ → ℕ → List E → K → Type 0
  Fit = Fits kept first

  abbrev Home : St → List E → Type 0
  Home = AtHome kept first

  abbrev Out : St → Type 0
  Out = IsOut kept first

  pub begins : (x : T) → kept.fixed x ≡ first → 1 ≤ seats → seats ≤ 64 → kept.stands x [] → Rule (opening (0 ∷ 0 ∷ 0 ∷ []) (Some x ∷ []) (first_view first))
  begins x is one few standing = record {
    next = 0;
    serving = 0;
    count = 1;
    log = [];
    words_are = refl;
    held = refl;
    alive = le_refl 1;
    few = (one, few);
    each = each;
    tickets_apart = λ i j v w ei ej. alone i j v w ei ej;
    numbers_apart = λ i j v w ei ej _ _ _. same_place i j v w ei ej;
    pairs_apart = λ i j k v w p ei ej _ ep _. absurd (no_pairs j k w p ej ep);
    keeps = kept.keeps_none;
    unseated = λ n _. refl;
    slot = inl (x, refl, standing, is, turns);
  }
    where
      v0 : K
      v0 = first_view first

      is_first : (i : ℕ) (v : K) → get_elem? (first_view {F = F} {E = E} first ∷ []) i ≡ some v → (i ≡ 0) × (first_view first ≡ v)
      is_first zero v e = (refl, some-injective (first_view first) v e)
      is_first (suc i) v e = absurd (some-ne-none v (sym e))

      each : (i : ℕ) (v : K) → get_elem? (first_view {F = F} {E = E} first ∷ []) i ≡ some v → Fit 0 0 1 [] v
      each i v e = subst (Fit 0 0 1 []) (is_first i v e).1 record {
        spent_waits_not = λ d. absurd (true≢false d);
        ticketed = λ t. absurd (off t);
        served = λ t. absurd (off t);
        seated = λ _. (omega arith, seen_all kept.number 0 [], refl);
        counts = λ _ _. refl;
        paired = λ k p ep. absurd (some-ne-none p (sym ep));
      }

      same_place : (i j : ℕ) (v w : K) → get_elem? (first_view {F = F} {E = E} first ∷ []) i ≡ some v → get_elem? (first_view {F = F} {E = E} first ∷ []) j ≡ some w → i ≡ j
      same_place i j v w ei ej = (is_first i v ei).0 ∙ sym (is_first j w ej).0

      alone : (i j : ℕ) (v w : K) → get_elem? (first_view {F = F} {E = E} first ∷ []) i ≡ some v → get_elem? (first_view {F = F} {E = E} first ∷ []) j ≡ some w → v.waits ≡ true → w.waits ≡ true → v.ticket ≡ w.ticket → i ≡ j
      alone i j v w ei ej _ _ _ = same_place i j v w ei ej

      no_pairs : (j k : ℕ) (w : K) (p : ℕ × List E) → get_elem? (first_view {F = F} {E = E} first ∷ []) j ≡ some w → get_elem? w.pairs k ≡ some p → ⊥
      no_pairs j k w p ej ep = some-ne-none p (sym (subst (λ (v : K). get_elem? v.pairs k ≡ some p) (sym (is_first j w ej).1) ep))

      turns : (i : ℕ) (v : K) → get_elem? (first_view {F = F} {E = E} first ∷ []) i ≡ some v → v.turn ≡ false
      turns i v e = ap (λ (k : K). k.turn) (sym (is_first i v e).1)

  -- 5: a seat is split off the one with the number 0
  pub splits : (id : ℕ) (v : K) → v.live ≡ true → v.waits ≡ false → v.turn ≡ false → v.number ≡ 0 → length v.pairs ≡ 0 → v.count < seats → Splits Rule id v (left_of v) (right_of v)
  splits id v live idle still zero_is alone room s r at =
      let f = r.each id v at in
      let mine = f.seated live in
      let count_is : v.count ≡ r.count = f.counts live zero_is in
      let l = left_of v in
      let n = right_of v in
      let views = set s.views id l ++ n ∷ [] in
      -- the new seat has seen all of its entries: there are none
      let seen : HasSeen kept.number v.count v.seen r.log = record {
        behind = mine.1.behind;
        begins = mine.1.begins;
        no_own = back_empty (own kept.number v.count v.seen) (own kept.number v.count mine.1.behind) (sym (own-append kept.number v.count v.seen mine.1.behind) ∙ (ap (own kept.number v.count) (sym mine.1.begins) ∙ r.unseated v.count (omega (arith, count_is))));
      } in
      -- who sat there before
      let was : (j : ℕ) (u : K) → get_elem? views j ≡ some u → ((j ≡ id) × (l ≡ u)) ⊎ (((j ≢ id) × (get_elem? s.views j ≡ some u)) ⊎ ((j ≡ length (set s.views id l)) × (n ≡ u))) = λ j u e.
      ⊎_elim (λ old. ⊎_elim (λ x. inl x) (λ x. inr (inl x)) (at_set s.views id j l u old)) (λ new. inr (inr new)) (at_snoc (set s.views id l) n u j e) in
      let low : (j : ℕ) (u : K) → j ≢ id → get_elem? s.views j ≡ some u → Fit r.next r.serving (r.count + 1) r.log u = λ j u apart e. let g = r.each j u e in record {
        spent_waits_not = g.spent_waits_not;
        ticketed = g.ticketed;
        served = g.served;
        seated = λ d. ((let b = (g.seated d).0 in omega (arith, b)), (g.seated d).1, (g.seated d).2);
        counts = λ d z. absurd (apart (r.numbers_apart j id u v e at d live (z ∙ sym zero_is)));
        paired = λ k p ep. let q = g.paired k p ep in ((let b = q.0 in omega (arith, b)), q.1, q.2, q.3);
      } in
      let left_fits : Fit r.next r.serving (r.count + 1) r.log l = record {
        spent_waits_not = f.spent_waits_not;
        ticketed = f.ticketed;
        served = f.served;
        seated = λ d. ((let b = mine.0 in omega (arith, b)), mine.1, mine.2);
        counts = λ _ _. ap (λ k. k + 1) count_is;
        paired = λ k p ep. absurd (none_in v.pairs k p alone ep);
      } in
      let right_fits : Fit r.next r.serving (r.count + 1) r.log n = record {
        spent_waits_not = λ _. refl;
        ticketed = λ t. absurd (off t);
        served = λ t. absurd (off t);
        seated = λ _. ((omega (arith, count_is)), seen, mine.2);
        counts = λ _ z. let b = mine.0 in let z' : v.count ≡ 0 = z in absurd (omega (arith, b, z', count_is));
        paired = λ k p ep. absurd (some-ne-none p (sym ep));
      } in
      let tickets = weigh_set ticket_of s.views id v l at in
      let lives = weigh_set life_of s.views id v l at in
      let tickets' = weigh-append ticket_of (set s.views id l) (n ∷ []) in
      let lives' = weigh-append life_of (set s.views id l) (n ∷ []) in
      let held = r.held in
      let alive = r.alive in
      let live_bit : bit v.live ≡ 1 = ap bit live in
      record {
        next = r.next;
        serving = r.serving;
        count = r.count + 1;
        log = r.log;
        words_are = r.words_are;
        held = omega (arith, tickets, tickets', held);
        alive = omega (arith, lives, lives', alive);
        few = ((omega (arith, count_is, room)), r.few.1);
        each = λ j u e. ⊎_elim
            (λ (x : (j ≡ id) × (l ≡ u)). subst (Fit r.next r.serving (r.count + 1) r.log) x.1 left_fits)
            (λ y. ⊎_elim (λ (x : (j ≢ id) × (get_elem? s.views j ≡ some u)). low j u x.0 x.1) (λ (x : (j ≡ length (set s.views id l)) × (n ≡ u)). subst (Fit r.next r.serving (r.count + 1) r.log) x.1 right_fits) y)
            (was j u e);
        tickets_apart = λ i j x y ex ey wx wy same. ⊎_elim
            (λ (a : (i ≡ id) × (l ≡ x)). absurd (off (sym idle ∙ (ap (λ (k : K). k.waits) a.1 ∙ wx))))
            (λ a'. ⊎_elim
            (λ (a : (i ≢ id) × (get_elem? s.views i ≡ some x)). ⊎_elim
            (λ (b : (j ≡ id) × (l ≡ y)). absurd (off (sym idle ∙ (ap (λ (k : K). k.waits) b.1 ∙ wy))))
            (λ b'. ⊎_elim
            (λ (b : (j ≢ id) × (get_elem? s.views j ≡ some y)). r.tickets_apart i j x y a.1 b.1 wx wy same)
            (λ (b : (j ≡ length (set s.views id l)) × (n ≡ y)). absurd (off (ap (λ (k : K). k.waits) b.1 ∙ wy)))
            b')
            (was j y ey))
            (λ (a : (i ≡ length (set s.views id l)) × (n ≡ x)). absurd (off (ap (λ (k : K). k.waits) a.1 ∙ wx)))
            a')
            (was i x ex);
        numbers_apart = λ i j x y ex ey lx ly same.
            let old_i = was i x ex in
            let old_j = was j y ey in
            let as_old : (k : ℕ) (z : K) → z.live ≡ true → ((k ≡ id) × (l ≡ z)) ⊎ ((k ≢ id) × (get_elem? s.views k ≡ some z)) → (z' : K) × (get_elem? s.views k ≡ some z') × (z'.live ≡ true) × (z'.number ≡ z.number) × (z.number < r.count) = λ k z d c. ⊎_elim
            (λ (a : (k ≡ id) × (l ≡ z)). (v, subst (λ q. get_elem? s.views q ≡ some v) (sym a.0) at, live, ap (λ (q : K). q.number) a.1, subst (λ (q : K). q.number < r.count) a.1 mine.0))
            (λ (a : (k ≢ id) × (get_elem? s.views k ≡ some z)). (z, a.1, d, refl, ((r.each k z a.1).seated d).0))
            c in
            let both_old : ((i ≡ id) × (l ≡ x)) ⊎ ((i ≢ id) × (get_elem? s.views i ≡ some x)) → ((j ≡ id) × (l ≡ y)) ⊎ ((j ≢ id) × (get_elem? s.views j ≡ some y)) → i ≡ j = λ c d.
            let a = as_old i x lx c in
            let b = as_old j y ly d in
            r.numbers_apart i j a.0 b.0 a.1 b.1 a.2 b.2 (a.3 ∙ (same ∙ sym b.3)) in
            let old_new : ((i ≡ id) × (l ≡ x)) ⊎ ((i ≢ id) × (get_elem? s.views i ≡ some x)) → n ≡ y → i ≡ j = λ c d.
            let a = as_old i x lx c in
            let b : v.count ≡ y.number = ap (λ (k : K). k.number) d in
            let below = a.4 in
            absurd (omega (arith, below, b, same, count_is)) in
            let new_old : n ≡ x → ((j ≡ id) × (l ≡ y)) ⊎ ((j ≢ id) × (get_elem? s.views j ≡ some y)) → i ≡ j = λ c d.
            let a = as_old j y ly d in
            let b : v.count ≡ x.number = ap (λ (k : K). k.number) c in
            let below = a.4 in
            absurd (omega (arith, below, b, same, count_is)) in
            ⊎_elim
            (λ a. ⊎_elim (λ b. both_old (inl a) (inl b)) (λ b'. ⊎_elim (λ b. both_old (inl a) (inr b)) (λ b. old_new (inl a) b.1) b') old_j)
            (λ a'. ⊎_elim
            (λ a. ⊎_elim (λ b. both_old (inr a) (inl b)) (λ b'. ⊎_elim (λ b. both_old (inr a) (inr b)) (λ b. old_new (inr a) b.1) b') old_j)
            (λ a. ⊎_elim (λ b. new_old a.1 (inl b)) (λ b'. ⊎_elim (λ b. new_old a.1 (inr b)) (λ b. a.0 ∙ sym b.0) b') old_j)
            a')
            old_i;
        pairs_apart = λ i j k x y p ex ey lx ep same.
            let pair_old : (get_elem? s.views j ≡ some y) → x.number ≡ 0 = λ at_j.
            let q = (r.each j y at_j).paired k p ep in
            let pb = q.0 in
            ⊎_elim
            (λ (a : (i ≡ id) × (l ≡ x)). sym (ap (λ (z : K). z.number) a.1) ∙ zero_is)
            (λ a'. ⊎_elim
            (λ (a : (i ≢ id) × (get_elem? s.views i ≡ some x)). r.pairs_apart i j k x y p a.1 at_j lx ep same)
            (λ (a : (i ≡ length (set s.views id l)) × (n ≡ x)). let b : v.count ≡ x.number = ap (λ (z : K). z.number) a.1 in absurd (omega (arith, b, same, pb, count_is)))
            a')
            (was i x ex) in
            ⊎_elim
            (λ (b : (j ≡ id) × (l ≡ y)). absurd (none_in v.pairs k p alone (subst (λ (z : K). get_elem? z.pairs k ≡ some p) (sym b.1) ep)))
            (λ b'. ⊎_elim
            (λ (b : (j ≢ id) × (get_elem? s.views j ≡ some y)). pair_old b.1)
            (λ (b : (j ≡ length (set s.views id l)) × (n ≡ y)). absurd (some-ne-none p (sym (subst (λ (z : K). get_elem? z.pairs k ≡ some p) (sym b.1) ep))))
            b')
            (was j y ey);
        keeps = r.keeps;
        unseated = λ m le. r.unseated m (omega (arith, le));
        slot = ⊎_elim
            (λ (h : Home s r.log). inl (
              h.0,
              h.1,
              h.2,
              h.3,
              λ j u e. ⊎_elim
                  (λ (x : (j ≡ id) × (l ≡ u)). sym (ap (λ (k : K). k.turn) x.1) ∙ still)
                  (λ y. ⊎_elim (λ (x : (j ≢ id) × (get_elem? s.views j ≡ some u)). h.4 j u x.1) (λ (x : (j ≡ length (set s.views id l)) × (n ≡ u)). sym (ap (λ (k : K). k.turn) x.1)) y)
                  (was j u e),
            ))
            (λ (o : Out s).
            let apart : o.0 ≢ id = λ same. true≢false (sym o.3 ∙ (ap (λ (k : K). k.turn) (one_there s.views id o.1 v (subst (λ i. get_elem? s.views i ≡ some o.1) same o.2) at) ∙ still)) in
            inr (o.0, o.1, at_longer (set s.views id l) (n ∷ []) o.0 o.1 (set_else s.views id o.0 l apart ∙ o.2), o.3, o.4))
            r.slot;
      }

  -- 6: a seat is joined into the one with the number 0
  pub joins : (id other : ℕ) (v u : K) → v.live ≡ true → v.waits ≡ false → v.turn ≡ false → v.number ≡ 0 → u.live ≡ true → u.waits ≡ false → u.turn ≡ false → Joins Rule id v other u (joined v u) spent
  joins id other v u live idle still zero_is live' idle' still' s r at apart at_other =
      let m = joined v u in
      let was_other : get_elem? s.views other ≡ some u = sym (set_else s.views id other m apart) ∙ at_other in
      let f = r.each id v at in
      let g = r.each other u was_other in
      let mine = f.seated live in
      let theirs = g.seated live' in
      let views = set (set s.views id m) other spent in
      let was : (j : ℕ) (w : K) → get_elem? views j ≡ some w → ((j ≡ other) × (spent ≡ w)) ⊎ (((j ≡ id) × (m ≡ w)) ⊎ ((j ≢ other) × (j ≢ id) × (get_elem? s.views j ≡ some w))) = λ j w e.
      ⊎_elim
      (λ x. inl x)
      (λ x. ⊎_elim (λ y. inr (inl y)) (λ y. inr (inr (x.0, y.0, y.1))) (at_set s.views id j m w x.1))
      (at_set (set s.views id m) other j spent w e) in
      let Paired : ℕ × List E → Type 0 = λ p. (p.0 < r.count) × HasSeen kept.number p.0 p.1 r.log × (m.live ≡ true) × (m.number ≡ 0) in
      let old_pair : (k : ℕ) (p : ℕ × List E) → get_elem? (all_pairs v) k ≡ some p → Paired p = pairs_all Paired v.number v.seen v.pairs (mine.0, mine.1, live, zero_is) (λ k p e. f.paired k p e) in
      let m_fits : Fit r.next r.serving r.count r.log m = record {
        spent_waits_not = f.spent_waits_not;
        ticketed = f.ticketed;
        served = λ t. absurd (off (sym still ∙ t));
        seated = λ _. (mine.0, seen_longer kept.number v.number u.number v.seen u.seen r.log mine.1 theirs.1, mine.2);
        counts = f.counts;
        paired = λ k p e. ⊎_elim (λ old. old_pair k p old) (λ new. subst Paired new.1 (theirs.0, theirs.1, live, zero_is)) (at_snoc (all_pairs v) (u.number, u.seen) p k e);
      } in
      let spent_fits : Fit r.next r.serving r.count r.log spent = record {
        spent_waits_not = λ _. refl;
        ticketed = λ t. absurd (off t);
        served = λ t. absurd (off t);
        seated = λ d. absurd (off d);
        counts = λ d _. absurd (off d);
        paired = λ k p ep. absurd (some-ne-none p (sym ep));
      } in
      let tickets = weigh_set ticket_of s.views id v m at in
      let tickets' = weigh_set ticket_of (set s.views id m) other u spent at_other in
      let lives = weigh_set life_of s.views id v m at in
      let lives' = weigh_set life_of (set s.views id m) other u spent at_other in
      let held = r.held in
      let alive = r.alive in
      let no_ticket : bit u.waits ≡ 0 = ap bit idle' in
      -- a seat that lives now, as it was
      let lived : (j : ℕ) (w : K) → get_elem? views j ≡ some w → w.live ≡ true → (j ≢ other) × ((w' : K) × (get_elem? s.views j ≡ some w') × (w'.live ≡ true) × (w'.number ≡ w.number)) = λ j w e d. ⊎_elim
      (λ (x : (j ≡ other) × (spent ≡ w)). absurd (off (ap (λ (k : K). k.live) x.1 ∙ d)))
      (λ y. ⊎_elim
      (λ (x : (j ≡ id) × (m ≡ w)). ((λ same. apart (sym same ∙ x.0)), (v, subst (λ q. get_elem? s.views q ≡ some v) (sym x.0) at, live, ap (λ (k : K). k.number) x.1)))
      (λ (x : (j ≢ other) × (j ≢ id) × (get_elem? s.views j ≡ some w)). (x.0, (w, x.2, d, refl)))
      y)
      (was j w e) in
      let no_wait : (j : ℕ) (w : K) → get_elem? views j ≡ some w → w.waits ≡ true → get_elem? s.views j ≡ some w = λ j w e t. ⊎_elim
      (λ (x : (j ≡ other) × (spent ≡ w)). absurd (off (ap (λ (k : K). k.waits) x.1 ∙ t)))
      (λ y. ⊎_elim
      (λ (x : (j ≡ id) × (m ≡ w)). absurd (off (sym idle ∙ (ap (λ (k : K). k.waits) x.1 ∙ t))))
      (λ (x : (j ≢ other) × (j ≢ id) × (get_elem? s.views j ≡ some w)). x.2)
      y)
      (was j w e) in
      record {
        next = r.next;
        serving = r.serving;
        count = r.count;
        log = r.log;
        words_are = r.words_are;
        held = omega (arith, tickets, tickets', held, no_ticket);
        alive = omega (arith, lives, lives', alive);
        few = r.few;
        each = λ j w e. ⊎_elim
            (λ (x : (j ≡ other) × (spent ≡ w)). subst (Fit r.next r.serving r.count r.log) x.1 spent_fits)
            (λ y. ⊎_elim
            (λ (x : (j ≡ id) × (m ≡ w)). subst (Fit r.next r.serving r.count r.log) x.1 m_fits)
            (λ (x : (j ≢ other) × (j ≢ id) × (get_elem? s.views j ≡ some w)). r.each j w x.2)
            y)
            (was j w e);
        tickets_apart = λ i j x y ex ey wx wy same. r.tickets_apart i j x y (no_wait i x ex wx) (no_wait j y ey wy) wx wy same;
        numbers_apart = λ i j x y ex ey lx ly same.
            let a = (lived i x ex lx).1 in
            let b = (lived j y ey ly).1 in
            r.numbers_apart i j a.0 b.0 a.1 b.1 a.2 b.2 (a.3 ∙ (same ∙ sym b.3));
        pairs_apart = λ i j k x y p ex ey lx ep same.
            let a = lived i x ex lx in
            ⊎_elim
            (λ (b : (j ≡ other) × (spent ≡ y)). absurd (some-ne-none p (sym (subst (λ (z : K). get_elem? z.pairs k ≡ some p) (sym b.1) ep))))
            (λ b'. ⊎_elim
            (λ (b : (j ≡ id) × (m ≡ y)).
            let Apart : ℕ × List E → Type 0 = λ q. q.0 ≡ x.number → x.number ≡ 0 in
            let in_m : get_elem? m.pairs k ≡ some p = subst (λ (z : K). get_elem? z.pairs k ≡ some p) (sym b.1) ep in
            ⊎_elim
            (λ old. pairs_all Apart v.number v.seen v.pairs (λ e. sym e ∙ zero_is) (λ k' q eq e. sym a.1.3 ∙ r.pairs_apart i id k' a.1.0 v q a.1.1 at a.1.2 eq (e ∙ sym a.1.3)) k p old same)
            (λ new. absurd (a.0 (r.numbers_apart i other a.1.0 u a.1.1 was_other a.1.2 live' (a.1.3 ∙ (sym same ∙ sym (ap (λ (q : ℕ × List E). q.0) new.1))))))
            (at_snoc (all_pairs v) (u.number, u.seen) p k in_m))
            (λ (b : (j ≢ other) × (j ≢ id) × (get_elem? s.views j ≡ some y)). sym a.1.3 ∙ r.pairs_apart i j k a.1.0 y p a.1.1 b.2 a.1.2 ep (same ∙ sym a.1.3))
            b')
            (was j y ey);
        keeps = r.keeps;
        unseated = r.unseated;
        slot = ⊎_elim
            (λ (h : Home s r.log). inl (
              h.0,
              h.1,
              h.2,
              h.3,
              λ j w e. ⊎_elim
                  (λ (x : (j ≡ other) × (spent ≡ w)). sym (ap (λ (k : K). k.turn) x.1))
                  (λ y. ⊎_elim
                  (λ (x : (j ≡ id) × (m ≡ w)). sym (ap (λ (k : K). k.turn) x.1) ∙ still)
                  (λ (x : (j ≢ other) × (j ≢ id) × (get_elem? s.views j ≡ some w)). h.4 j w x.2)
                  y)
                  (was j w e),
            ))
            (λ (o : Out s).
            let not_id : o.0 ≢ id = λ same. true≢false (sym o.3 ∙ (ap (λ (k : K). k.turn) (one_there s.views id o.1 v (subst (λ i. get_elem? s.views i ≡ some o.1) same o.2) at) ∙ still)) in
            let not_other : o.0 ≢ other = λ same. true≢false (sym o.3 ∙ (ap (λ (k : K). k.turn) (one_there s.views other o.1 u (subst (λ i. get_elem? s.views i ≡ some o.1) same o.2) was_other) ∙ still')) in
            inr (o.0, o.1, set_else (set s.views id m) other o.0 spent not_other ∙ (set_else s.views id o.0 m not_id ∙ o.2), o.3, o.4))
            r.slot;
      }

  -- what the rule says once every seat was joined into the one with the number 0
  pub record Over (pairs : List (ℕ × List E)) (homes : List (maybe.Option (Option T))) : Type 0 where
    pub log : List E
    pub state : T
    pub at_home : homes ≡ some (Some state) ∷ []
    pub standing : kept.stands state log
    pub fixed_is : kept.fixed state ≡ first
    pub keeps : kept.keeps log
    pub seen : (k : ℕ) (p : ℕ × List E) → get_elem? pairs k ≡ some p → HasSeen kept.number p.0 p.1 log
    pub no_others : (n : ℕ) → seats ≤ n → own kept.number n log ≡ []

  lives_if : (b c : Bool) → (b ≡ false → c ≡ false) → c ≡ true → b ≡ true
  lives_if true c h t = refl
  lives_if false c h t = absurd (off (sym (h refl) ∙ t))

  pub ends : (id : ℕ) (v : K) → v.live ≡ true → v.turn ≡ false → v.number ≡ 0 → ((n : ℕ) → n < seats → (k : ℕ) × (seen : List E) × (get_elem? (all_pairs v) k ≡ some (n, seen)))
      → (s : St) → Rule s → get_elem? s.views id ≡ some v → Over (all_pairs v) s.homes
  ends id v live still zero_is all_joined s r at =
      let f = r.each id v at in
      let mine = f.seated live in
      let over : (h : Home s r.log) → Over (all_pairs v) s.homes = λ h. record {
        log = r.log;
        state = h.0;
        at_home = h.1;
        standing = h.2;
        fixed_is = h.3;
        keeps = r.keeps;
        seen = pairs_all (λ p. HasSeen kept.number p.0 p.1 r.log) v.number v.seen v.pairs mine.1 (λ k p e. (f.paired k p e).1);
        no_others = λ n le. r.unseated n (let c = r.few.0 in omega (arith, c, le));
      } in
      ⊎_elim over
      (λ (o : Out s).
      let i = o.0 in
      let u = o.1 in
      let g = r.each i u o.2 in
      let lives = lives_if u.live u.waits g.spent_waits_not (g.served o.3).0 in
      let low = (g.seated lives).0 in
      let pair = all_joined u.number (let c = r.few.0 in omega (arith, c, low)) in
      let Apart : ℕ × List E → Type 0 = λ q. q.0 ≡ u.number → u.number ≡ 0 in
      let zero' = pairs_all Apart v.number v.seen v.pairs (λ e. sym e ∙ zero_is) (λ k q eq e. r.pairs_apart i id k u v q o.2 at lives eq e) pair.0 (u.number, pair.1) pair.2 refl in
      let same = r.numbers_apart i id u v o.2 at lives live (zero' ∙ sym zero_is) in
      absurd (true≢false (sym o.3 ∙ (ap (λ (k : K). k.turn) (one_there s.views id u v (subst (λ q. get_elem? s.views q ≡ some u) same o.2) at) ∙ still))))
      r.slot

-- where no number from n on stands, all numbers are below n
pub all_below : {E : Type 0} (number : E → ℕ) (n : ℕ) (log : List E) → ((m : ℕ) → n ≤ m → own number m log ≡ []) → (k : ℕ) (d : E) → k < length log → number (get_or log k d) < n
all_below number n [] h k d lt = absurd (omega arith)
all_below number n (e ∷ es) h zero d lt = lt_of_not-le (λ le. not_here number e es (h (number e) le))
all_below number n (e ∷ es) h (suc k) d lt = all_below number n es (λ m le. tail_own number m e es (number e == m) (h m le)) k d (omega arith)

module _ {T E F : Type 0} (kept : KeptMeaning T E F) (first : F) (seats : ℕ) where
  pub closes : (pairs : List (ℕ × List E)) (homes : List (maybe.Option (Option T))) (x : T) (over : Over kept first seats pairs homes) → over.state ≡ x
      → Closed kept first seats (λ n seen. (k : ℕ) × (get_elem? pairs k ≡ some (n, seen))) x
  closes pairs homes x over same = record {
    log = over.log;
    standing = subst (λ y. kept.stands y over.log) same over.standing;
    fixed_is = subst (λ y. kept.fixed y ≡ first) same over.fixed_is;
    keeps = over.keeps;
    seen_all = λ n seen saw. let h = over.seen saw.0 (n, seen) saw.1 in (h, own_seen kept.number n seen over.log h);
    by_seats = all_below kept.number seats over.log over.no_others;
  }

  -- a seat that was split off is as new
  pub splits_as : (id c : ℕ) (v : SeatView F E) → v ≡ idle_view 0 c (Some first) [] → c < seats → Splits (Orderly kept first seats) id v (left_of v) (right_of v)
  splits_as id c v is room = splits kept first seats id v (ap (λ (k : SeatView F E). k.live) is) (ap (λ (k : SeatView F E). k.waits) is) (ap (λ (k : SeatView F E). k.turn) is) (ap (λ (k : SeatView F E). k.number) is)
      (ap (λ (k : SeatView F E). length k.pairs) is) (let n : v.count ≡ c = ap (λ (k : SeatView F E). k.count) is in omega (arith, n, room))

pub pairs_on : {E : Type 0} (n m : ℕ) (seen seen' : List E) (ps : List (ℕ × List E)) (p : ℕ × List E) → pairs_from m seen' (pairs_from n seen ps ++ p ∷ []) ≡ pairs_from n seen ps ++ p ∷ []
pairs_on n m seen seen' [] p = refl
pairs_on n m seen seen' (q ∷ qs) p = refl

pub pairs_joined : {F E : Type 0} (v w : SeatView F E) → all_pairs (joined v w) ≡ all_pairs v ++ (w.number, w.seen) ∷ []
pairs_joined v w = pairs_on v.number v.number v.seen (longer v.seen w.seen) v.pairs (w.number, w.seen)

module _ {A : Type 0} where
  -- an element of a list with one more: an old one, or the new one at its place
  pub get_snoc : (xs : List A) (x s : A) (k : ℕ) → slice_get (xs ++ x ∷ []) k ≡ Some s → (slice_get xs k ≡ Some s) ⊎ ((k ≡ length xs) × (x ≡ s))
  get_snoc [] x s zero e = inr (refl, same_inside x s e)
  get_snoc [] x s (suc k) e = absurd (cc)
  get_snoc (y ∷ ys) x s zero e = inl e
  get_snoc (y ∷ ys) x s (suc k) e = ⊎_elim (λ t. inl t) (λ t. inr (ap suc t.0, t.1)) (get_snoc ys x s k e)

  pub get_front : (xs ys : List A) (s : A) (k : ℕ) → slice_get xs k ≡ Some s → slice_get (xs ++ ys) k ≡ Some s
  get_front [] ys s k e = absurd (cc)
  get_front (x ∷ xs) ys s zero e = e
  get_front (x ∷ xs) ys s (suc k) e = get_front xs ys s k e

  pub get_last : (xs : List A) (x : A) → slice_get (xs ++ x ∷ []) (length xs) ≡ Some x
  get_last [] x = refl
  get_last (y ∷ ys) x = get_last ys x

  pub no_length : (xs : List A) → length xs ≡ 0 → xs ≡ []
  no_length [] h = refl
  no_length (x ∷ xs) h = absurd (omega arith)

  pub at_end : (xs : List A) (x : A) → get_elem? (xs ++ x ∷ []) (length xs) ≡ some x
  at_end [] x = refl
  at_end (y ∷ ys) x = at_end ys x

module _ {A : Type 0} where
  -- after the one at p was taken out, each other is still there
  else_there : (xs : List A) (p k : ℕ) (s : A) → slice_get xs k ≡ Some s → k ≢ p → (j : ℕ) × (slice_get (remove xs p) j ≡ Some s)
  else_there [] p k s e apart = absurd (cc)
  else_there (x ∷ xs) zero zero s e apart = absurd (apart refl)
  else_there (x ∷ xs) zero (suc k) s e apart = (k, e)
  else_there (x ∷ xs) (suc p) zero s e apart = (zero, e)
  else_there (x ∷ xs) (suc p) (suc k) s e apart = let h = else_there xs p k s e (λ same. apart (ap suc same)) in (suc h.0, h.1)

  -- what is there after the one at p was taken out was there before
  pub was_there : (xs : List A) (p j : ℕ) (s : A) → slice_get (remove xs p) j ≡ Some s → (k : ℕ) × (slice_get xs k ≡ Some s)
  was_there [] zero j s e = absurd (cc)
  was_there [] (suc p) j s e = absurd (cc)
  was_there (x ∷ xs) zero j s e = (suc j, e)
  was_there (x ∷ xs) (suc p) zero s e = (zero, e)
  was_there (x ∷ xs) (suc p) (suc j) s e = let h = was_there xs p j s e in (suc h.0, h.1)

module _ {A E : Type 0} (number : A → ℕ) (seen : A → List E) where
  -- where one was taken out and the others were joined into it, all are among the pairs
  pub all_paired : (xs : List A) (p : ℕ) (r : A) (ys : List A) (pairs : List (ℕ × List E)) → slice_get xs p ≡ Some r → number r ≡ 0 → ys ≡ remove xs p → get_elem? pairs 0 ≡ some (0, seen r)
      → ((k : ℕ) (s : A) → slice_get ys k ≡ Some s → (i : ℕ) × (get_elem? pairs i ≡ some (number s, seen s)))
      → (k : ℕ) (s : A) → slice_get xs k ≡ Some s → (i : ℕ) × (get_elem? pairs i ≡ some (number s, seen s))
  all_paired xs p r ys pairs here zero_is rest mine others k s e = dite (ℕ_discrete k p)
      (λ same. let is : r ≡ s = same_inside r s (sym here ∙ (ap (λ j. slice_get xs j) (sym same) ∙ e)) in (0, mine ∙ (λ i. some (sym zero_is i, seen r)) ∙ ap (λ (a : A). some (number a, seen a)) is))
      (λ apart. let j = else_there xs p k s e apart in others j.0 s (ap (λ l. slice_get l j.0) rest ∙ j.1))
