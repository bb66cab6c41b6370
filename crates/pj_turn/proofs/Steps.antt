-- Each step keeps the rule.
use Rattle.std.proofs.Common.{◌≡◌, ◌≢◌, ◌⊎◌, ℕ, zero, suc, ◌+◌, ◌%◌, ◌^◌, ◌<◌, ◌≤◌, Bool, true, false, true≢false, List, [], ◌∷◌, ◌++◌, length, set, Option, Some, None, slice_set, slice_index, refl, sym, ap, ◌∙◌, subst, inl, inr, ⊎_elim, length-append, le_refl, arith}
use Rattle.std.proofs.Math.Nat.{mod-add-mod}
use Rattle.std.proofs.lemmas.Bool.{false_from_ne_true}
use mathlib.Core.Option.{some, some-injective, some-ne-none}
use mathlib.Core.Option as maybe
use mathlib.Core.Logic.{dite}
use native.Mathlib.Decide.{ℕ_discrete}
use lib.ListN.{get_elem?}
use Rattle.atomic_table.specs.Table.{State, Me, Step, keeps, takes, gives, Allows, homes_after}
use Rattle.atomic_table.proofs.Lists.{at_set, set_else, set_again, one_turn}
use Rattle.pj_turn.specs.declared.views.SeatView.{SeatView}
use Rattle.pj_turn.specs.Meanings.{KeptMeaning}
use Rattle.pj_turn.specs.History.{own, HasSeen}
use Rattle.pj_turn.specs.Rule.{bit, ticket_of, life_of, now, Fits, AtHome, IsOut, Orderly, drew, looked, noted, gave_back}
use Rattle.pj_turn.proofs.Lists.{off, weigh_set, weigh_le, own_other, own-append, seen_all, seen_more}

bit_le : (a b : Bool) → (a ≡ false → b ≡ false) → bit b ≤ bit a
bit_le true true h = le_refl 1
bit_le true false h = omega arith
bit_le false true h = absurd (true≢false (h refl))
bit_le false false h = le_refl 0

inner : {A : Type 0} → A → Option A → A
inner d None = d
inner d (Some x) = x

pub same_inside : {A : Type 0} (a b : A) → Some a ≡ Some b → a ≡ b
unfolding inner
same_inside a b e = ap (λ o. inner a o) e

pub set_at : {A : Type 0} (l : List A) (i : ℕ) (a b : A) → get_elem? l i ≡ some a → get_elem? (set l i b) i ≡ some b
set_at [] i a b e = absurd (some-ne-none a (sym e))
set_at (x ∷ xs) zero a b e = refl
set_at (x ∷ xs) (suc i) a b e = set_at xs i a b e

pub none_in : {A : Type 0} (l : List A) (k : ℕ) (a : A) → length l ≡ 0 → get_elem? l k ≡ some a → ⊥
none_in [] k a e h = some-ne-none a (sym h)
none_in (x ∷ xs) k a e h = omega arith

pub one_there : {A : Type 0} (l : List A) (i : ℕ) (a b : A) → get_elem? l i ≡ some a → get_elem? l i ≡ some b → a ≡ b
one_there l i a b x y = some-injective a b (sym x ∙ y)

module _ {T E F : Type 0} (kept : KeptMeaning T E F) (first : F) (seats : ℕ) where
  abbrev K : Type 0
  K = SeatView F E

  abbrev St : Type 0
  St = State (Option T) K

  abbrev M : Type 0
  M = Me (Option T) K

  abbrev Rule : St → Type 0
  Rule = Orderly kept first seats

  abbrev Fit : ℕ → ℕ → ℕ → List E → K → Type 0
  Fit = Fits kept first

  module _ (s : St) (r : Rule s) (id : ℕ) (v : K) (at : get_elem? s.views id ≡ some v) where
    -- the same person sat at j before the step
    abbrev was_at : ℕ → K → Type 0
    was_at j w = (u : K) × (get_elem? s.views j ≡ some u) × (u.live ≡ w.live) × (u.number ≡ w.number) × (u.pairs ≡ w.pairs)

    was : (waits turn : Bool) (ticket : ℕ) (seen : List E) (j : ℕ) (w : K) → get_elem? (set s.views id (now v waits ticket turn seen)) j ≡ some w → was_at j w
    was waits turn ticket seen j w e =
        let new = now v waits ticket turn seen in
        ⊎_elim
        (λ (x : (j ≡ id) × (new ≡ w)). (v, subst (λ i. get_elem? s.views i ≡ some v) (sym x.0) at, ap (λ (y : K). y.live) x.1, ap (λ (y : K). y.number) x.1, ap (λ (y : K). y.pairs) x.1))
        (λ (x : (j ≢ id) × (get_elem? s.views j ≡ some w)). (w, x.1, refl, refl, refl))
        (at_set s.views id j new w e)

    moved : (waits turn : Bool) (ticket : ℕ) (seen : List E) (next serving : ℕ) (log : List E) (words : List ℕ) (homes : List (maybe.Option (Option T)))
        → words ≡ next % 2 ^ 64 ∷ serving % 2 ^ 64 ∷ length log % 2 ^ 64 ∷ []
        → next + bit v.waits + r.serving ≡ r.next + bit waits + serving
        → ((j : ℕ) (u : K) → j ≢ id → get_elem? s.views j ≡ some u → Fit next serving r.count log u)
        → Fit next serving r.count log (now v waits ticket turn seen)
        → (waits ≡ true → (j : ℕ) (u : K) → j ≢ id → get_elem? s.views j ≡ some u → u.waits ≡ true → ticket ≡ u.ticket → ⊥)
        → kept.keeps log
        → ((n : ℕ) → r.count ≤ n → own kept.number n log ≡ [])
        → AtHome kept first record { words = words; homes = homes; views = set s.views id (now v waits ticket turn seen) } log ⊎ IsOut kept first record { words = words; homes = homes; views = set s.views id (now v waits ticket turn seen) }
        → Rule record { words = words; homes = homes; views = set s.views id (now v waits ticket turn seen) }
    moved waits turn ticket seen next serving log words homes ws sums others mine fresh keeps_log none slot =
        let w = now v waits ticket turn seen in
        let tickets = weigh_set ticket_of s.views id v w at in
        let lives = weigh_set life_of s.views id v w at in
        let b = r.held in
        let c = r.alive in
        record {
          next = next;
          serving = serving;
          count = r.count;
          log = log;
          words_are = ws;
          held = omega (arith, tickets, b, sums);
          alive = omega (arith, lives, c);
          few = r.few;
          each = λ j u e. ⊎_elim
              (λ (x : (j ≡ id) × (w ≡ u)). subst (Fit next serving r.count log) x.1 mine)
              (λ (x : (j ≢ id) × (get_elem? s.views j ≡ some u)). others j u x.0 x.1)
              (at_set s.views id j w u e);
          tickets_apart = λ i j x y ex ey wx wy same. ⊎_elim
              (λ (a : (i ≡ id) × (w ≡ x)). ⊎_elim
              (λ (b : (j ≡ id) × (w ≡ y)). a.0 ∙ sym b.0)
              (λ (b : (j ≢ id) × (get_elem? s.views j ≡ some y)). absurd (fresh (ap (λ (k : K). k.waits) a.1 ∙ wx) j y b.0 b.1 wy (ap (λ (k : K). k.ticket) a.1 ∙ same)))
              (at_set s.views id j w y ey))
              (λ (a : (i ≢ id) × (get_elem? s.views i ≡ some x)). ⊎_elim
              (λ (b : (j ≡ id) × (w ≡ y)). absurd (fresh (ap (λ (k : K). k.waits) b.1 ∙ wy) i x a.0 a.1 wx (ap (λ (k : K). k.ticket) b.1 ∙ sym same)))
              (λ (b : (j ≢ id) × (get_elem? s.views j ≡ some y)). r.tickets_apart i j x y a.1 b.1 wx wy same)
              (at_set s.views id j w y ey))
              (at_set s.views id i w x ex);
          numbers_apart = λ i j x y ex ey lx ly same.
              let a = was waits turn ticket seen i x ex in
              let b = was waits turn ticket seen j y ey in
              r.numbers_apart i j a.0 b.0 a.1 b.1 (a.2 ∙ lx) (b.2 ∙ ly) (a.3 ∙ (same ∙ sym b.3));
          pairs_apart = λ i j k x y p ex ey lx ep same.
              let a = was waits turn ticket seen i x ex in
              let b = was waits turn ticket seen j y ey in
              sym a.3 ∙ r.pairs_apart i j k a.0 b.0 p a.1 b.1 (a.2 ∙ lx) (subst (λ ps. get_elem? ps k ≡ some p) (sym b.4) ep) (same ∙ sym a.3);
          keeps = keeps_log;
          unseated = none;
          slot = slot;
        }

    abbrev f : Fit r.next r.serving r.count r.log v
    f = r.each id v at

    apart_views : (j : ℕ) (u : K) → get_elem? s.views j ≡ some u → j ≡ id → u ≡ v
    apart_views j u e same = one_there s.views id u v (subst (λ i. get_elem? s.views i ≡ some u) same e) at

    -- the tickets that are held are less than 2 ^ 64 apart
    near : r.next < r.serving + 2 ^ 64
    near =
        let a = weigh_le ticket_of life_of s.views (λ i u e. bit_le u.live u.waits (r.each i u e).spent_waits_not) in
        let b = r.alive in
        let c = r.few.0 in
        let d = r.few.1 in
        let h = r.held in
        omega (arith, a, b, c, d, h)

    -- who has the turn has the ticket that is served, and so is the one who has it
    only_one : (waits : v.waits ≡ true) → v.ticket ≡ r.serving → (i : ℕ) (u : K) → get_elem? s.views i ≡ some u → u.turn ≡ true → i ≡ id
    only_one waits ticket i u e turn = let t = (r.each i u e).served turn in r.tickets_apart i id u v e at t.0 waits (t.1 ∙ sym ticket)

    -- the seat that has the turn keeps the slot out
    is_out : (waits : v.waits ≡ true) → v.ticket ≡ r.serving → v.turn ≡ true → s.homes ≡ maybe.none ∷ []
    is_out waits ticket turn = ⊎_elim (λ (h : AtHome kept first s r.log). absurd (off (sym (h.4 id v at) ∙ turn))) (λ (o : IsOut kept first s). o.4) r.slot

  -- 1: a ticket is drawn
  pub draws : (n id : ℕ) (me : M) (st : Step (Option T)) → me.0.live ≡ true → me.0.waits ≡ false → Allows Rule n id me 0 (λ y. (y + 1) % 2 ^ 64) (drew st me)
  draws n id me st live idle s r wide at small =
      let v = me.0 in
      let f = r.each id v at in
      let held = r.held in
      let w = now v true r.next false v.seen in
      let zero_bit : bit v.waits ≡ 0 = ap bit idle in
      let ge : r.serving ≤ r.next = omega (arith, held) in
      let words = ap (λ ws. slice_set ws 0 ((slice_index ws 0 + 1) % 2 ^ 64)) r.words_are ∙ ap (λ k. k ∷ r.serving % 2 ^ 64 ∷ length r.log % 2 ^ 64 ∷ []) (mod-add-mod r.next (2 ^ 64) 1) in (
        w,
        keeps,
        tt,
        moved s r id v at true false r.next v.seen (r.next + 1) r.serving r.log _ s.homes words (omega (arith, zero_bit))
            (λ j u apart e. let g = r.each j u e in record {
              spent_waits_not = g.spent_waits_not;
              ticketed = λ t. ((g.ticketed t).0, (let l = (g.ticketed t).1 in omega (arith, l)));
              served = g.served;
              seated = g.seated;
              counts = g.counts;
              paired = g.paired;
            })
            record {
              spent_waits_not = λ d. absurd (true≢false (sym live ∙ d));
              ticketed = λ _. (ge, omega arith);
              served = λ t. absurd (off t);
              seated = f.seated;
              counts = f.counts;
              paired = f.paired;
            }
            (λ _ j u apart e waits same. let l = ((r.each j u e).ticketed waits).1 in omega (arith, l, same))
            r.keeps
            r.unseated
            (⊎_elim
            (λ (h : AtHome kept first s r.log). inl (
              h.0,
              h.1,
              h.2,
              h.3,
              λ j u e. ⊎_elim
                  (λ (x : (j ≡ id) × (w ≡ u)). ap (λ (k : K). k.turn) (sym x.1))
                  (λ (x : (j ≢ id) × (get_elem? s.views j ≡ some u)). h.4 j u x.1)
                  (at_set s.views id j w u e),
            ))
            (λ (o : IsOut kept first s).
            let apart : o.0 ≢ id = λ same. true≢false (sym (((r.each o.0 o.1 o.2).served o.3).0) ∙ (ap (λ (k : K). k.waits) (apart_views s r id v at o.0 o.1 o.2 same) ∙ idle)) in
            inr (o.0, o.1, set_else s.views id o.0 w apart ∙ o.2, o.3, o.4))
            r.slot),
        (r.next, ap (λ ws. slice_index ws 0) r.words_are, refl),
      )

  -- 2: a look at the served number, which takes the slot where it is the seat's turn
  pub looks : (n id : ℕ) (me : M) (st : Step (Option T)) → me.0.live ≡ true → me.0.waits ≡ true → me.0.turn ≡ false → Allows Rule n id me 1 (λ y. y) (looked kept st me)
  looks n id me st live waits not_yet s r wide at small =
      let v = me.0 in
      let f = r.each id v at in
      let found : slice_index s.words 1 ≡ r.serving % 2 ^ 64 = ap (λ ws. slice_index ws 1) r.words_are in
      let same_words = ap (λ ws. slice_set ws 1 (slice_index ws 1)) r.words_are in
      dite (ℕ_discrete (slice_index s.words 1) (v.ticket % 2 ^ 64))
      (λ hit.
      let range = f.ticketed waits in
      let lo = range.0 in
      let hi = range.1 in
      let close = near s r id v at in
      let is : r.serving ≡ v.ticket = one_turn r.serving v.ticket (2 ^ 64) lo (omega (arith, hi, close)) (sym found ∙ hit) in
      let w = now v true v.ticket true r.log in
      ⊎_elim
      (λ (h : AtHome kept first s r.log). (
        w,
        takes 0 (Some h.0),
        ap (λ hs. get_elem? hs 0) h.1,
        moved s r id v at true true v.ticket r.log r.next r.serving r.log _ _ same_words (let b : bit v.waits ≡ 1 = ap bit waits in omega (arith, b))
            (λ j u apart e. r.each j u e)
            record {
              spent_waits_not = λ d. absurd (true≢false (sym live ∙ d));
              ticketed = λ _. range;
              served = λ _. (refl, sym is, refl);
              seated = λ l. ((f.seated l).0, seen_all kept.number v.number r.log, (f.seated l).2);
              counts = f.counts;
              paired = f.paired;
            }
            (λ _ j u apart e theirs same. apart (sym (r.tickets_apart id j v u at e waits theirs same)))
            r.keeps
            r.unseated
            (inr (id, w, set_at s.views id v w at, refl, ap (λ hs. slice_set hs 0 maybe.none) h.1)),
        (
          (λ _. record {
            state = h.0;
            log = r.log;
            fixed = first;
            seat = refl;
            standing = h.2;
            keeps = r.keeps;
            seen_so_far = (f.seated live).1;
            known = (f.seated live).2;
            fixed_is = h.3;
          }),
          (λ miss. absurd (miss hit)),
        ),
      ))
      (λ (o : IsOut kept first s).
      absurd (true≢false (sym o.3 ∙ (ap (λ (k : K). k.turn) (apart_views s r id v at o.0 o.1 o.2 (only_one s r id v at waits (sym is) o.0 o.1 o.2 o.3)) ∙ not_yet))))
      r.slot)
      (λ miss. (
        v,
        keeps,
        tt,
        subst Rule (λ i. record { words = sym (same_words ∙ sym r.words_are) i; homes = s.homes; views = sym (set_again s.views id v at) i }) r,
        ((λ hit. absurd (miss hit)), (λ _. refl)),
      ))

  -- 3: the entry is noted
  pub notes : (n id : ℕ) (me : M) (st : Step (Option T)) (e : E) → me.0.live ≡ true → me.0.waits ≡ true → me.0.turn ≡ true → length me.0.pairs ≡ 0 → kept.number e ≡ me.0.number → kept.keeps (me.0.seen ++ e ∷ [])
      → Allows Rule n id me 2 (λ y. (y + 1) % 2 ^ 64) (noted (e ∷ []) st me)
  notes n id me st e live waits turn alone by law s r wide at small =
      let v = me.0 in
      let f = r.each id v at in
      let turned = f.served turn in
      let whole : v.seen ≡ r.log = turned.2 in
      let log : List E = r.log ++ e ∷ [] in
      let now_seen : v.seen ++ e ∷ [] ≡ log = ap (λ l. l ++ e ∷ []) whole in
      let w = now v true v.ticket true (v.seen ++ e ∷ []) in
      let more : (length r.log + 1) % 2 ^ 64 ≡ length log % 2 ^ 64 = ap (λ k. k % 2 ^ 64) (sym (length-append r.log (e ∷ []))) in
      let words = ap (λ ws. slice_set ws 2 ((slice_index ws 2 + 1) % 2 ^ 64)) r.words_are ∙ ap (λ k. r.next % 2 ^ 64 ∷ r.serving % 2 ^ 64 ∷ k ∷ []) (mod-add-mod (length r.log) (2 ^ 64) 1 ∙ more) in
      let mine = f.seated live in
      -- the number of the entry is no other's
      let not_by : (j : ℕ) (u : K) → j ≢ id → get_elem? s.views j ≡ some u → u.live ≡ true → kept.number e ≢ u.number = λ j u apart at' l same. apart (sym (r.numbers_apart id j v u at at' live l (sym by ∙ same))) in (
        w,
        keeps,
        tt,
        moved s r id v at true true v.ticket (v.seen ++ e ∷ []) r.next r.serving log _ s.homes words (let b : bit v.waits ≡ 1 = ap bit waits in omega (arith, b))
            (λ j u apart at'. let g = r.each j u at' in record {
              spent_waits_not = g.spent_waits_not;
              ticketed = g.ticketed;
              served = λ t. absurd (apart (only_one s r id v at waits turned.1 j u at' t));
              seated = λ l. ((g.seated l).0, seen_more kept.number u.number u.seen r.log e (not_by j u apart at' l) (g.seated l).1, (g.seated l).2);
              counts = g.counts;
              paired = λ k p ep. let q = g.paired k p ep in
                  (q.0, seen_more kept.number p.0 p.1 r.log e (λ same. not_by j u apart at' q.2 (by ∙ (r.pairs_apart id j k v u p at at' live ep (sym same ∙ by) ∙ sym q.3))) q.1, q.2, q.3);
            })
            record {
              spent_waits_not = λ d. absurd (true≢false (sym live ∙ d));
              ticketed = λ _. f.ticketed waits;
              served = λ _. (refl, turned.1, now_seen);
              seated = λ l. (mine.0, subst (λ z. HasSeen kept.number v.number z log) (sym now_seen) (seen_all kept.number v.number log), mine.2);
              counts = f.counts;
              paired = λ k p ep. absurd (none_in v.pairs k p alone ep);
            }
            (λ _ j u apart at' theirs same. apart (sym (r.tickets_apart id j v u at at' waits theirs same)))
            (subst kept.keeps now_seen law)
            (λ m le. own-append kept.number m r.log (e ∷ []) ∙ (ap (λ l. l ++ own kept.number m (e ∷ [])) (r.unseated m le) ∙ own_other kept.number m e (λ same. let l = mine.0 in let z : kept.number e ≡ v.number = by in omega (arith, l, le, same, z))))
            (inr (id, w, set_at s.views id v w at, refl, is_out s r id v at waits turned.1 turn)),
        refl,
      )

  -- 4: the next is served, and the slot is given back
  pub gives_back : (n id : ℕ) (me : M) (st : Step (Option T)) (x : T) (c : List (ℕ × Option T)) → me.0.live ≡ true → me.0.waits ≡ true → me.0.turn ≡ true → me.1 ≡ (0, Some x) ∷ c
      → kept.stands x me.0.seen → me.0.fixed ≡ Some (kept.fixed x) → Allows Rule n id me 1 (λ y. (y + 1) % 2 ^ 64) (gave_back st me)
  gives_back n id me st x c live waits turn holds standing known s r wide at small =
      let v = me.0 in
      let f = r.each id v at in
      let turned = f.served turn in
      let w = now v false v.ticket false v.seen in
      let words = ap (λ ws. slice_set ws 1 ((slice_index ws 1 + 1) % 2 ^ 64)) r.words_are ∙ ap (λ k. r.next % 2 ^ 64 ∷ k ∷ length r.log % 2 ^ 64 ∷ []) (mod-add-mod r.serving (2 ^ 64) 1) in
      let first_is : kept.fixed x ≡ first = same_inside (kept.fixed x) first (sym known ∙ (f.seated live).2) in
      let others_not : (j : ℕ) (u : K) → j ≢ id → get_elem? s.views j ≡ some u → u.turn ≡ false = λ j u apart at'. false_from_ne_true u.turn (λ t. apart (only_one s r id v at waits turned.1 j u at' t)) in (
        w,
        gives,
        tt,
        moved s r id v at false false v.ticket v.seen r.next (r.serving + 1) r.log _ _ words (let b : bit v.waits ≡ 1 = ap bit waits in omega (arith, b))
            (λ j u apart at'. let g = r.each j u at' in record {
              spent_waits_not = g.spent_waits_not;
              ticketed = λ t.
                  let range = g.ticketed t in
                  let lo = range.0 in
                  let ne : u.ticket ≢ r.serving = λ same. apart (r.tickets_apart j id u v at' at t waits (same ∙ sym turned.1)) in
                  (omega (arith, lo, ne), range.1);
              served = λ t. absurd (apart (only_one s r id v at waits turned.1 j u at' t));
              seated = g.seated;
              counts = g.counts;
              paired = g.paired;
            })
            record {
              spent_waits_not = λ _. refl;
              ticketed = λ t. absurd (off t);
              served = λ t. absurd (off t);
              seated = f.seated;
              counts = f.counts;
              paired = f.paired;
            }
            (λ t. absurd (off t))
            r.keeps
            r.unseated
            (inl (
              x,
              ap (λ hs. homes_after hs me.1 gives) (is_out s r id v at waits turned.1 turn) ∙ ap (λ l. homes_after (maybe.none ∷ []) l gives) holds,
              subst (kept.stands x) turned.2 standing,
              first_is,
              λ j u e. ⊎_elim
                  (λ (y : (j ≡ id) × (w ≡ u)). ap (λ (k : K). k.turn) (sym y.1))
                  (λ (y : (j ≢ id) × (get_elem? s.views j ≡ some u)). others_not j u y.0 y.1)
                  (at_set s.views id j w u e),
            )),
        refl,
      )
