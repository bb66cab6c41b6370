-- What a sweep finds over the rows that it judges.
use Rattle.std.proofs.Common.{ℕ, zero, suc, ◌+◌, ◌-◌, ◌<◌, ◌≤◌, Bool, true, false, cond, not, ◌&&◌, ◌||◌, List, [], ◌∷◌, ◌++◌, ◌≡◌, ◌⊎◌, Option, Some, None, map, filter, take, drop, length, get_or, refl, sym, ap, ap₂, ◌∙◌, subst, inl, inr, eqb, ltb, arith, append_assoc, append-nil}
use Rattle.std.specs.List.{slice_get}
use Rattle.std.proofs.lemmas.Bool.{and_from, and_parts, and_right, eq-eqb, eqb-true, false_from_ne_true, false≢true, lt-ltb, ltb-false, ltb-true, or_parts}
use Rattle.std.proofs.lemmas.List.{map-append, take_more}
use Rattle.std.proofs.lemmas.Option.{get_or_from_slice_get}
use Rattle.std.proofs.lemmas.List.Folds.{list_any-append}
use Rattle.pj_value.specs.declared.values.Value.{Value}
use Rattle.pj_value.proofs.Members.{In-append_left, In-append_right, In-append_cases, In-filter, In-filter_from, In-flat_map, In-flat_map_from, any_at}
use Rattle.pj_state.specs.declared.shared.Stored.{Stored}
use Rattle.pj_state.specs.Rising.{IsRising, first_with, itself}
use Rattle.pj_state.specs.States.{pair_of, row_in as row_found, row_under, stored, ticket_of, tickets_of}
use Rattle.pj_cover.specs.declared.ripeness.Verdict.{Verdict}
use Rattle.pj_cover.specs.declared.ripeness.Verdict.TheVariants.{Ripe, Open, Lagging}
use Rattle.pj_cover.specs.Asking.{IsJudged, Known, TellsRipe, all_covered, entries, known_of, says_ripe, tuple_of}
use Rattle.pj_events.specs.Join.{CertEntry, In, TupleAt, has}
use Rattle.pj_recheck.specs.Judging.{JudgeView, one_if, ripe_at, row_in, rows_at}
use Rattle.pj_rows.specs.Tuples.{row_pairs, under_with}
use Rattle.pj_recheck.specs.Watching.{AreJudged, AreLookedAt, HaveBetween, HaveDue, IsLookedAt, IsOneJudged, IsVerdict, NoneIsRipe, all_picked, is_passed, marked_by, picked}
use Rattle.pj_recheck.specs.declared.marks.SweepResult.{SweepResult}
use Rattle.pj_recheck.specs.declared.marks.DueRechecks.{DueRechecks}
use Rattle.pj_rows.proofs.Rising.{above-in, rising-append, rising-filter, rising-same}
use Rattle.pj_rows.proofs.Under.{flat-more, under-in, under-own}

-- ---- young rows

pub drop_one : {A : Type 0} (xs : List A) (i : ℕ) (x : A) → slice_get xs i ≡ Some x → drop i xs ≡ x ∷ drop (i + 1) xs
drop_one [] i x e = absurd (cc)
drop_one {A} (y ∷ ys) zero x e = ap (λ (z : A). z ∷ ys) (get_or_from_slice_get (y ∷ ys) 0 x x e)
drop_one {A} (y ∷ ys) (suc i) x e = let n : suc (i + 1) ≡ suc i + 1 = omega arith in drop_one ys i x e ∙ ap (λ k. x ∷ drop k (y ∷ ys)) n

pub young_more : (rows : List Stored) (list list' : List ℕ) (count back i low : ℕ) (s : Stored) → slice_get rows i ≡ Some s → i + 1 ≡ count - back → i ≡ count - (back + 1) → list' ≡ list ++ one_if (ltb s.ticket low) s.ticket
    → ((t : Stored) → In t (drop (count - back) rows) → t.ticket < low → In t.ticket list) → (t : Stored) → In t (drop (count - (back + 1)) rows) → t.ticket < low → In t.ticket list'
young_more rows list list' count back i low s at n m is all t h lt =
    subst (λ (ns : List ℕ). In t.ticket ns) (sym is)
    (go (subst (λ (ts : List Stored). In t ts) (ap (λ k. drop k rows) (sym m) ∙ drop_one rows i s at ∙ ap (λ k. s ∷ drop k rows) n) h))
  where
    go : In t (s ∷ drop (count - back) rows) → In t.ticket (list ++ one_if (ltb s.ticket low) s.ticket)
    go (inl e) = In-append_right t.ticket list (one_if (ltb s.ticket low) s.ticket) (subst (λ b. In t.ticket (one_if b s.ticket)) (sym (lt-ltb s.ticket low (subst (λ n. n < low) (sym (ap ticket_of e)) lt))) (inl (ap ticket_of e)))
    go (inr k) = In-append_left t.ticket list (one_if (ltb s.ticket low) s.ticket) (all t k lt)

behind : (rows : List Stored) (i : ℕ) (x s : Stored) → IsRising ticket_of rows → slice_get rows i ≡ Some x → In s rows → x.ticket < s.ticket → In s (drop (i + 1) rows)
behind [] i x s r at h lt = absurd h
behind (y ∷ ys) zero x s r at (inl e) lt = let q : s.ticket ≡ x.ticket = ap ticket_of (sym e ∙ get_or_from_slice_get (y ∷ ys) 0 x x at) in absurd (omega (arith, lt, q))
behind (y ∷ ys) zero x s r at (inr h) lt = h
behind (y ∷ ys) (suc i) x s r at (inl e) lt =
    let a : y.ticket < x.ticket = above-in ticket_of y.ticket ys x r.0 (place ys i at) in
    let q : y.ticket ≡ s.ticket = ap ticket_of e in absurd (omega (arith, lt, a, q))
  where
    place : (zs : List Stored) (k : ℕ) → slice_get zs k ≡ Some x → In x zs
    place [] k e = absurd (cc)
    place (z ∷ zs) zero e = inl (get_or_from_slice_get (z ∷ zs) 0 x x e)
    place (z ∷ zs) (suc k) e = inr (place zs k e)
behind (y ∷ ys) (suc i) x s r at (inr h) lt = let n : suc (i + 1) ≡ suc i + 1 = omega arith in subst (λ k. In s (drop k (y ∷ ys))) n (behind ys i x s r.1 at h lt)

pub young_stop : (rows : List Stored) (list : List ℕ) (count back i from low : ℕ) (x : Stored) → IsRising ticket_of rows → slice_get rows i ≡ Some x → i + 1 ≡ count - back → x.ticket < from
    → ((t : Stored) → In t (drop (count - back) rows) → t.ticket < low → In t.ticket list) → HaveBetween rows from low list
young_stop rows list count back i from low x r at n lt all t h le = all t (subst (λ k. In t (drop k rows)) n (behind rows i x t r at h (omega (arith, lt, le))))

pub append_empty : (xs ys : List ℕ) → length ys ≡ 0 → xs ≡ xs ++ ys
append_empty xs [] e = sym (append-nil xs)
append_empty xs (y ∷ ys) e = absurd (omega (arith, e))

pub judged_all : (w : DueRechecks) (rows : List Stored) (low : ℕ) (young list tickets : List ℕ) → HaveBetween rows w.from low young → list ≡ young ++ w.marked → ((n : ℕ) → In n list → In n tickets)
    → HaveDue rows w low tickets
judged_all w rows low young list tickets all is more s h f below = more s.ticket (subst (λ (ns : List ℕ). In s.ticket ns) (sym is) (go (ltb s.ticket w.from) refl (has w.marked s.ticket) refl f))
  where
    go : (a : Bool) → ltb s.ticket w.from ≡ a → (b : Bool) → has w.marked s.ticket ≡ b → (a && not b) ≡ false → In s.ticket (young ++ w.marked)
    go true e true g q = In-append_right s.ticket young w.marked (let m = any_at (λ n. eqb n s.ticket) w.marked g in subst (λ n. In n w.marked) (eqb-true m.0 s.ticket m.2) m.1)
    go true e false g q = absurd (false≢true (sym q))
    go false e b g q = In-append_left s.ticket young w.marked (all s h (ltb-false s.ticket w.from e) below)

-- the last one has the greatest ticket
pub last_below : (rows : List Stored) (i from : ℕ) (x : Stored) → IsRising ticket_of rows → slice_get rows i ≡ Some x → length rows ≤ i + 1 → x.ticket < from → (s : Stored) → In s rows → s.ticket < from
last_below [] i from x r at le lt s h = absurd h
last_below (y ∷ []) zero from x r at le lt s (inl e) = let q : s.ticket ≡ x.ticket = ap ticket_of (sym e ∙ get_or_from_slice_get (y ∷ []) 0 x x at) in omega (arith, lt, q)
last_below (y ∷ []) zero from x r at le lt s (inr h) = absurd h
last_below (y ∷ z ∷ rows) zero from x r at le lt s h = absurd (omega (arith, le))
last_below (y ∷ rows) (suc i) from x r at le lt s (inr h) = last_below rows i from x r.1 at (omega (arith, le)) lt s h
last_below (y ∷ rows) (suc i) from x r at le lt s (inl e) =
    let a : y.ticket < x.ticket = above-in ticket_of y.ticket rows x r.0 (place rows i at) in
    let q : y.ticket ≡ s.ticket = ap ticket_of e in omega (arith, lt, a, q)
  where
    place : (zs : List Stored) (k : ℕ) → slice_get zs k ≡ Some x → In x zs
    place [] k e = absurd (cc)
    place (z ∷ zs) zero e = inl (get_or_from_slice_get (z ∷ zs) 0 x x e)
    place (z ∷ zs) (suc k) e = inr (place zs k e)

-- ---- one row

pub verdict_is : (j : JudgeView) (s : Stored) (v : Verdict) → s.ticket < j.low → TellsRipe (known_of j.spec (row_pairs j.row_states) j.punct_stores j.low) (entries j.schemes j.cert) j.input s.row v
    → IsJudged (known_of j.spec (row_pairs j.row_states) j.punct_stores j.low) (entries j.schemes j.cert) (tuple_of j.input (pair_of s) ∷ []) v → IsVerdict j s v
verdict_is j s v lt tells = go v (tells s.ticket)
  where
    facts : Known
    facts = known_of j.spec (row_pairs j.row_states) j.punct_stores j.low

    cert : List CertEntry
    cert = entries j.schemes j.cert

    own : TupleAt
    own = tuple_of j.input (pair_of s)

    go : (w : Verdict) → says_ripe w ≡ all_covered facts cert (own ∷ []) → IsJudged facts cert (own ∷ []) w → IsVerdict j s w
    go Ripe t said = and_from (ltb s.ticket j.low) _ (lt-ltb s.ticket j.low lt) (sym t)
    go Open t said = (and_right (ltb s.ticket j.low) (all_covered facts cert (own ∷ [])) (sym t), λ l. said)
    go Lagging t said = and_right (ltb s.ticket j.low) (all_covered facts cert (own ∷ [])) (sym t)

pub under_at : (rows : List Stored) (ticket : ℕ) (row : List Value) → Some row ≡ row_under ticket rows → (at : ℕ) × (slice_get rows at ≡ Some (stored ticket row))
under_at [] ticket row e = absurd (cc)
under_at (s ∷ rows) ticket row e = go (eqb s.ticket ticket) refl e (under_at rows ticket row)
  where
    go : (b : Bool) → eqb s.ticket ticket ≡ b → Some row ≡ row_found (cond b (Some s) (first_with ticket_of ticket rows)) → (Some row ≡ row_under ticket rows → (at : ℕ) × (slice_get rows at ≡ Some (stored ticket row)))
        → (at : ℕ) × (slice_get (s ∷ rows) at ≡ Some (stored ticket row))
    go true f k ih = (0, ap₂ (λ n (r : List Value). Some (stored n r)) (eqb-true s.ticket ticket f) (same k))
      where
        same : Some row ≡ Some s.row → s.row ≡ row
        same q = cc
    go false f k ih = let r = ih k in (suc r.0, r.1)

has-split : (ns ms : List ℕ) (n : ℕ) → has (ns ++ ms) n ≡ false → (has ns n ≡ false) × (has ms n ≡ false)
has-split ns ms n e = or_parts (has ns n) (has ms n) (sym (list_any-append (λ m. eqb m n) ns ms) ∙ e)

pub judged_none : (j : JudgeView) (ticket : ℕ) (old : SweepResult) → None ≡ row_under ticket (rows_at j) → IsOneJudged j ticket old old
judged_none j ticket old e = record {
  gone = sym (append-nil old.gone) ∙ ap (λ (o : Option (List Value)). old.gone ++ tickets_of (filter (ripe_at j) (under_with ticket o))) e;
  more = λ m f. f;
  looked = λ row at. absurd (clash (e ∙ sym at));
}
  where
    clash : {row : List Value} → None ≡ Some row → ⊥
    clash q = cc

pub judged_row : (j : JudgeView) (ticket : ℕ) (row : List Value) (v : Verdict) (old new : SweepResult) → Some row ≡ row_under ticket (rows_at j) → IsVerdict j (stored ticket row) v
    → new.gone ≡ old.gone ++ one_if (says_ripe v) ticket → new.marked ≡ old.marked ++ one_if (marked_by v) ticket → IsOneJudged j ticket old new
judged_row j ticket row v old new at is gone marked = record {
  gone = gone ∙ ap (λ (ts : List ℕ). old.gone ++ ts) (picks v is ∙ ap (λ (o : Option (List Value)). tickets_of (filter (ripe_at j) (under_with ticket o))) at);
  more = λ m f. (has-split old.marked (one_if (marked_by v) ticket) m (ap (λ ns. has ns m) (sym marked) ∙ f)).0;
  looked = λ other here. subst (λ (r : List Value). IsLookedAt j new.marked (stored ticket r)) (same (at ∙ sym here)) (look v is marked);
}
  where
    same : {a b : List Value} → Some a ≡ Some b → a ≡ b
    same q = cc

    picks : (w : Verdict) → IsVerdict j (stored ticket row) w → one_if (says_ripe w) ticket ≡ tickets_of (filter (ripe_at j) (stored ticket row ∷ []))
    picks Ripe t = sym (ap (λ b. tickets_of (cond b (stored ticket row ∷ []) [])) t)
    picks Open t = sym (ap (λ b. tickets_of (cond b (stored ticket row ∷ []) [])) t.0)
    picks Lagging t = sym (ap (λ b. tickets_of (cond b (stored ticket row ∷ []) [])) t)

    look : (w : Verdict) → IsVerdict j (stored ticket row) w → new.marked ≡ old.marked ++ one_if (marked_by w) ticket → IsLookedAt j new.marked (stored ticket row)
    look Ripe t m lt f none = absurd (false≢true (sym f ∙ t))
    look Open t m lt f none = t.1 lt
    look Lagging t m lt f none =
        absurd (false≢true (sym ((has-split old.marked (ticket ∷ []) ticket (ap (λ ns. has ns ticket) (sym m) ∙ none)).1) ∙ ap (λ b. b || false) (eq-eqb ticket ticket refl)))

next-picked : (j : JudgeView) (tickets : List ℕ) (i t : ℕ) → i < length tickets → t ≡ get_or tickets i 0 → all_picked j (take (i + 1) tickets) ≡ all_picked j (take i tickets) ++ picked j t
next-picked j tickets i t lt is = ap (all_picked j) (take_more tickets i 0 lt ∙ ap (λ n. take i tickets ++ n ∷ []) (sym is)) ∙ flat-more (picked j) (take i tickets) t

pub judged_more : (j : JudgeView) (tickets : List ℕ) (i t : ℕ) (old new : SweepResult) → i < length tickets → t ≡ get_or tickets i 0
    → AreJudged j (take i tickets) old → IsOneJudged j t old new → AreJudged j (take (i + 1) tickets) new
judged_more j tickets i t old new lt is before one = record {
  gone = one.gone ∙ ap (λ (ts : List ℕ). ts ++ tickets_of (picked j t)) before.gone ∙ sym (ap tickets_of (next-picked j tickets i t lt is) ∙ map-append ticket_of (all_picked j (take i tickets)) (picked j t));
  looked = looked;
}
  where
    looked : (n : ℕ) → In n (take (i + 1) tickets) → (row : List Value) → Some row ≡ row_under n (rows_at j) → IsLookedAt j new.marked (stored n row)
    looked n h row at = go (In-append_cases n (take i tickets) (t ∷ []) (subst (λ (ns : List ℕ). In n ns) (take_more tickets i 0 lt ∙ ap (λ m. take i tickets ++ m ∷ []) (sym is)) h))
      where
        go : In n (take i tickets) ⊎ In n (t ∷ []) → IsLookedAt j new.marked (stored n row)
        go (inl k) = λ l f none. before.looked n k row at l f (one.more n none)
        go (inr (inl e)) = subst (λ m. Some row ≡ row_under m (rows_at j) → IsLookedAt j new.marked (stored m row)) e (one.looked row) at
        go (inr (inr k)) = absurd k

pub rows_more : (j : JudgeView) (tickets : List ℕ) (i t : ℕ) (first old new : List (List Value)) → i < length tickets → t ≡ get_or tickets i 0
    → old ≡ first ++ map row_in (all_picked j (take i tickets)) → new ≡ old ++ map row_in (picked j t) → new ≡ first ++ map row_in (all_picked j (take (i + 1) tickets))
rows_more j tickets i t first old new lt is before one =
    one ∙ ap (λ (rs : List (List Value)). rs ++ map row_in (picked j t)) before ∙ append_assoc first (map row_in (all_picked j (take i tickets))) (map row_in (picked j t))
    ∙ ap (λ (rs : List (List Value)). first ++ rs) (sym (ap (map row_in) (next-picked j tickets i t lt is) ∙ map-append row_in (all_picked j (take i tickets)) (picked j t)))

pub picks_are : (j : JudgeView) (tickets : List ℕ) → IsRising ticket_of (rows_at j) → IsRising itself tickets
    → ((s : Stored) → In s (rows_at j) → ripe_at j s ≡ true → In s.ticket tickets) → all_picked j tickets ≡ filter (ripe_at j) (rows_at j)
picks_are j tickets r t all = rising-same ticket_of (all_picked j tickets) (filter (ripe_at j) (rows_at j)) (rises tickets t) (rising-filter ticket_of (ripe_at j) (rows_at j) r) fore back
  where
    of-picked : (n : ℕ) (s : Stored) → In s (picked j n) → (In s (rows_at j) × (s.ticket ≡ n)) × (ripe_at j s ≡ true)
    of-picked n s h = let f = In-filter (ripe_at j) s (under_with n (row_under n (rows_at j))) h in (under-in (rows_at j) n s f.0, f.1)

    of-all : (ns : List ℕ) (s : Stored) → In s (all_picked j ns) → (n : ℕ) × In n ns × In s (picked j n)
    of-all ns s h = In-flat_map (picked j) s ns h

    single : (n : ℕ) (o : Option (List Value)) → IsRising ticket_of (filter (ripe_at j) (under_with n o))
    single n None = tt
    single n (Some row) = go (ripe_at j (stored n row))
      where
        go : (b : Bool) → IsRising ticket_of (cond b (stored n row ∷ []) [])
        go true = (tt, tt)
        go false = tt

    rises : (ns : List ℕ) → IsRising itself ns → IsRising ticket_of (all_picked j ns)
    rises [] q = tt
    rises (n ∷ ns) q = rising-append ticket_of (picked j n) (all_picked j ns) (single n (row_under n (rows_at j))) (rises ns q.1) later
      where
        later : (x y : Stored) → In x (picked j n) → In y (all_picked j ns) → x.ticket < y.ticket
        later x y h k =
            let m = of-all ns y k in
            let a : n < m.0 = above-in itself n ns m.0 q.0 m.1 in
            let e : x.ticket ≡ n = (of-picked n x h).0.1 in
            let f : y.ticket ≡ m.0 = (of-picked m.0 y m.2).0.1 in omega (arith, a, e, f)

    fore : (s : Stored) → In s (all_picked j tickets) → In s (filter (ripe_at j) (rows_at j))
    fore s h = let m = of-all tickets s h in let o = of-picked m.0 s m.2 in In-filter_from (ripe_at j) s (rows_at j) o.0.0 o.1

    back : (s : Stored) → In s (filter (ripe_at j) (rows_at j)) → In s (all_picked j tickets)
    back s h =
        let f = In-filter (ripe_at j) s (rows_at j) h in
        In-flat_map_from (picked j) s s.ticket tickets (all s f.0 f.1)
        (In-filter_from (ripe_at j) s (under_with s.ticket (row_under s.ticket (rows_at j))) (subst (λ (o : Option (List Value)). In s (under_with s.ticket o)) (under-own (rows_at j) s r f.0) (inl refl)) f.1)

-- a row that is ripe has a ticket below the low-water ticket
ripe_below : (j : JudgeView) (s : Stored) → ripe_at j s ≡ true → s.ticket < j.low
ripe_below j s ripe = ltb-true s.ticket j.low (and_parts (ltb s.ticket j.low) _ ripe).0

-- what is not passed over was judged, and what is passed over is not ripe
pub all_ripe : (j : JudgeView) (w : DueRechecks) (tickets : List ℕ) → IsRising ticket_of (rows_at j) → IsRising itself tickets → NoneIsRipe j w
    → HaveDue (rows_at j) w j.low tickets → all_picked j tickets ≡ filter (ripe_at j) (rows_at j)
all_ripe j w tickets r t none all =
    picks_are j tickets r t (λ s h ripe. all s h (false_from_ne_true (is_passed w s.ticket) (λ p. false≢true (sym (none s h p) ∙ ripe))) (ripe_below j s ripe))

pub all_looked : (j : JudgeView) (w : DueRechecks) (tickets : List ℕ) (judged : SweepResult) → IsRising ticket_of (rows_at j)
    → HaveDue (rows_at j) w j.low tickets → AreJudged j tickets judged → AreLookedAt j w judged.marked
all_looked j w tickets judged r all are s h f below = are.looked s.ticket (all s h f below) s.row (under-own (rows_at j) s r h) below
