-- Which stored tuples hold the punctuations back that wait, from step to step.
use Rattle.std.proofs.Common.{ℕ, zero, suc, ◌+◌, ◌<◌, arith, Bool, true, false, cond, not, ◌&&◌, List, [], ◌∷◌, ◌++◌, ◌≡◌, ◌⊎◌, map, filter, take, length, get_or, refl, sym, ap, ap₂, ◌∙◌, subst, inl, inr, eqb, append_assoc}
use Rattle.std.specs.Prelude.{OnOk, Result, Ok, Err}
use Rattle.std.proofs.lemmas.Bool.{and_parts, eqb-true, false_from_ne_true, false≢true, not-true}
use Rattle.std.proofs.lemmas.List.{map-append, take_more, append-nil}
use Rattle.pj_value.proofs.Members.{In-append_cases, In-append_left, In-append_right, In-filter, In-filter_from, In-map_from, any_at, any_from, in-place}
use Rattle.pj_state.specs.declared.shared.Stored.{Stored}
use Rattle.pj_state.specs.Rising.{IsRising, itself}
use Rattle.pj_events.specs.Patterns.{Pattern, matches_row}
use Rattle.pj_events.specs.Join.{In, PunctAt, has}
use Rattle.pj_waiting.specs.declared.widening.Swept.{Swept}
use Rattle.pj_waiting.specs.Holding.{AreHeldBy, IsHeldBy, IsLetGo, KeepsLists, StayHeld, StaysListed, WaitingView, is_listed, tickets_where, held_at, goes_up}
use Rattle.pj_rows.specs.Finding.{IsStaying, stays, still_held}
use Rattle.pj_waiting.specs.Letting.{letting_go, lets_go, widened_among}
use Rattle.pj_waiting.proofs.Leaving.{alone}
use Rattle.pj_rows.proofs.Rising.{above-in, rising-append, rising-filter, rising-same}

pub found_held : (rows : List Stored) (gone : List ℕ) (patterns : List Pattern) (t : ℕ) → IsStaying rows gone patterns t → still_held rows gone patterns ≡ true
found_held rows gone patterns t (s, h, e, m) = any_from (stays gone patterns) rows s h m

pub on_ok : {V E P Q : Type 0} (r : Result V E) → (P → Q) → OnOk r P → OnOk r Q
on_ok (Ok v) f h = f h
on_ok (Err e) f h = h

pub on_both : {V E P Q R : Type 0} (r : Result V E) → (P → Q → R) → OnOk r P → OnOk r Q → OnOk r R
on_both (Ok v) f h k = f h k
on_both (Err e) f h k = h

pub on_any : {V E Q : Type 0} (r : Result V E) → Q → OnOk r Q
on_any (Ok v) q = q
on_any (Err e) q = tt

-- a punctuation of the input that a row holds back does not go up, and one of another input neither
pub stays_where : (rows : List Stored) (gone : List ℕ) (input : ℕ) (p : PunctAt) → still_held rows gone p.patterns ≡ true → lets_go rows gone input p ≡ false
stays_where rows gone input p held = ap (λ b. eqb p.input input && not b) held ∙ and-false (eqb p.input input)
  where
    and-false : (a : Bool) → (a && false) ≡ false
    and-false true = refl
    and-false false = refl

goes_parts : (rows : List Stored) (gone : List ℕ) (input : ℕ) (p : PunctAt) → lets_go rows gone input p ≡ true → (p.input ≡ input) × (still_held rows gone p.patterns ≡ false)
goes_parts rows gone input p t = let parts = and_parts (eqb p.input input) (not (still_held rows gone p.patterns)) t in (eqb-true p.input input parts.0, not-true (still_held rows gone p.patterns) parts.1)

-- ---- one punctuation

-- the only one with its ticket
of_ticket : (Q : PunctAt → Type 0) (w : WaitingView) (q : PunctAt) (ticket : ℕ) → IsRising held_at w.puncts → In q w.puncts → q.ticket ≡ ticket → Q q → (p : PunctAt) → In p w.puncts → p.ticket ≡ ticket → Q p
of_ticket Q w q ticket r h e x p i f = subst Q (alone w.puncts q p r h i (e ∙ sym f)) x

-- it is of another input
pub one_elsewhere : (s : Swept) (w : WaitingView) (q : PunctAt) (ticket : ℕ) → IsRising held_at w.puncts → In q w.puncts → q.ticket ≡ ticket → (q.input ≡ s.input → ⊥) → StaysListed s w ticket
one_elsewhere s w q ticket r h e other = record {
  stays = of_ticket (λ p. goes_up s p ≡ false) w q ticket r h e (ap (λ b. b && not (still_held s.state.now.rows s.gone.now q.patterns)) (false_from_ne_true (eqb q.input s.input) (λ t. other (eqb-true q.input s.input t))));
  held = λ p i f own. absurd (other (ap (λ (x : PunctAt). x.input) (alone w.puncts q p r h i (e ∙ sym f)) ∙ own));
}

-- a row that stays matches it, under which it is listed
pub one_listed : (s : Swept) (w w' : WaitingView) (q : PunctAt) (ticket found : ℕ) → IsRising held_at w.puncts → In q w.puncts → q.ticket ≡ ticket → IsStaying s.state.now.rows s.gone.now q.patterns found
    → w'.puncts ≡ w.puncts → is_listed w' (found, ticket) ≡ true → StaysListed s w' ticket
one_listed s w w' q ticket found r h e stay same listed = record {
  stays = λ p i. of_ticket (λ x. goes_up s x ≡ false) w q ticket r h e (stays_where s.state.now.rows s.gone.now s.input q (found_held s.state.now.rows s.gone.now q.patterns found stay)) p (back p i);
  held = λ p i f own. of_ticket (λ x. IsHeldBy s.state.now.rows s.gone.now w' x) w q ticket r h e (found, stay, ap (λ n. is_listed w' (found, n)) e ∙ listed) p (back p i) f;
}
  where
    back : (p : PunctAt) → In p w'.puncts → In p w.puncts
    back p i = subst (λ (ps : List PunctAt). In p ps) same i

-- ---- the punctuations that are looked at

-- those with these tickets that go up are put at the ends, and no other
pub record AreLetGo (s : Swept) (ps : List PunctAt) (tickets goes : List ℕ) (first out : List (List Pattern)) : Type 0 where
  pub up : List PunctAt
  pub goes_are : goes ≡ map held_at up
  pub out_are : out ≡ first ++ map (widened_among s.schemas.now) up
  pub rises : IsRising held_at up
  pub sound : (p : PunctAt) → In p up → In p ps × (goes_up s p ≡ true) × In p.ticket tickets
  pub all : (p : PunctAt) → In p ps → goes_up s p ≡ true → In p.ticket tickets → In p up

-- those with these tickets that stay are listed
abbrev pub AreListed : Swept → WaitingView → List ℕ → Type 0
AreListed s w tickets = (p : PunctAt) → In p w.puncts → In p.ticket tickets → p.input ≡ s.input → goes_up s p ≡ false → IsHeldBy s.state.now.rows s.gone.now w p

pub let_go_none : (s : Swept) (ps : List PunctAt) (goes : List ℕ) (out : List (List Pattern)) → goes ≡ [] → AreLetGo s ps [] goes out out
let_go_none s ps goes out none = record { up = []; goes_are = none; out_are = sym (append-nil out); rises = tt; sound = λ p h. absurd h; all = λ p h t k. k }

pub let_go_more : (s : Swept) (w : WaitingView) (ps : List PunctAt) (tickets goes goes' : List ℕ) (first out out' : List (List Pattern)) (ticket : ℕ) → w.puncts ≡ ps → IsRising held_at ps → ((n : ℕ) → In n tickets → n < ticket)
    → AreLetGo s ps tickets goes first out → IsLetGo s w ticket goes goes' out out' → AreLetGo s ps (tickets ++ ticket ∷ []) goes' first out'
let_go_more s w ps tickets goes goes' first out out' ticket same r later before (inl (same-goes, same-out, stay)) = record {
  up = before.up;
  goes_are = same-goes ∙ before.goes_are;
  out_are = same-out ∙ before.out_are;
  rises = before.rises;
  sound = λ p h. let f = before.sound p h in (f.0, f.1, In-append_left p.ticket tickets (ticket ∷ []) f.2);
  all = λ p h t k. go p h t (In-append_cases p.ticket tickets (ticket ∷ []) k);
}
  where
    go : (p : PunctAt) → In p ps → goes_up s p ≡ true → In p.ticket tickets ⊎ In p.ticket (ticket ∷ []) → In p before.up
    go p h t (inl k) = before.all p h t k
    go p h t (inr (inl e)) = absurd (false≢true (sym (stay.stays p (subst (λ (qs : List PunctAt). In p qs) (sym same) h) (sym e)) ∙ t))
    go p h t (inr (inr k)) = absurd k
let_go_more s w ps tickets goes goes' first out out' ticket same r later before (inr (more-goes, (q, h, e, t, more-out))) = record {
  up = before.up ++ q ∷ [];
  goes_are = more-goes ∙ ap₂ (λ (ns : List ℕ) n. ns ++ n ∷ []) before.goes_are (sym e) ∙ sym (map-append held_at before.up (q ∷ []));
  out_are = more-out ∙ ap (λ (os : List (List Pattern)). os ++ widened_among s.schemas.now q ∷ []) before.out_are ∙ append_assoc first (map (widened_among s.schemas.now) before.up) (widened_among s.schemas.now q ∷ [])
      ∙ ap (λ (os : List (List Pattern)). first ++ os) (sym (map-append (widened_among s.schemas.now) before.up (q ∷ [])));
  rises = rising-append held_at before.up (q ∷ []) before.rises (tt, tt) (λ x y i k. below x y i k);
  sound = λ p i. sound p (In-append_cases p before.up (q ∷ []) i);
  all = λ p i g k. all p i g (In-append_cases p.ticket tickets (ticket ∷ []) k);
}
  where
    inside : In q ps
    inside = subst (λ (qs : List PunctAt). In q qs) same h

    below : (x y : PunctAt) → In x before.up → In y (q ∷ []) → x.ticket < y.ticket
    below x y i (inl k) = let l = later x.ticket (before.sound x i).2 in let n : q.ticket ≡ y.ticket = ap held_at k in omega (arith, l, n, e)
    below x y i (inr k) = absurd k

    sound : (p : PunctAt) → In p before.up ⊎ In p (q ∷ []) → In p ps × (goes_up s p ≡ true) × In p.ticket (tickets ++ ticket ∷ [])
    sound p (inl i) = let f = before.sound p i in (f.0, f.1, In-append_left p.ticket tickets (ticket ∷ []) f.2)
    sound p (inr (inl k)) = subst (λ (x : PunctAt). In x ps × (goes_up s x ≡ true) × In x.ticket (tickets ++ ticket ∷ [])) k (inside, t, In-append_right q.ticket tickets (ticket ∷ []) (inl (sym e)))
    sound p (inr (inr k)) = absurd k

    all : (p : PunctAt) → In p ps → goes_up s p ≡ true → In p.ticket tickets ⊎ In p.ticket (ticket ∷ []) → In p (before.up ++ q ∷ [])
    all p i g (inl k) = In-append_left p before.up (q ∷ []) (before.all p i g k)
    all p i g (inr (inl k)) = In-append_right p before.up (q ∷ []) (inl (alone ps q p r inside i (e ∙ k)))
    all p i g (inr (inr k)) = absurd k

pub listed_more : (s : Swept) (w w' : WaitingView) (tickets goes goes' : List ℕ) (out out' : List (List Pattern)) (ticket : ℕ) → w'.puncts ≡ w.puncts → KeepsLists w w' → IsRising held_at w.puncts → IsLetGo s w' ticket goes goes' out out'
    → AreListed s w tickets → AreListed s w' (tickets ++ ticket ∷ [])
listed_more s w w' tickets goes goes' out out' ticket same keeps r done before p h k own waits = go (In-append_cases p.ticket tickets (ticket ∷ []) k)
  where
    inside : In p w.puncts
    inside = subst (λ (ps : List PunctAt). In p ps) same h

    last : ticket ≡ p.ticket → IsLetGo s w' ticket goes goes' out out' → IsHeldBy s.state.now.rows s.gone.now w' p
    last e (inl (_, _, stay)) = stay.held p h (sym e) own
    last e (inr (_, (q, i, n, t, _))) = absurd (false≢true (sym waits ∙ subst (λ (x : PunctAt). goes_up s x ≡ true) (alone w.puncts q p r (subst (λ (ps : List PunctAt). In q ps) same i) inside (n ∙ e)) t))

    go : In p.ticket tickets ⊎ In p.ticket (ticket ∷ []) → IsHeldBy s.state.now.rows s.gone.now w' p
    go (inl i) = let t = before p inside i own waits in (t.0, t.1, keeps (t.0, p.ticket) t.2)
    go (inr (inl e)) = last e done
    go (inr (inr i)) = absurd i

-- one of tickets that rise is above those before it
below_next : (xs : List ℕ) (i n : ℕ) → IsRising itself xs → i < length xs → In n (take i xs) → n < get_or xs i 0
below_next [] i n r lt h = absurd (omega (arith, lt))
below_next (x ∷ xs) zero n r lt h = absurd h
below_next (x ∷ xs) (suc i) n r lt (inl e) = let a : x < get_or xs i 0 = above-in itself x xs (get_or xs i 0) r.0 (in-place xs 0 i (omega (arith, lt))) in omega (arith, a, e)
below_next (x ∷ xs) (suc i) n r lt (inr k) = below_next xs i n r.1 (omega (arith, lt)) k

pub let_go_next : (s : Swept) (w : WaitingView) (ps : List PunctAt) (tickets goes goes' : List ℕ) (first out out' : List (List Pattern)) (i : ℕ) → i < length tickets → w.puncts ≡ ps → IsRising held_at ps → IsRising itself tickets
    → AreLetGo s ps (take i tickets) goes first out → IsLetGo s w (get_or tickets i 0) goes goes' out out' → AreLetGo s ps (take (i + 1) tickets) goes' first out'
let_go_next s w ps tickets goes goes' first out out' i lt same r rising before done =
    subst (λ (ns : List ℕ). AreLetGo s ps ns goes' first out') (sym (take_more tickets i 0 lt))
    (let_go_more s w ps (take i tickets) goes goes' first out out' (get_or tickets i 0) same r (λ n h. below_next tickets i n rising lt h) before done)

pub listed_next : (s : Swept) (w w' : WaitingView) (tickets goes goes' : List ℕ) (out out' : List (List Pattern)) (i : ℕ) → i < length tickets → w'.puncts ≡ w.puncts → KeepsLists w w' → IsRising held_at w.puncts
    → IsLetGo s w' (get_or tickets i 0) goes goes' out out' → AreListed s w (take i tickets) → AreListed s w' (take (i + 1) tickets)
listed_next s w w' tickets goes goes' out out' i lt same keeps r done before =
    subst (λ (ns : List ℕ). AreListed s w' ns) (sym (take_more tickets i 0 lt)) (listed_more s w w' (take i tickets) goes goes' out out' (get_or tickets i 0) same keeps r done before)

-- ---- all of them

-- what holds a punctuation back stays, or is looked at
reached : (s : Swept) (w : WaitingView) (freed : List (ℕ × ℕ)) (looked : List ℕ) (p : PunctAt) → AreHeldBy s.state.now.rows s.input w
    → ((t n : ℕ) → In t s.gone.now → is_listed w (t, n) ≡ true → In (t, n) freed) → ((n : ℕ) → In n (map (λ q. q.1) freed) → In n looked)
    → In p w.puncts → p.input ≡ s.input → In p.ticket looked ⊎ IsHeldBy s.state.now.rows s.gone.now w p
reached s w freed looked p by all more h own = go (by.held p h own)
  where
    go : IsHeldBy s.state.now.rows [] w p → In p.ticket looked ⊎ IsHeldBy s.state.now.rows s.gone.now w p
    go (t, (x, i, e, m), listed) = pick (has s.gone.now x.ticket) refl
      where
        matches : matches_row p.patterns x.row ≡ true
        matches = (and_parts (matches_row p.patterns x.row) true m).0

        pick : (b : Bool) → has s.gone.now x.ticket ≡ b → In p.ticket looked ⊎ IsHeldBy s.state.now.rows s.gone.now w p
        pick false f = inr (t, (x, i, e, ap₂ (λ a b. a && not b) matches f), listed)
        pick true f =
            let g = any_at (λ n. eqb n x.ticket) s.gone.now f in
            let gone : In t s.gone.now = subst (λ n. In n s.gone.now) (eqb-true g.0 x.ticket g.2 ∙ e) g.1 in
            inl (more p.ticket (In-map_from (λ (q : ℕ × ℕ). q.1) (t, p.ticket) freed (all t p.ticket gone listed)))

pub all_let_go : (s : Swept) (w : WaitingView) (freed : List (ℕ × ℕ)) (looked goes : List ℕ) (first out : List (List Pattern)) → AreHeldBy s.state.now.rows s.input w → IsRising held_at w.puncts
    → ((t n : ℕ) → In t s.gone.now → is_listed w (t, n) ≡ true → In (t, n) freed) → ((n : ℕ) → In n (map (λ q. q.1) freed) → In n looked)
    → AreLetGo s w.puncts looked goes first out → (goes ≡ tickets_where (goes_up s) w.puncts) × (out ≡ first ++ letting_go s.schemas.now s.state.now.rows s.gone.now s.input w.puncts)
all_let_go s w freed looked goes first out by r all more are = (are.goes_are ∙ ap (map held_at) same, are.out_are ∙ ap (λ (ps : List PunctAt). first ++ map (widened_among s.schemas.now) ps) same)
  where
    back : (p : PunctAt) → In p (filter (goes_up s) w.puncts) → In p are.up
    back p h = go (reached s w freed looked p by all more inside.0 parts.0)
      where
        inside : In p w.puncts × (goes_up s p ≡ true)
        inside = In-filter (goes_up s) p w.puncts h

        parts : (p.input ≡ s.input) × (still_held s.state.now.rows s.gone.now p.patterns ≡ false)
        parts = goes_parts s.state.now.rows s.gone.now s.input p inside.1

        go : In p.ticket looked ⊎ IsHeldBy s.state.now.rows s.gone.now w p → In p are.up
        go (inl k) = are.all p inside.0 inside.1 k
        go (inr (t, stay, _)) = absurd (false≢true (sym parts.1 ∙ found_held s.state.now.rows s.gone.now p.patterns t stay))

    same : are.up ≡ filter (goes_up s) w.puncts
    same = rising-same held_at are.up (filter (goes_up s) w.puncts) are.rises (rising-filter held_at (goes_up s) w.puncts r) (λ p h. let f = are.sound p h in In-filter_from (goes_up s) p w.puncts f.0 f.1) back

pub all_listed : (s : Swept) (w w' : WaitingView) (freed : List (ℕ × ℕ)) (looked : List ℕ) → AreHeldBy s.state.now.rows s.input w → w'.puncts ≡ w.puncts → KeepsLists w w'
    → ((t n : ℕ) → In t s.gone.now → is_listed w (t, n) ≡ true → In (t, n) freed) → ((n : ℕ) → In n (map (λ q. q.1) freed) → In n looked)
    → AreListed s w' looked → StayHeld s.state.now.rows s.gone.now s.input w'
all_listed s w w' freed looked by same keeps all more listed p h own waits = go (reached s w freed looked p by all more (subst (λ (ps : List PunctAt). In p ps) same h) own)
  where
    go : In p.ticket looked ⊎ IsHeldBy s.state.now.rows s.gone.now w p → IsHeldBy s.state.now.rows s.gone.now w' p
    go (inl k) = listed p h k own waits
    go (inr (t, stay, there)) = (t, stay, keeps (t, p.ticket) there)

-- where none waits, or no row goes, all stay
pub all_stay : (s : Swept) (w : WaitingView) → AreHeldBy s.state.now.rows s.input w → w.puncts ≡ [] ⊎ s.gone.now ≡ [] → (p : PunctAt) → In p w.puncts → (goes_up s p ≡ false) × (p.input ≡ s.input → IsHeldBy s.state.now.rows s.gone.now w p)
all_stay s w by (inl none) p h = absurd (subst (λ (ps : List PunctAt). In p ps) none h)
all_stay s w by (inr none) p h = (go (eqb p.input s.input) refl, held)
  where
    held : p.input ≡ s.input → IsHeldBy s.state.now.rows s.gone.now w p
    held own = subst (λ (ns : List ℕ). IsHeldBy s.state.now.rows ns w p) (sym none) (by.held p h own)

    go : (b : Bool) → eqb p.input s.input ≡ b → goes_up s p ≡ false
    go true e = let t = held (eqb-true p.input s.input e) in stays_where s.state.now.rows s.gone.now s.input p (found_held s.state.now.rows s.gone.now p.patterns t.0 t.1)
    go false e = ap (λ b. b && not (still_held s.state.now.rows s.gone.now p.patterns)) e

pub filter-none : {A : Type 0} (q : A → Bool) (xs : List A) → ((x : A) → In x xs → q x ≡ false) → filter q xs ≡ []
filter-none q [] f = refl
filter-none q (x ∷ xs) f = ap (λ b. cond b (x ∷ filter q xs) (filter q xs)) (f x (inl refl)) ∙ filter-none q xs (λ y h. f y (inr h))

pub none_let_go : (s : Swept) (w : WaitingView) (out : List (List Pattern)) → AreHeldBy s.state.now.rows s.input w → w.puncts ≡ [] ⊎ s.gone.now ≡ []
    → ([] ≡ tickets_where (goes_up s) w.puncts) × (out ≡ out ++ letting_go s.schemas.now s.state.now.rows s.gone.now s.input w.puncts) × StayHeld s.state.now.rows s.gone.now s.input w
none_let_go s w out by none =
    (sym (ap (map held_at) up), sym (ap (λ (ps : List PunctAt). out ++ map (widened_among s.schemas.now) ps) up ∙ append-nil out), λ p h own waits. (all_stay s w by none p h).1 own)
  where
    up : filter (goes_up s) w.puncts ≡ []
    up = filter-none (goes_up s) w.puncts (λ p h. (all_stay s w by none p h).0)

pub no_items : {A : Type 0} (xs : List A) → length xs ≡ 0 → xs ≡ []
no_items [] e = refl
no_items (x ∷ xs) e = absurd (omega (arith, e))
