-- Places in blocks.
use Rattle.std.proofs.Common.{◌≡◌, ℕ, zero, suc, ◌+◌, ◌-◌, ◌<◌, ◌≤◌, List, [], ◌∷◌, ◌++◌, Option, None, Some, length, get_or, set, take, drop, refl, ap, sym, ◌∙◌, subst, arith, append_assoc, append-nil, get_or-set_same}
use Rattle.std.specs.List.{remove, slice_get}
use Rattle.std.specs.Option.{IfSome}
use Rattle.std.proofs.lemmas.List.{drop_more, get_or_default, length-append, take_more}
use Rattle.std.proofs.lemmas.Option.{slice_get-get_or}
use Rattle.pj_value.proofs.Slices.{get_front, get_behind}
use Rattle.pj_state.specs.Rising.{AllAbove, AllBelow, IsRising, SplitsAt, first_with, without}
use Rattle.pj_state.specs.Stores.{AreFilled, first_ticket, flat, less_one, place_ticket}
use Rattle.pj_state.specs.declared.places.Place.{Place}
use Rattle.pj_state.proofs.Rising.{above-behind, above-weaker, first-above, first-behind, first-earlier, first-front, first-later, rising-behind, rising-front, without-above, without-append, without-below}

pub flat-push : (bs : List (List Place)) (b : List Place) → flat (bs ++ b ∷ []) ≡ flat bs ++ b
flat-push [] b = append-nil b
flat-push (c ∷ bs) b = ap (λ (ps : List Place). c ++ ps) (flat-push bs b) ∙ sym (append_assoc c (flat bs) b)

pub flat-last : (bs : List (List Place)) (k : ℕ) (p : Place) (d : List Place) → k + 1 ≡ length bs → flat (set bs k (get_or bs k d ++ p ∷ [])) ≡ flat bs ++ p ∷ []
flat-last [] k p d e = absurd (omega (arith, e))
flat-last (b ∷ []) zero p d e = append-nil (b ++ p ∷ []) ∙ ap (λ (ps : List Place). ps ++ p ∷ []) (sym (append-nil b))
flat-last (b ∷ c ∷ bs) zero p d e = absurd (omega (arith, e))
flat-last (b ∷ bs) (suc k) p d e = ap (λ (ps : List Place). b ++ ps) (flat-last bs k p d (omega (arith, e))) ∙ sym (append_assoc b (flat bs) (p ∷ []))

pub filled-push : (bs : List (List Place)) (b : List Place) → 0 < length b → AreFilled bs → AreFilled (bs ++ b ∷ [])
filled-push [] b lt h = (lt, tt)
filled-push (c ∷ bs) b lt h = (h.0, filled-push bs b lt h.1)

pub filled-set : (bs : List (List Place)) (k : ℕ) (b : List Place) → 0 < length b → AreFilled bs → AreFilled (set bs k b)
filled-set [] k b lt h = tt
filled-set (c ∷ bs) zero b lt h = (lt, h.1)
filled-set (c ∷ bs) (suc k) b lt h = (h.0, filled-set bs k b lt h.1)

pub filled-removed : (bs : List (List Place)) (k : ℕ) (b : List Place) → k < length bs → AreFilled bs → AreFilled (remove (set bs k b) k)
filled-removed [] k b lt h = absurd (omega (arith, lt))
filled-removed (c ∷ bs) zero b lt h = h.1
filled-removed (c ∷ bs) (suc k) b lt h = (h.0, filled-removed bs k b (omega (arith, lt)) h.1)

pub flat-removed : (bs : List (List Place)) (k : ℕ) → k < length bs → flat (remove (set bs k []) k) ≡ flat (set bs k [])
flat-removed [] k lt = absurd (omega (arith, lt))
flat-removed (c ∷ bs) zero lt = refl
flat-removed (c ∷ bs) (suc k) lt = ap (λ (ps : List Place). c ++ ps) (flat-removed bs k (omega (arith, lt)))

-- ---- the block of a ticket

above-block : (n : ℕ) (bs : List (List Place)) (k : ℕ) (d : List Place) → AllAbove place_ticket n (flat bs) → AreFilled bs → k < length bs → n < first_ticket (get_or bs k d)
above-block n [] k d h filled lt = absurd (omega (arith, lt))
above-block n ([] ∷ bs) zero d h filled lt = absurd (omega (arith, filled.0))
above-block n ((p ∷ ps) ∷ bs) zero d h filled lt = h.0
above-block n (b ∷ bs) (suc k) d h filled lt = above-block n bs k d (above-behind place_ticket n b (flat bs) h) filled.1 (omega (arith, lt))

block-below : (b : List Place) (bs : List (List Place)) (n k : ℕ) (d : List Place) → IsRising place_ticket (b ++ flat bs) → AreFilled bs → k < length bs → first_ticket (get_or bs k d) ≤ n
    → AllBelow place_ticket n b
block-below [] bs n k d h filled lt le = tt
block-below (p ∷ ps) bs n k d h filled lt le =
    (omega (arith, le, above-block p.ticket bs k d (above-behind place_ticket p.ticket ps (flat bs) h.0) filled lt), block-below ps bs n k d h.1 filled lt le)

pub flat-above : (n : ℕ) (bs : List (List Place)) → IsRising place_ticket (flat bs) → AreFilled bs → ((d : List Place) → 0 < length bs → n < first_ticket (get_or bs 0 d))
    → AllAbove place_ticket n (flat bs)
flat-above n [] h filled first = tt
flat-above n ([] ∷ bs) h filled first = absurd (omega (arith, filled.0))
flat-above n ((p ∷ ps) ∷ bs) h filled first =
    let here : n < p.ticket = first [] (omega arith) in
    (here, above-weaker place_ticket n p.ticket (ps ++ flat bs) (omega (arith, here)) h.0)

-- the block at a place has the ticket, where any has: its own first one is not greater, and that of the next one is
pub record IsBlockOf (n : ℕ) (bs : List (List Place)) (k : ℕ) : Type 0 where
  pub there : k < length bs
  pub reaches : (d : List Place) → first_ticket (get_or bs k d) ≤ n
  pub next : (j : ℕ) (d : List Place) → j ≡ k + 1 → j < length bs → n < first_ticket (get_or bs j d)

rest-of : (n : ℕ) (b : List Place) (bs : List (List Place)) (k : ℕ) → IsBlockOf n (b ∷ bs) (suc k) → IsBlockOf n bs k
rest-of n b bs k h = record {
  there = omega (arith, h.there);
  reaches = h.reaches;
  next = λ j d e lt. h.next (suc j) d (omega (arith, e)) (omega (arith, lt));
}

pub first-in-block : (n : ℕ) (bs : List (List Place)) (k : ℕ) (d : List Place) → IsRising place_ticket (flat bs) → AreFilled bs → IsBlockOf n bs k
    → first_with place_ticket n (flat bs) ≡ first_with place_ticket n (get_or bs k d)
first-in-block n [] k d h filled at = absurd (omega (arith, at.there))
first-in-block n (b ∷ bs) zero d h filled at =
    first-front place_ticket n b (flat bs) (flat-above n bs (rising-behind place_ticket b (flat bs) h) filled.1 (λ e lt. at.next 1 e (omega arith) (omega (arith, lt))))
first-in-block n (b ∷ bs) (suc k) d h filled at =
    first-behind place_ticket n b (flat bs) (block-below b bs n k d h filled.1 (omega (arith, at.there)) (at.reaches d))
    ∙ first-in-block n bs k d (rising-behind place_ticket b (flat bs) h) filled.1 (rest-of n b bs k at)

pub without-in-block : (n : ℕ) (bs : List (List Place)) (k : ℕ) (d : List Place) → IsRising place_ticket (flat bs) → AreFilled bs → IsBlockOf n bs k
    → without place_ticket n (flat bs) ≡ flat (set bs k (without place_ticket n (get_or bs k d)))
without-in-block n [] k d h filled at = absurd (omega (arith, at.there))
without-in-block n (b ∷ bs) zero d h filled at =
    without-append place_ticket n b (flat bs)
    ∙ ap (λ (ps : List Place). without place_ticket n b ++ ps)
    (without-above place_ticket n (flat bs) (flat-above n bs (rising-behind place_ticket b (flat bs) h) filled.1 (λ e lt. at.next 1 e (omega arith) (omega (arith, lt)))))
without-in-block n (b ∷ bs) (suc k) d h filled at =
    without-append place_ticket n b (flat bs)
    ∙ (ap (λ (ps : List Place). ps ++ without place_ticket n (flat bs))
    (without-below place_ticket n b (block-below b bs n k d h filled.1 (omega (arith, at.there)) (at.reaches d)))
    ∙ ap (λ (ps : List Place). b ++ ps) (without-in-block n bs k d (rising-behind place_ticket b (flat bs) h) filled.1 (rest-of n b bs k at)))

pub rising-block : (bs : List (List Place)) (k : ℕ) (d : List Place) → IsRising place_ticket (flat bs) → k < length bs → IsRising place_ticket (get_or bs k d)
rising-block [] k d h lt = absurd (omega (arith, lt))
rising-block (b ∷ bs) zero d h lt = rising-front place_ticket b (flat bs) h
rising-block (b ∷ bs) (suc k) d h lt = rising-block bs k d (rising-behind place_ticket b (flat bs) h) (omega (arith, lt))

-- the block before a place that splits the blocks
pub block-before : (n : ℕ) (bs : List (List Place)) (at : ℕ) (k : ℕ) → SplitsAt first_ticket n bs at → k + 1 ≡ at → IsBlockOf n bs k
block-before n bs at k s e = record {
  there = omega (arith, s.within, e);
  reaches = λ d. s.before k d e;
  next = λ j d q lt. go j d q lt (at-is q);
}
  where
    at-is : {j : ℕ} → j ≡ k + 1 → at ≡ j
    at-is q = sym e ∙ sym q

    go : (j : ℕ) (d : List Place) → j ≡ k + 1 → j < length bs → at ≡ j → n < first_ticket (get_or bs j d)
    go j d q lt r = subst (λ i. i < length bs → n < first_ticket (get_or bs i d)) r (s.behind d) lt

-- none is before the first
pub none-before : (n : ℕ) (bs : List (List Place)) (at : ℕ) → SplitsAt first_ticket n bs at → at ≡ 0 → IsRising place_ticket (flat bs) → AreFilled bs → AllAbove place_ticket n (flat bs)
none-before n bs at s e h filled = flat-above n bs h filled (λ d. subst (λ i. i < length bs → n < first_ticket (get_or bs i d)) e (s.behind d))

-- ---- the place at a position

pub flat-drop : (bs : List (List Place)) (i : ℕ) (d : List Place) → i < length bs → flat (drop i bs) ≡ get_or bs i d ++ flat (drop (i + 1) bs)
flat-drop bs i d lt = ap flat (drop_more bs i d lt)

pub nth-here : (bs : List (List Place)) (i left : ℕ) (b : List Place) (p : Place) → i < length bs → b ≡ get_or bs i b → left < length b → slice_get b left ≡ Some p
    → slice_get (flat (drop i bs)) left ≡ Some p
nth-here bs i left b p lt is here at =
    ap (λ (ps : List Place). slice_get ps left) (flat-drop bs i b lt ∙ ap (λ (ps : List Place). ps ++ flat (drop (i + 1) bs)) (sym is))
    ∙ (get_front b (flat (drop (i + 1) bs)) left here ∙ at)

pub nth-behind : (bs : List (List Place)) (i at left : ℕ) (b : List Place) → slice_get (flat bs) at ≡ slice_get (flat (drop i bs)) left → i < length bs → b ≡ get_or bs i b → length b ≤ left
    → slice_get (flat bs) at ≡ slice_get (flat (drop (i + 1) bs)) (left - length b)
nth-behind bs i at left b before lt is behind =
    before ∙ (ap (λ (ps : List Place). slice_get ps left) (flat-drop bs i b lt ∙ ap (λ (ps : List Place). ps ++ flat (drop (i + 1) bs)) (sym is))
    ∙ get_behind b (flat (drop (i + 1) bs)) left behind)

pub nth-end : (bs : List (List Place)) (all : List Place) (i at left : ℕ) (d : Place) → flat bs ≡ all → at < length all → slice_get (flat bs) at ≡ slice_get (flat (drop i bs)) left → length bs ≤ i → ⊥
nth-end bs all i at left d e lt before done =
    let here : slice_get all at ≡ Some (get_or all at d) = slice_get-get_or all at d lt in
    let gone : slice_get all at ≡ None = ap (λ (ps : List Place). slice_get ps at) (sym e) ∙ (before ∙ ap (λ (cs : List (List Place)). slice_get (flat cs) left) (nothing-left bs i done)) in
    let clash : Some (get_or all at d) ≡ None = sym here ∙ gone in absurd (cc)
  where
    nothing-left : (cs : List (List Place)) (j : ℕ) → length cs ≤ j → drop j cs ≡ []
    nothing-left [] zero le = refl
    nothing-left [] (suc j) le = refl
    nothing-left (c ∷ cs) zero le = absurd (omega (arith, le))
    nothing-left (c ∷ cs) (suc j) le = nothing-left cs j (omega (arith, le))

pub flat-take : (bs : List (List Place)) (i : ℕ) (b : List Place) → i < length bs → b ≡ get_or bs i b → flat (take (i + 1) bs) ≡ flat (take i bs) ++ b
flat-take bs i b lt is = ap flat (take_more bs i b lt) ∙ (flat-push (take i bs) (get_or bs i b) ∙ ap (λ (ps : List Place). flat (take i bs) ++ ps) (sym is))

-- ---- the place at a position from the end

pub flat-split : (bs : List (List Place)) (i : ℕ) → flat bs ≡ flat (take i bs) ++ flat (drop i bs)
flat-split [] zero = refl
flat-split [] (suc i) = refl
flat-split (b ∷ bs) zero = refl
flat-split (b ∷ bs) (suc i) = ap (λ (ps : List Place). b ++ ps) (flat-split bs i) ∙ sym (append_assoc b (flat (take i bs)) (flat (drop i bs)))

pub take-all : (bs : List (List Place)) → take (length bs) bs ≡ bs
take-all [] = refl
take-all (b ∷ bs) = ap (λ (cs : List (List Place)). b ∷ cs) (take-all bs)

-- so many blocks are not yet passed from the end, and the position so far from the end is this far before the end of them
pub record IsBefore (bs : List (List Place)) (at behind left : ℕ) : Type 0 where
  pub within : behind ≤ length bs
  pub rest : length (flat bs) - 1 - at + left + 1 ≡ length (flat (take behind bs))

length-take : (bs : List (List Place)) (i behind : ℕ) (b : List Place) → i + 1 ≡ behind → i < length bs → b ≡ get_or bs i b → length (flat (take behind bs)) ≡ length (flat (take i bs)) + length b
length-take bs i behind b e lt is =
    ap (λ n. length (flat (take n bs))) (sym e) ∙ (ap length (flat-take bs i b lt is) ∙ length-append (flat (take i bs)) b)

pub before-less : (bs : List (List Place)) (at behind left i : ℕ) (b : List Place) → IsBefore bs at behind left → i + 1 ≡ behind → b ≡ get_or bs i b → length b ≤ left
    → IsBefore bs at i (left - length b)
before-less bs at behind left i b h e is le = record {
  within = omega (arith, h.within, e);
  rest = omega (arith, h.rest, le, length-take bs i behind b e (omega (arith, h.within, e)) is);
}

pub before-here : (bs : List (List Place)) (all : List Place) (at behind left i : ℕ) (b : List Place) (p : Place) → flat bs ≡ all → IsBefore bs at behind left → i + 1 ≡ behind
    → b ≡ get_or bs i b → left < length b → slice_get b (length b - 1 - left) ≡ Some p → slice_get all (length all - 1 - at) ≡ Some p
before-here bs all at behind left i b p whole h e is here there =
    let lt : i < length bs = omega (arith, h.within, e) in
    let long = length-take bs i behind b e lt is in
    let front = flat (take i bs) in
    let where-at = length (flat bs) - 1 - at in
    let past : length front ≤ where-at = omega (arith, h.rest, long, here) in
    let same : where-at - length front ≡ length b - 1 - left = omega (arith, h.rest, long, here) in
    ap (λ (ps : List Place). slice_get ps (length ps - 1 - at)) (sym whole)
    ∙ (ap (λ (ps : List Place). slice_get ps where-at) (flat-split bs i)
    ∙ (get_behind front (flat (drop i bs)) where-at past
    ∙ (ap (slice_get (flat (drop i bs))) same
    ∙ (ap (λ (ps : List Place). slice_get ps (length b - 1 - left)) (flat-drop bs i b lt ∙ ap (λ (ps : List Place). ps ++ flat (drop (i + 1) bs)) (sym is))
    ∙ (get_front b (flat (drop (i + 1) bs)) (length b - 1 - left) (omega (arith, here)) ∙ there)))))

-- ---- what is found and taken by halving

-- the blocks that were searched are these, which hold all places, and the place splits them
pub record Searched (n : ℕ) (bs cs : List (List Place)) (all : List Place) (at : ℕ) : Type 0 where
  pub same : cs ≡ bs
  pub whole : flat bs ≡ all
  pub filled : AreFilled bs
  pub split : SplitsAt first_ticket n cs at

none-above : (n : ℕ) (bs cs : List (List Place)) (all : List Place) (at : ℕ) → Searched n bs cs all at → at ≡ 0 → IsRising place_ticket all → AllAbove place_ticket n all
none-above n bs cs all at s e rising =
    subst (AllAbove place_ticket n) s.whole
    (none-before n bs at (subst (λ (xs : List (List Place)). SplitsAt first_ticket n xs at) s.same s.split) e (subst (IsRising place_ticket) (sym s.whole) rising) s.filled)

pub nothing-found : (n : ℕ) (bs cs : List (List Place)) (all : List Place) (at : ℕ) → Searched n bs cs all at → at ≡ 0 → IsRising place_ticket all → None ≡ first_with place_ticket n all
nothing-found n bs cs all at s e rising = sym (first-above place_ticket n all (none-above n bs cs all at s e rising))

pub nothing-taken : (n : ℕ) (bs cs : List (List Place)) (all : List Place) (at : ℕ) → Searched n bs cs all at → at ≡ 0 → IsRising place_ticket all → all ≡ without place_ticket n all
nothing-taken n bs cs all at s e rising = sym (without-above place_ticket n all (none-above n bs cs all at s e rising))

pub block-found : (n : ℕ) (bs cs : List (List Place)) (all : List Place) (at k : ℕ) (b d : List Place) (r : Option Place) → Searched n bs cs all at → k + 1 ≡ at → b ≡ get_or bs k d
    → (IsRising place_ticket b → r ≡ first_with place_ticket n b) → IsRising place_ticket all → r ≡ first_with place_ticket n all
block-found n bs cs all at k b d r s e is found rising =
    let split : SplitsAt first_ticket n bs at = subst (λ (xs : List (List Place)). SplitsAt first_ticket n xs at) s.same s.split in
    let block = block-before n bs at k split e in
    let rise : IsRising place_ticket (flat bs) = subst (IsRising place_ticket) (sym s.whole) rising in
    found (subst (IsRising place_ticket) (sym is) (rising-block bs k d rise block.there))
    ∙ (ap (first_with place_ticket n) is ∙ (sym (first-in-block n bs k d rise s.filled block) ∙ ap (first_with place_ticket n) s.whole))

pub block-taken : (n : ℕ) (bs cs : List (List Place)) (all : List Place) (at k : ℕ) (new : List Place) → Searched n bs cs all at → k + 1 ≡ at
    → (IsRising place_ticket (get_or bs k []) → new ≡ flat (less_one bs k n)) → IsRising place_ticket all → new ≡ without place_ticket n all
block-taken n bs cs all at k new s e taken rising =
    let split : SplitsAt first_ticket n bs at = subst (λ (xs : List (List Place)). SplitsAt first_ticket n xs at) s.same s.split in
    let block = block-before n bs at k split e in
    let rise : IsRising place_ticket (flat bs) = subst (IsRising place_ticket) (sym s.whole) rising in
    taken (rising-block bs k [] rise block.there) ∙ (sym (without-in-block n bs k [] rise s.filled block) ∙ ap (without place_ticket n) s.whole)

-- ---- what is found in a block

first-in-one : (n : ℕ) (bs : List (List Place)) (k : ℕ) (d : List Place) (p : Place) → k < length bs → IsRising place_ticket (flat bs) → first_with place_ticket n (get_or bs k d) ≡ Some p → first_with place_ticket n (flat bs) ≡ Some p
first-in-one n [] k d p lt rising h = absurd (omega (arith, lt))
first-in-one n (b ∷ bs) zero d p lt rising h = first-earlier place_ticket n b (flat bs) p h
first-in-one n (b ∷ bs) (suc k) d p lt rising h =
    first-later place_ticket n b (flat bs) p rising (first-in-one n bs k d p (omega (arith, lt)) (rising-behind place_ticket b (flat bs) rising) h)

pub found-in-one : (n : ℕ) (bs : List (List Place)) (all : List Place) (k : ℕ) (b : List Place) (r : Option Place) → flat bs ≡ all → k < length bs → b ≡ get_or bs k b
    → IfSome r (λ p. IsRising place_ticket b → first_with place_ticket n b ≡ Some p) → IfSome r (λ p. IsRising place_ticket all → first_with place_ticket n all ≡ Some p)
found-in-one n bs all k b None whole lt is h = tt
found-in-one n bs all k b (Some p) whole lt is h = λ rising.
    let rise : IsRising place_ticket (flat bs) = subst (IsRising place_ticket) (sym whole) rising in
    let here : first_with place_ticket n (get_or bs k b) ≡ Some p =
    ap (first_with place_ticket n) (sym is) ∙ h (subst (IsRising place_ticket) (sym is) (rising-block bs k b rise lt)) in
    ap (first_with place_ticket n) (sym whole) ∙ first-in-one n bs k b p lt rise here

-- ---- a block that was taken from

-- what was put into the list is what is read there
pub put-there : (bs : List (List Place)) (at : ℕ) (b shown : List Place) → at < length bs → shown ≡ get_or (set bs at b) at shown → shown ≡ b
put-there bs at b shown lt is = is ∙ get_or-set_same bs at b shown lt

pub empty-is : (ps : List Place) → length ps ≡ 0 → ps ≡ []
empty-is [] e = refl
empty-is (p ∷ ps) e = absurd (omega (arith, e))

pub taken-of : (n : ℕ) (bs : List (List Place)) (at : ℕ) (b new : List Place) → at < length bs → b ≡ get_or bs at b → (IsRising place_ticket b → new ≡ without place_ticket n b)
    → IsRising place_ticket (get_or bs at []) → new ≡ without place_ticket n (get_or bs at [])
taken-of n bs at b new lt is taken rising =
    let e : b ≡ get_or bs at [] = is ∙ get_or_default bs at b [] lt in
    taken (subst (IsRising place_ticket) (sym e) rising) ∙ ap (without place_ticket n) e

pub emptied : (bs : List (List Place)) (at : ℕ) (new : List Place) → at < length bs → new ≡ [] → flat (remove (set bs at new) at) ≡ flat (set bs at new)
emptied bs at new lt e = subst (λ (b : List Place). flat (remove (set bs at b) at) ≡ flat (set bs at b)) (sym e) (flat-removed bs at lt)
