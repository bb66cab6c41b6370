-- Rows under keys, and the places that lead to them.
use Rattle.std.proofs.Common.{◌≡◌, ℕ, zero, suc, ◌+◌, ◌<◌, ◌≤◌, Bool, true, false, not, cond, List, [], ◌∷◌, ◌++◌, Option, Some, None, length, filter, take, get_or, eqb, refl, ap, ap₂, sym, ◌∙◌, subst, arith, append-nil}
use Rattle.std.specs.List.{slice_get, count_by}
use Rattle.std.specs.Option.{is_some}
use Rattle.std.proofs.lemmas.List.{length-append, take_more}
use Rattle.std.proofs.lemmas.List.Elements.{filter-append}
use Rattle.std.proofs.lemmas.Bool.{eqb-true, lt-ltb, le-ltb}
use Rattle.slab.specs.Slab.{Slab, Updates, get as slab_get, slab_len}
use Rattle.pj_value.specs.declared.values.Value.{Value}
use Rattle.pj_value.specs.Options.{row_there}
use Rattle.pj_state.proofs.Rising.{above-weaker, first-number, length-without, rising-filter, rising-push, without-above, without-missing}
use Rattle.pj_state.specs.Rising.{AllAbove, AllBelow, IsRising, first_with, is_other, without}
use Rattle.pj_state.specs.States.{is_below, pair_of, pairs, rows_below, stored, ticket_of}
use Rattle.pj_state.specs.Stores.{AreApart, AreHeld, IsStore, NoneAt, flat, place_ticket, rows_at, slot_at, stored_at}
use Rattle.pj_state.specs.declared.places.Place.{Place}
use Rattle.pj_state.specs.declared.shared.Stored.{Stored}

-- a row stands under the key of a place
abbrev pub IsHeld : List (Option (List Value)) → Place → Type 0
IsHeld slots p = (row : List Value) × (slot_at slots p.key ≡ Some row)

pub stored-there : (slots : List (Option (List Value))) (p : Place) (row : List Value) → slot_at slots p.key ≡ Some row → stored_at slots p ≡ stored p.ticket row
stored-there slots p row is = ap (λ (o : Option (List Value)). stored p.ticket (row_there o)) is

pub length-rows : (slots : List (Option (List Value))) (ps : List Place) → length (rows_at slots ps) ≡ length ps
length-rows slots [] = refl
length-rows slots (p ∷ ps) = omega (arith, length-rows slots ps)

pub rows-append : (slots : List (Option (List Value))) (ps qs : List Place) → rows_at slots (ps ++ qs) ≡ rows_at slots ps ++ rows_at slots qs
rows-append slots [] qs = refl
rows-append slots (p ∷ ps) qs = ap (λ (rows : List Stored). stored_at slots p ∷ rows) (rows-append slots ps qs)

pub held-append : (slots : List (Option (List Value))) (ps : List Place) (p : Place) → AreHeld slots ps → IsHeld slots p → AreHeld slots (ps ++ p ∷ [])
held-append slots [] p h k = (k, tt)
held-append slots (q ∷ ps) p h k = (h.0, held-append slots ps p h.1 k)

above-rows : (slots : List (Option (List Value))) (n : ℕ) (ps : List Place) → AllAbove place_ticket n ps → AllAbove ticket_of n (rows_at slots ps)
above-rows slots n [] k = tt
above-rows slots n (p ∷ ps) k = (k.0, above-rows slots n ps k.1)

pub rising-rows : (slots : List (Option (List Value))) (ps : List Place) → IsRising place_ticket ps → IsRising ticket_of (rows_at slots ps)
rising-rows slots [] k = tt
rising-rows slots (p ∷ ps) k = (above-rows slots p.ticket ps k.0, rising-rows slots ps k.1)

pub below-places : (slots : List (Option (List Value))) (n : ℕ) (ps : List Place) → AllBelow ticket_of n (rows_at slots ps) → AllBelow place_ticket n ps
below-places slots n [] k = tt
below-places slots n (p ∷ ps) k = (k.0, below-places slots n ps k.1)

-- ---- what is looked for

-- the row that a place leads to, where there is a place
abbrev pub row_for : List (Option (List Value)) → Option Place → Option Stored
row_for slots None = None
row_for slots (Some p) = Some (stored_at slots p)

pub first-row : (slots : List (Option (List Value))) (n : ℕ) (ps : List Place) → first_with ticket_of n (rows_at slots ps) ≡ row_for slots (first_with place_ticket n ps)
first-row slots n [] = refl
first-row slots n (p ∷ ps) = go (eqb p.ticket n) (first-row slots n ps)
  where
    go : (b : Bool) → first_with ticket_of n (rows_at slots ps) ≡ row_for slots (first_with place_ticket n ps)
        → cond b (Some (stored_at slots p)) (first_with ticket_of n (rows_at slots ps)) ≡ row_for slots (cond b (Some p) (first_with place_ticket n ps))
    go true ih = refl
    go false ih = ih

pub held-first : (slots : List (Option (List Value))) (n : ℕ) (ps : List Place) (p : Place) → AreHeld slots ps → first_with place_ticket n ps ≡ Some p → IsHeld slots p
held-first slots n [] p h e = absurd (cc)
held-first slots n (q ∷ ps) p h e = go (eqb q.ticket n) (held-first slots n ps p h.1) e
  where
    go : (b : Bool) → (first_with place_ticket n ps ≡ Some p → IsHeld slots p) → cond b (Some q) (first_with place_ticket n ps) ≡ Some p → IsHeld slots p
    go true ih r = let same : q ≡ p = cc in subst (IsHeld slots) same h.0
    go false ih r = ih r

-- the row under a ticket whose place was found
pub row-found : (slots : List (Option (List Value))) (n : ℕ) (ps : List Place) (p : Place) (row : List Value) → Some p ≡ first_with place_ticket n ps → slot_at slots p.key ≡ Some row
    → first_with ticket_of n (rows_at slots ps) ≡ Some (stored n row)
row-found slots n ps p row first is =
    first-row slots n ps
    ∙ (ap (row_for slots) (sym first) ∙ ap (λ (s : Stored). Some s) (stored-there slots p row is ∙ ap (λ t. stored t row) (first-number place_ticket n ps p (sym first))))

pub held-at : (slots : List (Option (List Value))) (ps : List Place) (k : ℕ) (p : Place) → AreHeld slots ps → slice_get ps k ≡ Some p → IsHeld slots p × (slice_get (rows_at slots ps) k ≡ Some (stored_at slots p))
held-at slots [] k p h e = absurd (cc)
held-at slots (q ∷ ps) zero p h e =
    let same : q ≡ p = cc in
    subst (λ (x : Place). IsHeld slots x × (slice_get (rows_at slots (q ∷ ps)) zero ≡ Some (stored_at slots x))) same (h.0, refl)
held-at slots (q ∷ ps) (suc k) p h e = held-at slots ps k p h.1 e

-- ---- keys

none-append : (key : ℕ) (ps : List Place) (p : Place) → NoneAt key ps → (p.key ≡ key → ⊥) → NoneAt key (ps ++ p ∷ [])
none-append key [] p h other = (other, tt)
none-append key (q ∷ ps) p h other = (h.0, none-append key ps p h.1 other)

apart-append : (ps : List Place) (p : Place) → AreApart ps → NoneAt p.key ps → AreApart (ps ++ p ∷ [])
apart-append [] p h none = (tt, tt)
apart-append (q ∷ ps) p h none = (none-append q.key ps p h.0 (λ e. none.0 (sym e)), apart-append ps p h.1 none.1)

none-filter : (f : Place → Bool) (key : ℕ) (ps : List Place) → NoneAt key ps → NoneAt key (filter f ps)
none-filter f key [] h = tt
none-filter f key (p ∷ ps) h = go (f p) (none-filter f key ps h.1)
  where
    go : (b : Bool) → NoneAt key (filter f ps) → NoneAt key (cond b (p ∷ filter f ps) (filter f ps))
    go true ih = (h.0, ih)
    go false ih = ih

apart-filter : (f : Place → Bool) (ps : List Place) → AreApart ps → AreApart (filter f ps)
apart-filter f [] h = tt
apart-filter f (p ∷ ps) h = go (f p) (apart-filter f ps h.1)
  where
    go : (b : Bool) → AreApart (filter f ps) → AreApart (cond b (p ∷ filter f ps) (filter f ps))
    go true ih = (none-filter f p.key ps h.0, ih)
    go false ih = ih

vacant-none : (slots : List (Option (List Value))) (key : ℕ) (ps : List Place) → slot_at slots key ≡ None → AreHeld slots ps → NoneAt key ps
vacant-none slots key [] vacant h = tt
vacant-none slots key (p ∷ ps) vacant h =
    ((λ e. let clash : Some h.0.0 ≡ None = sym h.0.1 ∙ (ap (slot_at slots) e ∙ vacant) in absurd (cc)), vacant-none slots key ps vacant h.1)

none-first : (key n : ℕ) (ps : List Place) (q : Place) → NoneAt key ps → first_with place_ticket n ps ≡ Some q → q.key ≡ key → ⊥
none-first key n [] q none e = absurd (cc)
none-first key n (p ∷ ps) q none e = go (eqb p.ticket n) (none-first key n ps q none.1) e
  where
    go : (b : Bool) → (first_with place_ticket n ps ≡ Some q → q.key ≡ key → ⊥) → cond b (Some p) (first_with place_ticket n ps) ≡ Some q → q.key ≡ key → ⊥
    go true ih r = let same : p ≡ q = cc in λ s. none.0 (ap (λ (x : Place). x.key) same ∙ s)
    go false ih r = ih r

-- ---- one row more, and one less

-- the slots have this at the key, and what they had at each other key
pub record IsWritten (old new : List (Option (List Value))) (key : ℕ) (slot : Option (List Value)) : Type 0 where
  pub here : slot_at new key ≡ slot
  pub others : (other : ℕ) → (other ≡ key → ⊥) → slot_at new other ≡ slot_at old other

-- places with other keys lead to what they led to
rows-kept : (old new : List (Option (List Value))) (key : ℕ) (slot : Option (List Value)) (ps : List Place) → IsWritten old new key slot → NoneAt key ps → AreHeld old ps
    → AreHeld new ps × (rows_at new ps ≡ rows_at old ps)
rows-kept old new key slot [] w none h = (tt, refl)
rows-kept old new key slot (p ∷ ps) w none h =
    let same = w.others p.key none.0 in
    let rest = rows-kept old new key slot ps w none.1 h.1 in
    (((h.0.0, same ∙ h.0.1), rest.0), ap₂ (λ (o : Option (List Value)) (rows : List Stored). stored p.ticket (row_there o) ∷ rows) same rest.1)

rows-less : (old new : List (Option (List Value))) (n : ℕ) (ps : List Place) (q : Place) → IsWritten old new q.key None → IsRising place_ticket ps → AreApart ps → AreHeld old ps → first_with place_ticket n ps ≡ Some q
    → AreHeld new (without place_ticket n ps) × (rows_at new (without place_ticket n ps) ≡ without ticket_of n (rows_at old ps))
rows-less old new n [] q w rising apart h e = absurd (cc)
rows-less old new n (p ∷ ps) q w rising apart h e = go (eqb p.ticket n) refl (rows-less old new n ps q w rising.1 apart.1 h.1) e
  where
    Goal : Bool → Type 0
    Goal b = AreHeld new (cond (not b) (p ∷ without place_ticket n ps) (without place_ticket n ps))
        × (rows_at new (cond (not b) (p ∷ without place_ticket n ps) (without place_ticket n ps))
        ≡ cond (not b) (stored_at old p ∷ without ticket_of n (rows_at old ps)) (without ticket_of n (rows_at old ps)))

    go : (b : Bool) → eqb p.ticket n ≡ b
        → (first_with place_ticket n ps ≡ Some q → AreHeld new (without place_ticket n ps) × (rows_at new (without place_ticket n ps) ≡ without ticket_of n (rows_at old ps)))
        → cond b (Some p) (first_with place_ticket n ps) ≡ Some q → Goal b
    go true is ih r =
        let same : p ≡ q = cc in
        let above : AllAbove place_ticket n ps = above-weaker place_ticket n p.ticket ps (omega (arith, eqb-true p.ticket n is)) rising.0 in
        let kept = rows-kept old new q.key None ps w (subst (λ (x : Place). NoneAt x.key ps) same apart.0) h.1 in
        let all : without place_ticket n ps ≡ ps = without-above place_ticket n ps above in (
          subst (AreHeld new) (sym all) kept.0,
          ap (rows_at new) all ∙ (kept.1 ∙ sym (without-above ticket_of n (rows_at old ps) (above-rows old n ps above))),
        )
    go false is ih r =
        let rest = ih r in
        let same : slot_at new p.key ≡ slot_at old p.key = w.others p.key (λ s. none-first p.key n ps q apart.0 r (sym s)) in
        (((h.0.0, same ∙ h.0.1), rest.0), ap₂ (λ (o : Option (List Value)) (rows : List Stored). stored p.ticket (row_there o) ∷ rows) same rest.1)

-- ---- the store

pub store-push : (old new : List (Option (List Value))) (ps : List Place) (p : Place) (row : List Value) → IsStore old ps → IsWritten old new p.key (Some row) → slot_at old p.key ≡ None
    → count_by is_some new ≡ count_by is_some old + 1 → AllBelow ticket_of p.ticket (rows_at old ps)
    → IsStore new (ps ++ p ∷ []) × (rows_at new (ps ++ p ∷ []) ≡ rows_at old ps ++ stored p.ticket row ∷ [])
store-push old new ps p row h w vacant more later =
    let none = vacant-none old p.key ps vacant h.held in
    let kept = rows-kept old new p.key (Some row) ps w none h.held in (
      record {
        held = held-append new ps p kept.0 (row, w.here);
        rising = rising-push place_ticket ps p h.rising (below-places old p.ticket ps later);
        apart = apart-append ps p h.apart none;
        count = more ∙ (ap (λ n. n + 1) h.count ∙ sym (length-append ps (p ∷ [])));
      },
      rows-append new ps (p ∷ []) ∙ ap₂ (λ (xs ys : List Stored). xs ++ ys) kept.1 (ap (λ (s : Stored). s ∷ []) (stored-there new p row w.here)),
    )

pub store-take : (old new : List (Option (List Value))) (n : ℕ) (ps left : List Place) (p : Place) (row : List Value) → IsStore old ps → Some p ≡ first_with place_ticket n ps → left ≡ without place_ticket n ps
    → slot_at old p.key ≡ Some row → IsWritten old new p.key None → count_by is_some new + 1 ≡ count_by is_some old
    → IsStore new left × (rows_at new left ≡ without ticket_of n (rows_at old ps)) × (Some (stored p.ticket row) ≡ first_with ticket_of n (rows_at old ps))
store-take old new n ps left p row h first is there w less =
    let kept = rows-less old new n ps p w h.rising h.apart h.held (sym first) in (
      subst (IsStore new) (sym is) (record {
        held = kept.0;
        rising = rising-filter place_ticket (is_other place_ticket n) ps h.rising;
        apart = apart-filter (is_other place_ticket n) ps h.apart;
        count = omega (arith, less, h.count, length-without place_ticket n ps p h.rising (sym first));
      }),
      ap (rows_at new) is ∙ kept.1,
      sym (first-row old n ps ∙ (ap (row_for old) (sym first) ∙ ap (λ (s : Stored). Some s) (stored-there old p row there))),
    )

-- nothing is there to be taken
pub store-missing : (slots : List (Option (List Value))) (n : ℕ) (ps left : List Place) → IsStore slots ps → None ≡ first_with place_ticket n ps → left ≡ without place_ticket n ps
    → (left ≡ ps) × (None ≡ first_with ticket_of n (rows_at slots ps)) × (rows_at slots left ≡ without ticket_of n (rows_at slots ps))
store-missing slots n ps left h first is =
    let same : left ≡ ps = is ∙ without-missing place_ticket n ps (sym first) in
    let none : first_with ticket_of n (rows_at slots ps) ≡ None = first-row slots n ps ∙ ap (row_for slots) (sym first) in
    (same, sym none, ap (rows_at slots) same ∙ sym (without-missing ticket_of n (rows_at slots ps) none))

-- ---- rows of several blocks

held-front : (slots : List (Option (List Value))) (ps qs : List Place) → AreHeld slots (ps ++ qs) → AreHeld slots ps
held-front slots [] qs h = tt
held-front slots (p ∷ ps) qs h = (h.0, held-front slots ps qs h.1)

held-behind : (slots : List (Option (List Value))) (ps qs : List Place) → AreHeld slots (ps ++ qs) → AreHeld slots qs
held-behind slots [] qs h = h
held-behind slots (p ∷ ps) qs h = held-behind slots ps qs h.1

pub held-block : (slots : List (Option (List Value))) (bs : List (List Place)) (i : ℕ) (d : List Place) → AreHeld slots (flat bs) → i < length bs → AreHeld slots (get_or bs i d)
held-block slots [] i d h lt = absurd (omega (arith, lt))
held-block slots (b ∷ bs) zero d h lt = held-front slots b (flat bs) h
held-block slots (b ∷ bs) (suc i) d h lt = held-block slots bs i d (held-behind slots b (flat bs) h) (omega (arith, lt))

pub held-place : (slots : List (Option (List Value))) (ps : List Place) (i : ℕ) (d : Place) → AreHeld slots ps → i < length ps → IsHeld slots (get_or ps i d)
held-place slots [] i d h lt = absurd (omega (arith, lt))
held-place slots (p ∷ ps) zero d h lt = h.0
held-place slots (p ∷ ps) (suc i) d h lt = held-place slots ps i d h.1 (omega (arith, lt))

pub pairs-append : (xs ys : List Stored) → pairs (xs ++ ys) ≡ pairs xs ++ pairs ys
pairs-append [] ys = refl
pairs-append (x ∷ xs) ys = ap (λ (zs : List (ℕ × List Value)). pair_of x ∷ zs) (pairs-append xs ys)

pub below-append : (slots : List (Option (List Value))) (n : ℕ) (ps qs : List Place) → pairs (rows_below n (rows_at slots (ps ++ qs))) ≡ pairs (rows_below n (rows_at slots ps)) ++ pairs (rows_below n (rows_at slots qs))
below-append slots n ps qs =
    ap (λ (xs : List Stored). pairs (rows_below n xs)) (rows-append slots ps qs)
    ∙ (ap pairs (filter-append (is_below n) (rows_at slots ps) (rows_at slots qs)) ∙ pairs-append (rows_below n (rows_at slots ps)) (rows_below n (rows_at slots qs)))

-- one place more, whose row is taken or passed over
pub below-taken : (slots : List (Option (List Value))) (n i : ℕ) (ps : List Place) (p : Place) (row : List Value) → i < length ps → p ≡ get_or ps i p → slot_at slots p.key ≡ Some row → p.ticket < n
    → pairs (rows_below n (rows_at slots (take (i + 1) ps))) ≡ pairs (rows_below n (rows_at slots (take i ps))) ++ (p.ticket, row) ∷ []
below-taken slots n i ps p row lt is there le =
    ap (λ (qs : List Place). pairs (rows_below n (rows_at slots qs))) (take_more ps i p lt ∙ ap (λ (q : Place). take i ps ++ q ∷ []) (sym is))
    ∙ (below-append slots n (take i ps) (p ∷ [])
    ∙ ap (λ (zs : List (ℕ × List Value)). pairs (rows_below n (rows_at slots (take i ps))) ++ zs)
    (ap (λ (s : Stored). pairs (rows_below n (s ∷ []))) (stored-there slots p row there) ∙ ap (λ b. pairs (cond b (stored p.ticket row ∷ []) [])) (lt-ltb p.ticket n le)))

pub below-passed : (slots : List (Option (List Value))) (n i : ℕ) (ps : List Place) (p : Place) → i < length ps → p ≡ get_or ps i p → n ≤ p.ticket
    → pairs (rows_below n (rows_at slots (take (i + 1) ps))) ≡ pairs (rows_below n (rows_at slots (take i ps)))
below-passed slots n i ps p lt is le =
    ap (λ (qs : List Place). pairs (rows_below n (rows_at slots qs))) (take_more ps i p lt ∙ ap (λ (q : Place). take i ps ++ q ∷ []) (sym is))
    ∙ (below-append slots n (take i ps) (p ∷ [])
    ∙ (ap (λ (zs : List (ℕ × List Value)). pairs (rows_below n (rows_at slots (take i ps))) ++ zs) (ap (λ b. pairs (cond b (stored_at slots p ∷ []) [])) (le-ltb p.ticket n le))
    ∙ append-nil (pairs (rows_below n (rows_at slots (take i ps))))))

-- ---- the slab's own words

pub written-at : (old new : Slab (List Value)) (key at : ℕ) (slot : Option (List Value)) → Updates old new key slot → key ≡ at → IsWritten old.slots new.slots at slot
written-at old new key at slot u e = subst (λ k. IsWritten old.slots new.slots k slot) e (record { here = u.changed; others = u.others })

-- a row was put under a vacant key of a slab that had the same slots before, and a place at the end
pub put-row : (before old new : Slab (List Value)) (ps qs : List Place) (p : Place) (row : List Value) (key : ℕ) → old.slots ≡ before.slots → IsStore before.slots ps → Updates old new key (Some row)
    → key ≡ p.key → slab_get old key ≡ None → slab_len new ≡ slab_len old + 1 → AllBelow ticket_of p.ticket (rows_at before.slots ps) → qs ≡ ps ++ p ∷ []
    → IsStore new.slots qs × (rows_at new.slots qs ≡ rows_at before.slots ps ++ stored p.ticket row ∷ [])
put-row before old new ps qs p row key same h u e vacant more later is =
    let r = store-push old.slots new.slots ps p row (subst (λ (slots : List (Option (List Value))). IsStore slots ps) (sym same) h) (written-at old new key p.key (Some row) u e)
    (ap (slot_at old.slots) (sym e) ∙ vacant) more (subst (λ (slots : List (Option (List Value))). AllBelow ticket_of p.ticket (rows_at slots ps)) (sym same) later) in (
      subst (IsStore new.slots) (sym is) r.0,
      ap (rows_at new.slots) is ∙ (r.1 ∙ ap (λ (slots : List (Option (List Value))). rows_at slots ps ++ stored p.ticket row ∷ []) same),
    )
