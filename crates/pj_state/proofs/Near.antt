-- Places in a block with a base.
use Rattle.std.proofs.Common.{◌≡◌, ℕ, zero, suc, ◌+◌, ◌<◌, Bool, true, false, cond, List, [], ◌∷◌, ◌++◌, Option, None, Some, length, get_or, eqb, refl, ap, sym, ◌∙◌, subst, arith}
use Rattle.std.specs.List.{remove, slice_get}
use Rattle.std.specs.Option.{IfNone, IfSome}
use Rattle.std.proofs.lemmas.Option.{slice_get-get_or}
use Rattle.std.proofs.lemmas.Bool.{eqb-true, eq-eqb, false_from_ne_true, true≢false}
use Rattle.pj_state.specs.Nears.{near_past, near_place, places_from}
use Rattle.pj_state.specs.Rising.{AllAbove, IsRising, first_with}
use Rattle.pj_state.specs.Stores.{place_ticket}
use Rattle.pj_state.specs.declared.places.Near.{Near}
use Rattle.pj_state.specs.declared.places.Place.{Place}

pub near-push : (base : ℕ) (ns : List Near) (n : Near) → places_from base (ns ++ n ∷ []) ≡ places_from base ns ++ near_place base n ∷ []
near-push base [] n = refl
near-push base (m ∷ ns) n = ap (λ (ps : List Place). near_place base m ∷ ps) (near-push base ns n)

pub near-length : (base : ℕ) (ns : List Near) → length (places_from base ns) ≡ length ns
near-length base [] = refl
near-length base (n ∷ ns) = omega (arith, near-length base ns)

pub near-got : (base : ℕ) (ns : List Near) (at : ℕ) (n : Near) → slice_get ns at ≡ Some n → slice_get (places_from base ns) at ≡ Some (near_place base n)
near-got base [] at n is = absurd (cc)
near-got base (m ∷ ns) zero n is = let same : m ≡ n = cc in ap (λ (near : Near). Some (near_place base near)) same
near-got base (m ∷ ns) (suc at) n is = near-got base ns at n is

pub near-remove : (base : ℕ) (ns : List Near) (at : ℕ) → places_from base (remove ns at) ≡ remove (places_from base ns) at
near-remove base [] zero = refl
near-remove base [] (suc at) = refl
near-remove base (n ∷ ns) zero = refl
near-remove base (n ∷ ns) (suc at) = ap (λ (ps : List Place). near_place base n ∷ ps) (near-remove base ns at)

pub near-ticket : (base ticket past : ℕ) (ns : List Near) (at : ℕ) → at < length ns → ((d : Near) → near_past (get_or ns at d) ≡ past) → base + past ≡ ticket → (d : Place) → place_ticket (get_or (places_from base ns) at d) ≡ ticket
near-ticket base ticket past [] at lt h e d = absurd (omega (arith, lt))
near-ticket base ticket past (n ∷ ns) zero lt h e d = omega (arith, h n, e)
near-ticket base ticket past (n ∷ ns) (suc at) lt h e d = near-ticket base ticket past ns at (omega (arith, lt)) h e d

near-above : (base past : ℕ) (ns : List Near) → AllAbove place_ticket (base + past) (places_from base ns) → AllAbove near_past past ns
near-above base past [] h = tt
near-above base past (n ∷ ns) h = (omega (arith, h.0), near-above base past ns h.1)

near-rising : (base : ℕ) (ns : List Near) → IsRising place_ticket (places_from base ns) → IsRising near_past ns
near-rising base [] h = tt
near-rising base (n ∷ ns) h = (near-above base n.past ns h.0, near-rising base ns h.1)

-- none has the ticket where none is as far past the base
near-none : (base ticket past : ℕ) (ns : List Near) → base + past ≡ ticket → first_with near_past past ns ≡ None → first_with place_ticket ticket (places_from base ns) ≡ None
near-none base ticket past [] e h = refl
near-none base ticket past (n ∷ ns) e h = go (eqb n.past past) (eqb (base + n.past) ticket) refl refl (λ r. near-none base ticket past ns e r) h
  where
    go : (a b : Bool) → eqb n.past past ≡ a → eqb (base + n.past) ticket ≡ b → (first_with near_past past ns ≡ None → first_with place_ticket ticket (places_from base ns) ≡ None)
        → cond a (Some n) (first_with near_past past ns) ≡ None → cond b (Some (near_place base n)) (first_with place_ticket ticket (places_from base ns)) ≡ None
    go true b p q ih r = absurd (cc)
    go false true p q ih r = absurd (true≢false (sym (eq-eqb n.past past (omega (arith, eqb-true (base + n.past) ticket q, e))) ∙ p))
    go false false p q ih r = ih r

pub near-missing : (base ticket past : ℕ) (ns : List Near) → base + past ≡ ticket → (IsRising near_past ns → first_with near_past past ns ≡ None) → IsRising place_ticket (places_from base ns)
    → first_with place_ticket ticket (places_from base ns) ≡ None
near-missing base ticket past ns e h rising = near-none base ticket past ns e (h (near-rising base ns rising))

-- none has a ticket below the base
pub near-before : (base ticket : ℕ) (ns : List Near) → ticket < base → first_with place_ticket ticket (places_from base ns) ≡ None
near-before base ticket [] lt = refl
near-before base ticket (n ∷ ns) lt =
    ap (λ b. cond b (Some (near_place base n)) (first_with place_ticket ticket (places_from base ns)))
    (false_from_ne_true (eqb (base + n.past) ticket) (λ q. omega (arith, lt, eqb-true (base + n.past) ticket q)))
    ∙ near-before base ticket ns lt

-- ---- what a search finds

pub near-within : (base : ℕ) (ns : List Near) (ps : List Place) (o : Option ℕ) → places_from base ns ≡ ps → IfSome o (λ at. at < length ns) → IfSome o (λ at. at < length ps)
near-within base ns ps None is lt = tt
near-within base ns ps (Some at) is lt = omega (arith, lt, near-length base ns, ap length is)

pub near-found : (base ticket past : ℕ) (ns : List Near) (ps : List Place) (o : Option ℕ) → places_from base ns ≡ ps → base + past ≡ ticket → IfSome o (λ at. at < length ns)
    → IfSome o (λ at. (d : Near) → near_past (get_or ns at d) ≡ past) → IfSome o (λ at. (d : Place) → place_ticket (get_or ps at d) ≡ ticket)
near-found base ticket past ns ps None is e lt h = tt
near-found base ticket past ns ps (Some at) is e lt h = λ d. subst (λ (qs : List Place). place_ticket (get_or qs at d) ≡ ticket) is (near-ticket base ticket past ns at lt h e d)

pub near-lost : (base ticket past : ℕ) (ns : List Near) (ps : List Place) (o : Option ℕ) → places_from base ns ≡ ps → base + past ≡ ticket → IfNone o (IsRising near_past ns → first_with near_past past ns ≡ None)
    → IfNone o (IsRising place_ticket ps → first_with place_ticket ticket ps ≡ None)
near-lost base ticket past ns ps None is e h = subst (λ (qs : List Place). IsRising place_ticket qs → first_with place_ticket ticket qs ≡ None) is (near-missing base ticket past ns e h)
near-lost base ticket past ns ps (Some at) is e h = tt

pub item-there : (ps : List Place) (at : ℕ) (p : Place) → at < length ps → slice_get ps at ≡ Some p → p ≡ get_or ps at p
item-there ps at p lt e = let same : Some p ≡ Some (get_or ps at p) = sym e ∙ slice_get-get_or ps at p lt in cc
