-- Sweeps of places, one after the other.
use Rattle.std.proofs.Common.{ℕ, suc, zero, ◌+◌, ◌<◌, ◌≤◌, List, [], ◌∷◌, ◌++◌, ◌≡◌, length, take, drop, get_or, refl, ap, ◌∙◌, arith}
use Rattle.pj_events.specs.declared.events.Entry.{Entry}
use Rattle.pj_events.specs.declared.events.Event.TheVariants.{Sweep as Swept}
use Rattle.pj_laws.specs.Seats.{seated}
use Rattle.pj_workers.specs.Rounds.{swept_each}

abbrev pub swept : ℕ → (ℕ × ℕ) → Entry
swept n place = seated n (Swept place.0 place.1) 0

-- the place at i is swept behind those before it, and those behind it are left
pub swept-split : (n : ℕ) (places : List (ℕ × ℕ)) (i : ℕ) (d : ℕ × ℕ) → i < length places → swept_each n (take i places) ++ swept n (get_or places i d) ∷ swept_each n (drop (suc i) places) ≡ swept_each n places
swept-split n [] i d l = absurd (omega (arith, l))
swept-split n (p ∷ ps) zero d l = refl
swept-split n (p ∷ ps) (suc i) d l = ap (λ (es : List Entry). swept n p ∷ es) (swept-split n ps i d (omega (arith, l)))

pub swept-suc : (n : ℕ) (places : List (ℕ × ℕ)) (i : ℕ) (d : ℕ × ℕ) → i < length places → swept_each n (take (suc i) places) ≡ swept_each n (take i places) ++ swept n (get_or places i d) ∷ []
swept-suc n [] i d l = absurd (omega (arith, l))
swept-suc n (p ∷ ps) zero d l = refl
swept-suc n (p ∷ ps) (suc i) d l = ap (λ (es : List Entry). swept n p ∷ es) (swept-suc n ps i d (omega (arith, l)))

pub swept-more : (n : ℕ) (places : List (ℕ × ℕ)) (i : ℕ) (d : ℕ × ℕ) → i < length places → swept_each n (take (i + 1) places) ≡ swept_each n (take i places) ++ swept n (get_or places i d) ∷ []
swept-more n places i d l = let on : i + 1 ≡ suc i = omega arith in ap (λ (k : ℕ). swept_each n (take k places)) on ∙ swept-suc n places i d l

pub swept-all : (n : ℕ) (places : List (ℕ × ℕ)) (i : ℕ) → length places ≤ i → swept_each n (take i places) ≡ swept_each n places
swept-all n [] zero l = refl
swept-all n [] (suc i) l = refl
swept-all n (p ∷ ps) zero l = absurd (omega (arith, l))
swept-all n (p ∷ ps) (suc i) l = ap (λ (es : List Entry). swept n p ∷ es) (swept-all n ps i (omega (arith, l)))
