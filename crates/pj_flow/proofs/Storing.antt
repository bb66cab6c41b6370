-- The stores of a union, and what a sample rules out.
use Rattle.std.proofs.Common.{ℕ, zero, suc, ◌+◌, ◌<◌, ◌≤◌, Bool, true, false, cond, List, [], ◌∷◌, ◌++◌, ◌≡◌, refl, sym, ap, ◌∙◌, subst, eqb, arith, length, get_or, append-nil}
use Rattle.std.proofs.lemmas.Bool.{eq-eqb, ne_eqb}
use Rattle.std.proofs.Math.ListN.{set}
use Rattle.pj_events.specs.Operators.{Sent}
use Rattle.pj_puncts.specs.declared.store.NumberedPunct.{NumberedPunct}
use Rattle.pj_puncts.specs.Stores.{IsAbove, Store}
use Rattle.pj_flow.specs.Stored.{AreStored, IsStore, of_input}

abbrev entry : ℕ → Sent → NumberedPunct
entry at q = record { punct = q.patterns; number = at }

-- the numbers are those of the places
pub numbers_below : (k at : ℕ) (came : List Sent) (n : ℕ) → at + length came ≤ n → IsAbove n (of_input k at came)
numbers_below k at [] n le = tt
numbers_below k at (q ∷ came) n le = go (eqb q.input k) (numbers_below k (at + 1) came n (omega (arith, le)))
  where
    go : (b : Bool) → IsAbove n (of_input k (at + 1) came) → IsAbove n (cond b (entry at q ∷ of_input k (at + 1) came) (of_input k (at + 1) came))
    go true rest = (omega (arith, le), rest)
    go false rest = rest

-- what the newest adds
abbrev own : ℕ → ℕ → Sent → List NumberedPunct
own k at q = cond (eqb q.input k) (entry at q ∷ []) []

of_input_push : (k at : ℕ) (came : List Sent) (q : Sent) → of_input k at (came ++ q ∷ []) ≡ of_input k at came ++ own k (at + length came) q
of_input_push k at [] q = go (eqb q.input k)
  where
    go : (b : Bool) → cond {A = List NumberedPunct} b (entry at q ∷ []) [] ≡ cond {A = List NumberedPunct} b (entry (at + 0) q ∷ []) []
    go true = ap (λ (n : ℕ). entry n q ∷ []) (omega arith)
    go false = refl
of_input_push k at (p ∷ came) q =
    go (eqb p.input k) (of_input_push k (at + 1) came q ∙ ap (λ (n : ℕ). of_input k (at + 1) came ++ own k n q) (omega arith))
  where
    go : (b : Bool) → of_input k (at + 1) (came ++ q ∷ []) ≡ of_input k (at + 1) came ++ own k (at + length (p ∷ came)) q
        → cond b (entry at p ∷ of_input k (at + 1) (came ++ q ∷ [])) (of_input k (at + 1) (came ++ q ∷ []))
        ≡ cond b (entry at p ∷ of_input k (at + 1) came) (of_input k (at + 1) came) ++ own k (at + length (p ∷ came)) q
    go true rest = ap (λ (ks : List NumberedPunct). entry at p ∷ ks) rest
    go false rest = rest

pub store_got : (arity : ℕ) (came : List Sent) (k : ℕ) (stores : List Store) (i n : ℕ) (store other : Store) → k + i ≡ n → AreStored arity came k stores → i < length stores → store ≡ get_or stores i other → IsStore arity came n store
store_got arity came k [] i n store other at all lt e = absurd (omega (arith, lt))
store_got arity came k (s ∷ stores) zero n store other at all lt e = subst (λ (x : Store). IsStore arity came n x) (sym e) (subst (λ (m : ℕ). IsStore arity came m s) (omega (arith, at)) all.0)
store_got arity came k (s ∷ stores) (suc i) n store other at all lt e = store_got arity came (k + 1) stores i n store other (omega (arith, at)) all.1 (omega (arith, lt)) e

-- of inputs from this one on both have the same
abbrev AreAlike : ℕ → List Sent → List Sent → Type 0
AreAlike k old new = (j : ℕ) → k ≤ j → of_input j 0 old ≡ of_input j 0 new

moved : (arity : ℕ) (old new : List Sent) (k : ℕ) (stores : List Store) → AreAlike k old new → AreStored arity old k stores → AreStored arity new k stores
moved arity old new k [] alike all = tt
moved arity old new k (s ∷ stores) alike all = (record { wide = all.0.wide; has = all.0.has ∙ alike k (omega arith) }, moved arity old new (k + 1) stores (λ j le. alike j (omega (arith, le))) all.1)

-- one store changes
set_stored : (arity : ℕ) (old new : List Sent) (k : ℕ) (stores : List Store) (i n : ℕ) (store : Store) → k + i ≡ n → AreStored arity old k stores → IsStore arity new n store
    → ((j : ℕ) → j < n → of_input j 0 old ≡ of_input j 0 new) → AreAlike (n + 1) old new → AreStored arity new k (set stores i store)
set_stored arity old new k [] i n store at all is below above = tt
set_stored arity old new k (s ∷ stores) zero n store at all is below above =
    let same : n ≡ k = omega (arith, at) in
    (subst (λ (m : ℕ). IsStore arity new m store) same is, moved arity old new (k + 1) stores (λ j le. above j (omega (arith, le, same))) all.1)
set_stored arity old new k (s ∷ stores) (suc i) n store at all is below above =
    (record { wide = all.0.wide; has = all.0.has ∙ below k (omega (arith, at)) }, set_stored arity old new (k + 1) stores i n store (omega (arith, at)) all.1 is below above)

own_not : (j at : ℕ) (q : Sent) → (q.input ≡ j → ⊥) → own j at q ≡ []
own_not j at q differ = ap (λ (b : Bool). cond b (entry at q ∷ []) []) (ne_eqb q.input j differ)

own_is : (at : ℕ) (q : Sent) → own q.input at q ≡ entry at q ∷ []
own_is at q = ap (λ (b : Bool). cond b (entry at q ∷ []) []) (eq-eqb q.input q.input refl)

others_stay : (came : List Sent) (q : Sent) (j : ℕ) → (q.input ≡ j → ⊥) → of_input j 0 came ≡ of_input j 0 (came ++ q ∷ [])
others_stay came q j differ = sym (of_input_push j 0 came q ∙ (ap (λ (ks : List NumberedPunct). of_input j 0 came ++ ks) (own_not j (0 + length came) q differ) ∙ append-nil (of_input j 0 came)))

-- the newest is filed
pub filed : (arity : ℕ) (came : List Sent) (q : Sent) (stores : List Store) (old new : Store) → q.input < length stores → old ≡ get_or stores q.input old → AreStored arity came 0 stores → new.arity ≡ old.arity
    → new.kept ≡ old.kept ++ entry (length came) q ∷ [] → AreStored arity (came ++ q ∷ []) 0 (set stores q.input new)
filed arity came q stores old new lt got all wide has =
    let was : IsStore arity came q.input old = store_got arity came 0 stores q.input q.input old old (omega arith) all lt got in
    set_stored arity came (came ++ q ∷ []) 0 stores q.input q.input new (omega arith) all
    (record {
      wide = wide ∙ was.wide;
      has = has ∙ (ap (λ (ks : List NumberedPunct). ks ++ entry (length came) q ∷ []) was.has
          ∙ sym (of_input_push q.input 0 came q ∙ ap (λ (ks : List NumberedPunct). of_input q.input 0 came ++ ks) (own_is (0 + length came) q ∙ ap (λ (n : ℕ). entry n q ∷ []) (omega arith))));
    })
    (λ j lt. others_stay came q j (λ e. omega (arith, lt, e))) (λ j le. others_stay came q j (λ e. omega (arith, le, e)))

-- a refused one is not
pub refused : (arity : ℕ) (came : List Sent) (i : ℕ) (stores : List Store) (old new : Store) → i < length stores → old ≡ get_or stores i old → AreStored arity came 0 stores → new.arity ≡ old.arity → new.kept ≡ old.kept
    → AreStored arity came 0 (set stores i new)
refused arity came i stores old new lt got all wide has =
    let was : IsStore arity came i old = store_got arity came 0 stores i i old old (omega arith) all lt got in
    set_stored arity came came 0 stores i i new (omega arith) all (record { wide = wide ∙ was.wide; has = has ∙ was.has }) (λ j lt. refl) (λ j le. refl)

-- one of an input without a store is in none
pub unfiled : (arity : ℕ) (came : List Sent) (q : Sent) (k : ℕ) (stores : List Store) → k + length stores ≤ q.input → AreStored arity came k stores → AreStored arity (came ++ q ∷ []) k stores
unfiled arity came q k [] le all = tt
unfiled arity came q k (s ∷ stores) le all =
    (record { wide = all.0.wide; has = all.0.has ∙ others_stay came q k (λ e. omega (arith, le, e)) }, unfiled arity came q (k + 1) stores (omega (arith, le)) all.1)

-- a new store is that of an input from which nothing has come
pub filled : (arity : ℕ) (came : List Sent) (k : ℕ) (stores : List Store) (store : Store) → AreStored arity came k stores → length came ≤ 0 → store.arity ≡ arity → store.kept ≡ [] → AreStored arity came k (stores ++ store ∷ [])
filled arity [] k [] store all le wide none = (record { wide = wide; has = none }, tt)
filled arity (q ∷ came) k [] store all le wide none = absurd (omega (arith, le))
filled arity came k (s ∷ stores) store all le wide none = (all.0, filled arity came (k + 1) stores store all.1 le wide none)
