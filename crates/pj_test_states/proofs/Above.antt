-- A number above all of these, and a greater one.
use Rattle.std.proofs.Common.{◌≤◌, ℕ, List, [], ◌∷◌, arith}
use Rattle.pj_puncts.specs.declared.store.NumberedPunct.{NumberedPunct}
use Rattle.pj_puncts.specs.Stores.{IsAbove}

pub above_rises : (m n : ℕ) (ks : List NumberedPunct) → IsAbove m ks → m ≤ n → IsAbove n ks
above_rises m n [] h le = tt
above_rises m n (k ∷ ks) h le = (omega (arith, h.0, le), above_rises m n ks h.1 le)
