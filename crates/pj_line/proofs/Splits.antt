-- The first piece of a file.
use Rattle.std.proofs.Common.{◌≡◌, ℕ, ◌-◌, ◌<◌, List, [], ◌∷◌, length, take, drop, refl, ap, arith}
use Rattle.std.proofs.lemmas.Bool.Decides.{nat_tests}
use Rattle.std.proofs.lemmas.List.{take_all, length-drop}
use Rattle.pj_line.specs.Lines.{pieces, onto}
use Rattle.pj_line.proofs.Fronts.{folded}

pub pieces_at_feed : (b : ℕ) (bs : List ℕ) → b ≡ 10 → pieces (b ∷ bs) ≡ [] ∷ pieces bs
pieces_at_feed b bs is = grind (arith, nat_tests)

pub folded_onto_first : (front : List ℕ) (ps : List (List ℕ)) → folded onto front ([] ∷ ps) ≡ front ∷ ps
folded_onto_first [] ps = refl
folded_onto_first (x ∷ xs) ps = ap (onto x) (folded_onto_first xs ps)

pub folded_onto_none : (front : List ℕ) → 0 < length front → folded onto front [] ≡ front ∷ []
folded_onto_none [] some = absurd (omega arith)
folded_onto_none (x ∷ []) some = refl
folded_onto_none (x ∷ y ∷ xs) some = ap (onto x) (folded_onto_none (y ∷ xs) (omega arith))

-- `&xs[i..]`
pub tail_is : (bytes : List ℕ) (i : ℕ) → take (length bytes - i) (drop i bytes) ≡ drop i bytes
tail_is bytes i = take_all (length bytes - i) (drop i bytes) (omega (arith, length-drop i bytes))
