-- The spellings of values, one list behind another.
use Rattle.std.proofs.Common.{◌≡◌, ℕ, List, ◌∷◌, ◌++◌, length, take, ap, sym, ◌∙◌, append_assoc, arith}
use Rattle.std.proofs.lemmas.Grind.{flat_map-append}
use Rattle.std.proofs.lemmas.List.{length-append, take-take}
use Rattle.std.proofs.Math.Seq.{take-append_seam}
use Rattle.pj_value.specs.declared.values.Value.{Value}
use Rattle.pj_value.specs.Texts.{IsFront, value_spelling, values_spelling}

pub spelled_both : (old mid new : List ℕ) (vs ws : List Value) → mid ≡ old ++ values_spelling vs → new ≡ mid ++ values_spelling ws → new ≡ old ++ values_spelling (vs ++ ws)
spelled_both old mid new vs ws first second =
    second ∙ (ap (λ (m : List ℕ). m ++ values_spelling ws) first
    ∙ (append_assoc old (values_spelling vs) (values_spelling ws)
    ∙ ap (λ (s : List ℕ). old ++ s) (sym (flat_map-append (λ v. 32 ∷ value_spelling v) vs ws))))

-- what stood before the first stands before both
pub first_stays : (old mid new more : List ℕ) → mid ≡ old ++ more → IsFront mid new → IsFront old new
first_stays old mid new more is front =
    sym (take-take (length old) (length mid) new (omega (arith, ap length is, length-append old more)))
    ∙ (ap (take (length old)) (front ∙ is)
    ∙ take-append_seam old more)
