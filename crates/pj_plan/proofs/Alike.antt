-- Columns of other numbers are not alike.
use Rattle.std.proofs.Common.{◌≡◌, false, List, [], ◌∷◌, length, refl, arith}
use Rattle.std.proofs.Math.Bool.{and-false}
use Rattle.pj_shape.specs.declared.columns.Column.{Column}
use Rattle.pj_plan.specs.Faults.{are_alike, kind_eq}

pub alike_length : (columns others : List Column) → (length columns ≡ length others → ⊥) → are_alike columns others ≡ false
alike_length [] [] differ = absurd (differ refl)
alike_length [] (d ∷ ds) differ = refl
alike_length (c ∷ cs) [] differ = refl
alike_length (c ∷ cs) (d ∷ ds) differ = rw (alike_length cs ds (λ e. differ (omega (arith, e)))) (and-false (kind_eq c.kind d.kind))
