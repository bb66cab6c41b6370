use Rattle.std.proofs.Common.{◌≡◌, ◌++◌, ◌∷◌, [], ap, ap₂, sym, ◌∙◌, to_z, of_z, arith}
use Rattle.std.proofs.lemmas.Int.{ints}
use Rattle.std.specs.Int.{saturate_signed, w64}
use Rattle.std.specs.Prelude.{ℤ, ◌+ℤ◌}
use Rattle.pj_events.specs.declared.events.Out.{Out}
use Rattle.pj_events.specs.Outcomes.{elements_out}
use Rattle.pj_report.specs.Sums.{total_of}
use Rattle.pj_report.proofs.Summing.{summed_row}
use Rattle.pj_report.proofs.sums.add_to.Goals as goal

pub returns-in-Tuple : goal.returns-in-Tuple
returns-in-Tuple c = λ before is.
    let new : to_z w64 (of_z w64 c.saturating_add.result) ≡ c.saturating_add.result = omega (arith, ints) in
    let total : to_z w64 (of_z w64 c.args.total.now) ≡ c.args.total.now = omega (arith, ints) in
    let number : to_z w64 (of_z w64 c.last_number.result) ≡ c.last_number.result = omega (arith, ints) in
    new
    ∙ (c.saturating_add.ensures
    ∙ (ap₂ (λ (t n : ℤ). saturate_signed w64 (t +ℤ n)) total number
    ∙ (summed_row before c.in-Tuple.row c.args.total.now c.last_number.result is c.last_number.ensures
    ∙ ap (λ (handed : Out). total_of (before ++ elements_out (handed ∷ []))) (sym c.in-Tuple.is))))
