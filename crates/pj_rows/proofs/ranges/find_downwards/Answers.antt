use Rattle.std.proofs.Common.{ℕ, Option, ◌≡◌, ◌+ℤ◌, pos, ◌∙◌, ap, arith, rules, subst, sym}
use Rattle.std.proofs.lemmas.Int.{ints}
use mir.Val.{SFits, of_z, to_z}
use mir.Syntax.{w64}
use Rattle.pj_value.specs.declared.values.Value.TheVariants.{Int}
use Rattle.pj_state.specs.States.{rows_with}
use Rattle.pj_rows.specs.Finding.{IsFound, still_held}
use Rattle.pj_rows.proofs.Found.{found_with}
use Rattle.pj_rows.proofs.Ranged.{stay_less, stay_none_down}
use Rattle.pj_rows.proofs.ranges.find_downwards.Goals as goal

pub returns-in-Nothing : goal.returns-in-Nothing
returns-in-Nothing c = stay_none_down c.args.stretch.column c.args.stretch.numbers c.loop.left c.args.state.now.rows c.args.gone.now c.args.punct.now c.requires.needs c.loop.invariant.0 c.loop.invariant.1 c.in-Nothing.ensures

pub returns-in-Some : goal.returns-in-Some
returns-in-Some c =
    found_with c.args.stretch.column (Int (to_z w64 (of_z w64 c.in-At.number))) c.args.state.now.rows c.args.gone.now c.args.punct.now c.in-Some.found
    (subst (λ (o : Option ℕ). IsFound (rows_with c.args.stretch.column (Int (to_z w64 (of_z w64 c.in-At.number))) c.args.state.now.rows) c.args.gone.now c.args.punct.now o) c.in-Some.is c.find_with.ensures)

pub loop-preserved : goal.loop-preserved
loop-preserved c =
    let fits : SFits w64 c.in-At.number = search rules in
    let same : to_z w64 (of_z w64 c.in-At.number) ≡ c.in-At.number = omega (arith, ints, fits) in
    let next = c.in-Some-before.ensures in
    let after : SFits w64 c.in-Some-before.last = search rules in
    let none = subst (λ (o : Option ℕ). IsFound (rows_with c.args.stretch.column (Int (to_z w64 (of_z w64 c.in-At.number))) c.args.state.now.rows) c.args.gone.now c.args.punct.now o) c.in-None.is c.find_with.ensures in
    let one : to_z w64 (of_z w64 c.in-Some-before.last) +ℤ pos 1 ≡ c.in-At.number = omega (arith, ints, fits, after, next) in (
      stay_less c.args.stretch.column c.args.stretch.numbers.high c.loop.left.high c.in-At.number _ c.args.state.now.rows c.args.gone.now c.args.punct.now one c.loop.invariant.0 c.in-At.ensures
          (ap (λ n. still_held (rows_with c.args.stretch.column (Int n) c.args.state.now.rows) c.args.gone.now c.args.punct.now) (sym same) ∙ none),
      c.loop.invariant.1,
    )
