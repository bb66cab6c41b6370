use Rattle.std.proofs.Common.{◌≡◌, ◌++◌, ◌+ℤ◌, pos, ◌∙◌, ap, arith, rules}
use Rattle.std.proofs.lemmas.Int.{ints}
use mir.Val.{SFits, of_z, to_z}
use mir.Syntax.{w64}
use Rattle.pj_value.specs.declared.values.Value.TheVariants.{Int}
use Rattle.pj_state.specs.States.{rows_with, tickets_of}
use Rattle.pj_rows.proofs.Ranged.{hold_all, hold_more}
use Rattle.pj_rows.proofs.ranges.tickets_among.Goals as goal

pub returns-in-Nothing : goal.returns-in-Nothing
returns-in-Nothing c = hold_all c.args.column c.args.numbers c.loop.left c.args.state.now.rows c.loop.tickets c.loop.invariant.0 c.loop.invariant.1 c.in-Nothing.ensures

pub loop-preserved : goal.loop-preserved
loop-preserved c =
    let fits : SFits w64 c.in-At.number = search rules in
    let same : to_z w64 (of_z w64 c.in-At.number) ≡ c.in-At.number = omega (arith, ints, fits) in
    let next = c.in-Some.ensures in
    let after : SFits w64 c.in-Some.next = search rules in
    let one : to_z w64 (of_z w64 c.in-Some.next) ≡ c.in-At.number +ℤ pos 1 = omega (arith, ints, fits, after, next) in (
      hold_more c.args.column c.args.numbers.low c.loop.left.low c.in-At.number _ c.args.state.now.rows c.loop.tickets c.append_with.new.tickets one c.loop.invariant.0 c.in-At.ensures
          (c.in_ok-append_with-in-At.ensures ∙ ap (λ n. c.loop.tickets ++ tickets_of (rows_with c.args.column (Int n) c.args.state.now.rows)) same),
      c.loop.invariant.1,
    )
