use Rattle.std.proofs.Common.{arith, rules}
use Rattle.std.proofs.lemmas.Int.{ints}
use mir.Val.{SFits}
use mir.Syntax.{w64}
use Rattle.pj_rows.proofs.ranges.last_among.Goals as goal

pub returns-then-is_below : goal.returns-then-is_below
returns-then-is_below c =
    let fits : SFits w64 c.in-At.number = search rules in
    λ s n h at among. c.is_below.ensures c.if-is_below.true n (let greatest = c.in-At.ensures.greatest s n h at among.1 in omega (arith, ints, fits, greatest)) among.0
