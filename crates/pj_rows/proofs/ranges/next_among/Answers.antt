use Rattle.std.proofs.Common.{arith, rules}
use Rattle.std.proofs.lemmas.Int.{ints}
use mir.Val.{SFits}
use mir.Syntax.{w64}
use Rattle.pj_rows.proofs.ranges.next_among.Goals as goal

pub returns-then-is_above : goal.returns-then-is_above
returns-then-is_above c =
    let fits : SFits w64 c.in-At.number = search rules in
    λ s n h at among. c.is_above.ensures c.if-is_above.true n (let least = c.in-At.ensures.least s n h at among.0 in omega (arith, ints, fits, least)) among.1
