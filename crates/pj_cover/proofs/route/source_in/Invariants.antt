use Rattle.std.proofs.Common.{take}
use Rattle.pj_value.specs.Lists.{In}
use Rattle.pj_events.specs.Join.{ClassCol}
use Rattle.pj_cover.proofs.route.source_in.Given as goal

abbrev pub invariant-loop-at : goal.invariant-loop-at
invariant-loop-at l = (c : ClassCol) → In c (take l.at-index l.class) → In c.input l.known → ⊥
