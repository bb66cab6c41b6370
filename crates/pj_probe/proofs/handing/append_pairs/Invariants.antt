use Rattle.std.proofs.Common.{◌≡◌, ◌-◌, ◌++◌, map, take}
use Rattle.std.specs.Arc.{arc_value}
use Rattle.pj_probe.specs.Results.{pairs_out}
use Rattle.pj_rows.specs.Tuples.{tuple_in}
use Rattle.pj_probe.proofs.handing.append_pairs.Given as goal

abbrev pub invariant-loop-at : goal.invariant-loop-at
invariant-loop-at l = l.outs ≡ l.fn.outs ++ pairs_out (arc_value l.route.checks) l.own (map (tuple_in (1 - l.own.input)) (take l.at l.among))
