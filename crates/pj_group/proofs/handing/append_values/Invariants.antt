use Rattle.std.proofs.Common.{◌≡◌, ◌++◌, map, take}
use Rattle.pj_events.specs.Tables.{value_of}
use Rattle.pj_group.proofs.handing.append_values.Given as goal

abbrev pub invariant-loop-tally : goal.invariant-loop-tally
invariant-loop-tally l = l.values ≡ l.fn.values ++ map value_of (take l.tally-index l.tallies)
