use Rattle.std.proofs.Common.{◌≡◌, ◌++◌, map}
use Rattle.pj_events.specs.Join.{upto_from}
use Rattle.pj_roster.specs.Assigned.{place_of}
use Rattle.pj_roster.proofs.places.add_inputs.Given as goal

abbrev pub invariant-loop-input : goal.invariant-loop-input
invariant-loop-input l = l.share ≡ l.initial.share ++ map (place_of l.fn.join) (upto_from 0 l.input)
