use Rattle.std.proofs.Common.{◌≡◌, ◌++◌, drop}
use Rattle.pj_intervals.specs.Steps.{rising_steps}
use Rattle.pj_intervals.proofs.intervals.member_steps.Given as goal

abbrev pub invariant-loop-member : goal.invariant-loop-member
invariant-loop-member l = l.steps.items ++ rising_steps (drop l.member-index l.members) l.place ≡ rising_steps l.members l.place
