use Rattle.std.proofs.Common.{◌<◌, ◌^◌}
use Rattle.std.specs.Fmt.{decimal}
use Rattle.pj_element.specs.Canonical.{StandsAt}
use Rattle.pj_element.proofs.canonical.more_digits.Given as goal

abbrev pub invariant-loop-at : goal.invariant-loop-at
invariant-loop-at l = record {
  digits : StandsAt l.bytes l.from l.at (decimal l.number);
  some : 0 < l.number;
  small : l.number < 2 ^ 63;
}
