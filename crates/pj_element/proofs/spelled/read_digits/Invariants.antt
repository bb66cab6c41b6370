use Rattle.std.proofs.Common.{◌≡◌, ◌<◌, ◌^◌, drop}
use Rattle.pj_element.specs.Spelled.{number_from}
use Rattle.pj_element.proofs.spelled.read_digits.Given as goal

abbrev pub invariant-loop-digit : goal.invariant-loop-digit
invariant-loop-digit l = record {
  below : l.number < 10 ^ l.digit-index;
  number : number_from 0 l.digits ≡ number_from l.number (drop l.digit-index l.digits);
}
