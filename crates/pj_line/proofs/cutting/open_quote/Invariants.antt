use Rattle.std.proofs.Common.{◌≡◌, ◌<◌, false, drop}
use Rattle.pj_line.specs.Cells.{is_outside, open_from, open_quote}
use Rattle.pj_line.proofs.cutting.open_quote.Given as goal

abbrev pub invariant-loop-at : goal.invariant-loop-at
invariant-loop-at l = record {
  place : open_from l.at l.opened l.quote (drop l.at l.line) ≡ open_quote l.line;
  within : is_outside l.quote ≡ false → l.opened < l.at;
}
