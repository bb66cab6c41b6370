use Rattle.std.proofs.Common.{◌≡◌, ◌≤◌, length, take}
use Rattle.pj_cover.specs.Routes.{marked_values}
use Rattle.pj_cover.proofs.lent.lend_values.Given as goal

abbrev pub invariant-loop-link : goal.invariant-loop-link
invariant-loop-link l = (length l.given ≤ l.link-index) × (l.given ≡ marked_values (take l.link-index l.links) l.parts)
