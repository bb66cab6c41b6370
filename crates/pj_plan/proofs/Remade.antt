-- The canonical statements of a plan that statements make, make it again.
use Rattle.std.proofs.Common.{ℕ, ◌≡◌, List, Ok, map}
use Rattle.pj_plan.specs.declared.statement.Stated.{Stated}
use Rattle.pj_plan.specs.declared.node.Outline.{Outline}
use Rattle.pj_plan.specs.Names.{AreSpelled}
use Rattle.pj_plan.specs.Built.{built}
use Rattle.pj_plan.specs.Laws.{what_of}
use Rattle.pj_plan.specs.Kept.{IsMadeAgain}
use Rattle.pj_plan.proofs.ReadAgain.{canonical_is_read_again}
use Rattle.pj_plan.proofs.SpelledPlans.{canonical_is_spelled}

pub made_again : (statements : List Stated) (end : ℕ) (plan : Outline) → AreSpelled (map what_of statements) → built statements end ≡ Ok plan → IsMadeAgain plan
made_again statements end plan spelled is = record {
  spelled = canonical_is_spelled statements end plan spelled is;
  again = canonical_is_read_again statements end plan spelled is;
}
