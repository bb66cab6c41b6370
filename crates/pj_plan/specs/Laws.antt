-- Laws of plans.
use Rattle.std.specs.Prelude.{ℕ, ◌≡◌, List, Ok, map}
use Rattle.pj_plan.specs.declared.statement.Statement.{Statement}
use Rattle.pj_plan.specs.declared.statement.Stated.{Stated}
use Rattle.pj_plan.specs.declared.node.Outline.{Outline}
use Rattle.pj_plan.specs.Names.{AreSpelled}
use Rattle.pj_plan.specs.Built.{built}
use Rattle.pj_plan.specs.Canonical.{statements_of, lines_from}
use Rattle.pj_plan.specs.Sound.{IsSoundPlan}

-- what is stated
abbrev pub what_of : Stated → Statement
what_of stated = stated.what

-- the plan that statements make is sound
abbrev pub PlanIsSound : Type 0
PlanIsSound = (statements : List Stated) (end : ℕ) (plan : Outline) → AreSpelled (map what_of statements) → built statements end ≡ Ok plan → IsSoundPlan plan.nodes

-- a line can spell each canonical statement of a plan that statements make
abbrev pub CanonicalIsSpelled : Type 0
CanonicalIsSpelled = (statements : List Stated) (end : ℕ) (plan : Outline) → AreSpelled (map what_of statements) → built statements end ≡ Ok plan → AreSpelled (statements_of plan)

-- its canonical statements, each on a line of its own, make the same plan
abbrev pub CanonicalIsReadAgain : Type 0
CanonicalIsReadAgain =
    (statements : List Stated) (end : ℕ) (plan : Outline) → AreSpelled (map what_of statements) → built statements end ≡ Ok plan
    → (again : ℕ) → built (lines_from 1 (statements_of plan)) again ≡ Ok plan
