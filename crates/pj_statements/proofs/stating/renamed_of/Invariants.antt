use Rattle.std.proofs.Common.{◌≡◌, ◌++◌, drop}
use Rattle.pj_plan.specs.Canonical.{renamed_of}
use Rattle.pj_statements.proofs.stating.renamed_of.Given as goal

abbrev pub invariant-loop-at : goal.invariant-loop-at
invariant-loop-at l = l.words ++ renamed_of (drop l.at l.news) l.columns (drop l.at l.numbers) ≡ renamed_of l.news l.columns l.numbers
