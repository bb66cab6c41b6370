-- The law that statements are read again from their canonical lines.
use Rattle.std.specs.Prelude.{◌≡◌, ◌≤◌, ⊤, true, List, [], ◌∷◌, None, length, Ok}
use Rattle.pj_pattern.specs.Patterns.{is_of_one_kind}
use Rattle.pj_element.specs.Laws.{IsKeptPattern}
use Rattle.pj_plan.specs.declared.node.Outline.{Outline}
use Rattle.pj_plan.specs.declared.statement.Statement.{Statement}
use Rattle.pj_plan.specs.declared.statement.TestWord.{TestWord}
use Rattle.pj_plan.specs.declared.statement.Test.{Test}
use Rattle.pj_plan.specs.declared.statement.Test.TheVariants.{One, Mixed}
use Rattle.pj_plan.specs.Names.{is_spelled}
use Rattle.pj_plan.specs.Parts.{parts_of}
use Rattle.pj_plan.specs.Words.{bad_why}
use Rattle.pj_plan.specs.Canonical.{statements_of}
use Rattle.pj_plan_text.specs.PlanRead.{line_stated, plan_read}
use Rattle.pj_plan_text.specs.Spelling.{cells_in, plan_spelling, spell}

-- the pattern is in normal form and of one kind, and its values are storable
abbrev pub IsKeptTest : Test → Type 0
IsKeptTest (One pattern) = IsKeptPattern pattern × (is_of_one_kind pattern ≡ true)
IsKeptTest Mixed = ⊤

abbrev pub AreKeptTests : List TestWord → Type 0
AreKeptTests [] = ⊤
AreKeptTests (word ∷ words) = IsKeptTest word.test × AreKeptTests words

-- the patterns of a select are
abbrev pub HasKeptTests : Statement → Type 0
HasKeptTests statement = AreKeptTests (parts_of statement).tests

-- a line can spell the statement, which is no bad one
pub record HasLine (statement : Statement) : Type 0 where
  pub spelled : is_spelled statement ≡ true
  pub good : bad_why statement ≡ None
  pub kept : HasKeptTests statement
  pub few : length (cells_in statement) ≤ 128
  pub short : length (spell statement) ≤ 65536

-- such a statement is read again from its canonical line
abbrev pub StatementsAreReadAgain : Type 0
StatementsAreReadAgain = (statement : Statement) → HasLine statement → line_stated (spell statement) ≡ statement

-- each of their canonical lines has at most 65,536 bytes
abbrev pub AllShort : List Statement → Type 0
AllShort [] = ⊤
AllShort (statement ∷ statements) = (length (spell statement) ≤ 65536) × AllShort statements

-- the canonical text of the plan, where its lines are so short, is read as the plan
abbrev pub PlanIsReadAgain : Outline → Type 0
PlanIsReadAgain plan = AllShort (statements_of plan) → plan_read (plan_spelling plan) ≡ Ok plan
