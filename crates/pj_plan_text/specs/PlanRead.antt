-- The plan that the bytes of a file spell, or its first fault.
use Rattle.std.specs.Prelude.{ℕ, ◌+◌, Bool, ◌&&◌, List, [], ◌∷◌, Option, Some, None, Result, if◌then◌else◌, nat_le, length}
use Rattle.pj_line.specs.Lines.{pieces, line_of, is_skipped}
use Rattle.pj_line.specs.Cells.{cells_of}
use Rattle.pj_plan.specs.declared.fault.PlanWhy.TheVariants.{Unreadable}
use Rattle.pj_plan.specs.declared.fault.PlanFault.{PlanFault}
use Rattle.pj_plan.specs.declared.node.Outline.{Outline}
use Rattle.pj_plan.specs.declared.statement.Statement.{Statement}
use Rattle.pj_plan.specs.declared.statement.Statement.TheVariants.{Bad}
use Rattle.pj_plan.specs.declared.statement.Stated.{Stated}
use Rattle.pj_plan.specs.Built.{built}
use Rattle.pj_plan_text.specs.Statements.{statement_of}

-- what the cells of a line state: an unclosed line and one of more than 128 cells are unreadable
abbrev pub statement_in : Option (List (List ℕ)) → Statement
statement_in None = Bad Unreadable
statement_in (Some cells) = if nat_le (length cells) 128 then statement_of cells else Bad Unreadable

-- the piece has at most 65,536 bytes
abbrev pub is_short : List ℕ → Bool
is_short piece = nat_le (length piece) 65536

-- what the line of a piece states: a piece that is too long is unreadable
abbrev pub line_stated : List ℕ → Statement
line_stated piece = if is_short piece then statement_in (cells_of (line_of piece)) else Bad Unreadable

-- the line of the piece is skipped; one that is too long never is
abbrev pub is_passed : List ℕ → Bool
is_passed piece = is_short piece && is_skipped (line_of piece)

-- what these pieces state, with the numbers of their lines, of which the first has this one; each counts as a line
abbrev pub stated_from : ℕ → List (List ℕ) → List Stated
stated_from line [] = []
stated_from line (piece ∷ pieces) =
    if is_passed piece then stated_from (line + 1) pieces else record { line = line; what = line_stated piece } ∷ stated_from (line + 1) pieces

-- the plan that the bytes spell, or its first fault
abbrev pub plan_read : List ℕ → Result Outline PlanFault
plan_read bytes = built (stated_from 1 (pieces bytes)) (length (pieces bytes) + 1)
