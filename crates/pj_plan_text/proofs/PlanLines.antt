-- The lines of a plan, one by one.
use Rattle.std.proofs.Common.{◌≡◌, ℕ, ◌+◌, ◌-◌, ◌^◌, ◌≤◌, ◌<◌, ◌==◌, Bool, true, false, cond, if◌then◌else◌, List, [], ◌∷◌, ◌++◌, Some, Ok, Err, length, take, refl, ap, sym, ◌∙◌, append_assoc, append-nil, arith}
use Rattle.std.specs.Prelude.{slice_index}
use Rattle.std.proofs.lemmas.Bool.Decides.{nat_tests}
use Rattle.std.proofs.lemmas.List.{length-take}
use Rattle.pj_line.specs.Spans.{Span}
use Rattle.pj_line.specs.declared.cell.CellFault.{CellFault}
use Rattle.pj_line.specs.declared.cell.CellFault.TheVariants.{Unclosed, TooMany}
use Rattle.pj_line.specs.Lines.{pieces, line_of}
use Rattle.pj_line.specs.Cells.{AreCut, bytes_in, cells_of}
use Rattle.pj_line.proofs.CutCells.{bytes_count}
use Rattle.pj_plan.specs.declared.fault.PlanWhy.TheVariants.{Unreadable}
use Rattle.pj_plan.specs.declared.statement.Statement.{Statement}
use Rattle.pj_plan.specs.declared.statement.Statement.TheVariants.{Bad}
use Rattle.pj_plan.specs.declared.statement.Stated.{Stated}
use Rattle.pj_plan_text.specs.PlanRead.{is_passed, is_short, line_stated, stated_from, statement_in}
use Rattle.pj_plan_text.specs.Statements.{statement_of}

-- ---- a line

short_line : (b : Bool) (piece : List ℕ) → length (if b then take (length piece - 1) piece else piece) ≤ length piece
short_line true piece = omega (arith, length-take (length piece - 1) piece)
short_line false piece = omega arith

-- the line of a piece is no longer than the piece
pub line_is_short : (piece line : List ℕ) → line ≡ line_of piece → length piece ≤ 65536 → length line < 2 ^ 32
line_is_short piece line is le = omega (arith, ap length is, le, short_line (slice_index piece (length piece - 1) == 13) piece)

short_stated : (piece : List ℕ) → is_short piece ≡ true → line_stated piece ≡ statement_in (cells_of (line_of piece))
short_stated piece e = rw e refl

few_cells : (cells : List (List ℕ)) → length cells ≤ 128 → statement_in (Some cells) ≡ statement_of cells
few_cells cells few = grind (arith, nat_tests)

many_cells : (cells : List (List ℕ)) → 128 < length cells → statement_in (Some cells) ≡ Bad Unreadable
many_cells cells many = grind (arith, nat_tests)

-- a line that is cut into cells
pub line_cut : (piece line : List ℕ) (cells : List Span) → is_short piece ≡ true → line ≡ line_of piece → AreCut line (Ok cells) → line_stated piece ≡ statement_of (bytes_in cells)
line_cut piece line cells e is cut =
    short_stated piece e ∙ (ap (λ (l : List ℕ). statement_in (cells_of l)) (sym is)
    ∙ (ap statement_in cut.0 ∙ few_cells (bytes_in cells) (omega (arith, cut.1, bytes_count cells))))

-- and one that is not
pub line_uncut : (piece line : List ℕ) (fault : CellFault) → is_short piece ≡ true → line ≡ line_of piece → AreCut line (Err fault) → line_stated piece ≡ Bad Unreadable
line_uncut piece line (Unclosed at) e is cut = short_stated piece e ∙ (ap (λ (l : List ℕ). statement_in (cells_of l)) (sym is) ∙ ap statement_in cut.0)
line_uncut piece line TooMany e is cut = short_stated piece e ∙ (ap (λ (l : List ℕ). statement_in (cells_of l)) (sym is) ∙ (ap statement_in cut.1 ∙ many_cells cut.0 cut.2))

-- ---- the loop over the lines

-- the first lines stated these, and the next has this number
pub record LinesSoFar (bytes : List ℕ) (done : List Stated) (line : ℕ) (rest : List ℕ) : Type 0 where
  pub stated : stated_from 1 (pieces bytes) ≡ done ++ stated_from line (pieces rest)
  pub count : length (pieces bytes) + 1 ≡ line + length (pieces rest)
  pub bound : line + length rest ≤ length bytes + 1

next : (line : ℕ) (piece : List ℕ) (ps : List (List ℕ)) (b : Bool) → is_passed piece ≡ b
    → stated_from line (piece ∷ ps) ≡ cond b (stated_from (line + 1) ps) (record { line = line; what = line_stated piece } ∷ stated_from (line + 1) ps)
next line piece ps b is = rw is refl

pub line_passed : (bytes rest behind piece : List ℕ) (done : List Stated) (line : ℕ) → LinesSoFar bytes done line rest → pieces rest ≡ piece ∷ pieces behind → length behind < length rest → is_passed piece ≡ true → LinesSoFar bytes done (line + 1) behind
line_passed bytes rest behind piece done line before cut shorter is = record {
  stated = before.stated ∙ ap (λ (ss : List Stated). done ++ ss) (ap (stated_from line) cut ∙ next line piece (pieces behind) true is);
  count = omega (arith, before.count, ap length cut);
  bound = omega (arith, before.bound, shorter);
}

pub line_read : (bytes rest behind piece : List ℕ) (done : List Stated) (line : ℕ) (what : Statement) → LinesSoFar bytes done line rest → pieces rest ≡ piece ∷ pieces behind → length behind < length rest → is_passed piece ≡ false → what ≡ line_stated piece
    → LinesSoFar bytes (done ++ record { line = line; what = what } ∷ []) (line + 1) behind
line_read bytes rest behind piece done line what before cut shorter is said = record {
  stated = before.stated
      ∙ (ap (λ (ss : List Stated). done ++ ss) (ap (stated_from line) cut ∙ next line piece (pieces behind) false is)
      ∙ (ap (λ (w : Statement). done ++ record { line = line; what = w } ∷ stated_from (line + 1) (pieces behind)) (sym said)
      ∙ sym (append_assoc done (record { line = line; what = what } ∷ []) (stated_from (line + 1) (pieces behind)))));
  count = omega (arith, before.count, ap length cut);
  bound = omega (arith, before.bound, shorter);
}

pub lines_end : (bytes rest : List ℕ) (done : List Stated) (line : ℕ) → LinesSoFar bytes done line rest → rest ≡ [] → (done ≡ stated_from 1 (pieces bytes)) × (line ≡ length (pieces bytes) + 1)
lines_end bytes rest done line so end = (
  sym (so.stated ∙ (ap (λ (r : List ℕ). done ++ stated_from line (pieces r)) end ∙ append-nil done)),
  omega (arith, so.count, ap (λ (r : List ℕ). length (pieces r)) end),
)
