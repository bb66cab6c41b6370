-- The step that the cells of a line are.
use Rattle.std.proofs.Common.{◌≡◌, ℕ, ◌≢◌, ◌<◌, true, List, [], ◌∷◌, None, Ok, Err, length, get_or, refl, ap, ap₂, sym, ◌∙◌, arith}
use Rattle.pj_line.specs.Spans.{Span}
use Rattle.pj_line.specs.declared.cell.CellFault.{CellFault}
use Rattle.pj_line.specs.declared.cell.CellFault.TheVariants.{Unclosed, TooMany}
use Rattle.pj_line.specs.Lines.{line_of}
use Rattle.pj_line.specs.Cells.{AreCut, bytes_in, cells_of}
use Rattle.pj_plan.specs.declared.node.PlanNode.{PlanNode}
use Rattle.pj_plan_text.specs.PlanRead.{is_short}
use Rattle.pj_script.specs.Reading.{join_called, step_alone, step_at_join, step_at_stream, step_in, step_of, step_on}

-- ---- by their number

pub one_cell : (nodes : List PlanNode) (cells : List Span) (word : Span) → length cells ≡ 1 → word ≡ get_or cells 0 word → step_of nodes (bytes_in cells) ≡ step_alone word.bytes
one_cell nodes [] word count is = absurd (omega (arith, count))
one_cell nodes (a ∷ []) word count is = ap (λ (c : Span). step_alone c.bytes) (sym is)
one_cell nodes (a ∷ b ∷ cells) word count is = absurd (omega (arith, count))

pub two_cells : (nodes : List PlanNode) (cells : List Span) (word name : Span) → length cells ≡ 2 → word ≡ get_or cells 0 word → name ≡ get_or cells 1 name
    → step_of nodes (bytes_in cells) ≡ step_at_stream nodes word.bytes name.bytes
two_cells nodes [] word name count first second = absurd (omega (arith, count))
two_cells nodes (a ∷ []) word name count first second = absurd (omega (arith, count))
two_cells nodes (a ∷ b ∷ []) word name count first second = ap₂ (λ (c d : Span). step_at_stream nodes c.bytes d.bytes) (sym first) (sym second)
two_cells nodes (a ∷ b ∷ c ∷ cells) word name count first second = absurd (omega (arith, count))

pub three_cells : (nodes : List PlanNode) (cells : List Span) (word name behind : Span) → length cells ≡ 3 → word ≡ get_or cells 0 word → name ≡ get_or cells 1 name → behind ≡ get_or cells 2 behind
    → step_of nodes (bytes_in cells) ≡ step_at_join nodes word.bytes (join_called nodes name.bytes) behind.bytes
three_cells nodes [] word name behind count first second third = absurd (omega (arith, count))
three_cells nodes (a ∷ []) word name behind count first second third = absurd (omega (arith, count))
three_cells nodes (a ∷ b ∷ []) word name behind count first second third = absurd (omega (arith, count))
three_cells nodes (a ∷ b ∷ c ∷ []) word name behind count first second third =
    ap₂ (λ (d e : Span). step_at_join nodes d.bytes (join_called nodes e.bytes) c.bytes) (sym first) (sym second)
    ∙ ap (λ (d : Span). step_at_join nodes word.bytes (join_called nodes name.bytes) d.bytes) (sym third)
three_cells nodes (a ∷ b ∷ c ∷ d ∷ cells) word name behind count first second third = absurd (omega (arith, count))

-- no cell, or more than three
many : (nodes : List PlanNode) (cells : List (List ℕ)) → 3 < length cells → step_of nodes cells ≡ None
many nodes [] more = absurd (omega (arith, more))
many nodes (a ∷ []) more = absurd (omega (arith, more))
many nodes (a ∷ b ∷ []) more = absurd (omega (arith, more))
many nodes (a ∷ b ∷ c ∷ []) more = absurd (omega (arith, more))
many nodes (a ∷ b ∷ c ∷ d ∷ cells) more = refl

pub other_cells : (nodes : List PlanNode) (cells : List Span) → length cells ≢ 1 → length cells ≢ 2 → length cells ≢ 3 → step_of nodes (bytes_in cells) ≡ None
other_cells nodes [] one two three = refl
other_cells nodes (a ∷ []) one two three = absurd (one refl)
other_cells nodes (a ∷ b ∷ []) one two three = absurd (two refl)
other_cells nodes (a ∷ b ∷ c ∷ []) one two three = absurd (three refl)
other_cells nodes (a ∷ b ∷ c ∷ d ∷ cells) one two three = refl

-- ---- on a line

short_step : (nodes : List PlanNode) (piece line : List ℕ) → is_short piece ≡ true → line ≡ line_of piece → step_on nodes piece ≡ step_in nodes (cells_of line)
short_step nodes piece line short is = rw (short, is) refl

-- a line that is cut into cells
pub line_cut : (nodes : List PlanNode) (piece line : List ℕ) (cells : List Span) → is_short piece ≡ true → line ≡ line_of piece → AreCut line (Ok cells) → step_on nodes piece ≡ step_of nodes (bytes_in cells)
line_cut nodes piece line cells short is cut = short_step nodes piece line short is ∙ ap (step_in nodes) cut.0

-- and one that is not
pub line_uncut : (nodes : List PlanNode) (piece line : List ℕ) (fault : CellFault) → is_short piece ≡ true → line ≡ line_of piece → AreCut line (Err fault) → step_on nodes piece ≡ None
line_uncut nodes piece line (Unclosed at) short is cut = short_step nodes piece line short is ∙ ap (step_in nodes) cut.0
line_uncut nodes piece line TooMany short is cut =
    short_step nodes piece line short is ∙ (ap (step_in nodes) cut.1 ∙ many nodes cut.0 (omega (arith, cut.2)))
