-- Each element that is accepted is one of a line, and no file has more lines than bytes.
use Rattle.std.proofs.Common.{ℕ, ◌+◌, ◌≤◌, List, [], length, arith}
use Rattle.std.proofs.lemmas.List.{length-map}
use Rattle.pj_shape.specs.declared.columns.Column.{Column}
use Rattle.pj_pattern.specs.Elements.{puncts_of, rows_of}
use Rattle.pj_line.specs.Lines.{pieces}
use Rattle.pj_line.proofs.FedPieces.{pieces-length}
use Rattle.pj_element.specs.Accepted.{fates_of, reads_of, taken_of}
use Rattle.pj_element.specs.Elements.{reading_at}
use Rattle.pj_element.proofs.Lawful.{length-fates}
use Rattle.pj_element.proofs.Rejects.{taken-bound}
use Rattle.pj_algebra.specs.Worked.{bid_columns, item_columns}
use Rattle.pj_make.specs.Inputs.{bids_text, items_text}
use Rattle.pj_make_laws.specs.Made.{MadePunctsAreFew}
use Rattle.pj_make_laws.proofs.Lengths.{bids_short, items_short}

pub accepted_few : (columns : List Column) (bytes : List ℕ)
    → length (rows_of (taken_of (fates_of columns bytes))) + length (puncts_of (taken_of (fates_of columns bytes))) ≤ length bytes
accepted_few columns bytes =
    omega (arith, taken-bound (fates_of columns bytes), length-fates [] (reads_of columns bytes), length-map (pieces bytes) (reading_at columns), pieces-length bytes)

pub made_puncts_are_few : (seed count : ℕ) → count ≤ 1000000 → MadePunctsAreFew seed count
made_puncts_are_few seed count few = (
  omega (arith, accepted_few item_columns (items_text count), items_short count few),
  (omega (arith, accepted_few bid_columns (bids_text seed count), bids_short seed count few), tt),
)
