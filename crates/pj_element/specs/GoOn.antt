-- What becomes of the lines of some bytes stays, whatever bytes come behind them.
use Rattle.std.specs.Prelude.{◌≡◌, ℕ, List, ◌++◌}
use Rattle.pj_shape.specs.declared.columns.Column.{Column}
use Rattle.pj_pattern.specs.declared.element.Element.{Element}
use Rattle.pj_line.specs.Fed.{AreFed}
use Rattle.pj_element.specs.declared.element.Reject.{Reject}
use Rattle.pj_element.specs.Accepted.{fates, fates_of, reads_of, taken_of, rejects_of}

abbrev pub FatesGoOn : Type 0
FatesGoOn = (columns : List Column) (judged more : List ℕ) → AreFed judged
    → fates_of columns (judged ++ more) ≡ fates_of columns judged ++ fates (reads_of columns judged) (reads_of columns more)

abbrev pub TakenGoOn : Type 0
TakenGoOn = (columns : List Column) (judged more : List ℕ) → AreFed judged
    → (others : List Element) × (taken_of (fates_of columns (judged ++ more)) ≡ taken_of (fates_of columns judged) ++ others)

abbrev pub RejectsGoOn : Type 0
RejectsGoOn = (columns : List Column) (judged more : List ℕ) → AreFed judged
    → (others : List (ℕ × Reject)) × (rejects_of 1 (fates_of columns (judged ++ more)) ≡ rejects_of 1 (fates_of columns judged) ++ others)
