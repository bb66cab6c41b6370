-- What becomes of lines stays, whatever lines come behind them.
use Rattle.std.proofs.Common.{◌≡◌, ℕ, ◌+◌, List, [], ◌++◌, length, map, ap, ◌∙◌}
use Rattle.std.proofs.lemmas.List.{map-append}
use Rattle.pj_shape.specs.declared.columns.Column.{Column}
use Rattle.pj_line.specs.Lines.{pieces}
use Rattle.pj_line.specs.Fed.{AreFed}
use Rattle.pj_line.proofs.FedPieces.{pieces_go_on}
use Rattle.pj_element.specs.Elements.{reading_at}
use Rattle.pj_element.specs.Accepted.{Fate, fates, fates_of, reads_of, taken_of, rejects_of}
use Rattle.pj_element.specs.GoOn.{FatesGoOn, TakenGoOn, RejectsGoOn}
use Rattle.pj_element.proofs.Lawful.{fates-append, taken_of-append}
use Rattle.pj_element.proofs.Rejects.{rejects_of-append}

pub reads_go_on : (columns : List Column) (judged more : List ℕ) → AreFed judged → reads_of columns (judged ++ more) ≡ reads_of columns judged ++ reads_of columns more
reads_go_on columns judged more fed = ap (map (reading_at columns)) (pieces_go_on judged more fed) ∙ map-append (reading_at columns) (pieces judged) (pieces more)

pub fates_go_on : FatesGoOn
fates_go_on columns judged more fed = ap (fates []) (reads_go_on columns judged more fed) ∙ fates-append [] (reads_of columns judged) (reads_of columns more)

pub taken_go_on : TakenGoOn
taken_go_on columns judged more fed =
    let others : List Fate = fates (reads_of columns judged) (reads_of columns more) in
    (taken_of others, ap taken_of (fates_go_on columns judged more fed) ∙ taken_of-append (fates_of columns judged) others)

pub rejects_go_on : RejectsGoOn
rejects_go_on columns judged more fed =
    let others : List Fate = fates (reads_of columns judged) (reads_of columns more) in
    (rejects_of (1 + length (fates_of columns judged)) others, ap (rejects_of 1) (fates_go_on columns judged more fed) ∙ rejects_of-append 1 (fates_of columns judged) others)
