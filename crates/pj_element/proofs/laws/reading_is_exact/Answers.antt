use Rattle.pj_element.proofs.ReadCells.{cells_are, cells_exact, unclosed_is, unclosed_exact}
use Rattle.pj_element.proofs.ReadValues.{value_sound, value_complete}
use Rattle.pj_element.proofs.ReadForms.{form_sound, form_complete}
use Rattle.pj_element.proofs.ReadLines.{reading_exact}
use Rattle.pj_element.proofs.laws.reading_is_exact.Goals as goal

pub returns : goal.returns
returns c = record {
  cells = λ line cells. (cells_are line cells, cells_exact line cells);
  unclosed = λ line. (unclosed_is line, unclosed_exact line);
  values = λ cell value. (value_sound cell value, value_complete cell value);
  forms = λ cell form. (form_sound cell form, form_complete cell form);
  lines = reading_exact;
}
