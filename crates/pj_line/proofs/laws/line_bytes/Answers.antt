use Rattle.pj_line.proofs.PieceLaws.{fed_piece_is_first, last_piece_is_all, cut_piece_is_first}
use Rattle.pj_line.proofs.laws.line_bytes.Goals as goal

pub returns : goal.returns
returns c = record { fed = fed_piece_is_first; last = last_piece_is_all; cut = cut_piece_is_first }
