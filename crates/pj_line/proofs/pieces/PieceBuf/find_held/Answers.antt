use Rattle.std.proofs.Common.{◌≡◌, ◌<◌, true, false, [], length, take, ap, sym, ◌∙◌, arith, drop_of_length-le}
use Rattle.std.proofs.lemmas.Bool.{false≢true}
use Rattle.std.proofs.lemmas.List.{take_all}
use Rattle.pj_line.specs.Buffers.{Buffered}
use Rattle.pj_line.specs.Searches.{buffered}
use Rattle.pj_line.specs.Held.{held}
use Rattle.pj_line.proofs.CutPieces.{found_at_feed, found_at_end}
use Rattle.pj_line.proofs.pieces.PieceBuf.find_held.Goals as goal
use Rattle.pj_line.proofs.pieces.PieceBuf.find_held.Goals.{else-len-eq0-via-then-len-eq0+else-not-too_long, else-len-eq0-via-else-len-eq0}

pub returns-in-Some-clause-finds : goal.returns-in-Some-clause-finds
returns-in-Some-clause-finds c = found_at_feed (buffered c.args.self.now) (buffered c.take_piece.new.self) c.args.too_long c.take_piece.new.self.window.bytes.items c.in-Some.len c.take_piece.result c.in-Some.ensures c.take_piece.ensures.held c.take_piece.ensures.found

pub returns-else-len-eq0-clause-finds : goal.returns-else-len-eq0-clause-finds
returns-else-len-eq0-clause-finds c =
    let bytes = held c.args.self.now.window in
    let new = c.take_piece-in-None.new.self in
    let long : c.len-len.result ≡ length bytes = c.len-len.ensures in
    let some : c.args.too_long ≡ false → 0 < length bytes = λ short. elim c.else-len-eq0.branch [ else-len-eq0-via-then-len-eq0+else-not-too_long w ↦ absurd (false≢true (sym short ∙ w.if-not-too_long.false)) | else-len-eq0-via-else-len-eq0 w ↦ omega (arith, w.if-len-eq0.false) ] in
    let whole : take c.len-len.result bytes ≡ bytes = take_all c.len-len.result bytes (omega arith) in
    let rest : held new.window ≡ [] = c.take_piece-in-None.ensures.held ∙ drop_of_length-le bytes (omega arith) in
    let ended : new.ended ≡ true = ap (λ (b : Buffered). b.ended) c.take_piece-in-None.ensures.same ∙ c.if-not-self.false in
    found_at_end (buffered c.args.self.now) (buffered new) c.args.too_long new.window.bytes.items (take c.len-len.result bytes) c.take_piece-in-None.result c.in-None.ensures whole rest ended some c.take_piece-in-None.ensures.found
