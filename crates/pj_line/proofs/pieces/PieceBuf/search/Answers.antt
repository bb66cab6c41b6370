use Rattle.std.proofs.Common.{◌≡◌, Err, ap, ◌∙◌, subst, arith}
use Rattle.std.proofs.lemmas.Result.{err_from_is_err_and}
use Rattle.std.specs.Prelude.{Result}
use Rattle.pj_line.specs.declared.buffer.LineStop.{LineStop}
use Rattle.pj_line.specs.declared.pieces.FoundPiece.{FoundPiece}
use Rattle.pj_line.specs.Buffers.{Buffered}
use Rattle.pj_line.specs.Searches.{buffered, IsLent, PassesOver}
use Rattle.pj_line.specs.Held.{held}
use Rattle.pj_line.proofs.Searching.{search_finds, search_stops, then_passed, turn_goes_on}
use Rattle.pj_line.proofs.pieces.PieceBuf.search.Goals as goal

pub returns-in-Some-clause-called : goal.returns-in-Some-clause-called
returns-in-Some-clause-called g c = λ line lent.
    search_finds _ (buffered c.loop-found.self) (buffered c.find_held.new.self) _ _ c.loop-found.too_long c.find_held.new.self.window.bytes.items c.in-Some.found line c.loop-found.invariant.searching c.find_held.ensures.same c.in-Some.ensures.finds lent c.find_held.new.self.counts

pub loop-found-preserved : goal.loop-found-preserved
loop-found-preserved g c =
    let inv = c.loop-found.invariant in
    let finds = c.in-None.ensures.finds in
    let mid = buffered c.loop-found.self in
    let after = c.pass_over-too_long.new.self in
    let kept = held after.window in
    let now = c.pass_over-too_long.result in
    let same : buffered after ≡ record mid { held = kept } = then_passed mid (buffered c.find_held.new.self) (buffered after) kept finds.2 c.pass_over-too_long.ensures.same in
    let passes : PassesOver mid.size mid.held c.loop-found.too_long kept now = subst (λ (b : Buffered). PassesOver b.size b.held c.loop-found.too_long kept now) finds.2 c.pass_over-too_long.ensures.passes in
    let more = turn_goes_on (buffered c.args.self.now) mid (buffered after) (buffered c.read_on.new.self) _ _ _ c.loop-found.too_long now kept inv.searching finds.0 finds.1 same passes c.in_ok-read_on.ensures.reads c.read_on.ensures.told in
    record {
      searching = more;
      name = c.read_on.ensures.name ∙ inv.name;
      later = omega (arith, c.read_on.ensures.later, inv.later);
    }

pub returns-in_err-read_on-clause-called : goal.returns-in_err-read_on-clause-called
returns-in_err-read_on-clause-called g c = λ line lent.
    let p = err_from_is_err_and c.from_residual.result c.from_residual.ensures.1 in
    let inv = c.loop-found.invariant in
    let finds = c.in-None.ensures.finds in
    let mid = buffered c.loop-found.self in
    let after = c.pass_over-too_long.new.self in
    let kept = held after.window in
    let new = c.read_on.new.self in
    let stop = c.in_err-read_on.field-0.0 in
    let same : buffered after ≡ record mid { held = kept } = then_passed mid (buffered c.find_held.new.self) (buffered after) kept finds.2 c.pass_over-too_long.ensures.same in
    let is_stop : c.from_residual.result ≡ Err stop = p.1 ∙ ap (λ (e : LineStop). Err e) p.2 in
    let is_line : line ≡ Err stop = subst (λ (r : Result FoundPiece LineStop). IsLent new.window.bytes.items r line) is_stop lent in
    let called = search_stops (buffered c.args.self.now) mid (buffered after) (buffered new) _ _ _ c.loop-found.too_long kept stop inv.searching finds.0 finds.1 same c.in_err-read_on.ensures.reads inv.later new.counts in
    rw is_line called
