use Rattle.std.proofs.Common.{◌≡◌, suc, ◌+◌, arith}
use Rattle.pj_make.proofs.Bids.{bids_more, state_more}
use Rattle.pj_make.proofs.made.append_bids.Goals as goal

pub loop-before-preserved : goal.loop-before-preserved
loop-before-preserved c =
    let before = c.loop-before.invariant in
    let count = c.loop-before.before in
    let one : count + 1 ≡ suc count = omega arith in
    record {
      text = bids_more c.args.seed count (count + 1) c.loop-before.state c.args.text.now c.loop-before.text c.append_two_bids.new.text c.append_closed.new.text one before.text before.state c.in_ok-state.ensures.bids c.in_ok-append_closed.ensures;
      state = state_more c.args.seed count (count + 1) c.loop-before.state c.in_ok-state.state one before.state c.in_ok-state.ensures.next;
      small = c.in_ok-state.ensures.small;
    }
