use Rattle.std.proofs.Common.{◌≤◌, ◌+◌, ℕ, Bool, true, false, cond, take, sym, ap, ◌∙◌, arith}
use Rattle.pj_puncts.specs.Givens.{marked}
use Rattle.pj_puncts.proofs.Cellwise.{marked_more}
use Rattle.pj_puncts.proofs.cells.marks_before.Goals as goal

few : (b : Bool) (n m : ℕ) → n ≤ m → n + cond b 1 0 ≤ m + 1
few true n m le = omega (arith, le)
few false n m le = omega (arith, le)

pub loop-at-preserved : goal.loop-at-preserved
loop-at-preserved c = (
  rw c.one_if-count.ensures (few c.at.result.now c.loop-at.count c.loop-at.at c.loop-at.invariant.0),
  ap (λ n. n + c.one_if-count.result) c.loop-at.invariant.1
      ∙ (ap (λ n. marked (take c.loop-at.at c.args.scheme.now) + n) c.one_if-count.ensures ∙ sym (marked_more c.args.scheme.now c.loop-at.at c.at.result.now c.at.ensures)),
)
