use Rattle.std.proofs.Common.{◌≡◌, ◌≤◌, ◌+◌, ℕ, Bool, true, false, cond, ◌∙◌, sym, ap, length, arith}
use Rattle.pj_puncts.specs.Givens.{cell_of}
use Rattle.pj_puncts.proofs.Cellwise.{instance_step, hash_ends, hash_of_equal, hash_of_other}
use Rattle.pj_puncts.proofs.Covering.{instance_length}
use Rattle.pj_shape.specs.Instances.{instance_of}
use Rattle.pj_puncts.proofs.cells.instance_hash.Goals as goal

few : (b : Bool) (n m : ℕ) → n ≤ m → n + cond b 1 0 ≤ m + 1
few true n m le = omega (arith, le)
few false n m le = omega (arith, le)

pub overflow_add-taken : goal.overflow_add-taken
overflow_add-taken c =
    let le : c.loop-column.taken + c.one_if-taken.result ≤ c.loop-column.column + 1 = rw c.one_if-taken.ensures (few c.at-is_given.result.now c.loop-column.taken c.loop-column.column c.loop-column.invariant.0) in
    omega (arith, le, c.loop-column-test.true)

pub loop-column-preserved : goal.loop-column-preserved
loop-column-preserved c =
    let same : length c.args.marks.now ≡ length c.args.scheme.now = c.if-marks-len.false ∙ c.len.ensures in (
      rw c.one_if-taken.ensures (few c.at-is_given.result.now c.loop-column.taken c.loop-column.column c.loop-column.invariant.0),
      c.loop-column.invariant.1
          ∙ rw c.one_if-taken.ensures (instance_step c.loop-column.hash_value c.args.marks.now c.args.scheme.now c.args.given.now c.loop-column.column c.loop-column.taken c.with_cell-hash_value.result c.at-is_given.result.now _ c.loop-column-test.true same c.at-is_given.ensures
          (c.cell_of-cell.ensures ∙ ap (cell_of c.at-is_given.result.now) c.get.ensures) c.with_cell-hash_value.ensures),
    )

pub returns-then-marks-len : goal.returns-then-marks-len
returns-then-marks-len c = sym (hash_of_other c.args.marks.now (instance_of c.args.scheme.now c.args.given.now) (λ e. c.if-marks-len.true (e ∙ (instance_length c.args.scheme.now c.args.given.now ∙ sym c.len.ensures))))

pub returns : goal.returns
returns c =
    let same : length c.args.marks.now ≡ length (instance_of c.args.scheme.now c.args.given.now) = c.if-marks-len.false ∙ (c.len.ensures ∙ sym (instance_length c.args.scheme.now c.args.given.now)) in
    let done : length c.args.marks.now ≤ c.loop-column.column = omega (arith, c.loop-column-test.false) in
    sym (hash_of_equal c.args.marks.now (instance_of c.args.scheme.now c.args.given.now) same ∙ (c.loop-column.invariant.1 ∙ hash_ends c.loop-column.hash_value c.args.marks.now c.loop-column.column _ done))
