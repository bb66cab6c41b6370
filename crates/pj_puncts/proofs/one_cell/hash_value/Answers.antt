use Rattle.std.proofs.Common.{◌≡◌, ◌≤◌, ◌+◌, false, length, drop, get_or, ap, sym, ◌∙◌, arith}
use Rattle.pj_puncts.specs.Givens.{one_cell}
use Rattle.pj_puncts.specs.Hashes.{hash_from, with_cell}
use Rattle.pj_puncts.proofs.Cellwise.{hash_ends, hash_of_equal, hash_of_other, hash_step}
use Rattle.pj_puncts.proofs.SingleCell.{cell_is, one_length}
use Rattle.pj_puncts.proofs.one_cell.hash_value.Goals as goal

pub returns-then-marks-count : goal.returns-then-marks-count
returns-then-marks-count c = sym (hash_of_other c.args.marks.now (one_cell c.args.count c.args.column c.args.value.now) (λ e. c.if-marks-count.true (e ∙ one_length c.args.count c.args.column c.args.value.now)))

pub loop-at-preserved : goal.loop-at-preserved
loop-at-preserved c =
    let cells = one_cell c.args.count c.args.column c.args.value.now in
    let marks = c.args.marks.now in
    let at = c.loop-at.at in
    let size : length marks ≡ length cells = c.if-marks-count.false ∙ sym (one_length c.args.count c.args.column c.args.value.now) in
    c.loop-at.invariant ∙ (hash_step c.loop-at.hash_value marks cells at c.loop-at-test.true size
    ∙ ap (λ n. hash_from n (drop (at + 1) marks) (drop (at + 1) cells)) (ap (with_cell c.loop-at.hash_value (get_or marks at false)) (sym (cell_is cells at) ∙ sym c.value_at.ensures) ∙ sym c.with_cell-hash_value.ensures))

pub returns : goal.returns
returns c =
    let cells = one_cell c.args.count c.args.column c.args.value.now in
    let size : length c.args.marks.now ≡ length cells = c.if-marks-count.false ∙ sym (one_length c.args.count c.args.column c.args.value.now) in
    let done : length c.args.marks.now ≤ c.loop-at.at = omega (arith, c.loop-at-test.false) in
    sym (hash_of_equal c.args.marks.now cells size ∙ (c.loop-at.invariant ∙ hash_ends c.loop-at.hash_value c.args.marks.now c.loop-at.at _ done))
