use Rattle.std.proofs.Common.{◌≡◌, ◌+◌, ◌&&◌, Bool, length, drop, ap, sym, ◌∙◌, arith}
use Rattle.pj_events.specs.Patterns.{covers}
use Rattle.pj_puncts.specs.Givens.{covers_cell, one_cell}
use Rattle.pj_puncts.specs.Hashes.{cell_at}
use Rattle.pj_puncts.proofs.Covering.{covers_length}
use Rattle.pj_puncts.proofs.SingleCell.{covers_end, covers_step, one_length}
use Rattle.pj_puncts.proofs.one_cell.are_covered.Goals as goal

pub returns-then-patterns-count : goal.returns-then-patterns-count
returns-then-patterns-count c = sym (covers_length c.args.patterns.now (one_cell c.args.count c.args.column c.args.value.now) (λ e. c.if-patterns-count.true (e ∙ one_length c.args.count c.args.column c.args.value.now)))

pub returns-then-not-covers_cell : goal.returns-then-not-covers_cell
returns-then-not-covers_cell c =
    let cells = one_cell c.args.count c.args.column c.args.value.now in
    let at = c.loop-at.at in
    let size : length c.args.patterns.now ≡ length cells = c.if-patterns-count.false ∙ sym (one_length c.args.count c.args.column c.args.value.now) in
    let tested : c.covers_cell.result ≡ covers_cell c.index-patterns-at.result (cell_at cells at) = c.covers_cell.ensures ∙ ap (covers_cell c.index-patterns-at.result) c.value_at.ensures in
    sym (c.loop-at.invariant ∙ (covers_step c.args.patterns.now cells at c.index-patterns-at.result c.loop-at-test.true size c.index-patterns-at.is
    ∙ ap (λ (b : Bool). b && covers (drop (at + 1) c.args.patterns.now) (drop (at + 1) cells)) (sym tested ∙ c.if-not-covers_cell.true)))

pub loop-at-preserved : goal.loop-at-preserved
loop-at-preserved c =
    let cells = one_cell c.args.count c.args.column c.args.value.now in
    let at = c.loop-at.at in
    let size : length c.args.patterns.now ≡ length cells = c.if-patterns-count.false ∙ sym (one_length c.args.count c.args.column c.args.value.now) in
    let tested : c.covers_cell.result ≡ covers_cell c.index-patterns-at.result (cell_at cells at) = c.covers_cell.ensures ∙ ap (covers_cell c.index-patterns-at.result) c.value_at.ensures in
    c.loop-at.invariant ∙ (covers_step c.args.patterns.now cells at c.index-patterns-at.result c.loop-at-test.true size c.index-patterns-at.is
    ∙ ap (λ (b : Bool). b && covers (drop (at + 1) c.args.patterns.now) (drop (at + 1) cells)) (sym tested ∙ c.if-not-covers_cell.false))

pub returns : goal.returns
returns c =
    let cells = one_cell c.args.count c.args.column c.args.value.now in
    let size : length c.args.patterns.now ≡ length cells = c.if-patterns-count.false ∙ sym (one_length c.args.count c.args.column c.args.value.now) in
    sym (c.loop-at.invariant ∙ covers_end c.args.patterns.now cells c.loop-at.at size (omega (arith, c.loop-at-test.false)))
