use Rattle.std.proofs.Common.{◌+◌, ◌≤◌, sym, ◌∙◌, true, false, refl, cond, Bool, ℕ, arith}
use Rattle.std.specs.Option.{option_copied}
use Rattle.pj_puncts.proofs.Covering.{IsRead, covers_length, instance_length, not_covered, covered_so_far}
use Rattle.pj_shape.specs.Instances.{instance_of}
use Rattle.pj_puncts.proofs.cells.covers.Goals as goal

few : (b : Bool) (n m : ℕ) → n ≤ m → n + cond b 1 0 ≤ m + 1
few true n m le = omega (arith, le)
few false n m le = omega (arith, le)

pub returns-then-patterns-len : goal.returns-then-patterns-len
returns-then-patterns-len c = sym (covers_length c.args.patterns.now (instance_of c.args.scheme.now c.args.given.now) (λ e. c.if-patterns-len.true (e ∙ instance_length c.args.scheme.now c.args.given.now ∙ sym c.len.ensures)))

pub returns-then-not-covers_cell : goal.returns-then-not-covers_cell
returns-then-not-covers_cell c =
    let r : IsRead c.args.patterns.now c.args.scheme.now c.args.given.now c.loop-column.column c.loop-column.taken c.index-patterns-column.result c.at-is_marked.result.now c.covers_cell.result = record {
      constant = option_copied c.get.result;
      within = c.loop-column-test.true;
      pattern = c.index-patterns-column.is;
      mark_is = c.at-is_marked.ensures;
      constant_is = c.get.ensures;
      tested = c.covers_cell.ensures;
    } in
    sym (c.loop-column.invariant.1 ∙ not_covered c.args.patterns.now c.args.scheme.now c.args.given.now c.loop-column.column c.loop-column.taken c.index-patterns-column.result c.at-is_marked.result.now c.covers_cell.result r c.if-not-covers_cell.true)

pub overflow_add-taken : goal.overflow_add-taken
overflow_add-taken c =
    let le : c.loop-column.taken + c.one_if-taken.result ≤ c.loop-column.column + 1 = rw c.one_if-taken.ensures (few c.at-is_marked.result.now c.loop-column.taken c.loop-column.column c.loop-column.invariant.0) in
    omega (arith, le, c.loop-column-test.true)

pub loop-column-preserved : goal.loop-column-preserved
loop-column-preserved c =
    let r : IsRead c.args.patterns.now c.args.scheme.now c.args.given.now c.loop-column.column c.loop-column.taken c.index-patterns-column.result c.at-is_marked.result.now c.covers_cell.result = record {
      constant = option_copied c.get.result;
      within = c.loop-column-test.true;
      pattern = c.index-patterns-column.is;
      mark_is = c.at-is_marked.ensures;
      constant_is = c.get.ensures;
      tested = c.covers_cell.ensures;
    } in (
      rw c.one_if-taken.ensures (few c.at-is_marked.result.now c.loop-column.taken c.loop-column.column c.loop-column.invariant.0),
      c.loop-column.invariant.1 ∙ covered_so_far c.args.patterns.now c.args.scheme.now c.args.given.now c.loop-column.column c.loop-column.taken c.index-patterns-column.result c.at-is_marked.result.now c.covers_cell.result r c.if-not-covers_cell.false
          ∙ rw c.one_if-taken.ensures refl,
    )
