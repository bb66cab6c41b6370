use Rattle.std.proofs.Common.{◌+◌, ◌<◌, Vec, Global, length, sym, subst, arith}
use Rattle.pj_state.specs.States.{stored}
use Rattle.pj_state.specs.declared.index.ValueIndex.{ValueIndex}
use Rattle.pj_state.proofs.Indexed.{IsTaken, taken-put, taken-skip}
use Rattle.pj_state.proofs.state.take_from.Goals as goal
use Rattle.pj_state.proofs.state.take_from.Goals.{in-None, in-Some}

pub loop-at-preserved : goal.loop-at-preserved
loop-at-preserved c =
    let there : c.loop-at.at < length c.args.indexes.now.items = omega (arith, c.loop-at-test.true, c.requires.indexes) in
    elim c.match-get.branch [
      | in-None w ↦
          subst (λ (v : Vec ValueIndex Global). IsTaken c.args.columns.now c.args.indexes.now.items v.items (c.loop-at.at + 1) (stored c.args.ticket c.args.row.now)) (sym w.indexes-is)
          (taken-skip c.args.columns.now c.args.indexes.now.items c.loop-at.indexes.items c.loop-at.at (stored c.args.ticket c.args.row.now) c.loop-at.invariant there (sym w.in-None.ensures))
      | in-Some w ↦
          subst (λ (v : Vec ValueIndex Global). IsTaken c.args.columns.now c.args.indexes.now.items v.items (c.loop-at.at + 1) (stored c.args.ticket c.args.row.now)) (sym w.indexes-is)
          (taken-put c.args.columns.now c.args.indexes.now.items c.loop-at.indexes.items c.loop-at.at w.index_mut.result.now w.take.new.self w.in-Some.value.now (stored c.args.ticket c.args.row.now)
          c.loop-at.invariant there w.index_mut.ensures.value (sym w.in-Some.ensures) w.take.ensures)
    ]
