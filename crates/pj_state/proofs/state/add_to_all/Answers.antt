use Rattle.std.proofs.Common.{◌<◌, length, refl, subst, arith}
use Rattle.pj_state.specs.Indexes.{HasSame, told}
use Rattle.pj_state.specs.States.{stored}
use Rattle.pj_state.specs.declared.index.ValueIndex.{ValueIndex}
use Rattle.pj_state.proofs.Indexed.{added-more, all-same}
use Rattle.pj_state.proofs.state.add_to_all.Goals as goal

pub returns-in-Err-clause-err : goal.returns-in-Err-clause-err
returns-in-Err-clause-err c =
    let there : c.loop-at.at < length c.args.indexes.now.items = omega (arith, c.loop-at-test.true, c.requires.count) in
    all-same c.args.columns.now c.args.indexes.now.items c.loop-at.indexes.items _ c.take_from.new.indexes.items c.loop-at.at (stored c.args.ticket c.args.row.now) c.add.new.self
    c.loop-at.invariant there c.index_mut.result.now (subst (λ (x : ValueIndex). HasSame (told c.add.new.self) (told x)) c.index_mut.ensures.value c.in-Err.ensures.err) refl
    c.take_from.ensures.long c.take_from.ensures.fewer c.take_from.ensures.others

pub loop-at-preserved : goal.loop-at-preserved
loop-at-preserved c =
    let there : c.loop-at.at < length c.args.indexes.now.items = omega (arith, c.loop-at-test.true, c.requires.count) in
    added-more c.args.columns.now c.args.indexes.now.items c.loop-at.indexes.items c.loop-at.at c.index_mut.result.now c.add.new.self c.at-value.result.now (stored c.args.ticket c.args.row.now)
    c.loop-at.invariant there c.index_mut.ensures.value c.at-value.ensures c.in-Ok.ensures.ok
