use Rattle.std.proofs.Common.{subst, sym}
use Rattle.pj_puncts.specs.Indexed.{AreChained, AreSetsChained, slot}
use Rattle.pj_puncts.proofs.Lookups.{first_covers, sets_chained}
use Rattle.pj_puncts.proofs.index.Index.first_with.Goals as goal

pub first_in_set-requires : goal.first_in_set-requires
first_in_set-requires g c =
    subst (AreChained c.args.kept.now) (sym c.set-item.is)
    (sets_chained c.args.kept.now c.deref-set-items.result.now c.loop-set.set-index c.set-item.result c.loop-set-test.true (subst (AreSetsChained c.args.kept.now) (sym c.deref-set-items.ensures.value) c.requires.chained))

pub returns-then-has_marks : goal.returns-then-has_marks
returns-then-has_marks g c = first_covers c.args.kept.now (g.C.Cells.cells c.args.cells.now) (slot (g.C.Cells.cells c.args.cells.now) c.set-item.result) c.first_in_set.result c.first_in_set.ensures
