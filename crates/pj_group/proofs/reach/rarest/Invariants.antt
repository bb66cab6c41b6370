use Rattle.std.specs.Prelude.{IfSome, nat_eq}
use Rattle.indexmap.specs.IndexMap.{get}
use Rattle.pj_group.specs.Indexes.{AreIndexesOf, IsSought}
use Rattle.pj_group.proofs.reach.rarest.Given as goal

abbrev pub invariant-loop-column : goal.invariant-loop-column
invariant-loop-column l = record {
  indexed : AreIndexesOf l.slots.entries (get nat_eq l.indexes);
  best : IfSome l.best (IsSought l.kept l.slots.entries (get nat_eq l.indexes));
}
