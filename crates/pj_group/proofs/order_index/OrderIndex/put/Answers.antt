use Rattle.std.proofs.Common.{true, subst, w64}
use Rattle.std.specs.BTreeSet.{Updates}
use Rattle.std.proofs.Math.Facts.{to_z-of_z}
use Rattle.pj_group.specs.Orders.{place_cmp}
use Rattle.pj_group.proofs.order_index.OrderIndex.put.Goals as goal

pub returns-clause-ok : goal.returns-clause-ok
returns-clause-ok c =
    subst (λ n. Updates place_cmp c.args.self.now.places c.insert.new.self (n, c.args.self.now.upto) true) (to_z-of_z {w = w64} {z = c.args.number} c.ranges.number) c.in_ok-insert.ensures.updates
