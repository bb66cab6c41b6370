use Rattle.std.proofs.Common.{false, refl, subst, w64}
use Rattle.std.specs.BTreeSet.{Updates}
use Rattle.std.proofs.Math.Facts.{to_z-of_z}
use Rattle.pj_group.specs.Orders.{place_cmp}
use Rattle.pj_group.proofs.Ordered.{integer_out}
use Rattle.pj_group.proofs.order_index.OrderIndex.remove.Goals as goal

pub returns : goal.returns
returns c =
    integer_out c.args.self.now _ c.args.number c.args.at refl
    (subst (λ n. Updates place_cmp c.args.self.now.places c.remove.new.self (n, c.args.at) false) (to_z-of_z {w = w64} {z = c.args.number} c.ranges.number) c.remove.ensures.updates)
