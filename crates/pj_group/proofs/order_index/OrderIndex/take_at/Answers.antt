use Rattle.std.proofs.Common.{ap, sym, ◌∙◌}
use Rattle.std.specs.List.{slice_get}
use Rattle.pj_group.proofs.Ordered.{order_more, order_same}
use Rattle.pj_group.proofs.order_index.OrderIndex.take_at.Goals as goal

pub returns-in_err-take_in-in-Some-clause-same : goal.returns-in_err-take_in-in-Some-clause-same
returns-in_err-take_in-in-Some-clause-same c =
    order_same c.args.column c.args.slots.now.entries c.args.self.now c.take_in.new.self c.requires.same c.in_err-take_in-in-Some.ensures.err

pub returns-in_ok-take_in-in-Some-clause-same : goal.returns-in_ok-take_in-in-Some-clause-same
returns-in_ok-take_in-in-Some-clause-same c =
    order_more c.args.column c.args.slots.now.entries c.in-Some.key.now c.in-Some.field-0-1.now c.args.self.now c.take_in.new.self
    (ap (slice_get c.args.slots.now.entries) (sym c.requires.next) ∙ sym c.in-Some.ensures.entry) c.requires.same c.in_ok-take_in-in-Some.ensures.ok
