use Rattle.std.proofs.Common.{◌≡◌, Some, ap, sym, ◌∙◌}
use Rattle.std.specs.List.{slice_get}
use Rattle.std.specs.Map.{keys_of}
use Rattle.pj_group.proofs.Indexed.{index_more, index_same, key_at}
use Rattle.pj_group.proofs.value_index.ValueIndex.take_at.Goals as goal

pub returns-in_err-take_in-in-Some-clause-same : goal.returns-in_err-take_in-in-Some-clause-same
returns-in_err-take_in-in-Some-clause-same c =
    index_same c.args.column (keys_of c.args.slots.now.entries) c.args.self.now c.take_in.new.self c.requires.same c.in_err-take_in-in-Some.ensures.err

pub returns-in_ok-take_in-in-Some-clause-same : goal.returns-in_ok-take_in-in-Some-clause-same
returns-in_ok-take_in-in-Some-clause-same c =
    let there : slice_get (keys_of c.args.slots.now.entries) c.args.at ≡ Some c.in-Some.key.now = key_at c.args.slots.now.entries c.args.at c.in-Some.key.now c.in-Some.field-0-1.now (sym c.in-Some.ensures.entry) in
    index_more c.args.column (keys_of c.args.slots.now.entries) c.in-Some.key.now c.args.self.now c.take_in.new.self
    (ap (slice_get (keys_of c.args.slots.now.entries)) (sym c.requires.next) ∙ there) c.requires.same c.in_ok-take_in-in-Some.ensures.ok
