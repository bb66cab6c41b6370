use Rattle.pj_value.specs.Values.{row_eq}
use Rattle.pj_group.specs.Steps.{next_tallies}
use Rattle.pj_group.proofs.Bounds.{found_states, on_err, set_states_by}
use Rattle.pj_group.proofs.Taking.{kept_by, left_by}
use Rattle.pj_group.proofs.group.renew_at.Goals as goal

pub renew-requires-clause-states : goal.renew-requires-clause-states
renew-requires-clause-states c =
    found_states c.args.count c.args.spec.now c.args.slots.now.entries (row_eq c.args.key.now) c.in-Some.states.now c.as_slice.result.now c.requires.states c.in-Some.ensures.value c.as_slice.ensures

pub returns-in_err-renew-in-Some-clause-err : goal.returns-in_err-renew-in-Some-clause-err
returns-in_err-renew-in-Some-clause-err c =
    on_err _ _ (kept_by c.args.slots.now.entries _ c.args.key.now c.in-Some.states.now c.renew.new.states c.in-Some.ensures.value c.in_err-renew-in-Some.ensures.err (c.get_mut.follows.holds c.renew.new.states).0)

pub returns-then-branch-clause-states : goal.returns-then-branch-clause-states
returns-then-branch-clause-states c =
    set_states_by c.args.count c.args.spec.now c.args.slots.now.entries _ (row_eq c.args.key.now) c.renew.new.states c.as_slice.result.now c.requires.states c.as_slice.ensures c.in_ok-renew-in-Some.ensures.states
    (c.get_mut.follows.holds c.renew.new.states).0

pub returns-else-branch-clause-is : goal.returns-else-branch-clause-is
returns-else-branch-clause-is c =
    left_by (next_tallies c.args.row.now c.as_slice.result.now) c.args.slots.now.entries _ c.args.key.now c.in-Some.states.now c.renew.new.states c.in_ok-renew-in-Some.field-0 c.in_ok-renew-in-Some.ensures.open c.if-branch.false
    c.in-Some.ensures.unique c.in-Some.ensures.value c.in_ok-renew-in-Some.ensures.ok (c.get_mut.follows.holds c.renew.new.states).0

pub returns-else-branch-clause-states : goal.returns-else-branch-clause-states
returns-else-branch-clause-states c =
    set_states_by c.args.count c.args.spec.now c.args.slots.now.entries _ (row_eq c.args.key.now) c.renew.new.states c.as_slice.result.now c.requires.states c.as_slice.ensures c.in_ok-renew-in-Some.ensures.states
    (c.get_mut.follows.holds c.renew.new.states).0
