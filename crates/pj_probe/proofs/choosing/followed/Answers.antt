use Rattle.std.proofs.Common.{[], List, length, refl, sym, subst, arith}
use Rattle.pj_probe.specs.Hops.{FindAll}
use Rattle.pj_probe.proofs.Hopped.{Pairs, all_found, found_begin}
use Rattle.pj_probe.proofs.Lacking.{lacking_found}
use Rattle.pj_probe.proofs.choosing.followed.Goals as goal

pub loop-at-init : goal.loop-at-init
loop-at-init c = found_begin c.args.own.now c.args.sides.now [] c.in_ok-lists.lists.items (length c.args.sides.now) refl refl c.requires.there c.in_ok-lists.ensures

pub returns-then-lacks_any-clause-same : goal.returns-then-lacks_any-clause-same
returns-then-lacks_any-clause-same c =
    lacking_found c.args.own.now c.args.sides.now c.args.steps.now c.in_ok-lists.lists.items c.of.result (length c.args.sides.now) c.requires.route c.requires.wide c.requires.there refl c.in_ok-lists.ensures (c.lacks_any.ensures c.if-lacks_any.true) c.of.ensures

pub returns-then-branch-clause-same : goal.returns-then-branch-clause-same
returns-then-branch-clause-same c =
    subst (λ (lists : List Pairs). FindAll c.args.own.now c.args.sides.now c.args.steps.now lists) (sym c.of-then-branch.ensures) (c.in_ok-follow.ensures.none c.if-branch.true)

pub returns-clause-same : goal.returns-clause-same
returns-clause-same c =
    all_found c.args.own.now c.args.sides.now c.args.steps.now c.loop-at.lists.items c.of-2.result c.loop-at.at c.loop-at.invariant (omega (arith, c.loop-at-test.false)) c.requires.route c.requires.there c.of-2.ensures
