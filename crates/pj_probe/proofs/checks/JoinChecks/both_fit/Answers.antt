use Rattle.std.proofs.Common.{rules, ◌≡◌, false, [], ◌∷◌}
use Rattle.pj_events.specs.Join.{joins}
use Rattle.pj_shape.specs.Joining.{parts_on}
use Rattle.pj_probe.proofs.Checked.{pair_fails}
use Rattle.pj_probe.proofs.Whole.{joins-none}
use Rattle.pj_probe.proofs.checks.JoinChecks.both_fit.Goals as goal

pub fit-requires-clause-before : goal.fit-requires-clause-before
fit-requires-clause-before c = joins-none c.args.self.now

pub returns-then-not-fit : goal.returns-then-not-fit
returns-then-not-fit c =
    let fails : joins c.args.self.now (parts_on 0 (c.args.first.now ∷ [])) ≡ false = rw (← c.fit.ensures) (search rules) in
    pair_fails c.args.self.now c.args.first.now c.args.second.now fails
