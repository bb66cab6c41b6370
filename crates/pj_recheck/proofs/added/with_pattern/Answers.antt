use Rattle.std.proofs.Common.{ap, take, drop, ◌∙◌}
use Rattle.pj_recheck.proofs.Adding.{replaced_is}
use Rattle.pj_recheck.proofs.added.with_pattern.Goals as goal

pub returns : goal.returns
returns c =
    c.of.ensures
    ∙ replaced_is c.args.punct.now c.split_at.result.0.now c.split_at.result.1.now c.split_at-2.result.1.now c.in_ok-patterns.patterns c.append_copies.new.out c.push.new.self c.append_copies-2.new.out c.args.column c.args.pattern
    c.in_ok-patterns.ensures (c.split_at.ensures.front ∙ ap (take c.args.column) c.as_slice.ensures) (c.split_at.ensures.back ∙ ap (drop c.args.column) c.as_slice.ensures) c.split_at-2.ensures.back c.in_ok-append_copies.ensures.ok c.in_ok-push.ensures.ok c.in_ok-append_copies-2.ensures.ok
