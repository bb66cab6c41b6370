use Rattle.std.specs.Option.{option_copied}
use Rattle.pj_group.proofs.Ordered.{range_sought}
use Rattle.pj_group.proofs.reach.range_in.Goals as goal

pub returns-in-Range : goal.returns-in-Range
returns-in-Range c =
    range_sought c.args.punct.now c.args.column c.at.result.now (option_copied c.in-Range.low) (option_copied c.in-Range.high) c.integers.result c.at.ensures c.in-Range.ensures.shape c.integers.ensures
