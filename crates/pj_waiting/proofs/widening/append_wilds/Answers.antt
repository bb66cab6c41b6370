use Rattle.std.proofs.Common.{◌∙◌, ◌++◌, ap}
use Rattle.pj_events.specs.Patterns.{all_wild}
use Rattle.pj_waiting.proofs.SortedOut.{wilds_more}
use Rattle.pj_waiting.proofs.widening.append_wilds.Goals as goal

pub loop-schema-preserved : goal.loop-schema-preserved
loop-schema-preserved c =
    wilds_more c.args.schemas.now c.loop-schema.schema-index c.schema-item.result c.args.patterns.now c.loop-schema.patterns c.append_wild.new.patterns c.loop-schema-test.true c.schema-item.is c.loop-schema.invariant
    (c.in_ok-append_wild.ensures.ok ∙ ap (λ n. c.loop-schema.patterns ++ all_wild n) c.len.ensures)
