use Rattle.std.proofs.Common.{◌∙◌, ℕ, List, ap, sym}
use Rattle.pj_events.specs.Join.{Value}
use Rattle.pj_probe.proofs.Hopped.{linked_single}
use Rattle.pj_probe.proofs.choosing.linked.Goals as goal

pub returns-in-len1 : goal.returns-in-len1
returns-in-len1 c =
    linked_single c.args.state.now c.args.link.index_column c.args.link.from_column c.args.below c.args.others.now c.index-others-0.result c.row.result.now c.linked_by_one.result c.in-len1.len_at_least c.in-len1.len_below c.index-others-0.is
    (c.row.ensures ∙ ap (λ (q : ℕ × List Value). q.1) (sym c.index-others-0.is)) c.linked_by_one.ensures
