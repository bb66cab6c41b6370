use Rattle.std.proofs.Common.{◌&&◌, not, rules}
use Rattle.indexmap.proofs.CallerLemmas.{filter-RetainsPairs}
use Rattle.pj_events.specs.Patterns.{matches_row}
use Rattle.pj_group.specs.Slots.{is_open}
use Rattle.pj_group.proofs.slots.drop_matched.Goals as goal

pub returns : goal.returns
returns c = filter-RetainsPairs _ (λ s. is_open s && not (matches_row c.args.kept.now s.0)) _ (λ k v b w g call. search rules) _ _ c.retain.ensures.filtered
