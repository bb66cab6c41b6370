use Rattle.std.proofs.Common.{rules}
use Rattle.indexmap.proofs.CallerLemmas.{filter-RetainsPairs}
use Rattle.pj_group.specs.Slots.{is_open}
use Rattle.pj_group.proofs.slots.clear.Goals as goal

pub returns : goal.returns
returns c = filter-RetainsPairs _ is_open _ (λ k v b w g call. search rules) _ _ c.retain.ensures.filtered
