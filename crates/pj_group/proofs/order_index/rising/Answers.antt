use Rattle.std.proofs.lemmas.List.Filters.{dedup_is}
use Rattle.std.proofs.lemmas.List.Kept.{Contains-dedup_nat}
use Rattle.std.proofs.lemmas.List.Sorted.{Contains-permutation}
use Rattle.std.proofs.lemmas.Map.Keys.{IsStrictlyIncreasing-dedup}
use Rattle.pj_group.proofs.order_index.rising.Goals as goal

pub returns-clause-rises : goal.returns-clause-rises
returns-clause-rises c = let is = dedup_is _ _ _ c.dedup.ensures.filtered in rw (c.of.ensures, is) (IsStrictlyIncreasing-dedup _ c.sort_unstable.ensures.sorted)

pub returns-clause-keeps : goal.returns-clause-keeps
returns-clause-keeps c = let is = dedup_is _ _ _ c.dedup.ensures.filtered in λ x h. rw (c.of.ensures, is) (Contains-dedup_nat _ x (Contains-permutation _ _ x c.sort_unstable.ensures.permutation h))
