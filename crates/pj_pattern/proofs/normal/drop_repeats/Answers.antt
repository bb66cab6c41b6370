use Rattle.std.proofs.Common.{rules}
use Rattle.std.proofs.lemmas.Fn.{dedup_same}
use Rattle.pj_value.specs.Values.{value_eq}
use Rattle.pj_pattern.proofs.normal.drop_repeats.Goals as goal

pub returns : goal.returns
returns c = dedup_same _ value_eq _ (λ x y b f' x' y' k. search rules) _ _ c.dedup_by.ensures.filtered
