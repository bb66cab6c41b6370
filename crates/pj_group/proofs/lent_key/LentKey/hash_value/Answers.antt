use Rattle.std.proofs.Common.{◌+◌, ◌∙◌, ap, sym, drop}
use Rattle.pj_hash.specs.Hashes.{with_values}
use Rattle.pj_group.proofs.Equality.{hash_more}
use Rattle.pj_group.proofs.lent_key.LentKey.hash_value.Goals as goal

pub loop-at-preserved : goal.loop-at-preserved
loop-at-preserved c =
    c.loop-at.invariant ∙ (hash_more c.args.self.now c.loop-at.hash_value c.loop-at.at c.at.result.now c.at.ensures
    ∙ ap (λ p. with_values p (drop (c.loop-at.at + 1) c.args.self.now)) (sym c.with_value-hash_value.ensures))
