use Rattle.std.proofs.Common.{◌+◌, ◌∙◌, ap, sym, drop}
use Rattle.pj_hash.specs.Hashes.{with_values}
use Rattle.pj_group.proofs.Equality.{hash_more}
use Rattle.pj_group.proofs.keys.hash_value.Goals as goal

pub loop-column-preserved : goal.loop-column-preserved
loop-column-preserved c =
    c.loop-column.invariant ∙ (hash_more c.args.row.now c.loop-column.hash_value c.loop-column.column c.at.result.now c.at.ensures
    ∙ ap (λ p. with_values p (drop (c.loop-column.column + 1) c.args.row.now)) (sym c.with_value-hash_value.ensures))
