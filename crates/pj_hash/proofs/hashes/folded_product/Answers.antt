use mathlib.Core.Path.{refl}
use Rattle.pj_hash.specs.Hashes.{folded_product}
use Rattle.pj_hash.proofs.hashes.folded_product.Goals as goal

pub returns : goal.returns
unfolding folded_product
returns c = refl
