use Rattle.std.proofs.Common.{arith}
use Rattle.pj_value.proofs.StorableValues.{bytes_small}
use Rattle.pj_value.proofs.storable.see_bytes.Goals as goal

pub returns : goal.returns
returns c = bytes_small c.args.bytes.now (λ i. omega (arith, c.type_inv.bytes i))
