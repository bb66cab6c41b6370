use Rattle.std.proofs.Common.{◌≡◌, drop}
use Rattle.pj_hash.specs.Hashes.{with_bytes}
use Rattle.pj_hash.proofs.hashes.with_bytes.Given as goal

abbrev pub invariant-loop-byte : goal.invariant-loop-byte
invariant-loop-byte l = with_bytes l.fn.hash l.bytes ≡ with_bytes l.hash (drop l.byte-index l.bytes)
