use Rattle.std.proofs.Common.{◌≡◌, ◌≤◌, ◌-◌, vec_len}
use Rattle.pj_io.proofs.held.Held.hand_on.Given as goal

abbrev pub invariant-loop-self : goal.invariant-loop-self
invariant-loop-self g l = record {
  held : l.self.bytes.items ≡ l.fn.self.bytes.items;
  len : vec_len l.self.bytes ≡ vec_len l.initial.self.bytes;
  on : l.fn.self.sent ≤ l.self.sent;
}

abbrev pub decreases-loop-self : goal.decreases-loop-self
decreases-loop-self g l = vec_len l.initial.self.bytes - l.self.sent
