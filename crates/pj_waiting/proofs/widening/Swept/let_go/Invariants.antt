use Rattle.std.proofs.Common.{◌≡◌, take}
use Rattle.pj_waiting.specs.Holding.{KeepsLists}
use Rattle.pj_waiting.proofs.Holding.{AreLetGo, AreListed}
use Rattle.pj_waiting.proofs.widening.Swept.let_go.Given as goal

abbrev pub invariant-loop-ticket : goal.invariant-loop-ticket
invariant-loop-ticket l = record {
  goes : AreLetGo l.self l.fn.waiting.puncts (take l.ticket-index l.ticket-items) l.goes l.fn.out l.out;
  listed : AreListed l.self l.waiting (take l.ticket-index l.ticket-items);
  puncts : l.waiting.puncts ≡ l.fn.waiting.puncts;
  keeps : KeepsLists l.fn.waiting l.waiting;
}
