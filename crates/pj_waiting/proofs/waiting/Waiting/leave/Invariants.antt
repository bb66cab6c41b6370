use Rattle.std.proofs.Common.{◌≡◌, take}
use Rattle.pj_waiting.specs.Holding.{waiting_in}
use Rattle.pj_waiting.specs.Leaving.{puncts_without}
use Rattle.pj_waiting.proofs.Listed.{KeepsAllBut}
use Rattle.pj_waiting.proofs.waiting.Waiting.leave.Given as goal

abbrev pub invariant-loop-ticket : goal.invariant-loop-ticket
invariant-loop-ticket l = record { puncts : l.self.puncts ≡ puncts_without (take l.ticket-index l.left.goes) l.fn.self.puncts; listed : l.self.listed ≡ l.fn.self.listed }

abbrev pub invariant-loop-listing : goal.invariant-loop-listing
invariant-loop-listing l = record { puncts : waiting_in l.self-inside.puncts.entries ≡ puncts_without l.left.goes l.fn.self.puncts; listed : KeepsAllBut (take l.listing-index l.left.freed) l.fn.self.listed l.self-inside.by_blocker.keys }
