use Rattle.std.proofs.Common.{◌≡◌, ◌++◌, map, take}
use Rattle.pj_recheck.specs.Judging.{row_in}
use Rattle.pj_recheck.specs.Watching.{AreJudged, all_picked}
use Rattle.pj_recheck.proofs.sweeping.Judge.judge_all.Given as goal

abbrev pub invariant-loop-ticket : goal.invariant-loop-ticket
invariant-loop-ticket l = AreJudged l.self (take l.ticket-index l.tickets) l.judged × (l.removed ≡ l.fn.removed ++ map row_in (all_picked l.self (take l.ticket-index l.tickets)))
