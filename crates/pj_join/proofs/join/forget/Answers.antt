use Rattle.std.proofs.Common.{sym}
use Rattle.pj_join.proofs.Calling.{forget-found, forget-none}
use Rattle.pj_join.proofs.join.forget.Goals as goal

pub returns-in-Some : goal.returns-in-Some
returns-in-Some c = rw c.remove.ensures.items (forget-found c.args.taken.now.items _ c.in-Some.place c.args.ticket c.requires (rw (← c.as_slice.ensures.value) (sym c.in-Some.ensures)))

pub returns-in-None : goal.returns-in-None
returns-in-None c = forget-none c.args.taken.now.items c.args.ticket (rw (← c.as_slice.ensures.value) c.in-None.ensures)
