use Rattle.std.proofs.Common.{length, ap, ◌∙◌, arith}
use Rattle.pj_state.specs.Rising.{itself}
use Rattle.pj_state.proofs.Between.{found_left, missing_left}
use Rattle.pj_state.proofs.tickets.take_from.Goals as goal

pub returns-in-None-clause-taken : goal.returns-in-None-clause-taken
returns-in-None-clause-taken c = missing_left itself c.args.ticket c.args.list.now c.as_slice.result.now c.as_slice.ensures c.in-None.ensures.missing

pub returns-in-Some-clause-taken : goal.returns-in-Some-clause-taken
returns-in-Some-clause-taken c = λ rising.
    c.remove.ensures.left ∙ found_left itself c.args.ticket c.args.list.now c.as_slice.result.now c.in-Some.at 0 c.as_slice.ensures c.in-Some.ensures.within c.in-Some.ensures.found rising

pub returns-in-Some-clause-none : goal.returns-in-Some-clause-none
returns-in-Some-clause-none c = λ nothing. absurd (omega (arith, c.in-Some.ensures.within, ap length c.as_slice.ensures, ap length nothing))
