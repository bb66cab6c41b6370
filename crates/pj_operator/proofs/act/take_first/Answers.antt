use Rattle.std.proofs.Common.{sym, ◌∙◌, arith}
use Rattle.pj_operator.proofs.Changes.{frames-state, opens-take, takes-first}
use Rattle.pj_operator.proofs.Firsts.{first_below}
use Rattle.pj_operator.proofs.act.take_first.Goals as goal

pub bounds-operators-place : goal.bounds-operators-place
bounds-operators-place c = let l = first_below 0 c.args.operators.now c.in-Some.place (sym c.next_pending.ensures ∙ c.in-Some.is) in omega (arith, l)

pub returns-in-Some-clause-ok : goal.returns-in-Some-clause-ok
returns-in-Some-clause-ok c =
    let l = first_below 0 c.args.operators.now c.in-Some.place (sym c.next_pending.ensures ∙ c.in-Some.is) in
    takes-first c.args.operators.now c.in-Some.place c.index-operators-place.result c.take.new.self c.take.result (omega (arith, l)) (sym c.next_pending.ensures ∙ c.in-Some.is) c.take.ensures.ok

pub returns-in-Some-clause-opens : goal.returns-in-Some-clause-opens
returns-in-Some-clause-opens c =
    let l = first_below 0 c.args.operators.now c.in-Some.place (sym c.next_pending.ensures ∙ c.in-Some.is) in
    opens-take c.args.operators.now c.in-Some.place c.index-operators-place.result c.take.new.self c.take.result (omega (arith, l)) c.take.ensures.open

pub returns-in-Some-clause-frames : goal.returns-in-Some-clause-frames
returns-in-Some-clause-frames c = frames-state c.args.operators.now c.in-Some.place c.index-operators-place.result c.take.new.self c.take.ensures.kind
