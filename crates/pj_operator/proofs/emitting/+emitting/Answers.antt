use Rattle.std.proofs.Common.{[], ◌∷◌, None, arith}
use Rattle.pj_operator.specs.Operators.{emitted_list}
use Rattle.pj_operator.proofs.Emits.{emits-out, emits-up, receive_stop, feeds-at, fits-at, may-rose, may-up, err_through, rose-none, rose-stop, rose-then, stops-up}
use Rattle.pj_operator.proofs.emitting.+emitting.Goals as goal

pub emit_one-receive-requires-clause-there : goal.emit_one-receive-requires-clause-there
emit_one-receive-requires-clause-there t c =
    (fits-at c.args.operators.now c.args.from c.in-Some.place c.in-Some.input c.args.element c.requires.may c.requires.there
    (feeds-at c.args.operators.now c.args.from _ _ c.requires.there c.in-Some.is)).1

pub emit_one-receive-requires-clause-fits : goal.emit_one-receive-requires-clause-fits
emit_one-receive-requires-clause-fits t c =
    (fits-at c.args.operators.now c.args.from c.in-Some.place c.in-Some.input c.args.element c.requires.may c.requires.there
    (feeds-at c.args.operators.now c.args.from _ _ c.requires.there c.in-Some.is)).2

pub emit_one-emit_each-requires : goal.emit_one-emit_each-requires
emit_one-emit_each-requires t c =
    let feeds = feeds-at c.args.operators.now c.args.from _ _ c.requires.there c.in-Some.is in
    let f = fits-at c.args.operators.now c.args.from c.in-Some.place c.in-Some.input c.args.element c.requires.may c.requires.there feeds in
    let behind = f.0 in
    let there = f.1 in
    let long = c.receive.auto.operators in (
      omega (arith, c.decreases, behind, there, long),
      (
        omega (arith, there, long),
        may-up c.args.operators.now c.receive.new.operators c.args.from c.in-Some.place c.in-Some.input c.args.element c.in_ok-up-in-Some.up c.requires.may c.requires.there feeds c.in_ok-up-in-Some.ensures.ok c.receive.ensures.stays,
      ),
    )

pub emit_one-returns-in-Ok-clause-ok : goal.emit_one-returns-in-Ok-clause-ok
emit_one-returns-in-Ok-clause-ok t c =
    emits-out c.args.operators.now c.args.outs.now c.hand_out.new.outs c.args.from c.args.element c.requires.there
    (feeds-at c.args.operators.now c.args.from _ None c.requires.there c.in-None.is) c.in-Ok.ensures.ok

pub emit_one-returns-in_ok-emit_each-in-Some-clause-ok : goal.emit_one-returns-in_ok-emit_each-in-Some-clause-ok
emit_one-returns-in_ok-emit_each-in-Some-clause-ok t c =
    emits-up c.args.operators.now c.receive.new.operators c.args.from c.in-Some.place c.in-Some.input c.args.element c.in_ok-up-in-Some.up c.requires.there c.requires.may.linked
    (feeds-at c.args.operators.now c.args.from _ _ c.requires.there c.in-Some.is) c.in_ok-up-in-Some.ensures.ok
    c.emit_each.new.operators c.args.outs.now c.emit_each.new.outs c.in_ok-emit_each-in-Some.ensures.ok

pub emit_one-returns-in_err-emit_each-in-Some-clause-err : goal.emit_one-returns-in_err-emit_each-in-Some-clause-err
emit_one-returns-in_err-emit_each-in-Some-clause-err t c =
    err_through _ c.from_residual-in_err-emit_each-in-Some.result c.in_err-emit_each-in-Some.field-0.0 c.from_residual-in_err-emit_each-in-Some.ensures.1
    (stops-up c.args.operators.now c.receive.new.operators c.args.from c.in-Some.place c.in-Some.input c.args.element c.in_ok-up-in-Some.up c.requires.there c.requires.may.linked
    (feeds-at c.args.operators.now c.args.from _ _ c.requires.there c.in-Some.is) c.in_ok-up-in-Some.ensures.ok
    c.in_err-emit_each-in-Some.field-0.0 c.in_err-emit_each-in-Some.ensures.err)

pub emit_one-returns-in_err-up-in-Some-clause-err : goal.emit_one-returns-in_err-up-in-Some-clause-err
emit_one-returns-in_err-up-in-Some-clause-err t c =
    err_through _ c.from_residual.result c.in_err-up-in-Some.field-0.0 c.from_residual.ensures.1
    (receive_stop c.args.operators.now c.args.from c.in-Some.place c.in-Some.input c.args.element c.in_err-up-in-Some.field-0.0 c.requires.there c.requires.may.linked
    (feeds-at c.args.operators.now c.args.from _ _ c.requires.there c.in-Some.is) c.in_err-up-in-Some.ensures.err)

pub emit_each-emit_one-requires : goal.emit_each-emit_one-requires
emit_each-emit_one-requires t c =
    let there = c.requires.there in
    let long = c.loop-element.auto.operators in (
      omega (arith, c.decreases, there, long),
      (
        omega (arith, there, long),
        may-rose _ _ c.args.from c.loop-element.yielded (c.in-Some.element ∷ []) _ (emitted_list c.next.new.self) (emitted_list c.args.elements) c.requires.may c.loop-element.invariant c.in-Some.ensures.steps,
      ),
    )

pub emit_each-loop-element-init : goal.emit_each-loop-element-init
emit_each-loop-element-init t c = rose-none _ c.args.from _ _ (cc)

pub emit_each-loop-element-preserved : goal.emit_each-loop-element-preserved
emit_each-loop-element-preserved t c =
    rose-then _ _ _ c.args.from c.loop-element.yielded c.in-Some.element _ _ _ c.loop-element.invariant c.in-Some.ensures.steps c.in_ok-emit_one.ensures.ok c.emit_one.ensures.stays c.emit_one.ensures.front

pub emit_each-returns-in_err-emit_one-clause-err : goal.emit_each-returns-in_err-emit_one-clause-err
emit_each-returns-in_err-emit_one-clause-err t c =
    err_through _ c.from_residual.result c.in_err-emit_one.field-0.0 c.from_residual.ensures.1
    (rose-stop _ _ c.args.from c.loop-element.yielded c.in-Some.element _ _ _ c.in_err-emit_one.field-0.0 c.loop-element.invariant c.in-Some.ensures.steps c.in_err-emit_one.ensures.err)
