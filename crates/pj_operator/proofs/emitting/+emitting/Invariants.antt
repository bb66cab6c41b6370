use Rattle.std.proofs.Common.{◌+◌, ◌-◌, ◌*◌, length}
use Rattle.pj_operator.specs.Operators.{emitted_list}
use Rattle.pj_operator.proofs.Emits.{Rose}
use Rattle.pj_operator.proofs.emitting.+emitting.Given as goal

abbrev pub decreases-emit_one : goal.decreases-emit_one
decreases-emit_one l = 2 * (length l.operators.now - l.from)

abbrev pub decreases-emit_each : goal.decreases-emit_each
decreases-emit_each l = 2 * (length l.operators.now - l.from) + 1

abbrev pub invariant-emit_each-loop-element : goal.invariant-emit_each-loop-element
invariant-emit_each-loop-element l =
    Rose (record { operators = l.initial.operators; outs = l.initial.outs }) (record { operators = l.operators; outs = l.outs }) l.from l.yielded (emitted_list l.element-iterator) (emitted_list l.fn.elements)
