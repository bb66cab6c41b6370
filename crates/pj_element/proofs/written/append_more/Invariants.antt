use Rattle.std.proofs.Common.{◌≡◌, ◌++◌, take}
use Rattle.pj_element.specs.Elements.{more_members}
use Rattle.pj_element.proofs.written.append_more.Given as goal

abbrev pub invariant-loop-value : goal.invariant-loop-value
invariant-loop-value l = l.out ≡ l.fn.out ++ more_members (take l.value-index l.values)
