use Rattle.std.proofs.Common.{◌≡◌, drop}
use Rattle.pj_graph.specs.Search.{first_from}
use Rattle.pj_graph.proofs.search.first_usable.Given as goal

abbrev pub invariant-loop-n : goal.invariant-loop-n
invariant-loop-n l = first_from l.bound l.numbers 0 l.list ≡ first_from l.bound l.numbers l.n (drop l.n l.list)
