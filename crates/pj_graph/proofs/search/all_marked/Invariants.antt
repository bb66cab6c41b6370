use Rattle.std.proofs.Common.{◌≡◌, drop}
use Rattle.pj_graph.specs.Search.{all_marked}
use Rattle.pj_graph.proofs.search.all_marked.Given as goal

abbrev pub invariant-loop-column : goal.invariant-loop-column
invariant-loop-column l = all_marked l.bound l.numbers l.scheme ≡ all_marked l.bound (drop l.column l.numbers) (drop l.column l.scheme)
