use Rattle.std.proofs.Common.{◌≡◌, ◌++◌, drop}
use Rattle.pj_graph.specs.Search.{column_numbers}
use Rattle.pj_graph.proofs.search.column_numbers.Given as goal

abbrev pub invariant-loop-column : goal.invariant-loop-column
invariant-loop-column l =
    l.numbers ++ column_numbers l.spec.classes l.fn.input l.column (drop l.column l.schema) ≡ column_numbers l.spec.classes l.fn.input 0 l.schema
