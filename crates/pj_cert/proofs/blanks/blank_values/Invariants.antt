use Rattle.std.proofs.Common.{◌≡◌, ◌++◌, drop}
use Rattle.pj_shape.specs.Columns.{domains_of}
use Rattle.pj_cert.specs.Instances.{blanks}
use Rattle.pj_cert.proofs.blanks.blank_values.Given as goal

abbrev pub invariant-loop-column : goal.invariant-loop-column
invariant-loop-column l = l.values ++ blanks (domains_of (drop l.column-index l.schema)) ≡ blanks (domains_of l.schema)
