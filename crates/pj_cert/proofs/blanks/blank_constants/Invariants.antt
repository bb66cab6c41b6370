use Rattle.std.proofs.Common.{◌≡◌, ◌++◌, drop}
use Rattle.pj_shape.specs.Columns.{domains_of}
use Rattle.pj_cert.specs.Instances.{blanks, marked}
use Rattle.pj_cert.proofs.blanks.blank_constants.Given as goal

abbrev pub invariant-loop-n : goal.invariant-loop-n
invariant-loop-n l = l.constants ++ blanks (marked (drop l.n l.scheme) (domains_of (drop l.n l.schema))) ≡ blanks (marked l.scheme (domains_of l.schema))
