use Rattle.std.proofs.Common.{◌≡◌, ◌++◌, drop}
use Rattle.pj_shape.specs.Columns.{domains_of}
use Rattle.pj_cert.specs.Instances.{blank_ones}
use Rattle.pj_cert.proofs.blanks.append_ones.Given as goal

abbrev pub invariant-loop-n : goal.invariant-loop-n
invariant-loop-n l = l.listed ++ blank_ones l.fn.input (domains_of l.schema) l.n (drop l.n l.list) ≡ l.fn.listed ++ blank_ones l.fn.input (domains_of l.schema) 0 l.list
