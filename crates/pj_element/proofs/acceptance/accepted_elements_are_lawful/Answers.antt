use Rattle.std.proofs.Common.{[]}
use Rattle.pj_element.specs.Accepted.{reads_of}
use Rattle.pj_element.specs.Runs.{closing}
use Rattle.pj_element.proofs.Lawful.{lawful_behind}
use Rattle.pj_element.proofs.acceptance.accepted_elements_are_lawful.Goals as goal

pub returns : goal.returns
returns c = λ columns bytes. lawful_behind (closing columns) [] (reads_of columns bytes)
