use Rattle.pj_crew_runs.proofs.Tells.{large-files-tell, limits-tell, quiet-are-whole, reads-tell}
use Rattle.pj_crew_runs.proofs.laws.crews_tell.Goals as goal

pub returns-clause-reads : goal.returns-clause-reads
returns-clause-reads c = reads-tell

pub returns-clause-large : goal.returns-clause-large
returns-clause-large c = large-files-tell

pub returns-clause-limits : goal.returns-clause-limits
returns-clause-limits c = limits-tell

pub returns-clause-quiet : goal.returns-clause-quiet
returns-clause-quiet c = quiet-are-whole
