use Rattle.pj_alone.specs.Made.{made_lines}
use Rattle.pj_alone.proofs.MadeLaws.{memory_first}
use Rattle.pj_alone.proofs.made.write_made.Goals as goal

pub returns-in-Err-clause-left : goal.returns-in-Err-clause-left
returns-in-Err-clause-left g c = memory_first (made_lines c.args.seed c.args.count) (g.K.Sink.state c.args.out.now) (g.K.Sink.state c.write_status.new.out) c.write_status.ensures.line
