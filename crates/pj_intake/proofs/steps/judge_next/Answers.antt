use Rattle.std.proofs.Common.{refl}
use Rattle.pj_intake.proofs.Judging.{line_room, line_above, line_shorter, read_stops, judge_stops}
use Rattle.pj_intake.proofs.steps.judge_next.Goals as goal

pub judge-requires-clause-room : goal.judge-requires-clause-room
judge-requires-clause-room g c = line_room _ _ _ _ c.requires.judged.0 _ c.in-Some.read _ _ c.requires.judged.1 c.in-Some.is c.in_ok-read_next.ensures.reads

pub judge-requires-clause-rises : goal.judge-requires-clause-rises
judge-requires-clause-rises g c = line_above c.args.schema.now c.args.lines.now c.args.seen.now c.requires.judged.0 c.requires.judged.1

pub returns-in_ok-judge-in-Some-clause-shorter : goal.returns-in_ok-judge-in-Some-clause-shorter
returns-in_ok-judge-in-Some-clause-shorter g c = λ none. line_shorter _ _ _ _ c.in-Some.read _ _ c.in-Some.is c.in_ok-read_next.ensures.reads

pub returns-in_err-read_next-clause-judges : goal.returns-in_err-read_next-clause-judges
returns-in_err-read_next-clause-judges g c = read_stops _ _ _ _ _ _ _ c.in_err-read_next.field-0.0 _ c.from_residual.ensures.1 c.in_err-read_next.ensures.reads refl c.in_err-read_next.ensures.told c.in_err-read_next.ensures.name c.in_err-read_next.ensures.later

pub returns-in_err-judge-in-Some-clause-judges : goal.returns-in_err-judge-in-Some-clause-judges
returns-in_err-judge-in-Some-clause-judges g c = judge_stops _ _ _ _ _ _ _ _ c.in-Some.read _ c.from_residual-in_err-judge-in-Some.ensures.1 c.in-Some.is c.in_ok-read_next.ensures.reads c.in_err-judge-in-Some.ensures.err c.in_ok-read_next.ensures.told c.in_ok-read_next.ensures.name c.in_ok-read_next.ensures.later
