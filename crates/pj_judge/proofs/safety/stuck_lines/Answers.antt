use Rattle.std.proofs.Common.{◌≡◌, rules}
use Rattle.pj_judge.specs.Asked.{stuck_lines}
use Rattle.pj_judge.proofs.Notes.{lines_notes}
use Rattle.pj_judge.proofs.safety.stuck_lines.Goals as goal

pub returns-clause-notes : goal.returns-clause-notes
returns-clause-notes c =
    let same : c.push-2.new.self ≡ stuck_lines c.args.asked.now c.args.input c.args.missing c.args.reached.now = search rules in
    lines_notes c.args.asked.now c.args.input c.args.missing c.args.reached.now c.push-2.new.self c.requires same
