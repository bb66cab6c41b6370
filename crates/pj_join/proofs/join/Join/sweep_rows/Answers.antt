use Rattle.std.proofs.Common.{◌∙◌, ap, sym, subst}
use Rattle.pj_events.specs.KeptState.{swept}
use Rattle.pj_join.specs.Held.{AreHeld}
use Rattle.pj_join.specs.Joins.{JoinView}
use Rattle.pj_waiting.specs.Leaving.{puncts_without}
use Rattle.pj_join.proofs.Holding.{held_left, held_same}
use Rattle.pj_join.proofs.Leaving.{left_waiting}
use Rattle.pj_join.proofs.join.Join.sweep_rows.Goals as goal

pub returns-in-Ok-clause-waiting : goal.returns-in-Ok-clause-waiting
returns-in-Ok-clause-waiting c =
    c.leave.ensures.puncts ∙ ap (puncts_without c.in-Ok.left.waiting.goes) c.judge.ensures.puncts
    ∙ left_waiting (swept c.args.self.now.spec c.args.self.now.kept c.args.input) c.args.input c.args.waiting.now.puncts c.in-Ok.left.waiting.goes c.in-Ok.ensures.rising c.in-Ok.ensures.goes

pub returns-in-Ok-clause-held : goal.returns-in-Ok-clause-held
returns-in-Ok-clause-held c =
    subst (λ (j : JoinView). AreHeld j.kept.next j.kept.stored c.leave.new.self) (sym c.settle.ensures.sweeps)
    (held_left c.args.self.now.kept.next c.args.self.now.kept.stored (swept c.args.self.now.spec c.args.self.now.kept c.args.input) c.in-Ok.left.waiting.goes c.in-Ok.left.waiting.freed c.args.waiting.now c.judge.new.waiting c.leave.new.self
    c.requires.held c.judge.ensures.puncts c.leave.ensures.puncts c.leave.ensures.by_blocker c.in-Ok.ensures.held)

pub returns-in-Err-clause-held : goal.returns-in-Err-clause-held
returns-in-Err-clause-held c = held_same c.args.self.now.kept.next c.args.self.now.kept.stored c.args.waiting.now c.judge.new.waiting c.judge.ensures.puncts c.judge.ensures.keeps c.requires.held
