use Rattle.pj_replay.proofs.script.play.Goals as goal

pub returns-in-Err-clause-err : goal.returns-in-Err-clause-err
returns-in-Err-clause-err g c = λ run history p. c.leave.ensures.stops run c.play_steps.new.feeds.feeds.items (c.in-Err.ensures.err run history p)
