use Rattle.pj_laws.proofs.HistoryAnswers.{adds-entry, drains-hand-out-all, fronts-are-legal, grows-legally, trace-adds-notes}
use Rattle.pj_laws.proofs.history_laws.history_steps.Goals as goal

pub returns-clause-adds : goal.returns-clause-adds
returns-clause-adds c = adds-entry

pub returns-clause-drains : goal.returns-clause-drains
returns-clause-drains c = drains-hand-out-all

pub returns-clause-grows : goal.returns-clause-grows
returns-clause-grows c = grows-legally

pub returns-clause-fronts : goal.returns-clause-fronts
returns-clause-fronts c = fronts-are-legal

pub returns-clause-trace : goal.returns-clause-trace
returns-clause-trace c = trace-adds-notes
