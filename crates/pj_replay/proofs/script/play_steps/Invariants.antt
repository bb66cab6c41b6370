use Rattle.std.proofs.Common.{◌≡◌, ◌≤◌, IsTrue, List, drop}
use Rattle.pj_feed.specs.Feeds.{AreSameFeeds}
use Rattle.pj_events.specs.declared.events.Entry.{Entry}
use Rattle.pj_run.specs.Goes.{RunStart}
use Rattle.pj_replay.specs.Playing.{IsReady, stage}
use Rattle.pj_replay.specs.Plays.{IsPlaying}
use Rattle.pj_replay.proofs.script.play_steps.Given as goal

abbrev pub invariant-steps : goal.invariant-steps
invariant-steps g l = record {
  ready : IsReady (stage l.hand l.feeds.feeds.items l.gathered (g.K.Sink.state l.out));
  plan : l.hand.core.plan ≡ l.fn.hand.core.plan;
  at : l.feeds.at ≡ l.fn.feeds.at;
  same : AreSameFeeds l.fn.feeds.feeds.items l.feeds.feeds.items;
  told : IsTrue (g.K.Sink.state l.out).told → IsTrue (g.K.Sink.state l.fn.out).told;
  later : (g.K.Sink.state l.fn.out).faults ≤ (g.K.Sink.state l.out).faults;
  goes : (run : RunStart) (history : List Entry) → IsPlaying run history (stage l.fn.hand l.fn.feeds.feeds.items l.fn.gathered (g.K.Sink.state l.fn.out)) l.fn.steps
      → (now : List Entry) × IsPlaying run now (stage l.hand l.feeds.feeds.items l.gathered (g.K.Sink.state l.out)) (drop l.item-index l.fn.steps);
}
