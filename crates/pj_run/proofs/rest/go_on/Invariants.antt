use Rattle.std.proofs.Common.{◌≡◌, ◌≤◌, [], None, length, IsTrue, List}
use Rattle.pj_events.specs.declared.events.Entry.{Entry}
use Rattle.pj_feed.specs.Feeds.{AreFeeds, AreSameFeeds, work_in}
use Rattle.pj_plan.specs.Nodes.{streams_in}
use Rattle.pj_report.specs.declared.writer.Form.{Form}
use Rattle.pj_run.specs.PlanNames.{HasShortNames}
use Rattle.pj_run.specs.Whole.{HasTaken, WroteLines}
use Rattle.pj_run.specs.Goes.{HasLists, IsGoing, WhereGoing}
use Rattle.pj_run.proofs.rest.go_on.Given as goal

abbrev pub invariant-turns : goal.invariant-turns
invariant-turns g l = record {
  plan : l.core.plan ≡ l.fn.core.plan;
  on : l.core.kept.stop ≡ None;
  drained : l.core.kept.undrained ≡ [];
  fed : AreFeeds 0 (streams_in l.fn.core.plan.nodes) l.feeds.feeds.items;
  lists : HasLists (length (streams_in l.fn.core.plan.nodes)) l.gathered.accepted;
  same : AreSameFeeds l.fn.feeds.feeds.items l.feeds.feeds.items;
  told : IsTrue (g.K.Sink.state l.out).told → IsTrue (g.K.Sink.state l.fn.out).told;
  later : (g.K.Sink.state l.fn.out).faults ≤ (g.K.Sink.state l.out).faults;
  whole : HasShortNames l.fn.core.plan.nodes → IsTrue (g.K.Sink.state l.out).told → WroteLines (g.K.Sink.state l.fn.out).written (g.K.Sink.state l.out).written;
  taken : (form : Form) → HasTaken form l.fn.gathered.results → HasTaken form l.gathered.results;
  goes : WhereGoing l.fn.core l.fn.feeds.feeds.items l.fn.feeds.at l.fn.gathered (g.K.Sink.state l.fn.out) (λ run. (history : List Entry) × IsGoing run history l.core l.feeds.feeds.items l.feeds.at l.gathered (g.K.Sink.state l.out));
}

abbrev pub decreases-turns : goal.decreases-turns
decreases-turns g l = work_in l.feeds.feeds.items
