use Rattle.pj_run.specs.PlanNames.{HasShortNames}
use Rattle.pj_run.specs.Whole.{WroteLines}
use Rattle.std.proofs.Common.{◌≡◌, ◌≤◌, ◌++◌, IsTrue, List, map, take}
use Rattle.pj_plan.specs.Nodes.{joins_of}
use Rattle.pj_events.specs.declared.events.Entry.{Entry}
use Rattle.pj_core.specs.Cores.{StandsFor}
use Rattle.pj_run.specs.Runs.{peak_report}
use Rattle.pj_report.specs.Written.{flat}
use Rattle.pj_run.proofs.report.write_peaks.Given as goal

abbrev pub invariant-loop-join : goal.invariant-loop-join
invariant-loop-join g l = record {
  later : (g.K.Sink.state l.fn.out).faults ≤ (g.K.Sink.state l.out).faults;
  told : IsTrue (g.K.Sink.state l.out).told → IsTrue (g.K.Sink.state l.fn.out).told;
  lines : IsTrue (g.K.Sink.state l.out).told → (history : List Entry) → StandsFor l.core history
      → (g.K.Sink.state l.out).written ≡ (g.K.Sink.state l.fn.out).written ++ flat (map (peak_report l.core.plan history) (take l.join-index (joins_of l.core.plan.nodes)));
  whole : HasShortNames l.core.plan.nodes → IsTrue (g.K.Sink.state l.out).told → WroteLines (g.K.Sink.state l.fn.out).written (g.K.Sink.state l.out).written;
}
