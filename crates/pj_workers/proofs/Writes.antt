-- What is written of one drain more.
use Rattle.std.proofs.Common.{ℕ, ◌≤◌, List, [], ◌++◌, ◌≡◌, Ok, Err, IsTrue, refl, sym, ap, ◌∙◌, subst, append_assoc, append-nil}
use Rattle.std.specs.Bool.{⊤}
use Rattle.pj_io.specs.Causes.{Rose}
use Rattle.pj_io.specs.States.{SinkState}
use Rattle.pj_pattern.specs.declared.element.Element.{Element}
use Rattle.pj_plan.specs.declared.node.PlanNode.{PlanNode}
use Rattle.pj_events.specs.declared.events.Out.{Out}
use Rattle.pj_events.specs.Outcomes.{elements_out}
use Rattle.pj_laws.proofs.Steps.{elements-append}
use Rattle.pj_report.specs.declared.stops.WriteStop.{WriteStop}
use Rattle.pj_report.specs.declared.stops.WriteStop.TheVariants.{Failed, NoMemory as LineMemory}
use Rattle.pj_report.specs.declared.writer.Form.{Form}
use Rattle.pj_report.specs.declared.writer.ResultWriter.{ResultWriter}
use Rattle.pj_report.specs.Forms.{TakesMore, shown, taken_so_far}
use Rattle.pj_report.specs.Written.{Cut, Leaves, WritesBy, anywhere, between, flat, write_cut}
use Rattle.pj_report.proofs.Forms.{shown-append, shown-nil}
use Rattle.pj_report.proofs.LinesWritten.{stop_then, written_then}
use Rattle.pj_workers.proofs.Passing.{rose-later}
use Rattle.pj_workers.specs.declared.writing.WriteEnd.TheVariants.{Over}
use Rattle.pj_laws.specs.Seats.{HubPlan}
use Rattle.pj_workers.specs.Rounds.{FollowsWriting, IsRound}
use Rattle.pj_workers.specs.Ends.{Ending, IsHalt}
use Rattle.pj_workers.specs.Writes.{IsWriteEnd, IsWritten, write_end}

takes-more : (old mid new : ResultWriter) (xs ys : List Out) → TakesMore old mid (elements_out xs) → TakesMore mid new (elements_out ys) → TakesMore old new (elements_out (xs ++ ys))
takes-more old mid new xs ys first second form before is =
    second form (before ++ elements_out xs) (first form before is)
    ∙ ap (taken_so_far form) (append_assoc before (elements_out xs) (elements_out ys) ∙ ap (λ (es : List Element). before ++ es) (sym (elements-append xs ys)))

-- nothing was drained
pub none-written : (nodes : List PlanNode) (old : ResultWriter) (sink : SinkState) → IsWritten Over nodes old old sink sink []
none-written nodes old sink = (
  λ form before is. is ∙ ap (taken_so_far form) (sym (append-nil before)),
  λ t. sym (ap (λ (ls : List (List ℕ)). sink.written ++ flat ls) (shown-nil old.form nodes) ∙ append-nil sink.written),
)

module _ (nodes : List PlanNode) (old mid new : ResultWriter) (before sink after : SinkState) (xs ys : List Out) (form : mid.form ≡ old.form) (told : IsTrue after.told → IsTrue sink.told) (so_far : IsWritten Over nodes old mid before sink xs) where
  -- the lines of one drain more
  pub written-more : TakesMore mid new (elements_out ys) → (IsTrue after.told → WritesBy {T = ⊤} write_cut (shown mid.form nodes ys) sink after (Ok tt)) → IsWritten Over nodes old new before after (xs ++ ys)
  written-more takes writes = (
    takes-more old mid new xs ys so_far.0 takes,
    λ t.
        let last : after.written ≡ sink.written ++ flat (shown old.form nodes ys) = writes t ∙ ap (λ (f : Form). sink.written ++ flat (shown f nodes ys)) form in
        written_then (shown old.form nodes xs) (shown old.form nodes ys) before.written sink.written after.written (so_far.1 (told t)) last
        ∙ ap (λ (ls : List (List ℕ)). before.written ++ flat ls) (sym (shown-append old.form nodes xs ys)),
  )

  cut-behind : (cut : Cut) → IsTrue after.told → Leaves cut (shown mid.form nodes ys) sink.written after.written → Leaves cut (shown old.form nodes (xs ++ ys)) before.written after.written
  cut-behind cut t leaves =
      subst (λ (ls : List (List ℕ)). Leaves cut ls before.written after.written) (sym (shown-append old.form nodes xs ys))
      (stop_then cut (shown old.form nodes xs) (shown old.form nodes ys) before.written sink.written after.written (so_far.1 (told t)) (subst (λ (f : Form). Leaves cut (shown f nodes ys) sink.written after.written) form leaves))

  -- the lines of one drain more, where one of them was not written
  pub written-cut : (stop : WriteStop) → before.faults ≤ sink.faults → (stop ≡ Failed → Rose sink.faults after.faults) → (IsTrue after.told → WritesBy {T = ⊤} write_cut (shown mid.form nodes ys) sink after (Err stop))
      → IsWritten (write_end stop) nodes old new before after (xs ++ ys)
  written-cut Failed later rose writes = (rose-later before.faults sink.faults after.faults later (rose refl), λ t. cut-behind anywhere t (writes t))
  written-cut LineMemory later rose writes = λ t. cut-behind between t (writes t)

-- a halt behind the beginning of a round is the end, whatever was not written
pub halted-write : (hub : HubPlan) (seat : ℕ) (stop : WriteStop) (ending : Ending) → IsHalt seat (IsRound FollowsWriting seat) ending → IsWriteEnd hub seat (write_end stop) ending
halted-write hub seat Failed ending is = is
halted-write hub seat LineMemory ending is = is
