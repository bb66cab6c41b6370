-- How settling a core ends.
use Rattle.std.proofs.Common.{ℕ, ◌≡◌, List, [], ◌++◌, Option, Some, None, Result, Ok, Err, IsTrue, IfErr, ◌∙◌, subst, inl, inr, append-nil}
use Rattle.pj_io.specs.States.{SinkState}
use Rattle.pj_events.specs.declared.events.Entry.{Entry}
use Rattle.pj_events.specs.declared.events.Out.{Out}
use Rattle.pj_events.specs.declared.events.Stop.{Stop}
use Rattle.pj_events.specs.declared.events.Stop.TheVariants.{Limit, NoMemory}
use Rattle.pj_core.specs.Cores.{CoreState, StandsFor}
use Rattle.pj_core.specs.Settling.{IsSettlingRefused}
use Rattle.pj_report.specs.declared.stops.WriteStop.{WriteStop}
use Rattle.pj_report.specs.declared.stops.WriteStop.TheVariants.{Failed, NoMemory as WriteMemory}
use Rattle.pj_report.specs.declared.writer.Form.{Form}
use Rattle.pj_report.specs.Forms.{shown}
use Rattle.pj_report.specs.Written.{FrontOf, WholeLines, WritesBy, flat, write_cut}
use Rattle.pj_run.specs.Stops.{end_of}
use Rattle.pj_parallel.specs.Settling.{Settled, SettleStops, StopsSettling}
use Rattle.pj_parallel.proofs.Work.{outs-until}

-- a core that was on stopped
pub stops-so : (before : Option Stop) (old mid : CoreState) (outs : List Out) (stop : Stop) → before ≡ None → IsSettlingRefused before old mid stop → outs ≡ mid.kept.undrained → (h : List Entry) → StandsFor old h → StopsSettling old h outs stop
stops-so None old mid outs stop on s is h stood =
    let some = s.stops h stood in
    record { stopped = mid; some = some; plan = s.plan; outs_are = is ∙ outs-until old mid h some.front some.back stop s.plan stood some.parts some.stands }
stops-so (Some before) old mid outs stop on s is h stood = absurd (cc)

all-lines : (lines : List (List ℕ)) (before after : List ℕ) → after ≡ before ++ flat lines → WholeLines lines before after
all-lines lines before after is = record { first = lines; others = []; all = append-nil lines; written = is }

-- the lines of what was handed out, as far as its writing came
pub leaves-some : (form : Form) (old new : CoreState) (outs slice : List Out) (given : Option Stop) (written : Result (Unit {0}) WriteStop) (sink sink' : SinkState) → Settled old new outs given → slice ≡ outs
    → (IsTrue sink'.told → WritesBy write_cut (shown form old.plan.nodes slice) sink sink' written) → IfErr (end_of written given) (SettleStops form old new sink sink')
leaves-some form old new outs slice None (Ok u) sink sink' did is lines = tt
leaves-some form old new outs slice None (Err Failed) sink sink' did is lines = λ h stood. record { outs = outs; came = did; written = λ t. subst (λ os. FrontOf (flat (shown form old.plan.nodes os)) sink.written sink'.written) is (lines t) }
leaves-some form old new outs slice None (Err WriteMemory) sink sink' did is lines = λ h stood. record { outs = outs; came = inl did; written = λ t. subst (λ os. WholeLines (shown form old.plan.nodes os) sink.written sink'.written) is (lines t) }
leaves-some form old new outs slice (Some (Limit node)) (Ok u) sink sink' did is lines = λ h stood. record { outs = outs; came = did h stood; written = λ t. subst (λ os. sink'.written ≡ sink.written ++ flat (shown form old.plan.nodes os)) is (lines t) }
leaves-some form old new outs slice (Some NoMemory) (Ok u) sink sink' did is lines = λ h stood. record {
  outs = outs;
  came = inr (NoMemory, did h stood);
  written = λ t. all-lines (shown form old.plan.nodes outs) sink.written sink'.written (subst (λ os. sink'.written ≡ sink.written ++ flat (shown form old.plan.nodes os)) is (lines t));
}
leaves-some form old new outs slice (Some stop) (Err Failed) sink sink' did is lines = λ h stood. record { outs = outs; came = did h stood; written = λ t. subst (λ os. FrontOf (flat (shown form old.plan.nodes os)) sink.written sink'.written) is (lines t) }
leaves-some form old new outs slice (Some stop) (Err WriteMemory) sink sink' did is lines = λ h stood. record { outs = outs; came = inr (stop, did h stood); written = λ t. subst (λ os. WholeLines (shown form old.plan.nodes os) sink.written sink'.written) is (lines t) }
