-- What a stop among the steps of a script leaves.
use Rattle.std.proofs.Common.{◌≡◌, ◌≤◌, ℕ, true, false, List, [], ◌∷◌, ◌++◌, Result, Ok, Err, IsTrue, refl, ap, sym, ◌∙◌, subst, arith, append-nil, inl, inr}
use Rattle.std.specs.Prelude.{◌⊎◌}
use Rattle.pj_io.specs.Causes.{Rose}
use Rattle.pj_io.specs.States.{SinkState}
use Rattle.pj_events.specs.declared.events.Entry.{Entry}
use Rattle.pj_events.specs.declared.events.Stop.TheVariants.{NoMemory as CoreMemory}
use Rattle.pj_events.specs.History.{nodes_from}
use Rattle.pj_events.specs.Outcomes.{outputs_of as handed_out}
use Rattle.pj_laws.proofs.Histories.{outputs-append}
use Rattle.pj_core.specs.Plans.{RunPlan}
use Rattle.pj_feed.specs.Feeds.{AllTold, files_of}
use Rattle.pj_report.specs.declared.stops.WriteStop.{WriteStop}
use Rattle.pj_report.specs.declared.stops.WriteStop.TheVariants.{Failed, NoMemory as WriteMemory}
use Rattle.pj_report.specs.declared.writer.Form.{Form}
use Rattle.pj_report.specs.Forms.{shown}
use Rattle.pj_report.specs.Written.{Cut, FrontOf, Leaves, WritesBy, anywhere, between, flat, write_cut}
use Rattle.pj_report.proofs.Forms.{shown-append, shown-nil}
use Rattle.pj_report.proofs.LinesWritten.{first_written, stop_among, stop_then, written_then}
use Rattle.pj_run.specs.declared.stops.RunStop.TheVariants.{ReadFault, TooLarge, Limit, Refused, WriteFailed, NoMemory, Cut as RunCut, CutRead, CutLarge, CutRefused}
use Rattle.pj_run.specs.Ends.{EndsBefore, EndsCutBefore, lines_until}
use Rattle.pj_run.specs.Runs.{run_nodes, StaysInLimit}
use Rattle.pj_run.specs.declared.stops.RunStop.{RunStop}
use Rattle.pj_run.specs.PlanNames.{HasShortNames}
use Rattle.pj_run.specs.Whole.{WroteLines}
use Rattle.pj_run.proofs.WholeLaws.{leaves_lines, lines_wrote, shown_are_lines, wrote_then}
use Rattle.pj_run.specs.Goes.{RunStart, whole_of}
use Rattle.pj_replay.specs.Playing.{Stage}
use Rattle.pj_replay.specs.Plays.{ArrivesNext, HasLeft, HasStopped, IsWholeSoFar, StopsReplay, StopsStanding, is_over, left_of}
use Rattle.pj_run.proofs.Going.{shown_until}
use Rattle.pj_events.specs.Limits.{StaysWithin}

-- nothing more is written
pub over-stops : (stop : RunStop) (run : RunStart) (s : Stage) → is_over stop ≡ true → HasStopped stop run s → StopsReplay stop run s.feeds s.sink
over-stops (Refused line) run s over k = absurd (cc)
over-stops (ReadFault stream) run s over k = absurd (cc)
over-stops (TooLarge stream) run s over k = absurd (cc)
over-stops (Limit node) run s over k = absurd (cc)
over-stops WriteFailed run s over k = record { same = k.same; lines = k.stops; whole = k.whole; ends = λ told t. tt; causes = k.cause }
over-stops NoMemory run s over k = absurd (cc)
over-stops (RunCut stop) run s over k = absurd k.stops
over-stops (CutRead stream) run s over k = absurd k.stops
over-stops (CutLarge stream) run s over k = absurd k.stops
over-stops (CutRefused line) run s over k = absurd k.stops

-- where no line is left, nothing more is written
front-none : {A : Type 0} (xs ys : List A) → xs ++ ys ≡ [] → xs ≡ []
front-none [] ys none = refl
front-none (x ∷ xs) ys none = absurd (let more : x ∷ (xs ++ ys) ≡ [] = none in cc)

none-more : (old new : SinkState) (written : Result (Unit {0}) WriteStop) → WritesBy write_cut [] old new written → new.written ≡ old.written
none-more old new (Ok u) wrote = wrote ∙ append-nil old.written
none-more old new (Err Failed) wrote = wrote.written ∙ ap (λ (bytes : List ℕ). old.written ++ bytes) (front-none wrote.front wrote.others wrote.all) ∙ append-nil old.written
none-more old new (Err WriteMemory) wrote = wrote.written ∙ ap (λ (ls : List (List ℕ)). old.written ++ flat ls) (front-none wrote.first wrote.others wrote.all) ∙ append-nil old.written

-- what was handed out until the stop is written
module _ (run : RunStart) (s : Stage) (sink' : SinkState) (written : Result (Unit {0}) WriteStop) (tells : IsTrue sink'.told → IsTrue s.sink.told) (later : s.sink.faults ≤ sink'.faults) (fault : written ≡ Err Failed → Rose s.sink.faults sink'.faults)
    (wrote : IsTrue sink'.told → WritesBy write_cut (shown s.gathered.results.form s.hand.core.plan.nodes s.hand.core.kept.undrained) s.sink sink' written) where
  module _ (stop : RunStop) (k : HasStopped stop run s) where
    -- the lines, in the words of the run
    wrote-run : IsTrue sink'.told → WritesBy write_cut (shown run.job.form run.job.nodes s.hand.core.kept.undrained) s.sink sink' written
    wrote-run t =
        subst (λ (f : Form). WritesBy write_cut (shown f run.job.nodes s.hand.core.kept.undrained) s.sink sink' written) k.form
        (subst (λ (q : RunPlan). WritesBy write_cut (shown s.gathered.results.form q.nodes s.hand.core.kept.undrained) s.sink sink' written) k.plan (wrote t))

  module _ (stop : RunStop) (k : HasStopped stop run s) (st : StopsStanding stop run s) where
    abbrev rest-lines : List (List ℕ)
    rest-lines = shown run.job.form run.job.nodes (handed_out run.job.trace (nodes_from (run_nodes run.job) st.front) st.back)

    until-front : shown run.job.form run.job.nodes st.given ++ shown run.job.form run.job.nodes s.hand.core.kept.undrained ≡ shown_until run.job st.front
    until-front = sym (shown-append run.job.form run.job.nodes st.given s.hand.core.kept.undrained) ∙ ap (shown run.job.form run.job.nodes) st.all

    whole-lines : AllTold run.feeds → shown_until run.job st.front ++ rest-lines ≡ shown_until run.job (whole_of run)
    whole-lines told =
        sym (shown-append run.job.form run.job.nodes (handed_out run.job.trace (run_nodes run.job) st.front) (handed_out run.job.trace (nodes_from (run_nodes run.job) st.front) st.back))
        ∙ ap (shown run.job.form run.job.nodes) (sym (outputs-append run.job.trace (run_nodes run.job) st.front st.back)) ∙ ap (λ (h : List Entry). shown_until run.job h) (st.parts told)

    -- all of it was
    all-written : written ≡ Ok tt → IsTrue sink'.told → sink'.written ≡ run.sink.written ++ lines_until run.job st.front
    all-written is t =
        written_then (shown run.job.form run.job.nodes st.given) (shown run.job.form run.job.nodes s.hand.core.kept.undrained) run.sink.written s.sink.written sink'.written (st.written (tells t))
        (subst (WritesBy write_cut (shown run.job.form run.job.nodes s.hand.core.kept.undrained) s.sink sink') is (wrote-run stop k t))
        ∙ ap (λ (ls : List (List ℕ)). run.sink.written ++ flat ls) until-front

    all-left : written ≡ Ok tt → (cut : Cut) → HasLeft cut run sink'
    all-left is cut told t = first_written cut (shown_until run.job st.front) rest-lines (shown_until run.job (whole_of run)) run.sink.written sink'.written (all-written is t) (whole-lines told)

    -- or a part of it
    part-written : (why : WriteStop) → written ≡ Err why → IsTrue sink'.told → Leaves (write_cut why) (shown run.job.form run.job.nodes s.hand.core.kept.undrained) s.sink.written sink'.written
    part-written why is t = subst (WritesBy write_cut (shown run.job.form run.job.nodes s.hand.core.kept.undrained) s.sink sink') is (wrote-run stop k t)

    part-left : (why : WriteStop) → written ≡ Err why → HasLeft (write_cut why) run sink'
    part-left why is told t =
        stop_among (write_cut why) (shown run.job.form run.job.nodes st.given) (shown run.job.form run.job.nodes s.hand.core.kept.undrained) rest-lines (shown_until run.job (whole_of run)) run.sink.written s.sink.written sink'.written
        (st.written (tells t)) (part-written why is t) (ap (λ (ls : List (List ℕ)). ls ++ rest-lines) until-front ∙ whole-lines told)

    -- whole lines, whatever the files tell
    all-whole : written ≡ Ok tt → HasShortNames run.job.nodes → IsTrue sink'.told → WroteLines run.sink.written sink'.written
    all-whole is names t =
        lines_wrote (shown_until run.job st.front) run.sink.written sink'.written (shown_are_lines run.job.form run.job.nodes (handed_out run.job.trace (run_nodes run.job) st.front) names) (all-written is t)

    part-whole : written ≡ Err WriteMemory → IsWholeSoFar NoMemory run sink'
    part-whole is names t =
        wrote_then run.sink.written s.sink.written sink'.written
        (lines_wrote (shown run.job.form run.job.nodes st.given) run.sink.written s.sink.written (shown_are_lines run.job.form run.job.nodes st.given names) (st.written (tells t)))
        (leaves_lines between (shown run.job.form run.job.nodes s.hand.core.kept.undrained) s.sink.written sink'.written (shown_are_lines run.job.form run.job.nodes s.hand.core.kept.undrained names) (part-written WriteMemory is t))

    front-left : written ≡ Err Failed → IsTrue sink'.told → FrontOf (lines_until run.job st.front) run.sink.written sink'.written
    front-left is t =
        subst (λ (ls : List (List ℕ)). FrontOf (flat ls) run.sink.written sink'.written) until-front
        (stop_then anywhere (shown run.job.form run.job.nodes st.given) (shown run.job.form run.job.nodes s.hand.core.kept.undrained) run.sink.written s.sink.written sink'.written (st.written (tells t)) (part-written Failed is t))

    rose : written ≡ Err Failed → Rose run.sink.faults sink'.faults
    rose is = let r = fault is in let l = k.later in omega (arith, r, l)

    memory-left : written ≡ Err WriteMemory → StopsReplay NoMemory run s.feeds sink'
    memory-left is = record { same = k.same; lines = part-left WriteMemory is; whole = part-whole is; ends = λ told t. tt; causes = tt }

    -- where the front is the whole, it goes beyond no limit
    whole-within : whole_of run ≡ st.front → StaysInLimit run.job (files_of run.feeds)
    whole-within is = subst (λ (h : List Entry). StaysWithin run.job.limit (run_nodes run.job) [] h) (sym is) st.within

    -- the turn of a stream that could not be made
    before-turn : (stream : ℕ) → written ≡ Ok tt → IsTrue sink'.told → ArrivesNext run st.front stream → EndsBefore run.job (files_of run.feeds) stream run.sink.written sink'.written
    before-turn stream is t next = record { front = st.front; next = next.next; back = next.back; run = next.is; element = next.element; turn = next.turn; within = st.within; written = all-written is t }

    -- a front of the lines until then was written
    cut-before : (stream : ℕ) → written ≡ Err Failed → IsTrue sink'.told → ArrivesNext run st.front stream → EndsCutBefore run.job (files_of run.feeds) stream run.sink.written sink'.written
    cut-before stream is t next = record { front = st.front; next = next.next; back = next.back; run = next.is; element = next.element; turn = next.turn; within = st.within; written = front-left is t }

  -- a drain found no memory, and no line is left
  module _ (k : HasStopped NoMemory run s) (drained : s.hand.core.kept.undrained ≡ []) (first : HasLeft between run s.sink) where
    lines-none : shown run.job.form run.job.nodes s.hand.core.kept.undrained ≡ []
    lines-none = ap (shown run.job.form run.job.nodes) drained ∙ shown-nil run.job.form run.job.nodes

    same-bytes : IsTrue sink'.told → sink'.written ≡ s.sink.written
    same-bytes t = none-more s.sink sink' written (subst (λ (ls : List (List ℕ)). WritesBy write_cut ls s.sink sink' written) lines-none (wrote-run NoMemory k t))

    short-left : HasLeft between run sink'
    short-left told t = subst (λ (bytes : List ℕ). Leaves between (shown_until run.job (whole_of run)) run.sink.written bytes) (sym (same-bytes t)) (first told (tells t))

    short-cut : HasLeft anywhere run sink'
    short-cut told t = let l = short-left told t in first_written anywhere l.first l.others (shown_until run.job (whole_of run)) run.sink.written sink'.written l.written l.all

    short-whole : IsWholeSoFar NoMemory run sink'
    short-whole names t = subst (WroteLines run.sink.written) (sym (same-bytes t)) (k.whole names (tells t))

    short-stops : StopsReplay NoMemory run s.feeds sink'
    short-stops = record { same = k.same; lines = short-left; whole = short-whole; ends = λ told t. tt; causes = tt }

    short-fails : written ≡ Err Failed → StopsReplay (RunCut CoreMemory) run s.feeds sink'
    short-fails is = record { same = k.same; lines = short-cut; whole = λ names t. tt; ends = λ told t. tt; causes = (let r = fault is in let l = k.later in omega (arith, r, l), λ told. tt) }

  -- memory was wanting in a step
  memory-stops : (k : HasStopped NoMemory run s) → StopsStanding NoMemory run s ⊎ ((s.hand.core.kept.undrained ≡ []) × HasLeft between run s.sink) → (w : Result (Unit {0}) WriteStop) → written ≡ w → StopsReplay (left_of NoMemory w) run s.feeds sink'
  memory-stops k (inl st) (Ok u) is = record { same = k.same; lines = all-left NoMemory k st is between; whole = all-whole NoMemory k st is; ends = λ told t. tt; causes = tt }
  memory-stops k (inl st) (Err Failed) is = record { same = k.same; lines = part-left NoMemory k st Failed is; whole = λ names t. tt; ends = λ told t. tt; causes = (rose NoMemory k st is, λ told. tt) }
  memory-stops k (inl st) (Err WriteMemory) is = memory-left NoMemory k st is
  memory-stops k (inr d) (Ok u) is = short-stops k d.0 d.1
  memory-stops k (inr d) (Err Failed) is = short-fails k d.0 d.1 is
  memory-stops k (inr d) (Err WriteMemory) is = short-stops k d.0 d.1

  pub drained-stops : (stop : RunStop) → is_over stop ≡ false → HasStopped stop run s → (w : Result (Unit {0}) WriteStop) → written ≡ w → StopsReplay (left_of stop w) run s.feeds sink'
  unfolding before-turn cut-before
  drained-stops (Refused line) over k (Ok u) is = record {
    same = k.same;
    lines = all-left (Refused line) k k.stops is between;
    whole = all-whole (Refused line) k k.stops is;
    ends = λ told t. (
      whole-within (Refused line) k k.stops (k.stops.behind told).0,
      all-written (Refused line) k k.stops is t ∙ ap (λ (h : List Entry). run.sink.written ++ lines_until run.job h) (sym (k.stops.behind told).0),
    );
    causes = k.cause;
  }
  drained-stops (Refused line) over k (Err Failed) is = record {
    same = k.same;
    lines = part-left (Refused line) k k.stops Failed is;
    whole = λ names t. tt;
    ends = λ told t. (
      whole-within (Refused line) k k.stops (k.stops.behind told).0,
      subst (λ (h : List Entry). FrontOf (lines_until run.job h) run.sink.written sink'.written) (sym (k.stops.behind told).0) (front-left (Refused line) k k.stops is t),
    );
    causes = (rose (Refused line) k k.stops is, k.cause.0, k.cause.1);
  }
  drained-stops (Refused line) over k (Err WriteMemory) is = memory-left (Refused line) k k.stops is
  drained-stops (ReadFault stream) over k (Ok u) is = record {
    same = k.same;
    lines = all-left (ReadFault stream) k k.stops is between;
    whole = all-whole (ReadFault stream) k k.stops is;
    ends = λ told t. let b = k.stops.behind told in (b.1, b.2, before-turn (ReadFault stream) k k.stops stream is t b.0, b.3);
    causes = k.cause;
  }
  drained-stops (ReadFault stream) over k (Err Failed) is = record {
    same = k.same;
    lines = part-left (ReadFault stream) k k.stops Failed is;
    whole = λ names t. tt;
    ends = λ told t. let b = k.stops.behind told in (b.1, b.2, cut-before (ReadFault stream) k k.stops stream is t b.0, b.3);
    causes = (rose (ReadFault stream) k k.stops is, k.cause.0, k.cause.1, k.cause.2, k.stops.script);
  }
  drained-stops (ReadFault stream) over k (Err WriteMemory) is = memory-left (ReadFault stream) k k.stops is
  drained-stops (TooLarge stream) over k (Ok u) is = record {
    same = k.same;
    lines = all-left (TooLarge stream) k k.stops is between;
    whole = all-whole (TooLarge stream) k k.stops is;
    ends = λ told t. let b = k.stops.behind told in (before-turn (TooLarge stream) k k.stops stream is t b.0, b.1);
    causes = k.cause;
  }
  drained-stops (TooLarge stream) over k (Err Failed) is = record {
    same = k.same;
    lines = part-left (TooLarge stream) k k.stops Failed is;
    whole = λ names t. tt;
    ends = λ told t. let b = k.stops.behind told in (cut-before (TooLarge stream) k k.stops stream is t b.0, b.1);
    causes = (rose (TooLarge stream) k k.stops is, k.cause.0, k.cause.1, k.cause.2, k.stops.script);
  }
  drained-stops (TooLarge stream) over k (Err WriteMemory) is = memory-left (TooLarge stream) k k.stops is
  drained-stops (Limit node) over k (Ok u) is = record {
    same = k.same;
    lines = all-left (Limit node) k k.stops is between;
    whole = all-whole (Limit node) k k.stops is;
    ends = λ told t. let b = k.stops.behind told in record { reaches = b.0; written = all-written (Limit node) k k.stops is t ∙ ap (λ (h : List Entry). run.sink.written ++ lines_until run.job h) (sym b.1) };
    causes = k.cause;
  }
  drained-stops (Limit node) over k (Err Failed) is = record {
    same = k.same;
    lines = part-left (Limit node) k k.stops Failed is;
    whole = λ names t. tt;
    ends = λ told t. let b = k.stops.behind told in record { reaches = b.0; written = subst (λ (h : List Entry). FrontOf (lines_until run.job h) run.sink.written sink'.written) (sym b.1) (front-left (Limit node) k k.stops is t) };
    causes = (rose (Limit node) k k.stops is, k.cause);
  }
  drained-stops (Limit node) over k (Err WriteMemory) is = memory-left (Limit node) k k.stops is
  drained-stops WriteFailed over k w is = absurd (cc)
  drained-stops NoMemory over k w is = memory-stops k k.stops w is
  drained-stops (RunCut stop) over k w is = absurd (cc)
  drained-stops (CutRead stream) over k w is = absurd (cc)
  drained-stops (CutLarge stream) over k w is = absurd (cc)
  drained-stops (CutRefused line) over k w is = absurd (cc)
