-- What a call gives, and that an intake stands behind lines that were judged.
use Rattle.std.proofs.Common.{◌≡◌, List, [], ◌++◌, ℕ, Option, Some, None, Result, IsTrue, ap, sym, ◌∙◌, append_assoc}
use Rattle.pj_shape.specs.declared.columns.Column.{Column}
use Rattle.pj_io.specs.States.{SourceState}
use Rattle.pj_line.specs.Buffers.{Buffered}
use Rattle.pj_intake.specs.Taking.{IntakeState, IsOpen, Stands}
use Rattle.pj_intake.specs.Steps.{step_answered, stop_answered, StandsAt, GoesOn}
use Rattle.pj_intake.specs.Judged.{running, Judges, JudgesOn}
use Rattle.pj_intake.specs.declared.seen.Seen.{Seen}
use Rattle.pj_intake.specs.declared.intake.Step.{Step}
use Rattle.pj_intake.specs.declared.intake.IntakeStop.{IntakeStop}
use Rattle.pj_intake.specs.declared.intake.IntakeStop.TheVariants.{ReadFault, ByteLimit, NoMemory}

abbrev state-of : List Column → Buffered → Seen → Option IntakeStop → IntakeState
state-of columns buffer seen stopped = record { columns = columns; buffer = buffer; seen = seen; stopped = stopped }

-- an intake is open whatever stop is noted
module _ (columns : List Column) (buffer : Buffered) (seen : Seen) (judged : List ℕ) where
  open_as : (one other : Option IntakeStop) → IsOpen (state-of columns buffer seen one) judged → IsOpen (state-of columns buffer seen other) judged
  open_as one other f = record { has_judged = f.has_judged; arity = f.arity; size = f.size; running = f.running; whole = f.whole; count = f.count; within = f.within; most = f.most }

  stands_as : (stop one other : Option IntakeStop) (rest : List ℕ) (f0 f1 : ℕ) → StandsAt stop (state-of columns buffer seen one) judged rest f0 f1 → StandsAt stop (state-of columns buffer seen other) judged rest f0 f1
  stands_as None one other rest f0 f1 stands = (open_as one other stands.0, stands.1)
  stands_as (Some ReadFault) one other rest f0 f1 stands = stands
  stands_as (Some ByteLimit) one other rest f0 f1 stands = stands
  stands_as (Some NoMemory) one other rest f0 f1 stands = stands

taken-all : (judged held bytes more rest before now : List ℕ) → before ≡ judged ++ held → held ++ bytes ≡ more ++ rest → now ≡ before ++ bytes → now ≡ judged ++ more ++ rest
taken-all judged held bytes more rest before now was found took =
    took ∙ (ap (λ (xs : List ℕ). xs ++ bytes) was ∙ (append_assoc judged held bytes ∙ (ap (λ (xs : List ℕ). judged ++ xs) found ∙ sym (append_assoc judged more rest))))

module _ (columns : List Column) (old new : Buffered) (seen_before seen_now : Seen) (one other : Option IntakeStop) (before now : SourceState) (result : Result Step IntakeStop)
    (on : JudgesOn (running columns old seen_before) (running columns new seen_now) before now (step_answered result) (stop_answered result)) where
  pub call_gives : GoesOn (state-of columns old seen_before one) (state-of columns new seen_now other) before now result
  call_gives judged goes_on was =
      let j : Judges (running columns new seen_now) judged (old.held ++ on.bytes) (step_answered result) (stop_answered result) before.faults now.faults =
      on.judges judged (open_as columns old seen_before judged one None goes_on) in
      record {
        more = j.more;
        rest = j.rest;
        has_judged = j.has_judged;
        adds = j.adds;
        stands = stands_as columns new seen_now (judged ++ j.more) (stop_answered result) None other j.rest before.faults now.faults j.stands;
        taken = λ tells.
            let told : IsTrue before.told = rw (sym on.same_told) tells in
            taken-all judged old.held on.bytes j.more j.rest before.taken now.taken (was told) j.found_so (on.consumes told).taken;
        at_end = λ e. let ends = j.at_end (ap step_answered e) in (ends.0, ends.1, λ tells. on.at_end ends.0 tells);
      }

  -- lines of some bytes were judged, and where no stop was answered, it goes on
  pub still_stands : one ≡ None → other ≡ stop_answered result → Stands (state-of columns old seen_before one) → Stands (state-of columns new seen_now other)
  still_stands none_noted noted s =
      let j : Judges (running columns new seen_now) s.judged (old.held ++ on.bytes) (step_answered result) (stop_answered result) before.faults now.faults =
      on.judges s.judged (open_as columns old seen_before s.judged one None (s.goes_on none_noted)) in
      record {
        judged = s.judged ++ j.more;
        has_judged = j.has_judged;
        goes_on = λ none. open_as columns new seen_now (s.judged ++ j.more) None other (go (stop_answered result) (s.judged ++ j.more) j.rest j.stands (sym noted ∙ none));
      }
    where
      go : (stop : Option IntakeStop) (judged rest : List ℕ) → StandsAt stop (running columns new seen_now) judged rest before.faults now.faults → stop ≡ None → IsOpen (running columns new seen_now) judged
      go None judged rest stands is = stands.0
      go (Some stop) judged rest stands is = absurd cc

-- at the start no line was judged
pub starts : (state : IntakeState) → IsOpen state [] → Stands state
starts state f = record { judged = []; has_judged = f.has_judged; goes_on = λ _. f }
