-- What a refusal leaves of a turn.
use Rattle.std.proofs.Common.{◌≡◌, List, [], ◌∷◌, ◌++◌, Option, None, Result, Ok, Err, OnOk, ap, sym, ◌∙◌, append_assoc, append-nil, subst}
use Rattle.std.specs.Prelude.{OnErr}
use Rattle.pj_pattern.specs.declared.element.Element.{Element}
use Rattle.pj_events.specs.declared.events.Entry.{Entry}
use Rattle.pj_events.specs.declared.events.Event.TheVariants.{Drain as Drained, Stopped}
use Rattle.pj_events.specs.declared.events.Out.{Out}
use Rattle.pj_events.specs.declared.events.Stop.{Stop}
use Rattle.pj_events.specs.OneThread.{Turn, plain}
use Rattle.pj_events.specs.Outcomes.{elements_out, outputs_of}
use Rattle.pj_core.specs.Calls.{IsTurnRefused, MakesTurn, StopsInTurn, turn_behind}
use Rattle.pj_core.specs.Cores.{CoreState, Notes, StandsFor, nodes_after}
use Rattle.pj_report.specs.declared.stops.WriteStop.{WriteStop}
use Rattle.pj_report.specs.declared.writer.ResultWriter.{ResultWriter}
use Rattle.pj_report.specs.Firsts.{OfFirst}
use Rattle.pj_report.specs.Forms.{TakesMore}
use Rattle.pj_run.specs.Refused.{HandsOver, TurnLeaves, with_stop}

pub on_err : {T E : Type 0} (result : Result T E) (P : Type 0) → P → OnErr result P
on_err (Ok x) P p = tt
on_err (Err e) P p = p

-- a core that has not stopped stands for the history alone
pub stands_on : (core : CoreState) (history : List Entry) → core.kept.stop ≡ None → StandsFor core history → StandsFor core (with_stop history core.kept.stop)
stands_on core history on stands = subst (λ (s : Option Stop). StandsFor core (with_stop history s)) (sym on) stands

-- a turn that was made
pub made_over : (old new : CoreState) (turn : Turn) (outs : List Out) → old.kept.undrained ≡ [] → MakesTurn old new turn outs → HandsOver old new turn outs
made_over old new turn outs drained makes = λ history stands may.
    let behind : List Entry = turn_behind old history turn in
    record {
      front = behind;
      others = [];
      all = append-nil behind;
      so = (
        stands_on new (history ++ behind) makes.on.1 (makes.stands history stands may),
        makes.hands history stands may ∙ ap (λ (xs : List Out). xs ++ outputs_of old.plan.trace (nodes_after old history) behind) drained,
      );
    }

-- a turn in which the core stopped, and was drained then
stops_over : (old mid new : CoreState) (turn : Turn) (stop : Stop) (outs : List Out) → old.kept.undrained ≡ [] → StopsInTurn old mid turn stop → outs ≡ mid.kept.undrained → new.kept.stop ≡ mid.kept.stop → Notes mid new (plain Drained) → HandsOver old new turn outs
stops_over old mid new turn stop outs drained s handed same notes = λ history stands may.
    let f = s.takes history stands may in
    let made : List Entry = history ++ f.front in
    record {
      front = f.front;
      others = f.back;
      all = sym f.parts;
      so = (
        subst (λ (x : Option Stop). StandsFor new (with_stop made x)) (sym (same ∙ s.stopped)) (subst (StandsFor new) (append_assoc made (plain (Stopped stop) ∷ []) (plain Drained ∷ [])) (notes.stands (made ++ plain (Stopped stop) ∷ []) f.stands)),
        handed ∙ (f.undrained ∙ ap (λ (xs : List Out). xs ++ outputs_of old.plan.trace (nodes_after old history) f.front) drained),
      );
    }

pub stopped_over : (old mid new : CoreState) (turn : Turn) (stop : Stop) (outs : List Out) → old.kept.stop ≡ None → old.kept.undrained ≡ [] → IsTurnRefused old.kept.stop old mid turn stop → outs ≡ mid.kept.undrained
    → new.kept.stop ≡ mid.kept.stop → Notes mid new (plain Drained) → HandsOver old new turn outs
stopped_over old mid new turn stop outs on drained refused handed same notes =
    stops_over old mid new turn stop outs drained (subst (λ (s : Option Stop). IsTurnRefused s old mid turn stop) on refused) handed same notes

-- the writer takes all that is handed out, or the first of it
firsts : {E : Type 0} (written : Result (Unit {0}) E) (outs slice : List Out) (So : List Element → Type 0) → slice ≡ outs → OnOk written (So (elements_out slice)) → OnErr written (OfFirst slice So) → OfFirst outs So
firsts (Ok u) outs slice So is taken refused = record { first = slice; others = []; all = append-nil slice ∙ is; so = taken }
firsts (Err e) outs slice So is taken refused = record { first = refused.first; others = refused.others; all = refused.all ∙ is; so = refused.so }

pub turn_left : {T E : Type 0} (result : Result T E) (old new : CoreState) (turn : Turn) (outs slice : List Out) (written : Result (Unit {0}) WriteStop) (before after : ResultWriter) → HandsOver old new turn outs → slice ≡ outs
    → OnOk written (TakesMore before after (elements_out slice)) → OnErr written (OfFirst slice (TakesMore before after)) → OnErr result (TurnLeaves old new turn before after)
turn_left result old new turn outs slice written before after over is taken refused =
    on_err result (TurnLeaves old new turn before after) (λ history stands may.
    let f = over history stands may in
    record {
      front = f.front;
      others = f.others;
      all = f.all;
      so = (f.so.0, subst (λ (os : List Out). OfFirst os (TakesMore before after)) f.so.1 (firsts written outs slice (TakesMore before after) is taken refused));
    })
