-- What a refusal leaves of a core and of what was gathered.
use Rattle.std.specs.Prelude.{◌≡◌, List, [], ◌∷◌, ◌++◌, Option, Some, None}
use Rattle.pj_events.specs.declared.events.Entry.{Entry}
use Rattle.pj_events.specs.declared.events.Event.TheVariants.{Drain as Drained, Stopped}
use Rattle.pj_events.specs.declared.events.Out.{Out}
use Rattle.pj_events.specs.declared.events.Stop.{Stop}
use Rattle.pj_events.specs.OneThread.{Turn, arrival_of, plain}
use Rattle.pj_events.specs.Outcomes.{outputs_of}
use Rattle.pj_core.specs.Cores.{CoreState, MayFollow, StandsFor, nodes_after}
use Rattle.pj_core.specs.Calls.{turn_behind}
use Rattle.pj_feed.specs.Feeds.{AllTold}
use Rattle.pj_report.specs.declared.writer.ResultWriter.{ResultWriter}
use Rattle.pj_report.specs.Firsts.{OfFirst}
use Rattle.pj_report.specs.Forms.{TakesMore, taken_so_far}
use Rattle.pj_run.specs.declared.run.Gathered.{Gathered}
use Rattle.pj_run.specs.Goes.{HasKept, RunStart, whole_of}
use Rattle.pj_run.specs.Runs.{outs_by}

-- so it is with a front of these entries
pub record OfFront (entries : List Entry) (So : List Entry → Type 0) : Type 0 where
  pub front : List Entry
  pub others : List Entry
  pub all : front ++ others ≡ entries
  pub so : So front

-- a history, and behind it the stop of the core, which was drained then, if it stopped
abbrev pub with_stop : List Entry → Option Stop → List Entry
with_stop history None = history
with_stop history (Some stop) = history ++ plain (Stopped stop) ∷ plain Drained ∷ []

abbrev pub StandsUpTo : CoreState → List Entry → Type 0
StandsUpTo core history = StandsFor core (with_stop history core.kept.stop)

-- however a turn ended: behind each history that the core stood for and that the turn may follow, it stands for a front of the turn's
-- entries, and this is what they hand out
abbrev pub HandsOver : CoreState → CoreState → Turn → List Out → Type 0
HandsOver old new turn outs =
    (history : List Entry) → StandsFor old history → MayFollow old history (arrival_of turn)
    → OfFront (turn_behind old history turn) (λ front. StandsUpTo new (history ++ front) × (outs ≡ outputs_of old.plan.trace (nodes_after old history) front))

-- and the writer has taken the first of what they hand out
abbrev pub TurnLeaves : CoreState → CoreState → Turn → ResultWriter → ResultWriter → Type 0
TurnLeaves old new turn before after =
    (history : List Entry) → StandsFor old history → MayFollow old history (arrival_of turn)
    → OfFront (turn_behind old history turn) (λ front. StandsUpTo new (history ++ front) × OfFirst (outputs_of old.plan.trace (nodes_after old history) front) (TakesMore before after))

-- where the files are told: the core stands for a front of the run's history, the writer has taken the first of what that hands out, and
-- the rows are kept of a front of the history
abbrev pub RunLeaves : RunStart → CoreState → Gathered → Type 0
RunLeaves run core gathered =
    AllTold run.feeds
    → OfFront (whole_of run) (λ front. StandsUpTo core front × OfFirst (outs_by run.job front) (λ es. gathered.results ≡ taken_so_far run.job.form es))
    × OfFront (whole_of run) (λ front. HasKept run front gathered.accepted)
