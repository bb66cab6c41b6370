-- What a core that settles its run comes to.
use Rattle.std.specs.Prelude.{ℕ, ◌<◌, ◌≡◌, true, false, List, ◌++◌, length}
use Rattle.pj_value.specs.Lists.{has}
use Rattle.pj_events.specs.declared.events.Entry.{Entry}
use Rattle.pj_events.specs.declared.events.Out.{Out}
use Rattle.pj_events.specs.History.{IsComplete, reached_of, streams_of}
use Rattle.pj_laws.specs.SettlingHistories.{EachTakeIsGiven, IsSettling}
use Rattle.pj_core.specs.Cores.{CoreState, StandsFor, nodes_in}
use Rattle.pj_core.specs.Turns.{Finishes, finishing, working}

-- every stream of the core's plan is closed in the history, and each ticket that is taken there is given
pub record HasEnded (core : CoreState) (history : List Entry) : Type 0 where
  pub closed : (stream : ℕ) → stream < length (streams_of (nodes_in core)) → has (reached_of false (nodes_in core) history).closed stream ≡ true
  pub given : EachTakeIsGiven (nodes_in core) history

-- all probes and all sweeps behind a history that has ended settle it
abbrev pub WorkSettles : CoreState → Type 0
WorkSettles core =
    (history : List Entry) → StandsFor core history → HasEnded core history → IsSettling (nodes_in core) (history ++ working true core history)

-- and once they are made, and all is handed out, the history is complete
abbrev pub SettledIsComplete : CoreState → Type 0
SettledIsComplete old =
    (new : CoreState) (outs : List Out) → Finishes true old new outs → (history : List Entry) → StandsFor old history → HasEnded old history
    → IsComplete (nodes_in old) (history ++ finishing true old history)
