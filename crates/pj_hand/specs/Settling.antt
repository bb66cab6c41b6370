-- What settling a hand makes.
use Rattle.std.specs.Prelude.{◌≡◌, ◌⊎◌, true, List, [], ◌++◌, Option, Some, None}
use Rattle.pj_events.specs.declared.events.Entry.{Entry}
use Rattle.pj_events.specs.declared.events.Out.{Out}
use Rattle.pj_events.specs.declared.events.Stop.{Stop}
use Rattle.pj_events.specs.declared.events.Stop.TheVariants.{NoMemory}
use Rattle.pj_events.specs.Limits.{StaysWithin}
use Rattle.pj_events.specs.Outcomes.{outputs_of}
use Rattle.pj_core.specs.Cores.{nodes_after, nodes_in}
use Rattle.pj_core.specs.Turns.{MakesSome, working}
use Rattle.pj_script.specs.Playing.{gives, settled}
use Rattle.pj_hand.specs.Hands.{HandState, HandStandsFor}
use Rattle.pj_hand.specs.Steps.{StaysAsItWas}

-- what settling makes behind a history of the hand: a give of all that is under way, all probes and sweeps, and a drain
abbrev pub settling : HandState → List Entry → List Entry
settling hand history = settled (nodes_after hand.core history)

-- the gives alone
abbrev pub giving : HandState → List Entry → List Entry
giving hand history = gives (nodes_after hand.core history)

-- all but the drain: the gives, then all probes, and a sweep of each input of each join with all probes after it
abbrev pub unsettled : HandState → List Entry → List Entry
unsettled hand history = giving hand history ++ working true hand.core (history ++ giving hand history)

-- the hand made the entries that these are behind each history
pub record HandMakes (old new : HandState) (entries : List Entry → List Entry) : Type 0 where
  pub on : (old.core.kept.stop ≡ None) × (new.core.kept.stop ≡ None)
  pub plan : new.core.plan ≡ old.core.plan
  pub limit : new.core.limit ≡ old.core.limit
  pub within : (history : List Entry) → HandStandsFor old history → StaysWithin old.core.limit (nodes_in old.core) history (entries history)
  pub stands : (history : List Entry) → HandStandsFor old history → HandStandsFor new (history ++ entries history)

-- the run is settled, no probe is held, and all that was not drained is handed out with what settling gained
pub record SettlesHand (old new : HandState) (outs : List Out) : Type 0 where
  pub makes : HandMakes old new (settling old)
  pub none : new.taken ≡ []
  pub undrained : new.core.kept.undrained ≡ []
  pub hands : (history : List Entry) → HandStandsFor old history
      → outs ≡ old.core.kept.undrained ++ outputs_of old.core.plan.trace (nodes_after old.core history) (settling old history)

-- the core stopped behind a front of these entries; where a limit stopped it, the first entry behind the front goes beyond
pub record HandStopsMaking (old new : HandState) (entries : List Entry → List Entry) (stop : Stop) : Type 0 where
  pub plan : new.core.plan ≡ old.core.plan
  pub limit : new.core.limit ≡ old.core.limit
  pub stopped : new.core.kept.stop ≡ Some stop
  pub stops : (history : List Entry) → HandStandsFor old history → MakesSome old.core new.core history (entries history) stop

-- a front of these entries was made within the limit
pub record MakesFront (old new : HandState) (history entries : List Entry) : Type 0 where
  pub front : List Entry
  pub back : List Entry
  pub parts : entries ≡ front ++ back
  pub within : StaysWithin old.core.limit (nodes_in old.core) history front
  pub stands : HandStandsFor new (history ++ front)

-- memory was wanting for a probe: nothing stopped, a front of these entries was made, and what is under way behind it is still held
pub record LacksMemoryAmong (old new : HandState) (entries : List Entry → List Entry) (stop : Stop) : Type 0 where
  pub on : (old.core.kept.stop ≡ None) × (new.core.kept.stop ≡ None)
  pub memory : stop ≡ NoMemory
  pub plan : new.core.plan ≡ old.core.plan
  pub limit : new.core.limit ≡ old.core.limit
  pub makes : (history : List Entry) → HandStandsFor old history → MakesFront old new history (entries history)

-- how a hand that goes on is refused these entries
abbrev pub RefusesMaking : HandState → HandState → (List Entry → List Entry) → Stop → Type 0
RefusesMaking old new entries stop = HandStopsMaking old new entries stop ⊎ LacksMemoryAmong old new entries stop

-- The answer is the stop that was answered before. Where there was none the core stops before the drain, or memory is wanting for a
-- probe that is to be given: in both, nothing that was gained is drained
abbrev pub IsSettlingRefused : Option Stop → HandState → HandState → Stop → Type 0
IsSettlingRefused None old new stop = HandStopsMaking old new (unsettled old) stop ⊎ LacksMemoryAmong old new (giving old) stop
IsSettlingRefused (Some before) old new stop = StaysAsItWas old new before stop
