-- What a turn is made of.
use Rattle.std.specs.Prelude.{ℕ, ◌+◌, ◌<◌, ◌≡◌, Bool, true, false, if◌then◌else◌, List, [], ◌∷◌, ◌++◌, map, length, take, slice_index_or, Some, None}
use Rattle.pj_plan.specs.declared.node.Node.{Node as Operation}
use Rattle.pj_plan.specs.declared.node.PlanNode.{PlanNode}
use Rattle.pj_plan.specs.Nodes.{inputs_of, is_join}
use Rattle.pj_plan.specs.Canonical.{node_at}
use Rattle.pj_plan.specs.Sound.{IsSoundPlan}
use Rattle.pj_events.specs.declared.events.Entry.{Entry}
use Rattle.pj_events.specs.declared.events.Event.TheVariants.{Drain, Stopped}
use Rattle.pj_events.specs.declared.events.Stop.{Stop}
use Rattle.pj_events.specs.declared.events.Out.{Out}
use Rattle.pj_events.specs.Join.{upto_from}
use Rattle.pj_events.specs.Outcomes.{outputs_of}
use Rattle.pj_events.specs.Limits.{StaysWithin, StopsAt}
use Rattle.pj_events.specs.OneThread.{Place, pending_at, places_from, plain, probes, probes_at, probes_from, sweeps_at}
use Rattle.pj_events.specs.CoreKept.{NothingKept}
use Rattle.pj_operator.specs.Operators.{pending_kept}
use Rattle.pj_core.specs.Cores.{CoreState, StandsFor, nodes_after, nodes_in}

-- ---- one probe

-- the tickets that are pending at a node of a core
abbrev pub kept_pending : CoreState → ℕ → ℕ
kept_pending core node = pending_kept (slice_index_or core.kept.nodes node NothingKept)

-- the least pending ticket of a join was taken and given
pub record ProbesFirstAt (old new : CoreState) (history : List Entry) (join : ℕ) : Type 0 where
  pub ticket : ℕ
  pub others : List ℕ
  pub first : pending_at (nodes_after old history) join ≡ ticket ∷ others
  pub within : StaysWithin old.limit (nodes_in old) history (probes_at join (ticket ∷ []))
  pub stands : StandsFor new (history ++ probes_at join (ticket ∷ []))

pub record ProbesAt (old new : CoreState) (join : ℕ) : Type 0 where
  pub plan : new.plan ≡ old.plan
  pub limit : new.limit ≡ old.limit
  pub on : new.kept.stop ≡ None
  pub fewer : kept_pending new join < kept_pending old join
  pub probes : (history : List Entry) → StandsFor old history → ProbesFirstAt old new history join

-- one probe was done, or there was none to do
abbrev pub MayProbeAt : Bool → CoreState → CoreState → ℕ → Type 0
MayProbeAt true old new join = ProbesAt old new join
MayProbeAt false old new join = (new ≡ old) × ((history : List Entry) → StandsFor old history → pending_at (nodes_after old history) join ≡ [])

-- a stop in a probe: before it, or between its take and its give
pub record StopsAtProbe (old new : CoreState) (history : List Entry) (join : ℕ) (stop : Stop) : Type 0 where
  pub ticket : ℕ
  pub others : List ℕ
  pub front : List Entry
  pub back : List Entry
  pub first : pending_at (nodes_after old history) join ≡ ticket ∷ others
  pub parts : probes_at join (ticket ∷ []) ≡ front ++ back
  pub within : StaysWithin old.limit (nodes_in old) history front
  pub stops : StopsAt old.limit (nodes_in old) (history ++ front) back stop
  pub stands : StandsFor new (history ++ front ++ plain (Stopped stop) ∷ [])

pub record StopsProbe (old new : CoreState) (join : ℕ) (stop : Stop) : Type 0 where
  pub plan : new.plan ≡ old.plan
  pub limit : new.limit ≡ old.limit
  pub stopped : new.kept.stop ≡ Some stop
  pub undrained : new.kept.undrained ≡ old.kept.undrained
  pub stops : (history : List Entry) → StandsFor old history → StopsAtProbe old new history join stop

-- ---- where nothing is pending

-- no ticket is pending at the nodes below this one
abbrev pub IsQuietBelow : CoreState → ℕ → Type 0
IsQuietBelow core node = (n : ℕ) → n < node → kept_pending core n ≡ 0

-- no ticket is pending at any node
abbrev pub IsQuiet : CoreState → Type 0
IsQuiet core = IsQuietBelow core (length core.plan.nodes)

-- the nodes below stay quiet
abbrev pub StaysQuietBelow : CoreState → CoreState → ℕ → Type 0
StaysQuietBelow old new node = IsQuietBelow old node → IsQuietBelow new node

-- the nodes below stay quiet at a probe of a node; where none was pending there, it is quiet too
abbrev pub ProbesAbove : Bool → CoreState → CoreState → ℕ → Type 0
ProbesAbove true old new node = StaysQuietBelow old new node
ProbesAbove false old new node = IsQuietBelow old node → IsQuietBelow new (node + 1)

-- ---- entries that are made

-- the core made the entries that these are behind each history
pub record Makes (old new : CoreState) (entries : List Entry → List Entry) : Type 0 where
  pub plan : new.plan ≡ old.plan
  pub limit : new.limit ≡ old.limit
  pub on : new.kept.stop ≡ None
  pub within : (history : List Entry) → StandsFor old history → StaysWithin old.limit (nodes_in old) history (entries history)
  pub stands : (history : List Entry) → StandsFor old history → StandsFor new (history ++ entries history)

-- a front of these entries was made, and where a limit stopped it, the first entry behind the front goes beyond
pub record MakesSome (old new : CoreState) (history entries : List Entry) (stop : Stop) : Type 0 where
  pub front : List Entry
  pub back : List Entry
  pub parts : entries ≡ front ++ back
  pub within : StaysWithin old.limit (nodes_in old) history front
  pub stops : StopsAt old.limit (nodes_in old) (history ++ front) back stop
  pub stands : StandsFor new (history ++ front ++ plain (Stopped stop) ∷ [])

-- a limit was met on the way, or memory was wanting
pub record StopsMaking (old new : CoreState) (entries : List Entry → List Entry) (stop : Stop) : Type 0 where
  pub plan : new.plan ≡ old.plan
  pub limit : new.limit ≡ old.limit
  pub stopped : new.kept.stop ≡ Some stop
  pub stops : (history : List Entry) → StandsFor old history → MakesSome old new history (entries history) stop

-- ---- all probes

-- the plan is sound
abbrev pub IsSoundCore : CoreState → Type 0
IsSoundCore core = IsSoundPlan core.plan.nodes

-- the probes of all pending tickets of a node
abbrev pub probing_at : CoreState → ℕ → List Entry → List Entry
probing_at core node history = probes_at node (pending_at (nodes_after core history) node)

-- those of so many nodes, one after the other
abbrev pub probing_upto : CoreState → ℕ → List Entry → List Entry
probing_upto core count history = probes_from (nodes_after core history) 0 count

-- all probes that the history asks for
abbrev pub probing : CoreState → List Entry → List Entry
probing core history = probes (nodes_after core history)

-- some of the tickets that were pending at a node are taken and given, and the others are pending still
pub record GoesTo (old now : CoreState) (history : List Entry) (node : ℕ) : Type 0 where
  pub done : List ℕ
  pub others : List ℕ
  pub all : pending_at (nodes_after old history) node ≡ done ++ others
  pub pending : pending_at (nodes_after old (history ++ probes_at node done)) node ≡ others
  pub within : StaysWithin old.limit (nodes_in old) history (probes_at node done)
  pub stands : StandsFor now (history ++ probes_at node done)

pub record SoFar (old now : CoreState) (node : ℕ) : Type 0 where
  pub plan : now.plan ≡ old.plan
  pub limit : now.limit ≡ old.limit
  pub on : now.kept.stop ≡ None
  pub goes : (history : List Entry) → StandsFor old history → GoesTo old now history node

-- ---- sweeps

-- how many places of sweeps a node has: a join has its inputs, any other node none
abbrev pub places_total : Operation → ℕ
places_total node = if is_join node then length (inputs_of node) else 0

abbrev pub place : ℕ → ℕ → Place
place join input = record { join = join; input = input }

-- so many inputs of a join
abbrev pub places_upto : ℕ → ℕ → List Place
places_upto join count = map (place join) (upto_from 0 count)

-- all places of these nodes, the first of which has this number
abbrev pub places_of : ℕ → List PlanNode → List Place
places_of number [] = []
places_of number (node ∷ nodes) = places_upto number (places_total node.node) ++ places_of (number + 1) nodes

-- the sweep of an input of a join, and all probes after it
abbrev pub sweeping : CoreState → ℕ → ℕ → List Entry → List Entry
sweeping core join input history = sweeps_at (nodes_after core history) (place join input ∷ [])

-- the same for so many inputs of a join
abbrev pub sweeping_inputs : CoreState → ℕ → ℕ → List Entry → List Entry
sweeping_inputs core join count history = sweeps_at (nodes_after core history) (places_upto join count)

-- the same for each input of a node, where it is a join
abbrev pub sweeping_at : CoreState → ℕ → List Entry → List Entry
sweeping_at core node history = sweeping_inputs core node (places_total (node_at core.plan.nodes node)) history

-- the same for each input of the joins among so many nodes
abbrev pub sweeping_upto : CoreState → ℕ → List Entry → List Entry
sweeping_upto core count history = sweeps_at (nodes_after core history) (places_of 0 (take count core.plan.nodes))

-- the same for each input of each join
abbrev pub sweeping_all : CoreState → List Entry → List Entry
sweeping_all core history = sweeps_at (nodes_after core history) (places_from 0 (nodes_after core history))

abbrev pub swept_where : Bool → CoreState → List Entry → List Entry
swept_where sweeps core history = if sweeps then sweeping_all core history else []

-- ---- whole turns

-- all probes, and then the sweeps
abbrev pub working : Bool → CoreState → List Entry → List Entry
working sweeps core history = probing core history ++ swept_where sweeps core (history ++ probing core history)

-- and a drain
abbrev pub finishing : Bool → CoreState → List Entry → List Entry
finishing sweeps core history = working sweeps core history ++ plain Drain ∷ []

-- all is made, and all is handed out
pub record Finishes (sweeps : Bool) (old new : CoreState) (outs : List Out) : Type 0 where
  pub makes : Makes old new (finishing sweeps old)
  pub undrained : new.kept.undrained ≡ []
  pub hands : (history : List Entry) → StandsFor old history
      → outs ≡ old.kept.undrained ++ outputs_of old.plan.trace (nodes_after old history) (working sweeps old history)
