-- What a join of a core does of its own: takes, gives and sweeps.
use Rattle.std.specs.Prelude.{ℕ, ◌+◌, ◌≡◌, ◌<◌, ◌==◌, if◌then◌else◌, Bool, true, false, List, [], ◌∷◌, ◌++◌, map, length, slice_set, Option, Some, None}
use Rattle.pj_value.specs.declared.values.Value.{Value}
use Rattle.pj_events.specs.declared.events.Out.{Out}
use Rattle.pj_events.specs.Join.{Step, Take, Give, Sweep, inputs, joined, results, run, start}
use Rattle.pj_events.specs.Outcomes.{elements_out}
use Rattle.pj_probe.specs.declared.probe.Found.{Found}
use Rattle.pj_join.specs.Handed.{behind_probe}
use Rattle.pj_join.specs.Joins.{JoinView, StandsFor as JoinStandsFor, TakesLeast, after, found_of}
use Rattle.pj_pattern.specs.declared.element.Element.TheVariants.{Punct, Tuple}
use Rattle.pj_events.specs.declared.events.Stop.{Stop}
use Rattle.pj_events.specs.declared.events.Stop.TheVariants.{Limit, NoMemory}
use Rattle.pj_join.specs.Sweeping.{puncts_up, rows_off, swept_off}
use Rattle.pj_operator.specs.declared.act.Swept.{Swept}
use Rattle.pj_operator.specs.Emitting.{Emits, GoBeyond, Scene, StaysAs}
use Rattle.pj_operator.specs.Handed.{notes_out}
use Rattle.pj_operator.specs.declared.operator.RunningOperator.{RunningOperator}
use Rattle.pj_operator.specs.declared.operator.OperatorState.{OperatorState}
use Rattle.pj_operator.specs.declared.operator.OperatorState.TheVariants.{Stream as RunningStream, Select as RunningSelect, Project as RunningProject, Union as RunningUnion, Join as RunningJoin, Group as RunningGroup}
use Rattle.pj_operator.specs.Operators.{running_at, kept_seen, peak_seen, pending_kept}

-- the operators, with another state and another peak at this place
abbrev pub with_state : List RunningOperator → ℕ → OperatorState → ℕ → List RunningOperator
with_state operators place state peak = slice_set operators place (record (running_at operators place) { state = state; peak = peak })

-- the rows are the results of the ticket, over all that came by any steps that the join stands for
abbrev pub FindsResults : JoinView → ℕ → List (List Value) → Type 0
FindsResults join ticket rows =
    (steps : List Step) → JoinStandsFor join steps
    → rows ≡ map joined (results join.spec (run join.spec start steps).tuples (run join.spec start steps).tuples ticket)

-- ---- one node

-- a join made this step of its own
pub record JoinActs (old new : OperatorState) (step : Step) : Type 0 where
  pub join : JoinView
  pub was : old ≡ RunningJoin join
  pub is : new ≡ RunningJoin (after join step)

-- a join took its least pending ticket
pub record JoinTook (old new : OperatorState) (found : Found) : Type 0 where
  pub join : JoinView
  pub was : old ≡ RunningJoin join
  pub takes : TakesLeast join (after join (Take found.ticket)) found
  pub finds : FindsResults join found.ticket found.rows
  pub is : new ≡ RunningJoin (after join (Take found.ticket))

-- nothing where no ticket is pending there
abbrev pub StateTakes : OperatorState → OperatorState → Option Found → Type 0
StateTakes old new None = (new ≡ old) × (pending_kept (kept_seen old) ≡ 0)
StateTakes old new (Some found) = JoinTook old new found

-- what the work of a ticket finds
abbrev pub found_outs : OperatorState → ℕ → List Out
found_outs RunningStream ticket = []
found_outs (RunningSelect test) ticket = []
found_outs (RunningProject columns) ticket = []
found_outs (RunningUnion union) ticket = []
found_outs (RunningJoin join) ticket = map Out.Tuple (found_of join ticket).rows
found_outs (RunningGroup group) ticket = []

-- a join took its least pending ticket and gave it
pub record JoinProbed (old new : OperatorState) (before behind : List Out) (ticket : ℕ) : Type 0 where
  pub join : JoinView
  pub was : old ≡ RunningJoin join
  pub takes : TakesLeast join (after join (Take ticket)) (found_of join ticket)
  pub finds : FindsResults join ticket (found_of join ticket).rows
  pub is : new ≡ RunningJoin (behind_probe join ticket)
  pub hands : behind ≡ before ++ map Out.Tuple (found_of join ticket).rows

abbrev pub StateProbes : OperatorState → OperatorState → List Out → List Out → Option ℕ → Type 0
StateProbes old new before behind None = (new ≡ old) × (behind ≡ before) × (pending_kept (kept_seen old) ≡ 0)
StateProbes old new before behind (Some ticket) = JoinProbed old new before behind ticket

-- the node is a join with such an input
abbrev pub HasJoinInput : OperatorState → ℕ → Type 0
HasJoinInput RunningStream input = ⊥
HasJoinInput (RunningSelect test) input = ⊥
HasJoinInput (RunningProject columns) input = ⊥
HasJoinInput (RunningUnion union) input = ⊥
HasJoinInput (RunningJoin join) input = input < inputs join.spec
HasJoinInput (RunningGroup group) input = ⊥

-- ---- all nodes

-- the first node at which a ticket is pending, where the first of these has this number
abbrev pub first_pending : ℕ → List RunningOperator → Option ℕ
first_pending k [] = None
first_pending k (operator ∷ operators) = if pending_kept (kept_seen operator.state) == 0 then first_pending (k + 1) operators else Some k

-- the first node at which a ticket is pending took the least of its tickets
pub record FirstTook (old new : List RunningOperator) (found : Found) : Type 0 where
  pub place : ℕ
  pub there : place < length old
  pub first : first_pending 0 old ≡ Some place
  pub state : OperatorState
  pub took : JoinTook (running_at old place).state state found
  pub changes : new ≡ with_state old place state (running_at old place).peak

abbrev pub TakesFirst : List RunningOperator → List RunningOperator → Option Found → Type 0
TakesFirst old new None = (new ≡ old) × (first_pending 0 old ≡ None)
TakesFirst old new (Some found) = FirstTook old new found

-- the ticket of this probe is given at its join
pub record HasGivenAt (old new : List RunningOperator) (probe : Found) : Type 0 where
  pub state : OperatorState
  pub acts : JoinActs (running_at old probe.join).state state (Give probe.ticket)
  pub changes : new ≡ with_state old probe.join state (running_at old probe.join).peak

-- the ticket is given, and these rows were emitted
pub record HasGivenOn (old new : Scene) (probe : Found) (rows : List (List Value)) : Type 0 where
  pub state : OperatorState
  pub acts : JoinActs (running_at old.operators probe.join).state state (Give probe.ticket)
  pub emits : Emits (record { operators = with_state old.operators probe.join state (running_at old.operators probe.join).peak; outs = old.outs }) new probe.join (map Tuple rows)
  pub stays : StaysAs (with_state old.operators probe.join state (running_at old.operators probe.join).peak) new.operators

-- a limit stops a give where the rows go beyond it
pub record GivesBeyond (operators : List RunningOperator) (probe : Found) (rows : List (List Value)) (node : ℕ) : Type 0 where
  pub state : OperatorState
  pub acts : JoinActs (running_at operators probe.join).state state (Give probe.ticket)
  pub beyond : GoBeyond (with_state operators probe.join state (running_at operators probe.join).peak) probe.join (map Tuple rows) (Some node)

abbrev pub IsGiveStop : List RunningOperator → Found → List (List Value) → Stop → Type 0
IsGiveStop operators probe rows (Limit node) = GivesBeyond operators probe rows node
IsGiveStop operators probe rows NoMemory = Unit {0}

-- ---- probes

-- the join at this place took its least pending ticket and gave it, and emitted what its work found
pub record HasProbed (old new : Scene) (place : ℕ) : Type 0 where
  pub there : place < length old.operators
  pub ticket : ℕ
  pub state : OperatorState
  pub probed : JoinProbed (running_at old.operators place).state state [] (found_outs (running_at old.operators place).state ticket) ticket
  pub emits : Emits (record { operators = with_state old.operators place state (running_at old.operators place).peak; outs = old.outs }) new place (elements_out (found_outs (running_at old.operators place).state ticket))
  pub stays : StaysAs (with_state old.operators place state (running_at old.operators place).peak) new.operators
  pub fewer : pending_kept (kept_seen (running_at new.operators place).state) < pending_kept (kept_seen (running_at old.operators place).state)

abbrev pub ProbesOn : Bool → Scene → Scene → ℕ → Type 0
ProbesOn false old new place = (new ≡ old) × (pending_kept (kept_seen (running_at old.operators place).state) ≡ 0)
ProbesOn true old new place = HasProbed old new place

-- a limit stops a probe where what its work found goes beyond it
pub record ProbesBeyond (operators : List RunningOperator) (place node : ℕ) : Type 0 where
  pub there : place < length operators
  pub ticket : ℕ
  pub state : OperatorState
  pub probed : JoinProbed (running_at operators place).state state [] (found_outs (running_at operators place).state ticket) ticket
  pub beyond : GoBeyond (with_state operators place state (running_at operators place).peak) place (elements_out (found_outs (running_at operators place).state ticket)) (Some node)

-- only a probe that is pending may stop
abbrev pub IsProbeStop : List RunningOperator → ℕ → Stop → Type 0
IsProbeStop operators place (Limit node) = ProbesBeyond operators place node
IsProbeStop operators place NoMemory = (place < length operators) × (0 < pending_kept (kept_seen (running_at operators place).state))

-- ---- sweeps

-- a join swept an input
pub record JoinSwept (old new : OperatorState) (input : ℕ) (swept : Swept) : Type 0 where
  pub join : JoinView
  pub was : old ≡ RunningJoin join
  pub is : new ≡ RunningJoin (after join (Sweep input))
  pub count : swept.count ≡ length (swept_off join input)
  pub removed : swept.removed ≡ rows_off join input
  pub puncts : swept.puncts ≡ puncts_up join (Sweep input)

-- a node that is a join swept an input, with its peak raised before
pub record OperatorSwept (old new : RunningOperator) (input : ℕ) (swept : Swept) : Type 0 where
  pub join : JoinView
  pub was : old.state ≡ RunningJoin join
  pub is : new ≡ record old { state = RunningJoin (after join (Sweep input)); peak = peak_seen old }
  pub count : swept.count ≡ length (swept_off join input)
  pub removed : swept.removed ≡ rows_off join input
  pub puncts : swept.puncts ≡ puncts_up join (Sweep input)

-- the operators and the outputs behind the sweep of an input of the join at this place, before the join emits what is let go
abbrev pub swept_scene : Bool → Scene → ℕ → ℕ → RunningOperator → Swept → Scene
swept_scene trace old place input operator swept = record {
  operators = slice_set old.operators place operator;
  outs = old.outs ++ notes_out trace place input swept.removed;
}

-- the join at this place swept an input, and emitted what was let go
pub record HasSweptAt (trace : Bool) (old new : Scene) (place input count : ℕ) : Type 0 where
  pub operator : RunningOperator
  pub swept : Swept
  pub sweeps : OperatorSwept (running_at old.operators place) operator input swept
  pub counts : count ≡ swept.count
  pub emits : Emits (swept_scene trace old place input operator swept) new place (map Punct swept.puncts)
  pub stays : StaysAs (slice_set old.operators place operator) new.operators

-- where the sweep stops at a limit, what goes up does
pub record SweepsBeyond (trace : Bool) (old : Scene) (place input node : ℕ) : Type 0 where
  pub operator : RunningOperator
  pub swept : Swept
  pub sweeps : OperatorSwept (running_at old.operators place) operator input swept
  pub beyond : GoBeyond (slice_set old.operators place operator) place (map Punct swept.puncts) (Some node)

abbrev pub IsSweepStop : Bool → Scene → ℕ → ℕ → Stop → Type 0
IsSweepStop trace old place input (Limit node) = SweepsBeyond trace old place input node
IsSweepStop trace old place input NoMemory = Unit {0}
