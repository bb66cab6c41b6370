-- What a core has to keep of a history.
use Rattle.std.specs.Prelude.{ℕ, ◌≡◌, Bool, List, map, length, Option}
use Rattle.std.specs.Prelude.{None}
use Rattle.pj_events.specs.Join.{upto_from}
use Rattle.pj_events.specs.KeptState.{KeptState, kept_of}
use Rattle.pj_events.specs.Operators.{UnionState}
use Rattle.pj_events.specs.Plan.{Operator, Stream, Select, Project, Union, Join, Group, Node, operator_at}
use Rattle.pj_events.specs.History.{Entry, Out, Stop, reached_of, nodes_from}
use Rattle.pj_events.specs.Outcomes.{arrivals_at, counted, peak_of}
use Rattle.pj_events.specs.Tables.{GroupTable, table_of}

-- what is kept of an operator
pub data KeptOperator : Type 0 where
  NothingKept : KeptOperator
  UnionKept : UnionState → KeptOperator
  JoinKept : KeptState → KeptOperator
  GroupKept : GroupTable → KeptOperator

abbrev pub kept_in : Operator → KeptOperator
kept_in (Stream schema sent) = NothingKept
kept_in (Select test) = NothingKept
kept_in (Project columns) = NothingKept
kept_in (Union n u) = UnionKept u
kept_in (Join spec s) = JoinKept (kept_of s)
kept_in (Group spec rows) = GroupKept (table_of spec rows)

-- what each node keeps, how many elements each join and group has counted, the greatest number of tuples stored there,
-- the streams that are closed, the outputs that are not drained, whether a halt came, and the stop
pub record CoreKept : Type 0 where
  pub nodes : List KeptOperator
  pub counts : List ℕ
  pub peaks : List ℕ
  pub closed : List ℕ
  pub undrained : List Out
  pub halted : Bool
  pub stop : Option Stop

-- how many of the elements that reached a node in a history of the plan it has counted
abbrev pub count_of : List Node → List Entry → ℕ → ℕ
count_of plan history n = counted (operator_at plan n) (length (arrivals_at plan history n))

-- what is to be kept of a history of the plan, with a trace or without
abbrev pub core_kept : Bool → List Node → List Entry → CoreKept
core_kept trace plan history = record {
  nodes = map (λ node. kept_in node.operator) (nodes_from plan history);
  counts = map (count_of plan history) (upto_from 0 (length plan));
  peaks = map (peak_of plan history) (upto_from 0 (length plan));
  closed = (reached_of trace plan history).closed;
  undrained = (reached_of trace plan history).undrained;
  halted = (reached_of trace plan history).halted;
  stop = (reached_of trace plan history).stop;
}

-- a core keeps what it has to after a history of the plan; after a stop it is the outputs, the halt and the stop alone
abbrev pub Stands : Bool → List Node → CoreKept → List Entry → Type 0
Stands trace plan k history =
    ((reached_of trace plan history).stop ≡ None → k ≡ core_kept trace plan history)
    × (k.undrained ≡ (reached_of trace plan history).undrained)
    × (k.halted ≡ (reached_of trace plan history).halted)
    × (k.stop ≡ (reached_of trace plan history).stop)
