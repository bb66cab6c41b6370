-- Worked runs, computed through the definitions.
use Rattle.std.specs.Prelude.{ℕ, true, false, List, [], ◌∷◌, ◌++◌, ◌≡◌, Some, None, pos, map}
use Rattle.pj_value.specs.declared.values.Kind.TheVariants.{Int as IntKind, Text as TextKind}
use Rattle.pj_value.specs.declared.values.Value.{Value}
use Rattle.pj_value.specs.declared.values.Value.TheVariants.{Int, Text}
use Rattle.pj_shape.specs.declared.columns.Column.{Column}
use Rattle.pj_pattern.specs.declared.pattern.Form.TheVariants.{Constant}
use Rattle.pj_events.specs.Patterns.{wild}
use Rattle.pj_events.specs.Join.{Element, Tuple, Punct, JoinData, start, puncts_of}
use Rattle.pj_events.specs.Operators.{Count, Sum, Min, Max}
use Rattle.pj_events.specs.Plan.{Stream, Select, Project, Union, Join, Group, Node}
use Rattle.pj_events.specs.declared.events.Entry.{Entry}
use Rattle.pj_events.specs.declared.events.Event.TheVariants.{Arrive, Drain, Take as Taken, Give as Given, Sweep as Swept}
use Rattle.pj_events.specs.declared.events.Out.TheVariants.{Tuple as RowOut, Punct as PunctOut, Purged}
use Rattle.pj_events.specs.Outcomes.{arriving, low_of, peak_of, outputs_of, answer_of, goes_beyond}
use Rattle.pj_events.specs.OneThread.{plain, one_thread_of}
use Rattle.pj_events.specs.Punctuations.{puncts_answer, puncts_answers}
use Rattle.pj_laws.specs.HistoryLaws.{closed_lists}
use Rattle.pj_laws.specs.Climb.{above, climb_of}

abbrev pub int : ℕ → Value
int n = Int (pos n)

abbrev pub ann : Value
ann = Text (97 ∷ 110 ∷ 110 ∷ [])

abbrev pub ints : List Column
ints = record { name = []; kind = IntKind } ∷ record { name = []; kind = IntKind } ∷ []

abbrev pub items : List Column
items = record { name = []; kind = IntKind } ∷ record { name = []; kind = TextKind } ∷ []

abbrev pub fed : List Column → Node
fed schema = record { inputs = []; operator = Stream schema [] }

-- items and their bids, joined by the item, each with a scheme that marks it
abbrev pub auction : JoinData
auction = record {
  shape = record { inputs = items ∷ ints ∷ []; classes = (record { input = 0; column = 0 } ∷ record { input = 1; column = 0 } ∷ []) ∷ [] };
  schemes = ((true ∷ false ∷ []) ∷ []) ∷ ((true ∷ false ∷ []) ∷ []) ∷ [];
  certs = (record { input = 1; scheme = 0 } ∷ []) ∷ (record { input = 0; scheme = 0 } ∷ []) ∷ [];
}

abbrev pub plan : List Node
plan = fed items ∷ fed ints ∷ record { inputs = 0 ∷ 1 ∷ []; operator = Join auction start } ∷ []

abbrev pub lists : List (List Element)
lists =
    (Tuple (int 1 ∷ ann ∷ []) ∷ Punct (Constant (int 1) ∷ wild ∷ []) ∷ [])
    ∷ (Tuple (int 1 ∷ int 50 ∷ []) ∷ Punct (Constant (int 1) ∷ wild ∷ []) ∷ []) ∷ []

-- the punctuation of the bids goes out at its arrival, and that of the items at the next sweep
abbrev pub SweptRun : Type 0
SweptRun =
    outputs_of false plan (one_thread_of true plan lists)
    ≡ RowOut (int 1 ∷ ann ∷ int 1 ∷ int 50 ∷ []) ∷ PunctOut (wild ∷ wild ∷ Constant (int 1) ∷ wild ∷ []) ∷ PunctOut (Constant (int 1) ∷ wild ∷ wild ∷ wild ∷ [])
    ∷ PunctOut (wild ∷ wild ∷ wild ∷ wild ∷ []) ∷ PunctOut (wild ∷ wild ∷ wild ∷ wild ∷ []) ∷ []

abbrev pub SweptPeak : Type 0
SweptPeak =
    peak_of plan (one_thread_of true plan lists) 2 ≡ 2

-- without sweeps the row is the same
abbrev pub UnsweptRow : Type 0
UnsweptRow =
    answer_of plan (((int 1 ∷ ann ∷ []) ∷ []) ∷ ((int 1 ∷ int 50 ∷ []) ∷ []) ∷ []) ≡ (int 1 ∷ ann ∷ int 1 ∷ int 50 ∷ []) ∷ []

-- early sweeps remove nothing below an open ticket
abbrev pub script : List Entry
script =
    plain (Arrive 0 (Tuple (int 1 ∷ ann ∷ []))) ∷ plain (Arrive 1 (Tuple (int 1 ∷ int 50 ∷ [])))
    ∷ plain (Arrive 0 (Punct (Constant (int 1) ∷ wild ∷ []))) ∷ plain (Arrive 1 (Punct (Constant (int 1) ∷ wild ∷ [])))
    ∷ plain (Swept 2 0) ∷ plain (Swept 2 1) ∷ plain (Taken 2 0) ∷ plain (Given 2 0) ∷ plain (Taken 2 1) ∷ plain (Swept 2 0) ∷ []

abbrev pub LowBehindOpen : Type 0
LowBehindOpen =
    low_of plan script 2 ≡ 1

abbrev pub EarlySweeps : Type 0
EarlySweeps =
    outputs_of true plan (script ++ plain (Given 2 1) ∷ plain (Swept 2 0) ∷ plain (Swept 2 1) ∷ [])
    ≡ RowOut (int 1 ∷ ann ∷ int 1 ∷ int 50 ∷ []) ∷ Purged 2 0 (int 1 ∷ ann ∷ []) ∷ PunctOut (Constant (int 1) ∷ wild ∷ wild ∷ wild ∷ [])
    ∷ Purged 2 1 (int 1 ∷ int 50 ∷ []) ∷ PunctOut (wild ∷ wild ∷ Constant (int 1) ∷ wild ∷ []) ∷ []

-- the fourth element goes beyond a limit of three
abbrev pub BeyondLimit : Type 0
BeyondLimit =
    goes_beyond 3 plan (plain (Arrive 0 (Tuple (int 1 ∷ ann ∷ []))) ∷ plain (Arrive 1 (Tuple (int 1 ∷ int 50 ∷ []))) ∷ plain (Arrive 1 (Tuple (int 2 ∷ int 60 ∷ []))) ∷ [])
    (Arrive 0 (Tuple (int 2 ∷ ann ∷ []))) ≡ Some 2

abbrev pub WithinLimit : Type 0
WithinLimit =
    goes_beyond 3 plan (plain (Arrive 0 (Tuple (int 1 ∷ ann ∷ []))) ∷ []) (Arrive 0 (Tuple (int 2 ∷ ann ∷ []))) ≡ None

-- groups by item, with the number, the sum, the least and the greatest price, where a sum is clamped
abbrev pub grouped : List Node
grouped = fed ints ∷ record { inputs = 0 ∷ []; operator = Group (record { keys = 0 ∷ []; aggs = Count ∷ Sum 1 ∷ Min 1 ∷ Max 1 ∷ [] }) [] } ∷ []

abbrev pub most : ℕ
most = 9223372036854775807

abbrev pub GroupedRun : Type 0
GroupedRun =
    outputs_of false grouped (one_thread_of true grouped ((
    Tuple (int 1 ∷ int 50 ∷ []) ∷ Tuple (int 2 ∷ int 7 ∷ []) ∷ Tuple (int 1 ∷ int 60 ∷ []) ∷ Punct (wild ∷ Constant (int 50) ∷ []) ∷ Punct (Constant (int 1) ∷ wild ∷ [])
    ∷ Tuple (int 2 ∷ int most ∷ []) ∷ []) ∷ []))
    ≡ RowOut (int 1 ∷ int 2 ∷ int 110 ∷ int 50 ∷ int 60 ∷ []) ∷ PunctOut (Constant (int 1) ∷ wild ∷ wild ∷ wild ∷ wild ∷ [])
    ∷ RowOut (int 2 ∷ int 2 ∷ int most ∷ int 7 ∷ int most ∷ []) ∷ PunctOut (wild ∷ wild ∷ wild ∷ wild ∷ wild ∷ []) ∷ []

-- a union holds a punctuation back until the other input has one that covers it
abbrev pub united : List Node
united = fed ints ∷ fed ints ∷ record { inputs = 0 ∷ 1 ∷ []; operator = Union 2 (record { came = []; waiting = [] }) } ∷ []

abbrev pub UnitedRun : Type 0
UnitedRun =
    outputs_of false united (one_thread_of true united (
    (Tuple (int 5 ∷ int 0 ∷ []) ∷ Punct (Constant (int 5) ∷ wild ∷ []) ∷ []) ∷ (Tuple (int 5 ∷ int 0 ∷ []) ∷ Punct (Constant (int 5) ∷ Constant (int 0) ∷ []) ∷ []) ∷ []))
    ≡ RowOut (int 5 ∷ int 0 ∷ []) ∷ RowOut (int 5 ∷ int 0 ∷ []) ∷ PunctOut (Constant (int 5) ∷ Constant (int 0) ∷ []) ∷ PunctOut (Constant (int 5) ∷ wild ∷ [])
    ∷ PunctOut (wild ∷ wild ∷ []) ∷ PunctOut (wild ∷ wild ∷ []) ∷ []

-- ---- the punctuations of plans

-- those of each input of a join in turn, widened
abbrev pub JoinedPuncts : Type 0
JoinedPuncts =
    puncts_answer plan (map puncts_of (closed_lists plan lists))
    ≡ (Constant (int 1) ∷ wild ∷ wild ∷ wild ∷ []) ∷ (wild ∷ wild ∷ wild ∷ wild ∷ []) ∷ (wild ∷ wild ∷ Constant (int 1) ∷ wild ∷ []) ∷ (wild ∷ wild ∷ wild ∷ wild ∷ []) ∷ []

-- the second stream's rows that match a test and those of the first, cut to the second column, in groups
abbrev pub stacked : List Node
stacked =
    fed ints ∷ fed ints ∷ record { inputs = 1 ∷ []; operator = Select (wild ∷ Constant (int 3) ∷ []) }
    ∷ record { inputs = 0 ∷ 2 ∷ []; operator = Union 2 (record { came = []; waiting = [] }) }
    ∷ record { inputs = 3 ∷ []; operator = Project (1 ∷ 1 ∷ []) }
    ∷ record { inputs = 4 ∷ []; operator = Group (record { keys = 0 ∷ []; aggs = Count ∷ [] }) [] } ∷ []

-- the union has them all, the project those that are a wildcard in the first column, and the group those that are one in its second
abbrev pub StackedPuncts : Type 0
StackedPuncts =
    puncts_answers stacked (((Constant (int 1) ∷ wild ∷ []) ∷ (wild ∷ wild ∷ []) ∷ []) ∷ ((wild ∷ Constant (int 3) ∷ []) ∷ (wild ∷ wild ∷ []) ∷ []) ∷ [])
    ≡ ((Constant (int 1) ∷ wild ∷ []) ∷ (wild ∷ wild ∷ []) ∷ []) ∷ ((wild ∷ Constant (int 3) ∷ []) ∷ (wild ∷ wild ∷ []) ∷ [])
    ∷ ((wild ∷ Constant (int 3) ∷ []) ∷ (wild ∷ wild ∷ []) ∷ [])
    ∷ ((Constant (int 1) ∷ wild ∷ []) ∷ (wild ∷ wild ∷ []) ∷ (wild ∷ Constant (int 3) ∷ []) ∷ (wild ∷ wild ∷ []) ∷ [])
    ∷ ((wild ∷ wild ∷ []) ∷ (Constant (int 3) ∷ Constant (int 3) ∷ []) ∷ (wild ∷ wild ∷ []) ∷ [])
    ∷ ((wild ∷ wild ∷ []) ∷ (wild ∷ wild ∷ []) ∷ []) ∷ []

-- ---- climbs

-- two streams, their union, a selection of what begins with 1, and a projection on the second column
abbrev pub tree : List Node
tree =
    fed ints ∷ fed ints ∷ record { inputs = 0 ∷ 1 ∷ []; operator = Union 2 (record { came = []; waiting = [] }) }
    ∷ record { inputs = 2 ∷ []; operator = Select (Constant (int 1) ∷ wild ∷ []) } ∷ record { inputs = 3 ∷ []; operator = Project (1 ∷ []) } ∷ []

abbrev pub SecondStreamClimbs : Type 0
SecondStreamClimbs = above tree 1 ≡ Some (record { place = 2; input = 1 })

abbrev pub RootHasNoneAbove : Type 0
RootHasNoneAbove = above tree 4 ≡ None

abbrev pub bid : ℕ → Element
bid item = Tuple (int item ∷ int 50 ∷ [])

-- a row of the second stream that is selected climbs to the top
abbrev pub SelectedRowClimbs : Type 0
SelectedRowClimbs = (climb_of tree (Arrive 1 (bid 1))).brought ≡ [] ∷ [] ∷ (arriving 1 (bid 1) ∷ []) ∷ (arriving 0 (bid 1) ∷ []) ∷ (arriving 0 (bid 1) ∷ []) ∷ []

abbrev pub SelectedRowLeaves : Type 0
SelectedRowLeaves = (climb_of tree (Arrive 1 (bid 1))).left ≡ record { from = 4; elements = Tuple (int 50 ∷ []) ∷ [] }

-- one that is not selected ends at the selection
abbrev pub OtherRowEnds : Type 0
OtherRowEnds = (climb_of tree (Arrive 0 (bid 2))).brought ≡ [] ∷ [] ∷ (arriving 0 (bid 2) ∷ []) ∷ (arriving 0 (bid 2) ∷ []) ∷ [] ∷ []

abbrev pub OtherRowLeavesNothing : Type 0
OtherRowLeavesNothing = (climb_of tree (Arrive 0 (bid 2))).left.elements ≡ []

abbrev pub DrainClimbsNowhere : Type 0
DrainClimbsNowhere = (climb_of tree Drain).nodes ≡ tree
