-- What was handed out is final, however the streams go on lawfully.
use Rattle.std.specs.Prelude.{ℕ, ◌<◌, ◌≡◌, Bool, List, [], ◌++◌, map, length, slice_index_or}
use Rattle.pj_pattern.specs.Elements.{rows_of}
use Rattle.pj_pattern.specs.declared.element.Element.{Element}
use Rattle.pj_pattern.specs.declared.element.Element.TheVariants.{Tuple}
use Rattle.pj_shape.specs.declared.columns.Column.{Column}
use Rattle.pj_value.specs.Bags.{SameBag, SubBag}
use Rattle.pj_value.specs.Lists.{In}
use Rattle.pj_value.specs.declared.values.Value.{Value}
use Rattle.pj_events.specs.Plan.{Node, HasGiven, IsClearOf, operator_at}
use Rattle.pj_events.specs.declared.events.Entry.{Entry}
use Rattle.pj_events.specs.History.{IsLegal, nodes_from, streams_of}
use Rattle.pj_events.specs.Outcomes.{answer_of, elements_of, elements_out, lists_of, outputs_of, rows_out}
use Rattle.pj_laws.specs.HistoryLaws.{AreAcceptedLists, schema_at}

-- These rows begin with those that arrived at a stream of these columns. Each that comes later has as many columns, and
-- matches no punctuation that arrived
pub record GoesOnLawfully (schema : List Column) (arrived : List Element) (rows : List (List Value)) : Type 0 where
  pub later : List (List Value)
  pub whole : rows ≡ rows_of arrived ++ later
  pub fit : (row : List Value) → In row later → length row ≡ length schema
  pub clear : (row : List Value) → In row later → IsClearOf arrived (Tuple row)

-- each stream goes on lawfully to one of these lists
abbrev pub GoOnLawfully : List Node → List Entry → List (List (List Value)) → Type 0
GoOnLawfully plan history lists =
    (stream : ℕ) → stream < length (streams_of plan) → GoesOnLawfully (schema_at plan stream) (elements_of stream history) (slice_index_or lists stream [])

-- each of these lists begins with the elements that arrived at its stream
abbrev pub BeginWithArrived : List Node → List Entry → List (List Element) → Type 0
BeginWithArrived plan history lists =
    (stream : ℕ) → stream < length (streams_of plan) → (later : List Element) × (slice_index_or lists stream [] ≡ elements_of stream history ++ later)

-- What was handed out begins an answer: with some more rows its rows are the answer's, as a bag, and none of these matches
-- a punctuation that was handed out
pub record Begins (out : List Element) (answer : List (List Value)) : Type 0 where
  pub later : List (List Value)
  pub whole : SameBag (rows_of out ++ later) answer
  pub clear : (row : List Value) → In row later → IsClearOf out (Tuple row)

-- However the streams go on lawfully, what was handed out so far begins the answer over the whole: rows and punctuations are final
abbrev pub AnswerGoesOn : List Node → Type 0
AnswerGoesOn plan =
    (trace : Bool) (history : List Entry) → IsLegal plan history → (lists : List (List (List Value))) → GoOnLawfully plan history lists
    → Begins (elements_out (outputs_of trace plan history)) (answer_of plan lists)

-- However the streams go on lawfully, the rows handed out so far are among those of the answer over the whole, as bags, those of
-- groups too
abbrev pub IsFinal : List Node → Type 0
IsFinal plan =
    (trace : Bool) (history : List Entry) → IsLegal plan history → (lists : List (List (List Value))) → GoOnLawfully plan history lists
    → SubBag (rows_out (outputs_of trace plan history)) (answer_of plan lists)

-- The same where all elements of each stream are accepted, those that arrived first
abbrev pub IsFinalWhereAccepted : List Node → Type 0
IsFinalWhereAccepted plan =
    (trace : Bool) (history : List Entry) → IsLegal plan history → (lists : List (List Element)) → AreAcceptedLists plan lists → BeginWithArrived plan history lists
    → SubBag (rows_out (outputs_of trace plan history)) (answer_of plan (map rows_of lists))

-- The same where all streams are closed at once: the rows handed out are among those of the answer over what arrived
abbrev pub IsAmongArrived : List Node → Type 0
IsAmongArrived plan =
    (trace : Bool) (history : List Entry) → IsLegal plan history → SubBag (rows_out (outputs_of trace plan history)) (answer_of plan (lists_of plan history))

-- ---- groups that hold no row

-- every tuple at every join is given, and no group holds a row
abbrev pub AllHaveGiven : List Node → List Entry → Type 0
AllHaveGiven plan history = (n : ℕ) → n < length plan → HasGiven (operator_at (nodes_from plan history) n)

-- Then the rows handed out, with or without sweeps, are the nested-loop answer over all that arrived, as a bag
abbrev pub EmptiedIsAnswer : List Node → Type 0
EmptiedIsAnswer plan =
    (trace : Bool) (history : List Entry) → IsLegal plan history → AllHaveGiven plan history
    → SameBag (rows_out (outputs_of trace plan history)) (answer_of plan (lists_of plan history))
