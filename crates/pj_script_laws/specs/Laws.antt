-- What the history of a script comes to.
use Rattle.std.specs.Prelude.{ℕ, ◌<◌, ◌≡◌, Bool, false, List, ◌++◌, map, length, None}
use Rattle.pj_value.specs.Bags.{SameBag}
use Rattle.pj_pattern.specs.declared.element.Element.{Element}
use Rattle.pj_pattern.specs.Elements.{IsLawful}
use Rattle.pj_events.specs.declared.events.Entry.{Entry}
use Rattle.pj_events.specs.Join.{puncts_of, rows_of}
use Rattle.pj_events.specs.Plan.{Node}
use Rattle.pj_events.specs.History.{IsComplete, IsLegal, IsOn, reached_of, streams_of}
use Rattle.pj_events.specs.Limits.{ReachesLimit}
use Rattle.pj_events.specs.Outcomes.{answer_of, elements_of, elements_out, outputs_of, rows_out}
use Rattle.pj_events.specs.Punctuations.{puncts_answer}
use Rattle.pj_laws.specs.HistoryLaws.{AreAcceptedLists, closed_list, closed_lists}
use Rattle.pj_laws.specs.Reaching.{IsCounted, elements_to}
use Rattle.pj_script.specs.declared.step.ScriptStep.{ScriptStep}
use Rattle.pj_script.specs.Playing.{AllFit, played_of, scripted_of}

-- what arrived at the stream is a front of its elements and its closing
abbrev pub BringsFront : List Node → List (List Element) → List Entry → ℕ → Type 0
BringsFront plan lists history stream = (others : List Element) × ((elements_of stream history ++ others) ≡ closed_list plan lists stream)

-- The history is legal and nothing stopped, and of each stream a front of its elements and its closing arrived
pub record IsFrontOf (plan : List Node) (lists : List (List Element)) (history : List Entry) : Type 0 where
  pub legal : IsLegal plan history
  pub on : IsOn (reached_of false plan history)
  pub arrived : (stream : ℕ) → stream < length (streams_of plan) → BringsFront plan lists history stream

-- Of each stream all elements and its closing arrived, and the history is complete
pub record IsWholeOf (plan : List Node) (lists : List (List Element)) (history : List Entry) : Type 0 where
  pub complete : IsComplete plan history
  pub arrived : (stream : ℕ) → stream < length (streams_of plan) → elements_of stream history ≡ closed_list plan lists stream

-- The rows that the history hands out are the answer over the elements' rows, and its punctuations are the plan's over those of the
-- elements and the closings, as bags
pub record HandsOutAnswer (trace : Bool) (plan : List Node) (lists : List (List Element)) (history : List Entry) : Type 0 where
  pub rows : SameBag (rows_out (outputs_of trace plan history)) (answer_of plan (map rows_of lists))
  pub punctuations : SameBag (puncts_of (elements_out (outputs_of trace plan history))) (puncts_answer plan (map puncts_of (closed_lists plan lists)))

-- ---- scripts

-- the elements of each stream are accepted, and the steps fit the plan
pub record MayPlay (plan : List Node) (lists : List (List Element)) (steps : List (ℕ × ScriptStep)) : Type 0 where
  pub accepted : AreAcceptedLists plan lists
  pub fit : AllFit plan steps

-- every step of the script is enabled
abbrev pub AllAreEnabled : List Node → List (List Element) → List (ℕ × ScriptStep) → Type 0
AllAreEnabled plan lists steps = (played_of plan lists steps).refused ≡ None

-- The history of a script is legal and stops nowhere, also where a step is not enabled
abbrev pub ScriptedIsLegal : List Node → Type 0
ScriptedIsLegal plan = (lists : List (List Element)) (steps : List (ℕ × ScriptStep)) → MayPlay plan lists steps → IsFrontOf plan lists (scripted_of plan lists steps)

-- Where every step is enabled, it is complete, and all elements and closings arrived
abbrev pub ScriptedIsComplete : List Node → Type 0
ScriptedIsComplete plan =
    (lists : List (List Element)) (steps : List (ℕ × ScriptStep)) → MayPlay plan lists steps → AllAreEnabled plan lists steps
    → IsWholeOf plan lists (scripted_of plan lists steps)

-- Then it hands out the answer, with a trace or without, whatever the order of its steps
abbrev pub ScriptedIsAnswer : List Node → Type 0
ScriptedIsAnswer plan =
    (lists : List (List Element)) (steps : List (ℕ × ScriptStep)) → MayPlay plan lists steps → AllAreEnabled plan lists steps → (trace : Bool)
    → HandsOutAnswer trace plan lists (scripted_of plan lists steps)

-- What it hands out is lawful, also where a step is not enabled: no row matches a punctuation before it
abbrev pub ScriptedIsLawful : List Node → Type 0
ScriptedIsLawful plan =
    (lists : List (List Element)) (steps : List (ℕ × ScriptStep)) → MayPlay plan lists steps → (trace : Bool)
    → IsLawful (elements_out (outputs_of trace plan (scripted_of plan lists steps)))

-- Where the history goes beyond a limit, it does so at a join or a group, and more elements come to that in all, also where a step is
-- not enabled
abbrev pub ScriptedLimitsTell : List Node → Type 0
ScriptedLimitsTell plan =
    (lists : List (List Element)) (steps : List (ℕ × ScriptStep)) → MayPlay plan lists steps → (limit node : ℕ) → ReachesLimit limit plan (scripted_of plan lists steps) node
    → IsCounted plan node × (limit < elements_to plan (map rows_of lists) (map puncts_of (closed_lists plan lists)) node)
