-- How many elements come to a node of a plan in all, and what a limit on their number tells that is gone beyond.
use Rattle.std.specs.Prelude.{ℕ, ◌+◌, ◌<◌, ◌≡◌, true, List, [], ◌∷◌, map, length, slice_index_or}
use Rattle.pj_value.specs.declared.values.Value.{Value}
use Rattle.pj_events.specs.Patterns.{Pattern}
use Rattle.pj_events.specs.Join.{Element, rows_of, puncts_of}
use Rattle.pj_events.specs.Plan.{Node, nowhere, operator_at}
use Rattle.pj_events.specs.Outcomes.{answers_of, counts}
use Rattle.pj_events.specs.Limits.{ReachesLimit}
use Rattle.pj_events.specs.OneThread.{one_thread_of}
use Rattle.pj_events.specs.Punctuations.{puncts_answers}
use Rattle.pj_laws.specs.HistoryLaws.{AreAcceptedLists, closed_lists}

-- how many rows and punctuations these nodes have, by their numbers
abbrev pub counted_in : List (List (List Value)) → List (List (List Pattern)) → List ℕ → ℕ
counted_in rows puncts [] = 0
counted_in rows puncts (m ∷ ms) = length (slice_index_or rows m []) + length (slice_index_or puncts m []) + counted_in rows puncts ms

-- how many elements come to a node in all, where these rows and these punctuations arrive at the streams: the rows of its inputs'
-- answers, and its inputs' punctuations
abbrev pub elements_to : List Node → List (List (List Value)) → List (List (List Pattern)) → ℕ → ℕ
elements_to plan rows puncts n = counted_in (answers_of plan rows) (puncts_answers plan puncts) (slice_index_or plan n nowhere).inputs

-- the node is one of those that count what reaches them: a join or a group
abbrev pub IsCounted : List Node → ℕ → Type 0
IsCounted plan n = counts (operator_at plan n) ≡ true

-- Where the run on one thread goes beyond a limit, it does so at a join or a group, and more elements come to that in all
abbrev pub LimitsTell : List Node → Type 0
LimitsTell plan =
    (lists : List (List Element)) → AreAcceptedLists plan lists → (limit node : ℕ) → ReachesLimit limit plan (one_thread_of true plan lists) node
    → IsCounted plan node × (limit < elements_to plan (map rows_of lists) (map puncts_of (closed_lists plan lists)) node)
