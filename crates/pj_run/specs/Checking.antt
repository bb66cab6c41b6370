-- The rows that are kept of each stream for a check.
use Rattle.std.specs.Prelude.{ℕ, ◌≡◌, ◌<◌, ⊤, List, [], ◌∷◌, ◌++◌, length, set, slice_index_or}
use Rattle.pj_value.specs.declared.values.Value.{Value}
use Rattle.pj_pattern.specs.declared.element.Element.{Element}
use Rattle.pj_pattern.specs.declared.element.Element.TheVariants.{Tuple, Punct}
use Rattle.pj_feed.specs.declared.feeds.Arrival.{Arrival}
use Rattle.pj_feed.specs.declared.feeds.Arrival.TheVariants.{Brought, Closing}

-- so many lists without rows
abbrev pub HoldsNone : ℕ → List (List (List Value)) → Type 0
HoldsNone streams lists = (length lists ≡ streams) × ((stream : ℕ) → slice_index_or lists stream [] ≡ [])

-- the lists with the row of an element of this stream, if it is one
abbrev pub with_element : ℕ → Element → List (List (List Value)) → List (List (List Value))
with_element stream (Tuple row) lists = set lists stream (slice_index_or lists stream [] ++ row ∷ [])
with_element stream (Punct punct) lists = lists

-- the lists with the row that a turn brings, if it brings one
abbrev pub with_arrival : Arrival → List (List (List Value)) → List (List (List Value))
with_arrival (Brought stream element) lists = with_element stream element lists
with_arrival (Closing stream) lists = lists

-- there is a list for the stream of what a turn brings
abbrev pub IsThere : Arrival → List (List (List Value)) → Type 0
IsThere (Brought stream element) lists = stream < length lists
IsThere (Closing stream) lists = ⊤
