-- The tickets of the rows that have one value.
use Rattle.std.specs.Prelude.{ℕ, List, []}
use Rattle.pj_state.specs.declared.tickets.Held.{Held}
use Rattle.pj_state.specs.declared.tickets.Held.TheVariants.{Nothing, One, Several}

-- none, one, or what a list has left
abbrev pub tickets_in : Held → List ℕ
tickets_in Nothing = []
tickets_in (One tickets) = tickets
tickets_in (Several list) = list.value
