-- A few numbers in order.
use Rattle.std.specs.Prelude.{ℕ, List}
use Rattle.pj_puncts.specs.declared.number_list.Held.{Held}
use Rattle.pj_puncts.specs.declared.number_list.Held.TheVariants.{One, Several}

-- one, or those of a list
abbrev pub held_in : Held → List ℕ
held_in (One numbers) = numbers
held_in (Several list) = list.value
