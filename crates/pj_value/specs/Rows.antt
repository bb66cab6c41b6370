-- What values a row holds.
use Rattle.std.specs.Prelude.{List}
use Rattle.std.specs.Arc.{arc_value}
use Rattle.pj_value.specs.declared.rows.Parts.{Parts}
use Rattle.pj_value.specs.declared.rows.Parts.TheVariants.{Own, Shared, Both, Joined}
use Rattle.pj_value.specs.declared.values.Value.{Value}

-- its values, wherever they stand
abbrev pub values_in : Parts → List Value
values_in (Own values) = values
values_in (Shared part) = arc_value part
values_in (Both pair) = pair
values_in (Joined parts) = parts
