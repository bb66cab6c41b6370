-- What values shared parts hold.
use Rattle.std.specs.Prelude.{List}
use Rattle.std.specs.List.{flat_map}
use Rattle.std.specs.Arc.{arc_value}
use Rattle.std.specs.declared.alloc.Global.{Global}
use Rattle.std.specs.declared.sync.Arc.{Arc}
use Rattle.pj_value.specs.declared.values.Value.{Value}

-- the values of all parts, in order
abbrev pub flat_parts : List (Arc (List Value) Global) → List Value
flat_parts parts = flat_map arc_value parts
