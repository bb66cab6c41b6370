use Rattle.std.proofs.Common.{rules}
use Rattle.atomic_table.specs.Table.{step}
use mathlib.Core.Option.{none}
use Rattle.pj_turn.proofs.Steps.{looks}
use Rattle.pj_turn.proofs.turn.Turn.look.Goals as goal

pub load-requires : goal.load-requires
load-requires g c = (search rules, search rules, looks _ _ _ _ _ _ (step 0 0 0 0 none) c.requires.waits.0 c.requires.waits.1 c.requires.waits.2)
