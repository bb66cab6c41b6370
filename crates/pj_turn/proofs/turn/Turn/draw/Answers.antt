use Rattle.std.proofs.Common.{rules}
use Rattle.atomic_table.specs.Table.{step}
use mathlib.Core.Option.{none}
use Rattle.pj_turn.proofs.Steps.{draws}
use Rattle.pj_turn.proofs.turn.Turn.draw.Goals as goal

pub fetch_add-requires : goal.fetch_add-requires
fetch_add-requires g c = (search rules, search rules, draws _ _ _ _ _ _ (step 0 0 0 0 none) c.requires.idle.0 c.requires.idle.1)
