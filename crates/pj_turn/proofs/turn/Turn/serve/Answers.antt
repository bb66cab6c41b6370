use Rattle.std.proofs.Common.{rules}
use Rattle.atomic_table.specs.Table.{step}
use mathlib.Core.Option.{none}
use Rattle.pj_turn.proofs.Steps.{gives_back}
use Rattle.pj_turn.proofs.turn.Turn.serve.Goals as goal

pub fetch_add-requires : goal.fetch_add-requires
fetch_add-requires g c =
    let turn = c.requires.turn in
    let holds = c.requires.holds in
    (search rules, search rules, gives_back _ _ _ _ _ _ (step 0 0 0 0 none) holds.0 _ turn.0 turn.1 turn.2 holds.1 holds.2 holds.3)
