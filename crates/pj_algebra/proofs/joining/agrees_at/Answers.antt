use Rattle.std.proofs.Common.{sym, ◌∙◌}
use Rattle.std.specs.Option.{option_copied}
use Rattle.pj_algebra.proofs.Combinations.{no_row_agrees, row_agrees}
use Rattle.pj_algebra.proofs.joining.agrees_at.Goals as goal

pub returns-in-None : goal.returns-in-None
returns-in-None c = sym (no_row_agrees c.args.rows.now c.args.class.now c.args.at c.in-None.ensures.lookup.3)

pub returns-in-Some : goal.returns-in-Some
returns-in-Some c =
    c.equals_all.ensures ∙ sym (row_agrees c.args.rows.now c.args.class.now c.args.at c.in-Some.row.now (option_copied c.get-in-Some.result) c.in-Some.ensures.lookup.3.0 c.in-Some.ensures.lookup.1 c.get-in-Some.ensures)
