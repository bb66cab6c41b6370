use Rattle.std.proofs.Common.{◌≡◌, ◌∙◌, true, List, ap, get_or, length, subst, sym}
use Rattle.pj_events.specs.Join.{ClassCol, joins}
use Rattle.pj_shape.specs.Joining.{parts_on}
use Rattle.pj_probe.specs.declared.checks.Check.{Check}
use Rattle.pj_probe.proofs.Checked.{fit_is}
use Rattle.pj_probe.proofs.checks.JoinChecks.fit.Goals as goal

pub returns : goal.returns
returns c =
    rw (← c.self.view_is)
    (c.all_hold.ensures
    ∙ fit_is c.self.inside.classes c.self.inside.of_inputs c.as_slice-2.result.now c.args.rows.now c.args.row.now c.index-as_slice-rows.result c.self.invariant c.requires.few
    (c.as_slice-2.ensures ∙ c.index-as_slice-rows.is ∙ ap (λ (lists : List (List Check)). get_or lists (length c.args.rows.now) c.index-as_slice-rows.result) c.as_slice.ensures)
    (subst (λ (classes : List (List ClassCol)). joins classes (parts_on 0 c.args.rows.now) ≡ true) (sym c.self.view_is) c.requires.before))
