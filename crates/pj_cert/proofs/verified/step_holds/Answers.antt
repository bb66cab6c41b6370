use Rattle.std.proofs.Common.{◌≡◌, ◌≤◌, Bool, false, not, ◌&&◌, List, [], length, get_or, sym, ap, subst, ◌∙◌, All}
use Rattle.std.proofs.lemmas.Option.{get_or_from_slice_get}
use Rattle.pj_shape.specs.declared.joins.ClassCol.{ClassCol}
use Rattle.pj_cert.specs.Tests.{can_use}
use Rattle.pj_cert.proofs.ClosedSets.{short_at}
use Rattle.pj_value.specs.Lists.{has}
use Rattle.pj_cert.proofs.verified.step_holds.Goals as goal

pub can_use-requires : goal.can_use-requires
can_use-requires c =
    subst (λ (list : List (List Bool)). All (λ (marks : List Bool). length marks ≤ 120) list) (sym c.as_slice-list.ensures)
    (short_at c.args.spec.now.inputs c.args.schemes.now c.args.step.input c.at.result.now c.requires.fitting c.requires.sound.few_columns c.at.ensures)

pub returns : goal.returns
returns c =
    let new : has c.args.known.now c.args.step.input ≡ false = sym c.is_among.ensures ∙ c.if-is_among.false in
    c.can_use.ensures
    ∙ ap (λ (classes : List (List ClassCol)). can_use classes c.args.known.now c.args.step.input c.as_slice-list.result.now c.args.step.scheme) c.as_slice.ensures
    ∙ ap (λ (list : List (List Bool)). can_use c.args.spec.now.classes c.args.known.now c.args.step.input list c.args.step.scheme)
    (c.as_slice-list.ensures ∙ sym (get_or_from_slice_get c.args.schemes.now c.args.step.input c.at.result.now [] c.at.ensures))
    ∙ sym (ap (λ (b : Bool). not b && can_use c.args.spec.now.classes c.args.known.now c.args.step.input (get_or c.args.schemes.now c.args.step.input []) c.args.step.scheme) new)
