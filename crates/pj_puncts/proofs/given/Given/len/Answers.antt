use Rattle.std.proofs.Common.{length, List, sym, subst, ◌∙◌, ◌≡◌}
use Rattle.pj_value.specs.declared.values.Value.{Value}
use Rattle.pj_puncts.proofs.Lent.{lent_length}
use Rattle.pj_puncts.proofs.given.Given.len.Goals as goal

pub returns : goal.returns
returns c = subst (λ (vs : List Value). c.len.result ≡ length vs) c.self.view_is (c.len.ensures.value ∙ sym (lent_length c.self.inside.values.items c.self.invariant))
