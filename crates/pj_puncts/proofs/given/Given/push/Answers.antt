use Rattle.std.proofs.Common.{length, List, sym, subst, ◌∙◌, ◌≡◌, ◌<◌, ◌++◌, ◌∷◌, [], arith, refl}
use Rattle.pj_value.specs.declared.values.Value.{Value}
use Rattle.pj_puncts.specs.Givens.{lent}
use Rattle.pj_puncts.proofs.Lent.{lent_length, are_lent_push, lent_push}
use Rattle.pj_puncts.proofs.given.Given.push.Goals as goal

pub push-requires : goal.push-requires
push-requires c =
    let few : length c.args.self.now < 120 = c.requires in
    let same : length c.self.inside.values.items ≡ length c.args.self.now = sym (lent_length c.self.inside.values.items c.self.invariant) ∙ subst (λ (vs : List Value). length vs ≡ length c.args.self.now) (sym c.self.view_is) refl in
    omega (arith, few, same)

pub invariant_of-self : goal.invariant_of-self
invariant_of-self c = rw c.push.ensures.items (are_lent_push c.self.inside.values.items c.args.value.now c.self.invariant)

pub returns : goal.returns
returns c = subst (λ (vs : List Value). lent c.push.new.self.items ≡ vs ++ c.args.value.now ∷ []) c.self.view_is (rw c.push.ensures.items (lent_push c.self.inside.values.items c.args.value.now))
