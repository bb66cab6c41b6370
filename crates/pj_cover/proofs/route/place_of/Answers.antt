use Rattle.std.proofs.Common.{ℕ, ◌≡◌, subst, refl, take}
use Rattle.pj_value.specs.Lists.{In}
use Rattle.pj_cover.proofs.Making.{taken_more}
use Rattle.pj_cover.proofs.route.place_of.Goals as goal

pub loop-place-preserved : goal.loop-place-preserved
loop-place-preserved c h = taken_more (λ (n : ℕ). n ≡ c.args.input → ⊥) c.args.known.now c.loop-place.place 0 c.loop-place-test.true (λ n k e. c.loop-place.invariant (subst (λ (m : ℕ). In m (take c.loop-place.place c.args.known.now)) e k)) c.if-known-place.false c.args.input h refl
