use Rattle.std.proofs.Common.{◌≡◌, arith, rules, subst, sym, ◌∙◌, ap}
use Rattle.std.proofs.lemmas.Int.{ints}
use Rattle.std.specs.BTreeSet.{contains}
use Rattle.std.specs.Ordering.{int_cmp}
use Rattle.std.specs.Prelude.{ℤ, Option, Some}
use mir.Val.{SFits, of_z, to_z}
use mir.Syntax.{w64}
use Rattle.pj_state.specs.Least.{IsGreatest, TellsNearest}
use Rattle.pj_state.specs.declared.state.NextNumber.TheVariants.{At}
use Rattle.pj_state.specs.declared.state.Seek.{Seek}
use Rattle.pj_state.specs.declared.state.Seek.TheVariants.{AtMost}
use Rattle.pj_state.proofs.Orders.{last-greatest}
use Rattle.pj_state.proofs.numbers.nearest.Goals as goal

pub returns-in-Some-next_back : goal.returns-in-Some-next_back
returns-in-Some-next_back c =
    let fits : SFits w64 c.in-Some-to.to = search rules in
    let same : to_z w64 (of_z w64 c.in-Some-to.to) ≡ c.in-Some-to.to = omega (arith, ints, fits) in
    let n-fits : SFits w64 c.in-Some-next_back.number.now = search rules in
    let n-same : to_z w64 (of_z w64 c.in-Some-next_back.number.now) ≡ c.in-Some-next_back.number.now = omega (arith, ints, n-fits) in
    subst (λ (seek : Seek). TellsNearest (contains int_cmp c.args.order.now) seek (At (to_z w64 (of_z w64 c.in-Some-next_back.number.now))))
    (ap (λ (q : ℤ). AtMost (Some q)) same ∙ (ap (λ (o : Option ℤ). AtMost o) (sym c.in-Some-to.is) ∙ sym c.in-AtMost.is))
    (subst (λ (n : ℤ). IsGreatest (contains int_cmp c.args.order.now) (Some (to_z w64 (of_z w64 c.in-Some-to.to))) n) (sym n-same)
    (last-greatest c.args.order.now (to_z w64 (of_z w64 c.in-Some-to.to)) c.in-Some-next_back.number.now c.range-in-Some-to.result c.next_back.new.self (c.range-in-Some-to.ensures.in_range tt) c.in-Some-next_back.ensures.steps))
