use Rattle.std.proofs.Common.{List, ℕ, inl, subst, sym}
use Rattle.pj_value.specs.Lists.{In}
use Rattle.pj_cover.proofs.Searching.{in_here}
use Rattle.pj_cover.proofs.route.is_fixed.Goals as goal

pub returns-in-Some : goal.returns-in-Some
returns-in-Some c told at h same =
    let from = c.in-Some.ensures in
    (record { input = from.0; column = _ }, from.2, in_here c.args.known.now _ from.0 from.1)

pub returns-in-None-source_in : goal.returns-in-None-source_in
returns-in-None-source_in c told at h same = absurd (c.in-None-source_in.ensures at h (subst (λ (ns : List ℕ). In at.input ns) (sym c.from_ref.ensures.value) (inl (sym same))))
