use Rattle.std.proofs.Common.{◌≡◌, true, List, ℕ, sym, subst}
use Rattle.pj_graph.specs.Reaching.{IsReach}
use Rattle.pj_judge.proofs.Inputs.{inside}
use Rattle.pj_value.specs.Lists.{has}
use Rattle.pj_judge.proofs.check.append_partners.Goals as goal

pub append_stuck-requires-clause-inside : goal.append_stuck-requires-clause-inside
append_stuck-requires-clause-inside c =
    subst (λ (ks : List ℕ). has ks c.args.input ≡ true) (sym c.as_slice.ensures)
    (inside c.args.asked.now c.args.input c.in-Stuck.missing c.in-Stuck.reached c.requires.input
    (subst (IsReach c.args.asked.now.spec c.args.asked.now.schemes c.args.input) c.in-Stuck.is c.requires.found))
