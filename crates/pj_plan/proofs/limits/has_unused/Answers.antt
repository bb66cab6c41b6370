use Rattle.std.proofs.Common.{rules, ◌∷◌, sym, ◌∙◌}
use Rattle.pj_plan.specs.Faults.{uses}
use Rattle.pj_plan.proofs.Unused.{unused_on, unused_found}
use Rattle.pj_plan.proofs.limits.has_unused.Goals as goal

pub returns-then-not-is_needed : goal.returns-then-not-is_needed
returns-then-not-is_needed c = sym (c.loop-number.invariant ∙ unused_found (c.args.output ∷ uses c.args.draft.now) c.loop-number.number c.args.draft.now.nodes (search rules) (search rules))

pub loop-number-preserved : goal.loop-number-preserved
loop-number-preserved c = c.loop-number.invariant ∙ unused_on (c.args.output ∷ uses c.args.draft.now) c.loop-number.number c.args.draft.now.nodes (search rules) (search rules)
