use Rattle.std.proofs.Common.{Bool, List, ◌++◌, append-nil, sym, ap, ◌∙◌, arith}
use Rattle.pj_scheme.proofs.Turns.{joined_end}
use Rattle.pj_scheme.proofs.operators.joined.Goals as goal

pub returns : goal.returns
returns c =
    sym (append-nil c.loop-at.schemes)
    ∙ ap (λ (rest : List (List Bool)). c.loop-at.schemes ++ rest) (sym (joined_end c.loop-at.before c.loop-at.at c.args.schemas.now c.args.done.now c.args.inputs.now (omega arith)))
    ∙ c.loop-at.invariant.1
