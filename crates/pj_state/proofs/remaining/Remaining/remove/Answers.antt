use Rattle.std.proofs.Common.{List, drop, refl, ap, ◌∙◌}
use Rattle.std.specs.List.{remove}
use Rattle.pj_state.proofs.Passed.{drop-remove}
use Rattle.pj_state.proofs.remaining.Remaining.remove.Goals as goal

pub returns-then-at-gt0-clause-left : goal.returns-then-at-gt0-clause-left
returns-then-at-gt0-clause-left g c =
    ap (drop c.self.inside.start) c.remove.ensures.items
    ∙ (drop-remove c.self.inside.list.items c.self.inside.start c.args.at _ refl ∙ ap (λ (xs : List _). remove xs c.args.at) c.self.view_is)
