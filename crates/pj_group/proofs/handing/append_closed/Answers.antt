use Rattle.std.proofs.Common.{◌++◌, ap, sym, ◌∙◌, rules}
use Rattle.pj_group.proofs.OpenGroups.{only_closed}
use Rattle.pj_group.proofs.handing.append_closed.Goals as goal

pub returns-in_ok-append_one-in-One-clause-ok : goal.returns-in_ok-append_one-in-One-clause-ok
returns-in_ok-append_one-in-One-clause-ok c =
    c.in_ok-append_one-in-One.ensures.ok
    ∙ ap (λ es. c.args.out.now ++ es) (sym (only_closed c.args.kept.now c.in-One.key c.args.slots.now.entries (search rules) c.requires.apart).0)
