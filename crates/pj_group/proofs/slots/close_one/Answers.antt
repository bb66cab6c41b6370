use Rattle.std.proofs.Common.{None, ap, sym, ◌∙◌}
use Rattle.pj_group.proofs.OpenGroups.{set_none}
use Rattle.pj_group.proofs.slots.close_one.Goals as goal

pub returns-in-None : goal.returns-in-None
returns-in-None c = ap (λ m. m.entries) c.get_mut.follows.holds-at-none ∙ sym (set_none c.args.key.now None c.args.slots.now.entries (sym c.in-None.ensures.value))
