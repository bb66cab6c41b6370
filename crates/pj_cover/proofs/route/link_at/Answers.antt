use Rattle.std.proofs.Common.{List, subst, sym}
use Rattle.pj_value.specs.Lists.{In}
use Rattle.pj_events.specs.Join.{ClassCol}
use Rattle.pj_cover.proofs.route.link_at.Goals as goal

pub returns-in-None : goal.returns-in-None
returns-in-None c at h = c.in-None.ensures at (subst (λ (ats : List ClassCol). In at ats) (sym c.class_with.ensures) h)
