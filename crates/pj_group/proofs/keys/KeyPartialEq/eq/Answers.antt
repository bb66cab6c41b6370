use Rattle.std.proofs.Common.{ap₂, ◌∙◌}
use Rattle.pj_value.specs.Values.{row_eq}
use Rattle.pj_group.proofs.Equality.{same_is}
use Rattle.pj_group.proofs.keys.KeyPartialEq.eq.Goals as goal

pub returns : goal.returns
returns c = same_is c.same.result c.self.inside.row c.other.inside.row c.same.ensures ∙ ap₂ row_eq c.self.view_is c.other.view_is
