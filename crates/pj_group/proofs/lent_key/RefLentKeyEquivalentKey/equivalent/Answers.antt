use Rattle.std.proofs.Common.{◌∙◌, ap}
use Rattle.pj_value.specs.Values.{row_eq}
use Rattle.pj_group.proofs.Equality.{same_is}
use Rattle.pj_group.proofs.lent_key.RefLentKeyEquivalentKey.equivalent.Goals as goal

pub returns : goal.returns
returns c = same_is c.is.result c.args.self.now.now c.row.result.now c.is.ensures ∙ ap (row_eq c.args.self.now.now) c.row.ensures
