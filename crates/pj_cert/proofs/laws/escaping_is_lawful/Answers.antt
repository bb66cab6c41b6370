use Rattle.pj_cert.proofs.EscapingRows.{they_escape}
use Rattle.pj_cert.proofs.laws.escaping_is_lawful.Goals as goal

pub returns : goal.returns
returns c = they_escape
