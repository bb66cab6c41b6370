use Rattle.pj_value.proofs.Printable.{spelling_is}
use Rattle.pj_value.proofs.laws.spellings_are_printable.Goals as goal

pub returns : goal.returns
returns c = spelling_is
