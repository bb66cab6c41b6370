use Rattle.std.proofs.Common.{sym}
use Rattle.std.proofs.lemmas.Bool.{ltb-true}
use Rattle.pj_puncts.proofs.Last.{one_of}
use Rattle.pj_puncts.proofs.index.Index.last_like.Goals as goal

pub returns-in-Some-get : goal.returns-in-Some-get
returns-in-Some-get c = one_of c.args.kept.now c.in-Some-last_in_set.at c.in-Some-get.one.now (ltb-true c.in-Some-last_in_set.at _ (sym c.in-Some-get.ensures.lookup.0)) c.in-Some-get.ensures.lookup.1
