use Rattle.std.proofs.Common.{◌<◌, arith}
use Rattle.std.specs.Arc.{arc_value}
use Rattle.pj_events.specs.Join.{inputs}
use Rattle.pj_recheck.specs.Judging.{join_data}
use Rattle.pj_join.proofs.join.Join.punct.Goals as goal

pub index-requires : goal.index-requires
index-requires c =
    let lt : c.args.input < inputs c.args.self.now.spec = c.requires.fits.0 in
    let there : c.args.input < inputs (join_data (arc_value c.self.inside.spec) c.self.inside.schemes c.self.inside.certs) = rw (← c.self.view_is) at lt in
    omega (arith, there, c.self.invariant.4.long, c.self.inside.rechecks.ok)
