use Rattle.std.proofs.Common.{ap, sym}
use Rattle.pj_recheck.specs.Watching.{PathView}
use Rattle.pj_recheck.proofs.Backward.{input_step}
use Rattle.pj_recheck.proofs.compiling.Path.input_at.Goals as goal

pub returns : goal.returns
returns c = input_step c.args.self.now c.self.inside.schemes.now c.self.inside.cert.now c.args.at c.at.result.now (ap (λ (p : PathView). p.cert) (sym c.self.view_is)) c.if-at-eq0.false c.at.ensures
