use Rattle.std.proofs.Common.{◌++◌, drop}
use Rattle.pj_cert.specs.Verdicts.{more_text}
use Rattle.pj_cert.proofs.Appended.{steps_more}
use Rattle.pj_cert.proofs.verdicts.append_more.Goals as goal

pub loop-n-preserved : goal.loop-n-preserved
loop-n-preserved c =
    steps_more c.args.schemes.now c.args.names.now c.loop-n.text c.append.new.self c.append_step.new.text (c.args.text.now ++ more_text c.args.schemes.now c.args.names.now (drop 1 c.args.cert.now))
    c.args.cert.now c.loop-n.n c.at.result.now c.loop-n.invariant c.at.ensures c.in_ok-append.ensures.ok c.in_ok-append_step.ensures
