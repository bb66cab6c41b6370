use Rattle.std.proofs.Common.{◌++◌}
use Rattle.std.specs.List.{concat}
use Rattle.pj_cert.specs.Partners.{partners_of}
use Rattle.pj_cert.proofs.Appended.{partners_more}
use Rattle.pj_cert.proofs.partners.append_partners.Goals as goal

pub loop-other-preserved : goal.loop-other-preserved
loop-other-preserved c =
    partners_more c.args.names.now c.args.input c.loop-other.text c.append_other.new.text (c.args.text.now ++ concat (partners_of c.args.names.now c.args.input c.args.rows.now)) c.args.rows.now
    c.loop-other.other c.index-rows-other.result c.loop-other.invariant c.loop-other-test.true c.index-rows-other.is c.in_ok-append_other.ensures
