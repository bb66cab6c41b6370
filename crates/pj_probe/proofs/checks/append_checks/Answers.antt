use Rattle.pj_probe.proofs.Checked.{class_by_source}
use Rattle.pj_probe.proofs.checks.append_checks.Goals as goal

pub returns-in_ok-append_from-in-Some : goal.returns-in_ok-append_from-in-Some
returns-in_ok-append_from-in-Some c =
    class_by_source c.args.class.now c.args.input c.in-Some.from c.args.checks.now c.append_from.new.checks c.in-Some.ensures c.in_ok-append_from-in-Some.ensures
