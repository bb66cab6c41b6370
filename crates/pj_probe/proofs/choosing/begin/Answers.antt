use Rattle.std.proofs.Common.{ap, eqb}
use Rattle.pj_probe.proofs.Hopped.{begun_more}
use Rattle.pj_probe.proofs.choosing.begin.Goals as goal

pub loop-input-preserved : goal.loop-input-preserved
loop-input-preserved c =
    begun_more c.args.own.now c.loop-input.input c.loop-input.lists.items c.push.new.self.items (eqb c.loop-input.input c.input.result) c.in_ok-alone_if.field-0 c.loop-input.invariant
    (ap (λ n. eqb c.loop-input.input n) c.input.ensures) c.in_ok-alone_if.ensures.own c.in_ok-alone_if.ensures.other c.in_ok-push.ensures.items
