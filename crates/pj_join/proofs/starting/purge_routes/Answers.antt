use Rattle.pj_recheck.specs.Judging.{join_data}
use Rattle.pj_join.proofs.Purged.{purge_made, purges_more}
use Rattle.pj_join.proofs.starting.purge_routes.Goals as goal

pub loop-input-preserved : goal.loop-input-preserved
loop-input-preserved c =
    purges_more (join_data c.args.spec.now c.args.schemes.now c.args.certs.now) c.loop-input.input c.loop-input.routes.items c.push.new.self.items c.purge_route.result c.loop-input.invariant
    (purge_made (join_data c.args.spec.now c.args.schemes.now c.args.certs.now) c.loop-input.input c.cert_of-cert.result.now c.purge_route.result c.cert_of-cert.ensures c.purge_route.ensures) c.in_ok-push.ensures.items
