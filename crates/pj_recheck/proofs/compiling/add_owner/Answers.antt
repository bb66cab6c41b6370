use Rattle.std.proofs.Common.{[], ap, get_or, length, subst, ◌∙◌}
use Rattle.pj_cover.specs.Asking.{entries}
use Rattle.pj_events.specs.Join.{JoinData}
use Rattle.pj_recheck.specs.Recheck.{BacksFit, HaveBacks, HaveRoutes, RoutesFit}
use Rattle.pj_recheck.specs.Watching.{PathView, asker}
use Rattle.pj_recheck.proofs.Compiled.{lead_next}
use Rattle.pj_recheck.proofs.compiling.add_owner.Goals as goal

pub returns-in_ok-add_backs-in-Some : goal.returns-in_ok-add_backs-in-Some
returns-in_ok-add_backs-in-Some c =
    lead_next c.args.join.now c.args.row_states.now c.args.input c.args.owner c.args.routes.now (record { recheck = c.add_routes.new.routes; back = c.add_backs.new.backs; orders = c.args.routes.now.orders }) (entries c.args.join.now.schemes c.in-Some.cert.now)
    (ap (entries c.args.join.now.schemes) (c.in-Some.ensures.lookup.3.1 [] ∙ ap (λ (j : JoinData). get_or j.certs c.args.owner []) c.join.view_is))
    (subst (λ (p : PathView). HaveRoutes (asker p) (length p.cert) c.args.input c.add_routes.new.routes) c.path-path.ensures c.in_ok-add_routes-in-Some.ensures.routes)
    (subst (λ (p : PathView). HaveBacks (asker p) (length p.cert) c.args.input c.add_backs.new.backs) c.path-path.ensures c.in_ok-add_backs-in-Some.ensures.backs)
    c.in_ok-add_routes-in-Some.ensures.keeps c.in_ok-add_backs-in-Some.ensures.keeps
    (subst (λ (p : PathView). RoutesFit p.row_states c.args.routes.now.recheck → RoutesFit p.row_states c.add_routes.new.routes) c.path-path.ensures c.in_ok-add_routes-in-Some.ensures.fit)
    (subst (λ (p : PathView). BacksFit p.row_states c.args.routes.now.back → BacksFit p.row_states c.add_backs.new.backs) c.path-path.ensures c.in_ok-add_backs-in-Some.ensures.fit)
