use Rattle.std.proofs.Common.{◌≡◌, ap, arith, length, subst, sym, ◌∙◌}
use Rattle.std.proofs.lemmas.List.{length-map}
use Rattle.pj_events.specs.Join.{JoinData, inputs}
use Rattle.pj_recheck.specs.Recheck.{AreRoutes}
use Rattle.pj_recheck.proofs.Compiled.{routes_more}
use Rattle.pj_recheck.proofs.compiling.routes_of.Goals as goal

pub loop-input-preserved : goal.loop-input-preserved
loop-input-preserved c =
    routes_more c.args.join.now c.args.row_states.now c.loop-input.input c.len-count.result c.loop-input.routes.items c.push.new.self.items c.in_ok-routes_from.field-0 c.in_ok-push.ensures.items
    (c.len-count.ensures ∙ sym (length-map c.join.inside.spec.now.inputs (λ schema. length schema)) ∙ ap (λ (j : JoinData). inputs j) c.join.view_is)
    c.in_ok-routes_from.ensures c.loop-input.invariant

pub returns : goal.returns
returns c =
    let whole : c.len-count.result ≡ inputs c.args.join.now = c.len-count.ensures ∙ sym (length-map c.join.inside.spec.now.inputs (λ schema. length schema)) ∙ ap (λ (j : JoinData). inputs j) c.join.view_is in
    let end : c.loop-input.input ≡ inputs c.args.join.now = omega (arith, whole, c.loop-input-test.false, c.loop-input.auto.input-end) in
    subst (λ n. AreRoutes c.args.join.now c.args.row_states.now n c.loop-input.routes.items) end c.loop-input.invariant
