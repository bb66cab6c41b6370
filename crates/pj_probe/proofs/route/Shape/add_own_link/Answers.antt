use Rattle.std.proofs.Common.{◌==◌, ◌∙◌, ap, sym}
use Rattle.std.specs.List.{list_any}
use Rattle.pj_state.specs.States.{StateView}
use Rattle.pj_probe.proofs.Routed.{own_link_more}
use Rattle.pj_probe.proofs.route.Shape.add_own_link.Goals as goal

pub returns-in_ok-push-in-Some : goal.returns-in_ok-push-in-Some
returns-in_ok-push-in-Some c =
    own_link_more c.args.self.now.classes.now c.args.self.now.row_states.now c.index-self-other.result c.args.self.now.own c.saturating_sub-other.result c.args.class.now c.in-Some.link c.args.links.now c.push.new.self c.is_indexed.result c.requires.before c.requires.two c.requires.class
    c.saturating_sub-other.ensures c.in-Some.ensures c.index-self-other.is c.if-is_indexed.true
    (c.is_indexed.ensures ∙ ap (λ (s : StateView). list_any (λ own. c.in-Some.link.index_column == own) s.columns) (sym c.index-self-other.is)) c.in_ok-push-in-Some.ensures.ok
