use Rattle.std.proofs.Common.{◌==◌, ◌∙◌, ap, sym}
use Rattle.std.specs.List.{list_any}
use Rattle.pj_state.specs.States.{StateView}
use Rattle.pj_probe.proofs.Routed.{link_leads}
use Rattle.pj_probe.proofs.route.Shape.indexed_link.Goals as goal

pub returns-then-is_indexed-clause-leads : goal.returns-then-is_indexed-clause-leads
returns-then-is_indexed-clause-leads c =
    link_leads c.args.self.now.row_states.now c.index-self-input.result c.args.self.now.own c.args.steps.now c.args.input c.in-Some.link c.is_indexed.result c.requires c.index-self-input.is c.in-Some.ensures.from c.if-is_indexed.true (c.is_indexed.ensures ∙ ap (λ (s : StateView). list_any (λ own. c.in-Some.link.index_column == own) s.columns) (sym c.index-self-input.is))
