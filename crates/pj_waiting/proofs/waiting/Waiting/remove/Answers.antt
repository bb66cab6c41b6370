use Rattle.std.proofs.Common.{◌∙◌, ap, sym}
use Rattle.std.specs.BTreeMap.{is_at}
use Rattle.std.specs.Map.{lookup}
use Rattle.std.specs.Ordering.{nat_cmp}
use Rattle.pj_waiting.specs.Holding.{WaitingView, waiting_in}
use Rattle.pj_waiting.specs.Leaving.{puncts_but}
use Rattle.pj_waiting.proofs.Listed.{took_out}
use Rattle.pj_waiting.proofs.waiting.Waiting.remove.Goals as goal

pub returns-clause-puncts : goal.returns-clause-puncts
returns-clause-puncts c =
    ap waiting_in c.remove.ensures.entries
    ∙ took_out c.args.ticket c.self.inside.puncts.entries (ap (lookup (is_at (nat_cmp c.args.ticket))) (sym c.remove.ensures.entries) ∙ c.remove.ensures.updates.1)
    ∙ ap (λ (w : WaitingView). puncts_but c.args.ticket w.puncts) c.self.view_is
