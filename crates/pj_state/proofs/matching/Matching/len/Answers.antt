use Rattle.std.proofs.Common.{List, subst}
use Rattle.pj_state.specs.declared.shared.Stored.{Stored}
use Rattle.pj_state.specs.Rising.{IsRising}
use Rattle.pj_state.specs.States.{has_value, ticket_of}
use Rattle.pj_state.proofs.Rising.{rising-filter}
use Rattle.pj_state.proofs.matching.Matching.len.Goals as goal

pub returns-clause-rising : goal.returns-clause-rising
returns-clause-rising c =
    subst (λ (rows : List Stored). IsRising ticket_of rows) c.self.view_is
    (rising-filter ticket_of (has_value c.self.inside.column c.self.inside.value.now) c.self.inside.store.now c.self.invariant.1)
