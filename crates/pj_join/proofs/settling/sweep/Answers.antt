use Rattle.std.proofs.Common.{ℕ, List, subst}
use Rattle.pj_events.specs.Join.{In}
use Rattle.pj_join.proofs.settling.sweep.Goals as goal

pub returns-clause-freed : goal.returns-clause-freed
returns-clause-freed c = λ q h. subst (λ (ns : List ℕ). In q.0 ns) c.as_slice-2.ensures (c.in_ok-waiting.ensures.freed q h)
