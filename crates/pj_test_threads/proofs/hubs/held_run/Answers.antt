use Rattle.std.proofs.Common.{ap, slice_get, sym, ◌∙◌}
use Rattle.pj_test_threads.proofs.hubs.held_run.Goals as goal

pub held-requires-clause-names : goal.held-requires-clause-names
held-requires-clause-names g c κs within =
    let are = sym c.into_vec.ensures ∙ c.in_ok-one.ensures in
    let new = c.in_ok-hub.ensures.seats.2 in (
      (new 0 c.in_ok-one.one (ap (λ seats. slice_get seats 0) are)).name,
      (new 1 c.in_ok-one.other (ap (λ seats. slice_get seats 1) are)).name,
      (new 2 c.in_ok-one.third (ap (λ seats. slice_get seats 2) are)).name,
    )

pub held-requires-clause-numbers : goal.held-requires-clause-numbers
held-requires-clause-numbers g c κs within =
    let are = sym c.into_vec.ensures ∙ c.in_ok-one.ensures in
    let new = c.in_ok-hub.ensures.seats.2 in (
      (new 0 c.in_ok-one.one (ap (λ seats. slice_get seats 0) are)).number,
      (new 1 c.in_ok-one.other (ap (λ seats. slice_get seats 1) are)).number,
    )

pub held-requires-clause-seen : goal.held-requires-clause-seen
held-requires-clause-seen g c κs within =
    let are = sym c.into_vec.ensures ∙ c.in_ok-one.ensures in
    let new = c.in_ok-hub.ensures.seats.2 in (
      (new 0 c.in_ok-one.one (ap (λ seats. slice_get seats 0) are)).seen,
      (new 1 c.in_ok-one.other (ap (λ seats. slice_get seats 1) are)).seen,
    )
