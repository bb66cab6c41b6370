use Rattle.std.proofs.Common.{◌≡◌, ◌∙◌, ap, not, rules}
use Rattle.std.proofs.lemmas.Fn.{always_returns_same}
use Rattle.pj_intervals.specs.declared.steps.Step.{Step}
use Rattle.pj_intervals.specs.Steps.{is_reached}
use Rattle.pj_intervals.proofs.StepSearch.{found_none, found_some, parted_by}
use Rattle.pj_intervals.proofs.steps.place_at.Goals as goal

pub returns-in-None : goal.returns-in-None
returns-in-None c sorted =
    let v = c.args.value.now in
    let point = c.partition_point-above.ensures.partitioned (λ s. not (is_reached s.from v)) (always_returns_same _ (λ a r. r ≡ not (is_reached a.0.now.from v)) _ (λ a r f' k. search rules)) (parted_by v c.args.steps.now (sorted v)) in
    found_none v c.args.steps.now c.partition_point-above.result c.in-None.ensures.lookup.3 c.partition_point-above.ensures.bound point

pub returns-in-Some : goal.returns-in-Some
returns-in-Some c sorted =
    let v = c.args.value.now in
    let point = c.partition_point-above.ensures.partitioned (λ s. not (is_reached s.from v)) (always_returns_same _ (λ a r. r ≡ not (is_reached a.0.now.from v)) _ (λ a r f' k. search rules)) (parted_by v c.args.steps.now (sorted v)) in
    ap (λ (s : Step). s.place) c.in-Some.ensures.lookup.1 ∙ found_some v c.args.steps.now c.partition_point-above.result c.in-Some.step.now c.in-Some.ensures.lookup.3.0 point
