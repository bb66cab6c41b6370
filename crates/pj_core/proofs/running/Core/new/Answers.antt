use Rattle.std.proofs.Common.{List, ap, map, reverse, true, ◌∙◌}
use Rattle.pj_shape.specs.declared.joins.CertStep.{CertStep}
use Rattle.pj_core.specs.Fresh.{fresh_operator}
use Rattle.pj_core.specs.Parts.{frames_of}
use Rattle.pj_core.specs.Plans.{run_plan}
use Rattle.pj_core.proofs.Makes.{is-fresh-now, made-fresh}
use Rattle.pj_core.proofs.running.Core.new.Goals as goal

pub invariant_of-result : goal.invariant_of-result
invariant_of-result c = made-fresh (run_plan c.args.plan.nodes c.args.certs c.args.trace) c.args.limit c.in_ok-operators.operators.items c.in_ok-operators.ensures.sound c.requires.certified c.requires.limit.1
    (c.in_ok-operators.ensures.made ∙ ap (λ (certs : List (List (List CertStep))). map fresh_operator (frames_of (run_plan c.args.plan.nodes certs true) c.args.limit)) c.as_slice.ensures)

pub returns : goal.returns
returns c =
    is-fresh-now (run_plan c.args.plan.nodes c.args.certs c.args.trace) c.args.limit c.in_ok-operators.operators.items (reverse c.new.result) c.new-2.result
    (made-fresh (run_plan c.args.plan.nodes c.args.certs c.args.trace) c.args.limit c.in_ok-operators.operators.items c.in_ok-operators.ensures.sound c.requires.certified c.requires.limit.1 (c.in_ok-operators.ensures.made ∙ ap (λ (certs : List (List (List CertStep))). map fresh_operator (frames_of (run_plan c.args.plan.nodes certs true) c.args.limit)) c.as_slice.ensures))
    (c.in_ok-operators.ensures.made ∙ ap (λ (certs : List (List (List CertStep))). map fresh_operator (frames_of (run_plan c.args.plan.nodes certs true) c.args.limit)) c.as_slice.ensures) (ap reverse c.new.ensures) c.new-2.ensures
