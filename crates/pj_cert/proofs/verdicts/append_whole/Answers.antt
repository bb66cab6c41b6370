use Rattle.std.proofs.Common.{ℕ, List, ◌++◌, ap, ◌∙◌}
use Rattle.std.specs.Prelude.{codes}
use Rattle.pj_cert.specs.Verdicts.{head_text, name_of, steps_text}
use Rattle.pj_cert.proofs.Appended.{three_parts}
use Rattle.pj_cert.proofs.verdicts.append_whole.Goals as goal

pub returns : goal.returns
returns c =
    three_parts c.args.text.now c.append_head.new.text c.append_steps.new.text c.append.new.self
    (head_text (codes "# safe join ") c.args.join.now (name_of c.args.names.now c.args.input)) (steps_text c.args.schemes.now c.args.names.now c.args.cert.now) (codes "\n")
    (c.in_ok-append_head.ensures ∙ ap (λ (name : List ℕ). c.args.text.now ++ head_text (codes "# safe join ") c.args.join.now name) c.name_of.ensures)
    c.in_ok-append_steps.ensures c.in_ok-append.ensures.ok
