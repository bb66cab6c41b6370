use Rattle.std.proofs.Common.{ℕ, List, ◌++◌, ap, ◌∙◌}
use Rattle.std.specs.Prelude.{codes}
use Rattle.pj_cert.specs.Verdicts.{head_text, missing_text, name_of}
use Rattle.pj_cert.proofs.Appended.{two_parts}
use Rattle.pj_cert.proofs.verdicts.append_unreached.Goals as goal

pub returns : goal.returns
returns c =
    two_parts c.args.text.now c.append_head.new.text c.append_missing.new.text
    (head_text (codes "# unsafe join ") c.args.join.now (name_of c.args.names.now c.args.input)) (missing_text (name_of c.args.names.now c.args.missing))
    (c.in_ok-append_head.ensures ∙ ap (λ (name : List ℕ). c.args.text.now ++ head_text (codes "# unsafe join ") c.args.join.now name) c.name_of.ensures)
    (c.in_ok-append_missing.ensures ∙ ap (λ (name : List ℕ). c.append_head.new.text ++ missing_text name) c.name_of-2.ensures)
