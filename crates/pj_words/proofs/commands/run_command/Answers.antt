use Rattle.std.proofs.Common.{◌∙◌, ap₂}
use Rattle.clap.specs.Words.{with_rule}
use Rattle.pj_words.proofs.commands.run_command.Goals as goal

pub returns-clause-app : goal.returns-clause-app
returns-clause-app c =
    let a1 = c.in_ok-command.ensures.shape c.operand.ensures.local ∙ ap₂ with_rule c.new.ensures.app c.operand.ensures.rule in
    let a2 = c.in_ok-arg.ensures.shape c.files.ensures.local ∙ ap₂ with_rule a1 c.files.ensures.rule in
    let a3 = c.in_ok-command-2.ensures.shape c.number.ensures.local ∙ ap₂ with_rule a2 c.number.ensures.rule in
    let a4 = c.in_ok-arg-2.ensures.shape c.flag.ensures.local ∙ ap₂ with_rule a3 c.flag.ensures.rule in
    let a5 = c.in_ok-command-3.ensures.shape c.flag-2.ensures.local ∙ ap₂ with_rule a4 c.flag-2.ensures.rule in
    let a6 = c.in_ok-arg-3.ensures.shape c.flag-3.ensures.local ∙ ap₂ with_rule a5 c.flag-3.ensures.rule in
    c.in_ok-arg-4.ensures.shape c.number-2.ensures.local ∙ ap₂ with_rule a6 c.number-2.ensures.rule
