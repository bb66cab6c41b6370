use Rattle.std.proofs.Common.{◌∙◌, ap, ap₂}
use Rattle.clap.specs.Words.{App, with_subcommand}
use Rattle.pj_words.proofs.commands.pj_command.Goals as goal

pub returns : goal.returns
returns c =
    let a1 = c.in_ok-command.ensures.shape c.in_ok-run_command.ensures.local
    ∙ ap₂ with_subcommand c.bare_command.ensures.app (ap (λ (a : App). a.top) c.in_ok-run_command.ensures.app) in
    let a2 = c.in_ok-command-2.ensures.shape c.in_ok-replay_command.ensures.local
    ∙ ap₂ with_subcommand a1 (ap (λ (a : App). a.top) c.in_ok-replay_command.ensures.app) in
    let a3 = c.in_ok-command-3.ensures.shape c.in_ok-check_command.ensures.local
    ∙ ap₂ with_subcommand a2 (ap (λ (a : App). a.top) c.in_ok-check_command.ensures.app) in
    c.in_ok-subcommand.ensures.shape c.in_ok-make_command.ensures.local
    ∙ ap₂ with_subcommand a3 (ap (λ (a : App). a.top) c.in_ok-make_command.ensures.app)
