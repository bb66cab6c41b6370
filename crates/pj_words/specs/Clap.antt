-- The command of clap, as a parse reads it.
use Rattle.std.specs.Prelude.{Some, true, codes}
use Rattle.clap.specs.Lexer.{usize_max}
use Rattle.clap.specs.Words.{App, Rule, Text, new_app, new_rule, with_rule, with_subcommand}
use Rattle.clap.specs.declared.builder.ArgAction.TheVariants.{Set, SetTrue}

-- an operand, one word
abbrev pub operand_rule : Text → Rule
operand_rule id = record (new_rule id) { action = Some Set; required = true }

-- the FILE operands, one or more words in a row
abbrev pub files_rule : Rule
files_rule = record (operand_rule (codes "files")) { range = Some (record { start_inclusive = 1; end_inclusive = usize_max }) }

-- `--name`
abbrev pub flag_rule : Text → Rule
flag_rule id = record (new_rule id) { long = Some id; action = Some SetTrue }

-- `--name N`
abbrev pub number_rule : Text → Rule
number_rule id = record (new_rule id) { long = Some id; action = Some Set }

abbrev pub run_app : App
run_app = with_rule (with_rule (with_rule (with_rule (with_rule (with_rule (with_rule (new_app (codes "run"))
    (operand_rule (codes "plan"))) files_rule) (number_rule (codes "workers"))) (flag_rule (codes "sorted")))
    (flag_rule (codes "trace"))) (flag_rule (codes "check"))) (number_rule (codes "limit"))

abbrev pub replay_app : App
replay_app = with_rule (with_rule (with_rule (with_rule (with_rule (new_app (codes "replay"))
    (operand_rule (codes "plan"))) (operand_rule (codes "script"))) files_rule) (flag_rule (codes "trace")))
    (number_rule (codes "limit"))

abbrev pub check_app : App
check_app = with_rule (with_rule (new_app (codes "check")) (operand_rule (codes "plan"))) (flag_rule (codes "print"))

abbrev pub make_app : App
make_app = with_rule (with_rule (new_app (codes "make")) (operand_rule (codes "seed"))) (operand_rule (codes "count"))

abbrev pub bare_app : App
bare_app = record (new_app (codes "pj")) {
  top = record (new_app (codes "pj")).top {
    no_binary_name = true;
    disable_help_flag = true;
    disable_help_subcommand = true;
    disable_version_flag = true;
    subcommand_required = true;
  };
}

-- the whole command
abbrev pub pj_app : App
pj_app = with_subcommand (with_subcommand (with_subcommand (with_subcommand bare_app run_app.top) replay_app.top)
    check_app.top) make_app.top
