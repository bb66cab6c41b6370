use Rattle.std.proofs.Common.{◌∙◌, ap, sym, subst, Some, option_map}
use Rattle.std.proofs.lemmas.Result.{IfOk-weaker}
use Rattle.clap.specs.Words.{found_of, rows_of, subcommand_rows_of}
use Rattle.pj_words.specs.Matches.{IsFound, found_by}
use Rattle.pj_words.proofs.Answered.{no_rows, rows_here}
use Rattle.pj_words.proofs.matches.request_for.Goals as goal

pub request_read-requires : goal.request_read-requires
request_read-requires c =
    let same = rows_here (subcommand_rows_of c.in_ok-matches.matches) (rows_of (found_of c.in-Some.found.now))
    (ap (option_map (λ p. rows_of (found_of p.1.now))) (sym c.in-Some.is) ∙ c.subcommand.ensures.rows) in
    subst (IsFound c.args.command) same c.in_ok-matches.ensures.found

pub returns-in-Some : goal.returns-in-Some
returns-in-Some c =
    let same = rows_here (subcommand_rows_of c.in_ok-matches.matches) (rows_of (found_of c.in-Some.found.now))
    (ap (option_map (λ p. rows_of (found_of p.1.now))) (sym c.in-Some.is) ∙ c.subcommand.ensures.rows) in
    IfOk-weaker c.request_read.result _ _ (λ r h. c.in_ok-matches.ensures.value ∙ ap (λ r. Some r) (ap (found_by c.args.command) same ∙ sym h)) c.request_read.ensures

pub prove-unreachable-requires : goal.prove-unreachable-requires
prove-unreachable-requires c = no_rows (subcommand_rows_of c.in_ok-matches.matches)
    (ap (option_map (λ p. rows_of (found_of p.1.now))) (sym c.in-None.is) ∙ c.subcommand.ensures.rows) c.in_ok-matches.ensures.some
